use Rattle.std.proofs.Common.{◌≡◌, ◌≤◌, ◌+◌, ◌*◌, ℕ, ◌∙◌, refl, sym, ap, arith}
use Rattle.fixed_interval.specs.Grid.{Ends, DEPTH, grid_product, grid_divide_by}
use Rattle.trig_series.specs.Magnitudes.{ends_of}
use Rattle.trig_series.specs.Series.{grid_term}
use Rattle.trig_series.specs.Short.{ends_of as short_ends}
use Rattle.trig_series.proofs.SeriesSteps.{series_end}
use Rattle.trig_series.proofs.alternating.series.Goals as goal

pub loop-pair-init : goal.loop-pair-init
loop-pair-init c = c.none_added-sum.ensures c.args.power (ends_of c.args.square)

pub returns-then-is_level-clause-value : goal.returns-then-is_level-clause-value
returns-then-is_level-clause-value c =
    let power = c.args.power in
    let first = ends_of c.args.first in
    let square = ends_of c.args.square in
    let sum = c.loop-pair.sum in
    let level = c.if-is_level.ensures {u = tt} refl in
    let next = c.with_level_pair.ensures.next in
    let still : (n : ℕ) → 1 ≤ n → grid_divide_by (grid_product (ends_of c.with_level_pair.result.next) square) n ≡ ends_of c.with_level_pair.result.next = λ n h. ap (λ (x : Ends). grid_divide_by (grid_product x square) n) next ∙ level n h ∙ sym next in
    let ten = c.with_level_pair.ensures.value power (2 * c.loop-pair.pair) first square level c.loop-pair.invariant in
    let twelve = c.with_level_pair-then-is_level.ensures.value power (2 * c.loop-pair.pair + 2) first square still ten in
    let last = c.with_level_pair-then-is_level.result in
    c.with_margin.ensures.value ∙ series_end (grid_term power first square) (2 * c.loop-pair.pair + 2 + 2) DEPTH (short_ends last.total) (ends_of last.next) (omega arith) twelve.total twelve.next

pub returns-clause-value : goal.returns-clause-value
returns-clause-value c =
    let terms = grid_term c.args.power (ends_of c.args.first) (ends_of c.args.square) in
    let sum = c.loop-pair-2.sum in
    c.with_margin-2.ensures.value ∙ series_end terms (2 * c.loop-pair-2.pair) DEPTH (short_ends sum.total) (ends_of sum.next) (omega arith) c.loop-pair-2.invariant.total c.loop-pair-2.invariant.next
