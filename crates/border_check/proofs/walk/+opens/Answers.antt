use Rattle.std.proofs.Common.{true, false, refl, sym, ◌∙◌}
use Rattle.std.specs.Option.{option_or}
use Rattle.border_check.specs.Squares.{quarter}
use Rattle.border_check.proofs.Opening.{open_settled, open_smallest, open_quarter, in_turn, found_first, found_later}
use Rattle.border_check.proofs.walk.+opens.Goals as goal

pub first_open-returns-then-settles : goal.first_open-returns-then-settles
first_open-returns-then-settles t c =
    sym (open_settled c.args.border.now c.args.district.now c.args.square (sym c.if-settles.ensures))

pub first_open-returns-then-square-eq0 : goal.first_open-returns-then-square-eq0
first_open-returns-then-square-eq0 t c =
    sym (open_smallest c.args.border.now c.args.district.now c.args.square (sym c.if-settles.ensures) c.if-square-eq0.true)

pub first_open_below-returns-then-is_some : goal.first_open_below-returns-then-is_some
first_open_below-returns-then-is_some t c =
    let s = c.args.square in
    let ask = open_quarter c.args.border.now c.args.district.now s in
    let a = c.in_ok-south_west.south_west in
    found_first a (option_or (ask (quarter s true false)) (option_or (ask (quarter s false true)) (ask (quarter s true true)))) (sym c.if-is_some.ensures)
    ∙ in_turn c.args.border.now c.args.district.now s a (ask (quarter s true false)) (ask (quarter s false true)) (ask (quarter s true true))
    c.requires.unsettled c.requires.large c.in_ok-south_west.ensures refl refl refl

pub first_open_below-returns-then-is_some-2 : goal.first_open_below-returns-then-is_some-2
first_open_below-returns-then-is_some-2 t c =
    let s = c.args.square in
    let ask = open_quarter c.args.border.now c.args.district.now s in
    let a = c.in_ok-south_west.south_west in
    let b = c.in_ok-south_east.south_east in
    let more = option_or (ask (quarter s false true)) (ask (quarter s true true)) in
    found_first b more (sym c.if-is_some-2.ensures)
    ∙ found_later a (option_or b more) (sym c.if-is_some.ensures)
    ∙ in_turn c.args.border.now c.args.district.now s a b (ask (quarter s false true)) (ask (quarter s true true))
    c.requires.unsettled c.requires.large c.in_ok-south_west.ensures c.in_ok-south_east.ensures refl refl

pub first_open_below-returns-then-is_some-3 : goal.first_open_below-returns-then-is_some-3
first_open_below-returns-then-is_some-3 t c =
    let s = c.args.square in
    let ask = open_quarter c.args.border.now c.args.district.now s in
    let a = c.in_ok-south_west.south_west in
    let b = c.in_ok-south_east.south_east in
    let d = c.in_ok-north_west.north_west in
    found_first d (ask (quarter s true true)) (sym c.if-is_some-3.ensures)
    ∙ found_later b (option_or d (ask (quarter s true true))) (sym c.if-is_some-2.ensures)
    ∙ found_later a (option_or b (option_or d (ask (quarter s true true)))) (sym c.if-is_some.ensures)
    ∙ in_turn c.args.border.now c.args.district.now s a b d (ask (quarter s true true))
    c.requires.unsettled c.requires.large c.in_ok-south_west.ensures c.in_ok-south_east.ensures c.in_ok-north_west.ensures refl

pub first_open_below-returns : goal.first_open_below-returns
first_open_below-returns t c =
    let a = c.in_ok-south_west.south_west in
    let b = c.in_ok-south_east.south_east in
    let d = c.in_ok-north_west.north_west in
    let e = c.in_ok-north_east.north_east in
    found_later d e (sym c.if-is_some-3.ensures)
    ∙ found_later b (option_or d e) (sym c.if-is_some-2.ensures)
    ∙ found_later a (option_or b (option_or d e)) (sym c.if-is_some.ensures)
    ∙ in_turn c.args.border.now c.args.district.now c.args.square a b d e
    c.requires.unsettled c.requires.large c.in_ok-south_west.ensures c.in_ok-south_east.ensures c.in_ok-north_west.ensures c.in_ok-north_east.ensures
