use Rattle.std.proofs.Common.{◌+◌, ◌<◌, ◌∙◌, ℕ, List, arith, inl, inr, refl, subst, sym, set}
use Rattle.std.proofs.lemmas.List.{length-set}
use Rattle.order_table.specs.Made.{day_of}
use Rattle.shown_table.proofs.ShowingLemmas.{IsDaySoFar, columns_are_bad, columns_are_whole, day_begins, day_goes_on}
use Rattle.shown_table.proofs.day.column_entries.Goals as goal

pub loop-k-init : goal.loop-k-init
loop-k-init c =
    let sky = c.args.sky.now in
    record {
      number = omega arith;
      seven = refl;
      so_far = day_begins sky.sun sky.district sky.root (day_of c.args.day.now) c.args.lines.now.number c.args.lines.now.text.now _;
    }

pub returns-in-Err-clause-shows : goal.returns-in-Err-clause-shows
returns-in-Err-clause-shows c =
    let sky = c.args.sky.now in
    let known : c.loop-k.k < 7 = omega arith in
    elim c.in-Err.ensures.shows.1 [
      | inl memory ↦ inl memory
      | inr is ↦
          inr (columns_are_bad sky.sun sky.district sky.root (day_of c.args.day.now) c.args.lines.now.number c.args.lines.now.text.now c.loop-k.entries c.loop-k.k
          c.loop-k.lines.number c.loop-k.lines.text.now c.in-Err.bad known c.loop-k.invariant.so_far c.in-Err.ensures.shows.0 is)
    ]

pub loop-k-preserved : goal.loop-k-preserved
loop-k-preserved c =
    let sky = c.args.sky.now in
    let k = c.loop-k.k in
    let seven = c.loop-k.invariant.seven in
    let known : k < 7 = omega arith in
    let entry = c.in-Ok-next_entry.entry in
    let here = c.in-Ok-next_entry.ensures in
    let P = λ (n : ℕ) (t : List ℕ). IsDaySoFar sky.sun sky.district sky.root (day_of c.args.day.now) c.args.lines.now.number c.args.lines.now.text.now
    (set c.loop-k.entries k entry) (k + 1) n t in
    record {
      number = omega (arith, here.number, c.loop-k.invariant.number);
      seven = length-set c.loop-k.entries k entry ∙ seven;
      so_far = subst (λ (n : ℕ). P n c.next_entry.new.self.text.now) (sym here.number)
          (subst (λ (t : List ℕ). P (c.loop-k.lines.number + 1) t) (sym here.text)
          (day_goes_on sky.sun sky.district sky.root (day_of c.args.day.now) c.args.lines.now.number c.args.lines.now.text.now c.loop-k.entries k
          c.loop-k.lines.number c.loop-k.lines.text.now entry known (omega (arith, known, seven)) c.loop-k.invariant.so_far here.shows));
    }

pub returns-clause-shows : goal.returns-clause-shows
returns-clause-shows c =
    let sky = c.args.sky.now in
    columns_are_whole sky.sun sky.district sky.root (day_of c.args.day.now) c.args.lines.now.number c.args.lines.now.text.now c.loop-k.entries c.loop-k.k
    c.loop-k.lines.number c.loop-k.lines.text.now (omega arith) c.loop-k.invariant.seven c.loop-k.invariant.so_far
