use Rattle.std.proofs.Common.{List, [], slice_index_or, pos, ◌∷◌, ◌++◌, take, ap, sym, ◌∙◌}
use Rattle.std.proofs.lemmas.List.{take_more}
use Rattle.std.proofs.lemmas.Option.{get_or_from_slice_get}
use Rattle.ring_survey.specs.Polygons.{Position}
use Rattle.border_check.proofs.districts.ring_of.Goals as goal

pub loop-i-preserved : goal.loop-i-preserved
loop-i-preserved c =
    let ring = slice_index_or (slice_index_or c.args.district.now c.args.polygon []) c.args.ring [] in
    let inside = rw c.position_count-i-end.ensures at c.loop-i-test.true in
    let here = get_or_from_slice_get ring c.loop-i.i c.position.result (pos 0, pos 0) c.position.ensures in
    c.in_ok-push.ensures.items
    ∙ ap (λ (ps : List Position). ps ++ (c.position.result ∷ [])) c.loop-i.invariant
    ∙ ap (λ (p : Position). take c.loop-i.i ring ++ (p ∷ [])) (sym here)
    ∙ sym (take_more ring c.loop-i.i (pos 0, pos 0) inside)
