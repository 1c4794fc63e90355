use Rattle.std.proofs.Common.{◌∙◌, ◌≡◌, ap, sym, arith, List, ℕ, [], ◌∷◌, inl, inr}
use Rattle.ical_text.specs.Held.{reading_of}
use Rattle.ical_text.specs.Lines.{joined_from, pieces}
use Rattle.ical_text.proofs.LineLemmas.{joined_first, last_line}
use Rattle.ical_text.proofs.ReadingLemmas.{empty_is, if_err, on_ok}
use Rattle.ical_text.proofs.reader.read_lines.Goals as goal

pub loop-rest-init : goal.loop-rest-init
loop-rest-init c = record {
  reading = ap (reading_of c.args.reader.now) (joined_first c.args.bytes.now c.in_ok-line.line.items _ (c.first_piece.ensures.pieces ∙ ap (λ xs. xs ∷ pieces c.first_piece.result.1.now) (sym c.in_ok-line.ensures.items)));
  short = omega arith;
}

pub loop-rest-preserved : goal.loop-rest-preserved
loop-rest-preserved c = record {
  reading = c.loop-rest.invariant.reading ∙ (ap (λ xs. reading_of c.loop-rest.reader (joined_from c.loop-rest.line.items xs)) c.first_piece-in-loop-rest.ensures.pieces ∙ c.in_default.ensures.ok (pieces c.first_piece-in-loop-rest.result.1.now));
  short = omega (arith, c.loop-rest.invariant.short, c.in_default.ensures.lines);
}

pub returns-clause-ok : goal.returns-clause-ok
returns-clause-ok c =
    let empty : c.loop-rest.rest.now ≡ [] = empty_is c.loop-rest.rest.now c.is_empty.result c.is_empty.ensures c.loop-rest-test.false in
    let last = ap (reading_of c.loop-rest.reader) (last_line c.loop-rest.line.items c.loop-rest.rest.now empty) in
    let line = ap (λ (xs : List ℕ). reading_of c.loop-rest.reader (xs ∷ [])) (sym c.as_slice.ensures.value) in
    on_ok c.take_line.result (λ taken. c.loop-rest.invariant.reading ∙ (last ∙ (line ∙ taken []))) c.take_line.ensures.ok

pub returns-clause-err : goal.returns-clause-err
returns-clause-err c =
    let empty : c.loop-rest.rest.now ≡ [] = empty_is c.loop-rest.rest.now c.is_empty.result c.is_empty.ensures c.loop-rest-test.false in
    let last = ap (reading_of c.loop-rest.reader) (last_line c.loop-rest.line.items c.loop-rest.rest.now empty) in
    let line = ap (λ (xs : List ℕ). reading_of c.loop-rest.reader (xs ∷ [])) (sym c.as_slice.ensures.value) in
    if_err c.take_line.result (λ fault h. elim h [ inl memory ↦ inl memory | inr refused ↦ inr (c.loop-rest.invariant.reading ∙ (last ∙ (line ∙ refused []))) ]) c.take_line.ensures.err
