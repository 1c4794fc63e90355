use Rattle.std.proofs.Common.{◌∙◌, ◌≡◌, ap, sym, ◌++◌, ◌∷◌, List, ℕ, inl, inr}
use Rattle.ical_text.specs.Held.{reading_of}
use Rattle.ical_text.specs.Lines.{joined_from}
use Rattle.ical_text.proofs.LineLemmas.{joined_new, joined_on}
use Rattle.ical_text.proofs.reader.take_piece.Goals as goal

pub returns-then-is_continued-clause-ok : goal.returns-then-is_continued-clause-ok
returns-then-is_continued-clause-ok c = λ more.
    ap (reading_of c.args.reader.now) (joined_on c.args.line.now.items c.args.piece.now c.split_at.result.1.now more (sym c.is_continued.ensures.value ∙ c.if-is_continued.true) c.split_at.ensures.back)
    ∙ ap (λ xs. reading_of c.args.reader.now (joined_from xs more)) (sym c.in_ok-extend_from_slice.ensures.items)

pub returns-in-Err-clause-err : goal.returns-in-Err-clause-err
returns-in-Err-clause-err c =
    let line = c.args.line.now.items in
    let piece = c.args.piece.now in
    elim c.in-Err.ensures.err [
      | inl memory ↦ inl memory
      | inr refused ↦
          inr (λ more.
          ap (reading_of c.args.reader.now) (joined_new line piece more (sym c.is_continued.ensures.value ∙ c.if-is_continued.false))
          ∙ (ap (λ (xs : List ℕ). reading_of c.args.reader.now (xs ∷ joined_from piece more)) (sym c.as_slice.ensures.value) ∙ refused (joined_from piece more)))
    ]

pub returns-clause-ok : goal.returns-clause-ok
returns-clause-ok c = λ more.
    let line = c.args.line.now.items in
    let piece = c.args.piece.now in
    let text : c.extend_from_slice-2.new.self.items ≡ piece = c.in_ok-extend_from_slice-2.ensures.items ∙ ap (λ xs. xs ++ piece) c.clear.ensures.items in
    ap (reading_of c.args.reader.now) (joined_new line piece more (sym c.is_continued.ensures.value ∙ c.if-is_continued.false))
    ∙ (ap (λ (xs : List ℕ). reading_of c.args.reader.now (xs ∷ joined_from piece more)) (sym c.as_slice.ensures.value)
    ∙ (c.in_default.ensures.ok (joined_from piece more) ∙ ap (λ xs. reading_of c.take_line.new.self (joined_from xs more)) (sym text)))
