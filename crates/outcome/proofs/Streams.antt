-- Texts that are written in pieces.
use Rattle.std.proofs.Common.{◌≡◌, ℕ, zero, suc, ◌+◌, ◌≤◌, List, [], ◌∷◌, ◌++◌, length, take, Option, Ok, Err, Result, refl, sym, ap, ◌∙◌, arith, length-append, append-nil, subst}
use Rattle.std.specs.Prelude.{IsErrOf}
use Rattle.source_sink.specs.Outside.{Rose, Adds, AddsPart, AddsSome}
use Rattle.source_sink.proofs.Transfers.{adds_more}
use Rattle.outcome.specs.Writing.{Writes}
use Rattle.outcome.specs.declared.stop.Stop.{Stop}
use Rattle.outcome.specs.declared.stop.Stop.TheVariants.{NoMemory, WriteFault}

take_past : (x y : List ℕ) (n : ℕ) → take (length x + n) (x ++ y) ≡ x ++ take n y
take_past [] y n = let same : 0 + n ≡ n = omega arith in ap (λ (k : ℕ). take k y) same
take_past (a ∷ x) y n =
    let more : length (a ∷ x) + n ≡ suc (length x + n) = omega arith in
    ap (λ (k : ℕ). take k (a ∷ (x ++ y))) more ∙ ap (λ zs. a ∷ zs) (take_past x y n)

take_before : (y rest : List ℕ) (n : ℕ) → n ≤ length y → take n (y ++ rest) ≡ take n y
take_before y rest zero h = refl
take_before [] rest (suc n) h = absurd (omega (arith, h))
take_before (a ∷ y) rest (suc n) h = let less : n ≤ length y = omega (arith, h) in ap (λ zs. a ∷ zs) (take_before y rest n less)

-- what comes of y in front of more
front_of : (y rest : List ℕ) (n : ℕ) → (m : ℕ) × (take m (y ++ rest) ≡ take n y)
front_of y rest zero = (0, refl)
front_of [] rest (suc n) = (0, refl)
front_of (a ∷ y) rest (suc n) = let (m, front) = front_of y rest n in (suc m, ap (λ zs. a ∷ zs) front)

-- a stream on which nothing was written
pub adds_nothing : (held : Option (List ℕ)) → Adds held held []
adds_nothing held y told = (y, told, sym (append-nil y))

pub adds_some_of : (held : Option (List ℕ)) (text : List ℕ) → AddsSome held held text
adds_some_of held text = (0, adds_nothing held)

rose_later : (a b c : ℕ) → a ≤ b → Rose b c → Rose a c
rose_later a b c less rose = omega (arith, less, rose)

-- memory was not found before anything was written
pub dry : {X : Type 0} (text : List ℕ) (e : Stop) (out : ℕ) (held : Option (List ℕ)) → e ≡ NoMemory → Writes {X = X} text (Err e) out out held held
dry text e out held is_memory = record {
  whole = tt;
  part = λ is_write. absurd cc;
  some = λ is_it. adds_some_of held text;
  later = omega arith;
}

-- the one write of the text failed
pub cut : {X : Type 0} (text bytes : List ℕ) (e : Stop) (out out' : ℕ) (old new : Option (List ℕ)) → bytes ≡ text → e ≡ WriteFault →
    out ≤ out' → Rose out out' → AddsPart old new bytes → Writes {X = X} text (Err e) out out' old new
cut text bytes e out out' old new same is_write later rose part = record {
  whole = tt;
  part = λ is_it. (rose, subst (AddsPart old new) same part);
  some = λ is_memory. absurd cc;
  later = later;
}

-- the text was written
pub written : {X : Type 0} (text bytes : List ℕ) (x : X) (out out' : ℕ) (old new : Option (List ℕ)) → bytes ≡ text → out ≤ out' →
    Adds old new bytes → Writes {X = X} text (Ok x) out out' old new
written text bytes x out out' old new same later added = record {
  whole = subst (Adds old new) same added;
  part = λ is_it. absurd cc;
  some = λ is_it. absurd cc;
  later = later;
}

-- x was written, and then y was not written whole
pub stopped : {X Y : Type 0} (x y rest text : List ℕ) (e : Stop) (out out1 out2 : ℕ) (old mid new : Option (List ℕ)) →
    text ≡ x ++ (y ++ rest) → Adds old mid x → out ≤ out1 → Writes {X = X} y (Err e) out1 out2 mid new → Writes {X = Y} text (Err e) out out2 old new
stopped {X = X} {Y = Y} x y rest text e out out1 out2 old mid new is_text added less w =
    let later = w.later in
    record {
      whole = tt;
      part = λ is_write.
          let (rose, some) = w.part (again e WriteFault is_write) in
          let (n, short, part) = some in
          let at : n ≤ length y = omega (arith, short) in (
            rose_later out out1 out2 less rose,
            (
              length x + n,
              rw is_text (let long = length-append x (y ++ rest) in let longer = length-append y rest in omega (arith, short, long, longer)),
              rw is_text (adds_more old mid new x (take n y) (take (length x + n) (x ++ (y ++ rest))) added part
                  (take_past x (y ++ rest) n ∙ ap (λ zs. x ++ zs) (take_before y rest n at))),
            ),
          );
      some = λ is_memory.
          let (n, part) = w.some (again e NoMemory is_memory) in
          let (m, front) = front_of y rest n in (
            length x + m,
            rw is_text (adds_more old mid new x (take n y) (take (length x + m) (x ++ (y ++ rest))) added part
                (take_past x (y ++ rest) m ∙ ap (λ zs. x ++ zs) front)),
          );
      later = omega (arith, less, later);
    }
  where
    again : (d f : Stop) → IsErrOf {T = Y} (Err d) f → IsErrOf {T = X} (Err d) f
    again d f same = let it : d ≡ f = cc in ap Err it

-- the first piece of a text was not written whole
pub cut_first : {X : Type 0} (y rest text bytes : List ℕ) (e : Stop) (out out' : ℕ) (old new : Option (List ℕ)) → text ≡ y ++ rest → bytes ≡ y →
    e ≡ WriteFault → out ≤ out' → Rose out out' → AddsPart old new bytes → Writes {X = X} text (Err e) out out' old new
cut_first y rest text bytes e out out' old new is_text same is_write later rose part =
    stopped {X = ℕ} [] y rest text e out out out' old old new is_text (adds_nothing old) (omega arith)
    (cut y bytes e out out' old new same is_write later rose part)

-- x was written, and then memory was not found
pub dry_after : {X : Type 0} (x rest text : List ℕ) (e : Stop) (out out' : ℕ) (old new : Option (List ℕ)) → text ≡ x ++ rest → e ≡ NoMemory →
    out ≤ out' → Adds old new x → Writes {X = X} text (Err e) out out' old new
dry_after x rest text e out out' old new is_text is_memory later added =
    stopped {X = ℕ} x [] rest text e out out' out' old new new is_text added later (dry [] e out' new is_memory)

-- x was written, and then the next piece was not written whole
pub cut_after : {X : Type 0} (x y text bytes : List ℕ) (e : Stop) (out out1 out2 : ℕ) (old mid new : Option (List ℕ)) → text ≡ x ++ y → bytes ≡ y →
    e ≡ WriteFault → out ≤ out1 → out1 ≤ out2 → Rose out1 out2 → Adds old mid x → AddsPart mid new bytes → Writes {X = X} text (Err e) out out2 old new
cut_after x y text bytes e out out1 out2 old mid new is_text same is_write less later rose added part =
    stopped {X = ℕ} x y [] text e out out1 out2 old mid new (is_text ∙ ap (λ zs. x ++ zs) (sym (append-nil y))) added less
    (cut y bytes e out1 out2 mid new same is_write later rose part)

-- x was written, and then what came of y
pub then_writes : {X : Type 0} (x y text : List ℕ) (r : Result X Stop) (out out1 out2 : ℕ) (old mid new : Option (List ℕ)) → text ≡ x ++ y →
    Adds old mid x → out ≤ out1 → Writes {X = X} y r out1 out2 mid new → Writes {X = X} text r out out2 old new
then_writes x y text (Ok v) out out1 out2 old mid new is_text added less w =
    let later = w.later in
    record {
      whole = adds_more old mid new x y text added w.whole is_text;
      part = λ is_it. absurd cc;
      some = λ is_it. absurd cc;
      later = omega (arith, less, later);
    }
then_writes {X = X} x y text (Err e) out out1 out2 old mid new is_text added less w =
    stopped {X = X} {Y = X} x y [] text e out out1 out2 old mid new (is_text ∙ ap (λ zs. x ++ zs) (sym (append-nil y))) added less w
