-- Calls in a row on a source or a sink.
use Rattle.std.proofs.Common.{◌≡◌, ℕ, ◌+◌, ◌-◌, ◌≤◌, ◌<◌, List, [], ◌++◌, length, take, drop, Option, Some, refl, sym, ◌∙◌, ap, append_assoc, arith, length-drop, length-append}
use Rattle.std.proofs.lemmas.List.{append-nil, length-take, take-append-drop, take-take, drop-take, drop-drop, take_rest}
use Rattle.source_sink.specs.Outside.{Adds, Gives, IsUsedUp}
use Rattle.source_sink.specs.Reading.{GivesAll, IsLonger}

-- the first `at` bytes and the next n of them are the first at + n
pub take_next : (bytes : List ℕ) (at n : ℕ) →
    take (at + n) bytes ≡ take at bytes ++ take n (take (length bytes - at) (drop at bytes))
take_next bytes at n =
    let front : take at (take (at + n) bytes) ≡ take at bytes = take-take at (at + n) bytes (omega arith) in
    rw (take_rest bytes at, ← drop-take at n bytes, ← front) (sym (take-append-drop at (take (at + n) bytes)))

-- the next n bytes lie within the bytes
pub next_within : (bytes : List ℕ) (at n : ℕ) → at ≤ length bytes →
    n ≤ length (take (length bytes - at) (drop at bytes)) → at + n ≤ length bytes
next_within bytes at n here fits =
    let fits : n ≤ length (drop at bytes) = rw take_rest at fits in
    omega (arith, length-drop at bytes)

-- what a sink that tells its bytes added
pub adds_told : (x y z : List ℕ) → y ≡ x ++ z → Adds (Some x) (Some y) z
adds_told x y z whole held told = let same : y ≡ held = cc in (x, refl, sym same ∙ whole)

-- what a source that tells its bytes gave
pub gives_told : (x y z : List ℕ) → x ≡ z ++ y → Gives (Some x) (Some y) z
gives_told x y z whole left told = let same : x ≡ left = cc in (y, refl, sym same ∙ whole)

-- what a source gives that keeps its bytes in memory and copies the next n of them
pub gives_copied : (bytes slice left to : List ℕ) (at n : ℕ) → slice ≡ bytes → left ≡ drop at bytes →
    take n to ≡ take n (take (length slice - at) (drop at slice)) →
    Gives (Some left) (Some (drop (at + n) bytes)) (take n to)
gives_copied bytes slice left to at n same rest front =
    let copied : take n to ≡ take n (drop at bytes) =
    front ∙ ap (λ (w : List ℕ). take n (take (length w - at) (drop at w))) same ∙ ap (take n) (take_rest bytes at) in
    gives_told left (drop (at + n) bytes) (take n to)
    (rest ∙ sym (rw (copied, ← drop-drop n at bytes) (take-append-drop n (drop at bytes))))

-- what two writes in a row added
pub adds_more : (a b c : Option (List ℕ)) (x y z : List ℕ) → Adds a b x → Adds b c y → z ≡ x ++ y → Adds a c z
adds_more a b c x y z first next whole held told =
    let (middle, was_told, is_middle) = next held told in
    let (start, was_start, is_start) = first middle was_told in
    (start, was_start, is_middle ∙ ap (λ m. m ++ y) is_start ∙ append_assoc start x y ∙ ap (λ w. start ++ w) (sym whole))

-- what two reads in a row gave
pub gives_more : (a b c : Option (List ℕ)) (x y z : List ℕ) → Gives a b x → Gives b c y → z ≡ x ++ y → Gives a c z
gives_more a b c x y z first next whole left told =
    let (middle, was_told, is_left) = first left told in
    let (rest, was_rest, is_middle) = next middle was_told in
    (rest, was_rest, is_left ∙ ap (λ m. x ++ m) is_middle ∙ sym (append_assoc x y rest) ∙ ap (λ w. w ++ rest) (sym whole))

-- a read that gave nothing changes nothing of what was given
pub gives_same : (a b c : Option (List ℕ)) (x : List ℕ) → Gives a b x → Gives b c [] → Gives a c x
gives_same a b c x first next = gives_more a b c x [] x first next (sym (append-nil x))

-- where nothing is left in the end, all was given
pub gives_all : (a b c : Option (List ℕ)) (x : List ℕ) → Gives a b x → Gives b c [] → IsUsedUp b → GivesAll a c x
gives_all a b c x first next end left told =
    let (middle, was_told, is_left) = first left told in
    let (rest, was_rest, is_middle) = next middle was_told in
    let none : middle ≡ [] = end middle was_told in
    (was_rest ∙ ap Some (sym is_middle ∙ none), is_left ∙ ap (λ m. x ++ m) none ∙ append-nil x)

-- where more was given than the limit, more was left
pub gives_longer : (a b : Option (List ℕ)) (x : List ℕ) (limit : ℕ) → Gives a b x → limit < length x → IsLonger a limit
gives_longer a b x limit first over left told =
    let (rest, was_rest, is_left) = first left told in
    omega (arith, ap length is_left, length-append x rest)

-- one piece more than found so far
pub piece_within : (limit count : ℕ) (found buffer : List ℕ) → length found ≤ limit → length buffer ≤ 65_536 →
    length (found ++ take count buffer) ≤ limit + 65_536
piece_within limit count found buffer few short =
    let all = length-append found (take count buffer) in
    let front = length-take count buffer in
    omega (arith, all, front, few, short)
