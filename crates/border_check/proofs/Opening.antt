-- One level of the tree by shares.
use Rattle.std.proofs.Common.{◌≡◌, ℕ, zero, suc, ◌-◌, ◌<◌, Bool, true, false, cond, Option, Some, None, arith, refl, sym, ap, ◌∙◌}
use Rattle.std.specs.Option.{is_some, option_or}
use Rattle.border_check.specs.declared.squares.Square.{Square}
use Rattle.border_check.specs.Squares.{box_in, quarter}
use Rattle.border_check.specs.Shares.{ShareView, share_within}
use Rattle.border_check.specs.Settled.{first_of_quarters, settles, open_to, open_in}

pub open_settled : (border district : ShareView) (s : Square) → settles border district ≡ true → open_in border district s ≡ None
unfolding open_to
open_settled border district s h = by s.size
  where
    by : (n : ℕ) → open_to n border district s ≡ None
    by zero = ap (λ (t : Bool). cond t None (Some s)) h
    by (suc n) =
        ap (λ (t : Bool). cond t None (first_of_quarters
        (λ q. open_to n (share_within (box_in s) (box_in q) border) (share_within (box_in s) (box_in q) district) q) s)) h

pub open_smallest : (border district : ShareView) (s : Square) → settles border district ≡ false → s.size ≡ 0
    → open_in border district s ≡ Some s
unfolding open_to
open_smallest border district s h e = ap (λ (n : ℕ). open_to n border district s) e ∙ least
  where
    least : open_to zero border district s ≡ Some s
    least = ap (λ (t : Bool). cond t None (Some s)) h

-- what is asked of a quarter
abbrev pub open_quarter : ShareView → ShareView → Square → Square → Option Square
open_quarter border district s q =
    open_in (share_within (box_in s) (box_in q) border) (share_within (box_in s) (box_in q) district) q

pub open_below : (border district : ShareView) (s : Square) → settles border district ≡ false → 0 < s.size
    → open_in border district s ≡ first_of_quarters (open_quarter border district s) s
unfolding open_to
open_below border district s h large = by s.size refl
  where
    by : (n : ℕ) → s.size ≡ n → open_to n border district s ≡ first_of_quarters (open_quarter border district s) s
    by zero e = absurd (omega (arith, e))
    by (suc n) e =
        let less : n ≡ s.size - 1 = omega (arith, e) in
        ap (λ (t : Bool). cond t None (first_of_quarters
        (λ q. open_to n (share_within (box_in s) (box_in q) border) (share_within (box_in s) (box_in q) district) q) s)) h
        ∙ ap (λ (k : ℕ). first_of_quarters
        (λ q. open_to k (share_within (box_in s) (box_in q) border) (share_within (box_in s) (box_in q) district) q) s) less

-- the quarters' answers, one after another
pub in_turn : (border district : ShareView) (s : Square) (a b c d : Option Square) → settles border district ≡ false → 0 < s.size
    → a ≡ open_quarter border district s (quarter s false false) → b ≡ open_quarter border district s (quarter s true false)
    → c ≡ open_quarter border district s (quarter s false true) → d ≡ open_quarter border district s (quarter s true true)
    → option_or a (option_or b (option_or c d)) ≡ open_in border district s
in_turn border district s a b c d h large ea eb ec ed = rw (ea, eb, ec, ed) (sym (open_below border district s h large))

pub found_first : (a more : Option Square) → is_some a ≡ true → a ≡ option_or a more
found_first None more h = cc
found_first (Some x) more h = refl

pub found_later : (a more : Option Square) → is_some a ≡ false → more ≡ option_or a more
found_later None more h = refl
found_later (Some x) more h = cc
