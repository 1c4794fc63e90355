-- When a word is the decimal text of a number.
use Rattle.std.proofs.Common.{◌≡◌, ◌≢◌, ℕ, ◌<◌, ◌^◌, Bool, true, false, cond, List, refl, sym, ap, subst, ◌∙◌, arith, nat_lt, Some, None, Result, Ok, Err}
use Rattle.std.specs.Prelude.{bytes_eq, decimal}
use Rattle.std.specs.Result.{is_ok}
use Rattle.std.specs.Str.Parse.{ParsesUnsigned, digits_value}
use Rattle.std.proofs.lemmas.Bool.{and_parts, and_from, false≢true, ltb-true, lt-ltb}
use Rattle.std.proofs.lemmas.Fmt.{decimal_is_IsNumeral, parse-decimal}
use Rattle.std.proofs.lemmas.Slice.Eq.{bytes_eq-Decides}
use Rattle.command_words.specs.Numbers.{number_in}

none_by : (test : Bool) (n : ℕ) → (test ≡ true → ⊥) → cond test (Some n) None ≡ None
none_by true n never = absurd (never refl)
none_by false n never = refl

some_by : (test : Bool) (n m : ℕ) → test ≡ true → n ≡ m → cond test (Some n) None ≡ Some m
some_by true n m e same = ap Some same
some_by false n m e same = absurd (false≢true e)

-- a word that is the text of no number below 2^32
pub no_number : (word : List ℕ) → ((n : ℕ) → n < 2 ^ 32 → word ≡ decimal n → ⊥) → number_in word ≡ None
unfolding number_in
no_number word never = none_by _ _ (λ e.
    let parts = and_parts (bytes_eq word (decimal (digits_value 10 word))) (nat_lt (digits_value 10 word) (2 ^ 32)) e in
    never (digits_value 10 word) (ltb-true (digits_value 10 word) (2 ^ 32) parts.1) ((bytes_eq-Decides word (decimal (digits_value 10 word))).0 parts.0))

-- one that isn't parsed
pub unparsed : {E : Type 0} (word : List ℕ) (r : Result ℕ E) (e : E) → ParsesUnsigned 32 10 word r → r ≡ Err e → number_in word ≡ None
unparsed {E} word r e parses failed = no_number word (λ n small same.
    false≢true (ap is_ok (sym failed ∙ parse-decimal 32 n word r small (omega arith) same parses)))

-- one that is parsed as a number whose text it isn't
pub otherwise : {E : Type 0} (word : List ℕ) (r : Result ℕ E) (n : ℕ) → ParsesUnsigned 32 10 word r → r ≡ Ok n → word ≢ decimal n → number_in word ≡ None
otherwise {E} word r n parses read other = no_number word (λ m small same.
    other (same ∙ ap decimal (ap value (sym (parse-decimal 32 m word r small (omega arith) same parses) ∙ read))))
  where
    value : Result ℕ E → ℕ
    value (Ok x) = x
    value (Err e) = 0

-- the text of a number below 2^32
pub spelled : (word : List ℕ) (n : ℕ) → n < 2 ^ 32 → word ≡ decimal n → number_in word ≡ Some n
unfolding number_in
spelled word n small same =
    let value : digits_value 10 word ≡ n = ap (digits_value 10) same ∙ (decimal_is_IsNumeral n (omega arith)).1 in
    some_by _ _ n (and_from _ _ ((bytes_eq-Decides word (decimal (digits_value 10 word))).1 (same ∙ ap decimal (sym value)))
    (lt-ltb (digits_value 10 word) (2 ^ 32) (subst (λ x. x < 2 ^ 32) (sym value) small))) value
