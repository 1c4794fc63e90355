-- What the reader's loop keeps, and what its ends say.
use Rattle.std.proofs.Common.{◌≡◌, ℕ, zero, suc, ◌+◌, ◌<◌, ◌≤◌, true, false, cond, List, [], ◌∷◌, ◌++◌, length, take, get_or, Option, Some, None, option_and_then, refl, sym, ap, subst, ◌∙◌, inl, inr, arith}
use Rattle.std.proofs.lemmas.List.{take_more, length-take-le}
use Rattle.std.proofs.Math.Seq.{take-length}
use Rattle.std.proofs.lemmas.Bool.{leb-true, leb-false}
use Rattle.exact_json.specs.Advance.{IsShort, IsSound, Goes, Passes, Stops}
use Rattle.exact_json.specs.Limits.{number_limit_before}
use Rattle.exact_json.specs.Grammar.{IsJsonBy, IsJsonWithin, BeginsJson}
use Rattle.json_value.specs.Machine.{State, start, mark, value, first_item, first_name, name, colon, after_item, after_member, word, numeral, characters, done, step, result}
use Rattle.exact_json.specs.Runs.{run, run_within, is_within}
use Rattle.exact_json.specs.Read.{AllGood, IsNotJson, IsTooDeep, IsLongNumber, IsFaultOf}
use Rattle.json_value.specs.Seen.{seen_with, IsReady}
use Rattle.json_value.specs.Tree.{Tree}
use Rattle.json_value.specs.declared.machine.Machine.{Machine}
use Rattle.json_value.specs.declared.machine.Next.{Next}
use Rattle.json_value.specs.declared.machine.Next.TheVariants.{Start, Mark, Value, FirstItem, FirstName, Name, Colon, AfterItem, AfterMember, Word, Number, Text, NameText, Done}
use Rattle.exact_json.specs.declared.fault.JsonFault.{JsonFault}
use Rattle.exact_json.specs.declared.fault.JsonFault.TheVariants.{NotJson, TooDeep, LongNumber, NoMemory}
use Rattle.exact_json.proofs.Faults.{accepts, accepts_any, stays, begins, begins_none, deep_item, deep_name, long_number}
use Rattle.exact_json.proofs.Kept.{first_step, within-run, within-last, run-sound}
use Rattle.exact_json.proofs.Sound.{step-sound, IsCounted, step-counted}

pub some_state : {m n : State} → Some m ≡ Some n → m ≡ n
some_state e = cc

-- one step more
pub run_more : (m k n : State) (p : List ℕ) (b : ℕ) → run_within m p ≡ Some k → step k b ≡ Some n → is_within n ≡ true → run_within m (p ++ b ∷ []) ≡ Some n
run_more m k n [] b e s w =
    let same : m ≡ k = cc in
    ap (λ x. option_and_then (λ i. cond (is_within i) (Some i) None) (step x b)) same ∙ (ap (option_and_then (λ i. cond (is_within i) (Some i) None)) s ∙ ap (λ c. cond c (Some n) None) w)
run_more m k n (x ∷ p) b e s w =
    let f = first_step m k x p e in
    ap (option_and_then (λ i. cond (is_within i) (run_within i (p ++ b ∷ [])) None)) f.1 ∙ (ap (λ c. cond c (run_within f.0 (p ++ b ∷ [])) None) f.2 ∙ run_more f.0 k n p b f.3 s w)

pub plain_more : (m k : State) (p : List ℕ) (b : ℕ) → run m p ≡ Some k → run m (p ++ b ∷ []) ≡ step k b
plain_more m k [] b e = let same : m ≡ k = cc in ap (λ x. option_and_then Some (step x b)) same ∙ whole (step k b)
  where
    whole : (o : Option State) → option_and_then Some o ≡ o
    whole None = refl
    whole (Some n) = refl
plain_more m k (x ∷ p) b e = by (step m x) e (λ n f. plain_more n k p b f)
  where
    by : (o : Option State) → option_and_then (λ n. run n p) o ≡ Some k → ((n : State) → run n p ≡ Some k → run n (p ++ b ∷ []) ≡ step k b) → option_and_then (λ n. run n (p ++ b ∷ [])) o ≡ step k b
    by None e f = absurd (cc)
    by (Some n) e f = f n e

pub front_more : (i : ℕ) (bytes : List ℕ) → i < length bytes → take (i + 1) bytes ≡ take i bytes ++ get_or bytes i 0 ∷ []
front_more i bytes h = take_more bytes i 0 h

pub turn : (bytes : List ℕ) (i : ℕ) (m n : State) → run_within start (take i bytes) ≡ Some m → i < length bytes → Goes m (get_or bytes i 0) n → run_within start (take (i + 1) bytes) ≡ Some n
turn bytes i m n e h g = ap (run_within start) (front_more i bytes h) ∙ run_more start m n (take i bytes) (get_or bytes i 0) e g.0 g.1

-- every front of a run is a run
pub front_run : (m n : State) (bytes : List ℕ) (k i : ℕ) → k ≤ i → run_within m (take i bytes) ≡ Some n → (j : State) × (run_within m (take k bytes) ≡ Some j)
front_run m n bytes zero i h e = (m, refl)
front_run m n bytes (suc k) zero h e = absurd (omega arith)
front_run m n [] (suc k) (suc i) h e = (m, refl)
front_run m n (b ∷ bytes) (suc k) (suc i) h e =
    let f = first_step m n b (take i bytes) e in
    let r = front_run f.0 n bytes k i (omega arith) f.3 in
    (r.0, ap (option_and_then (λ x. cond (is_within x) (run_within x (take k bytes)) None)) f.1 ∙ (ap (λ c. cond c (run_within f.0 (take k bytes)) None) f.2 ∙ r.1))

pub all_good : (bytes : List ℕ) (i : ℕ) (m : State) → run_within start (take i bytes) ≡ Some m → AllGood bytes (i + 1)
all_good bytes i m e k h =
    let r = front_run start m bytes k i (omega arith) e in
    (begins r.0 (take k bytes) (run-sound start r.0 (take k bytes) tt r.1) (within-run start r.0 (take k bytes) r.1), stays r.0 (take k bytes) r.1)

-- numbers are no longer than the bytes
counted_run : (k : ℕ) (m n : State) (p : List ℕ) → IsSound m → IsCounted k m → run_within m p ≡ Some n → IsCounted (k + length p) n
counted_run k m n [] sound c e = let same : m ≡ n = cc in let room : k ≡ k + 0 = omega arith in subst (λ j. IsCounted j n) room (subst (IsCounted k) same c)
counted_run k m n (b ∷ p) sound c e =
    let f = first_step m n b p e in
    let r = counted_run (k + 1) f.0 n p (step-sound m b f.0 sound f.1) (step-counted k m b f.0 sound c f.1) f.3 in
    let room : k + 1 + length p ≡ k + length (b ∷ p) = omega arith in subst (λ j. IsCounted j n) room r

pub within_counted : (m : State) → is_within m ≡ true → IsCounted 64 m
within_counted start e = tt
within_counted (mark ms) e = tt
within_counted (value frames) e = tt
within_counted (first_item frames) e = tt
within_counted (first_name frames) e = tt
within_counted (name es frames) e = tt
within_counted (colon es n frames) e = tt
within_counted (after_item ts frames) e = tt
within_counted (after_member es frames) e = tt
within_counted (word cs v frames) e = tt
within_counted (numeral phase n frames) e = leb-true n.length 64 e
within_counted (characters role s w frames) e = tt
within_counted (done v) e = tt

pub counted_front : (bytes : List ℕ) (i : ℕ) (m : State) → i ≤ length bytes → run_within start (take i bytes) ≡ Some m → IsCounted i m
counted_front bytes i m h e = let size : 0 + length (take i bytes) ≡ i = omega (arith, length-take-le i bytes h) in subst (λ j. IsCounted j m) size (counted_run 0 start m (take i bytes) tt tt e)

pub step_run : (bytes : List ℕ) (i : ℕ) (m : State) (o : Option State) → run_within start (take i bytes) ≡ Some m → i < length bytes → step m (get_or bytes i 0) ≡ o → run start (take (i + 1) bytes) ≡ o
step_run bytes i m o e h s = ap (run start) (front_more i bytes h) ∙ (plain_more start m (take i bytes) (get_or bytes i 0) (within-run start m (take i bytes) e) ∙ s)

-- a list or a table too deep
deep_stop : (bytes : List ℕ) (i p : ℕ) (m k : State) → run_within start (take i bytes) ≡ Some m → i < length bytes → step m (get_or bytes i 0) ≡ Some k → Passes k i (TooDeep p) → IsTooDeep bytes p
deep_stop bytes i p m start e h s passes = absurd passes
deep_stop bytes i p m (mark ms) e h s passes = absurd passes
deep_stop bytes i p m (value frames) e h s passes = absurd passes
deep_stop bytes i p m (first_item frames) e h s (deep, at) =
    let run_is = step_run bytes i m (Some (first_item frames)) e h s in
    subst (IsTooDeep bytes) (sym at) (record {
      within = h;
      before = all_good bytes i m e;
      begins = begins (first_item frames) (take (i + 1) bytes) tt run_is;
      passes = λ t more. deep_item frames (take (i + 1) bytes) more t run_is deep;
    })
deep_stop bytes i p m (first_name frames) e h s (deep, at) =
    let run_is = step_run bytes i m (Some (first_name frames)) e h s in
    subst (IsTooDeep bytes) (sym at) (record {
      within = h;
      before = all_good bytes i m e;
      begins = begins (first_name frames) (take (i + 1) bytes) tt run_is;
      passes = λ t more. deep_name frames (take (i + 1) bytes) more t run_is deep;
    })
deep_stop bytes i p m (name es frames) e h s passes = absurd passes
deep_stop bytes i p m (colon es u frames) e h s passes = absurd passes
deep_stop bytes i p m (after_item ts frames) e h s passes = absurd passes
deep_stop bytes i p m (after_member es frames) e h s passes = absurd passes
deep_stop bytes i p m (word cs v frames) e h s passes = absurd passes
deep_stop bytes i p m (numeral phase n frames) e h s passes = absurd passes
deep_stop bytes i p m (characters role u w frames) e h s passes = absurd passes
deep_stop bytes i p m (done v) e h s passes = absurd passes

-- a number too long
long_stop : (bytes : List ℕ) (i p : ℕ) (m k : State) → run_within start (take i bytes) ≡ Some m → i < length bytes → step m (get_or bytes i 0) ≡ Some k → Passes k i (LongNumber p) → IsLongNumber bytes p
long_stop bytes i p m start e h s passes = absurd passes
long_stop bytes i p m (mark ms) e h s passes = absurd passes
long_stop bytes i p m (value frames) e h s passes = absurd passes
long_stop bytes i p m (first_item frames) e h s passes = absurd passes
long_stop bytes i p m (first_name frames) e h s passes = absurd passes
long_stop bytes i p m (name es frames) e h s passes = absurd passes
long_stop bytes i p m (colon es u frames) e h s passes = absurd passes
long_stop bytes i p m (after_item ts frames) e h s passes = absurd passes
long_stop bytes i p m (after_member es frames) e h s passes = absurd passes
long_stop bytes i p m (word cs v frames) e h s passes = absurd passes
long_stop bytes i p m (numeral phase n frames) e h s (long, at) =
    let run_is = step_run bytes i m (Some (numeral phase n frames)) e h s in
    let sound = run-sound start m (take i bytes) tt e in
    let most : n.length ≤ 64 + 1 = step-counted 64 m (get_or bytes i 0) (numeral phase n frames) sound (within_counted m (within-last start m (take i bytes) refl e)) s in
    let least : 64 < n.length = leb-false n.length 64 long in
    let end : i + 1 ≡ p + 65 = omega (arith, at) in
    let room : p + 65 ≤ length bytes = omega (arith, end) in
    record {
      within = room;
      before = subst (AllGood bytes) end (all_good bytes i m e);
      begins = subst (λ k. BeginsJson (take k bytes)) end (begins (numeral phase n frames) (take (i + 1) bytes) (step-sound m (get_or bytes i 0) (numeral phase n frames) sound s) run_is);
      passes = subst (λ k. (t : Tree) (more : List ℕ) → IsJsonBy (number_limit_before (length more)) t (take k bytes ++ more) → ⊥) end (λ t more. long_number phase n frames (take (i + 1) bytes) more t run_is long);
    }
long_stop bytes i p m (characters role u w frames) e h s passes = absurd passes
long_stop bytes i p m (done v) e h s passes = absurd passes

-- where the machine stops
pub stop : (bytes : List ℕ) (i : ℕ) (m : State) (fault : JsonFault) → run_within start (take i bytes) ≡ Some m → i < length bytes → Stops m (get_or bytes i 0) i fault → IsFaultOf bytes fault
stop bytes i m (NotJson p) e h (none, at) =
    subst (IsNotJson bytes) (sym at) (record { before = all_good bytes i m e; «at» = inl (h, begins_none (take (i + 1) bytes) (step_run bytes i m None e h none)) })
stop bytes i m (TooDeep p) e h (k, s, passes) = deep_stop bytes i p m k e h s passes
stop bytes i m (LongNumber p) e h (k, s, passes) = long_stop bytes i p m k e h s passes
stop bytes i m NoMemory e h s = tt

-- a longer run makes the machine's step
pub last_step : (m k n : State) (p : List ℕ) (b : ℕ) → run_within m p ≡ Some k → run_within m (p ++ b ∷ []) ≡ Some n → (step k b ≡ Some n) × (is_within n ≡ true)
last_step m k n [] b e f =
    let s = first_step m n b [] f in
    let same : m ≡ k = cc in
    let last : s.0 ≡ n = cc in
    (subst (λ x. step x b ≡ Some n) same (s.1 ∙ ap Some last), subst (λ x. is_within x ≡ true) last s.2)
last_step m k n (x ∷ p) b e f =
    let s = first_step m k x p e in
    let r = first_step m n x (p ++ b ∷ []) f in
    let same : r.0 ≡ s.0 = some_state (sym r.1 ∙ s.1) in
    last_step s.0 k n p b s.3 (subst (λ j. run_within j (p ++ b ∷ []) ≡ Some n) same r.3)

passes_beyond : (n : State) (place : ℕ) (fault : JsonFault) → Passes n place fault → is_within n ≡ false
passes_beyond start place fault h = absurd h
passes_beyond (mark ms) place fault h = absurd h
passes_beyond (value frames) place fault h = absurd h
passes_beyond (first_item frames) place (NotJson p) h = absurd h
passes_beyond (first_item frames) place (LongNumber p) h = absurd h
passes_beyond (first_item frames) place NoMemory h = absurd h
passes_beyond (first_item frames) place (TooDeep p) h = h.0
passes_beyond (first_name frames) place (NotJson p) h = absurd h
passes_beyond (first_name frames) place (LongNumber p) h = absurd h
passes_beyond (first_name frames) place NoMemory h = absurd h
passes_beyond (first_name frames) place (TooDeep p) h = h.0
passes_beyond (name es frames) place fault h = absurd h
passes_beyond (colon es u frames) place fault h = absurd h
passes_beyond (after_item ts frames) place fault h = absurd h
passes_beyond (after_member es frames) place fault h = absurd h
passes_beyond (word cs v frames) place fault h = absurd h
passes_beyond (numeral phase n frames) place (NotJson p) h = absurd h
passes_beyond (numeral phase n frames) place (TooDeep p) h = absurd h
passes_beyond (numeral phase n frames) place NoMemory h = absurd h
passes_beyond (numeral phase n frames) place (LongNumber p) h = h.0
passes_beyond (characters role u w frames) place fault h = absurd h
passes_beyond (done v) place fault h = absurd h

pub stops_no : (m n : State) (b i : ℕ) (fault : JsonFault) → step m b ≡ Some n → is_within n ≡ true → Stops m b i fault → fault ≡ NoMemory
stops_no m n b i (NotJson p) s w (none, at) = absurd (cc)
stops_no m n b i NoMemory s w stops = refl
stops_no m n b i (TooDeep p) s w (k, is, passes) = let same : n ≡ k = some_state (sym s ∙ is) in let kept = subst (λ x. is_within x ≡ true) same w in let gone = passes_beyond k i (TooDeep p) passes in absurd (cc)
stops_no m n b i (LongNumber p) s w (k, is, passes) = let same : n ≡ k = some_state (sym s ∙ is) in let kept = subst (λ x. is_within x ≡ true) same w in let gone = passes_beyond k i (LongNumber p) passes in absurd (cc)

-- a text within the limits stops it nowhere
pub stop_refuses : (bytes : List ℕ) (i : ℕ) (m : State) (fault : JsonFault) → run_within start (take i bytes) ≡ Some m → i < length bytes → Stops m (get_or bytes i 0) i fault → (t : Tree) → IsJsonWithin t bytes → fault ≡ NoMemory
stop_refuses bytes i m fault e h s t json =
    let a = accepts t bytes json in
    let all : run_within start (take (length bytes) bytes) ≡ Some a.0 = ap (run_within start) (take-length bytes) ∙ a.1 in
    let f = front_run start a.0 bytes (i + 1) (length bytes) (omega arith) all in
    let last = last_step start m f.0 (take i bytes) (get_or bytes i 0) e (sym (ap (run_within start) (front_more i bytes h)) ∙ f.1) in
    stops_no m f.0 (get_or bytes i 0) i fault last.0 last.1 s

-- the bytes end too early
pub end_fault : (bytes : List ℕ) (m : State) → run_within start bytes ≡ Some m → result m ≡ None → IsFaultOf bytes (NotJson (length bytes))
end_fault bytes m e none = record {
  before = all_good bytes (length bytes) m (ap (run_within start) (take-length bytes) ∙ e);
  «at» = inr (refl, λ t json. no_text t (accepts_any t bytes json));
}
  where
    no_text : (t : Tree) → (n : State) × (run start bytes ≡ Some n) × (result n ≡ Some t) → ⊥
    no_text t (n, r, is) = let same : n ≡ m = some_state (sym r ∙ within-run start m bytes e) in let value = subst (λ x. result x ≡ Some t) same is in cc

pub end_refuses : (bytes : List ℕ) (m : State) → run_within start bytes ≡ Some m → result m ≡ None → (t : Tree) → IsJsonWithin t bytes → ⊥
end_refuses bytes m e none t json = let a = accepts t bytes json in let same : a.0 ≡ m = some_state (sym a.1 ∙ e) in let value = subst (λ x. result x ≡ Some t) same a.2 in cc

pub one_tree : (bytes : List ℕ) (m : State) (v : Tree) → run_within start bytes ≡ Some m → result m ≡ Some v → (t : Tree) → IsJsonWithin t bytes → t ≡ v
one_tree bytes m v e is t json = let a = accepts t bytes json in let same : a.0 ≡ m = some_state (sym a.1 ∙ e) in let value = subst (λ x. result x ≡ Some t) same a.2 in let both : Some t ≡ Some v = sym value ∙ is in cc

-- What the reader needs before a byte.

pub ready : (m : Machine) (next : Next) → IsSound (seen_with m next) → is_within (seen_with m next) ≡ true → IsReady m next
ready m Start s w = tt
ready m (Mark ms) s w = tt
ready m Value s w = tt
ready m FirstItem s w = tt
ready m FirstName s w = tt
ready m (Name es) s w = tt
ready m (Colon es n) s w = tt
ready m (AfterItem ts) s w = tt
ready m (AfterMember es) s w = tt
ready m (Word cs v) s w = tt
ready m (Number phase) s w =
    let small : m.numeral.length ≤ 64 = leb-true m.numeral.length 64 w in
    let places : m.numeral.places ≤ m.numeral.length = s in
    (omega arith, omega arith)
ready m (Text w) s k = s
ready m (NameText es w) s k = s
ready m (Done v) s w = tt

pub short : (m : Machine) (next : Next) (k : ℕ) → IsCounted k (seen_with m next) → IsShort m next k
short m Start k c = tt
short m (Mark ms) k c = tt
short m Value k c = tt
short m FirstItem k c = tt
short m FirstName k c = tt
short m (Name es) k c = tt
short m (Colon es n) k c = tt
short m (AfterItem ts) k c = tt
short m (AfterMember es) k c = tt
short m (Word cs v) k c = tt
short m (Number phase) k c = c
short m (Text w) k c = tt
short m (NameText es w) k c = tt
short m (Done v) k c = tt

-- the state before a byte
pub record Before (bytes : List ℕ) (i : ℕ) (m : Machine) (next : Next) : Type 0 where
  pub is_ready : IsReady m next
  pub is_short : IsShort m next i
  pub is_sound : IsSound (seen_with m next)

pub before : (bytes : List ℕ) (i : ℕ) (m : Machine) (next : Next) → i ≤ length bytes → run_within start (take i bytes) ≡ Some (seen_with m next) → Before bytes i m next
before bytes i m next h e =
    let sound = run-sound start (seen_with m next) (take i bytes) tt e in
    let within = within-last start (seen_with m next) (take i bytes) refl e in
    record { is_ready = ready m next sound within; is_short = short m next i (counted_front bytes i (seen_with m next) h e); is_sound = sound }

counted_of : (m : Machine) (next : Next) (k : ℕ) → IsShort m next k → IsCounted k (seen_with m next)
counted_of m Start k c = tt
counted_of m (Mark ms) k c = tt
counted_of m Value k c = tt
counted_of m FirstItem k c = tt
counted_of m FirstName k c = tt
counted_of m (Name es) k c = tt
counted_of m (Colon es n) k c = tt
counted_of m (AfterItem ts) k c = tt
counted_of m (AfterMember es) k c = tt
counted_of m (Word cs v) k c = tt
counted_of m (Number phase) k c = c
counted_of m (Text w) k c = tt
counted_of m (NameText es w) k c = tt
counted_of m (Done v) k c = tt

-- one byte more
pub short_more : (m m' : Machine) (next next' : Next) (k b : ℕ) → IsSound (seen_with m next) → IsShort m next k → Some (seen_with m' next') ≡ step (seen_with m next) b → IsShort m' next' (k + 1)
short_more m m' next next' k b sound is_short e = short m' next' (k + 1) (step-counted k (seen_with m next) b (seen_with m' next') sound (counted_of m next k is_short) (sym e))

-- the whole of the bytes
pub at_end : (bytes : List ℕ) (i : ℕ) (m : State) → i ≡ length bytes → run_within start (take i bytes) ≡ Some m → run_within start bytes ≡ Some m
at_end bytes i m same e = ap (run_within start) (sym (ap (λ k. take k bytes) same ∙ take-length bytes)) ∙ e
