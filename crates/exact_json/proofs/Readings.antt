-- Bytes are read in one way: what they are as JSON is what the machine yields.
use Rattle.std.proofs.Common.{◌≡◌, ℕ, zero, suc, ◌+◌, ◌-◌, ◌<◌, ◌≤◌, List, [], ◌++◌, length, take, get_or, Option, Some, None, Result, Ok, Err, refl, sym, ap, subst, ◌∙◌, ◌⊎◌, inl, inr, arith, append-nil, Bool, true, false}
use Rattle.std.proofs.Math.Seq.{take-length}
use Rattle.std.proofs.lemmas.Bool.{cases_lt}
use Rattle.exact_json.specs.Advance.{Passes, Stops}
use Rattle.exact_json.specs.Grammar.{IsJson, IsJsonBy, BeginsJson}
use Rattle.exact_json.specs.Limits.{no_limits, depth_limit, number_limit_before}
use Rattle.json_value.specs.Machine.{State, start, mark, value, first_item, first_name, name, colon, after_item, after_member, word, numeral, characters, done, step, result}
use Rattle.exact_json.specs.Runs.{run_within, is_within}
use Rattle.exact_json.specs.Read.{AllGood, IsNotJson, IsTooDeep, IsLongNumber, IsFaultOf}
use Rattle.exact_json.specs.Readings.{Reading, ReadingsAgree, EveryTextIsRead}
use Rattle.json_value.specs.Tree.{Tree}
use Rattle.exact_json.specs.declared.fault.JsonFault.{JsonFault}
use Rattle.exact_json.specs.declared.fault.JsonFault.TheVariants.{NotJson, TooDeep, LongNumber, NoMemory}
use Rattle.exact_json.proofs.Allowed.{depth_allows, number_allows, completes, too_deep, too_long}
use Rattle.exact_json.proofs.Ends.{FitsEnd}
use Rattle.exact_json.proofs.Faults.{accepts, begins, begins_none, result_comes, accepted}
use Rattle.exact_json.proofs.Kept.{run_goes_within, within-run, within-last, run-sound, fits_none, all_fit_none}
use Rattle.exact_json.proofs.ReaderRuns.{some_state, front_more, front_run, step_run, last_step, stops_no, within_counted, turn, counted_front, stop, end_fault, at_end}
use Rattle.exact_json.proofs.Runs.{run_comes}
use Rattle.exact_json.proofs.Sound.{step-sound, IsCounted, step-counted}

-- What the machine yields: a tree, or a fault at the byte where it stops, or at too early an end.

pub record StopsAt (bytes : List ℕ) (fault : JsonFault) : Type 0 where
  pub place : ℕ
  pub state : State
  pub within : place < length bytes
  pub run : run_within start (take place bytes) ≡ Some state
  pub stops : Stops state (get_or bytes place 0) place fault
  pub known : fault ≡ NoMemory → ⊥

pub record EndsEarly (bytes : List ℕ) (fault : JsonFault) : Type 0 where
  pub state : State
  pub run : run_within start bytes ≡ Some state
  pub none : result state ≡ None
  pub is : fault ≡ NotJson (length bytes)

abbrev pub Yields : List ℕ → Result Tree JsonFault → Type 0
Yields bytes (Ok t) = (m : State) × (run_within start bytes ≡ Some m) × (result m ≡ Some t)
Yields bytes (Err fault) = StopsAt bytes fault ⊎ EndsEarly bytes fault

-- It yields one thing.

-- the fault at the byte at the place, which makes this step
abbrev passed : State → ℕ → JsonFault
passed (numeral phase n frames) place = LongNumber (place + 1 - n.length)
passed _ place = TooDeep place

abbrev fault_at : Option State → ℕ → JsonFault
fault_at None place = NotJson place
fault_at (Some n) place = passed n place

passes_is : (n : State) (place : ℕ) (fault : JsonFault) → Passes n place fault → fault ≡ passed n place
passes_is start place fault h = absurd h
passes_is (mark ms) place fault h = absurd h
passes_is (value frames) place fault h = absurd h
passes_is (first_item frames) place (NotJson p) h = absurd h
passes_is (first_item frames) place (LongNumber p) h = absurd h
passes_is (first_item frames) place NoMemory h = absurd h
passes_is (first_item frames) place (TooDeep p) h = ap TooDeep h.1
passes_is (first_name frames) place (NotJson p) h = absurd h
passes_is (first_name frames) place (LongNumber p) h = absurd h
passes_is (first_name frames) place NoMemory h = absurd h
passes_is (first_name frames) place (TooDeep p) h = ap TooDeep h.1
passes_is (name es frames) place fault h = absurd h
passes_is (colon es u frames) place fault h = absurd h
passes_is (after_item ts frames) place fault h = absurd h
passes_is (after_member es frames) place fault h = absurd h
passes_is (word cs v frames) place fault h = absurd h
passes_is (numeral phase n frames) place (NotJson p) h = absurd h
passes_is (numeral phase n frames) place (TooDeep p) h = absurd h
passes_is (numeral phase n frames) place NoMemory h = absurd h
passes_is (numeral phase n frames) place (LongNumber p) h = let at : p ≡ place + 1 - n.length = omega (arith, h.1) in ap LongNumber at
passes_is (characters role u w frames) place fault h = absurd h
passes_is (done v) place fault h = absurd h

stops_is : (m : State) (b place : ℕ) (fault : JsonFault) → Stops m b place fault → (fault ≡ NoMemory → ⊥) → fault ≡ fault_at (step m b) place
stops_is m b place (NotJson p) (none, at) known = ap NotJson at ∙ ap (λ o. fault_at o place) (sym none)
stops_is m b place (TooDeep p) (n, s, passes) known = passes_is n place (TooDeep p) passes ∙ ap (λ o. fault_at o place) (sym s)
stops_is m b place (LongNumber p) (n, s, passes) known = passes_is n place (LongNumber p) passes ∙ ap (λ o. fault_at o place) (sym s)
stops_is m b place NoMemory stops known = absurd (known refl)

-- a run ends before the byte at which the machine stops
no_longer : (bytes : List ℕ) (fault : JsonFault) (i : ℕ) (n : State) → (s : StopsAt bytes fault) → s.place < i → run_within start (take i bytes) ≡ Some n → ⊥
no_longer bytes fault i n s h e =
    let f = front_run start n bytes (s.place + 1) i (omega arith) e in
    let last = last_step start s.state f.0 (take s.place bytes) (get_or bytes s.place 0) s.run (sym (ap (run_within start) (front_more s.place bytes s.within)) ∙ f.1) in
    s.known (stops_no s.state f.0 (get_or bytes s.place 0) s.place fault last.0 last.1 s.stops)

no_whole : (bytes : List ℕ) (fault : JsonFault) (n : State) → StopsAt bytes fault → run_within start bytes ≡ Some n → ⊥
no_whole bytes fault n s e = no_longer bytes fault (length bytes) n s s.within (ap (run_within start) (take-length bytes) ∙ e)

same_end : (bytes : List ℕ) (m n : State) → run_within start bytes ≡ Some m → run_within start bytes ≡ Some n → result m ≡ result n
same_end bytes m n e f = ap result (some_state (sym e ∙ f))

stops_agree : (bytes : List ℕ) (x y : JsonFault) → StopsAt bytes x → StopsAt bytes y → x ≡ y
stops_agree bytes x y s r = by (cases_lt s.place r.place) (cases_lt r.place s.place)
  where
    same : s.place ≡ r.place → x ≡ y
    same e =
        let state : s.state ≡ r.state = some_state (sym s.run ∙ (ap (λ i. run_within start (take i bytes)) e ∙ r.run)) in
        stops_is s.state (get_or bytes s.place 0) s.place x s.stops s.known
        ∙ (ap (λ i. fault_at (step s.state (get_or bytes i 0)) i) e ∙ ap (λ m. fault_at (step m (get_or bytes r.place 0)) r.place) state)
        ∙ sym (stops_is r.state (get_or bytes r.place 0) r.place y r.stops r.known)

    by : (s.place < r.place) ⊎ (r.place ≤ s.place) → (r.place < s.place) ⊎ (s.place ≤ r.place) → x ≡ y
    by (inl h) k = absurd (no_longer bytes x r.place r.state s h r.run)
    by (inr h) (inl k) = absurd (no_longer bytes y s.place s.state r k s.run)
    by (inr h) (inr k) = same (omega (arith, h, k))

yields_agree : (bytes : List ℕ) (x y : Result Tree JsonFault) → Yields bytes x → Yields bytes y → x ≡ y
yields_agree bytes (Ok t) (Ok u) (m, e, is) (n, f, so) = let both : Some t ≡ Some u = sym is ∙ (same_end bytes m n e f ∙ so) in let same : t ≡ u = cc in ap Ok same
yields_agree bytes (Ok t) (Err fault) (m, e, is) (inl s) = absurd (no_whole bytes fault m s e)
yields_agree bytes (Ok t) (Err fault) (m, e, is) (inr s) = let both : Some t ≡ None = sym is ∙ (same_end bytes m s.state e s.run ∙ s.none) in absurd (cc)
yields_agree bytes (Err fault) (Ok t) (inl s) (m, e, is) = absurd (no_whole bytes fault m s e)
yields_agree bytes (Err fault) (Ok t) (inr s) (m, e, is) = let both : Some t ≡ None = sym is ∙ (same_end bytes m s.state e s.run ∙ s.none) in absurd (cc)
yields_agree bytes (Err x) (Err y) (inl s) (inl r) = ap Err (stops_agree bytes x y s r)
yields_agree bytes (Err x) (Err y) (inl s) (inr r) = absurd (no_whole bytes x r.state s r.run)
yields_agree bytes (Err x) (Err y) (inr s) (inl r) = absurd (no_whole bytes y s.state r s.run)
yields_agree bytes (Err x) (Err y) (inr s) (inr r) = ap Err (s.is ∙ sym r.is)

-- What the bytes are, it yields.

-- it runs over each front whose shorter fronts are good
runs : (bytes : List ℕ) (i : ℕ) → AllGood bytes (i + 1) → (m : State) × (run_within start (take i bytes) ≡ Some m)
runs bytes i good =
    let (t, more, h) = (good i (omega arith)).1 in
    let r = run_goes_within (length more) t start (take i bytes) more (omega arith) tt h in
    (r.0, r.1)

-- the step at the byte that ends a front with which a text begins
steps : (bytes : List ℕ) (i : ℕ) (m : State) → run_within start (take i bytes) ≡ Some m → i < length bytes → BeginsJson (take (i + 1) bytes) → (n : State) × (step m (get_or bytes i 0) ≡ Some n)
steps bytes i m e within h = by (step m (get_or bytes i 0)) refl
  where
    by : (o : Option State) → step m (get_or bytes i 0) ≡ o → (n : State) × (step m (get_or bytes i 0) ≡ Some n)
    by None is = absurd (begins_none (take (i + 1) bytes) (step_run bytes i m None e within is) h)
    by (Some n) is = (n, is)

-- none where no text begins so
no_step : (bytes : List ℕ) (i : ℕ) (m : State) → run_within start (take i bytes) ≡ Some m → i < length bytes → (BeginsJson (take (i + 1) bytes) → ⊥) → step m (get_or bytes i 0) ≡ None
no_step bytes i m e within never = by (step m (get_or bytes i 0)) refl
  where
    by : (o : Option State) → step m (get_or bytes i 0) ≡ o → step m (get_or bytes i 0) ≡ None
    by None is = is
    by (Some n) is = absurd (never (begins n (take (i + 1) bytes) (step-sound m (get_or bytes i 0) n (run-sound start m (take i bytes) tt e) is) (step_run bytes i m (Some n) e within is)))

-- and no result where no text ends so
no_result : (bytes : List ℕ) (m : State) → run_within start bytes ≡ Some m → ((t : Tree) → IsJson t bytes → ⊥) → result m ≡ None
no_result bytes m e never = by (result m) refl
  where
    by : (o : Option Tree) → result m ≡ o → result m ≡ None
    by None is = is
    by (Some t) is = absurd (never t (subst (λ z. IsJson t z) (append-nil bytes) (run_comes no_limits t start m bytes [] tt (all_fit_none t start bytes) (within-run start m bytes e) (result_comes no_limits t m (fits_none t m) is))))

not_json : (bytes : List ℕ) (place : ℕ) → IsNotJson bytes place → Yields bytes (Err (NotJson place))
not_json bytes place h = by (runs bytes place h.before) h.«at»
  where
    by : (m : State) × (run_within start (take place bytes) ≡ Some m) → ((place < length bytes) × (BeginsJson (take (place + 1) bytes) → ⊥)) ⊎ ((place ≡ length bytes) × ((t : Tree) → IsJson t bytes → ⊥)) → Yields bytes (Err (NotJson place))
    by (m, e) (inl (within, never)) = inl (record { place = place; state = m; within = within; run = e; stops = (no_step bytes place m e within never, refl); known = λ k. absurd (cc) })
    by (m, e) (inr (is, never)) =
        let whole = at_end bytes place m is e in
        inr (record { state = m; run = whole; none = no_result bytes m whole never; is = ap NotJson is })

deep : (bytes : List ℕ) (place : ℕ) → IsTooDeep bytes place → Yields bytes (Err (TooDeep place))
deep bytes place h =
    let (m, e) = runs bytes place h.before in
    let (n, s) = steps bytes place m e h.within h.begins in
    inl (record { place = place; state = m; within = h.within; run = e; stops = (n, s, too_deep n place (never m n e s)); known = λ k. absurd (cc) })
  where
    never : (m n : State) → run_within start (take place bytes) ≡ Some m → step m (get_or bytes place 0) ≡ Some n → ((last : ℕ) → FitsEnd depth_limit n last) → ⊥
    never m n e s ends =
        let (t, more, is) = completes (λ last. depth_limit) m n (take place bytes) (get_or bytes place 0) (λ last. depth_allows) e s ends in
        h.passes t more (subst (λ p. IsJsonBy depth_limit t (p ++ more)) (sym (front_more place bytes h.within)) is)

long : (bytes : List ℕ) (place : ℕ) → IsLongNumber bytes place → Yields bytes (Err (LongNumber place))
long bytes place h =
    let within : place + 64 < length bytes = omega (arith, h.within) in
    let size : place + 65 ≡ place + 64 + 1 = omega arith in
    let (m, e) = runs bytes (place + 64) (subst (AllGood bytes) size h.before) in
    let (n, s) = steps bytes (place + 64) m e within (subst (λ k. BeginsJson (take k bytes)) size h.begins) in
    let sound = run-sound start m (take (place + 64) bytes) tt e in
    let most : IsCounted 65 n = step-counted 64 m (get_or bytes (place + 64) 0) n sound (within_counted m (within-last start m (take (place + 64) bytes) refl e)) s in
    inl (record { place = place + 64; state = m; within = within; run = e; stops = (n, s, too_long n place most (never m n e s within size)); known = λ k. absurd (cc) })
  where
    never : (m n : State) → run_within start (take (place + 64) bytes) ≡ Some m → step m (get_or bytes (place + 64) 0) ≡ Some n → place + 64 < length bytes → place + 65 ≡ place + 64 + 1 → ((last : ℕ) → FitsEnd (number_limit_before last) n last) → ⊥
    never m n e s within size ends =
        let (t, more, is) = completes number_limit_before m n (take (place + 64) bytes) (get_or bytes (place + 64) 0) number_allows e s ends in
        h.passes t more (subst (λ p. IsJsonBy (number_limit_before (length more)) t (p ++ more)) (sym (ap (λ k. take k bytes) size ∙ front_more (place + 64) bytes within)) is)

yields : (bytes : List ℕ) (x : Result Tree JsonFault) → Reading bytes x → Yields bytes x
yields bytes (Ok t) h = accepts t bytes h
yields bytes (Err (NotJson p)) h = not_json bytes p h
yields bytes (Err (TooDeep p)) h = deep bytes p h
yields bytes (Err (LongNumber p)) h = long bytes p h
yields bytes (Err NoMemory) h = absurd h

pub readings_agree : ReadingsAgree
readings_agree bytes x y h k = yields_agree bytes x y (yields bytes x h) (yields bytes y k)

-- What it yields, the bytes are.

pub fault_reading : (bytes : List ℕ) (fault : JsonFault) → IsFaultOf bytes fault → (fault ≡ NoMemory) ⊎ Reading bytes (Err fault)
fault_reading bytes (NotJson p) h = inr h
fault_reading bytes (TooDeep p) h = inr h
fault_reading bytes (LongNumber p) h = inr h
fault_reading bytes NoMemory h = inl refl

reading : (bytes : List ℕ) (x : Result Tree JsonFault) → Yields bytes x → Reading bytes x
reading bytes (Ok t) (m, e, is) = accepted m t bytes e is
reading bytes (Err fault) (inl s) = by (fault_reading bytes fault (stop bytes s.place s.state fault s.run s.within s.stops))
  where
    by : (fault ≡ NoMemory) ⊎ Reading bytes (Err fault) → Reading bytes (Err fault)
    by (inl memory) = absurd (s.known memory)
    by (inr h) = h
reading bytes (Err fault) (inr s) = subst (λ f. Reading bytes (Err f)) (sym s.is) (end_fault bytes s.state s.run s.none)

-- It yields something.

at_whole : (bytes : List ℕ) (m : State) → run_within start bytes ≡ Some m → (x : Result Tree JsonFault) × Yields bytes x
at_whole bytes m e = by (result m) refl
  where
    by : (o : Option Tree) → result m ≡ o → (x : Result Tree JsonFault) × Yields bytes x
    by (Some t) is = (Ok t, (m, e, is))
    by None is = (Err (NotJson (length bytes)), inr (record { state = m; run = e; none = is; is = refl }))

-- at the byte at the place
module _ (bytes : List ℕ) (place : ℕ) (m : State) (within : place < length bytes) (e : run_within start (take place bytes) ≡ Some m) where
  at_limit : (n : State) → step m (get_or bytes place 0) ≡ Some n → IsCounted (place + 1) n → is_within n ≡ false → (fault : JsonFault) × StopsAt bytes fault
  at_limit start s c beyond = absurd (cc)
  at_limit (mark ms) s c beyond = absurd (cc)
  at_limit (value frames) s c beyond = absurd (cc)
  at_limit (first_item frames) s c beyond = (TooDeep place, record { place = place; state = m; within = within; run = e; stops = (first_item frames, s, (beyond, refl)); known = λ k. absurd (cc) })
  at_limit (first_name frames) s c beyond = (TooDeep place, record { place = place; state = m; within = within; run = e; stops = (first_name frames, s, (beyond, refl)); known = λ k. absurd (cc) })
  at_limit (name es frames) s c beyond = absurd (cc)
  at_limit (colon es u frames) s c beyond = absurd (cc)
  at_limit (after_item ts frames) s c beyond = absurd (cc)
  at_limit (after_member es frames) s c beyond = absurd (cc)
  at_limit (word cs v frames) s c beyond = absurd (cc)
  at_limit (numeral phase n frames) s c beyond =
      let size : place + 1 - n.length + n.length ≡ place + 1 = omega (arith, c) in
      (LongNumber (place + 1 - n.length), record { place = place; state = m; within = within; run = e; stops = (numeral phase n frames, s, (beyond, size)); known = λ k. absurd (cc) })
  at_limit (characters role u w frames) s c beyond = absurd (cc)
  at_limit (done v) s c beyond = absurd (cc)

  at_byte : ((n : State) → run_within start (take (place + 1) bytes) ≡ Some n → (x : Result Tree JsonFault) × Yields bytes x) → (x : Result Tree JsonFault) × Yields bytes x
  at_byte on = by (step m (get_or bytes place 0)) refl
    where
      kept : (n : State) (c : Bool) → step m (get_or bytes place 0) ≡ Some n → is_within n ≡ c → (x : Result Tree JsonFault) × Yields bytes x
      kept n true s is = on n (turn bytes place m n e within (s, is))
      kept n false s is =
          let sound = run-sound start m (take place bytes) tt e in
          let counted = step-counted place m (get_or bytes place 0) n sound (counted_front bytes place m (omega (arith, within)) e) s in
          let (fault, stopped) = at_limit n s counted is in
          (Err fault, inl stopped)

      by : (o : Option State) → step m (get_or bytes place 0) ≡ o → (x : Result Tree JsonFault) × Yields bytes x
      by None s = (Err (NotJson place), inl (record { place = place; state = m; within = within; run = e; stops = (s, refl); known = λ k. absurd (cc) }))
      by (Some n) s = kept n (is_within n) s refl

from_place : (bytes : List ℕ) (left place : ℕ) (m : State) → left + place ≡ length bytes → run_within start (take place bytes) ≡ Some m → (x : Result Tree JsonFault) × Yields bytes x
from_place bytes zero place m size e = at_whole bytes m (at_end bytes place m (omega (arith, size)) e)
from_place bytes (suc left) place m size e = at_byte bytes place m (omega (arith, size)) e (λ n f. from_place bytes left (place + 1) n (omega (arith, size)) f)

pub every_text_is_read : EveryTextIsRead
every_text_is_read bytes = let (x, h) = from_place bytes (length bytes) 0 start (omega arith) refl in (x, reading bytes x h)
