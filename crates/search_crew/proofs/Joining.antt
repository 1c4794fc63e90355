-- What workers owe adds up.
use Rattle.std.proofs.Common.{◌≡◌, ℕ, ◌+◌, max, List, [], ◌∷◌, ◌++◌, filter, sum_by, refl, ap, ◌∙◌, arith}
use Rattle.std.proofs.lemmas.List.Elements.{All-append, All-nil, All-weaker, filter-append}
use Rattle.std.proofs.lemmas.List.Sums.{sum_by-append, sum_by-cons}
use Rattle.cell_split.specs.declared.verdict.Leaf.{Leaf}
use Rattle.cell_split.specs.Judges.{Content}
use Rattle.cell_split.specs.Tree.{all_leaves}
use Rattle.cell_split.proofs.Every.{Every}
use Rattle.plain_search.specs.Harvests.{is_above}
use Rattle.search_worker.specs.Owing.{IsTold, Owes, below, pushed_by, taken_by}
use Rattle.search_worker.specs.Workers.{logs_of}
use Rattle.std.specs.Prelude.{Contains}
use Rattle.search_crew.specs.Crews.{WeighAs}
use Rattle.task_deque.specs.declared.handles.Thief.{Thief}
use Rattle.task_deque.specs.declared.job.Job.{Job}
use Rattle.task_deque.specs.declared.rule.Log.{Log}
use Rattle.task_deque.specs.Ends.{thief_log}
use Rattle.task_deque.specs.Rule.{IsSettled, log}

pub pushed-append : (weight : Job → ℕ) (xs ys : List Log) → pushed_by (xs ++ ys) weight ≡ pushed_by xs weight + pushed_by ys weight
pushed-append weight xs ys = sum_by-append (λ (v : Log). sum_by weight v.pushed) xs ys

pub taken-append : (weight : Job → ℕ) (xs ys : List Log) → taken_by (xs ++ ys) weight ≡ taken_by xs weight + taken_by ys weight
taken-append weight xs ys = sum_by-append (λ (v : Log). sum_by weight v.taken) xs ys

pub pushed-cons : (weight : Job → ℕ) (v : Log) (vs : List Log) → pushed_by (v ∷ vs) weight ≡ sum_by weight v.pushed + pushed_by vs weight
pushed-cons weight v vs = sum_by-cons (λ (v : Log). sum_by weight v.pushed) v vs

pub taken-cons : (weight : Job → ℕ) (v : Log) (vs : List Log) → taken_by (v ∷ vs) weight ≡ sum_by weight v.taken + taken_by vs weight
taken-cons weight v vs = sum_by-cons (λ (v : Log). sum_by weight v.taken) v vs

-- nothing was pushed or taken by handles that are new
pub blank_logs : {C : Type 0} (thieves : List (Thief C)) → Every (λ t. thief_log t ≡ log 1 [] []) thieves → WeighAs (logs_of thieves) []
blank_logs [] h = record { pushed = λ w. refl; taken = λ w. refl }
blank_logs (t ∷ ts) h =
    let rest = blank_logs ts h.1 in record {
      pushed = λ w. let none : sum_by w (thief_log t).pushed ≡ 0 = ap (λ (v : Log). sum_by w v.pushed) h.0 in omega (arith, none, rest.pushed w, pushed-cons w (thief_log t) (logs_of ts));
      taken = λ w. let none : sum_by w (thief_log t).taken ≡ 0 = ap (λ (v : Log). sum_by w v.taken) h.0 in omega (arith, none, rest.taken w, taken-cons w (thief_log t) (logs_of ts));
    }

module _ (c : Content) where
  -- nothing is kept, and nothing was given
  pub owes-none : (keeps : List Leaf → Type 0) (seen : ℕ → ℕ) → keeps [] → Owes c keeps seen [] [] []
  owes-none keeps seen held = record {
    kept = [];
    held = held;
    balance = λ ordinals h weight. refl;
    told = All-nil (IsTold seen);
    part = All-nil (Contains (all_leaves c));
  }

  -- logs and jobs that weigh the same
  pub owes-as : (keeps : List Leaf → Type 0) (seen : ℕ → ℕ) (logs others : List Log) (given more : List Job) → WeighAs others logs → ((weight : Job → ℕ) → sum_by weight more ≡ sum_by weight given)
      → Owes c keeps seen logs given [] → Owes c keeps seen others more []
  owes-as keeps seen logs others given more same all owes = record {
    kept = owes.kept;
    held = owes.held;
    balance = λ ordinals h weight.
        let w = below c ordinals weight in
        omega (arith, owes.balance ordinals h weight, same.pushed w, same.taken w, all w);
    told = owes.told;
    part = owes.part;
  }

  -- what stands in its deque was given to a worker that has done nothing yet
  pub owes-first : {C : Type 0} (keeps : List Leaf → Type 0) (seen : ℕ → ℕ) (v : Log) (thieves : List (Thief C)) → v.taken ≡ [] → Every (λ t. thief_log t ≡ log 1 [] []) thieves → keeps []
      → Owes c keeps seen (v ∷ logs_of thieves) v.pushed []
  owes-first keeps seen v thieves untouched blank held =
      let same = blank_logs thieves blank in record {
        kept = [];
        held = held;
        balance = λ ordinals h weight.
            let w = below c ordinals weight in
            let none : sum_by w v.taken ≡ 0 = ap (λ (l : List Job). sum_by w l) untouched in
            omega (arith, none, same.pushed w, same.taken w, pushed-cons w v (logs_of thieves), taken-cons w v (logs_of thieves));
        told = All-nil (IsTold seen);
        part = All-nil (Contains (all_leaves c));
      }

  -- two that are put together
  pub owes-both : (keeps others all : List Leaf → Type 0) (s t u : ℕ → ℕ) (v w : List Log) (f g : List Job) → ((k : ℕ) → u k ≡ max (s k) (t k)) → ((kept more : List Leaf) → keeps kept → others more → all (kept ++ more))
      → Owes c keeps s v f [] → Owes c others t w g [] → Owes c all u (v ++ w) (f ++ g) []
  owes-both keeps others all s t u v w f g seen held first second =
      let a = first.kept in
      let b = second.kept in record {
        kept = a ++ b;
        held = held a b first.held second.held;
        balance = λ ordinals h weight.
            let x = below c ordinals weight in
            let test = is_above ordinals in
            let both = ap (sum_by weight) (filter-append test a b) ∙ sum_by-append weight (filter test a) (filter test b) in
            let left = first.balance ordinals (λ k lt. omega (arith, seen k, h k lt)) weight in
            let right = second.balance ordinals (λ k lt. omega (arith, seen k, h k lt)) weight in
            omega (arith, both, left, right, pushed-append x v w, taken-append x v w, sum_by-append x f g);
        told = All-append (IsTold u) a b
            (All-weaker (IsTold s) (IsTold u) (λ l h. record { told = λ e. let k = h.told e in omega (arith, k, seen l.task.problem) }) a first.told)
            (All-weaker (IsTold t) (IsTold u) (λ l h. record { told = λ e. let k = h.told e in omega (arith, k, seen l.task.problem) }) b second.told);
        part = All-append (Contains (all_leaves c)) a b first.part second.part;
      }

  -- a deque of which all was taken
  pub owes-settled : (keeps : List Leaf → Type 0) (seen : ℕ → ℕ) (v : Log) (logs : List Log) (given : List Job) → IsSettled v → Owes c keeps seen (v ∷ logs) given [] → Owes c keeps seen logs given []
  owes-settled keeps seen v logs given settled owes = record {
    kept = owes.kept;
    held = owes.held;
    balance = λ ordinals h weight.
        let w = below c ordinals weight in
        omega (arith, owes.balance ordinals h weight, settled w, pushed-cons w v logs, taken-cons w v logs);
    told = owes.told;
    part = owes.part;
  }
