-- Each step of a worker keeps what is owed.
use Rattle.std.proofs.Common.{◌≡◌, ℕ, ◌+◌, ◌-◌, ◌<◌, ◌≤◌, Bool, true, false, List, [], ◌∷◌, ◌++◌, length, filter, sum_by, map, set, take, get_or, All, Contains, sym, refl, ap, ◌∙◌, subst, arith}
use Rattle.std.specs.List.{flat_map}
use Rattle.std.specs.List.Sorted.{IsPermutation}
use Rattle.std.proofs.lemmas.List.{take_all, take_more}
use Rattle.std.proofs.lemmas.List.Elements.{All-append, All-from_recursion, All-weaker, filter-append}
use Rattle.std.proofs.lemmas.List.Sorted.{IsPermutation-append_left, IsPermutation-map, IsPermutation-to_front, sum_by-IsPermutation}
use Rattle.std.proofs.lemmas.List.Sums.{sum_by-append, sum_by-cons, sum_by-set}
use Rattle.cell_split.specs.declared.cell.Cell.{Cell}
use Rattle.cell_split.specs.declared.cell.Task.{Task}
use Rattle.cell_split.specs.declared.verdict.Leaf.{Leaf}
use Rattle.cell_split.specs.Entries.{last_ordinal}
use Rattle.cell_split.specs.Judges.{Content, IsTask}
use Rattle.cell_split.specs.Split.{children_of}
use Rattle.cell_split.specs.Tree.{IsLeafOf, all_leaves, child_tasks, leaves, task_of}
use Rattle.cell_split.specs.Verdicts.{is_refuted, is_split}
use Rattle.cell_split.proofs.LeafLemmas.{leaves_under}
use Rattle.cell_split.proofs.TreeLemmas.{leaves_of_split}
use Rattle.plain_search.specs.Harvests.{is_above}
use Rattle.plain_search.proofs.Collecting.{none_above}
use Rattle.plain_search.proofs.Reordered.{weight_reordered}
use Rattle.task_deque.specs.declared.job.Job.{Job}
use Rattle.task_deque.specs.declared.rule.Log.{Log}
use Rattle.task_deque.specs.Rule.{log}
use Rattle.search_worker.specs.Owing.{AreSeen, IsTold, Owes, Takes, below, job_of, jobs_of}
use Rattle.search_worker.proofs.Trees.{leaf_alone, leaf_among}

-- cells weigh what the leaves below them weigh
jobs_weigh : (c : Content) (ordinals : ℕ → ℕ) (weight : Leaf → ℕ) (k : ℕ) (cells : List Cell) → sum_by (below c ordinals weight) (jobs_of k cells) ≡ sum_by weight (filter (is_above ordinals) (flat_map (leaves c) (map (task_of k) cells)))
jobs_weigh c ordinals weight k [] = refl
jobs_weigh c ordinals weight k (d ∷ cells) =
    let here = leaves c (task_of k d) in
    let rest = flat_map (leaves c) (map (task_of k) cells) in
    let both = ap (sum_by weight) (filter-append (is_above ordinals) here rest) ∙ sum_by-append weight (filter (is_above ordinals) here) (filter (is_above ordinals) rest) in
    let more = jobs_weigh c ordinals weight k cells in
    omega (arith, both, more, sum_by-cons (below c ordinals weight) (job_of (task_of k d) false) (jobs_of k cells))

-- one log took a job more
pub takes-at : (logs : List Log) (i : ℕ) (w d : Log) (job : Job) → i < length logs → w ≡ log (get_or logs i d).parts (get_or logs i d).pushed ((get_or logs i d).taken ++ job ∷ [])
    → Takes logs (set logs i w) (job ∷ [])
takes-at logs i w d job inside is =
    let v = get_or logs i d in
    record {
      pushed = λ weight.
          let f : Log → ℕ = λ v. sum_by weight v.pushed in
          let same : f w ≡ f v = ap f is in
          omega (arith, same, sum_by-set f logs i w d inside);
      taken = λ weight.
          let f : Log → ℕ = λ v. sum_by weight v.taken in
          let more : f w ≡ f v + sum_by weight (job ∷ []) = ap f is ∙ sum_by-append weight v.taken (job ∷ []) in
          omega (arith, more, sum_by-set f logs i w d inside);
    }

-- the first log took it
pub takes-first : (v w : Log) (logs : List Log) (job : Job) → w ≡ log v.parts v.pushed (v.taken ++ job ∷ []) → Takes (v ∷ logs) (w ∷ logs) (job ∷ [])
takes-first v w logs job is = takes-at (v ∷ logs) 0 w v job (omega arith) is

-- what was told stays told
told-risen : (seen now : ℕ → ℕ) (kept : List Leaf) → ((k : ℕ) → seen k ≤ now k) → All (IsTold seen) kept → All (IsTold now) kept
told-risen seen now kept risen = All-weaker (IsTold seen) (IsTold now) (λ l t. record { told = λ r. omega (arith, t.told r, risen l.task.problem) }) kept

module _ (c : Content) (keeps : List Leaf → Type 0) (given : List Job) where
  -- more was seen
  pub owes-risen : (seen now : ℕ → ℕ) (logs : List Log) (hand : List Job) → ((k : ℕ) → seen k ≤ now k) → Owes c keeps seen logs given hand → Owes c keeps now logs given hand
  owes-risen seen now logs hand risen owes = record {
    kept = owes.kept;
    held = owes.held;
    balance = λ ordinals known weight. owes.balance ordinals (λ k h. omega (arith, risen k, known k h)) weight;
    told = told-risen seen now owes.kept risen owes.told;
    part = owes.part;
  }

  -- as much is in hand
  owes-same : (seen : ℕ → ℕ) (logs : List Log) (hand other : List Job)
      → ((ordinals : ℕ → ℕ) → AreSeen c seen ordinals → (weight : Leaf → ℕ) → sum_by (below c ordinals weight) other ≡ sum_by (below c ordinals weight) hand)
      → Owes c keeps seen logs given hand → Owes c keeps seen logs given other
  owes-same seen logs hand other same owes = record {
    kept = owes.kept;
    held = owes.held;
    balance = λ ordinals known weight. omega (arith, owes.balance ordinals known weight, same ordinals known weight);
    told = owes.told;
    part = owes.part;
  }

  -- a task that is left out, since a rank at or above its last one was seen
  pub owes-cut : (seen : ℕ → ℕ) (logs : List Log) (hand : List Job) (t : Task) (splits : Bool) → IsTask c t → t.cell.last < seen t.problem
      → Owes c keeps seen logs given (job_of t splits ∷ hand) → Owes c keeps seen logs given hand
  owes-cut seen logs hand t splits is low =
      owes-same seen logs (job_of t splits ∷ hand) hand
      (λ ordinals known weight.
      let none : below c ordinals weight (job_of t splits) ≡ 0 = ap (sum_by weight) (none_above ordinals t (leaves c t) (leaves_under c t is) (omega (arith, low, known t.problem is.known))) in
      omega (arith, none, sum_by-cons (below c ordinals weight) (job_of t splits) hand))

  -- a leaf that is kept, and told where it is refuted
  pub owes-leaf : (after : List Leaf → Type 0) (seen now : ℕ → ℕ) (logs : List Log) (hand : List Job) (l : Leaf) (splits : Bool) → IsLeafOf c l → l.task.problem < c.problems
      → ((kept : List Leaf) → keeps kept → after (kept ++ l ∷ [])) → ((k : ℕ) → seen k ≤ now k) → (is_refuted l.verdict ≡ true → last_ordinal l ≤ now l.task.problem)
      → Owes c keeps seen logs given (job_of l.task splits ∷ hand) → Owes c after now logs given hand
  owes-leaf after seen now logs hand l splits is known more risen told owes =
      let kept = owes.kept in
      record {
        kept = kept ++ l ∷ [];
        held = more kept owes.held;
        balance = λ ordinals known weight.
            let f = below c ordinals weight in
            let test = is_above ordinals in
            let balance = owes.balance ordinals (λ k h. omega (arith, risen k, known k h)) weight in
            let both = ap (sum_by weight) (filter-append test kept (l ∷ [])) ∙ sum_by-append weight (filter test kept) (filter test (l ∷ [])) in
            let own : f (job_of l.task splits) ≡ sum_by weight (filter test (l ∷ [])) = ap (λ (ls : List Leaf). sum_by weight (filter test ls)) (leaf_alone c l is) in
            omega (arith, balance, both, own, sum_by-cons f (job_of l.task splits) hand);
        told = All-append (IsTold now) kept (l ∷ []) (told-risen seen now kept risen owes.told) (All-from_recursion (IsTold now) (l ∷ []) (record { told = told }, tt));
        part = All-append (Contains (all_leaves c)) kept (l ∷ []) owes.part (All-from_recursion (Contains (all_leaves c)) (l ∷ []) (leaf_among c l is known, tt));
      }

  -- the children of a split task for the task
  pub owes-children : (seen : ℕ → ℕ) (logs : List Log) (hand : List Job) (t : Task) (splits : Bool) (cells : List Cell) (n : ℕ) → is_split (c.verdict t) ≡ true → IsPermutation (children_of t.cell) cells → length cells ≤ n
      → Owes c keeps seen logs given (job_of t splits ∷ hand) → Owes c keeps seen logs given (jobs_of t.problem (take n cells) ++ hand)
  owes-children seen logs hand t splits cells n split same all =
      rw (take_all n cells all) (owes-same seen logs (job_of t splits ∷ hand) (jobs_of t.problem cells ++ hand)
      (λ ordinals known weight.
      let f = below c ordinals weight in
      let parts : f (job_of t splits) ≡ sum_by weight (filter (is_above ordinals) (flat_map (leaves c) (map (task_of t.problem) cells))) =
      ap (λ (ls : List Leaf). sum_by weight (filter (is_above ordinals) ls)) (leaves_of_split c t split)
      ∙ weight_reordered (leaves c) weight (is_above ordinals) (child_tasks t) (map (task_of t.problem) cells) (IsPermutation-map (task_of t.problem) (children_of t.cell) cells same) in
      omega (arith, parts, jobs_weigh c ordinals weight t.problem cells, sum_by-cons f (job_of t splits) hand, sum_by-append f (jobs_of t.problem cells) hand)))

  -- the last of n cells comes first
  pub owes-next : (seen : ℕ → ℕ) (logs : List Log) (hand : List Job) (k : ℕ) (cells : List Cell) (n : ℕ) (cell : Cell) → 0 < n → n ≤ length cells → get_or cells (n - 1) cell ≡ cell
      → Owes c keeps seen logs given (jobs_of k (take n cells) ++ hand) → Owes c keeps seen logs given (job_of (task_of k cell) false ∷ (jobs_of k (take (n - 1) cells) ++ hand))
  owes-next seen logs hand k cells n cell some inside is =
      let job : Cell → Job = λ cell. job_of (task_of k cell) false in
      let more = take n cells in
      let less = take (n - 1) cells in
      let snoc : more ≡ less ++ cell ∷ [] =
      let one : n ≡ n - 1 + 1 = omega arith in
      ap (λ (m : ℕ). take m cells) one ∙ (take_more cells (n - 1) cell (omega arith) ∙ ap (λ (x : Cell). less ++ x ∷ []) is) in
      let order : IsPermutation more (cell ∷ less) = subst (λ (l : List Cell). IsPermutation l (cell ∷ less)) (sym snoc) (IsPermutation-to_front less cell) in
      let jobs = IsPermutation-append_left hand (jobs_of k more) (job cell ∷ jobs_of k less) (IsPermutation-map job more (cell ∷ less) order) in
      owes-same seen logs (jobs_of k more ++ hand) (job cell ∷ (jobs_of k less ++ hand)) (λ ordinals known weight. sum_by-IsPermutation (below c ordinals weight) (jobs_of k more ++ hand) (job cell ∷ (jobs_of k less ++ hand)) jobs)

  -- jobs were taken into the hand
  pub owes-taken : (seen : ℕ → ℕ) (logs now : List Log) (hand jobs : List Job) → Takes logs now jobs → Owes c keeps seen logs given hand → Owes c keeps seen now given (jobs ++ hand)
  owes-taken seen logs now hand jobs takes owes = record {
    kept = owes.kept;
    held = owes.held;
    balance = λ ordinals known weight.
        let f = below c ordinals weight in
        omega (arith, owes.balance ordinals known weight, takes.pushed f, takes.taken f, sum_by-append f jobs hand);
    told = owes.told;
    part = owes.part;
  }
