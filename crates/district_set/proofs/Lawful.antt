-- A set of lawful judges is lawful.
use Rattle.std.specs.Prelude.{◌/◌, ◌%◌, ◌<◌, ◌≤◌, List, [], ◌∷◌, length, map, refl}
use Rattle.std.proofs.Common.{arith, sym}
use Rattle.std.specs.List.{AllByRecursion as Every}
use Rattle.std.proofs.lemmas.List.{length-map}
use Rattle.std.proofs.lemmas.List.Elements.{All-from_recursion}
use Rattle.cell_split.specs.Judges.{Content, IsLawful}
use Rattle.cell_split.proofs.Renumbering.{judges_of_lawful_ones}
use Rattle.district_set.specs.Sets.{AreAlike, judge_at, nobody, set_content}

-- what is true of the content of every judge is true of those of a list
pub each : {J : Type 0} (content : J → Content) → ((j : J) → IsLawful (content j)) → (js : List J) → Every IsLawful (map content js)
each content lawful [] = tt
each content lawful (j ∷ js) = (lawful j, each content lawful js)

pub sets_are_lawful : (judges : List Content) → 0 < length judges → AreAlike judges → Every IsLawful judges → IsLawful (set_content judges)
sets_are_lawful judges some alike lawful =
    let law = All-from_recursion IsLawful judges lawful in
    judges_of_lawful_ones (set_content judges) (law 0 nobody some).root (λ j known.
    let inside : j / 7 < length judges = omega arith in
    record {
      other = judge_at judges (j / 7);
      lawful = law (j / 7) nobody inside;
      k = j % 7;
      known = (let same = (alike (j / 7) nobody inside).seven in omega (arith, same));
      same = record { same_root = sym (alike (j / 7) nobody inside).same_root; same_verdicts = λ cell is. refl };
    })

pub lawful_set : {J : Type 0} (content : J → Content) → ((j : J) → IsLawful (content j)) → (js : List J) → 1 ≤ length js → AreAlike (map content js) →
    IsLawful (set_content (map content js))
lawful_set content lawful js some alike =
    sets_are_lawful (map content js) (omega (arith, some, length-map js content)) alike (each content lawful js)
