-- What a line shows is right, whoever made it.
use Rattle.std.proofs.Common.{◌≡◌, ℕ, zero, suc, ◌+◌, ◌<◌, true, List, length, map, ℤ, Option, Some, Ok, sym, ap, ◌∙◌, subst, arith}
use Rattle.std.specs.Prelude.{◌==◌, IfSome, None, zip}
use Rattle.std.proofs.lemmas.Bool.Decides.{nat_tests}
use Rattle.std.proofs.lemmas.List.{length-map}
use Rattle.std.proofs.lemmas.List.Elements.{All-from_recursion, recursion_from_All}
use Rattle.meeus_terms.proofs.SunLaws.{suns_are_sound}
use Rattle.method_table.specs.Row.{Row, row_of}
use Rattle.ring_survey.specs.Faults.{first_fault}
use Rattle.ring_survey.specs.Polygons.{Polygon}
use Rattle.plane_edges.proofs.Truth.{and_right}
use Rattle.cell_split.specs.declared.cell.Cell.{Cell}
use Rattle.cell_split.specs.declared.verdict.Entry.{Entry}
use Rattle.cell_split.specs.declared.verdict.Entry.TheVariants.{Minute, Never, Open, Whole}
use Rattle.cell_split.specs.Cells.{IsRoot, is_smallest}
use Rattle.cell_split.specs.Judges.{Content, IsLawful}
use Rattle.cell_split.specs.Verdicts.{is_open}
use Rattle.cell_split.proofs.Every.{Every, Every-weaker, somewhere_from_Any}
use Rattle.cell_judge.specs.EntryLaws.{LiesInRoot, TellsTruth}
use Rattle.cell_judge.proofs.Lawful.{skies_are_lawful}
use Rattle.cell_judge.specs.RightEntries.{IsRight}
use Rattle.cell_judge.specs.Scenes.{IsTrueVerdict, Scene}
use Rattle.cell_judge.specs.Skies.{row_at, sky_content}
use Rattle.cell_judge.specs.SkyLaws.{IsRow}
use Rattle.cell_judge.specs.declared.sky.Sky.{Sky}
use Rattle.cell_judge.proofs.Entries.{AreCovering, IsTrueLeaf, entry_right}
use Rattle.cell_judge.proofs.EntryLaws.{one_decided_entry_is_right}
use Rattle.cell_judge.proofs.ExtentLemmas.{districts_lie_in_roots_over_them}
use Rattle.cell_judge.proofs.SkyLaws.{problems_are_rows, skies_tell_the_truth}
use Rattle.covering_check.specs.Checks.{shown_of}
use Rattle.covering_check.specs.Truth.{IsJudged, IsShown}
use Rattle.covering_check.proofs.TruthLemmas.{accepted_is_true}
use Rattle.night_portion.specs.Minutes.{night_of}
use Rattle.night_portion.specs.SafeNights.{AreStarts}
use Rattle.night_portion.specs.Sun.{repeated}
use Rattle.order_covering.specs.Covering.{night_content}
use Rattle.order_table.specs.Days.{DayRows, NightRows}
use Rattle.order_table.specs.Made.{day_of}
use Rattle.order_table.specs.Made.{night_of as rows_of_night}
use Rattle.order_table.specs.Printing.{IsPrintable}
use Rattle.order_table.specs.RightTable.{AreRightEntries, IsRightDay, IsRightEntry, IsRightNight, scene_of}
use Rattle.order_table.specs.Table.{day_found, night_found}
use Rattle.order_table.specs.Trees.{night_columns}
use Rattle.order_table.proofs.NightLemmas.{right_night}
use Rattle.order_table.specs.declared.day.Day.{Day}
use Rattle.order_table.specs.declared.day.Night.{Night}
use Rattle.method_table.specs.declared.sun.SunChoice.{SunChoice}
use Rattle.shown_table.specs.Shown.{columns_shown, day_shown, entries_shown, night_shown, shown_at, sun_shown_at}
use Rattle.shown_table.proofs.ShowingLemmas.{IsWeekly, each_of_columns, each_of_sun, is_day_shown, is_some_night, seven_shown, shown_count}

-- judged cells that cover the ranks above the greatest refuted one
judged_right : (c : Content) → IsLawful c → (k : ℕ) (s : Scene) → LiesInRoot s c.root → TellsTruth c k s → (e : Entry) → IsShown c k e → IsRight s c.root e
judged_right c law k s inside truth e shown =
    subst (IsRight s c.root) (sym shown.entry) (entry_right s c.root shown.cells each covering)
  where
    each : Every (IsTrueLeaf s c.root) shown.cells
    each =
        Every-weaker (IsJudged c k) (IsTrueLeaf s c.root) shown.cells
        (λ l h. record {
          of_root = h.task.cell;
          whole = h.whole;
          open_last = λ e. law.open_last l.task h.task (ap is_open (sym h.judged) ∙ e);
          is_true = subst (IsTrueVerdict s l.task.cell) (sym h.judged) (truth l.task h.task h.same);
        })
        (recursion_from_All (IsJudged c k) shown.cells shown.judged)

    covering : AreCovering s shown.cells
    covering p place rank above last =
        let ranks = law.root in
        somewhere_from_Any _ shown.cells
        (shown.cover p rank above (record { in_box = inside p place; from_first = omega (arith, ranks.first); to_last = omega (arith, ranks.last, last) }))

-- the entry that a line shows of a row
pub line_is_right : (sun : SunChoice) (polygons : List Polygon) (root : Cell) (rows : List Row) (k : ℕ) → first_fault polygons ≡ None →
    IsRoot root → LiesInRoot (scene_of sun polygons (row_at rows k)) root → k < length rows → IsRow (row_at rows k) →
    (column date line : List ℕ) (e : Entry) → shown_of (sky_content sun polygons rows root) k column date line ≡ Ok e →
    IsRightEntry (scene_of sun polygons (row_at rows k)) root e
line_is_right sun polygons root rows k faultless is_root lies known row column date line e shown =
    let scene = scene_of sun polygons (row_at rows k) in
    let c = sky_content sun polygons rows root in
    let law = skies_are_lawful sun polygons rows root is_root in
    let right = judged_right c law k scene lies (skies_tell_the_truth sun polygons rows root faultless is_root k known row) e
    (accepted_is_true c law k known column date line e shown) in
    record {
      right = right;
      alone = λ decided other decided' right'.
          one_decided_entry_is_right scene (suns_are_sound sun).source row.kind root other e decided' decided right' right;
    }

-- the entry that a line shows of sunrise or sunset
pub sun_is_right : (sun : SunChoice) (polygons : List Polygon) (root : Cell) (rows : List Row) (k : ℕ) → first_fault polygons ≡ None →
    IsRoot root → LiesInRoot (scene_of sun polygons (row_at rows k)) root → k < 2 → IsRow (row_at rows k) →
    (column date line : List ℕ) (e : Entry) → shown_of (night_content sun polygons root rows) k column date line ≡ Ok e →
    IsRightEntry (scene_of sun polygons (row_at rows k)) root e
sun_is_right sun polygons root rows zero faultless is_root lies known row column date line e shown =
    line_is_right sun polygons root (repeated rows) 0 faultless is_root lies (omega arith) row column date line e shown
sun_is_right sun polygons root rows (suc zero) faultless is_root lies known row column date line e shown =
    line_is_right sun polygons root (repeated rows) 1 faultless is_root lies (omega arith) row column date line e shown
sun_is_right sun polygons root rows (suc (suc k)) faultless is_root lies known row column date line e shown = absurd (omega (arith, known))

-- each line shows right entries of a night
abbrev pub IsFitNight : SunChoice → List Polygon → Cell → ℤ → NightRows → Type 0
IsFitNight sun polygons root day night =
    (k : ℕ) → k < 2 → (line : List ℕ) (e : Entry) → sun_shown_at sun polygons root day night.rows k line ≡ Ok e →
    IsRightEntry (scene_of sun polygons (row_at night.rows k)) root e

-- and of a day
pub record IsFit (sun : SunChoice) (polygons : List Polygon) (root : Cell) (day : DayRows) : Type 0 where
  pub weekly : IsWeekly day
  pub right : (k : ℕ) → k < 7 → (line : List ℕ) (e : Entry) → shown_at sun polygons root day k line ≡ Ok e →
      IsRightEntry (scene_of sun polygons (row_at day.rows k)) root e
  pub night : IfSome day.night (IsFitNight sun polygons root day.number)

-- of its night the least minutes are sought
abbrev pub IsStarting : DayRows → Type 0
IsStarting day = IfSome day.night (λ night. (es ns : List Entry) → AreStarts (night_of day.rows es night.rows ns))

-- the entries of a night that lines show
night_is_right : (sun : SunChoice) (polygons : List Polygon) (root : Cell) (rows : List Row) (day : ℤ) (night : Option NightRows) →
    length rows ≡ 7 → IfSome night (λ n. length n.rows ≡ 2) → IfSome night (IsFitNight sun polygons root day) →
    IfSome night (λ n. (es ns : List Entry) → AreStarts (night_of rows es n.rows ns)) →
    (es : List Entry) → length es ≡ 7 → AreRightEntries sun polygons root (zip rows es) →
    (number : ℕ) (text : List ℕ) (ns : Option (List Entry)) (rest : List ℕ) → night_shown sun polygons root day night number text ≡ Ok (ns, rest) →
    IfSome (night_found night ns) (IsRightNight sun polygons root (zip rows es))
unfolding night_shown
night_is_right sun polygons root rows day None seven two fit starts es many right number text ns rest shown = tt
night_is_right sun polygons root rows day (Some night) seven two fit starts es many right number text ns rest shown =
    let shows = sun_shown_at sun polygons root day night.rows in
    let is = is_some_night (entries_shown shows night_columns number text) ns rest shown in
    let count = shown_count shows night_columns number text is.entries rest is.shows in
    let P = λ (row : Row) (e : Entry). IsRightEntry (scene_of sun polygons row) root e in
    let right' : AreRightEntries sun polygons root (zip night.rows is.entries) =
    All-from_recursion (λ (x : Row × Entry). P x.0 x.1) (zip night.rows is.entries)
    (each_of_sun P night.rows shows two fit number text is.entries rest is.shows) in
    subst (λ (o : Option (List Entry)). IfSome (night_found (Some night) o) (IsRightNight sun polygons root (zip rows es))) (sym is.some)
    (right_night sun polygons root night.rule night.method rows es night.rows is.entries seven (seven ∙ sym many) two (two ∙ sym count)
    (starts es is.entries) right right')

-- the entries of a day's columns that lines show
columns_are_right : (sun : SunChoice) (polygons : List Polygon) (root : Cell) (day : DayRows) → IsFit sun polygons root day →
    (number : ℕ) (text : List ℕ) (es : List Entry) (rest : List ℕ) → columns_shown sun polygons root day number text ≡ Ok (es, rest) →
    AreRightEntries sun polygons root (zip day.rows es)
columns_are_right sun polygons root day fit number text es rest shown =
    All-from_recursion (λ (x : Row × Entry). IsRightEntry (scene_of sun polygons x.0) root x.1) (zip day.rows es)
    (each_of_columns (λ row e. IsRightEntry (scene_of sun polygons row) root e) sun polygons root day fit.weekly.seven fit.right number text es rest shown)

pub day_is_right : (sun : SunChoice) (polygons : List Polygon) (root : Cell) (day : DayRows) → IsFit sun polygons root day → IsStarting day →
    (number : ℕ) (text : List ℕ) (es : List Entry) (ns : Option (List Entry)) (rest : List ℕ) →
    day_shown sun polygons root day number text ≡ Ok (es, (ns, rest)) → IsRightDay sun polygons root (day_found day es ns)
day_is_right sun polygons root day fit starts number text es ns rest shown =
    let is = is_day_shown sun polygons root day number text es ns rest shown in
    let right = columns_are_right sun polygons root day fit number text es is.between is.columns in
    record {
      entries = right;
      night = night_is_right sun polygons root day.rows day.number day.night fit.weekly.seven fit.weekly.two fit.night starts es
          (seven_shown sun polygons root day number text es is.between is.columns) right (number + 7) is.between ns rest is.night;
    }

-- ---- days as the code keeps them

pub fit_columns : (sky : Sky) (day : Day) → first_fault sky.district ≡ None → (k : ℕ) → k < 7 → (line : List ℕ) (e : Entry) →
    shown_at sky.sun sky.district sky.root (day_of day) k line ≡ Ok e →
    IsRightEntry (scene_of sky.sun sky.district (row_at (day_of day).rows k)) sky.root e
unfolding shown_at
fit_columns sky day faultless k known line e shown =
    let seven = day.seven in
    let many : length (day_of day).rows ≡ 7 = length-map day.problems row_of ∙ seven in
    let scene = scene_of sky.sun sky.district (row_at (day_of day).rows k) in
    let inside : k < length (day_of day).rows = omega (arith, known, many) in
    line_is_right sky.sun sky.district sky.root (day_of day).rows k faultless sky.lawful.root
    (districts_lie_in_roots_over_them scene sky.root faultless sky.is_over) inside (problems_are_rows day.problems day.limits k inside) _ _ line e shown

pub fit_night : (sky : Sky) (number : ℤ) (night : Night) → first_fault sky.district ≡ None →
    IsFitNight sky.sun sky.district sky.root number (rows_of_night night)
unfolding sun_shown_at
fit_night sky number night faultless k known line e shown =
    let two = night.two in
    let rows = map row_of night.problems in
    let many : length rows ≡ 2 = length-map night.problems row_of ∙ two in
    let inside : k < length rows = omega (arith, known, many) in
    sun_is_right sky.sun sky.district sky.root rows k faultless sky.lawful.root
    (districts_lie_in_roots_over_them (scene_of sky.sun sky.district (row_at rows k)) sky.root faultless sky.is_over) known
    (problems_are_rows night.problems night.limits k inside) _ _ line e shown

-- ---- right entries can be printed

same_ranks : (c : Cell) → is_smallest c ≡ true → c.last ≡ c.first
same_ranks c h = let same = and_right (c.size == 4) (c.first == c.last) h in grind (arith, nat_tests)

pub right_is_printable : (s : Scene) (root : Cell) (e : Entry) → IsRight s root e → IsPrintable e
right_is_printable s root (Minute rank) right = right.in_frame
right_is_printable s root Whole right = tt
right_is_printable s root Never right = tt
right_is_printable s root (Open safe from cell) right =
    let same = same_ranks cell right.undecided.smallest in
    let ordered = right.ordered in
    let in_frame = right.in_frame in
    let last = right.undecided.one_rank in
    (in_frame, omega (arith, ordered, in_frame), omega (arith, last, same), same)
