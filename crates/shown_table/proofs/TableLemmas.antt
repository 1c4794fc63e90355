-- The table that is shown, in pieces.
use Rattle.std.proofs.Common.{◌≡◌, ℕ, ◌+◌, ◌<◌, ◌≤◌, List, [], ◌∷◌, ◌++◌, length, map, take, drop, get_or, Option, Some, None, Result, Ok, Err, refl, sym, ap, ◌∙◌, append-nil, arith}
use Rattle.std.proofs.lemmas.List.{drop_more, map-append, map_more, take-append-drop}
use Rattle.std.proofs.lemmas.List.Concat.{flat_map-append}
use Rattle.std.proofs.lemmas.List.Sums.{sum_by-append, sum_by_push}
use Rattle.std.specs.Prelude.{sum_by}
use Rattle.source_sink.specs.Outside.{Adds}
use Rattle.source_sink.proofs.Transfers.{adds_more}
use Rattle.cell_split.specs.declared.cell.Cell.{Cell}
use Rattle.covering_check.specs.declared.fault.CoverFault.TheVariants.{NotLine}
use Rattle.outcome.specs.Writing.{Writes}
use Rattle.outcome.specs.declared.stop.Stop.{Stop}
use Rattle.outcome.proofs.Streams.{adds_nothing, stopped, then_writes, written}
use Rattle.ring_survey.specs.Polygons.{Polygon}
use Rattle.order_rule.specs.Asked.{Asked}
use Rattle.order_table.specs.Days.{DayRows, days_of}
use Rattle.order_table.specs.Made.{day_of}
use Rattle.order_table.specs.Ready.{IsReady}
use Rattle.order_table.specs.Table.{day_text, day_undecided, days_text, days_undecided, front_text}
use Rattle.order_table.specs.declared.day.Day.{Day}
use Rattle.order_table.specs.declared.ready.Ready.{Ready}
use Rattle.year_table.specs.Lines.{end_line}
use Rattle.method_table.specs.declared.sun.SunChoice.{SunChoice}
use Rattle.shown_table.specs.declared.bad.BadLine.{BadLine}
use Rattle.shown_table.specs.declared.bad.Shown.{Shown}
use Rattle.shown_table.specs.declared.bad.Shown.TheVariants.{Bad, Whole}
use Rattle.shown_table.specs.Came.{ShowsTable}
use Rattle.shown_table.specs.Made.{days_in, front_in, number_behind}
use Rattle.shown_table.specs.Shown.{ShownDays, bad_line, days_shown, last_number, lines_of, shown_days, shown_table, shown_text, text_before, with_days}
use Rattle.shown_table.proofs.ShowingLemmas.{day_first, ends_at, shown_more}

-- ---- one day more

module _ (sun : SunChoice) (polygons : List Polygon) (root : Cell) (days : List Day) (text : List ℕ) (i : ℕ) (day : Day) (number : ℕ) (behind : List ℕ) where
  abbrev So_far : ShownDays
  So_far = days_in sun polygons root (take i days) text

  abbrev One : ShownDays
  One = days_shown sun polygons root (day_of day ∷ []) number behind

  -- day i comes next, and this is what was shown before it
  pub record IsNext : Type 0 where
    pub inside : i < length days
    pub is : get_or days i day ≡ day
    pub number_is : number ≡ number_behind (take i days)
    pub end : So_far.end ≡ Ok behind

  more_is : IsNext → (after : List DayRows) → days_shown sun polygons root (map day_of (take i days) ++ after) 2 text
      ≡ with_days So_far.days (days_shown sun polygons root after number behind)
  more_is next after =
      let lines = sum_by lines_of (map day_of (take i days)) in
      let is = next.number_is in
      let same : 2 + lines ≡ number = omega (arith, is) in
      shown_more sun polygons root (map day_of (take i days)) after 2 text behind next.end
      ∙ ap (λ (m : ℕ). with_days So_far.days (days_shown sun polygons root after m behind)) same

  -- the number of the line behind its own
  pub next_number : IsNext → (next_line : ℕ) → next_line ≡ number + lines_of (day_of day) → next_line ≡ number_behind (take (i + 1) days)
  next_number next next_line is_line =
      let is = next.number_is in
      let more : sum_by lines_of (map day_of (take (i + 1) days)) ≡ sum_by lines_of (map day_of (take i days)) + lines_of (day_of day) =
      ap (sum_by lines_of) (map_more day_of days i day next.inside ∙ ap (λ (d : Day). map day_of (take i days) ++ day_of d ∷ []) next.is)
      ∙ sum_by_push lines_of (map day_of (take i days)) (day_of day) in
      omega (arith, is_line, is, more)

  next_is : IsNext → days_in sun polygons root (take (i + 1) days) text ≡ with_days So_far.days One
  next_is next =
      ap (λ ds. days_shown sun polygons root ds 2 text) (map_more day_of days i day next.inside ∙ ap (λ (d : Day). map day_of (take i days) ++ day_of d ∷ []) next.is)
      ∙ more_is next (day_of day ∷ [])

  all_is : IsNext → days_in sun polygons root days text ≡ with_days So_far.days (days_shown sun polygons root (day_of day ∷ map day_of (drop (i + 1) days)) number behind)
  all_is next =
      ap (λ ds. days_shown sun polygons root (map day_of ds) 2 text)
      (sym (take-append-drop i days) ∙ ap (λ ds. take i days ++ ds) (drop_more days i day next.inside ∙ ap (λ (d : Day). d ∷ drop (i + 1) days) next.is))
      ∙ ap (λ ds. days_shown sun polygons root ds 2 text) (map-append day_of (take i days) (day ∷ drop (i + 1) days))
      ∙ more_is next (day_of day ∷ map day_of (drop (i + 1) days))

  pub next_end : IsNext → (rest : List ℕ) → One.end ≡ Ok rest → (days_in sun polygons root (take (i + 1) days) text).end ≡ Ok rest
  next_end next rest end = ap (λ (s : ShownDays). s.end) (next_is next) ∙ end

  pub next_count : IsNext → (u v : ℕ) → u ≡ days_undecided So_far.days → v ≡ days_undecided One.days →
      u + v ≡ days_undecided (days_in sun polygons root (take (i + 1) days) text).days
  next_count next u v before here =
      ap (λ (m : ℕ). m + v) before ∙ ap (λ (m : ℕ). days_undecided So_far.days + m) here ∙ sym (sum_by-append day_undecided So_far.days One.days)
      ∙ ap (λ (s : ShownDays). days_undecided s.days) (sym (next_is next))

  both : days_text (So_far.days ++ One.days) ≡ days_text So_far.days ++ days_text One.days
  both = flat_map-append day_text So_far.days One.days

  pub next_written : IsNext → (old mid new : Option (List ℕ)) → Adds old mid (days_text So_far.days) → Adds mid new (days_text One.days) →
      Adds old new (days_text (days_in sun polygons root (take (i + 1) days) text).days)
  next_written next old mid new before here =
      adds_more old mid new (days_text So_far.days) (days_text One.days) (days_text (days_in sun polygons root (take (i + 1) days) text).days) before here
      (ap (λ (s : ShownDays). days_text s.days) (next_is next) ∙ both)

  -- its lines have a bad one
  bad_is : IsNext → (bad : BadLine) → One.end ≡ Err bad → days_in sun polygons root days text ≡ with_days So_far.days One
  bad_is next bad end = all_is next ∙ ap (with_days So_far.days) (ends_at sun polygons root (day_of day) (map day_of (drop (i + 1) days)) number behind bad end)

  pub bad_end : IsNext → (bad : BadLine) → One.end ≡ Err bad → (days_in sun polygons root days text).end ≡ Err bad
  bad_end next bad end = ap (λ (s : ShownDays). s.end) (bad_is next bad end) ∙ end

  pub bad_written : IsNext → (bad : BadLine) → One.end ≡ Err bad → (r : Result Shown Stop) (out out1 out2 : ℕ) (old mid new : Option (List ℕ)) →
      Adds old mid (days_text So_far.days) → out ≤ out1 → Writes {X = Shown} (days_text One.days) r out1 out2 mid new →
      Writes {X = Shown} (days_text (days_in sun polygons root days text).days) r out out2 old new
  bad_written next bad end r out out1 out2 old mid new before later here =
      then_writes {X = Shown} (days_text So_far.days) (days_text One.days) (days_text (days_in sun polygons root days text).days) r out out1 out2 old mid new
      (ap (λ (s : ShownDays). days_text s.days) (bad_is next bad end) ∙ both) before later here

  -- its lines were not written whole
  pub stop_written : IsNext → (stop : Stop) (out out1 out2 : ℕ) (old mid new : Option (List ℕ)) →
      Adds old mid (days_text So_far.days) → out ≤ out1 → Writes {X = Shown} (days_text One.days) (Err stop) out1 out2 mid new →
      Writes {X = Shown} (days_text (days_in sun polygons root days text).days) (Err stop) out out2 old new
  stop_written next stop out out1 out2 old mid new before later here =
      let more = day_first sun polygons root (day_of day) (map day_of (drop (i + 1) days)) number behind in
      stopped {X = Shown} {Y = Shown} (days_text So_far.days) (days_text One.days) (days_text more.0) (days_text (days_in sun polygons root days text).days) stop
      out out1 out2 old mid new
      (ap (λ (s : ShownDays). days_text s.days) (all_is next) ∙ ap (λ ds. days_text (So_far.days ++ ds)) more.1
      ∙ flat_map-append day_text So_far.days (One.days ++ more.0) ∙ ap (λ t. days_text So_far.days ++ t) (flat_map-append day_text One.days more.0))
      before later here

-- ---- the whole

module _ (o : Asked) (r : Ready) (text : List ℕ) (is : IsReady o r) where
  abbrev Days : ShownDays
  Days = days_in r.sky.sun r.sky.district r.sky.root r.days.items text

  days_are : Days ≡ shown_days o text
  days_are =
      ap (λ ds. days_shown r.sky.sun r.sky.district r.sky.root ds 2 text) is.days
      ∙ ap (λ s. days_shown s r.sky.district r.sky.root (days_of o) 2 text) is.sun
      ∙ ap (λ p. days_shown o.sun p r.sky.root (days_of o) 2 text) is.district
      ∙ ap (λ c. days_shown o.sun o.district c (days_of o) 2 text) is.root

  -- behind its last line
  pub last_is : (number : ℕ) → number ≡ number_behind r.days.items → number ≡ last_number o
  last_is number same = same ∙ ap (λ ds. sum_by lines_of ds + 2) is.days

  front_is : front_in r text ≡ front_text o Days.days
  front_is = ap (λ h. h ++ days_text Days.days) is.head

  text_is : (bad : Option BadLine) → bad_line (last_number o) Days.end ≡ bad → shown_text o text ≡ text_before o Days.days bad
  unfolding shown_text shown_table
  text_is bad here =
      ap (λ (s : ShownDays). text_before o s.days (bad_line (last_number o) s.end)) (sym days_are) ∙ ap (text_before o Days.days) here

  bad_is_shown : (bad : Option BadLine) → bad_line (last_number o) Days.end ≡ bad → (shown_table o text).bad ≡ bad
  unfolding shown_table
  bad_is_shown bad here = ap (λ (s : ShownDays). bad_line (last_number o) s.end) (sym days_are) ∙ here

  -- every text begins with the front
  begins : (bad : Option BadLine) → (more : List ℕ) × (text_before o Days.days bad ≡ front_text o Days.days ++ more)
  begins None = (end_line o.days (days_undecided Days.days), refl)
  begins (Some bad) = ([], sym (append-nil (front_text o Days.days)))

  -- the front was not written whole
  pub front_stopped : (stop : Stop) (out out' : ℕ) (old new : Option (List ℕ)) → Writes {X = Shown} (front_in r text) (Err stop) out out' old new →
      Writes {X = Shown} (shown_text o text) (Err stop) out out' old new
  front_stopped stop out out' old new w =
      let bad = bad_line (last_number o) Days.end in
      let more = begins bad in
      stopped {X = Shown} {Y = Shown} [] (front_in r text) more.0 (shown_text o text) stop out out out' old old new
      (text_is bad refl ∙ more.1 ∙ ap (λ t. t ++ more.0) (sym front_is)) (adds_nothing old) (omega arith) w

  -- it stops at a bad line
  bad_text : (bad : BadLine) → bad_line (last_number o) Days.end ≡ Some bad → shown_text o text ≡ front_in r text
  bad_text bad here = text_is (Some bad) here ∙ sym front_is

  pub stops_at : (bad : BadLine) → Days.end ≡ Err bad → ShowsTable (shown_table o text) (Ok (Bad bad))
  stops_at bad end = bad_is_shown (Some bad) (ap (bad_line (last_number o)) end)

  pub front_written : (bad : BadLine) → Days.end ≡ Err bad → (out out' : ℕ) (old new : Option (List ℕ)) →
      Writes {X = Shown} (front_in r text) (Ok (Bad bad)) out out' old new → Writes {X = Shown} (shown_text o text) (Ok (Bad bad)) out out' old new
  front_written bad end out out' old new w =
      written (shown_text o text) (front_in r text) (Bad bad) out out' old new (sym (bad_text bad (ap (bad_line (last_number o)) end))) w.later w.whole

  -- text is left over
  left_is : (rest : List ℕ) (bad : BadLine) → Days.end ≡ Ok rest → (length rest ≡ 0 → ⊥) → bad.number ≡ last_number o → bad.fault ≡ NotLine →
      bad_line (last_number o) Days.end ≡ Some bad
  left_is [] bad end some number fault = absurd (some refl)
  left_is (byte ∷ bytes) bad end some number fault =
      ap (bad_line (last_number o)) end ∙ ap Some (λ i. record { number = number' i; fault = fault' i })
    where
      number' : last_number o ≡ bad.number
      number' = sym number

      fault' : NotLine ≡ bad.fault
      fault' = sym fault

  pub left_over : (rest : List ℕ) (bad : BadLine) → Days.end ≡ Ok rest → (length rest ≡ 0 → ⊥) → bad.number ≡ last_number o → bad.fault ≡ NotLine →
      ShowsTable (shown_table o text) (Ok (Bad bad))
  left_over rest bad end some number fault = bad_is_shown (Some bad) (left_is rest bad end some number fault)

  pub left_written : (rest : List ℕ) (bad : BadLine) → Days.end ≡ Ok rest → (length rest ≡ 0 → ⊥) → bad.number ≡ last_number o → bad.fault ≡ NotLine →
      (u out out' : ℕ) (old new : Option (List ℕ)) → Writes {X = Shown} (front_in r text) (Ok (Whole u)) out out' old new →
      Writes {X = Shown} (shown_text o text) (Ok (Bad bad)) out out' old new
  left_written rest bad end some number fault u out out' old new w =
      written (shown_text o text) (front_in r text) (Bad bad) out out' old new (sym (bad_text bad (left_is rest bad end some number fault))) w.later w.whole

  -- nothing is left over
  none_left : (rest : List ℕ) → Days.end ≡ Ok rest → length rest ≡ 0 → bad_line (last_number o) Days.end ≡ None
  none_left [] end none = ap (bad_line (last_number o)) end
  none_left (byte ∷ bytes) end none = absurd (omega (arith, none))

  pub shown_whole : (rest : List ℕ) (u : ℕ) → Days.end ≡ Ok rest → length rest ≡ 0 → u ≡ days_undecided Days.days →
      ShowsTable (shown_table o text) (Ok (Whole u))
  unfolding shown_table
  shown_whole rest u end none counted =
      (bad_is_shown None (none_left rest end none), counted ∙ ap (λ (s : ShownDays). days_undecided s.days) days_are)

  whole_text : (rest : List ℕ) (u : ℕ) → Days.end ≡ Ok rest → length rest ≡ 0 → u ≡ days_undecided Days.days →
      shown_text o text ≡ front_in r text ++ end_line o.days u
  whole_text rest u end none counted =
      text_is None (none_left rest end none) ∙ ap (λ t. t ++ end_line o.days (days_undecided Days.days)) (sym front_is)
      ∙ ap (λ (m : ℕ). front_in r text ++ end_line o.days m) (sym counted)

  pub whole_written : (rest : List ℕ) (u : ℕ) → Days.end ≡ Ok rest → length rest ≡ 0 → u ≡ days_undecided Days.days →
      (x : ℕ) (out out1 out2 : ℕ) (old mid new : Option (List ℕ)) → Writes {X = Shown} (front_in r text) (Ok (Whole u)) out out1 old mid →
      Writes {X = ℕ} (end_line o.days u) (Ok x) out1 out2 mid new → Writes {X = Shown} (shown_text o text) (Ok (Whole u)) out out2 old new
  whole_written rest u end none counted x out out1 out2 old mid new front last =
      let first = front.later in
      let later = last.later in
      written (shown_text o text) (shown_text o text) (Whole u) out out2 old new refl (omega (arith, first, later))
      (adds_more old mid new (front_in r text) (end_line o.days u) (shown_text o text) front.whole last.whole (whole_text rest u end none counted))

  pub end_stopped : (rest : List ℕ) (u : ℕ) → Days.end ≡ Ok rest → length rest ≡ 0 → u ≡ days_undecided Days.days →
      (stop : Stop) (out out1 out2 : ℕ) (old mid new : Option (List ℕ)) → Writes {X = Shown} (front_in r text) (Ok (Whole u)) out out1 old mid →
      Writes {X = ℕ} (end_line o.days u) (Err stop) out1 out2 mid new → Writes {X = Shown} (shown_text o text) (Err stop) out out2 old new
  end_stopped rest u end none counted stop out out1 out2 old mid new front last =
      stopped {X = ℕ} {Y = Shown} (front_in r text) (end_line o.days u) [] (shown_text o text) stop out out1 out2 old mid new
      (whole_text rest u end none counted ∙ ap (λ t. front_in r text ++ t) (sym (append-nil (end_line o.days u)))) front.whole front.later last
