-- What a verdict says: the main sentence of the judge of borders, in its own words.
use Rattle.std.specs.Prelude.{◌≡◌, Some, Ok}
use Rattle.command_input.specs.Input.{read}
use Rattle.outcome.specs.Streams.{Streams}
use Rattle.outcome.specs.declared.status.Status.{Status}
use Rattle.outcome.specs.declared.status.Status.TheVariants.{Done, Open}
use Rattle.source_sink.specs.Outside.{Adds}
use Rattle.source_sink.specs.Reading.{IsReadToEnd}
use Rattle.cell_split.specs.declared.cell.Cell.{Cell}
use Rattle.cell_split.specs.declared.verdict.Entry.{Entry}
use Rattle.cell_judge.specs.Scenes.{Scene}
use Rattle.cell_judge.specs.RightEntries.{IsRight, IsSafeFrom}
use Rattle.border_check.specs.Laws.{IsOpen}
use Rattle.border_check.specs.Squares.{box_in}
use Rattle.border_check.specs.declared.squares.Square.{Square}
use Rattle.border_input.specs.Requests.{Requested}
use Rattle.border_input.specs.Taken.{IsSpelledBy}
use Rattle.border_laws.specs.Held.{IsWithin, over, safe_rank}
use Rattle.border_answer.specs.Ended.{IsVerdict}
use Rattle.border_answer.specs.Verdict.{found_for, verdict_text}

-- every rational place of the border is a place of the order's district, and each entry that is right for the district
-- is safe over the border, under any sun and for any row
pub record Holds (r : Requested) : Type 0 where
  pub within : IsWithin r.border r.order.district
  pub safe : (s : Scene) → s.polygons ≡ r.order.district → (cells : Cell) (e : Entry) → IsRight s cells e →
      IsSafeFrom (over r.border s) (safe_rank e)

-- the square that is named has side 1, a place of the border, and one that isn't inside the district
pub record IsNotShown (r : Requested) : Type 0 where
  pub square : Square
  pub named : found_for r ≡ Some square
  pub smallest : square.size ≡ 0
  pub is_open : IsOpen r.border r.order.district (box_in square)

-- The source was read to its end and spelled an order and a border. The output has the verdict on them alone in
-- addition: that the district holds the border, exactly where the run is Done, or the first square in which that
-- isn't shown, exactly where it is Open.
pub record PrintedATrueVerdict (status : Status) (before after : Streams) : Type 0 where
  pub requested : Requested
  pub spelled : IsSpelledBy before.source.bytes (read (Ok requested))
  pub read_through : IsReadToEnd before.source.bytes after.source.bytes
  pub printed : Adds before.out.bytes after.out.bytes (verdict_text (found_for requested))
  pub holds : status ≡ Done → Holds requested
  pub not_shown : status ≡ Open → IsNotShown requested

abbrev pub Headline : Status → Streams → Streams → Type 0
Headline status before after = IsVerdict status → PrintedATrueVerdict status before after
