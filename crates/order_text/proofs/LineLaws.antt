-- A line is read in one way, and that of an order as that order.
use Rattle.std.proofs.Common.{Ok, sym}
use Rattle.order_reader.proofs.ReadLaws.{answers_agree}
use Rattle.order_text.proofs.LineAgain.{read_again}
use Rattle.order_text.proofs.LineSpelled.{line_is_json}
use Rattle.order_text.proofs.LineTree.{line_tree}
use Rattle.order_text.specs.LineLaws.{LineReadingsAgree, LinesAreReadAgain}
use Rattle.order_text.specs.LineReading.{line_order_in}

pub line_readings_agree : LineReadingsAgree
line_readings_agree bytes x y = answers_agree line_order_in bytes x y

pub lines_are_read_again : LinesAreReadAgain
lines_are_read_again o is = (Ok (line_tree o), line_is_json o is, sym (read_again o is))
