use Rattle.cell_judge.proofs.TableLemmas.{no_place, no_row, place_read, row_read, rows_read}
use Rattle.cell_judge.proofs.tiles.place_at.Goals as goal

pub returns-in_err-get : goal.returns-in_err-get
returns-in_err-get c =
    let rows = rows_read c.args.district.now c.args.root.now c.args.cell.now c.args.seat.column c.args.seat.row
    c.args.tables.now.least c.args.tables.now.places.items c.index-rows.result.now c.requires.tables c.requires.large
    c.requires.cell.formed.not_large c.index-rows.ensures in
    no_row c.args.district.now c.args.root.now c.args.cell.now c.args.seat.column c.args.seat.row c.index-rows.result.now _ _
    rows c.deref.ensures.value c.in_err-get.ensures.lookup.3 c.has_no_fault.ensures c.requires.root c.requires.cell c.requires.seat
    c.from_residual.ensures

pub returns-in_err-get-2 : goal.returns-in_err-get-2
returns-in_err-get-2 c =
    let rows = rows_read c.args.district.now c.args.root.now c.args.cell.now c.args.seat.column c.args.seat.row
    c.args.tables.now.least c.args.tables.now.places.items c.index-rows.result.now c.requires.tables c.requires.large
    c.requires.cell.formed.not_large c.index-rows.ensures in
    let row = row_read c.args.district.now c.args.root.now c.args.cell.now c.args.seat.column c.args.seat.row
    c.index-rows.result.now _ c.in_ok-get.field-0.now rows c.deref.ensures.value c.in_ok-get.ensures.lookup.3.0 c.in_ok-get.ensures.lookup.1 in
    no_place c.args.district.now c.args.root.now c.args.cell.now c.args.seat.column c.args.seat.row c.in_ok-get.field-0.now _ _
    row c.deref-2.ensures.value c.in_err-get-2.ensures.lookup.3 c.has_no_fault.ensures c.requires.root c.requires.cell c.requires.seat
    c.from_residual-in_err-get-2.ensures

pub returns : goal.returns
returns c =
    let rows = rows_read c.args.district.now c.args.root.now c.args.cell.now c.args.seat.column c.args.seat.row
    c.args.tables.now.least c.args.tables.now.places.items c.index-rows.result.now c.requires.tables c.requires.large
    c.requires.cell.formed.not_large c.index-rows.ensures in
    let row = row_read c.args.district.now c.args.root.now c.args.cell.now c.args.seat.column c.args.seat.row
    c.index-rows.result.now _ c.in_ok-get.field-0.now rows c.deref.ensures.value c.in_ok-get.ensures.lookup.3.0 c.in_ok-get.ensures.lookup.1 in
    place_read c.args.district.now c.args.root.now c.args.cell.now c.args.seat.column c.args.seat.row c.in_ok-get.field-0.now _ _
    row c.deref-2.ensures.value c.in_ok-get-2.ensures.lookup.3.0 c.in_ok-get-2.ensures.lookup.1 c.requires.seat
