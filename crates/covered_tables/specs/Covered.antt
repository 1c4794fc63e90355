-- What is written as the covering of an order is read as it, and shown as the order's table.
use Rattle.std.specs.Prelude.{◌≡◌, ℕ, List, flat_map, Ok}
use Rattle.command_input.specs.Input.{ReadsCovering}
use Rattle.order_covering.specs.Covering.{covering_of, day_lines}
use Rattle.order_covering.specs.declared.form.Form.{Form}
use Rattle.order_rule.specs.Asked.{Asked}
use Rattle.order_rule.specs.Rule.{IsOrder}
use Rattle.order_table.specs.Days.{days_of}
use Rattle.order_table.specs.Trees.{root_over, table_of, undecided}
use Rattle.outcome.specs.Answer.{finished}
use Rattle.shown_table.specs.Shown.{shown_answer}

-- the lines of an order's covering behind its first one
abbrev pub covering_lines : Form → Asked → List ℕ
covering_lines form o = flat_map (day_lines form o.sun o.district (root_over o.district)) (days_of o)

-- the covering is read as the order, with those lines
abbrev pub CoveringsAreRead : Type 0
CoveringsAreRead =
    (o : Asked) → IsOrder o → (form : Form) → ReadsCovering (covering_of form o) (Ok (record { order = o; lines = covering_lines form o }))

-- in either form they are answered as the order itself is: by its table, with the count of its undecided entries
abbrev pub CoveringsAreShown : Type 0
CoveringsAreShown = (o : Asked) → IsOrder o → (form : Form) → shown_answer o (covering_lines form o) ≡ finished (undecided o) (table_of o)
