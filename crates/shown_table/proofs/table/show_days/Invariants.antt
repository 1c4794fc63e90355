use Rattle.std.proofs.Common.{◌≡◌, ◌≤◌, ◌+◌, ◌*◌, Ok, take}
use Rattle.source_sink.specs.Outside.{Adds}
use Rattle.order_table.specs.Table.{days_text, days_undecided}
use Rattle.shown_table.specs.Made.{days_in, number_behind}
use Rattle.shown_table.proofs.table.show_days.Given as goal

-- the days so far were shown and their lines written, and their undecided entries counted
abbrev pub invariant-loop-day : goal.invariant-loop-day
invariant-loop-day g l =
    let so_far = days_in l.fn.sky.sun l.fn.sky.district l.fn.sky.root (take l.day-index l.days) l.fn.lines.text.now in
    record {
      sun : l.sky.sun ≡ l.fn.sky.sun;
      district : l.sky.district ≡ l.fn.sky.district;
      root : l.sky.root ≡ l.fn.sky.root;
      number : l.lines.number ≡ number_behind (take l.day-index l.days);
      low : l.lines.number ≤ 2 + 9 * l.day-index;
      end : so_far.end ≡ Ok l.lines.text.now;
      count : l.undecided ≡ days_undecided so_far.days;
      few : l.undecided ≤ 7 * l.day-index;
      later : g.K.Sink.faults l.fn.out ≤ g.K.Sink.faults l.out;
      written : Adds (g.K.Sink.held l.fn.out) (g.K.Sink.held l.out) (days_text so_far.days);
    }
