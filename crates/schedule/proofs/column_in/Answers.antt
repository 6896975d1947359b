-- `schedule::column_in` meets its contract.
use Rattle.std.proofs.Common.{◌/◌, ◌%◌, mod-lt, refl}
use Rattle.schedule.proofs.Numbers.{taking-small, joining_is}
use Rattle.schedule.proofs.column_in.Goals as goal

pub start_of-start-requires : goal.start_of-start-requires
start_of-start-requires c =
    record { small = c.requires.small; column_lt_l = (mod-lt c.args.at c.requires.small.columns, taking-small c.args.at c.args.l c.args.d c.line_of.result c.saturating_sub.result c.requires.at_bound c.saturating_sub.ensures) }

pub returns : goal.returns
returns c =
    let a = c.args in
    joining_is a.a a.l a.d a.at (a.at % a.l) (c.saturating_sub.result / a.d) c.start_of-start.result c.slot_of.result refl
    (rw (c.saturating_sub.ensures, c.line_of.ensures)) c.start_of-start.ensures c.slot_of.ensures
