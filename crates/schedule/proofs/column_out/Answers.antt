-- `schedule::column_out` meets its contract.
use Rattle.std.proofs.Common.{◌*◌}
use Rattle.schedule.proofs.Numbers.{matrix-some, turn_small, cycle-small, leaving-sends, leaving-none}
use Rattle.schedule.proofs.column_out.Goals as goal

pub nonzero_div-at : goal.nonzero_div-at
nonzero_div-at c = matrix-some c.args.l c.args.d c.requires.small

pub due_of-requires : goal.due_of-requires
due_of-requires c = record { small = c.requires.small; column_lt_l = (turn_small c.args.l c.args.d c.requires.small c.args.a c.args.at _ c.turn_of-column.ensures, cycle-small c.args.at (c.args.l * c.args.d) _ c.requires.at_bound c.saturating_sub-cycle.ensures) }

pub start_of-start-requires : goal.start_of-start-requires
start_of-start-requires c = record { small = c.requires.small; column_lt_l = (turn_small c.args.l c.args.d c.requires.small c.args.a c.args.at _ c.turn_of-column.ensures, cycle-small c.args.at (c.args.l * c.args.d) _ c.requires.at_bound c.saturating_sub-cycle.ensures) }

pub slot_of-requires : goal.slot_of-requires
slot_of-requires c = (c.requires.small.columns_most, turn_small c.args.l c.args.d c.requires.small c.args.a c.args.at _ c.turn_of-column.ensures)

pub returns-then-due_of-at : goal.returns-then-due_of-at
returns-then-due_of-at c = leaving-none c.args.a c.args.l c.args.d c.args.at c.turn_of-column.result c.saturating_sub-cycle.result c.due_of.result 0 0 0 c.turn_of-column.ensures c.saturating_sub-cycle.ensures c.due_of.ensures c.if-due_of-at.true

pub returns : goal.returns
returns c = leaving-sends c.args.a c.args.l c.args.d c.args.at c.turn_of-column.result c.saturating_sub-cycle.result c.due_of.result c.start_of-start.result c.slot_of.result c.saturating_sub.result c.turn_of-column.ensures c.saturating_sub-cycle.ensures c.due_of.ensures c.start_of-start.ensures c.slot_of.ensures c.saturating_sub.ensures c.if-due_of-at.false
