-- `save::try_write` meets its contract.
use Rattle.std.proofs.Common.{sym}
use Rattle.capture.specs.Calls.{Parts}
use Rattle.save.proofs.Writes.{set_up-some, set_up-none, not-entries, not_numbers, too_short, was-written}
use Rattle.save.proofs.try_write.Goals as goal

pub returns-then-not-entries_fit : goal.returns-then-not-entries_fit
returns-then-not-entries_fit c =
    let a = c.args in
    let x : Parts = record { base = a.base; l = a.l; d = a.d; p = a.p; n = a.n; k = a.k; ports = a.ports.now; lengths = a.lengths.now; bodies = a.bodies.now } in
    not-entries x a.out.now (sym c.if-not-entries_fit.ensures)

pub returns-in_default : goal.returns-in_default
returns-in_default c =
    let a = c.args in
    let x : Parts = record { base = a.base; l = a.l; d = a.d; p = a.p; n = a.n; k = a.k; ports = a.ports.now; lengths = a.lengths.now; bodies = a.bodies.now } in
    not_numbers x a.out.now (sym c.if-not-entries_fit.ensures) (set_up-none a.base a.l a.d a.p a.n a.k c.in_default.ensures)

pub returns-then-out-need : goal.returns-then-out-need
returns-then-out-need c =
    let a = c.args in
    let x : Parts = record { base = a.base; l = a.l; d = a.d; p = a.p; n = a.n; k = a.k; ports = a.ports.now; lengths = a.lengths.now; bodies = a.bodies.now } in
    let s = set_up-some a.base a.l a.d a.p a.n a.k c.in-Some.u c.in-Some.ensures in
    too_short x a.out.now (sym c.if-not-entries_fit.ensures) s.0 c.if-out-need.true

pub returns : goal.returns
returns c =
    let a = c.args in
    let x : Parts = record { base = a.base; l = a.l; d = a.d; p = a.p; n = a.n; k = a.k; ports = a.ports.now; lengths = a.lengths.now; bodies = a.bodies.now } in
    let s = set_up-some a.base a.l a.d a.p a.n a.k c.in-Some.u c.in-Some.ensures in
    was-written x a.out.now (sym c.if-not-entries_fit.ensures) s.0 _ c.if-out-need.false (rw s.1 at c.put_file.ensures)
