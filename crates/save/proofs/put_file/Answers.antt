-- `save::put_file` meets its contract.
use Rattle.std.proofs.Common.{◌+◌, ◌-◌, length, arith, refl}
use Rattle.std.proofs.lemmas.Slice.{put_mid-paste}
use Rattle.capture.specs.Content.{table_end}
use Rattle.save.proofs.put_file.Goals as goal

pub returns : goal.returns
returns c =
    let a = c.args in
    let e = put_mid-paste (table_end (length a.ports.now)) (table_end (length a.ports.now) + length a.bodies.now - table_end (length a.ports.now)) a.out.now c.copy_from_slice.new.self a.bodies.now (length a.bodies.now) c.copy_from_slice.ensures.after (omega arith) refl in
    rw (c.put_table.ensures, c.put_header.ensures, e)
