use Rattle.std.proofs.Common.{◌≡◌, take}
use Rattle.sequence.specs.Lists.{all}
use Rattle.capture.specs.Calls.{good_port}
use Rattle.save.proofs.good_ports.Given as goal

abbrev pub invariant-loop-port : goal.invariant-loop-port
invariant-loop-port l = l.is ≡ all good_port (take l.port-index l.ports)
