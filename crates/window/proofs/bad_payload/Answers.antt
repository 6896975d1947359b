-- `window::bad_payload` meets its contract: the tests are those of the definition.
use Rattle.window.proofs.bad_payload.Goals as goal

pub returns : goal.returns
returns c = cc
