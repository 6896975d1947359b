-- `window::Window::lengths_good` meets its contract.
use mathlib.Core.Path.{sym}
use Rattle.window.proofs.Window.lengths_good.Goals as goal

pub returns-then-all_full : goal.returns-then-all_full
returns-then-all_full c = sym (c.all_full.ensures c.if-all_full.true)
