-- `window::Window::shape_good` meets its contract: the tests are those of the definition.
use Rattle.window.proofs.Window.shape_good.Goals as goal

pub returns : goal.returns
returns c = cc
