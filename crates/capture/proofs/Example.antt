-- The request's example, by computation.
use Rattle.std.specs.Prelude.{◌≡◌, refl, true}
use Rattle.capture.specs.Content.{file_of}
use Rattle.capture.specs.Stage.{judge}
use Rattle.capture.specs.Reads.{content_of}
use Rattle.capture.specs.Example.{example, content, same, places}

example-accepted : judge example ≡ true
unfolding judge
example-accepted = refl

example-read : content_of example ≡ content
unfolding content_of
example-read = refl

example-written : file_of content ≡ example
unfolding file_of
example-written = refl

-- each change of one of the first 20 bytes is judged so
changes : places 0 20 ≡ true
unfolding judge same
changes = refl
