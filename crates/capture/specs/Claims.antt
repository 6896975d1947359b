-- What the calls on capture files promise: one content has one file, each way; what is written is read as it was; any other file is refused.
use Rattle.std.specs.Prelude.{List, [], ◌∷◌, map, ℕ}
use Rattle.std.proofs.Math.ListN.{length}
use Rattle.capture.specs.declared.Reader.{Reader}
use Rattle.capture.specs.declared.Reading.{Reading}
use Rattle.capture.specs.Content.{Content, bodies}
use Rattle.capture.specs.Calls.{read_on, Parts}

-- ---- reading
-- before the first piece
abbrev pub fresh : Reader
fresh = record { stage = 0; left = 0; next = 0; sum = 0; at = 0; size = 0 }

-- reading pieces one after another, each from where the last one left the reader: what the last one is answered
abbrev pub read_pieces : Reading → List (List ℕ) → Reading
read_pieces q [] = q
read_pieces q (a ∷ more) = read_pieces (read_on q.reader a) more

-- ---- writing
-- the parts of a content: what a card lends to have it written
abbrev pub parts_of : Content → Parts
parts_of c =
    record { base = c.base; l = c.l; d = c.d; p = c.p; n = c.n; k = c.k; ports = map (λ e. e.port) c.entries; lengths = map (λ e. length e.body) c.entries; bodies = bodies c.entries }
