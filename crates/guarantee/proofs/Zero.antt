-- The window value of a refused opening (01, "Setting up a window"): every later call refuses it with 1, whatever else it is given.
use Rattle.std.specs.Prelude.{refl, List, ℕ}
use Rattle.answer.specs.First.{first}
use Rattle.window.specs.Store.{Store}
use Rattle.calls.specs.Datagram.{Outer}
use Rattle.calls.specs.Call.{no_window, offered_media, offered_parity, read_out, wrote_parity}
use Rattle.guarantee.specs.Zero.{RefusedOffer, RefusedOutput}

-- no media datagram is taken in
pub media-refused : (datagram : List ℕ) (s : Store) → RefusedOffer s (offered_media no_window datagram s)
unfolding offered_media first
media-refused datagram s = record { answer = refl; window = refl; store = refl }

-- no parity datagram, on either port
pub parity-refused : (stream : ℕ) (datagram : List ℕ) (s : Store) → RefusedOffer s (offered_parity stream no_window datagram s)
unfolding offered_parity first
parity-refused stream datagram s = record { answer = refl; window = refl; store = refl }

-- no number is read out
pub read-refused : (number : ℕ) (s : Store) (out : List ℕ) → RefusedOutput out (read_out no_window number s out)
unfolding read_out first
read-refused number s out = record { answer = refl; window = refl; output = refl }

-- no parity is written, of a column or of a row
pub write_refused : (stream snbase : ℕ) (o : Outer) (s : Store) (out : List ℕ) → RefusedOutput out (wrote_parity stream no_window snbase o s out)
unfolding wrote_parity first
write_refused stream snbase o s out = record { answer = refl; window = refl; output = refl }
