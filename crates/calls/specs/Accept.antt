-- Accepting a packet (01, "Taking a packet in").
use Rattle.std.specs.Prelude.{not, cond, List, [], ◌∷◌, ℕ, length, drop}
use Rattle.xor.specs.Xor.{padded}
use Rattle.sequence.specs.Lists.{up_to, keep, head_or}
use Rattle.rtp.specs.Rtp.{rtp_header_size, sequence_number, timestamp}
use Rattle.rtp.specs.Fec.{parity_header_size, snbase, length_recovery, timestamp_recovery}
use Rattle.window.specs.declared.Window.{Window}
use Rattle.window.specs.Store.{Store}
use Rattle.window.specs.Group.{position, group, missing}
use Rattle.window.specs.Limits.{rows}
use Rattle.window.specs.Order.{is_in_use}
use Rattle.calls.specs.Content.{Content, Recovery}
use Rattle.calls.specs.State.{State, store_media, rebuild, fits_over, count_spoilt, hold}

-- the content of a media datagram, its payload with zeros up to p bytes
abbrev pub content_of : (p : ℕ) → List ℕ → Content
content_of p g = record { timestamp = timestamp g; length = length (drop rtp_header_size g); payload = padded p (drop rtp_header_size g) }

-- the recovery that a parity datagram carries, its payload with zeros up to p bytes
abbrev pub recovery_of : (p : ℕ) → List ℕ → Recovery
recovery_of p g =
    record {
      content = record { timestamp = timestamp_recovery g; length = length_recovery g; payload = padded p (drop parity_header_size g) };
      size = length (drop parity_header_size g);
    }

-- a media packet becomes present
abbrev pub accept_media : List ℕ → State → State
accept_media g x = store_media (position x.window (sequence_number g)) (content_of x.window.p g) x

-- the free record of lowest index
abbrev pub first_free : Window → Store → ℕ
first_free w s = head_or (rows w) (keep (λ r. not (is_in_use w s r)) (up_to (rows w)))

-- a parity packet with none missing is of no use; with one missing it rebuilds that or is spoilt; with more it is held
abbrev pub take_parity : (missing : List ℕ) (stream snbase : ℕ) → Recovery → State → State
take_parity [] stream snbase c x = x
take_parity (i ∷ []) stream snbase c x =
    cond (fits_over x (group x.window stream snbase) c) (rebuild (group x.window stream snbase) c.content i x) (count_spoilt x)
take_parity (i ∷ j ∷ more) stream snbase c x = hold (first_free x.window x.store) stream snbase c x

-- a parity packet is taken in by what is missing of its group
abbrev pub accept_parity : (stream : ℕ) → List ℕ → State → State
accept_parity stream g x = take_parity (missing x.store.marks (group x.window stream (snbase g))) stream (snbase g) (recovery_of x.window.p g) x
