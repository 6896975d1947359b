-- The content of a packet: what exclusive-or acts on (01, "Bytes on the wire"; 02, request 1).
use Rattle.std.specs.Prelude.{Bool, ◌&&◌, List, [], ◌∷◌, map, ℕ, max, eqb, get_or, drop}
use Rattle.std.specs.Int.Bits.{bit_xor}
use Rattle.xor.specs.Xor.{zip_xor, xor_all, xor_payloads}
pub use Rattle.xor.specs.Same.{same}
use Rattle.sequence.specs.Lists.{all}
use Rattle.rtp.specs.Length.{whole_units}
use Rattle.window.specs.declared.Window.{Window}
use Rattle.window.specs.Store.{Store, payload_in, payload_at, timestamp_at, length_at, record_at, parity_at}
use Rattle.window.specs.Group.{present}

-- timestamp, length and payload, this with zeros up to P bytes: a media packet's own, or their recovery in a parity packet
pub record Content : Type 0 where
  pub timestamp : ℕ
  pub length : ℕ
  pub payload : List ℕ

-- two contents are equal
abbrev pub same_content : Content → Content → Bool
same_content a b = eqb a.timestamp b.timestamp && eqb a.length b.length && same a.payload b.payload

-- the exclusive-or of two contents
abbrev pub xor_content : Content → Content → Content
xor_content a b =
    record { timestamp = bit_xor a.timestamp b.timestamp; length = bit_xor a.length b.length; payload = zip_xor a.payload b.payload }

-- the exclusive-or of the contents at a list of positions, of payloads of p bytes
abbrev pub xor_contents : (p : ℕ) (content : ℕ → Content) → List ℕ → Content
xor_contents p content g =
    record {
      timestamp = xor_all (map (λ i. (content i).timestamp) g);
      length = xor_all (map (λ i. (content i).length) g);
      payload = xor_payloads p (map (λ i. (content i).payload) g);
    }

-- the content kept at a position
abbrev pub content_at : Window → Store → ℕ → Content
content_at w s i = record { timestamp = timestamp_at s i; length = length_at s i; payload = payload_at w s i }

-- what a parity packet carries: the recovery of its group, and the length of its own payload
pub record Recovery : Type 0 where
  pub content : Content
  pub size : ℕ

-- two parity packets carry the same
abbrev pub same_recovery : Recovery → Recovery → Bool
same_recovery a b = same_content a.content b.content && eqb a.size b.size

-- what a record of the table holds
abbrev pub recovery_at : Window → Store → ℕ → Recovery
recovery_at w s r =
    record {
      content = record { timestamp = (record_at s r).timestamp_recovery; length = (record_at s r).length_recovery; payload = parity_at w s r };
      size = (record_at s r).payload_length;
    }

-- the longest of some lengths
abbrev pub longest : List ℕ → ℕ
longest [] = 0
longest (n ∷ l) = max n (longest l)

-- the recovery of a group that is present: the exclusive-or of its contents, as long as the longest of them
abbrev pub recovery_over : Window → Store → (group : List ℕ) → Recovery
recovery_over w s group = record { content = xor_contents w.p (content_at w s) group; size = longest (map (length_at s) group) }

-- a rebuilt packet fits its parity packet: its length is one or more whole units, no longer than the parity packet's own payload, and only
-- zeros stand past it
abbrev pub fits : Window → Recovery → Content → Bool
fits w recovery c = whole_units w.p recovery.size c.length && all (λ b. eqb b 0) (drop c.length c.payload)

-- a content xored with what is held of a group
abbrev pub content_over : Window → Store → (group : List ℕ) → Content → Content
content_over w s group c = xor_content c (xor_contents w.p (content_at w s) (present s.marks group))

-- a number xored with those that a part of the store, timestamps or lengths, has for what is held of a group
abbrev pub number_over : (part marks group : List ℕ) → ℕ → ℕ
number_over part marks group number = bit_xor number (xor_all (map (λ i. get_or part i 0) (present marks group)))

-- a payload xored with those held of a group
abbrev pub payload_over : (p : ℕ) (media lengths marks group : List ℕ) → List ℕ → List ℕ
payload_over p media lengths marks group payload = zip_xor payload (xor_payloads p (map (λ i. payload_in p media (get_or lengths i 0) i) (present marks group)))
