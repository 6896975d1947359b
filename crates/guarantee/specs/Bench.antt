-- The starred cases of 01, "Numbers from the bench", and cases 11 and 12: one table and one theorem about the definitions.
use Rattle.std.specs.Prelude.{◌≡◌, List, [], ◌∷◌, ◌++◌, ℕ, ◌*◌, take, drop, replicate}
use Rattle.answer.specs.Number.{number_of, count_of}
use Rattle.xor.specs.Xor.{xor_all, xor_payloads}
use Rattle.sequence.specs.Wrap.{number_at, members}
use Rattle.rtp.specs.Fec.{column, row, offset_of, na_of, fec_header}
use Rattle.window.specs.declared.Window.{Window}
use Rattle.window.specs.Limits.{width}
use Rattle.window.specs.Store.{Store, timestamp_at}
use Rattle.calls.specs.Datagram.{media_packet, Outer, parity_packet}
use Rattle.calls.specs.Call.{Outcome, asked, opened, offered_media, offered_parity}
use Rattle.schedule.specs.Arrangement.{aligned_rows, aligned_columns, staggered_column}

-- a case: its number, what the definitions give, and what the document says
pub record Case : Type 0 where
  pub number : ℕ
  pub got : List ℕ
  pub said : List ℕ

-- a store of just the size that a window needs, not yet cleared
abbrev pub uncleared_store : Window → Store
uncleared_store w =
    record {
      media = replicate (w.n * w.p) 7;
      timestamps = replicate w.n 7;
      lengths = replicate w.n 7;
      marks = replicate w.n 7;
      parity = replicate (w.k * w.p) 7;
      records = replicate w.k (record { stream = 7; in_use = 7; snbase = 7; timestamp_recovery = 7; length_recovery = 7; payload_length = 7 });
    }

-- a window freshly opened on such a store
abbrev fresh : Window → Outcome
fresh w = opened w (uncleared_store w)

-- the number that an opening answers, with n = L × D, K = 1
unfoldable pub opening : (l d p : ℕ) → ℕ
opening l d p = number_of (fresh (asked 0 0 l d p (l * d) 1)).answer

-- the window of cases 5 and 6: base 65,530, n = 16, L = D = 4; P = 188, K = 1
unfoldable pub grid : Outcome
grid = fresh (asked 65530 0 4 4 188 16 1)

-- what every parity packet takes from its sender
unfoldable pub outer : Outer
outer = record { sequence = 7; timestamp = 0; ssrc = 0 }

-- case 7's timestamps
unfoldable pub timestamps : List ℕ
timestamps = 1000 ∷ 2000 ∷ 3000 ∷ 4000 ∷ []

-- a payload of zeros
unfoldable pub zeros : List ℕ
zeros = replicate 188 0

-- the parity packet of a group of four packets with these timestamps and payloads of zeros
unfoldable pub parity : (timestamps : List ℕ) (stream snbase : ℕ) → List ℕ
parity timestamps stream snbase =
    parity_packet outer stream 4 4 snbase
    (record {
      content = record { timestamp = xor_all timestamps; length = xor_all (replicate 4 188); payload = xor_payloads 188 (zeros ∷ zeros ∷ zeros ∷ zeros ∷ []) };
      size = 188;
    })

-- the number that a parity packet is answered with on that window
unfoldable pub offer : (stream snbase : ℕ) → ℕ
offer stream snbase = number_of (offered_parity stream grid.window (parity timestamps stream snbase) grid.store).answer

-- a media packet is offered, with a payload of zeros
unfoldable pub media : (number timestamp : ℕ) → Outcome → Outcome
media number timestamp x = offered_media x.window (media_packet number 0 (record { timestamp = timestamp; length = 188; payload = zeros })) x.store

-- case 4's group on that window, the packet with 4,000 missing, then its column parity
unfoldable pub rebuilt : Outcome
rebuilt =
    let x = media 2 3000 (media 65534 2000 (media 65530 1000 grid)) in
    offered_parity column x.window (parity timestamps column 65530) x.store

-- case 10: base 0, L = D = 4, n = 16, K = 8, and all timestamps and payloads zero
unfoldable pub square : Outcome
square = fresh (asked 0 0 4 4 188 16 8)

-- the parity packets of the groups of a stream that start at these positions are offered
unfoldable pub parities : (stream : ℕ) → List ℕ → Outcome → Outcome
parities stream [] x = x
parities stream (i ∷ l) x =
    parities stream l (offered_parity stream x.window (parity (0 ∷ 0 ∷ 0 ∷ 0 ∷ []) stream (number_at width x.window.base i)) x.store)

-- the media packets of these positions are offered
unfoldable pub medias : List ℕ → Outcome → Outcome
medias [] x = x
medias (i ∷ l) x = medias l (media (number_at width x.window.base i) 0 x)

-- all aligned rows and columns, then all media but 0, 1, 4 and 5
unfoldable pub corners : Outcome
corners =
    medias (2 ∷ 3 ∷ 6 ∷ 7 ∷ 8 ∷ 9 ∷ 10 ∷ 11 ∷ 12 ∷ 13 ∷ 14 ∷ 15 ∷ [])
    (parities column (aligned_columns 4 4 0) (parities row (aligned_rows 4 4 0) square))

-- case 11: case 10, then media 5 arrives
unfoldable pub late : Outcome
late = media 5 0 corners

-- case 12: the numbers of the first staggered column for r at L = 4, D = 5, where packets are numbered from 1
unfoldable pub staggered : (r : ℕ) → List ℕ
staggered r = members width (number_at width 1 (staggered_column 4 5 0 r)) (offset_of column 4) (na_of column 4 5)

-- the table
unfoldable pub cases : List Case
cases =
    record { number = 1; got = opening 20 5 188 ∷ opening 1 4 188 ∷ []; said = 0 ∷ 0 ∷ [] }
    ∷ record { number = 1; got = opening 20 6 188 ∷ opening 21 4 188 ∷ opening 4 3 188 ∷ []; said = 1 ∷ 1 ∷ 1 ∷ [] }
    ∷ record { number = 2; got = opening 1 4 188 ∷ opening 1 4 1316 ∷ opening 1 4 204 ∷ opening 1 4 1428 ∷ []; said = 0 ∷ 0 ∷ 0 ∷ 0 ∷ [] }
    ∷ record { number = 2; got = opening 1 4 0 ∷ opening 1 4 187 ∷ opening 1 4 1504 ∷ opening 1 4 1632 ∷ []; said = 2 ∷ 2 ∷ 2 ∷ 2 ∷ [] }
    ∷ record { number = 3; got = number_at width 65530 6 ∷ number_at width 65530 15 ∷ []; said = 0 ∷ 9 ∷ [] }
    ∷ record { number = 4; got = members width 65530 4 4; said = 65530 ∷ 65534 ∷ 2 ∷ 6 ∷ [] }
    ∷ record { number = 5; got = offer column 65533 ∷ offer column 65534 ∷ offer column 65529 ∷ []; said = 0 ∷ 13 ∷ 13 ∷ [] }
    ∷ record { number = 6; got = offer row 6 ∷ offer row 7 ∷ []; said = 0 ∷ 13 ∷ [] }
    ∷ record { number = 7; got = xor_all timestamps ∷ []; said = 32 ∷ [] }
    ∷ record { number = 7; got = number_of rebuilt.answer ∷ count_of rebuilt.answer ∷ timestamp_at rebuilt.store 12 ∷ []; said = 0 ∷ 1 ∷ 4000 ∷ [] }
    ∷ record { number = 8; got = take 3 (drop 2 (fec_header column 4 5 0 (xor_all (replicate 5 1316)) 0)); said = 0x05 ∷ 0x24 ∷ 0xA1 ∷ [] }
    ∷ record {
      number = 9;
      got = take 28 (parity timestamps column 65530);
      said =
          (0x80 ∷ 0x60 ∷ 0x00 ∷ 0x07 ∷ 0x00 ∷ 0x00 ∷ 0x00 ∷ 0x00 ∷ 0x00 ∷ 0x00 ∷ 0x00 ∷ 0x00 ∷ [])
          ++ (0xFF ∷ 0xFA ∷ 0x00 ∷ 0x00 ∷ 0x80 ∷ 0x00 ∷ 0x00 ∷ 0x00 ∷ 0x00 ∷ 0x00 ∷ 0x00 ∷ 0x20 ∷ 0x00 ∷ 0x04 ∷ 0x04 ∷ 0x00 ∷ []);
    }
    ∷ record { number = 10; got = take 16 corners.store.marks; said = 0 ∷ 0 ∷ 1 ∷ 1 ∷ 0 ∷ 0 ∷ 1 ∷ 1 ∷ 1 ∷ 1 ∷ 1 ∷ 1 ∷ 1 ∷ 1 ∷ 1 ∷ 1 ∷ [] }
    ∷ record { number = 11; got = number_of late.answer ∷ count_of late.answer ∷ []; said = 0 ∷ 3 ∷ [] }
    ∷ record { number = 12; got = staggered 0; said = 1 ∷ 5 ∷ 9 ∷ 13 ∷ 17 ∷ [] }
    ∷ record { number = 12; got = staggered 1; said = 6 ∷ 10 ∷ 14 ∷ 18 ∷ 22 ∷ [] }
    ∷ []

-- what the definitions give is what the document says, in each case
abbrev pub Agreed : List Case → Type 0
Agreed [] = Unit
Agreed (c ∷ cs) = (c.got ≡ c.said) × Agreed cs
