-- The customer's night, as an instance of demand 3 and through the calls: a column that runs across the wrap of the sequence counter
-- rebuilds the packet that is missing, byte for byte and at its own length, with repeats refused on the way.
use Rattle.std.specs.Prelude.{◌≡◌, refl, Bool, true, false, cond, ℕ, zero, suc, ◌+◌, ◌%◌, ◌<◌, eqb, length, replicate}
use Rattle.std.proofs.Common.{⊎_elim, arith}
use mathlib.Core.List.Memᴰ
use mathlib.Core.List.{[], ◌∷◌, ◌++◌, Memᴰ}
use Rattle.answer.specs.declared.Answer.TheVariants.{Done, Refused}
use Rattle.answer.specs.First.{first}
use Rattle.peel.specs.Rest.{rounds}
use Rattle.rtp.specs.Fec.{column}
use Rattle.rtp.specs.Length.{good_length}
use Rattle.window.specs.Limits.{width}
use Rattle.window.specs.Order.{disorder}
use Rattle.sequence.specs.Wrap.{number_at}
use Rattle.calls.specs.Content.{content_at}
use Rattle.calls.specs.State.{rebuild}
use Rattle.calls.specs.Settle.{next, release_all, round, settle}
use Rattle.calls.specs.Call.{opened, offered_media, offered_parity, read_out, wrote_parity}
use Rattle.guarantee.specs.Demand3.{Offer, run, answers, Fills, Unaltered, names_of, Received, media_name, Given, mark_at, Hidden, Demand3, different}
use Rattle.guarantee.proofs.Ranges.{decide}
use Rattle.guarantee.proofs.Theorem.{demand3}
use Rattle.guarantee.specs.Night.{window, lent, ts_packet, stretch, outer, media, parity, offers, morning}

-- small numbers are bytes
small : (n x b : ℕ) → x < 256 → Memᴰ b (replicate n x) → b < 256
small zero x b h m = absurd (Memᴰ.not-nil m)
small (suc n) x b h (Memᴰ.head e) = omega arith
small (suc n) x b h (Memᴰ.tail m) = small n x b h m

-- it fills the window
pub fills : Fills window stretch
unfolding stretch ts_packet
fills = record { timestamp-fits = λ i h. omega arith; size = λ i h. long i (eqb (i % 8) 0); bytes = λ i h b m. each i b h (eqb (i % 8) 0) m }
  where
    long : (i : ℕ) (two : Bool) → good_length 376 (length (cond two (ts_packet i ++ ts_packet i) (ts_packet i))) ≡ true
    long i true = refl
    long i false = refl

    byte : (i b : ℕ) → i < 16 → Memᴰ b (ts_packet i) → b < 256
    byte i b h (Memᴰ.head e) = omega arith
    byte i b h (Memᴰ.tail m) = small 187 (i + 1) b (omega arith) m

    each : (i b : ℕ) → i < 16 → (two : Bool) → Memᴰ b (cond two (ts_packet i ++ ts_packet i) (ts_packet i)) → b < 256
    each i b h true m = ⊎_elim (byte i b h) (byte i b h) (Memᴰ.append_cases (ts_packet i) m)
    each i b h false m = byte i b h m

-- ---- by demand 3
-- the media packets are unaltered
media-unaltered : (i : ℕ) → i < 16 → Unaltered window stretch (media i)
unfolding stretch media
media-unaltered i h = record { place = i; ssrc = 0; in_window = h; ssrc-fits = omega arith; is = refl }

-- and so is the column
parity-unaltered : Unaltered window stretch parity
unfolding stretch parity outer
parity-unaltered = record { snbase = 65530; outer = outer; snbase-fits = omega arith; sequence-fits = omega arith; timestamp-fits = omega arith; ssrc-fits = omega arith; permitted = refl; in_window = refl; is = refl }

-- so what demand 3 asks is given
given : Given window lent stretch offers
unfolding offers opened first media parity different
given = record {
  base-fits = omega arith;
  fills = fills;
  fresh = refl;
  unaltered = λ o m. each o m;
  few_groups = omega arith;
}
  where
    each : (o : Offer) → Memᴰ o offers → Unaltered window stretch o
    each o (Memᴰ.head e) = rw e (media-unaltered 0 (omega arith))
    each o (Memᴰ.tail (Memᴰ.head e)) = rw e parity-unaltered
    each o (Memᴰ.tail (Memᴰ.tail (Memᴰ.head e))) = rw e (media-unaltered 8 (omega arith))
    each o (Memᴰ.tail (Memᴰ.tail (Memᴰ.tail (Memᴰ.head e)))) = rw e parity-unaltered
    each o (Memᴰ.tail (Memᴰ.tail (Memᴰ.tail (Memᴰ.tail (Memᴰ.head e))))) = rw e (media-unaltered 8 (omega arith))
    each o (Memᴰ.tail (Memᴰ.tail (Memᴰ.tail (Memᴰ.tail (Memᴰ.tail (Memᴰ.head e)))))) = rw e (media-unaltered 4 (omega arith))
    each o (Memᴰ.tail (Memᴰ.tail (Memᴰ.tail (Memᴰ.tail (Memᴰ.tail (Memᴰ.tail m)))))) = elim m [ ]

-- and what it says holds
after : Demand3 window stretch (names_of offers) (answers (opened window lent) offers) morning.store
after = demand3 65530 0 4 4 376 16 1 lent stretch offers given

-- position 12, number 6, whose media packet was not received, is present with the timestamp, length and payload sent
pub rebuilt : (mark_at morning.store 12 ≡ 1) × (content_at window morning.store 12 ≡ record { timestamp = 12000; length = 188; payload = 0x47 ∷ replicate 187 13 ++ replicate 188 0 })
unfolding offers media parity outer stretch ts_packet
rebuilt = (there, after.present 12 (omega arith) there)
  where
    -- were it missing, the column would cover just it of some set
    alone : (S : ℕ → Bool) → Hidden window (names_of offers) S → S 12 ≡ true → ⊥
    alone S h e = h.never-one column 65530 (Memᴰ.tail (Memᴰ.head refl))
        (rw (out 0 (Memᴰ.head refl), out 4 (Memᴰ.tail (Memᴰ.tail (Memᴰ.tail (Memᴰ.tail (Memᴰ.tail (Memᴰ.head refl)))))), out 8 (Memᴰ.tail (Memᴰ.tail (Memᴰ.head refl))), e))
      where
        out : (i : ℕ) → Received (names_of offers) (media_name (number_at width 65530 i)) → S i ≡ false
        out i m = ⊎_elim (λ q. absurd (h.unreceived i q m)) (λ q. q) (decide (S i))

    there : mark_at morning.store 12 ≡ 1
    there = ⊎_elim (λ e. let q = (after.missing 12 (omega arith)).0 e in absurd (alone q.0 q.1 q.2)) (λ e. e) (after.mark 12 (omega arith))

-- ---- through the calls: what a card sees, computed through the definitions that the exported calls' contracts cite
-- both repeats are refused with 14, and the last packet to arrive sets off the rebuild of the missing one
pub answered : answers (opened window lent) offers ≡ Done 0 0 ∷ Done 0 0 ∷ Done 0 0 ∷ Refused 14 ∷ Refused 14 ∷ Done 1 0 ∷ []
unfolding answers offers media parity outer stretch ts_packet first opened offered_media offered_parity disorder settle round next release_all rebuild rounds
answered = refl

-- reading out number 6 then gives its datagram as it was sent, and leaves the rest of the output as it was
pub read_back : (read_out morning.window 6 morning.store (replicate 388 7)).out ≡ (media 12).datagram ++ replicate 188 7
unfolding run offers media parity outer stretch ts_packet first opened offered_media offered_parity disorder settle round next release_all rebuild rounds read_out
read_back = refl

-- and writing the column's parity gives the packet that was received
pub written_back : (wrote_parity column morning.window 65530 outer morning.store (replicate 404 7)).out ≡ parity.datagram
unfolding run offers media parity outer stretch ts_packet first opened offered_media offered_parity disorder settle round next release_all rebuild rounds wrote_parity
written_back = refl
