-- The lent store as the theory of rebuilding sees it: a slot for each position, and the checks in hand; and what a store in order satisfies.
use Rattle.std.proofs.Math.Path.{◌≡◌, refl}
use Rattle.std.proofs.Common.{ap, ◌∙◌, arith, ltb-true, lt-ltb}
use Rattle.std.specs.Prelude.{Bool, ◌&&◌, ℕ, ◌<◌, ◌≤◌, length, get_or, eqb, ltb}
use Rattle.std.proofs.Math.Bool.{true, false, not, cond, true≢false}
use Rattle.std.proofs.Math.Option.{Option, none, some}
use mathlib.Core.List.{List, Memᴰ}
use Rattle.std.proofs.lemmas.Bool.{eqb-false}
use Rattle.sequence.specs.Lists.{count}
use Rattle.window.specs.declared.Window.{Window}
use Rattle.window.specs.Plain.{inside_of, group-once}
use Rattle.window.specs.Store.{Store, length_at, record_at}
use Rattle.window.specs.Group.{group, inside, is_missing, missing}
use Rattle.window.specs.Order.{missing_at}
use Rattle.calls.specs.Content.{Recovery, content_at, recovery_at}
use Rattle.peel.specs.Peel.{gone, miss}
use Rattle.peel.specs.Group as Peel
use Rattle.guarantee.proofs.Ranges.{all_of, count-keep, keep_ext}
use Rattle.guarantee.specs.Packets.{Whole, Packet}
use Rattle.guarantee.proofs.Parts.{length_part}
use Rattle.guarantee.specs.View.{Limits, group_of, check_at, Shaped, packet_at, slot_at, Held, view, Good}

-- the members of a group that lies in the window
pub group-lt : (w : Window) (stream snbase : ℕ) → inside w stream snbase ≡ true → (i : ℕ) → Memᴰ i (group w stream snbase) → i < w.n
group-lt w stream snbase h i m = ltb-true i w.n (all_of (λ j. ltb j w.n) (group w stream snbase) h i m)

-- those of a check that a record may name
pub member-lt : {w : Window} {k : ℕ × ℕ} → Shaped w k → (i : ℕ) → Memᴰ i (group_of w k) → i < w.n
member-lt {w} {k} S = group-lt w k.0 k.1 S.within

-- the members of a group are different: no position stands in it twice
pub once : {w : Window} → Limits w → {k : ℕ × ℕ} → Shaped w k → (i : ℕ) → count (eqb i) (group_of w k) ≤ 1
once {w} L {k} S i = group-once w L.based L.set_up k.0 k.1 (inside_of w L.based L.set_up k.0 k.1 S.within) i

module _ (w : Window) (s : Store) (i : ℕ) where
  -- a position of the window that is present has its packet
  pub slot-present : i < w.n → is_missing s.marks i ≡ false → slot_at w s i ≡ some (packet_at w s i)
  unfolding slot_at
  slot-present h e = rw (lt-ltb i w.n h, e)

  -- one that is missing has none
  pub slot-missing : is_missing s.marks i ≡ true → slot_at w s i ≡ none
  unfolding slot_at
  slot-missing e = rw e (go (ltb i w.n))
    where
      go : (b : Bool) → cond (b && false) (some (packet_at w s i)) none ≡ none
      go true = refl
      go false = refl

  -- so what a slot has is the packet of a position of the window that is present
  pub slot_is : (x : Packet) → slot_at w s i ≡ some x → (i < w.n) × (is_missing s.marks i ≡ false) × (x ≡ packet_at w s i)
  unfolding slot_at
  slot_is x e = go (ltb i w.n) (is_missing s.marks i) refl refl e
    where
      nothing : ◌≡◌ {A = Option Packet} none (some x) → ⊥
      nothing h = true≢false (ap gone h)

      go : (b c : Bool) → ltb i w.n ≡ b → is_missing s.marks i ≡ c → cond (b && not c) (some (packet_at w s i)) none ≡ some x
          → (i < w.n) × (is_missing s.marks i ≡ false) × (x ≡ packet_at w s i)
      go true false p q h = (ltb-true i w.n p, q, cc)
      go true true p q h = absurd (nothing h)
      go false c p q h = absurd (nothing h)

  -- within the window a position is missing in the view exactly if its mark is 0
  pub miss-mark : i < w.n → miss (view w s) i ≡ is_missing s.marks i
  unfolding slot_at
  miss-mark h = rw (lt-ltb i w.n h) (go (is_missing s.marks i))
    where
      go : (b : Bool) → gone (cond (true && not b) (some (packet_at w s i)) none) ≡ b
      go true = refl
      go false = refl

-- of a list inside the window, as many are missing in the view as in the store
pub miss-count : (w : Window) (s : Store) (g : List ℕ) → ((i : ℕ) → Memᴰ i g → i < w.n) → Peel.count (miss (view w s)) g ≡ length (missing s.marks g)
miss-count w s g h = count-keep (miss (view w s)) g ∙ ap length (keep_ext (miss (view w s)) (is_missing s.marks) g (λ i m. miss-mark w s i (h i m)))

-- what is kept at a position has P bytes
pub content-whole : (w : Window) (s : Store) (i : ℕ) → Whole w.p (content_at w s i)
content-whole w s i = length_part w.p s.media (length_at s i) i

-- and so has what a record holds
pub recovery_whole : (w : Window) (s : Store) (r : ℕ) → Whole w.p (recovery_at w s r).content
recovery_whole w s r = length_part w.p s.parity (record_at s r).payload_length r

-- a mark that is not 0 is 1
pub mark-one : {w : Window} {a u : ℕ} {s : Store} → Good w a u s → (i : ℕ) → i < w.n → is_missing s.marks i ≡ false → get_or s.marks i 0 ≡ 1
mark-one {s = s} G i h e = let z = G.mark i h in let n = eqb-false (get_or s.marks i 0) 0 e in omega arith

-- of a check in hand, as many members are missing in the view as of its record's group
pub held-count : {w : Window} {a u : ℕ} {s : Store} → Good w a u s → {k : ℕ × ℕ} {v : Recovery} (h : Held w s k v)
    → Peel.count (miss (view w s)) (group_of w k) ≡ length (missing_at w s h.at)
held-count {w} {s = s} G h = rw (← h.names) (miss-count w s (group_of w (check_at s h.at)) (member-lt (G.shaped h.at h.below h.used)))
