-- The claims of Moving.antt, proved: a move that was carried out is a release of the parity behind (Released.antt) and a shift of the positions
-- (Onward.antt), and what it wrote is read back (Slots.antt).
use Rattle.std.specs.Prelude.{◌≡◌, ◌⊎◌, Bool, true, false, List, [], ℕ, ◌+◌, ◌-◌, ◌<◌, ◌≤◌, eqb, ltb, replicate}
use Rattle.std.proofs.Math.Path.{refl, ap, subst}
use Rattle.std.proofs.Common.{sym, ◌∙◌, inl, inr, ⊎_elim, arith, pow_pos, eqb-true, ltb-false}
use Rattle.std.proofs.Math.Bool.{cond}
use Rattle.std.proofs.Math.Nat.{mod-lt}
use Rattle.answer.specs.declared.Answer.TheVariants.{Done, Refused}
use Rattle.answer.specs.First.{first, first-none}
use Rattle.sequence.specs.Lists.{up_to, count}
use Rattle.sequence.proofs.Lists.{or_split}
use Rattle.sequence.specs.Wrap.{number_at}
use Rattle.window.specs.declared.Window.{Window}
use Rattle.window.specs.Limits.{width, rows}
use Rattle.window.specs.Record.{blank}
use Rattle.window.specs.Store.{Store, record_at}
use Rattle.window.specs.Group.{is_missing}
use Rattle.window.specs.Order.{is_present, used_by, is_in_use, group_at}
use Rattle.calls.specs.Datagram.{media_packet}
use Rattle.calls.specs.State.{State, recount, release_below}
use Rattle.calls.specs.Call.{standing_tests, begun}
use Rattle.calls.proofs.Passed.{none_first}
use Rattle.calls.specs.Move.{Moved, outcome_of, move_tests, leaving, leaving_count, behind, release_behind, shifted, advanced, moved_on, moved}
use Rattle.guarantee.proofs.Ranges.{decide, up_to-lt, all_any, count-zero}
use Rattle.guarantee.proofs.View.{mark-one}
use Rattle.guarantee.specs.Rounds.{at}
use Rattle.guarantee.specs.Order.{Ordered, stands}
use Rattle.guarantee.proofs.Order.{set_up_passes, start-limits, start-ordered}
use Rattle.guarantee.proofs.Sent.{group-some}
use Rattle.guarantee.proofs.Recount.{holds_on}
use Rattle.guarantee.specs.Demand3.{Offer, Stretch, Fills, content_sent, mark_at}
use Rattle.guarantee.specs.Start.{Holds, Start, GivenFrom, SameSetUp}
use Rattle.guarantee.proofs.Theorem.{demand3-from, demand3-same-from}
use Rattle.guarantee.specs.Moving.{onward, GivenMove, ClaimMove, ClaimLeft, cell_at, empty_cell, ClaimPositions, bytes_at, ClaimReleased, ClaimEmptied, GivenBetween, ClaimBetween, ClaimSameBetween}
use Rattle.guarantee.proofs.Onward.{leaving-present, cell_at_lem, cell_new, onward-good, onward-waits, onward-holds}
use Rattle.guarantee.specs.Released.{Released}
use Rattle.guarantee.proofs.Released.{release_below_lem, released_cell, released-row, released-clear, released-waits, released-holds}
use Rattle.guarantee.proofs.Slots.{slot_read}

-- ---- a move, carried out or refused
-- a move answers a refusal, and changes nothing, or met none
pub move_ways : (w : Window) (by : ℕ) (s : Store) (out sizes : List ℕ)
    → (first (move_tests w by s out sizes) ≡ 0) ⊎ (moved w by s out sizes ≡ record { answer = Refused (first (move_tests w by s out sizes)); window = w; store = s; out = out; sizes = sizes })
unfolding moved
move_ways w by s out sizes = go (eqb (first (move_tests w by s out sizes)) 0) refl
  where
    refusal : Moved
    refusal = record { answer = Refused (first (move_tests w by s out sizes)); window = w; store = s; out = out; sizes = sizes }

    go : (b : Bool) → eqb (first (move_tests w by s out sizes)) 0 ≡ b → (first (move_tests w by s out sizes) ≡ 0) ⊎ (cond b (moved_on w by s out sizes) refusal ≡ refusal)
    go true e = inl (eqb-true (first (move_tests w by s out sizes)) 0 e)
    go false e = inr refl

-- one that met none was carried out
pub move-done : (w : Window) (by : ℕ) (s : Store) (out sizes : List ℕ) → first (move_tests w by s out sizes) ≡ 0 → moved w by s out sizes ≡ moved_on w by s out sizes
unfolding moved
move-done w by s out sizes e = rw e

-- and one that was carried out met none
pub done-move : (w : Window) (by : ℕ) (s : Store) (out sizes : List ℕ) (c q : ℕ) → (moved w by s out sizes).answer ≡ Done c q → first (move_tests w by s out sizes) ≡ 0
done-move w by s out sizes c q e = go (move_ways w by s out sizes)
  where
    go : (first (move_tests w by s out sizes) ≡ 0) ⊎ (moved w by s out sizes ≡ record { answer = Refused (first (move_tests w by s out sizes)); window = w; store = s; out = out; sizes = sizes })
        → first (move_tests w by s out sizes) ≡ 0
    go (inl z) = z
    go (inr z) = absurd (let y : ◌≡◌ {A = ℕ} 0 1 = cc (ap (λ m. m.answer) z) in omega arith)

-- it moves by no more than n
pub move-within : (w : Window) (by : ℕ) (s : Store) (out sizes : List ℕ) → first (move_tests w by s out sizes) ≡ 0 → by ≤ w.n
move-within w by s out sizes e =
    let none = first-none (move_tests w by s out sizes) (tt, (tt, (tt, (tt, (tt, (tt, tt)))))) e in
    ltb-false w.n by (or_split (ltb by 1) (ltb w.n by) none.1.1.1.0).1

-- ---- from a start
module _ {w : Window} {t : Stretch} {s : Store} (S : Start w t s) (by : ℕ) (hb : by ≤ w.n) where
  -- the parity behind is released
  released : Released w w.present s by (rows w) (release_below (behind by) (rows w) (at w w.present w.in_use s 0 0))
  released = release_below_lem (start-ordered S).good by (rows w) (omega arith)

  -- what leaves is the first packets present, also of what is released
  leaves : leaving_count s by ≡ count (is_present released.store.marks) (up_to by)
  leaves = leaving-present (start-ordered S).good by hb ∙ ap (λ m. count (is_present m) (up_to by)) (sym released.marks)

  -- after the shift the store is in order
  shifted-order : Ordered (advanced by 0 w) (w.present - leaving_count s by) released.used (shifted w by released.store)
  shifted-order = rw leaves (record {
    good = onward-good (start-limits S) released.good by hb (released-clear released);
    waits = onward-waits (start-limits S) released.good by hb (released-clear released) (released-waits released (start-ordered S).waits);
  })

  -- what it holds is unaltered for the stretch moved on
  shifted-holds : Holds (advanced by 0 w) (onward by t) (shifted w by released.store)
  shifted-holds = onward-holds (start-limits S) released.good by hb (released-clear released) (released-holds released S.holds)

  -- the base moved on, and the other set-up numbers stay
  pub moved-set_up : (out sizes : List ℕ) → SameSetUp (moved_on w by s out sizes).window (advanced by 0 w)
  unfolding release_behind
  moved-set_up out sizes = subst (λ x. SameSetUp (advanced by (leaving_count s by) x.window) (advanced by 0 w)) (sym released.is) refl

  -- fewer packets are present by those that left
  moved-present : (out sizes : List ℕ) → (moved_on w by s out sizes).window.present ≡ w.present - leaving_count s by
  unfolding release_behind
  moved-present out sizes = ap (λ x. x.window.present - leaving_count s by) released.is

  -- so it is a start
  pub moved-start : (out sizes : List ℕ) → Fills (moved_on w by s out sizes).window (onward by t) → Start (moved_on w by s out sizes).window (onward by t) (moved_on w by s out sizes).store
  unfolding release_behind
  moved-start out sizes F =
      let left = leaving_count s by in
      subst (λ x. Fills (advanced by left x.window) (onward by t) → Start (advanced by left x.window) (onward by t) (shifted w by x.store)) (sym released.is) (λ E. record {
        base-fits = mod-lt (w.base + by) (pow_pos width);
        fills = E;
        passes = none_first (standing_tests (recount (advanced by 0 w) (w.present - left) released.used) (shifted w by released.store) 0 0)
            (stands (advanced by 0 w) (w.present - left) released.used (shifted w by released.store) (set_up_passes w s S.passes) shifted-order);
        holds = holds_on (advanced by 0 w) (w.present - left) released.used (onward by t) shifted-holds;
      }) F

  -- each position moved down, and the last ones are new
  moved-cells : (out sizes : List ℕ) (i : ℕ)
      → (i < w.n - by → cell_at w (moved_on w by s out sizes).store i ≡ cell_at w s (by + i)) × (i < by → cell_at w (moved_on w by s out sizes).store (w.n - by + i) ≡ empty_cell w)
  unfolding release_behind
  moved-cells out sizes i =
      let C : State → Type 0 = λ x. (i < w.n - by → cell_at w (shifted w by x.store) i ≡ cell_at w s (by + i)) × (i < by → cell_at w (shifted w by x.store) (w.n - by + i) ≡ empty_cell w) in
      subst C (sym released.is) (
        λ h. cell_at_lem (start-limits S) released.good by hb (released-clear released) i h ∙ released_cell released (by + i),
        cell_new (start-limits S) released.good by hb (released-clear released) i,
      )

  -- each record was released, or is as it was
  pub moved-records : (out sizes : List ℕ) (r : ℕ) → r < rows w
      → (record_at (moved_on w by s out sizes).store r ≡ cond (behind by (begun w s) r) blank (record_at s r))
      × (bytes_at w (moved_on w by s out sizes).store r ≡ cond (behind by (begun w s) r) (replicate w.p 0) (bytes_at w s r))
  unfolding release_behind
  moved-records out sizes r h = subst (λ x. (record_at x.store r ≡ cond (behind by (begun w s) r) blank (record_at s r)) × (bytes_at w x.store r ≡ cond (behind by (begun w s) r) (replicate w.p 0) (bytes_at w s r)))
      (sym released.is) (released-row released r h)

  -- what leaves is what was sent, or nothing
  pub leaving-sent : (i : ℕ) → i < by → ((mark_at s i ≡ 0) × (leaving w s i ≡ [])) ⊎ ((mark_at s i ≡ 1) × (leaving w s i ≡ media_packet (number_at width w.base i) w.ssrc (content_sent w t i)))
  leaving-sent i h = go (decide (is_missing s.marks i))
    where
      go : (is_missing s.marks i ≡ true) ⊎ (is_missing s.marks i ≡ false)
          → ((mark_at s i ≡ 0) × (leaving w s i ≡ [])) ⊎ ((mark_at s i ≡ 1) × (leaving w s i ≡ media_packet (number_at width w.base i) w.ssrc (content_sent w t i)))
      go (inl e) = inl (eqb-true (mark_at s i) 0 e, rw e)
      go (inr e) =
          let one = mark-one (start-ordered S).good i (omega arith) e in
          inr (one, rw e (ap (media_packet (number_at width w.base i) w.ssrc) (S.holds.media i (omega arith) one)))

-- ---- the claims
module _ {w : Window} {t : Stretch} {s : Store} {by : ℕ} {x : Moved} (G : GivenMove w t s by x) where
  -- no refusal applied
  passed : first (move_tests w by s G.out G.sizes) ≡ 0
  passed = done-move w by s G.out G.sizes G.count 0 (ap (λ m. m.answer) G.is ∙ G.done)

  -- so it is the move carried out
  carried-out : moved_on w by s G.out G.sizes ≡ x
  carried-out = sym (move-done w by s G.out G.sizes passed) ∙ G.is

  -- by no more than n
  within : by ≤ w.n
  within = move-within w by s G.out G.sizes passed

-- a move leaves a start
pub move_start : ClaimMove
move_start w t s by x G =
    subst (λ y. Fills y.window (onward by t) → SameSetUp y.window (advanced by 0 w) × Start y.window (onward by t) y.store) (carried-out G)
    (λ F. (moved-set_up G.start by (within G) G.out G.sizes, moved-start G.start by (within G) G.out G.sizes F)) G.fills

-- it writes what was sent
pub move-left : ClaimLeft
move-left w t s by x G i h = rw (← carried-out G, slot_read w s by G.out G.sizes i h) (leaving-sent G.start by (within G) i h)

-- the other positions move down whole
pub move-positions : ClaimPositions
move-positions w t s by x G i = rw (← carried-out G) (moved-cells G.start by (within G) G.out G.sizes i)

-- it releases the parity behind, and no other
pub move_released : ClaimReleased
move_released w t s by x G r h = rw (← carried-out G) (moved-records G.start by (within G) G.out G.sizes r h)

-- a move by n leaves nothing
pub move_emptied : ClaimEmptied
move_emptied w t s x G = (present, (start-ordered M.1).good.in_use ∙ count-zero (is_in_use w x.store) (up_to (rows x.window)) (λ r m. unused r (up_to-lt (rows x.window) r m)))
  where
    M : SameSetUp x.window (advanced w.n 0 w) × Start x.window (onward w.n t) x.store
    M = move_start w t s w.n x G

    present : x.window.present ≡ 0
    present =
        let o = (start-ordered G.start).good in
        let e = ap (λ y. y.window.present) (sym (carried-out G)) ∙ moved-present G.start w.n (within G) G.out G.sizes in
        omega (arith, leaving-present o w.n (within G), o.presents)

    -- every group in hand lies in the window, so all of it is behind
    all-behind : (r : ℕ) → r < rows w → is_in_use w s r ≡ true → behind w.n (begun w s) r ≡ true
    all-behind r h e = rw e (all_any (λ i. ltb i w.n) (group_at w s r) (group-some (start-limits G.start) (record_at s r).stream (record_at s r).snbase) ((start-ordered G.start).good.shaped r h e).within)

    unused : (r : ℕ) → r < rows x.window → is_in_use w x.store r ≡ false
    unused r h =
        let k : rows x.window ≡ rows w = ap rows M.0 in
        ap (used_by w) (move_released w t s w.n x G r (omega arith)).0 ∙ ⊎_elim (λ e. rw (all-behind r (omega arith) e)) (λ e. rw e e) (decide (is_in_use w s r))

-- a list after a move starts from there
given-between : {w : Window} {t : Stretch} {s : Store} {by : ℕ} {x : Moved} {offers : List Offer} → GivenBetween w t s by x offers → GivenFrom (outcome_of x) (onward by t) offers
given-between {w} {t} {s} {by} {x} G = record { start = (move_start w t s by x G.move).1; unaltered = G.unaltered; few_groups = G.few_groups }

-- demand 3 between two moves
pub demand3-between : ClaimBetween
demand3-between w t s by x offers G = demand3-from (outcome_of x) (onward by t) offers (given-between G)

-- of two lists
pub demand3-same-between : ClaimSameBetween
demand3-same-between w v t u s r by to x y offers others G H windows stores same i h =
    demand3-same-from (outcome_of x) (outcome_of y) (onward by t) (onward to u) offers others (given-between G) (given-between H) (subst (λ z. SameSetUp z x.window) windows refl) same i h
