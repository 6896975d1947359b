-- `offer::row_same` meets its contract: each return by the tests that led there. Assumes nothing.
-- what a record at a slot carries
use mathlib.Core.Path.{◌≡◌, refl, sym, ap, ◌∙◌}
use mathlib.Core.Bool.{Bool, true, false, ◌&&◌}
use mathlib.Core.List.{List}
use Prim.Native.Nat.{ℕ, ◌+◌, ◌*◌, ◌-◌, ◌<◌}
use lib.Dec.{eqb}
use lib.ListN.{length, take, drop, length-drop}
use borrow.Author.Tests.{eq-eqb, ne_eqb}
use Rattle.xor.specs.Xor.{padded}
use Rattle.xor.specs.Same.{same}
use Rattle.sequence.proofs.Lists.{and_split}
use Rattle.rtp.specs.Fec.{parity_header_size, snbase}
use Rattle.window.specs.declared.Record.{Record}
use Rattle.window.specs.Store.{payload_in}
use Rattle.window.specs.Order.{used}
use Rattle.calls.specs.Content.{Recovery, same_content, same_recovery}
use Rattle.calls.specs.Accept.{recovery_of}
use Rattle.table.specs.View.{slot_at, it_at}
use Rattle.group.proofs.Rows.{row_ends}
use Rattle.offer.specs.Rows.{row_holds}
use Rattle.offer.proofs.Tests.{rest-is, rest-same, rest-long, rest-part}
use native.Mathlib.Omega.{arith}
use Rattle.offer.proofs.row_same.Goals as goal

abbrev kept : (p : ℕ) → (parity : List ℕ) → Record → ℕ → Recovery
kept p parity v s = record { content = record { timestamp = v.timestamp_recovery; length = v.length_recovery; payload = payload_in p parity v.payload_length s }; size = v.payload_length }

-- a recovery that differs in its timestamp, in its length, or in its size

stamps-differ : (a b : Recovery) → eqb a.content.timestamp b.content.timestamp ≡ false → false ≡ same_recovery a b
stamps-differ a b e = rw e

lengths_differ : (a b : Recovery) → eqb a.content.length b.content.length ≡ false → false ≡ same_recovery a b
lengths_differ a b e = rw e (go (eqb a.content.timestamp b.content.timestamp))
  where
    go : (t : Bool) → false ≡ ((t && false && same a.content.payload b.content.payload) && eqb a.size b.size)
    go true = refl
    go false = refl

sizes-differ : (a b : Recovery) → eqb a.size b.size ≡ false → false ≡ same_recovery a b
sizes-differ a b e = rw e (go (same_content a.content b.content))
  where
    go : (t : Bool) → false ≡ (t && false)
    go true = refl
    go false = refl

all_same : (a b : Recovery) → eqb a.content.timestamp b.content.timestamp ≡ true → eqb a.content.length b.content.length ≡ true → eqb a.size b.size ≡ true → same a.content.payload b.content.payload ≡ same_recovery a b
all_same a b et el es = rw (et, el, es) (go (same a.content.payload b.content.payload))
  where
    go : (t : Bool) → t ≡ (t && true)
    go true = refl
    go false = refl

pub returns-then-not-row_holds : goal.returns-then-not-row_holds
returns-then-not-row_holds c =
    let a = c.args in
    let e : row_holds a.rows.now a.stream (snbase a.datagram.now) a.i ≡ false = ap (λ (b : ℕ). row_holds a.rows.now a.stream b a.i) (sym c.snbase.ensures) ∙ sym c.row_holds.ensures ∙ c.if-not-row_holds.true in
    rw e

pub returns-then-v-timestamp_recovery : goal.returns-then-v-timestamp_recovery
returns-then-v-timestamp_recovery c =
    let a = c.args in
    let e : row_holds a.rows.now a.stream (snbase a.datagram.now) a.i ≡ true = ap (λ (b : ℕ). row_holds a.rows.now a.stream b a.i) (sym c.snbase.ensures) ∙ sym c.row_holds.ensures ∙ c.if-not-row_holds.false in
    rw e (stamps-differ (kept a.w.p a.parity.now (it_at a.rows.now a.i) (slot_at a.rows.now a.i)) (recovery_of a.w.p a.datagram.now) (ne_eqb _ _ (λ z. c.if-v-timestamp_recovery.true (z ∙ sym c.timestamp_recovery.ensures))))

pub returns-then-v-length_recovery : goal.returns-then-v-length_recovery
returns-then-v-length_recovery c =
    let a = c.args in
    let e : row_holds a.rows.now a.stream (snbase a.datagram.now) a.i ≡ true = ap (λ (b : ℕ). row_holds a.rows.now a.stream b a.i) (sym c.snbase.ensures) ∙ sym c.row_holds.ensures ∙ c.if-not-row_holds.false in
    rw e (lengths_differ (kept a.w.p a.parity.now (it_at a.rows.now a.i) (slot_at a.rows.now a.i)) (recovery_of a.w.p a.datagram.now) (ne_eqb _ _ (λ z. c.if-v-length_recovery.true (z ∙ sym c.length_recovery.ensures))))

pub returns-then-wide-size : goal.returns-then-wide-size
returns-then-wide-size c =
    let a = c.args in
    let e : row_holds a.rows.now a.stream (snbase a.datagram.now) a.i ≡ true = ap (λ (b : ℕ). row_holds a.rows.now a.stream b a.i) (sym c.snbase.ensures) ∙ sym c.row_holds.ensures ∙ c.if-not-row_holds.false in
    rw e (sizes-differ (kept a.w.p a.parity.now (it_at a.rows.now a.i) (slot_at a.rows.now a.i)) (recovery_of a.w.p a.datagram.now) (ne_eqb _ _ (λ z. c.if-wide-size.true (c.wide.ensures.0 ∙ z ∙ ap length (sym (rest-is parity_header_size a.datagram.now))))))

pub overflow_mul-at : goal.overflow_mul-at
overflow_mul-at c =
    let a = c.args in
    let e : row_holds a.rows.now a.stream c.snbase.result a.i ≡ true = sym c.row_holds.ensures ∙ c.if-not-row_holds.false in
    let low : (slot_at a.rows.now a.i) < a.w.k = (c.requires.1 (and_split (used (it_at a.rows.now a.i)) _ e).0) in
    omega (arith, row_ends (slot_at a.rows.now a.i) a.w.k a.w.p _ low c.requires.2, c.well_formed)

pub slice_bounds-same-end : goal.slice_bounds-same-end
slice_bounds-same-end c =
    let a = c.args in
    let e : row_holds a.rows.now a.stream c.snbase.result a.i ≡ true = sym c.row_holds.ensures ∙ c.if-not-row_holds.false in
    let low : (slot_at a.rows.now a.i) < a.w.k = (c.requires.1 (and_split (used (it_at a.rows.now a.i)) _ e).0) in
    let ends = row_ends (slot_at a.rows.now a.i) a.w.k a.w.p _ low c.requires.2 in
    omega (arith, ends, c.requires.3.0, c.requires.3.1, rest-long parity_header_size a.datagram.now)

pub returns : goal.returns
returns c =
    let a = c.args in
    let e : row_holds a.rows.now a.stream (snbase a.datagram.now) a.i ≡ true = ap (λ (b : ℕ). row_holds a.rows.now a.stream b a.i) (sym c.snbase.ensures) ∙ sym c.row_holds.ensures ∙ c.if-not-row_holds.false in
    let low : (slot_at a.rows.now a.i) < a.w.k = (c.requires.1 (and_split (used (it_at a.rows.now a.i)) _ e).0) in
    let size : (it_at a.rows.now a.i).payload_length ≡ length a.datagram.now - parity_header_size = sym c.wide.ensures.0 ∙ c.if-wide-size.false ∙ rest-long parity_header_size a.datagram.now in
    let payloads : c.same.result ≡ same (padded a.w.p (take (it_at a.rows.now a.i).payload_length (drop ((slot_at a.rows.now a.i) * a.w.p) a.parity.now))) (padded a.w.p (drop parity_header_size a.datagram.now)) =
    c.same.ensures ∙ ap (λ (n : ℕ). same (take n (drop (slot_at a.rows.now a.i * a.w.p) a.parity.now)) (take (length a.datagram.now - parity_header_size) (drop parity_header_size a.datagram.now))) (rest-part parity_header_size (slot_at a.rows.now a.i * a.w.p) a.datagram.now) ∙ sym (rest-same parity_header_size a.w.p ((slot_at a.rows.now a.i) * a.w.p) a.parity.now a.datagram.now c.requires.3 (row_ends (slot_at a.rows.now a.i) a.w.k a.w.p _ low c.requires.2))
    ∙ ap (λ (n : ℕ). same (padded a.w.p (take n (drop ((slot_at a.rows.now a.i) * a.w.p) a.parity.now))) (padded a.w.p (drop parity_header_size a.datagram.now))) (sym size) in
    rw e (payloads ∙ all_same (kept a.w.p a.parity.now (it_at a.rows.now a.i) (slot_at a.rows.now a.i)) (recovery_of a.w.p a.datagram.now) (eq-eqb _ _ (c.if-v-timestamp_recovery.false ∙ c.timestamp_recovery.ensures)) (eq-eqb _ _ (c.if-v-length_recovery.false ∙ c.length_recovery.ensures)) (eq-eqb _ _ (size ∙ sym (length-drop parity_header_size a.datagram.now))))
