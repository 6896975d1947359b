-- A packet that leaves, in its slot. Assumes nothing.
use mathlib.Core.Path.{◌≡◌, refl, sym, ap, ap₂, ◌∙◌}
use mathlib.Core.Bool.{Bool, true, false, cond, not}
use mathlib.Core.List.{List, [], ◌∷◌, ◌++◌, append_assoc, append-nil}
use Prim.Native.Nat.{ℕ, suc, ◌+◌, ◌*◌, ◌-◌, ◌<◌, ◌≤◌}
use native.Mathlib.Nat.{zero-add}
use native.Mathlib.Numerals.{add-one}
use native.Mathlib.Omega.{arith}
use lib.Dec.{eqb}
use lib.ListN.{length, get_or, set, take, drop, replicate, length-append, length-drop, length-map}
use lib.Seq.{paste, sets, take_all, drop-length, take-take, take_at, drop_at, drop-drop, drop-cons, set_at, append_snoc, length-take-le}
use borrow.Author.Tests.{eq-eqb, ne_eqb}
use Rattle.xor.specs.Xor.{padded}
use Rattle.xor.specs.Padded.{length-padded, padded_split, padded-front}
use Rattle.xor.specs.Laid.{laid}
use Rattle.sequence.specs.Lists.{up_to}
use Rattle.sequence.proofs.Lists.{count-more, length-up_to, map-append}
use Rattle.sequence.specs.Wrap.{number_at}
use Rattle.rtp.specs.Rtp.{rtp_header, rtp_header_size, media_type}
use Rattle.window.specs.declared.Window.{Window}
use Rattle.window.specs.Limits.{width}
use Rattle.window.specs.Store.{Store, timestamp_at, length_at, payload_at}
use Rattle.window.specs.Group.{is_missing}
use Rattle.calls.specs.Call.{over}
use Rattle.calls.specs.Content.{content_at}
use Rattle.calls.specs.Datagram.{media_packet}
use Rattle.calls.proofs.Down.{length-slots}
use Rattle.calls.specs.Move.{slot_size, leaving, leaving_slots, leaving_sizes, leaving_count}

-- ---- one packet

-- zeros at the front of an output
zeros-over : (k : ℕ) (out : List ℕ) → paste out 0 (replicate k 0) k ≡ over (padded k []) out
zeros-over k out = ap (λ (n : ℕ). take k (replicate k 0) ++ drop n out) (zero-add k ∙ sym (length-padded k []))

-- a header, and then a payload with zeros behind it, is a datagram with zeros behind it
headed : (p : ℕ) (head y : List ℕ) → length y ≤ p → head ++ padded p y ≡ padded (length head + p) (head ++ y)
headed p head y h =
    let e = length-append head y in
    let n : p - length y ≡ length head + p - length (head ++ y) = omega arith in
    ap (λ (r : List ℕ). head ++ r) (padded_split p y h)
    ∙ sym (append_assoc head y (replicate (p - length y) 0))
    ∙ ap (λ (k : ℕ). head ++ y ++ replicate k 0) n
    ∙ sym (padded_split (length head + p) (head ++ y) (omega arith))

module _ (w : Window) (s : Store) (i : ℕ) where
  -- it is lost
  module _ (lost : get_or s.marks i 0 ≡ 0) where
    none : leaving w s i ≡ []
    none = rw (eq-eqb (get_or s.marks i 0) 0 lost)

    pub lost_slot : (out out' : List ℕ) → out' ≡ paste out 0 (replicate (slot_size w) 0) (slot_size w) → out' ≡ over (padded (slot_size w) (leaving w s i)) out
    lost_slot out out' e = e ∙ zeros-over (slot_size w) out ∙ ap (λ (l : List ℕ). over (padded (slot_size w) l) out) (sym none)

    pub lost_size : ◌≡◌ {A = ℕ} 0 (length (leaving w s i))
    lost_size = ap length (sym none)

  -- it is present
  module _ (held : get_or s.marks i 0 ≡ 0 → ⊥) (size : ℕ) (is : size ≡ length_at s i) (low : size ≤ w.p) (long : i * w.p + w.p ≤ length s.media) where
    abbrev pub head : List ℕ
    head = rtp_header media_type (number_at width w.base i) (timestamp_at s i) w.ssrc

    some : leaving w s i ≡ media_packet (number_at width w.base i) w.ssrc (content_at w s i)
    some = rw (ne_eqb (get_or s.marks i 0) 0 held)

    -- its payload
    abbrev pub y : List ℕ
    y = take size (drop (i * w.p) s.media)

    y-long : length y ≡ size
    y-long = length-take-le size (drop (i * w.p) s.media) (simp length-drop (omega arith))

    packet : leaving w s i ≡ head ++ y
    packet = some ∙ ap (λ (l : List ℕ). head ++ l)
        (ap (λ (n : ℕ). take n (padded w.p (take n (drop (i * w.p) s.media)))) (sym is)
        ∙ ap (λ (k : ℕ). take k (padded w.p y)) (sym y-long)
        ∙ padded-front w.p y (omega (arith, y-long)))

    pub held-size : rtp_header_size + size ≡ length (leaving w s i)
    held-size = let e = length-append head y in let h : length head ≡ 12 = refl in (omega (arith, y-long)) ∙ ap length (sym packet)

    pub held-slot : (out one two : List ℕ) → slot_size w ≤ length out → one ≡ paste out rtp_header_size (padded w.p y) w.p → two ≡ sets one 0 head → two ≡ over (padded (slot_size w) (leaving w s i)) out
    held-slot out one two room e1 e2 =
        let full : length (padded w.p y) ≡ w.p = length-padded w.p y in
        let whole : take w.p (padded w.p y) ≡ padded w.p y = take-take w.p w.p (y ++ replicate w.p 0) (omega arith) in
        e2
        ∙ ap (λ (l : List ℕ). sets l 0 head) e1
        ∙ laid head (padded w.p y) out rtp_header_size w.p refl room (omega (arith, full))
        ∙ ap (λ (l : List ℕ). over (head ++ l) out) whole
        ∙ ap (λ (l : List ℕ). over l out) (headed w.p head y (omega (arith, y-long)) ∙ ap (padded (slot_size w)) (sym packet))

-- ---- the first packets
module _ (w : Window) (s : Store) where
  sizes-long : (i : ℕ) → length (leaving_sizes w s i) ≡ i
  sizes-long i = length-map (up_to i) (λ j. length (leaving w s j)) ∙ length-up_to i

  -- a slot more
  slots-more : (i : ℕ) (before out part : List ℕ) → out ≡ over (leaving_slots w s i) before → part ≡ over (padded (slot_size w) (leaving w s i)) (drop (i * slot_size w) out)
      → take (i * slot_size w) out ++ part ≡ over (leaving_slots w s (i + 1)) before
  slots-more i before out part e f =
      let X : List ℕ = leaving_slots w s i in
      let Z : List ℕ = padded (slot_size w) (leaving w s i) in
      let front : take (i * slot_size w) out ≡ X = ap (take (i * slot_size w)) e ∙ take_at X (drop (length X) before) (i * slot_size w) (length-slots w s i) in
      let rest : drop (i * slot_size w) out ≡ drop (length X) before = ap (drop (i * slot_size w)) e ∙ drop_at X (drop (length X) before) (i * slot_size w) (length-slots w s i) in
      ap₂ (λ (a b : List ℕ). a ++ b) front (f ∙ ap (over Z) rest)
      ∙ sym (append_assoc X Z (drop (length Z) (drop (length X) before)))
      ∙ ap (λ (l : List ℕ). X ++ Z ++ l) (drop-drop (length Z) (length X) before)
      ∙ ap (λ (k : ℕ). X ++ Z ++ drop k before) (sym (length-append X Z))
      ∙ ap (λ (k : ℕ). over (leaving_slots w s k) before) (sym (add-one i))

  -- the rest of the output was lent from there on
  pub slots_lent : (i : ℕ) (before out part : List ℕ) → out ≡ over (leaving_slots w s i) before
      → part ≡ over (padded (slot_size w) (leaving w s i)) (take (length out - i * slot_size w) (drop (i * slot_size w) out))
      → take (i * slot_size w) out ++ (part ++ drop (length out - i * slot_size w) (drop (i * slot_size w) out)) ≡ over (leaving_slots w s (i + 1)) before
  slots_lent i before out part e f =
      let rest : List ℕ = drop (i * slot_size w) out in
      let long : length rest ≡ length out - i * slot_size w = length-drop (i * slot_size w) out in
      ap (λ (l : List ℕ). take (i * slot_size w) out ++ (part ++ l)) (ap (λ (k : ℕ). drop k rest) (sym long) ∙ drop-length rest)
      ∙ ap (λ (l : List ℕ). take (i * slot_size w) out ++ l) (append-nil part)
      ∙ slots-more i before out part e (f ∙ ap (over (padded (slot_size w) (leaving w s i))) (take_all (length out - i * slot_size w) rest (omega arith)))

  -- a length more
  pub sizes-more : (i v : ℕ) (before sizes : List ℕ) → i < length before → sizes ≡ over (leaving_sizes w s i) before → v ≡ length (leaving w s i) → set sizes i v ≡ over (leaving_sizes w s (i + 1)) before
  sizes-more i v before sizes h e f =
      let Y : List ℕ = leaving_sizes w s i in
      let long = sizes-long i in
      let next : leaving_sizes w s (suc i) ≡ Y ++ (length (leaving w s i) ∷ []) = map-append (λ j. length (leaving w s j)) (up_to i) (i ∷ []) in
      ap₂ (λ (l : List ℕ) (x : ℕ). set l i x) (e ∙ ap (λ (k : ℕ). Y ++ drop k before) long ∙ ap (λ (l : List ℕ). Y ++ l) (drop-cons before i 0 h)) f
      ∙ set_at Y (get_or before i 0) (drop (suc i) before) (length (leaving w s i)) i long
      ∙ sym (append_snoc Y (length (leaving w s i)) (drop (suc i) before))
      ∙ ap₂ (λ (a : List ℕ) (k : ℕ). a ++ drop k before) (sym next) (sym (sizes-long (suc i)))
      ∙ ap (λ (k : ℕ). over (leaving_sizes w s k) before) (sym (add-one i))

  -- a packet that is not lost has bytes
  counts : (i : ℕ) → ◌≡◌ {A = ℕ} (cond (eqb (length (leaving w s i)) 0) 0 1) (cond (not (is_missing s.marks i)) 1 0)
  counts i = go (is_missing s.marks i)
    where
      go : (b : Bool) → ◌≡◌ {A = ℕ} (cond (eqb (length (cond b [] (media_packet (number_at width w.base i) w.ssrc (content_at w s i)))) 0) 0 1) (cond (not b) 1 0)
      go true = refl
      go false =
          let head : List ℕ = rtp_header media_type (number_at width w.base i) (timestamp_at s i) w.ssrc in
          let body : List ℕ = take (length_at s i) (payload_at w s i) in
          let twelve : length head ≡ 12 = refl in
          rw (ne_eqb (length (head ++ body)) 0 (λ e. omega (arith, length-append head body)))

  -- one packet is one at most
  pub one_most : (i v : ℕ) → v ≡ cond (eqb (length (leaving w s i)) 0) 0 1 → v ≤ 1
  one_most i v e = go (eqb (length (leaving w s i)) 0) e
    where
      go : (b : Bool) → ◌≡◌ {A = ℕ} v (cond b 0 1) → v ≤ 1
      go true e = omega arith
      go false e = omega arith

  -- a packet more
  pub count_next : (i v c : ℕ) → v ≡ cond (eqb (length (leaving w s i)) 0) 0 1 → c ≡ leaving_count s i → c + v ≡ leaving_count s (i + 1)
  count_next i v c e f = ap₂ (λ (a b : ℕ). a + b) f (e ∙ counts i) ∙ sym (count-more (λ j. not (is_missing s.marks j)) i)
