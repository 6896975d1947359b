-- What a move writes out (calls' Move.antt): the datagrams in their slots and their lengths, read back as a card does.
use Rattle.std.specs.Prelude.{◌≡◌, Bool, true, false, cond, List, [], ◌∷◌, ◌++◌, map, ℕ, zero, suc, ◌*◌, ◌<◌, ◌≤◌, length, get_or, take, drop}
use Rattle.std.proofs.Common.{sym, ap, ◌∙◌, append_assoc, arith, length-take, take_at, drop_at, take-take}
use Rattle.std.proofs.lemmas.List.{map-append, length-map, get_or_at}
use Rattle.std.proofs.Math.Decide.{ℕ_discrete}
use Rattle.std.proofs.Math.ListN.{get_or-append}
use Rattle.xor.specs.Xor.{padded}
use Rattle.sequence.specs.Lists.{up_to}
use Rattle.sequence.proofs.Lists.{length-up_to}
use Rattle.sequence.specs.Wrap.{number_at}
use Rattle.window.specs.declared.Window.{Window}
use Rattle.window.specs.Limits.{width}
use Rattle.window.specs.Store.{Store, length_at}
use Rattle.window.specs.Group.{is_missing}
use Rattle.calls.specs.Content.{content_at}
use Rattle.calls.specs.Datagram.{media_packet}
use Rattle.calls.specs.Call.{over}
use Rattle.calls.proofs.Down.{length-slots}
use Rattle.calls.specs.Move.{slot_size, leaving, leaving_slots, leaving_sizes, moved_on}
use Rattle.guarantee.proofs.Lengths.{length-padded, padded-front}
use Rattle.guarantee.proofs.Parts.{length_part}
use Rattle.guarantee.specs.Moving.{slot_of}

-- what a function gives for each number below n, at a place
pub map_at : {A : Type 0} (f : ℕ → A) (d : A) (n i : ℕ) → i < n → get_or (map f (up_to n)) i d ≡ f i
map_at f d zero i h = absurd (omega arith)
map_at {A} f d (suc n) i h = ap (λ l. get_or l i d) (map-append f (up_to n) (n ∷ [])) ∙ go (ℕ_discrete i n) (map_at f d n i)
  where
    size : length (map f (up_to n)) ≡ n
    size = length-map (up_to n) f ∙ length-up_to n

    go : Dec (i ≡ n) → (i < n → get_or (map f (up_to n)) i d ≡ f i) → get_or (map f (up_to n) ++ (f n ∷ [])) i d ≡ f i
    go (yes e) ih = get_or_at (map f (up_to n)) (f n) [] d i (size ∙ sym e) ∙ ap f (sym e)
    go (no e) ih = get_or-append (map f (up_to n)) (f n ∷ []) d i (omega (arith, size)) ∙ ih (omega arith)

module _ (w : Window) (s : Store) where
  -- a datagram has room in its slot
  leaving-fits : (i : ℕ) → length (leaving w s i) ≤ slot_size w
  leaving-fits i = go (is_missing s.marks i)
    where
      go : (b : Bool) → length (cond b [] (media_packet (number_at width w.base i) w.ssrc (content_at w s i))) ≤ slot_size w
      go true = omega arith
      go false = let z = length_part w.p s.media (length_at s i) i in omega (arith, length-take (length_at s i) (content_at w s i).payload)

  -- each has its datagram, with zeros behind it
  slot_at_lem : (by i : ℕ) (rest : List ℕ) → i < by → take (slot_size w) (drop (i * slot_size w) (leaving_slots w s by ++ rest)) ≡ padded (slot_size w) (leaving w s i)
  slot_at_lem zero i rest h = absurd (omega arith)
  slot_at_lem (suc n) i rest h = ap (λ l. take (slot_size w) (drop (i * slot_size w) l)) (append_assoc (leaving_slots w s n) (padded (slot_size w) (leaving w s n)) rest) ∙ go (ℕ_discrete i n) (slot_at_lem n i (padded (slot_size w) (leaving w s n) ++ rest))
    where
      -- the slots before, then this one and the rest
      slots : List ℕ
      slots = leaving_slots w s n ++ (padded (slot_size w) (leaving w s n) ++ rest)

      go : Dec (i ≡ n) → (i < n → take (slot_size w) (drop (i * slot_size w) slots) ≡ padded (slot_size w) (leaving w s i)) → take (slot_size w) (drop (i * slot_size w) slots) ≡ padded (slot_size w) (leaving w s i)
      go (yes e) earlier =
          rw e
          (ap (take (slot_size w)) (drop_at (leaving_slots w s n) (padded (slot_size w) (leaving w s n) ++ rest) (n * slot_size w) (length-slots w s n))
          ∙ take_at (padded (slot_size w) (leaving w s n)) rest (slot_size w) (length-padded (slot_size w) (leaving w s n)))
      go (no e) earlier = earlier (omega arith)

  -- a card reads the datagram of each position that leaves
  pub slot_read : (by : ℕ) (out sizes : List ℕ) (i : ℕ) → i < by → slot_of w (moved_on w by s out sizes) i ≡ leaving w s i
  slot_read by out sizes i h =
      let f : ℕ → ℕ = λ j. length (leaving w s j) in
      let z = length-map (up_to by) f ∙ length-up_to by in
      let e : get_or (over (leaving_sizes w s by) sizes) i 0 ≡ length (leaving w s i) =
      get_or-append (leaving_sizes w s by) (drop (length (leaving_sizes w s by)) sizes) 0 i (omega arith) ∙ map_at f 0 by i h in
      ap (λ m. take m (drop (i * slot_size w) (over (leaving_slots w s by) out))) e
      ∙ sym (take-take (length (leaving w s i)) (slot_size w) (drop (i * slot_size w) (over (leaving_slots w s by) out)) (leaving-fits i))
      ∙ ap (take (length (leaving w s i))) (slot_at_lem by i (drop (length (leaving_slots w s by)) out) h) ∙ padded-front (slot_size w) (leaving w s i) (leaving-fits i)
