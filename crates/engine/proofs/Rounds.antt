-- The three ways through a round: no row is ready; one is spoilt, and is released; or one rebuilds, its position is looked at again, and what is spent is released. Assumes nothing.
use mathlib.Core.Path.{◌≡◌, refl, sym, ap, subst, ◌∙◌}
use mathlib.Core.Bool.{Bool, true, false, cond}
use mathlib.Core.List.{List, [], ◌∷◌}
use mathlib.Core.Option.{none, some}
use Rattle.std.specs.Prelude.{None, Some}
use Prim.Native.Nat.{ℕ, ◌+◌, ◌*◌, ◌-◌, ◌^◌, ◌<◌, ◌≤◌}
use native.Mathlib.Nat.{add-zero}
use native.Mathlib.Omega.{arith}
use lib.ListN.{length, get_or, take, drop, set, length-set, length-drop}
use lib.Seq.{length-take-le}
use borrow.Author.Tests.{leb-true}
use Rattle.sequence.specs.Lists.{head_or}
use Rattle.window.specs.declared.Record.{Record}
use Rattle.window.specs.declared.Window.{Window}
use Rattle.window.specs.Record.{blank}
use Rattle.window.specs.Limits.{width}
use Rattle.window.specs.Store.{stored}
use Rattle.window.specs.Group.{group, is_missing, missing}
use Rattle.window.specs.Order.{used}
use Rattle.window.specs.Plain.{Inside}
use Rattle.xor.specs.Xor.{padded}
use Rattle.calls.specs.Content.{Recovery}
use Rattle.calls.specs.State.{State, scene, recount, rebuild, count_spoilt, release}
use Rattle.calls.specs.Settle.{next, fits_at, rebuild_by, release_all, round}
use Rattle.table.specs.declared.Row.{Row}
use Rattle.table.specs.View.{nobody, slot_at, note_at, it_at, scatter}
use Rattle.table.specs.Note.{says_one, one_at, place_is}
use Rattle.table.specs.Apart.{Fits, get-scatter, alike-scatter, alike-fits}
use Rattle.table.specs.Sound.{SoundRow, Sound}
use Rattle.group.specs.Held.{Below}
use Rattle.group.specs.Tried.{Tried}
use Rattle.group.proofs.Rows.{kept-below}
use Rattle.engine.specs.Rows.{AgainAll, next_row, Desk, row_spent, free_row, free_below}
use Rattle.engine.specs.Round.{Parts, over, Serves, Rounded}
use Rattle.engine.proofs.Same.{set_up_same, sound-same, recount_twice}
use Rattle.engine.proofs.Again.{again_sound}
use Rattle.engine.proofs.Next.{at_slot, next-rows, found-ready, found_low}
use Rattle.engine.proofs.Free.{desk, Keeps, keeps-row, spent-used, keeps-all, freed, free_all}

-- what a record at a slot carries, its payload being n bytes long
abbrev pub carried : Window → (parity : List ℕ) → Record → (s n : ℕ) → Recovery
carried w parity v s n =
    record {
      content = record { timestamp = v.timestamp_recovery; length = v.length_recovery; payload = padded w.p (take n (drop (s * w.p) parity)) };
      size = n;
    }

-- the same as a part of the parity bytes
pub carried_by : (w : Window) (parity : List ℕ) (v : Record) (s n : ℕ) → s * w.p + n ≤ length parity
    → record { content = record { timestamp = v.timestamp_recovery; length = v.length_recovery; payload = padded w.p (take (s * w.p + n - s * w.p) (drop (s * w.p) parity)) }; size = length (take (s * w.p + n - s * w.p) (drop (s * w.p) parity)) } ≡ carried w parity v s n
carried_by w parity v s n h =
    let e : s * w.p + n - s * w.p ≡ n = omega arith in
    let l : length (take n (drop (s * w.p) parity)) ≡ n = length-take-le n (drop (s * w.p) parity) (omega (arith, length-drop (s * w.p) parity)) in
    rw (e, l)

pub round-none : (x : State) → next x ≡ none → x ≡ round x
unfolding round
round-none x e = rw e

pub round-some : (x : State) (r : ℕ) → next x ≡ some r → fits_at x r ≡ true → release_all (rebuild_by r x) ≡ round x
unfolding round
round-some x r e f = rw e (ap (λ (t : Bool). cond t (release_all (rebuild_by r x)) (count_spoilt (release r x))) (sym f))

pub round-spoilt : (x : State) (r : ℕ) → next x ≡ some r → fits_at x r ≡ false → count_spoilt (release r x) ≡ round x
unfolding round
round-spoilt x r e f = rw e (ap (λ (t : Bool). cond t (release_all (rebuild_by r x)) (count_spoilt (release r x))) (sym f))

-- the first of a list that is not empty is below its bound
pub head_below : (n : ℕ) (l : List ℕ) → Below n l → length l ≡ 1 → head_or 0 l < n
head_below n [] b e = absurd (omega (arith, e))
head_below n (i ∷ l) b e = b.0

-- ---- nothing was found
pub none_found : (w : Window) (x : Parts) → Serves w x → next_row w.base x.rows (length x.rows) ≡ None → Rounded w x (record { window = w; rebuilt = 0; spoilt = 0 }) x
none_found w x serves is =
    let rests : (t : List Record) → Fits t w.k x.rows → (b q : ℕ) → next (scene w (over x t) b q) ≡ none = λ t f b q. next-rows w x serves.sound t f b q ∙ ap (at_slot x.rows) is in
    record {
      kept = refl;
      serves = serves;
      same-slots = refl;
      small = omega arith;
      more-present = omega arith;
      is = λ t f b q. rw (add-zero b, add-zero q) (round-none (scene w (over x t) b q) (rests t f b q));
      rest = λ _. rests;
      still = λ _. refl;
    }

-- ---- what was found: r is the row that is next
module _ (w : Window) (based : w.base < 2 ^ width) (x : Parts) (serves : Serves w x) (r : ℕ) (is : next_row w.base x.rows (length x.rows) ≡ Some r) where
  next-at : (t : List Record) → Fits t w.k x.rows → (b q : ℕ) → next (scene w (over x t) b q) ≡ some (slot_at x.rows r)
  next-at t f b q = next-rows w x serves.sound t f b q ∙ ap (at_slot x.rows) is

  pub l : r < length x.rows
  l = found_low w.base x.rows (length x.rows) r is

  -- the row that was found: its record and its slot
  module _ (v : Record) (ev : v ≡ it_at x.rows r) (s : ℕ) (es : s ≡ slot_at x.rows r) where
    sound-row : SoundRow w x.marks (get_or x.rows r nobody)
    sound-row = serves.sound.at r l (found-ready w.base x.rows (length x.rows) r is).0

    pub row_inside : Inside w v.stream v.snbase
    row_inside = rw ev sound-row.inside

    pub row_low : s < w.k
    row_low = rw es sound-row.slot-low

    pub size_low : v.payload_length ≤ w.p
    size_low = rw ev sound-row.size_low

    row_one : says_one (note_at x.rows r) ≡ true
    row_one = (found-ready w.base x.rows (length x.rows) r is).1

    pub note-high : 2 ≤ note_at x.rows r
    note-high = leb-true 2 (note_at x.rows r) row_one

    -- its missing packet is at the position that it notes
    one-missing : missing x.marks (group w v.stream v.snbase) ≡ one_at (note_at x.rows r) ∷ []
    one-missing =
        let g = group w (it_at x.rows r).stream (it_at x.rows r).snbase in
        rw ev (place_is x.marks g (sym (ap says_one sound-row.noted) ∙ row_one) ∙ ap (λ (n : ℕ). one_at n ∷ []) (sym sound-row.noted))

    noted_here : (i : ℕ) → i ≡ one_at (note_at x.rows r) → i ≡ head_or 0 (missing x.marks (group w v.stream v.snbase))
    noted_here i e = e ∙ ap (head_or 0) (sym one-missing)

    pub missing-low : (i : ℕ) → i ≡ one_at (note_at x.rows r) → i < w.n
    missing-low i e = rw (noted_here i e) (head_below w.n (missing x.marks (group w v.stream v.snbase)) (kept-below w based serves.set_up v.stream v.snbase row_inside (is_missing x.marks)) (ap length one-missing))

    -- of every table the record at the slot is that of the row
    here : (t : List Record) → Fits t w.k x.rows → get_or (scatter x.rows t) s blank ≡ v
    here t f = ap (λ (q : ℕ). get_or (scatter x.rows t) q blank) es ∙ get-scatter f.apart f.enough r l ∙ sym ev

    next_here : (t : List Record) → Fits t w.k x.rows → (b q : ℕ) → next (scene w (over x t) b q) ≡ some s
    next_here t f b q = next-at t f b q ∙ ap some (sym es)

    -- its rebuild was tried
    module _ (i : ℕ) (en₀ : i ≡ one_at (note_at x.rows r)) (media timestamps lengths marks : List ℕ) (ok : Bool) (n : ℕ) (en : n ≡ v.payload_length)
        (c : Recovery) (ec : c ≡ carried w x.parity v s n) (told : Tried w (group w v.stream v.snbase) i c ok x.media x.timestamps x.lengths x.marks media timestamps lengths marks) where
      tried : Tried w (group w v.stream v.snbase) i (carried w x.parity v s v.payload_length) ok x.media x.timestamps x.lengths x.marks media timestamps lengths marks
      tried = subst (λ (k : ℕ). Tried w (group w v.stream v.snbase) i (carried w x.parity v s k) ok x.media x.timestamps x.lengths x.marks media timestamps lengths marks) en (subst (λ (k : Recovery). Tried w (group w v.stream v.snbase) i k ok x.media x.timestamps x.lengths x.marks media timestamps lengths marks) ec told)

      fit_is : (t : List Record) → Fits t w.k x.rows → (b q : ℕ) → fits_at (scene w (over x t) b q) s ≡ ok
      fit_is t f b q = rw (here t f) (sym tried.fit)

      -- it is spoilt
      module _ (bad : ok ≡ false) (window : Window) (parity : List ℕ) (hs' : List Row) (e : desk window parity hs' ≡ free_row r (desk w x.parity x.rows)) where
        abbrev y₀ : Parts
        y₀ = record { media = media; timestamps = timestamps; lengths = lengths; marks = marks; parity = parity; rows = hs' }

        keeps₁ : Keeps w x.marks (length x.parity) x.rows (desk w x.parity x.rows)
        keeps₁ = record { same = refl; present = refl; same-slots = refl; long = refl; sound = serves.sound }

        keeps₂ : Keeps w x.marks (length x.parity) x.rows (desk window parity hs')
        keeps₂ = subst (λ (d : Desk). Keeps w x.marks (length x.parity) x.rows d) (sym e)
            (keeps-row w x.marks x.rows (length x.parity) serves.parity-long (desk w x.parity x.rows) r l (found-ready w.base x.rows (length x.rows) r is).0 keeps₁)

        all₀ : (t : List Record) → Fits t w.k x.rows → (b q : ℕ) → scene window (over y₀ t) (b + 0) (q + 1) ≡ round (scene w (over x t) b q)
        all₀ t f b q =
            let same = tried.same bad in
            rw (add-zero b, same.0, same.1, same.2, same.3)
            (ap (λ (d : Desk). scene d.window (stored x.media x.timestamps x.lengths x.marks d.parity (scatter d.rows t)) b (q + 1)) e
            ∙ ap count_spoilt (sym (freed w x.marks x.rows (length x.parity) serves.parity-long x.media x.timestamps x.lengths t f b q (desk w x.parity x.rows) keeps₁ r l) ∙ ap (λ (n : ℕ). release n (scene w (over x t) b q)) (sym es))
            ∙ round-spoilt (scene w (over x t) b q) s (next_here t f b q) (fit_is t f b q ∙ bad))

        pub spoilt-found : Rounded w x (record { window = window; rebuilt = 0; spoilt = 1 }) y₀
        spoilt-found = let same = tried.same bad in record {
          kept = keeps₂.same;
          serves =
              record {
                set_up = set_up_same w window window.present window.in_use keeps₂.same serves.set_up;
                media-long = rw (keeps₂.same, same.0) serves.media-long;
                timestamps-long = rw (keeps₂.same, same.1) serves.timestamps-long;
                lengths-long = rw (keeps₂.same, same.2) serves.lengths-long;
                marks-long = rw (keeps₂.same, same.3) serves.marks-long;
                parity-long = rw (keeps₂.same, keeps₂.long) serves.parity-long;
                sound = rw same.3 (sound-same w window window.present window.in_use x.marks hs' keeps₂.same keeps₂.sound);
              };
          same-slots = keeps₂.same-slots;
          small = omega arith;
          more-present = omega (arith, keeps₂.present);
          is = all₀;
          rest = λ z. absurd (omega (arith, z));
          still = λ z. absurd (omega (arith, z));
        }

      -- it fits
      module _ (good : ok ≡ true) (more : Window) (ew : more ≡ recount w (w.present + 1) w.in_use) (hs : List Row) (again : AgainAll more i marks x.rows hs) where
        ek : marks ≡ set x.marks i 1
        ek = (tried.done good).3

        -- what the rebuild leaves, of every table
        rebuilt : (t : List Record) → Fits t w.k x.rows → (b q : ℕ) → scene more (stored media timestamps lengths marks x.parity (scatter hs t)) (b + 1) q ≡ rebuild_by s (scene w (over x t) b q)
        unfolding rebuild
        rebuilt t f b q = rw ((tried.done good).0, (tried.done good).1, (tried.done good).2, ek, ew, alike-scatter again.alike t, here t f, noted_here i en₀)

        sound-now : Sound more marks hs
        sound-now =
            let was : Sound more x.marks x.rows = sound-same w more (w.present + 1) w.in_use x.marks x.rows ew serves.sound in
            subst (λ (k : List ℕ). Sound more k hs) (sym ek) (again_sound more i x.marks x.rows hs was (subst (λ (k : List ℕ). AgainAll more i k x.rows hs) ek again))

        -- what is asked of the rows before the release
        pub low-now : (j : ℕ) → j < length hs → used (it_at hs j) ≡ true → slot_at hs j < more.k
        low-now j h u = (sound-now.at j h u).slot-low

        pub room-now : more.k * more.p ≤ length x.parity
        room-now = rw ew serves.parity-long

        keeps-start : Keeps more marks (length x.parity) hs (desk more x.parity hs)
        keeps-start = record { same = refl; present = refl; same-slots = refl; long = refl; sound = sound-now }

        module _ (window : Window) (parity : List ℕ) (hs' : List Row) (e : desk window parity hs' ≡ free_below row_spent (length hs) (desk more x.parity hs)) (lm : length media ≡ length x.media) (lt : length timestamps ≡ length x.timestamps) (ll : length lengths ≡ length x.lengths) where
          abbrev y : Parts
          y = record { media = media; timestamps = timestamps; lengths = lengths; marks = marks; parity = parity; rows = hs' }

          keeps : Keeps more marks (length x.parity) hs (desk window parity hs')
          keeps = subst (λ (d : Desk). Keeps more marks (length x.parity) hs d) (sym e) (keeps-all more marks hs (length x.parity) room-now row_spent spent-used (desk more x.parity hs) (length hs) (omega arith) keeps-start)

          more-kept : more ≡ recount w more.present more.in_use
          more-kept = rw ew

          kept-window : window ≡ recount w window.present window.in_use
          kept-window = recount_twice w more window more-kept keeps.same

          all : (t : List Record) → Fits t w.k x.rows → (b q : ℕ) → scene window (over y t) (b + 1) (q + 0) ≡ round (scene w (over x t) b q)
          all t f b q =
              let fits : Fits t more.k hs = rw ew (alike-fits again.alike f) in
              ap (λ (d : Desk). scene d.window (stored media timestamps lengths marks d.parity (scatter d.rows t)) (b + 1) (q + 0)) e
              ∙ free_all more marks hs (length x.parity) room-now media timestamps lengths t fits (b + 1) (q + 0) x.parity more refl keeps-start
              ∙ ap release_all (ap (scene more (stored media timestamps lengths marks x.parity (scatter hs t)) (b + 1)) (add-zero q) ∙ rebuilt t f b q)
              ∙ round-some (scene w (over x t) b q) s (next_here t f b q) (fit_is t f b q ∙ good)

          pub one_found : Rounded w x (record { window = window; rebuilt = 1; spoilt = 0 }) y
          one_found = record {
            kept = kept-window;
            serves =
                record {
                  set_up = set_up_same w window window.present window.in_use kept-window serves.set_up;
                  media-long = rw (kept-window, lm) serves.media-long;
                  timestamps-long = rw (kept-window, lt) serves.timestamps-long;
                  lengths-long = rw (kept-window, ll) serves.lengths-long;
                  marks-long = rw (kept-window, ek, length-set) serves.marks-long;
                  parity-long = rw (kept-window, keeps.long) serves.parity-long;
                  sound = sound-same more window window.present window.in_use marks hs' keeps.same keeps.sound;
                };
            same-slots = keeps.same-slots ∙ again.alike.same-slots;
            small = omega arith;
            more-present = let a = keeps.present in let b : more.present ≡ w.present + 1 = ap (λ (u : Window). u.present) ew in omega arith;
            is = all;
            rest = λ z. absurd (omega (arith, z));
            still = λ z. absurd (omega (arith, z));
          }
