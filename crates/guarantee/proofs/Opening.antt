-- An opening that answered 0 (calls' Call.antt) leaves a start that holds nothing.
use Rattle.std.specs.Prelude.{◌≡◌, refl, false, List, [], ◌∷◌, ◌++◌, ℕ, ◌*◌, ◌^◌, ◌<◌, ◌≤◌, length, get_or, replicate, drop}
use Rattle.std.proofs.Common.{sym, ◌∙◌, true≢false, arith, length-append}
use Rattle.std.proofs.lemmas.List.{length-replicate, get_or-replicate}
use Rattle.std.proofs.Math.ListN.{get_or-append}
use Rattle.answer.specs.declared.Answer.TheVariants.{Done, Refused}
use Rattle.answer.specs.First.{first, None, first-none}
use Rattle.sequence.specs.Lists.{up_to}
use Rattle.window.specs.declared.Window.{Window}
use Rattle.window.specs.Record.{blank}
use Rattle.window.specs.Limits.{width, rows, set_up_tests}
use Rattle.window.specs.Store.{Store, short_store}
use Rattle.window.specs.Order.{is_present, is_in_use}
use Rattle.calls.specs.Call.{no_window, standing_tests, open_tests, opened, cleared}
use Rattle.calls.proofs.Passed.{none_first}
use Rattle.guarantee.proofs.Ranges.{up_to-lt, count-zero, keep-nothing}
use Rattle.guarantee.specs.Order.{Ordered, stands}
use Rattle.guarantee.proofs.Offers.{none_split, done_first}
use Rattle.guarantee.specs.Demand3.{Offer, Stretch, Fills, names_of, mark_at}
use Rattle.guarantee.specs.Start.{Start, counted, received_from}

-- an opening that answered 0 met no refusal, and set the store to zero
pub opening : (w : Window) (s : Store) → (opened w s).answer ≡ Done 0 0 → (None (set_up_tests w)) × (opened w s ≡ record { answer = Done 0 0; window = w; store = cleared w s })
unfolding opened
opening w s e =
    let z : first (open_tests w s) ≡ 0 = done_first (open_tests w s) (record { answer = Done 0 0; window = w; store = cleared w s })
    (record { answer = Refused (first (open_tests w s)); window = no_window; store = s }) (first (open_tests w s)) 0 0 refl e in
    ((none_split (set_up_tests w) ((4, short_store w s) ∷ []) (first-none (open_tests w s) (tt, (tt, (tt, (tt, tt)))) z)).0, rw z)

-- a part whose first n elements were set to x
module _ {A : Type 0} (n : ℕ) (x : A) (l : List A) where
  -- has x there
  front_at : (i : ℕ) → i < n → get_or (replicate n x ++ drop n l) i x ≡ x
  front_at i h = get_or-append (replicate n x) (drop n l) x i (rw length-replicate h) ∙ get_or-replicate n i x x h

  -- and is as long as it has to be
  front_long : n ≤ length (replicate n x ++ drop n l)
  front_long = omega (arith, length-append (replicate n x) (drop n l), length-replicate n x)

module _ (w : Window) (s : Store) where
  -- no record is in use
  unused : (r : ℕ) → r < rows w → is_in_use w (cleared w s) r ≡ false
  unused r h = rw (front_at (rows w) blank s.records r h)

  -- no packet is present
  absent : (i : ℕ) → i < w.n → is_present (cleared w s).marks i ≡ false
  absent i h = rw (front_at w.n 0 s.marks i h)

  -- the store is in order
  cleared-order : w.present ≡ 0 → w.in_use ≡ 0 → Ordered w w.present w.in_use (cleared w s)
  cleared-order a u = record {
    good = record {
      fits = record {
        media-long = front_long (w.n * w.p) 0 s.media;
        timestamps-long = front_long w.n 0 s.timestamps;
        lengths-long = front_long w.n 0 s.lengths;
        marks-long = front_long w.n 0 s.marks;
        parity-long = front_long (rows w * w.p) 0 s.parity;
        records-long = front_long (rows w) blank s.records;
      };
      mark = λ i h. omega (arith, front_at w.n 0 s.marks i h);
      long = λ i h e. absurd (true≢false (sym e ∙ absent i h));
      good_use_mark = λ r h. rw (front_at (rows w) blank s.records r h) (omega arith);
      shaped = λ r h e. absurd (true≢false (sym e ∙ unused r h));
      sized = λ r h e. absurd (true≢false (sym e ∙ unused r h));
      apart = λ q r hq hr eq er e. absurd (true≢false (sym eq ∙ unused q hq));
      presents = a ∙ sym (count-zero (is_present (cleared w s).marks) (up_to w.n) (λ i m. absent i (up_to-lt w.n i m)));
      in_use = u ∙ sym (count-zero (is_in_use w (cleared w s)) (up_to (rows w)) (λ r m. unused r (up_to-lt (rows w) r m)));
    };
    waits = record { least = λ r h e. absurd (true≢false (sym e ∙ unused r h)) };
  }

  -- so it is a start
  pub opened-start : (t : Stretch) → w.base < 2 ^ width → Fills w t → None (set_up_tests w) → w.present ≡ 0 → w.in_use ≡ 0 → Start w t (cleared w s)
  opened-start t based F n a u = record {
    base-fits = based;
    fills = F;
    passes = none_first (standing_tests w (cleared w s) 0 0) (stands w w.present w.in_use (cleared w s) n (cleared-order a u));
    holds = record {
      media = λ i h e. absurd (let z : mark_at (cleared w s) i ≡ 0 = front_at w.n 0 s.marks i h in omega (arith, e));
      parity = λ r h e. absurd (true≢false (sym e ∙ unused r h));
    };
  }

  -- which holds nothing: what is received is what is in the list and counts
  pub none-held : (offers : List Offer) → received_from w (cleared w s) offers ≡ names_of (counted w offers)
  none-held offers = rw (keep-nothing (is_present (cleared w s).marks) (up_to w.n) (λ i m. absent i (up_to-lt w.n i m)), keep-nothing (is_in_use w (cleared w s)) (up_to (rows w)) (λ r m. unused r (up_to-lt (rows w) r m)))
