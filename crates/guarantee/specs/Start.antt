-- Demand 3 from any start: a window value and a store that refusals 1 to 5 let pass, whose contents are unaltered and count as received.
-- A freshly opened window is one (Demand3.antt), and every list leaves another, so lists chain. A list may also hold parity packets with
-- a member outside the window, which count for nothing. The statement alone; Theorem.antt proves it.
use Rattle.std.specs.Prelude.{◌≡◌, Bool, true, cond, ◌&&◌, ℕ, ◌^◌, ◌<◌, ◌≤◌, length}
use mathlib.Core.List.{List, [], ◌∷◌, ◌++◌, map, Memᴰ}
use Rattle.answer.specs.First.{first}
use Rattle.sequence.specs.Lists.{up_to, keep}
use Rattle.sequence.specs.Wrap.{number_at}
use Rattle.window.specs.declared.Window.{Window}
use Rattle.window.specs.Limits.{width, rows, parity_room}
use Rattle.window.specs.Store.{Store, record_at}
use Rattle.window.specs.Group.{inside}
use Rattle.window.specs.Order.{is_present, is_in_use, group_at}
use Rattle.calls.specs.Content.{content_at, recovery_at}
use Rattle.calls.specs.State.{recount}
use Rattle.calls.specs.Call.{Outcome, standing_tests}
use Rattle.guarantee.specs.Demand3.{Offer, run, answers, Stretch, Fills, content_sent, recovery_sent, Unaltered, Name, media_name, parity_name, name_of, names_of, group_named, distinct_groups, mark_at, Demand3, SamePackets}

-- ---- a start

-- everything that the store holds is unaltered: each packet present is the one sent, each record in use holds the recovery of its group
pub record Holds (w : Window) (t : Stretch) (s : Store) : Type 0 where
  pub media : (i : ℕ) → i < w.n → mark_at s i ≡ 1 → content_at w s i ≡ content_sent w t i
  pub parity : (r : ℕ) → r < rows w → is_in_use w s r ≡ true → recovery_at w s r ≡ recovery_sent w t (group_at w s r)

-- a window value and a store to start from: refusals 1 to 5 let them pass
pub record Start (w : Window) (t : Stretch) (s : Store) : Type 0 where
  pub base-fits : w.base < 2 ^ 16
  pub fills : Fills w t
  pub passes : first (standing_tests w s 0 0) ≡ 0
  pub holds : Holds w t s

-- ---- what is received

-- the media packets that a store has present
abbrev pub media_held : Window → Store → List Name
media_held w s = map (λ i. media_name (number_at width w.base i)) (keep (is_present s.marks) (up_to w.n))

-- the parity packets that it has in hand
abbrev pub parity_held : Window → Store → List Name
parity_held w s = map (λ r. parity_name (record_at s r).stream (record_at s r).snbase) (keep (is_in_use w s) (up_to (rows w)))

-- what the store held, and what stands in a list
abbrev pub held_and : Window → Store → List Offer → List Name
held_and w s offers = (media_held w s ++ parity_held w s) ++ names_of offers

-- a test holds of every group of a list
abbrev pub every : (ℕ × ℕ → Bool) → List (ℕ × ℕ) → Bool
every test [] = true
every test (k ∷ groups) = test k && every test groups

-- whether an offer counts: its group, if it is parity, lies in the window
abbrev pub counts : Window → Offer → Bool
counts w o = every (λ k. inside w k.0 k.1) (group_named (name_of o))

-- the offers of a list that a test holds of
abbrev pub those : (Offer → Bool) → List Offer → List Offer
those test [] = []
those test (o ∷ offers) = cond (test o) (o ∷ those test offers) (those test offers)

-- the offers of a list that count
abbrev pub counted : Window → List Offer → List Offer
counted w offers = those (counts w) offers

-- what the store held, and what is in the list and counts
abbrev pub received_from : Window → Store → List Offer → List Name
received_from w s offers = held_and w s (counted w offers)

-- ---- the claims, proved in Theorem.antt: demand3-from and demand3-same-from

-- what is given: such a start, and a list whose packets that count are unaltered and of no more groups, with those in hand, than there is room
pub record GivenFrom (x : Outcome) (t : Stretch) (offers : List Offer) : Type 0 where
  pub start : Start x.window t x.store
  pub unaltered : (o : Offer) → Memᴰ o (counted x.window offers) → Unaltered x.window t o
  pub few_groups : length (distinct_groups (received_from x.window x.store offers)) ≤ parity_room x.window

-- two window values of the same set-up numbers
abbrev pub SameSetUp : Window → Window → Type 0
SameSetUp v w = v ≡ recount w v.present v.in_use

-- what the list leaves: the set-up numbers as they were, demand 3 with what the store held counted as received, and a start for the next list
pub record Reached (x : Outcome) (t : Stretch) (offers : List Offer) (y : Outcome) : Type 0 where
  pub set_up : SameSetUp y.window x.window
  pub demand : Demand3 x.window t (received_from x.window x.store offers) (answers x offers) y.store
  pub start : Start y.window t y.store

-- demand 3 of any list from any start that a call left
abbrev pub ClaimFrom : Type 0
ClaimFrom = (x : Outcome) (t : Stretch) (offers : List Offer) → GivenFrom x t offers → Reached x t offers (run x offers)

-- two lists from starts of the same set-up numbers, with the same packets received: the same packets are present
abbrev pub ClaimSameFrom : Type 0
ClaimSameFrom =
    (x y : Outcome) (t u : Stretch) (offers others : List Offer)
    → GivenFrom x t offers
    → GivenFrom y u others
    → SameSetUp y.window x.window
    → SamePackets (received_from x.window x.store offers) (received_from y.window y.store others)
    → (i : ℕ) → i < x.window.n
    → mark_at (run x offers).store i ≡ mark_at (run y others).store i

-- lists chain: after one list from a start, another whose packets that count are unaltered, and for which there is room
abbrev pub ClaimChain : Type 0
ClaimChain =
    (x : Outcome) (t : Stretch) (offers more : List Offer)
    → GivenFrom x t offers
    → ((o : Offer) → Memᴰ o (counted x.window more) → Unaltered x.window t o)
    → length (distinct_groups (received_from x.window (run x offers).store more)) ≤ parity_room x.window
    → Reached (run x offers) t more (run x (offers ++ more))
