-- Settling: parity in hand rebuilds until none of it has exactly one packet missing (01, "Taking a packet in").
use Rattle.std.specs.Prelude.{Bool, cond, ◌&&◌, ℕ, zero, suc, ◌+◌, ◌*◌, eqb, ltb, length}
use Rattle.std.proofs.Math.Option.{Option, none, some}
use Rattle.sequence.specs.Lists.{head_or}
use Rattle.peel.specs.Rest.{rounds}
use Rattle.window.specs.Store.{record_at}
use Rattle.window.specs.Group.{position}
use Rattle.window.specs.Limits.{rows}
use Rattle.window.specs.Order.{is_in_use, group_at, missing_at}
use Rattle.calls.specs.Content.{recovery_at}
use Rattle.calls.specs.State.{State, rebuild, fits_over, count_spoilt, release, release_below}

-- a record in use with exactly one packet of its group missing
abbrev pub ready : State → ℕ → Bool
ready x r = is_in_use x.window x.store r && eqb (length (missing_at x.window x.store r)) 1

-- the order of rebuilding: by the position of SNBase, a column before a row
abbrev pub rank : State → ℕ → ℕ
rank x r = position x.window (record_at x.store r).snbase * 2 + (record_at x.store r).stream

-- record r where it is ready and ranks below the best so far, else that
abbrev pub better : State → ℕ → Option ℕ → Option ℕ
better x r none = cond (ready x r) (some r) none
better x r (some q) = cond (ready x r && ltb (rank x r) (rank x q)) (some r) (some q)

-- the ready record of lowest rank among the first m
abbrev pub next_below : State → ℕ → Option ℕ
next_below x zero = none
next_below x (suc r) = better x r (next_below x r)

-- the record that rebuilds next
unfoldable pub next : State → Option ℕ
next x = next_below x (rows x.window)

-- a record in use with none missing is spent
abbrev pub spent : State → ℕ → Bool
spent x r = is_in_use x.window x.store r && eqb (length (missing_at x.window x.store r)) 0

-- every spent record is released
unfoldable pub release_all : State → State
release_all x = release_below spent (rows x.window) x

-- what a record gives for its missing packet fits it
abbrev pub fits_at : State → ℕ → Bool
fits_at x r = fits_over x (group_at x.window x.store r) (recovery_at x.window x.store r)

-- a record rebuilds its missing packet
abbrev pub rebuild_by : ℕ → State → State
rebuild_by r x =
    rebuild (group_at x.window x.store r) (recovery_at x.window x.store r).content (head_or 0 (missing_at x.window x.store r)) x

-- a record, if there is one, rebuilds, and what is spent is released; or it is spoilt, and is released itself
abbrev pub round_by : Option ℕ → State → State
round_by none x = x
round_by (some r) x = cond (fits_at x r) (release_all (rebuild_by r x)) (count_spoilt (release r x))

-- one round, by the next record
unfoldable pub round : State → State
round x = round_by (next x) x

-- as many rounds as records are in use: each spends one at least
unfoldable pub settle : State → State
settle x = rounds round x.window.in_use x
