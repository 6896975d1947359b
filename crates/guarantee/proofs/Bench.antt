-- The starred cases of 01, "Numbers from the bench", and cases 11 and 12: one table and one theorem about the definitions.
use Rattle.std.specs.Prelude.{◌≡◌, refl, Bool, true, ◌&&◌, List, [], ◌∷◌}
use Rattle.answer.specs.First.{first}
use Rattle.peel.specs.Rest.{rounds}
use Rattle.xor.specs.Same.{same, same-eq}
use Rattle.sequence.proofs.Lists.{and_split as both}
use Rattle.window.specs.Order.{disorder}
use Rattle.calls.specs.State.{rebuild}
use Rattle.calls.specs.Settle.{next, release_all, round, settle}
use Rattle.calls.specs.Call.{opened, offered_media, offered_parity}
use Rattle.guarantee.specs.Bench.{Case, opening, grid, outer, timestamps, zeros, parity, offer, media, rebuilt, square, parities, medias, corners, late, staggered, cases, Agreed}

-- the test that is computed over the whole table
agree : List Case → Bool
agree [] = true
agree (c ∷ cs) = same c.got c.said && agree cs

-- where the test holds, they are equal
agreed : (cs : List Case) → agree cs ≡ true → Agreed cs
unfolding agree
agreed [] e = tt
agreed (c ∷ cs) e = let h = both (same c.got c.said) (agree cs) e in (same-eq c.got c.said h.0, agreed cs h.1)

-- the bench
pub bench : Agreed cases
unfolding cases agree opening grid outer timestamps zeros parity offer media rebuilt square parities medias corners late staggered first opened offered_media offered_parity disorder settle round next release_all rebuild rounds
bench = agreed cases refl
