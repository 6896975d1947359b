-- `order::short_output` meets its contract: no sum is made that could wrap. Assumes nothing.
use mathlib.Core.Path.{◌≡◌, refl, sym}
use mathlib.Core.Bool.{Bool, true, false}
use Prim.Native.Nat.{ℕ, ◌+◌, ◌-◌, ◌≤◌}
use lib.Dec.{ltb}
use borrow.Author.Tests.{lt-ltb, le-ltb, ltb-true, ltb-false}
use native.Mathlib.Omega.{arith}
use Rattle.order.proofs.short_output.Goals as goal

shift : (room headers p : ℕ) → headers ≤ room → ltb (room - headers) p ≡ ltb room (headers + p)
shift room headers p h = go (ltb (room - headers) p) refl where
  go : (b : Bool) → ltb (room - headers) p ≡ b → b ≡ ltb room (headers + p)
  go true e = let q = ltb-true (room - headers) p e in sym (lt-ltb room (headers + p) (omega arith))
  go false e = let q = ltb-false (room - headers) p e in sym (le-ltb room (headers + p) (omega arith))

pub returns-then-room-headers : goal.returns-then-room-headers
returns-then-room-headers c =
    let the-args = c.args in
    sym (lt-ltb the-args.room (the-args.headers + the-args.p) (omega arith))

pub returns : goal.returns
returns c =
    let the-args = c.args in
    let the-if1 = c.if-room-headers in
    shift the-args.room the-args.headers the-args.p the-if1.false
