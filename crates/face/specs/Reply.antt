-- A call's outcome as a card gets it: document 01's number and counts in place of the answer.
use Rattle.std.specs.Prelude.{List, ℕ}
use Rattle.answer.specs.declared.Answer.{Answer}
use Rattle.answer.specs.Number.{number_of, count_of, spoilt_of}
use Rattle.window.specs.declared.Window.{Window}
use Rattle.window.specs.Store.{Store}
use Rattle.calls.specs.Call.{Outcome, Written}
use Rattle.calls.specs.Move.{Moved}
use Rattle.face.specs.declared.Reply.{Reply}

-- an answer as document 01's number and counts, with the window value
abbrev pub numbered : Answer → Window → Reply
numbered a w = record { number = number_of a; count = count_of a; spoilt = spoilt_of a; window = w }

-- what a call gives back, and leaves in the lent store
pub record Replied : Type 0 where
  pub reply : Reply
  pub store : Store

-- what reading out or writing parity gives back, and leaves in the lent output
pub record Filled : Type 0 where
  pub reply : Reply
  pub out : List ℕ

-- an outcome by number
abbrev pub replied : Outcome → Replied
replied o = record { reply = numbered o.answer o.window; store = o.store }

-- what is written, by number
abbrev pub filled : Written → Filled
filled o = record { reply = numbered o.answer o.window; out = o.out }

-- what a move gives back, and leaves in the lent store and in the two outputs
pub record Carried : Type 0 where
  pub reply : Reply
  pub store : Store
  pub out : List ℕ
  pub sizes : List ℕ

-- a move, by number
abbrev pub carried : Moved → Carried
carried m = record { reply = numbered m.answer m.window; store = m.store; out = m.out; sizes = m.sizes }
