-- The reasons for a refusal by their numbers in document 01, and what a result says by these numbers.
use Rattle.std.specs.Prelude.{ℕ, Result, Ok, Err}
use Rattle.answer.specs.declared.Counts.{Counts}
use Rattle.answer.specs.declared.Refusal.{Refusal}
use Rattle.answer.specs.declared.Refusal.TheVariants.{BadMatrix, BadPayload, BadRoom, TooShort, Disorder, NoHeader, BadRtp, OtherType, BadLength, BadFec, BadRecovery, OtherProfile, Outside, Repeated, Differs, NoRecord, Missing, Contradicts, NoCapture, BadMove}
use Rattle.answer.specs.declared.Answer.{Answer}
use Rattle.answer.specs.declared.Answer.TheVariants.{Done, Refused}

-- the number of a refusal
abbrev pub refusal_number : Refusal → ℕ
refusal_number BadMatrix = 1
refusal_number BadPayload = 2
refusal_number BadRoom = 3
refusal_number TooShort = 4
refusal_number Disorder = 5
refusal_number NoHeader = 6
refusal_number BadRtp = 7
refusal_number OtherType = 8
refusal_number BadLength = 9
refusal_number BadFec = 10
refusal_number BadRecovery = 11
refusal_number OtherProfile = 12
refusal_number Outside = 13
refusal_number Repeated = 14
refusal_number Differs = 15
refusal_number NoRecord = 16
refusal_number Missing = 17
refusal_number Contradicts = 18
refusal_number NoCapture = 21
refusal_number BadMove = 22

-- the number that a test for refusals gives: 0 where none applies
abbrev pub fault_of : {A : Type 0} → Result A Refusal → ℕ
fault_of (Ok a) = 0
fault_of (Err r) = refusal_number r

-- the answer of a call by its result
abbrev pub answer_of : Result Counts Refusal → Answer
answer_of (Ok c) = Done c.count c.spoilt
answer_of (Err r) = Refused (refusal_number r)

-- the answer of a call that writes, by how many bytes it wrote or why it is refused
abbrev pub written_as : Result ℕ Refusal → Answer
written_as (Ok n) = Done n 0
written_as (Err r) = Refused (refusal_number r)
