-- A refusal's number is none that says that all is well. Assumes nothing.
use Rattle.std.specs.Prelude.{◌≡◌, refl, Result, Ok, Err}
use Rattle.std.proofs.Common.{arith}
use Rattle.answer.specs.declared.Refusal.{Refusal}
use Rattle.answer.specs.declared.Refusal.TheVariants.{BadMatrix, BadPayload, BadRoom, TooShort, Disorder, NoHeader, BadRtp, OtherType, BadLength, BadFec, BadRecovery, OtherProfile, Outside, Repeated, Differs, NoRecord, Missing, Contradicts, NoCapture, BadMove}
use Rattle.answer.specs.Refused.{refusal_number, fault_of}

-- no refusal has the number 0
pub never_0 : (r : Refusal) → refusal_number r ≡ 0 → ⊥
never_0 BadMatrix e = absurd (omega arith)
never_0 BadPayload e = absurd (omega arith)
never_0 BadRoom e = absurd (omega arith)
never_0 TooShort e = absurd (omega arith)
never_0 Disorder e = absurd (omega arith)
never_0 NoHeader e = absurd (omega arith)
never_0 BadRtp e = absurd (omega arith)
never_0 OtherType e = absurd (omega arith)
never_0 BadLength e = absurd (omega arith)
never_0 BadFec e = absurd (omega arith)
never_0 BadRecovery e = absurd (omega arith)
never_0 OtherProfile e = absurd (omega arith)
never_0 Outside e = absurd (omega arith)
never_0 Repeated e = absurd (omega arith)
never_0 Differs e = absurd (omega arith)
never_0 NoRecord e = absurd (omega arith)
never_0 Missing e = absurd (omega arith)
never_0 Contradicts e = absurd (omega arith)
never_0 NoCapture e = absurd (omega arith)
never_0 BadMove e = absurd (omega arith)

-- a test that refuses nothing gives 0
pub passes : {A : Type 0} (r : Result A Refusal) → ((e : Refusal) → r ≡ Err e → ⊥) → fault_of r ≡ 0
passes (Ok a) h = refl
passes (Err e) h = absurd (h e refl)
