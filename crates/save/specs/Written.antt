-- What writing a file answers, as the C interface has it: numbers.
use Rattle.std.specs.Prelude.{ℕ, Result, Ok, Err}
use Rattle.answer.specs.declared.Refusal.{Refusal}
use Rattle.answer.specs.Refused.{refusal_number}
use Rattle.capture.specs.declared.Written.{Written}

-- 0 and how many bytes were written, or the number of the refusal and 0
abbrev pub written_of : Result ℕ Refusal → Written
written_of (Ok n) = record { number = 0; count = n }
written_of (Err e) = record { number = refusal_number e; count = 0 }
