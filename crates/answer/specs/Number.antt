-- Document 01's number and counts for each case of an answer ("When the desk says no"; 02, request 1).
use Rattle.std.specs.Prelude.{ℕ}
use Rattle.answer.specs.declared.Answer.{Answer}
use Rattle.answer.specs.declared.Answer.TheVariants.{Done, Refused}

-- the number: 0 where the call was carried out, else that of the refusal
abbrev pub number_of : Answer → ℕ
number_of (Done n spoilt) = 0
number_of (Refused k) = k

-- the count: of packets rebuilt or of bytes written; 0 beside a refusal
abbrev pub count_of : Answer → ℕ
count_of (Done n spoilt) = n
count_of (Refused k) = 0

-- the spoilt count: of parity packets that an offer released because what they gave could not be right; 0 beside a refusal
abbrev pub spoilt_of : Answer → ℕ
spoilt_of (Done n spoilt) = spoilt
spoilt_of (Refused k) = 0
