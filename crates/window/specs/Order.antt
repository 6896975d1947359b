-- Whether a store is in order: refusal 5 (01, "When the desk says no").
use Rattle.std.specs.Prelude.{Bool, not, ◌&&◌, ◌||◌, List, ℕ, eqb, leb, length, get_or}
use Rattle.sequence.specs.Lists.{up_to, all, any, count}
use Rattle.rtp.specs.Faults.{no_row}
use Rattle.rtp.specs.Length.{good_length}
use Rattle.window.specs.declared.Record.{Record}
use Rattle.window.specs.declared.Window.{Window}
use Rattle.window.specs.Limits.{least_missing, rows, use_mark}
use Rattle.window.specs.Store.{Store, record_at}
use Rattle.window.specs.Group.{group, inside, missing}

-- a mark is 0 (no) or 1 (yes)
abbrev pub is_mark : ℕ → Bool
is_mark m = leb m 1

-- a position is present: its mark is 1
abbrev pub is_present : (marks : List ℕ) → ℕ → Bool
is_present marks i = eqb (get_or marks i 0) 1

-- a row of a hand, which has one window's records alone, is in use: its mark is 1
abbrev pub used : Record → Bool
used v = eqb v.in_use 1

-- a record is in use by a window: its mark is the window's
abbrev pub used_by : Window → Record → Bool
used_by w v = eqb v.in_use (use_mark w)

-- record r of the table is in use by a window
abbrev pub is_in_use : Window → Store → ℕ → Bool
is_in_use w s r = used_by w (record_at s r)

-- the group of a record
abbrev pub group_at : Window → Store → ℕ → List ℕ
group_at w s r = group w (record_at s r).stream (record_at s r).snbase

-- what is missing of a record's group
abbrev pub missing_at : Window → Store → ℕ → List ℕ
missing_at w s r = missing s.marks (group_at w s r)

-- a stream and an SNBase name a column, or a row where rows are permitted, that lies in the window
abbrev pub shape_good : Window → (stream snbase : ℕ) → Bool
shape_good w stream snbase = leb stream 1 && not (no_row stream w.l) && inside w stream snbase

-- two records name one group
abbrev pub same_group : Record → Record → Bool
same_group v u = eqb v.stream u.stream && eqb v.snbase u.snbase

-- no record in use before r names r's group
abbrev pub is_first : Window → Store → ℕ → Bool
is_first w s r = not (any (λ q. is_in_use w s q && same_group (record_at s q) (record_at s r)) (up_to r))

-- as many of a record's group are missing as a parity packet in hand has to wait for
abbrev pub waiting : Window → Store → ℕ → Bool
waiting w s r = leb least_missing (length (missing_at w s r))

-- a record is free, or it is of good shape, with a payload of good length, the first of its group, and waits
abbrev pub record_good : Window → Store → ℕ → Bool
record_good w s r =
    not (is_in_use w s r)
    || (shape_good w (record_at s r).stream (record_at s r).snbase && good_length w.p (record_at s r).payload_length && is_first w s r && waiting w s r)

-- every present mark is 0 or 1
abbrev pub marks_good : Window → (marks : List ℕ) → Bool
marks_good w marks = all (λ i. is_mark (get_or marks i 0)) (up_to w.n)

-- the length kept at every present position is good
abbrev pub lengths_good : Window → (lengths marks : List ℕ) → Bool
lengths_good w lengths marks = all (λ i. not (is_present marks i) || good_length w.p (get_or lengths i 0)) (up_to w.n)

-- every in-use mark is 0 or 1, and every record is good
abbrev pub records_good : Window → Store → Bool
records_good w s = all (λ r. is_mark (record_at s r).in_use && record_good w s r) (up_to (rows w))

-- the counts of the window value are those of the marks and the records
abbrev pub counts_good : Window → Store → Bool
counts_good w s = eqb w.present (count (is_present s.marks) (up_to w.n)) && eqb w.in_use (count (is_in_use w s) (up_to (rows w)))

-- 5: the store is not in order
unfoldable pub disorder : Window → Store → Bool
disorder w s = not (marks_good w s.marks && lengths_good w s.lengths s.marks && records_good w s && counts_good w s)
