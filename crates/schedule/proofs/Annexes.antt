-- 004's annexes A and B at L = 4, D = 5, by computation.
use Rattle.std.specs.Prelude.{◌≡◌, refl, [], ◌∷◌, ◌+◌}
use Rattle.schedule.specs.Schedule.{Aligned, Staggered, shift, start, due, turn, leaving, column_due, row_due}
use Rattle.schedule.specs.Annexes.{members, sent_with, start_of, sent_below, columns_below}

-- annex A numbers its packets from 1: groups 1, 5, 9, 13, 17 and 6, 10, 14, 18, 22
pub annex_a : (members (1 + start Staggered 4 5 (record { column = 0; cycle = 0 })) 4 5 ≡ 1 ∷ 5 ∷ 9 ∷ 13 ∷ 17 ∷ [])
    × (members (1 + start Staggered 4 5 (record { column = 1; cycle = 0 })) 4 5 ≡ 6 ∷ 10 ∷ 14 ∷ 18 ∷ 22 ∷ [])
unfolding start shift
annex_a = (refl, refl)

-- annex B, figure 5: FEC0 with packet 20, FEC1 with 25, FEC2 with 30, FEC3 with 35, and so on
pub annex_b : columns_below Aligned 4 5 60 ≡ (20, 0) ∷ (25, 1) ∷ (30, 2) ∷ (35, 3) ∷ (40, 20) ∷ (45, 21) ∷ (50, 22) ∷ (55, 23) ∷ []
unfolding columns_below sent_below start_of sent_with column_due leaving turn due start shift
annex_b = refl

-- annex A's arrangement: L packets after the last member
pub staggered-columns : columns_below Staggered 4 5 56 ≡ (20, 0) ∷ (25, 5) ∷ (30, 10) ∷ (35, 15) ∷ (40, 20) ∷ (45, 25) ∷ (50, 30) ∷ (55, 35) ∷ []
unfolding columns_below sent_below start_of sent_with column_due leaving turn due start shift
staggered-columns = refl

-- rows go out with their last member
pub rows_end : sent_below (row_due 4) 20 ≡ (3, 0) ∷ (7, 4) ∷ (11, 8) ∷ (15, 12) ∷ (19, 16) ∷ []
unfolding sent_below sent_with row_due
rows_end = refl
