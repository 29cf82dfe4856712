-- Closed runs of texts of vectors, `push_back`, `begin` and `*`, each worked out by hand. A vector takes one pick when it is
-- made and one for each growth, in the order of the text.
use Rattle.std.specs.Prelude.{◌≡◌, refl, [], ◌∷◌, ◌++◌, Some, None, pos, codes}
use Rattle.sl_syntax.specs.Typed.{Typed}
use Rattle.sl_specs.specs.Table.{table}
use Rattle.sl_model.specs.Runs.Ends.{Done, Trapped, OutOfSteps}
use Rattle.sl_model.specs.Runs.Run.{run}
use Rattle.sl_model.proofs.Examples.Short.{at, vector, push, start, read_from, alone, finish, trap}

-- int main() {
--   std::vector<int> v;
--   auto it = v.begin();
--   int x = *it;
-- }
abbrev pub no_element : Typed
no_element =
    alone (Some 0) (vector (at 2 3) ∷ start (at 3 15) 0 0 ∷ read_from (at 4 11) 0 1 ∷ []) (at 5 1) (at 5 1 ∷ []) (codes "v" ∷ codes "it" ∷ [])

-- the iterator is valid, but it is the end
no_element_traps : run no_element [] [] 100 ≡ finish (Trapped (trap (at 4 11) 4 (codes "*") 1 (Some 1) None)) [] 0
unfolding table
no_element_traps = refl

-- whatever the room is
no_element_traps_with_room : run no_element [] (5 ∷ []) 100 ≡ finish (Trapped (trap (at 4 11) 4 (codes "*") 1 (Some 1) None)) [] 0
unfolding table
no_element_traps_with_room = refl

-- three steps are due, and the last one traps
no_element_in_three_steps : run no_element [] [] 3 ≡ finish (Trapped (trap (at 4 11) 4 (codes "*") 1 (Some 1) None)) [] 0
unfolding table
no_element_in_three_steps = refl

no_element_in_two_steps : run no_element [] [] 2 ≡ finish OutOfSteps [] 0
unfolding table
no_element_in_two_steps = refl

no_element_in_no_step : run no_element [] [] 0 ≡ finish OutOfSteps [] 0
no_element_in_no_step = refl

-- int main() {
--   std::vector<int> v;
--   auto it = v.begin();
--   v.push_back(1);
--   int x = *it;
-- }
abbrev pub end_kept : Typed
end_kept = alone (Some 1) (vector (at 2 3) ∷ start (at 3 15) 0 0 ∷ push (at 4 5) 0 0 0 (pos 1) ∷ read_from (at 5 11) 0 1 ∷ []) (at 6 1)
    (at 4 5 ∷ at 6 1 ∷ [])
    (codes "v" ∷ codes "it" ∷ [])

-- the vector grows, and each iterator is invalidated, the end too
end_kept_traps : run end_kept [] [] 100 ≡ finish (Trapped (trap (at 5 11) 1 (codes "*") 1 (Some 1) (Some 0))) [] 0
unfolding table
end_kept_traps = refl

-- there is room, but the end is invalidated also then
end_kept_traps_with_room : run end_kept [] (5 ∷ []) 100 ≡ finish (Trapped (trap (at 5 11) 1 (codes "*") 1 (Some 1) (Some 0))) [] 0
unfolding table
end_kept_traps_with_room = refl

-- int main() {
--   std::vector<int> v;
--   v.push_back(1);
--   v.push_back(2);
--   auto it = v.begin();
--   int x = *it;
--   int y = *it;
-- }
abbrev pub used_twice : Typed
used_twice = alone (Some 2)
    (vector (at 2 3) ∷ push (at 3 5) 0 0 0 (pos 1) ∷ push (at 4 5) 1 0 0 (pos 2) ∷ start (at 5 15) 0 0 ∷ read_from (at 6 11) 0 1 ∷
    read_from (at 7 11) 0 1 ∷ [])
    (at 8 1) (at 3 5 ∷ at 4 5 ∷ at 8 1 ∷ []) (codes "v" ∷ codes "it" ∷ [])

used_twice_is_done : run used_twice [] [] 6 ≡ finish (Done (pos 0)) [] 0
unfolding table
used_twice_is_done = refl

used_twice_in_five_steps : run used_twice [] [] 5 ≡ finish OutOfSteps [] 0
unfolding table
used_twice_in_five_steps = refl

-- int main() {
--   std::vector<int> v;
--   v.push_back(1);
--   auto it = v.begin();
--   int x = *it;
--   v.push_back(2);
--   int y = *it;
-- }
abbrev pub used_between : Typed
used_between = alone (Some 2)
    (vector (at 2 3) ∷ push (at 3 5) 0 0 0 (pos 1) ∷ start (at 4 15) 0 0 ∷ read_from (at 5 11) 0 1 ∷ push (at 6 5) 1 0 0 (pos 2) ∷
    read_from (at 7 11) 0 1 ∷ [])
    (at 8 1) (at 3 5 ∷ at 6 5 ∷ at 8 1 ∷ []) (codes "v" ∷ codes "it" ∷ [])

-- the first use is good, and the second one traps
used_between_traps : run used_between [] (0 ∷ 0 ∷ []) 100 ≡ finish (Trapped (trap (at 7 11) 1 (codes "*") 1 (Some 1) (Some 1))) [] 0
unfolding table
used_between_traps = refl

used_between_with_room : run used_between [] (5 ∷ []) 100 ≡ finish (Done (pos 0)) [] 0
unfolding table
used_between_with_room = refl

-- int main() {
--   std::vector<int> v;
--   v.push_back(1);
--   v.push_back(2);
--   auto it = v.begin();
--   v.push_back(3);
--   int x = *it;
-- }
abbrev pub third : Typed
third = alone (Some 3)
    (vector (at 2 3) ∷ push (at 3 5) 0 0 0 (pos 1) ∷ push (at 4 5) 1 0 0 (pos 2) ∷ start (at 5 15) 0 0 ∷ push (at 6 5) 2 0 0 (pos 3) ∷
    read_from (at 7 11) 0 1 ∷ [])
    (at 8 1) (at 3 5 ∷ at 4 5 ∷ at 6 5 ∷ at 8 1 ∷ []) (codes "v" ∷ codes "it" ∷ [])

-- rooms 0, 1, 2 and, where the schedule is too short, 3: each `push_back` grows
third_traps : run third [] (0 ∷ 0 ∷ []) 100 ≡ finish (Trapped (trap (at 7 11) 1 (codes "*") 1 (Some 1) (Some 2))) [] 0
unfolding table
third_traps = refl

-- the second growth gives a room of 3
third_with_room : run third [] (0 ∷ 0 ∷ 1 ∷ []) 100 ≡ finish (Done (pos 0)) [] 0
unfolding table
third_with_room = refl

-- the first growth gives a room of 2, and the second one of 3: the schedule is too short
third_too_short : run third [] (0 ∷ 1 ∷ []) 100 ≡ finish (Trapped (trap (at 7 11) 1 (codes "*") 1 (Some 1) (Some 2))) [] 0
unfolding table
third_too_short = refl

-- int main() {
--   std::vector<int> v;
--   std::vector<int> w;
--   v.push_back(1);
--   w.push_back(2);
--   auto it = v.begin();
--   auto jt = w.begin();
--   w.push_back(3);
--   int x = *it;
--   int y = *jt;
-- }
abbrev pub two : Typed
two = alone (Some 3)
    (vector (at 2 3) ∷ vector (at 3 3) ∷ push (at 4 5) 0 0 0 (pos 1) ∷ push (at 5 5) 1 1 1 (pos 2) ∷ start (at 6 15) 0 0 ∷ start (at 7 15) 1 1 ∷
    push (at 8 5) 2 1 1 (pos 3) ∷ read_from (at 9 11) 0 2 ∷ read_from (at 10 11) 1 3 ∷ [])
    (at 11 1) (at 4 5 ∷ at 5 5 ∷ at 8 5 ∷ at 11 1 ∷ []) (codes "v" ∷ codes "w" ∷ codes "it" ∷ codes "jt" ∷ [])

-- w grows, which v's iterator doesn't feel
two_traps : run two [] [] 100 ≡ finish (Trapped (trap (at 10 11) 1 (codes "*") 1 (Some 3) (Some 2))) [] 0
unfolding table
two_traps = refl

-- the room is v's alone
two_traps_with_room_in_v : run two [] (9 ∷ 0 ∷ []) 100 ≡ finish (Trapped (trap (at 10 11) 1 (codes "*") 1 (Some 3) (Some 2))) [] 0
unfolding table
two_traps_with_room_in_v = refl

-- the room is w's alone
two_with_room_in_w : run two [] (0 ∷ 9 ∷ []) 100 ≡ finish (Done (pos 0)) [] 0
unfolding table
two_with_room_in_w = refl

-- v's growth takes the third pick, and w's first growth the fourth, which leaves room for one element more
two_with_room_from_growth : run two [] (0 ∷ 0 ∷ 0 ∷ 1 ∷ []) 100 ≡ finish (Done (pos 0)) [] 0
unfolding table
two_with_room_from_growth = refl

two_in_nine_steps : run two [] (0 ∷ 9 ∷ []) 9 ≡ finish (Done (pos 0)) [] 0
unfolding table
two_in_nine_steps = refl

two_in_eight_steps : run two [] (0 ∷ 9 ∷ []) 8 ≡ finish OutOfSteps [] 0
unfolding table
two_in_eight_steps = refl

-- int main() {
--   std::vector<int> a;
--   .. b to o, on lines 3 to 16
--   std::vector<int> p;
--   p.push_back(1);
--   auto it = p.begin();
--   a.push_back(2);
--   int x = *it;
--   p.push_back(3);
--   int y = *it;
-- }
abbrev pub sixteen : Typed
sixteen = alone (Some 3)
    ((vector (at 2 3) ∷ vector (at 3 3) ∷ vector (at 4 3) ∷ vector (at 5 3) ∷ vector (at 6 3) ∷ vector (at 7 3) ∷ vector (at 8 3) ∷
    vector (at 9 3) ∷
    vector (at 10 3) ∷ vector (at 11 3) ∷ vector (at 12 3) ∷ vector (at 13 3) ∷ vector (at 14 3) ∷ vector (at 15 3) ∷ vector (at 16 3) ∷
    vector (at 17 3) ∷ []) ++
    (push (at 18 5) 0 15 15 (pos 1) ∷ start (at 19 15) 15 15 ∷ push (at 20 5) 1 0 0 (pos 2) ∷ read_from (at 21 11) 0 16 ∷
    push (at 22 5) 2 15 15 (pos 3) ∷
    read_from (at 23 11) 0 16 ∷ []))
    (at 24 1) (at 18 5 ∷ at 20 5 ∷ at 22 5 ∷ at 24 1 ∷ [])
    (codes "a" ∷ codes "b" ∷ codes "c" ∷ codes "d" ∷ codes "e" ∷ codes "f" ∷ codes "g" ∷ codes "h" ∷ codes "i" ∷ codes "j" ∷ codes "k" ∷ codes "l" ∷
    codes "m" ∷
    codes "n" ∷ codes "o" ∷ codes "p" ∷ codes "it" ∷ [])

-- the growth of a leaves the iterator of p, and that of p doesn't
sixteen_traps : run sixteen [] [] 100 ≡ finish (Trapped (trap (at 23 11) 1 (codes "*") 1 (Some 16) (Some 2))) [] 0
unfolding table
sixteen_traps = refl

-- the sixteenth pick is the room of p
sixteen_with_room : run sixteen [] (0 ∷ 0 ∷ 0 ∷ 0 ∷ 0 ∷ 0 ∷ 0 ∷ 0 ∷ 0 ∷ 0 ∷ 0 ∷ 0 ∷ 0 ∷ 0 ∷ 0 ∷ 2 ∷ []) 22 ≡ finish (Done (pos 0)) [] 0
unfolding table
sixteen_with_room = refl

-- a room of 2 for the fifteenth alone changes nothing
sixteen_traps_again : run sixteen [] (0 ∷ 0 ∷ 0 ∷ 0 ∷ 0 ∷ 0 ∷ 0 ∷ 0 ∷ 0 ∷ 0 ∷ 0 ∷ 0 ∷ 0 ∷ 0 ∷ 2 ∷ []) 22
    ≡ finish (Trapped (trap (at 23 11) 1 (codes "*") 1 (Some 16) (Some 2))) [] 0
unfolding table
sixteen_traps_again = refl
