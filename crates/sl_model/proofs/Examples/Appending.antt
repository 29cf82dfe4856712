-- Closed runs of `std::copy` to an appender, each worked out by hand.
use Rattle.std.specs.Prelude.{◌≡◌, refl, ℕ, [], ◌∷◌, Some, None, pos, codes}
use Rattle.std.specs.Fmt.{digits}
use Rattle.sl_syntax.specs.declared.typed.callee.Callee.TheVariants as callees
use Rattle.sl_syntax.specs.Typed.{Expr, held, number, call, container, none, with, prints, evaluates, Stmt, does, Typed}
use Rattle.sl_specs.specs.Table.{table}
use Rattle.sl_model.specs.Runs.Ends.{Done, Trapped}
use Rattle.sl_model.specs.Runs.Run.{run}
use Rattle.sl_model.proofs.Examples.Short.{at, head, vector, push, start, deref, alone, finish, trap}

-- v.begin() and v.end() at their calls on a line
abbrev begin_at : ℕ → ℕ → Expr
begin_at line column = call (head (callees.Row 7) (at line column) None (Some 0) (Some 0 ∷ [])) none

abbrev end_at : ℕ → ℕ → Expr
end_at line column = call (head (callees.Row 8) (at line column) None (Some 0) (Some 0 ∷ [])) none

-- std::copy(v.begin(), v.end(), std::back_inserter(w)) on a line, at its site, by the number of w
abbrev copied : ℕ → ℕ → ℕ → Stmt
copied line site w = does (evaluates
    (call (head (callees.Appends 218) (at line 3) (Some site) None [])
    (with (begin_at line 15) (with (end_at line 26) (with (container w) none)))))

-- int main() {
--   std::vector<int> v;
--   std::copy(v.begin(), v.end(), std::back_inserter(v));
-- }
abbrev pub nothing_copied : Typed
nothing_copied = alone (Some 1) (vector (at 2 3) ∷ copied 3 0 0 ∷ []) (at 4 1) (at 3 3 ∷ at 4 1 ∷ []) (codes "v" ∷ [])

-- an appender may stand behind an empty range
nothing_copied_is_done : run nothing_copied [] [] 100 ≡ finish (Done (pos 0)) [] 0
unfolding table
nothing_copied_is_done = refl

-- int main() {
--   std::vector<int> v;
--   v.push_back(7);
--   std::copy(v.begin(), v.end(), std::back_inserter(v));
-- }
abbrev pub copied_into_itself : Typed
copied_into_itself = alone (Some 2) (vector (at 2 3) ∷ push (at 3 5) 0 0 0 (pos 7) ∷ copied 4 1 0 ∷ [])
    (at 5 1) (at 3 5 ∷ at 4 3 ∷ at 5 1 ∷ []) (codes "v" ∷ [])

-- but not behind what is copied, whatever the room is
copied_into_itself_traps : run copied_into_itself [] (9 ∷ []) 100 ≡ finish (Trapped (trap (at 4 3) 7 (codes "copy") 3 None None)) [] 0
unfolding table
copied_into_itself_traps = refl

-- int main() {
--   std::vector<int> v;
--   std::vector<int> w;
--   v.push_back(7);
--   auto it = w.begin();
--   std::copy(v.begin(), v.end(), std::back_inserter(w));
--   auto jt = w.begin();
--   std::cout << *jt;
--   std::cout << *it;
-- }
abbrev pub copied_behind : Typed
copied_behind = alone (Some 2)
    (vector (at 2 3) ∷ vector (at 3 3) ∷ push (at 4 5) 0 0 0 (pos 7) ∷ start (at 5 15) 1 1 ∷ copied 6 1 1 ∷ start (at 7 15) 1 1 ∷
    does (prints (number (held (deref (at 8 16) 1 3)) ∷ [])) ∷ does (prints (number (held (deref (at 9 16) 0 2)) ∷ [])) ∷ [])
    (at 10 1) (at 4 5 ∷ at 6 3 ∷ at 10 1 ∷ []) (codes "v" ∷ codes "w" ∷ codes "it" ∷ codes "jt" ∷ [])

-- the element is behind the new iterator, and the old one, the end, is invalidated at the call
copied_behind_prints : run copied_behind [] (0 ∷ 5 ∷ []) 100
    ≡ finish (Trapped (trap (at 9 16) 1 (codes "*") 1 (Some 2) (Some 1))) (codes "7") 0
unfolding digits table
copied_behind_prints = refl
