-- Closed runs of texts with references to elements, each worked out by hand.
use Rattle.std.specs.Prelude.{◌≡◌, ℕ, refl, [], ◌∷◌, ℤ, Some, None, pos, codes}
use Rattle.std.specs.Fmt.{digits}
use Rattle.sl_base.specs.declared.form.Form.{Form}
use Rattle.sl_base.specs.declared.form.Form.TheVariants as f
use Rattle.sl_base.specs.declared.place.Place.{Place}
use Rattle.sl_base.specs.declared.scalar.Scalar.TheVariants as t
use Rattle.sl_syntax.specs.declared.operator.Arithmetic.TheVariants as o
use Rattle.sl_syntax.specs.declared.typed.callee.Callee.TheVariants as callees
use Rattle.sl_syntax.specs.declared.typed.element.ElementPart.TheVariants as part
use Rattle.sl_syntax.specs.declared.typed.element.Taken.TheVariants as taken
use Rattle.sl_syntax.specs.declared.typed.operator.Operator.TheVariants as operators
use Rattle.sl_syntax.specs.declared.typed.step.Fix.TheVariants.{Prefix}
use Rattle.sl_syntax.specs.declared.typed.step.Step.TheVariants.{Up}
use Rattle.sl_syntax.specs.Typed.{Left, literal, held, iterator, increment, move, call, scalar, reference, element, none, with, text, number, prints}
use Rattle.sl_syntax.specs.Typed.{evaluates, assigns, updates, set_iterator, binds_reference, makes, block, declares, range_for, does, Stmt, Typed}
use Rattle.sl_specs.specs.declared.rows.sequences.TheConstants as sequences
use Rattle.sl_specs.specs.declared.rows.associative.TheConstants as keyed
use Rattle.sl_specs.specs.Table.{table}
use Rattle.sl_model.specs.Runs.Ends.{Done, Trapped}
use Rattle.sl_model.specs.Runs.Run.{run}
use Rattle.sl_model.proofs.Examples.Short.{at, head, all, vector, push, start, alone, finish, trap}

-- a container without elements, by its form and its constructor's row, at its type
abbrev empty_one : Form → ℕ → Place → Stmt
empty_one form row at = declares (makes form (head (callees.Row row) at None None []) none)

-- `c.f(z);` on the first container and name, by the row of f, at the call with its site
abbrev calls : ℕ → Place → ℕ → ℤ → Stmt
calls row at site z = does (evaluates (call (head (callees.Row row) at (Some site) (Some 0) (Some 0 ∷ None ∷ [])) (with (literal t.Int z) none)))

-- `auto it = c.begin();` on the first container and name, by the row of `begin`, at the call
abbrev begins : ℕ → Place → Stmt
begins row at = declares (set_iterator (call (head (callees.Row row) at None (Some 0) (Some 0 ∷ [])) none))

-- `int& r = c.front();` on the first container and name, by the row of `front`, at the call
abbrev front_bound : ℕ → Place → Stmt
front_bound row at = declares (binds_reference (head (callees.Row row) at None (Some 0) (Some 0 ∷ [])) none)

-- `c.clear();` on the first container and name, by the row of `clear`, at the call with its site
abbrev clears : ℕ → Place → ℕ → Stmt
clears row at site = does (evaluates (call (head (callees.Row row) at (Some site) (Some 0) (Some 0 ∷ [])) none))

-- `*it` at its star: the iterator with its name
abbrev star : Place → ℕ → ℕ → Left
star at it name = element (head (callees.Operator operators.Dereference) at None None (None ∷ Some name ∷ [])) (with (iterator it) none)

-- `m[k]` of the first container and name, a map, at the bracket with its site
abbrev under : Place → ℕ → ℤ → Left
under at site k =
    element (head (callees.Row keyed.MAP_SUBSCRIPT) at (Some site) (Some 0) (Some 0 ∷ None ∷ [])) (with (literal t.Int k) none)

-- int main() {
--   std::vector<int> v;
--   v.push_back(1);
--   auto it = v.begin();
--   int& r = *it;
--   r = 2;
--   std::cout << *it << r;
-- }
abbrev pub through_iterator : Typed
through_iterator = alone (Some 1) (
    vector (at 2 3) ∷
    push (at 3 5) 0 0 0 (pos 1) ∷
    start (at 4 15) 0 0 ∷
    declares (binds_reference (head (callees.Operator operators.Dereference) (at 5 12) None None (None ∷ Some 1 ∷ [])) (with (iterator 0) none)) ∷
    does (assigns (reference 1 (at 6 3) 2 part.Whole) (literal t.Int (pos 2))) ∷
    does (prints (number (held (star (at 7 16) 0 1)) ∷ number (held (reference 1 (at 7 23) 2 part.Whole)) ∷ [])) ∷
    []) (at 8 1) (at 3 5 ∷ at 8 1 ∷ []) (codes "v" ∷ codes "it" ∷ codes "r" ∷ [])

-- the element is written and read by both names
through_iterator_prints : run through_iterator [] [] 100 ≡ finish (Done (pos 0)) (codes "22") 0
unfolding digits table
through_iterator_prints = refl

-- int main() {
--   std::deque<int> d;
--   d.push_back(1);
--   int& r = d.front();
--   d.push_back(3);
--   r = 5;
--   std::cout << d.front();
-- }
abbrev pub end_of_deque : Typed
end_of_deque = alone (Some 2) (
    empty_one f.Deque sequences.DEQUE_CONSTRUCTOR (at 2 3) ∷
    calls sequences.DEQUE_PUSH_BACK (at 3 5) 0 (pos 1) ∷
    front_bound sequences.DEQUE_FRONT (at 4 14) ∷
    calls sequences.DEQUE_PUSH_BACK (at 5 5) 1 (pos 3) ∷
    does (assigns (reference 0 (at 6 3) 1 part.Whole) (literal t.Int (pos 5))) ∷
    does (prints (number (held (element (head (callees.Row sequences.DEQUE_FRONT) (at 7 18) None (Some 0) (Some 0 ∷ [])) none)) ∷ [])) ∷
    []) (at 8 1) (at 3 5 ∷ at 5 5 ∷ at 8 1 ∷ []) (codes "d" ∷ codes "r" ∷ [])

-- an insertion at an end of a deque invalidates iterators, and no reference
end_of_deque_goes_on : run end_of_deque [] [] 100 ≡ finish (Done (pos 0)) (codes "5") 0
unfolding digits table
end_of_deque_goes_on = refl

-- int main() {
--   std::deque<int> d;
--   d.push_back(1);
--   d.push_back(2);
--   int& r = d.front();
--   auto it = d.begin();
--   ++it;
--   d.insert(it, 3);
--   r = 5;
-- }
abbrev pub middle_of_deque : Typed
middle_of_deque = alone (Some 3) (
    empty_one f.Deque sequences.DEQUE_CONSTRUCTOR (at 2 3) ∷
    calls sequences.DEQUE_PUSH_BACK (at 3 5) 0 (pos 1) ∷
    calls sequences.DEQUE_PUSH_BACK (at 4 5) 1 (pos 2) ∷
    front_bound sequences.DEQUE_FRONT (at 5 14) ∷
    begins sequences.DEQUE_BEGIN (at 6 15) ∷
    does (evaluates (move Prefix 1 (head (callees.Operator operators.Increment) (at 7 3) None None (None ∷ Some 2 ∷ [])) none)) ∷
    does (evaluates (call (head (callees.Row sequences.DEQUE_INSERT) (at 8 5) (Some 2) (Some 0) (Some 0 ∷ Some 2 ∷ None ∷ []))
    (with (iterator 1) (with (literal t.Int (pos 3)) none)))) ∷
    does (assigns (reference 0 (at 9 3) 1 part.Whole) (literal t.Int (pos 5))) ∷
    []) (at 10 1) (at 3 5 ∷ at 4 5 ∷ at 8 5 ∷ at 10 1 ∷ []) (codes "d" ∷ codes "r" ∷ codes "it" ∷ [])

-- one in the middle invalidates them all: the use tells the reference's name, and where that was
middle_of_deque_traps : run middle_of_deque [] [] 100 ≡ finish (Trapped (trap (at 9 3) 12 (codes "use") 1 (Some 1) (Some 2))) [] 0
unfolding table
middle_of_deque_traps = refl

-- int main() {
--   std::unordered_set<int> s;
--   s.insert(1);
--   auto it = s.begin();
--   const int& r = *it;
--   s.reserve(8);
--   std::cout << r;
--   std::cout << *it;
-- }
abbrev pub reserved_set : Typed
reserved_set = alone (Some 2) (
    empty_one f.HashSet keyed.HASH_SET_CONSTRUCTOR (at 2 3) ∷
    calls keyed.HASH_SET_INSERT (at 3 5) 0 (pos 1) ∷
    begins keyed.HASH_SET_BEGIN (at 4 15) ∷
    declares (binds_reference (head (callees.Operator operators.Dereference) (at 5 18) None None (None ∷ Some 1 ∷ [])) (with (iterator 0) none)) ∷
    calls keyed.HASH_SET_RESERVE (at 6 5) 1 (pos 8) ∷
    does (prints (number (held (reference 1 (at 7 16) 2 part.Whole)) ∷ [])) ∷
    does (prints (number (held (star (at 8 16) 0 1)) ∷ [])) ∷
    []) (at 9 1) (at 3 5 ∷ at 6 5 ∷ at 9 1 ∷ []) (codes "s" ∷ codes "it" ∷ codes "r" ∷ [])

-- the reference is read, and then the iterator is invalid
reserved_set_traps : run reserved_set [] [] 100 ≡ finish (Trapped (trap (at 8 16) 1 (codes "*") 1 (Some 1) (Some 1))) (codes "1") 0
unfolding digits table
reserved_set_traps = refl

-- int main() {
--   std::map<int, int> m;
--   m[1] = 10;
--   int& r = m[1];
--   m[0] = 4;
--   ++r;
--   std::cout << m[1];
-- }
abbrev pub under_key : Typed
under_key = alone (Some 4) (
    empty_one f.Map keyed.MAP_CONSTRUCTOR (at 2 3) ∷
    does (assigns (under (at 3 4) 0 (pos 1)) (literal t.Int (pos 10))) ∷
    declares (binds_reference (head (callees.Row keyed.MAP_SUBSCRIPT) (at 4 13) (Some 1) (Some 0) (Some 0 ∷ None ∷ []))
    (with (literal t.Int (pos 1)) none)) ∷
    does (assigns (under (at 5 4) 2 (pos 0)) (literal t.Int (pos 4))) ∷
    does (evaluates (increment Up Prefix t.Int (at 6 3) (reference 0 (at 6 5) 1 part.Whole))) ∷
    does (prints (number (held (under (at 7 17) 3 (pos 1))) ∷ [])) ∷
    []) (at 8 1) (at 3 4 ∷ at 4 13 ∷ at 5 4 ∷ at 7 17 ∷ at 8 1 ∷ []) (codes "m" ∷ codes "r" ∷ [])

-- the element is another one in order then, and its value goes up
under_key_prints : run under_key [] [] 100 ≡ finish (Done (pos 0)) (codes "11") 0
unfolding digits table
under_key_prints = refl

-- int main() {
--   std::map<int, int> m;
--   m[1] = 10;
--   m[2] = 20;
--   for (auto& p : m) p.second += p.first;
--   std::cout << m[1] << " " << m[2];
-- }
abbrev pub keys_added : Typed
keys_added = alone (Some 4) (
    empty_one f.Map keyed.MAP_CONSTRUCTOR (at 2 3) ∷
    does (assigns (under (at 3 4) 0 (pos 1)) (literal t.Int (pos 10))) ∷
    does (assigns (under (at 4 4) 1 (pos 2)) (literal t.Int (pos 20))) ∷
    range_for 0 taken.Reference 0 (at 5 3) 0
    (does (updates o.Add t.Int t.Int (at 5 30) (reference 2 (at 5 21) 1 part.Second) (held (reference 2 (at 5 33) 1 part.First)))) ∷
    does (prints (number (held (under (at 6 17) 2 (pos 1))) ∷ text (codes " ") ∷ number (held (under (at 6 32) 3 (pos 2))) ∷ [])) ∷
    []) (at 7 1) (at 3 4 ∷ at 4 4 ∷ at 6 17 ∷ at 6 32 ∷ at 7 1 ∷ []) (codes "m" ∷ codes "p" ∷ [])

keys_added_prints : run keys_added [] [] 100 ≡ finish (Done (pos 0)) (codes "11 22") 0
unfolding digits table
keys_added_prints = refl

-- int main() {
--   std::map<int, int> m;
--   m[1] = 10;
--   m[2] = 20;
--   for (auto& p : m) m.erase(1);
-- }
abbrev pub erased_in_loop : Typed
erased_in_loop = alone (Some 3) (
    empty_one f.Map keyed.MAP_CONSTRUCTOR (at 2 3) ∷
    does (assigns (under (at 3 4) 0 (pos 1)) (literal t.Int (pos 10))) ∷
    does (assigns (under (at 4 4) 1 (pos 2)) (literal t.Int (pos 20))) ∷
    range_for 0 taken.Reference 0 (at 5 3) 0 (calls keyed.MAP_ERASE_KEY (at 5 23) 2 (pos 1)) ∷
    []) (at 6 1) (at 3 4 ∷ at 4 4 ∷ at 5 23 ∷ at 6 1 ∷ []) (codes "m" ∷ codes "p" ∷ [])

-- the first hidden iterator can't go up
erased_in_loop_traps : run erased_in_loop [] [] 100 ≡ finish (Trapped (trap (at 5 3) 1 (codes "for") 1 (Some 0) (Some 2))) [] 0
unfolding table
erased_in_loop_traps = refl

-- int main() {
--   std::map<int, int> m;
--   m[1] = 10;
--   for (auto& p : m) {
--     m.erase(1);
--     p.second = 3;
--   }
-- }
abbrev pub erased_and_used : Typed
erased_and_used = alone (Some 2) (
    empty_one f.Map keyed.MAP_CONSTRUCTOR (at 2 3) ∷
    does (assigns (under (at 3 4) 0 (pos 1)) (literal t.Int (pos 10))) ∷
    range_for 0 taken.Reference 0 (at 4 3) 0 (block None (all (
    calls keyed.MAP_ERASE_KEY (at 5 7) 1 (pos 1) ∷
    does (assigns (reference 2 (at 6 5) 1 part.Second) (literal t.Int (pos 3))) ∷
    []))) ∷
    []) (at 8 1) (at 3 4 ∷ at 5 7 ∷ at 8 1 ∷ []) (codes "m" ∷ codes "p" ∷ [])

-- the use of the reference is first
erased_and_used_traps : run erased_and_used [] [] 100 ≡ finish (Trapped (trap (at 6 5) 12 (codes "use") 1 (Some 1) (Some 1))) [] 0
unfolding table
erased_and_used_traps = refl

-- int main() {
--   std::vector<int> v;
--   v.push_back(1);
--   v.push_back(2);
--   for (int& x : v) x = 7;
--   for (int y : v) std::cout << y;
-- }
abbrev pub all_set : Typed
all_set = alone (Some 2) (
    vector (at 2 3) ∷
    push (at 3 5) 0 0 0 (pos 1) ∷
    push (at 4 5) 1 0 0 (pos 2) ∷
    range_for 0 taken.Reference 0 (at 5 3) 0 (does (assigns (reference 2 (at 5 20) 1 part.Whole) (literal t.Int (pos 7)))) ∷
    range_for 1 taken.Value 0 (at 6 3) 0 (does (prints (number (held (scalar 0 (at 6 32))) ∷ []))) ∷
    []) (at 7 1) (at 3 5 ∷ at 4 5 ∷ at 7 1 ∷ []) (codes "v" ∷ codes "x" ∷ codes "y" ∷ [])

-- each turn binds the name anew
all_set_prints : run all_set [] [] 100 ≡ finish (Done (pos 0)) (codes "77") 0
unfolding digits table
all_set_prints = refl

-- int main() {
--   std::vector<int> v;
--   v.push_back(1);
--   int& r = v.front();
--   v.clear();
--   r;
-- }
abbrev pub named_behind_clear : Typed
named_behind_clear = alone (Some 2) (
    vector (at 2 3) ∷
    push (at 3 5) 0 0 0 (pos 1) ∷
    front_bound sequences.VECTOR_FRONT (at 4 14) ∷
    clears sequences.VECTOR_CLEAR (at 5 5) 1 ∷
    does (evaluates (held (reference 0 (at 6 3) 1 part.Whole))) ∷
    []) (at 7 1) (at 3 5 ∷ at 5 5 ∷ at 7 1 ∷ []) (codes "v" ∷ codes "r" ∷ [])

-- a name alone is no use
named_behind_clear_goes_on : run named_behind_clear [] [] 100 ≡ finish (Done (pos 0)) [] 0
unfolding table
named_behind_clear_goes_on = refl

-- int main() {
--   std::vector<int> v;
--   v.push_back(1);
--   int& r = v.front();
--   v.clear();
--   std::cout << r;
-- }
abbrev pub read_behind_clear : Typed
read_behind_clear = alone (Some 2) (
    vector (at 2 3) ∷
    push (at 3 5) 0 0 0 (pos 1) ∷
    front_bound sequences.VECTOR_FRONT (at 4 14) ∷
    clears sequences.VECTOR_CLEAR (at 5 5) 1 ∷
    does (prints (number (held (reference 0 (at 6 16) 1 part.Whole)) ∷ [])) ∷
    []) (at 7 1) (at 3 5 ∷ at 5 5 ∷ at 7 1 ∷ []) (codes "v" ∷ codes "r" ∷ [])

read_behind_clear_traps : run read_behind_clear [] [] 100 ≡ finish (Trapped (trap (at 6 16) 12 (codes "use") 1 (Some 1) (Some 1))) [] 0
unfolding table
read_behind_clear_traps = refl
