-- A list whose equal elements are told apart by iterators is sorted, worked out by hand: they keep their order.
use Rattle.std.specs.Prelude.{◌≡◌, ℕ, refl, [], ◌∷◌, ℤ, Some, None, pos, codes}
use Rattle.std.specs.Fmt.{digits}
use Rattle.sl_base.specs.declared.form.Form.TheVariants as f
use Rattle.sl_base.specs.declared.place.Place.{Place}
use Rattle.sl_base.specs.declared.scalar.Scalar.TheVariants as t
use Rattle.sl_syntax.specs.declared.typed.callee.Callee.TheVariants as callees
use Rattle.sl_syntax.specs.declared.typed.operator.Operator.TheVariants as operators
use Rattle.sl_syntax.specs.declared.typed.step.Fix.TheVariants.{Prefix}
use Rattle.sl_syntax.specs.Typed.{Expr, literal, iterator, move, call, none, with, number, prints, evaluates, set_iterator, makes, declares, does}
use Rattle.sl_syntax.specs.Typed.{Stmt, Typed}
use Rattle.sl_specs.specs.declared.rows.algorithms.TheConstants as algorithms
use Rattle.sl_specs.specs.declared.rows.sequences.TheConstants as row
use Rattle.sl_specs.specs.Table.{table}
use Rattle.sl_model.specs.Runs.Ends.{Done}
use Rattle.sl_model.specs.Runs.Run.{run}
use Rattle.sl_model.proofs.Examples.Outcomes.{outcome, in_first, three, on_first}
use Rattle.sl_model.proofs.Examples.Short.{at, head, alone, finish}

-- sort() of 20, 10 and 20: the iterator at the first 20 stands at the first of the two, and the other behind it
equal_elements_sorted : outcome 4 (on_first row.LIST_SORT [] (three f.List 0 20 10 20) []) ≡ Some (record {
  given = [];
  number = None;
  keys = (pos 10 ∷ pos 20 ∷ pos 20 ∷ []) ∷ [];
  iterators = in_first 1 ∷ in_first 0 ∷ in_first 2 ∷ in_first 3 ∷ [];
  references = in_first 1 ∷ in_first 0 ∷ in_first 2 ∷ None ∷ [];
})
unfolding table
equal_elements_sorted = refl

-- `l.push_back(z);` on the list, at the call
abbrev pushes : Place → ℤ → Stmt
pushes at z = does (evaluates (call (head (callees.Row row.LIST_PUSH_BACK) at None (Some 0) (Some 0 ∷ [])) (with (literal t.Int z) none)))

-- `l.begin()`, at the call
abbrev first_of : Place → Expr
first_of at = call (head (callees.Row row.LIST_BEGIN) at None (Some 0) (Some 0 ∷ [])) none

-- `std::distance(l.begin(), it)`, at the calls: the iterator with its name
abbrev place_of : Place → Place → ℕ → ℕ → Expr
place_of at begin it name =
    call (head (callees.Row algorithms.STD_DISTANCE) at None None (None ∷ None ∷ Some name ∷ [])) (with (first_of begin) (with (iterator it) none))

-- int main() {
--   std::list<int> l;
--   l.push_back(2);
--   l.push_back(2);
--   auto it = l.begin();
--   auto jt = l.begin();
--   ++jt;
--   l.push_back(1);
--   l.sort();
--   std::cout << std::distance(l.begin(), it) << std::distance(l.begin(), jt);
-- }
abbrev pub equal_elements : Typed
equal_elements = alone (Some 0) (
    declares (makes f.List (head (callees.Row row.LIST_CONSTRUCTOR) (at 2 3) None None []) none) ∷
    pushes (at 3 5) (pos 2) ∷
    pushes (at 4 5) (pos 2) ∷
    declares (set_iterator (first_of (at 5 15))) ∷
    declares (set_iterator (first_of (at 6 15))) ∷
    does (evaluates (move Prefix 1 (head (callees.Operator operators.Increment) (at 7 3) None None (None ∷ Some 2 ∷ [])) none)) ∷
    pushes (at 8 5) (pos 1) ∷
    does (evaluates (call (head (callees.Row row.LIST_SORT) (at 9 5) None (Some 0) (Some 0 ∷ [])) none)) ∷
    does (prints (number (place_of (at 10 16) (at 10 32) 0 1) ∷ number (place_of (at 10 48) (at 10 64) 1 2) ∷ [])) ∷
    []) (at 11 1) (at 11 1 ∷ []) (codes "l" ∷ codes "it" ∷ codes "jt" ∷ [])

-- the 1 comes first, then the element that was first, and then the other
equal_elements_prints : run equal_elements [] [] 100 ≡ finish (Done (pos 0)) (codes "12") 0
unfolding digits table
equal_elements_prints = refl
