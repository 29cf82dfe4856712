-- What the rules of references give and drop.
use Rattle.sl_base.specs.declared.form.Form.TheVariants as f
use Rattle.sl_base.specs.declared.scalar.Scalar.TheVariants as t
use Rattle.sl_model.proofs.Examples.FactsShort.{algorithm, head_at, here, int, member, numbers_to, shows, size_number}
use Rattle.sl_model.specs.Outlines.Facts.{alive, before, lower_bound, size_at_least, sorted}
use Rattle.sl_specs.specs.declared.rows.algorithms.TheConstants as algorithms
use Rattle.sl_specs.specs.declared.rows.associative.TheConstants as associative
use Rattle.sl_specs.specs.declared.rows.sequences.TheConstants as sequence
use Rattle.sl_syntax.specs.Typed.{assigns, binds_reference, declares, does, evaluates, held, increment, iterator, makes, none, operands_from}
use Rattle.sl_syntax.specs.Typed.{reference, set_iterator, set_scalar, updates, with}
use Rattle.sl_syntax.specs.declared.operator.Arithmetic.TheVariants as o
use Rattle.sl_syntax.specs.declared.typed.callee.Callee.TheVariants as callees
use Rattle.sl_syntax.specs.declared.typed.element.ElementPart.TheVariants as parts
use Rattle.sl_syntax.specs.declared.typed.operator.Operator.TheVariants as operators
use Rattle.sl_syntax.specs.declared.typed.step.Fix.TheVariants.{Prefix}
use Rattle.sl_syntax.specs.declared.typed.step.Step.TheVariants.{Up}
use Rattle.std.specs.Prelude.{None, Some, [], false, pos, refl, true, ◌++◌, ◌∷◌, ◌≡◌}

-- `bind_reference` from `*it`, `front`, `[]` and `at`
--   std::vector<int> v = {1, 2};
--   auto it = v.begin();
--   int& a = *it;
--   int& b = v.front();
--   int& c = v[1];
--   int& d = v.at(7);
-- given: alive(a, v), alive(b, v), alive(c, v), alive(d, v), before(it, v), size(v) >= 2
-- not given: sorted(v)
references_are_bound : shows (numbers_to 3 ++ (pos 6 ∷ pos 7 ∷ pos 8 ∷ []))
    (declares (makes f.Vector (head_at here (callees.Row sequence.VECTOR_CONSTRUCTOR_LIST) None) (operands_from (int 1 ∷ int 2 ∷ []))) ∷
    declares (set_iterator (member sequence.VECTOR_BEGIN 0 [])) ∷
    declares (binds_reference (head_at here (callees.Operator operators.Dereference) None) (with (iterator 0) none)) ∷
    declares (binds_reference (head_at here (callees.Row sequence.VECTOR_FRONT) (Some 0)) (operands_from [])) ∷
    declares (binds_reference (head_at here (callees.Row sequence.VECTOR_SUBSCRIPT) (Some 0)) (with (size_number 1) none)) ∷
    declares (binds_reference (head_at here (callees.Row sequence.VECTOR_AT) (Some 0)) (operands_from (size_number 7 ∷ []))) ∷ [])
    (alive 1 0 ∷ alive 2 0 ∷ alive 3 0 ∷ alive 4 0 ∷ before 0 0 ∷ size_at_least 0 (pos 2) ∷ []) (sorted 0 ∷ []) ≡ true
unfolding shows
references_are_bound = refl

-- `bind_reference` from `it->second` and `[]` of a map, which inserts
--   std::map<int, int> m;
--   int& a = m[1];
--   auto it = m.begin();
--   int& b = it->second;
-- given: alive(a, m), alive(b, m), size(m) >= 1, before(it, m)
-- not given: sorted(m)
references_into_maps : shows (numbers_to 2)
    (declares (makes f.Map (head_at here (callees.Row associative.MAP_CONSTRUCTOR) None) (operands_from [])) ∷
    declares (binds_reference (head_at here (callees.Row associative.MAP_SUBSCRIPT) (Some 0)) (with (int 1) none)) ∷
    declares (set_iterator (member associative.MAP_BEGIN 0 [])) ∷
    declares (binds_reference (head_at here (callees.Operator operators.ArrowSecond) None) (with (iterator 1) none)) ∷ [])
    (alive 0 0 ∷ alive 2 0 ∷ size_at_least 0 (pos 1) ∷ before 1 0 ∷ []) (sorted 0 ∷ []) ≡ true
unfolding shows
references_into_maps = refl

-- `use_reference`: a write drops sorted of its container alone
--   std::vector<int> v;
--   std::vector<int> w;
--   v.push_back(1);
--   std::sort(v.begin(), v.end());
--   int& r = v.back();
--   int x = r;
--   r = 5;
--   r += 1;
--   ++r;
-- given: alive(r, v), size(v) >= 1, sorted(w)
-- not given: sorted(v), 5 <= x
references_are_used : shows (numbers_to 2 ++ (pos 4 ∷ pos 5 ∷ pos 6 ∷ []))
    (declares (makes f.Vector (head_at here (callees.Row sequence.VECTOR_CONSTRUCTOR) None) (operands_from [])) ∷
    declares (makes f.Vector (head_at here (callees.Row sequence.VECTOR_CONSTRUCTOR) None) (operands_from [])) ∷
    does (evaluates (member sequence.VECTOR_PUSH_BACK 0 (int 1 ∷ []))) ∷
    does (evaluates (algorithm algorithms.STD_SORT (member sequence.VECTOR_BEGIN 0 [] ∷ member sequence.VECTOR_END 0 [] ∷ []))) ∷
    declares (binds_reference (head_at here (callees.Row sequence.VECTOR_BACK) (Some 0)) (operands_from [])) ∷
    declares (set_scalar t.Int (held (reference 0 here 0 parts.Whole))) ∷ does (assigns (reference 0 here 0 parts.Whole) (int 5)) ∷
    does (updates o.Add t.Int t.Int here (reference 0 here 0 parts.Whole) (int 1)) ∷
    does (evaluates (increment Up Prefix t.Int here (reference 0 here 0 parts.Whole))) ∷ [])
    (alive 0 0 ∷ size_at_least 0 (pos 1) ∷ sorted 1 ∷ []) (sorted 0 ∷ lower_bound 0 (pos 5) ∷ []) ≡ true
unfolding shows
references_are_used = refl

-- a statement that is only a name reads nothing
--   std::vector<int> v = {1};
--   int& r = v.back();
--   v.push_back(2);
--   r;
-- given: size(v) >= 2
-- not given: alive(r, v)
references_are_not_used : shows (numbers_to 3)
    (declares (makes f.Vector (head_at here (callees.Row sequence.VECTOR_CONSTRUCTOR_LIST) None) (operands_from (int 1 ∷ []))) ∷
    declares (binds_reference (head_at here (callees.Row sequence.VECTOR_BACK) (Some 0)) (operands_from [])) ∷
    does (evaluates (member sequence.VECTOR_PUSH_BACK 0 (int 2 ∷ []))) ∷ does (evaluates (held (reference 0 here 0 parts.Whole))) ∷ [])
    (size_at_least 0 (pos 2) ∷ []) (alive 0 0 ∷ []) ≡ true
unfolding shows
references_are_not_used = refl

-- `use_reference` without a fact that it is alive
--   std::vector<int> v = {1};
--   int& r = v.back();
--   v.push_back(2);
--   r = 1;
use_of_a_dropped_one : shows (numbers_to 3)
    (declares (makes f.Vector (head_at here (callees.Row sequence.VECTOR_CONSTRUCTOR_LIST) None) (operands_from (int 1 ∷ []))) ∷
    declares (binds_reference (head_at here (callees.Row sequence.VECTOR_BACK) (Some 0)) (operands_from [])) ∷
    does (evaluates (member sequence.VECTOR_PUSH_BACK 0 (int 2 ∷ []))) ∷ does (assigns (reference 0 here 0 parts.Whole) (int 1)) ∷ [])
    [] [] ≡ false
unfolding shows
use_of_a_dropped_one = refl

-- the same where it is read
--   std::vector<int> v = {1};
--   int& r = v.back();
--   v.push_back(2);
--   int x = r;
read_of_a_dropped_one : shows (numbers_to 3)
    (declares (makes f.Vector (head_at here (callees.Row sequence.VECTOR_CONSTRUCTOR_LIST) None) (operands_from (int 1 ∷ []))) ∷
    declares (binds_reference (head_at here (callees.Row sequence.VECTOR_BACK) (Some 0)) (operands_from [])) ∷
    does (evaluates (member sequence.VECTOR_PUSH_BACK 0 (int 2 ∷ []))) ∷
    declares (set_scalar t.Int (held (reference 0 here 0 parts.Whole))) ∷ [])
    [] [] ≡ false
unfolding shows
read_of_a_dropped_one = refl

-- `bind_reference` needs what reading the element needs
--   std::vector<int> v;
--   int& r = v.back();
bound_without_need : shows (numbers_to 1)
    (declares (makes f.Vector (head_at here (callees.Row sequence.VECTOR_CONSTRUCTOR) None) (operands_from [])) ∷
    declares (binds_reference (head_at here (callees.Row sequence.VECTOR_BACK) (Some 0)) (operands_from [])) ∷ [])
    [] [] ≡ false
unfolding shows
bound_without_need = refl
