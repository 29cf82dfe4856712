-- Rules without what they need: a text with one of these has no outline.
use Rattle.sl_base.specs.declared.form.Form.TheVariants as f
use Rattle.sl_base.specs.declared.scalar.Scalar.TheVariants as t
use Rattle.sl_model.proofs.Examples.FactsShort.{algorithm, differ, down, head_at, here, int, member, member_element, numbers_to, shows, size_number}
use Rattle.sl_model.proofs.Examples.FactsShort.{star, up, up_size, value_of}
use Rattle.sl_specs.specs.declared.rows.algorithms.TheConstants as algorithms
use Rattle.sl_specs.specs.declared.rows.sequences.TheConstants as sequence
use Rattle.sl_syntax.specs.Typed.{choice, declares, does, evaluates, gives_back, held, iterator, makes, moves_to, operands_from, set_iterator}
use Rattle.sl_syntax.specs.Typed.{set_scalar, test}
use Rattle.sl_syntax.specs.declared.typed.callee.Callee.TheVariants as callees
use Rattle.std.specs.Prelude.{None, Some, [], false, negsuc, refl, ◌∷◌, ◌≡◌}

-- `step_forward` without a fact that it is before the end
--   std::vector<int> v;
--   auto it = v.begin();
--   ++it;
step_past_the_end : shows (numbers_to 1)
    (declares (makes f.Vector (head_at here (callees.Row sequence.VECTOR_CONSTRUCTOR) None) (operands_from [])) ∷
    declares (set_iterator (member sequence.VECTOR_BEGIN 0 [])) ∷ does (evaluates (up 0)) ∷ [])
    [] [] ≡ false
unfolding shows
step_past_the_end = refl

-- `step_back` without a fact that it is behind the beginning
--   std::vector<int> v;
--   auto it = v.end();
--   --it;
step_before_the_beginning : shows (numbers_to 1)
    (declares (makes f.Vector (head_at here (callees.Row sequence.VECTOR_CONSTRUCTOR) None) (operands_from [])) ∷
    declares (set_iterator (member sequence.VECTOR_END 0 [])) ∷ does (evaluates (down 0)) ∷ [])
    [] [] ≡ false
unfolding shows
step_before_the_beginning = refl

-- `access` without a fact that it is before the end
--   std::vector<int> v;
--   auto it = v.begin();
--   int x = *it;
read_at_the_end : shows (numbers_to 1)
    (declares (makes f.Vector (head_at here (callees.Row sequence.VECTOR_CONSTRUCTOR) None) (operands_from [])) ∷
    declares (set_iterator (member sequence.VECTOR_BEGIN 0 [])) ∷ declares (set_scalar t.Int (held (star (iterator 0)))) ∷ [])
    [] [] ≡ false
unfolding shows
read_at_the_end = refl

-- `test_not_end` of an iterator that isn't inside
--   std::vector<int> v;
--   auto it = v.begin();
--   v.push_back(1);
--   if (it != v.end()) return 0;
test_of_a_dropped_one : shows (negsuc 0 ∷ numbers_to 2)
    (declares (makes f.Vector (head_at here (callees.Row sequence.VECTOR_CONSTRUCTOR) None) (operands_from [])) ∷
    declares (set_iterator (member sequence.VECTOR_BEGIN 0 [])) ∷ does (evaluates (member sequence.VECTOR_PUSH_BACK 0 (int 1 ∷ []))) ∷
    choice (test (differ (iterator 0) (member sequence.VECTOR_END 0 []))) (gives_back (Some (int 0))) ∷ [])
    [] [] ≡ false
unfolding shows
test_of_a_dropped_one = refl

-- `erase_at` without a fact that it is before the end
--   std::vector<int> v;
--   auto it = v.begin();
--   it = v.erase(it);
erase_at_the_end : shows (numbers_to 1)
    (declares (makes f.Vector (head_at here (callees.Row sequence.VECTOR_CONSTRUCTOR) None) (operands_from [])) ∷
    declares (set_iterator (member sequence.VECTOR_BEGIN 0 [])) ∷ does (moves_to 0 (member sequence.VECTOR_ERASE 0 (iterator 0 ∷ []))) ∷ [])
    [] [] ≡ false
unfolding shows
erase_at_the_end = refl

-- `insert_at` with an iterator of another vector
--   std::vector<int> v;
--   std::vector<int> w;
--   auto it = w.begin();
--   it = v.insert(it, 1);
insert_elsewhere : shows (numbers_to 2)
    (declares (makes f.Vector (head_at here (callees.Row sequence.VECTOR_CONSTRUCTOR) None) (operands_from [])) ∷
    declares (makes f.Vector (head_at here (callees.Row sequence.VECTOR_CONSTRUCTOR) None) (operands_from [])) ∷
    declares (set_iterator (member sequence.VECTOR_BEGIN 1 [])) ∷
    does (moves_to 0 (member sequence.VECTOR_INSERT 0 (iterator 0 ∷ int 1 ∷ []))) ∷ [])
    [] [] ≡ false
unfolding shows
insert_elsewhere = refl

-- `pop` without a fact that there is an element
--   std::vector<int> v;
--   v.pop_back();
pop_of_an_empty_one : shows (numbers_to 1)
    (declares (makes f.Vector (head_at here (callees.Row sequence.VECTOR_CONSTRUCTOR) None) (operands_from [])) ∷
    does (evaluates (member sequence.VECTOR_POP_BACK 0 [])) ∷ [])
    [] [] ≡ false
unfolding shows
pop_of_an_empty_one = refl

-- `front_or_back` without
--   std::vector<int> v;
--   int x = v.front();
front_of_an_empty_one : shows (numbers_to 1)
    (declares (makes f.Vector (head_at here (callees.Row sequence.VECTOR_CONSTRUCTOR) None) (operands_from [])) ∷
    declares (set_scalar t.Int (held (member_element sequence.VECTOR_FRONT 0 []))) ∷ [])
    [] [] ≡ false
unfolding shows
front_of_an_empty_one = refl

-- `index` by a scalar that is at most the size
--   std::vector<int> v;
--   std::size_t i = 0;
--   int x = v[i];
index_at_the_size : shows (negsuc 0 ∷ numbers_to 1)
    (declares (makes f.Vector (head_at here (callees.Row sequence.VECTOR_CONSTRUCTOR) None) (operands_from [])) ∷
    declares (set_scalar t.Size (size_number 0)) ∷
    declares (set_scalar t.Int (held (member_element sequence.VECTOR_SUBSCRIPT 0 (value_of 0 ∷ [])))) ∷ [])
    [] [] ≡ false
unfolding shows
index_at_the_size = refl

-- `index` by a literal: the size is to be at least 3
--   std::vector<int> v = {1, 2};
--   int x = v[2];
index_by_a_literal : shows (numbers_to 3)
    (declares (makes f.Vector (head_at here (callees.Row sequence.VECTOR_CONSTRUCTOR_LIST) None) (operands_from (int 1 ∷ int 2 ∷ []))) ∷
    declares (set_scalar t.Int (held (member_element sequence.VECTOR_SUBSCRIPT 0 (size_number 2 ∷ [])))) ∷ [])
    [] [] ≡ false
unfolding shows
index_by_a_literal = refl

-- `index` by a fresh variable, which has no fact with a size
--   std::vector<int> v = {1, 2};
--   std::size_t i = 0;
--   int x = v[++i];
index_by_a_step : shows (negsuc 0 ∷ numbers_to 3)
    (declares (makes f.Vector (head_at here (callees.Row sequence.VECTOR_CONSTRUCTOR_LIST) None) (operands_from (int 1 ∷ int 2 ∷ []))) ∷
    declares (set_scalar t.Size (size_number 0)) ∷
    declares (set_scalar t.Int (held (member_element sequence.VECTOR_SUBSCRIPT 0 (up_size 0 ∷ [])))) ∷ [])
    [] [] ≡ false
unfolding shows
index_by_a_step = refl

-- `scan` with an iterator of another vector
--   std::vector<int> v;
--   std::vector<int> w;
--   auto it = w.begin();
--   auto m = std::find(it, v.end(), 1);
scan_of_another : shows (numbers_to 2)
    (declares (makes f.Vector (head_at here (callees.Row sequence.VECTOR_CONSTRUCTOR) None) (operands_from [])) ∷
    declares (makes f.Vector (head_at here (callees.Row sequence.VECTOR_CONSTRUCTOR) None) (operands_from [])) ∷
    declares (set_iterator (member sequence.VECTOR_BEGIN 1 [])) ∷
    declares (set_iterator (algorithm algorithms.STD_FIND (iterator 0 ∷ member sequence.VECTOR_END 0 [] ∷ int 1 ∷ []))) ∷ [])
    [] [] ≡ false
unfolding shows
scan_of_another = refl
