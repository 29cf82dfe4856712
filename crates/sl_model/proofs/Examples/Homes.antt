-- Copies of functions by where the homes of iterator arguments are found.
use Rattle.sl_base.specs.declared.form.Form.TheVariants as f
use Rattle.sl_base.specs.declared.scalar.Scalar.TheVariants as t
use Rattle.sl_model.proofs.Examples.FactsShort.{algorithm, braces, differ, function_of, head_at, here, int, main_of, member, numbers_to, star}
use Rattle.sl_model.proofs.Examples.FactsShort.{text_of, up, value_of}
use Rattle.sl_model.specs.Outlines.Homes.{Copy, Pattern, added, at_container, at_iterator, at_none, copies_after}
use Rattle.sl_specs.specs.declared.rows.algorithms.TheConstants as algorithms
use Rattle.sl_specs.specs.declared.rows.sequences.TheConstants as sequence
use Rattle.sl_syntax.specs.Typed.{Typed, assigns, container, declares, does, evaluates, gives_back, held, iterator, makes, moves_to, operands_from}
use Rattle.sl_syntax.specs.Typed.{own_call, scalar, set_iterator, set_scalar, test, updates, while}
use Rattle.sl_syntax.specs.declared.operator.Access.TheVariants as access
use Rattle.sl_syntax.specs.declared.operator.Arithmetic.TheVariants as o
use Rattle.sl_syntax.specs.declared.typed.callee.Callee.TheVariants as callees
use Rattle.sl_syntax.specs.declared.typed.parameter.ParameterKind.TheVariants as parameter
use Rattle.std.specs.Prelude.{None, Some, [], false, negsuc, refl, ℕ, ◌∷◌, ◌≡◌}

-- a function with a pattern
abbrev pair : ℕ → Pattern → Copy
pair f pattern = record { function = f; pattern = pattern }

-- no container is handed over: the home is that of the first iterator
--   int sum(std::vector<int>::iterator f, std::vector<int>::iterator l) {
--     int s = 0;
--     while (f != l) {
--       s += *f;
--       ++f;
--     }
--     return s;
--   }
--   int main() {
--     std::vector<int> v = {1, 2, 3};
--     int t = sum(v.begin(), v.end());
--   }
abbrev adding : Typed
adding = text_of (negsuc 0 ∷ numbers_to 4) 1 (
    function_of (parameter.Iterator false f.Vector ∷ parameter.Iterator false f.Vector ∷ []) (Some (parameter.Value t.Int))
    (declares (set_scalar t.Int (int 0)) ∷
    while 0 (test (differ (iterator 0) (iterator 1))) (braces (does (updates o.Add t.Int t.Int here (scalar 0 here) (held (star (iterator 0))))
    ∷ does (evaluates (up 0)) ∷ [])) ∷
    gives_back (Some (value_of 0)) ∷ []) ∷
    main_of
    (declares (makes f.Vector (head_at here (callees.Row sequence.VECTOR_CONSTRUCTOR_LIST) None) (operands_from (int 1 ∷ int 2 ∷ int 3 ∷ []))) ∷
    declares (set_scalar t.Int (own_call 0 here (operands_from (member sequence.VECTOR_BEGIN 0 [] ∷ member sequence.VECTOR_END 0 [] ∷ [])))) ∷
    []) ∷
    [])

adding_copies : copies_after 1 adding ≡
    pair 1 [] ∷ pair 0 (at_iterator 0 ∷ at_iterator 0 ∷ []) ∷ []
unfolding copies_after
adding_copies = refl

-- one container parameter is added for both
adding_adds_one : added (at_iterator 0 ∷ at_iterator 0 ∷ []) ≡ 0 ∷ []
adding_adds_one = refl

-- two calls that find the home at different arguments: two copies
--   void put(std::vector<int>& a, std::vector<int>& b, std::vector<int>::iterator j) {
--     *j = 1;
--   }
--   int main() {
--     std::vector<int> v = {1};
--     std::vector<int> w = {1};
--     put(v, w, v.begin());
--     auto it = w.begin();
--     put(v, w, std::next(it));
--     put(w, v, it);
--   }
abbrev choosing : Typed
choosing = text_of (numbers_to 2) 1 (
    function_of (parameter.Container access.Whole f.Vector ∷ parameter.Container access.Whole f.Vector ∷ parameter.Iterator false f.Vector ∷ []) None
    (does (assigns (star (iterator 0)) (int 1)) ∷ []) ∷
    main_of
    (declares (makes f.Vector (head_at here (callees.Row sequence.VECTOR_CONSTRUCTOR_LIST) None) (operands_from (int 1 ∷ []))) ∷
    declares (makes f.Vector (head_at here (callees.Row sequence.VECTOR_CONSTRUCTOR_LIST) None) (operands_from (int 1 ∷ []))) ∷
    does (evaluates (own_call 0 here (operands_from (container 0 ∷ container 1 ∷ member sequence.VECTOR_BEGIN 0 [] ∷ [])))) ∷
    declares (set_iterator (member sequence.VECTOR_BEGIN 1 [])) ∷
    does (evaluates (own_call 0 here (operands_from (container 0 ∷ container 1 ∷ algorithm algorithms.STD_NEXT (iterator 0 ∷ []) ∷ [])))) ∷
    does (evaluates (own_call 0 here (operands_from (container 1 ∷ container 0 ∷ iterator 0 ∷ [])))) ∷ []) ∷
    [])

-- the third call is one of the first copy
choosing_copies : copies_after 1 choosing ≡
    pair 1 [] ∷ pair 0 (at_container 0 ∷ []) ∷ pair 0 (at_container 1 ∷ []) ∷ []
unfolding copies_after
choosing_copies = refl

-- an iterator that comes from two containers has no home
--   void put(std::vector<int>::iterator j) {
--   }
--   int main() {
--     std::vector<int> v = {1};
--     auto it = v.begin();
--     auto jt = it;
--     {
--       std::vector<int> w = {1};
--       it = w.begin();
--       put(w.end());
--     }
--     put(jt);
--   }
abbrev losing : Typed
losing = text_of (numbers_to 2) 1 (
    function_of (parameter.Iterator false f.Vector ∷ []) None
    [] ∷
    main_of
    (declares (makes f.Vector (head_at here (callees.Row sequence.VECTOR_CONSTRUCTOR_LIST) None) (operands_from (int 1 ∷ []))) ∷
    declares (set_iterator (member sequence.VECTOR_BEGIN 0 [])) ∷ declares (set_iterator (iterator 0)) ∷
    braces (declares (makes f.Vector (head_at here (callees.Row sequence.VECTOR_CONSTRUCTOR_LIST) None) (operands_from (int 1 ∷ []))) ∷ does
    (moves_to 0 (member sequence.VECTOR_BEGIN 1 [])) ∷ does (evaluates (own_call 0 here (operands_from (member sequence.VECTOR_END 1 [] ∷ []))))
    ∷ []) ∷
    does (evaluates (own_call 0 here (operands_from (iterator 1 ∷ [])))) ∷ []) ∷
    [])

-- `jt` takes what comes to `it`
losing_copies : copies_after 1 losing ≡
    pair 1 [] ∷ pair 0 (at_iterator 0 ∷ []) ∷ pair 0 (at_none ∷ []) ∷ []
unfolding copies_after
losing_copies = refl

-- nor has one that comes from a container that isn't in scope any more
--   std::vector<int>::iterator nothing() {
--     std::vector<int> w = {1};
--     return w.begin();
--   }
--   void put(std::vector<int>::iterator j) {
--   }
--   int main() {
--     auto it = nothing();
--     {
--       std::vector<int> w = {1};
--       it = w.begin();
--       put(it);
--     }
--     put(it);
--   }
abbrev ending : Typed
ending = text_of (numbers_to 2) 2 (
    function_of [] (Some (parameter.Iterator false f.Vector))
    (declares (makes f.Vector (head_at here (callees.Row sequence.VECTOR_CONSTRUCTOR_LIST) None) (operands_from (int 1 ∷ []))) ∷
    gives_back (Some (member sequence.VECTOR_BEGIN 0 [])) ∷ []) ∷
    function_of (parameter.Iterator false f.Vector ∷ []) None
    [] ∷
    main_of
    (declares (set_iterator (own_call 0 here (operands_from []))) ∷
    braces (declares (makes f.Vector (head_at here (callees.Row sequence.VECTOR_CONSTRUCTOR_LIST) None) (operands_from (int 1 ∷ []))) ∷ does
    (moves_to 0 (member sequence.VECTOR_BEGIN 0 [])) ∷ does (evaluates (own_call 1 here (operands_from (iterator 0 ∷ [])))) ∷ []) ∷
    does (evaluates (own_call 1 here (operands_from (iterator 0 ∷ [])))) ∷ []) ∷
    [])

ending_copies : copies_after 1 ending ≡
    pair 2 [] ∷ pair 0 [] ∷ pair 1 (at_iterator 0 ∷ []) ∷ pair 1 (at_none ∷ []) ∷ []
unfolding copies_after
ending_copies = refl

-- in a copy an iterator parameter comes from the container that is added for it, and hands that on
--   void inner(std::vector<int>::iterator j, std::vector<int>::iterator k) {
--   }
--   void outer(std::vector<int>& v, std::vector<int>::iterator j, std::vector<int>::iterator k) {
--     j = std::next(j);
--     inner(k, j);
--     inner(v.begin(), j);
--   }
--   int main() {
--     std::vector<int> v = {1};
--     std::vector<int> w = {1};
--     outer(v, w.begin(), v.begin());
--   }
abbrev handing_on : Typed
handing_on = text_of (numbers_to 2) 2 (
    function_of (parameter.Iterator false f.Vector ∷ parameter.Iterator false f.Vector ∷ []) None
    [] ∷
    function_of (parameter.Container access.Whole f.Vector ∷ parameter.Iterator false f.Vector ∷ parameter.Iterator false f.Vector ∷ []) None
    (does (moves_to 0 (algorithm algorithms.STD_NEXT (iterator 0 ∷ []))) ∷
    does (evaluates (own_call 0 here (operands_from (iterator 1 ∷ iterator 0 ∷ [])))) ∷
    does (evaluates (own_call 0 here (operands_from (member sequence.VECTOR_BEGIN 0 [] ∷ iterator 0 ∷ [])))) ∷ []) ∷
    main_of
    (declares (makes f.Vector (head_at here (callees.Row sequence.VECTOR_CONSTRUCTOR_LIST) None) (operands_from (int 1 ∷ []))) ∷
    declares (makes f.Vector (head_at here (callees.Row sequence.VECTOR_CONSTRUCTOR_LIST) None) (operands_from (int 1 ∷ []))) ∷
    does (evaluates (own_call 1 here (operands_from (container 0 ∷ member sequence.VECTOR_BEGIN 1 [] ∷ member sequence.VECTOR_BEGIN 0 [] ∷
    [])))) ∷
    []) ∷
    [])

handing_on_copies : copies_after 2 handing_on ≡
    pair 2 [] ∷ pair 1 (at_iterator 0 ∷ at_container 0 ∷ []) ∷ pair 0 (at_iterator 0 ∷ at_iterator 1 ∷ []) ∷ []
unfolding copies_after
handing_on_copies = refl

-- what a function gives back comes from its iterators and from its containers of that form
--   std::vector<int>::iterator first(std::vector<int>& v, std::list<int>& l) {
--     return v.begin();
--   }
--   void put(std::vector<int>& v, std::vector<int>::iterator j) {
--     put(v, j);
--   }
--   int main() {
--     std::vector<int> v = {1};
--     std::list<int> l;
--     auto it = first(v, l);
--     put(v, it);
--   }
abbrev giving_back : Typed
giving_back = text_of (numbers_to 2) 2 (
    function_of (parameter.Container access.Whole f.Vector ∷ parameter.Container access.Whole f.List ∷ []) (Some (parameter.Iterator false f.Vector))
    (gives_back (Some (member sequence.VECTOR_BEGIN 0 [])) ∷ []) ∷
    function_of (parameter.Container access.Whole f.Vector ∷ parameter.Iterator false f.Vector ∷ []) None
    (does (evaluates (own_call 1 here (operands_from (container 0 ∷ iterator 0 ∷ [])))) ∷ []) ∷
    main_of
    (declares (makes f.Vector (head_at here (callees.Row sequence.VECTOR_CONSTRUCTOR_LIST) None) (operands_from (int 1 ∷ []))) ∷
    declares (makes f.List (head_at here (callees.Row sequence.LIST_CONSTRUCTOR) None) (operands_from [])) ∷
    declares (set_iterator (own_call 0 here (operands_from (container 0 ∷ container 1 ∷ [])))) ∷
    does (evaluates (own_call 1 here (operands_from (container 0 ∷ iterator 0 ∷ [])))) ∷ []) ∷
    [])

-- a call of itself finds the home at the same argument
giving_back_copies : copies_after 3 giving_back ≡
    pair 2 [] ∷ pair 0 [] ∷ pair 1 (at_container 0 ∷ []) ∷ []
unfolding copies_after
giving_back_copies = refl
