-- `std::back_inserter` where it stands, and where it may.
-- Each is made of a text and of what is due for it by tools/typing_goal.py.
use Rattle.sl_base.specs.declared.scalar.Scalar.TheVariants as t
use Rattle.sl_base.specs.declared.form.Form.TheVariants as f
use Rattle.sl_syntax.specs.declared.tree.function.Param.TheVariants as parameter
use Rattle.sl_syntax.specs.declared.tree.function.ResultType.TheVariants as result
use Rattle.sl_typing.specs.declared.rules.TheConstants as rule
use Rattle.std.specs.Prelude.{◌≡◌, refl, true, [], ◌∷◌, Some}
use Rattle.sl_syntax.specs.Tree.{number, name, call, library_call, parentheses, member_call, none, braces, declares_scalar, declares_auto}
use Rattle.sl_syntax.specs.Tree.{declares_container, value, prints, evaluates, tests, choice_else, gives_back, does, declares, states}
use Rattle.sl_syntax.specs.Tree.{Program}
use Rattle.sl_typing.specs.ProgramFaults.{program_faults}
use Rattle.sl_typing.specs.Typing.{FirstBroken}
use Rattle.sl_typing.proofs.Examples.Words.{at, id, all, items, container_type, function, main_alone, fault}

-- appender alone
-- int main() {
--   std::list<int> l = {1, 2};
--   std::back_inserter(l);
-- }
abbrev pub appender_alone : Program
appender_alone = main_alone (
    declares
    (declares_container (container_type (at 2 3) f.List) (id "l" 2 18) (braces true (all (number (at 2 23) 1 ∷ number (at 2 26) 2 ∷ [])))) ∷
    states (does (at 3 3) (evaluates (library_call (id "back_inserter" 3 3) (all (name (id "l" 3 22) ∷ []))))) ∷
    []) (at 4 1)

appender_alone_breaks : FirstBroken appender_alone (fault (at 3 3) rule.APPENDER)
unfolding program_faults
appender_alone_breaks = refl

-- appender as an argument
-- int number(int a) {
--   return a;
-- }
-- int main() {
--   std::vector<int> v = {1, 2};
--   number(std::back_inserter(v));
-- }
abbrev pub appender_as_an_argument : Program
appender_as_an_argument =
    function (at 1 1) (result.Scalar t.Int) (id "number" 1 5) (parameter.Value (at 1 12) t.Int (id "a" 1 16) ∷ []) (at 1 19)
    (items (states (gives_back (at 2 3) (Some (name (id "a" 2 10)))) ∷ [])) (at 3 1) ∷
    function (at 4 1) (result.Scalar t.Int) (id "main" 4 5) [] (at 4 12) (items (
    declares (declares_container (container_type (at 5 3) f.Vector) (id "v" 5 20)
    (braces true (all (number (at 5 25) 1 ∷ number (at 5 28) 2 ∷ [])))) ∷
    states (does (at 6 3)
    (evaluates (call (id "number" 6 3) (all (library_call (id "back_inserter" 6 10) (all (name (id "v" 6 29) ∷ [])) ∷ []))))) ∷
    [])) (at 7 1) ∷
    []

appender_as_an_argument_breaks : FirstBroken appender_as_an_argument (fault (at 6 10) rule.APPENDER)
unfolding program_faults
appender_as_an_argument_breaks = refl

-- appender as the begin of a range
-- int main() {
--   int x = 1;
--   std::vector<int> v = {1, 2};
--   std::count(std::back_inserter(v), v.end(), x);
-- }
abbrev pub appender_as_the_begin_of_a_range : Program
appender_as_the_begin_of_a_range = main_alone (
    declares (declares_scalar (at 2 3) t.Int (id "x" 2 7) (Some (number (at 2 11) 1))) ∷
    declares (declares_container (container_type (at 3 3) f.Vector) (id "v" 3 20)
    (braces true (all (number (at 3 25) 1 ∷ number (at 3 28) 2 ∷ [])))) ∷
    states (does (at 4 3) (evaluates (library_call (id "count" 4 3) (all (
    library_call (id "back_inserter" 4 14) (all (name (id "v" 4 33) ∷ [])) ∷
    member_call (name (id "v" 4 37)) (id "end" 4 39) none ∷
    name (id "x" 4 46) ∷
    []))))) ∷
    []) (at 5 1)

appender_as_the_begin_of_a_range_breaks : FirstBroken appender_as_the_begin_of_a_range (fault (at 4 14) rule.APPENDER)
unfolding program_faults
appender_as_the_begin_of_a_range_breaks = refl

-- appender in parentheses
-- int main() {
--   std::vector<int> v = {1, 2};
--   std::copy(v.begin(), v.end(), (std::back_inserter(v)));
-- }
abbrev pub appender_in_parentheses : Program
appender_in_parentheses = main_alone (
    declares (declares_container (container_type (at 2 3) f.Vector) (id "v" 2 20)
    (braces true (all (number (at 2 25) 1 ∷ number (at 2 28) 2 ∷ [])))) ∷
    states (does (at 3 3) (evaluates (library_call (id "copy" 3 3) (all (
    member_call (name (id "v" 3 13)) (id "begin" 3 15) none ∷
    member_call (name (id "v" 3 24)) (id "end" 3 26) none ∷
    parentheses (at 3 33) (library_call (id "back_inserter" 3 34) (all (name (id "v" 3 53) ∷ []))) ∷
    []))))) ∷
    []) (at 4 1)

appender_in_parentheses_breaks : FirstBroken appender_in_parentheses (fault (at 3 34) rule.APPENDER)
unfolding program_faults
appender_in_parentheses_breaks = refl

-- appender alone of a container in parentheses
-- int main() {
--   std::vector<int> v = {1, 2};
--   std::back_inserter((v));
-- }
abbrev pub appender_alone_of_a_container_in_parentheses : Program
appender_alone_of_a_container_in_parentheses = main_alone (
    declares (declares_container (container_type (at 2 3) f.Vector) (id "v" 2 20)
    (braces true (all (number (at 2 25) 1 ∷ number (at 2 28) 2 ∷ [])))) ∷
    states (does (at 3 3) (evaluates (library_call (id "back_inserter" 3 3) (all (parentheses (at 3 22) (name (id "v" 3 23)) ∷ []))))) ∷
    []) (at 4 1)

appender_alone_of_a_container_in_parentheses_breaks : FirstBroken appender_alone_of_a_container_in_parentheses
    (fault (at 3 3) rule.APPENDER)
unfolding program_faults
appender_alone_of_a_container_in_parentheses_breaks = refl

-- printed appender
-- int main() {
--   int x = 1;
--   std::vector<int> v = {1, 2};
--   std::cout << std::back_inserter(v) << x;
-- }
abbrev pub printed_appender : Program
printed_appender = main_alone (
    declares (declares_scalar (at 2 3) t.Int (id "x" 2 7) (Some (number (at 2 11) 1))) ∷
    declares (declares_container (container_type (at 3 3) f.Vector) (id "v" 3 20)
    (braces true (all (number (at 3 25) 1 ∷ number (at 3 28) 2 ∷ [])))) ∷
    states (does (at 4 3)
    (prints (at 4 3) (value (library_call (id "back_inserter" 4 16) (all (name (id "v" 4 35) ∷ []))) ∷ value (name (id "x" 4 41)) ∷ []))) ∷
    []) (at 5 1)

printed_appender_breaks : FirstBroken printed_appender (fault (at 4 16) rule.APPENDER)
unfolding program_faults
printed_appender_breaks = refl

-- appender before a condition that is a vector
-- void nothing() {
-- }
-- int main() {
--   std::vector<int> v = {1, 2};
--   if (v) std::back_inserter(v); else nothing();
-- }
abbrev pub appender_before_a_condition_that_is_a_vector : Program
appender_before_a_condition_that_is_a_vector =
    function (at 1 1) result.Void (id "nothing" 1 6) [] (at 1 16) (items []) (at 2 1) ∷
    function (at 3 1) (result.Scalar t.Int) (id "main" 3 5) [] (at 3 12) (items (
    declares (declares_container (container_type (at 4 3) f.Vector) (id "v" 4 20)
    (braces true (all (number (at 4 25) 1 ∷ number (at 4 28) 2 ∷ [])))) ∷
    states (choice_else (at 5 3) (tests (name (id "v" 5 7)))
    (does (at 5 10) (evaluates (library_call (id "back_inserter" 5 10) (all (name (id "v" 5 29) ∷ [])))))
    (does (at 5 38) (evaluates (call (id "nothing" 5 38) none)))) ∷
    [])) (at 6 1) ∷
    []

appender_before_a_condition_that_is_a_vector_breaks : FirstBroken appender_before_a_condition_that_is_a_vector
    (fault (at 5 10) rule.APPENDER)
unfolding program_faults
appender_before_a_condition_that_is_a_vector_breaks = refl

-- appender before its auto
-- int main() {
--   std::vector<int> v = {1, 2};
--   auto g = std::back_inserter(v);
-- }
abbrev pub appender_before_its_auto : Program
appender_before_its_auto = main_alone (
    declares (declares_container (container_type (at 2 3) f.Vector) (id "v" 2 20)
    (braces true (all (number (at 2 25) 1 ∷ number (at 2 28) 2 ∷ [])))) ∷
    declares (declares_auto (at 3 3) (id "g" 3 8) (library_call (id "back_inserter" 3 12) (all (name (id "v" 3 31) ∷ [])))) ∷
    []) (at 4 1)

appender_before_its_auto_breaks : FirstBroken appender_before_its_auto (fault (at 3 12) rule.APPENDER)
unfolding program_faults
appender_before_its_auto_breaks = refl

-- copy to an appender
-- int main() {
--   std::vector<int> v = {1, 2};
--   std::copy(v.begin(), v.end(), std::back_inserter(v));
-- }
abbrev pub copy_to_an_appender : Program
copy_to_an_appender = main_alone (
    declares (declares_container (container_type (at 2 3) f.Vector) (id "v" 2 20)
    (braces true (all (number (at 2 25) 1 ∷ number (at 2 28) 2 ∷ [])))) ∷
    states (does (at 3 3) (evaluates (library_call (id "copy" 3 3) (all (
    member_call (name (id "v" 3 13)) (id "begin" 3 15) none ∷
    member_call (name (id "v" 3 24)) (id "end" 3 26) none ∷
    library_call (id "back_inserter" 3 33) (all (name (id "v" 3 52) ∷ [])) ∷
    []))))) ∷
    []) (at 4 1)

copy_to_an_appender_breaks_none : program_faults copy_to_an_appender ≡ []
unfolding program_faults
copy_to_an_appender_breaks_none = refl

-- appender of a container in parentheses
-- int main() {
--   std::vector<int> v = {1, 2};
--   std::copy(v.begin(), v.end(), std::back_inserter((v)));
-- }
abbrev pub appender_of_a_container_in_parentheses : Program
appender_of_a_container_in_parentheses = main_alone (
    declares (declares_container (container_type (at 2 3) f.Vector) (id "v" 2 20)
    (braces true (all (number (at 2 25) 1 ∷ number (at 2 28) 2 ∷ [])))) ∷
    states (does (at 3 3) (evaluates (library_call (id "copy" 3 3) (all (
    member_call (name (id "v" 3 13)) (id "begin" 3 15) none ∷
    member_call (name (id "v" 3 24)) (id "end" 3 26) none ∷
    library_call (id "back_inserter" 3 33) (all (parentheses (at 3 52) (name (id "v" 3 53)) ∷ [])) ∷
    []))))) ∷
    []) (at 4 1)

appender_of_a_container_in_parentheses_breaks_none : program_faults appender_of_a_container_in_parentheses ≡ []
unfolding program_faults
appender_of_a_container_in_parentheses_breaks_none = refl

-- union to an appender
-- int main() {
--   std::vector<int> v = {1, 2};
--   std::list<int> l = {1, 2};
--   std::set_union(v.begin(), v.end(), l.begin(), l.end(), std::back_inserter(l));
-- }
abbrev pub union_to_an_appender : Program
union_to_an_appender = main_alone (
    declares (declares_container (container_type (at 2 3) f.Vector) (id "v" 2 20)
    (braces true (all (number (at 2 25) 1 ∷ number (at 2 28) 2 ∷ [])))) ∷
    declares
    (declares_container (container_type (at 3 3) f.List) (id "l" 3 18) (braces true (all (number (at 3 23) 1 ∷ number (at 3 26) 2 ∷ [])))) ∷
    states (does (at 4 3) (evaluates (library_call (id "set_union" 4 3) (all (
    member_call (name (id "v" 4 18)) (id "begin" 4 20) none ∷
    member_call (name (id "v" 4 29)) (id "end" 4 31) none ∷
    member_call (name (id "l" 4 38)) (id "begin" 4 40) none ∷
    member_call (name (id "l" 4 49)) (id "end" 4 51) none ∷
    library_call (id "back_inserter" 4 58) (all (name (id "l" 4 77) ∷ [])) ∷
    []))))) ∷
    []) (at 5 1)

union_to_an_appender_breaks_none : program_faults union_to_an_appender ≡ []
unfolding program_faults
union_to_an_appender_breaks_none = refl
