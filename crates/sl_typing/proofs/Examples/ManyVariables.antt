-- As many variables as may be in scope, and one more.
-- Each is made of a text and of what is due for it by tools/typing_goal.py.
use Rattle.sl_base.specs.declared.form.Form.TheVariants as f
use Rattle.sl_syntax.specs.declared.operator.Assignment.TheVariants as assignment
use Rattle.sl_syntax.specs.declared.tree.element.Element.TheVariants as element
use Rattle.sl_syntax.specs.declared.tree.element.ElementType.TheVariants as type
use Rattle.sl_typing.specs.declared.rules.TheConstants as rule
use Rattle.std.specs.Prelude.{◌≡◌, refl, [], ◌∷◌}
use Rattle.sl_syntax.specs.Tree.{number, name, member_call, none, absent, declares_auto, declares_container, assigns, block, range_for}
use Rattle.sl_syntax.specs.Tree.{does, declares, states, Program}
use Rattle.sl_typing.specs.ProgramFaults.{program_faults}
use Rattle.sl_typing.specs.Typing.{FirstBroken}
use Rattle.sl_typing.proofs.Examples.Words.{at, id, items, container_type, main_alone, fault}

-- seventeen containers
-- int main() {
--   std::list<int> v0;
--   std::list<int> v1;
--   std::list<int> v2;
--   std::list<int> v3;
--   std::list<int> v4;
--   std::list<int> v5;
--   std::list<int> v6;
--   std::list<int> v7;
--   std::list<int> v8;
--   std::list<int> v9;
--   std::list<int> v10;
--   std::list<int> v11;
--   std::list<int> v12;
--   std::list<int> v13;
--   std::list<int> v14;
--   std::list<int> v15;
--   std::list<int> v16;
-- }
abbrev pub seventeen_containers : Program
seventeen_containers = main_alone (
    declares (declares_container (container_type (at 2 3) f.List) (id "v0" 2 18) absent) ∷
    declares (declares_container (container_type (at 3 3) f.List) (id "v1" 3 18) absent) ∷
    declares (declares_container (container_type (at 4 3) f.List) (id "v2" 4 18) absent) ∷
    declares (declares_container (container_type (at 5 3) f.List) (id "v3" 5 18) absent) ∷
    declares (declares_container (container_type (at 6 3) f.List) (id "v4" 6 18) absent) ∷
    declares (declares_container (container_type (at 7 3) f.List) (id "v5" 7 18) absent) ∷
    declares (declares_container (container_type (at 8 3) f.List) (id "v6" 8 18) absent) ∷
    declares (declares_container (container_type (at 9 3) f.List) (id "v7" 9 18) absent) ∷
    declares (declares_container (container_type (at 10 3) f.List) (id "v8" 10 18) absent) ∷
    declares (declares_container (container_type (at 11 3) f.List) (id "v9" 11 18) absent) ∷
    declares (declares_container (container_type (at 12 3) f.List) (id "v10" 12 18) absent) ∷
    declares (declares_container (container_type (at 13 3) f.List) (id "v11" 13 18) absent) ∷
    declares (declares_container (container_type (at 14 3) f.List) (id "v12" 14 18) absent) ∷
    declares (declares_container (container_type (at 15 3) f.List) (id "v13" 15 18) absent) ∷
    declares (declares_container (container_type (at 16 3) f.List) (id "v14" 16 18) absent) ∷
    declares (declares_container (container_type (at 17 3) f.List) (id "v15" 17 18) absent) ∷
    declares (declares_container (container_type (at 18 3) f.List) (id "v16" 18 18) absent) ∷
    []) (at 19 1)

seventeen_containers_breaks : FirstBroken seventeen_containers (fault (at 18 18) rule.TOO_MANY_VARIABLES)
unfolding program_faults
seventeen_containers_breaks = refl

-- range for behind thirty one iterators
-- int main() {
--   std::vector<int> v;
--   auto i0 = v.begin();
--   auto i1 = v.begin();
--   auto i2 = v.begin();
--   auto i3 = v.begin();
--   auto i4 = v.begin();
--   auto i5 = v.begin();
--   auto i6 = v.begin();
--   auto i7 = v.begin();
--   auto i8 = v.begin();
--   auto i9 = v.begin();
--   auto i10 = v.begin();
--   auto i11 = v.begin();
--   auto i12 = v.begin();
--   auto i13 = v.begin();
--   auto i14 = v.begin();
--   auto i15 = v.begin();
--   auto i16 = v.begin();
--   auto i17 = v.begin();
--   auto i18 = v.begin();
--   auto i19 = v.begin();
--   auto i20 = v.begin();
--   auto i21 = v.begin();
--   auto i22 = v.begin();
--   auto i23 = v.begin();
--   auto i24 = v.begin();
--   auto i25 = v.begin();
--   auto i26 = v.begin();
--   auto i27 = v.begin();
--   auto i28 = v.begin();
--   auto i29 = v.begin();
--   auto i30 = v.begin();
--   for (int x : v) x = 1;
-- }
abbrev pub range_for_behind_thirty_one_iterators : Program
range_for_behind_thirty_one_iterators = main_alone (
    declares (declares_container (container_type (at 2 3) f.Vector) (id "v" 2 20) absent) ∷
    declares (declares_auto (at 3 3) (id "i0" 3 8) (member_call (name (id "v" 3 13)) (id "begin" 3 15) none)) ∷
    declares (declares_auto (at 4 3) (id "i1" 4 8) (member_call (name (id "v" 4 13)) (id "begin" 4 15) none)) ∷
    declares (declares_auto (at 5 3) (id "i2" 5 8) (member_call (name (id "v" 5 13)) (id "begin" 5 15) none)) ∷
    declares (declares_auto (at 6 3) (id "i3" 6 8) (member_call (name (id "v" 6 13)) (id "begin" 6 15) none)) ∷
    declares (declares_auto (at 7 3) (id "i4" 7 8) (member_call (name (id "v" 7 13)) (id "begin" 7 15) none)) ∷
    declares (declares_auto (at 8 3) (id "i5" 8 8) (member_call (name (id "v" 8 13)) (id "begin" 8 15) none)) ∷
    declares (declares_auto (at 9 3) (id "i6" 9 8) (member_call (name (id "v" 9 13)) (id "begin" 9 15) none)) ∷
    declares (declares_auto (at 10 3) (id "i7" 10 8) (member_call (name (id "v" 10 13)) (id "begin" 10 15) none)) ∷
    declares (declares_auto (at 11 3) (id "i8" 11 8) (member_call (name (id "v" 11 13)) (id "begin" 11 15) none)) ∷
    declares (declares_auto (at 12 3) (id "i9" 12 8) (member_call (name (id "v" 12 13)) (id "begin" 12 15) none)) ∷
    declares (declares_auto (at 13 3) (id "i10" 13 8) (member_call (name (id "v" 13 14)) (id "begin" 13 16) none)) ∷
    declares (declares_auto (at 14 3) (id "i11" 14 8) (member_call (name (id "v" 14 14)) (id "begin" 14 16) none)) ∷
    declares (declares_auto (at 15 3) (id "i12" 15 8) (member_call (name (id "v" 15 14)) (id "begin" 15 16) none)) ∷
    declares (declares_auto (at 16 3) (id "i13" 16 8) (member_call (name (id "v" 16 14)) (id "begin" 16 16) none)) ∷
    declares (declares_auto (at 17 3) (id "i14" 17 8) (member_call (name (id "v" 17 14)) (id "begin" 17 16) none)) ∷
    declares (declares_auto (at 18 3) (id "i15" 18 8) (member_call (name (id "v" 18 14)) (id "begin" 18 16) none)) ∷
    declares (declares_auto (at 19 3) (id "i16" 19 8) (member_call (name (id "v" 19 14)) (id "begin" 19 16) none)) ∷
    declares (declares_auto (at 20 3) (id "i17" 20 8) (member_call (name (id "v" 20 14)) (id "begin" 20 16) none)) ∷
    declares (declares_auto (at 21 3) (id "i18" 21 8) (member_call (name (id "v" 21 14)) (id "begin" 21 16) none)) ∷
    declares (declares_auto (at 22 3) (id "i19" 22 8) (member_call (name (id "v" 22 14)) (id "begin" 22 16) none)) ∷
    declares (declares_auto (at 23 3) (id "i20" 23 8) (member_call (name (id "v" 23 14)) (id "begin" 23 16) none)) ∷
    declares (declares_auto (at 24 3) (id "i21" 24 8) (member_call (name (id "v" 24 14)) (id "begin" 24 16) none)) ∷
    declares (declares_auto (at 25 3) (id "i22" 25 8) (member_call (name (id "v" 25 14)) (id "begin" 25 16) none)) ∷
    declares (declares_auto (at 26 3) (id "i23" 26 8) (member_call (name (id "v" 26 14)) (id "begin" 26 16) none)) ∷
    declares (declares_auto (at 27 3) (id "i24" 27 8) (member_call (name (id "v" 27 14)) (id "begin" 27 16) none)) ∷
    declares (declares_auto (at 28 3) (id "i25" 28 8) (member_call (name (id "v" 28 14)) (id "begin" 28 16) none)) ∷
    declares (declares_auto (at 29 3) (id "i26" 29 8) (member_call (name (id "v" 29 14)) (id "begin" 29 16) none)) ∷
    declares (declares_auto (at 30 3) (id "i27" 30 8) (member_call (name (id "v" 30 14)) (id "begin" 30 16) none)) ∷
    declares (declares_auto (at 31 3) (id "i28" 31 8) (member_call (name (id "v" 31 14)) (id "begin" 31 16) none)) ∷
    declares (declares_auto (at 32 3) (id "i29" 32 8) (member_call (name (id "v" 32 14)) (id "begin" 32 16) none)) ∷
    declares (declares_auto (at 33 3) (id "i30" 33 8) (member_call (name (id "v" 33 14)) (id "begin" 33 16) none)) ∷
    states (range_for (at 34 3) (element.Value type.Int) (id "x" 34 12) (id "v" 34 16)
    (does (at 34 19) (assigns (name (id "x" 34 19)) assignment.Set (at 34 21) (number (at 34 23) 1)))) ∷
    []) (at 35 1)

range_for_behind_thirty_one_iterators_breaks : FirstBroken range_for_behind_thirty_one_iterators (fault (at 34 3) rule.TOO_MANY_VARIABLES)
unfolding program_faults
range_for_behind_thirty_one_iterators_breaks = refl

-- seventeen containers in two blocks
-- int main() {
--   {
--     std::list<int> v0;
--     std::list<int> v1;
--     std::list<int> v2;
--     std::list<int> v3;
--     std::list<int> v4;
--     std::list<int> v5;
--     std::list<int> v6;
--     std::list<int> v7;
--     std::list<int> v8;
--   }
--   {
--     std::list<int> v0;
--     std::list<int> v1;
--     std::list<int> v2;
--     std::list<int> v3;
--     std::list<int> v4;
--     std::list<int> v5;
--     std::list<int> v6;
--     std::list<int> v7;
--     std::list<int> v8;
--     std::list<int> v9;
--     std::list<int> v10;
--     std::list<int> v11;
--     std::list<int> v12;
--     std::list<int> v13;
--     std::list<int> v14;
--     std::list<int> v15;
--   }
-- }
abbrev pub seventeen_containers_in_two_blocks : Program
seventeen_containers_in_two_blocks = main_alone (
    states (block (at 2 3) (items (
    declares (declares_container (container_type (at 3 5) f.List) (id "v0" 3 20) absent) ∷
    declares (declares_container (container_type (at 4 5) f.List) (id "v1" 4 20) absent) ∷
    declares (declares_container (container_type (at 5 5) f.List) (id "v2" 5 20) absent) ∷
    declares (declares_container (container_type (at 6 5) f.List) (id "v3" 6 20) absent) ∷
    declares (declares_container (container_type (at 7 5) f.List) (id "v4" 7 20) absent) ∷
    declares (declares_container (container_type (at 8 5) f.List) (id "v5" 8 20) absent) ∷
    declares (declares_container (container_type (at 9 5) f.List) (id "v6" 9 20) absent) ∷
    declares (declares_container (container_type (at 10 5) f.List) (id "v7" 10 20) absent) ∷
    declares (declares_container (container_type (at 11 5) f.List) (id "v8" 11 20) absent) ∷
    [])) (at 12 3)) ∷
    states (block (at 13 3) (items (
    declares (declares_container (container_type (at 14 5) f.List) (id "v0" 14 20) absent) ∷
    declares (declares_container (container_type (at 15 5) f.List) (id "v1" 15 20) absent) ∷
    declares (declares_container (container_type (at 16 5) f.List) (id "v2" 16 20) absent) ∷
    declares (declares_container (container_type (at 17 5) f.List) (id "v3" 17 20) absent) ∷
    declares (declares_container (container_type (at 18 5) f.List) (id "v4" 18 20) absent) ∷
    declares (declares_container (container_type (at 19 5) f.List) (id "v5" 19 20) absent) ∷
    declares (declares_container (container_type (at 20 5) f.List) (id "v6" 20 20) absent) ∷
    declares (declares_container (container_type (at 21 5) f.List) (id "v7" 21 20) absent) ∷
    declares (declares_container (container_type (at 22 5) f.List) (id "v8" 22 20) absent) ∷
    declares (declares_container (container_type (at 23 5) f.List) (id "v9" 23 20) absent) ∷
    declares (declares_container (container_type (at 24 5) f.List) (id "v10" 24 20) absent) ∷
    declares (declares_container (container_type (at 25 5) f.List) (id "v11" 25 20) absent) ∷
    declares (declares_container (container_type (at 26 5) f.List) (id "v12" 26 20) absent) ∷
    declares (declares_container (container_type (at 27 5) f.List) (id "v13" 27 20) absent) ∷
    declares (declares_container (container_type (at 28 5) f.List) (id "v14" 28 20) absent) ∷
    declares (declares_container (container_type (at 29 5) f.List) (id "v15" 29 20) absent) ∷
    [])) (at 30 3)) ∷
    []) (at 31 1)

seventeen_containers_in_two_blocks_breaks_none : program_faults seventeen_containers_in_two_blocks ≡ []
unfolding program_faults
seventeen_containers_in_two_blocks_breaks_none = refl

-- thirty two iterators
-- int main() {
--   std::vector<int> v;
--   auto i0 = v.begin();
--   auto i1 = v.begin();
--   auto i2 = v.begin();
--   auto i3 = v.begin();
--   auto i4 = v.begin();
--   auto i5 = v.begin();
--   auto i6 = v.begin();
--   auto i7 = v.begin();
--   auto i8 = v.begin();
--   auto i9 = v.begin();
--   auto i10 = v.begin();
--   auto i11 = v.begin();
--   auto i12 = v.begin();
--   auto i13 = v.begin();
--   auto i14 = v.begin();
--   auto i15 = v.begin();
--   auto i16 = v.begin();
--   auto i17 = v.begin();
--   auto i18 = v.begin();
--   auto i19 = v.begin();
--   auto i20 = v.begin();
--   auto i21 = v.begin();
--   auto i22 = v.begin();
--   auto i23 = v.begin();
--   auto i24 = v.begin();
--   auto i25 = v.begin();
--   auto i26 = v.begin();
--   auto i27 = v.begin();
--   auto i28 = v.begin();
--   auto i29 = v.begin();
--   auto i30 = v.begin();
--   auto i31 = v.begin();
-- }
abbrev pub thirty_two_iterators : Program
thirty_two_iterators = main_alone (
    declares (declares_container (container_type (at 2 3) f.Vector) (id "v" 2 20) absent) ∷
    declares (declares_auto (at 3 3) (id "i0" 3 8) (member_call (name (id "v" 3 13)) (id "begin" 3 15) none)) ∷
    declares (declares_auto (at 4 3) (id "i1" 4 8) (member_call (name (id "v" 4 13)) (id "begin" 4 15) none)) ∷
    declares (declares_auto (at 5 3) (id "i2" 5 8) (member_call (name (id "v" 5 13)) (id "begin" 5 15) none)) ∷
    declares (declares_auto (at 6 3) (id "i3" 6 8) (member_call (name (id "v" 6 13)) (id "begin" 6 15) none)) ∷
    declares (declares_auto (at 7 3) (id "i4" 7 8) (member_call (name (id "v" 7 13)) (id "begin" 7 15) none)) ∷
    declares (declares_auto (at 8 3) (id "i5" 8 8) (member_call (name (id "v" 8 13)) (id "begin" 8 15) none)) ∷
    declares (declares_auto (at 9 3) (id "i6" 9 8) (member_call (name (id "v" 9 13)) (id "begin" 9 15) none)) ∷
    declares (declares_auto (at 10 3) (id "i7" 10 8) (member_call (name (id "v" 10 13)) (id "begin" 10 15) none)) ∷
    declares (declares_auto (at 11 3) (id "i8" 11 8) (member_call (name (id "v" 11 13)) (id "begin" 11 15) none)) ∷
    declares (declares_auto (at 12 3) (id "i9" 12 8) (member_call (name (id "v" 12 13)) (id "begin" 12 15) none)) ∷
    declares (declares_auto (at 13 3) (id "i10" 13 8) (member_call (name (id "v" 13 14)) (id "begin" 13 16) none)) ∷
    declares (declares_auto (at 14 3) (id "i11" 14 8) (member_call (name (id "v" 14 14)) (id "begin" 14 16) none)) ∷
    declares (declares_auto (at 15 3) (id "i12" 15 8) (member_call (name (id "v" 15 14)) (id "begin" 15 16) none)) ∷
    declares (declares_auto (at 16 3) (id "i13" 16 8) (member_call (name (id "v" 16 14)) (id "begin" 16 16) none)) ∷
    declares (declares_auto (at 17 3) (id "i14" 17 8) (member_call (name (id "v" 17 14)) (id "begin" 17 16) none)) ∷
    declares (declares_auto (at 18 3) (id "i15" 18 8) (member_call (name (id "v" 18 14)) (id "begin" 18 16) none)) ∷
    declares (declares_auto (at 19 3) (id "i16" 19 8) (member_call (name (id "v" 19 14)) (id "begin" 19 16) none)) ∷
    declares (declares_auto (at 20 3) (id "i17" 20 8) (member_call (name (id "v" 20 14)) (id "begin" 20 16) none)) ∷
    declares (declares_auto (at 21 3) (id "i18" 21 8) (member_call (name (id "v" 21 14)) (id "begin" 21 16) none)) ∷
    declares (declares_auto (at 22 3) (id "i19" 22 8) (member_call (name (id "v" 22 14)) (id "begin" 22 16) none)) ∷
    declares (declares_auto (at 23 3) (id "i20" 23 8) (member_call (name (id "v" 23 14)) (id "begin" 23 16) none)) ∷
    declares (declares_auto (at 24 3) (id "i21" 24 8) (member_call (name (id "v" 24 14)) (id "begin" 24 16) none)) ∷
    declares (declares_auto (at 25 3) (id "i22" 25 8) (member_call (name (id "v" 25 14)) (id "begin" 25 16) none)) ∷
    declares (declares_auto (at 26 3) (id "i23" 26 8) (member_call (name (id "v" 26 14)) (id "begin" 26 16) none)) ∷
    declares (declares_auto (at 27 3) (id "i24" 27 8) (member_call (name (id "v" 27 14)) (id "begin" 27 16) none)) ∷
    declares (declares_auto (at 28 3) (id "i25" 28 8) (member_call (name (id "v" 28 14)) (id "begin" 28 16) none)) ∷
    declares (declares_auto (at 29 3) (id "i26" 29 8) (member_call (name (id "v" 29 14)) (id "begin" 29 16) none)) ∷
    declares (declares_auto (at 30 3) (id "i27" 30 8) (member_call (name (id "v" 30 14)) (id "begin" 30 16) none)) ∷
    declares (declares_auto (at 31 3) (id "i28" 31 8) (member_call (name (id "v" 31 14)) (id "begin" 31 16) none)) ∷
    declares (declares_auto (at 32 3) (id "i29" 32 8) (member_call (name (id "v" 32 14)) (id "begin" 32 16) none)) ∷
    declares (declares_auto (at 33 3) (id "i30" 33 8) (member_call (name (id "v" 33 14)) (id "begin" 33 16) none)) ∷
    declares (declares_auto (at 34 3) (id "i31" 34 8) (member_call (name (id "v" 34 14)) (id "begin" 34 16) none)) ∷
    []) (at 35 1)

thirty_two_iterators_breaks_none : program_faults thirty_two_iterators ≡ []
unfolding program_faults
thirty_two_iterators_breaks_none = refl
