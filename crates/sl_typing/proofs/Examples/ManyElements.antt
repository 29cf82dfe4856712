-- One element in braces more than there may be.
-- Each is made of a text and of what is due for it by tools/typing_goal.py.
use Rattle.sl_base.specs.declared.form.Form.TheVariants as f
use Rattle.sl_typing.specs.declared.rules.TheConstants as rule
use Rattle.std.specs.Prelude.{refl, true, [], ◌∷◌}
use Rattle.sl_syntax.specs.Tree.{number, name, braces, declares_container, declares, Program}
use Rattle.sl_typing.specs.ProgramFaults.{program_faults}
use Rattle.sl_typing.specs.Typing.{FirstBroken}
use Rattle.sl_typing.proofs.Examples.Words.{at, id, all, container_type, main_alone, fault}

-- sixty five elements
-- int main() {
--   std::set<int> s = {1, 1, 1, 1, 1, 1, 1, 1, 1, 1, 1, 1, 1, 1, 1, 1, 1, 1, 1, 1, 1, 1, 1, 1, 1, 1, 1, 1, 1, 1, 1, 1, 1, 1, 1, 1, 1, 1, 1, 1,
--       1, 1, 1, 1, 1, 1, 1, 1, 1, 1, 1, 1, 1, 1, 1, 1, 1, 1, 1, 1, 1, 1, 1, 1, 1};
-- }
abbrev pub sixty_five_elements : Program
sixty_five_elements = main_alone (
    declares (declares_container (container_type (at 2 3) f.Set) (id "s" 2 17) (braces true (all (
    number (at 2 22) 1 ∷
    number (at 2 25) 1 ∷
    number (at 2 28) 1 ∷
    number (at 2 31) 1 ∷
    number (at 2 34) 1 ∷
    number (at 2 37) 1 ∷
    number (at 2 40) 1 ∷
    number (at 2 43) 1 ∷
    number (at 2 46) 1 ∷
    number (at 2 49) 1 ∷
    number (at 2 52) 1 ∷
    number (at 2 55) 1 ∷
    number (at 2 58) 1 ∷
    number (at 2 61) 1 ∷
    number (at 2 64) 1 ∷
    number (at 2 67) 1 ∷
    number (at 2 70) 1 ∷
    number (at 2 73) 1 ∷
    number (at 2 76) 1 ∷
    number (at 2 79) 1 ∷
    number (at 2 82) 1 ∷
    number (at 2 85) 1 ∷
    number (at 2 88) 1 ∷
    number (at 2 91) 1 ∷
    number (at 2 94) 1 ∷
    number (at 2 97) 1 ∷
    number (at 2 100) 1 ∷
    number (at 2 103) 1 ∷
    number (at 2 106) 1 ∷
    number (at 2 109) 1 ∷
    number (at 2 112) 1 ∷
    number (at 2 115) 1 ∷
    number (at 2 118) 1 ∷
    number (at 2 121) 1 ∷
    number (at 2 124) 1 ∷
    number (at 2 127) 1 ∷
    number (at 2 130) 1 ∷
    number (at 2 133) 1 ∷
    number (at 2 136) 1 ∷
    number (at 2 139) 1 ∷
    number (at 2 142) 1 ∷
    number (at 2 145) 1 ∷
    number (at 2 148) 1 ∷
    number (at 2 151) 1 ∷
    number (at 2 154) 1 ∷
    number (at 2 157) 1 ∷
    number (at 2 160) 1 ∷
    number (at 2 163) 1 ∷
    number (at 2 166) 1 ∷
    number (at 2 169) 1 ∷
    number (at 2 172) 1 ∷
    number (at 2 175) 1 ∷
    number (at 2 178) 1 ∷
    number (at 2 181) 1 ∷
    number (at 2 184) 1 ∷
    number (at 2 187) 1 ∷
    number (at 2 190) 1 ∷
    number (at 2 193) 1 ∷
    number (at 2 196) 1 ∷
    number (at 2 199) 1 ∷
    number (at 2 202) 1 ∷
    number (at 2 205) 1 ∷
    number (at 2 208) 1 ∷
    number (at 2 211) 1 ∷
    number (at 2 214) 1 ∷
    [])))) ∷
    []) (at 3 1)

sixty_five_elements_breaks : FirstBroken sixty_five_elements (fault (at 2 214) rule.TOO_MANY_ELEMENTS)
unfolding program_faults
sixty_five_elements_breaks = refl

-- too many elements before an undeclared one
-- int main() {
--   std::set<int> s = {1, 1, 1, 1, 1, 1, 1, 1, 1, 1, 1, 1, 1, 1, 1, 1, 1, 1, 1, 1, 1, 1, 1, 1, 1, 1, 1, 1, 1, 1, 1, 1, 1, 1, 1, 1, 1, 1, 1, 1,
--       1, 1, 1, 1, 1, 1, 1, 1, 1, 1, 1, 1, 1, 1, 1, 1, 1, 1, 1, 1, 1, 1, 1, 1, 1, y};
-- }
abbrev pub too_many_elements_before_an_undeclared_one : Program
too_many_elements_before_an_undeclared_one = main_alone (
    declares (declares_container (container_type (at 2 3) f.Set) (id "s" 2 17) (braces true (all (
    number (at 2 22) 1 ∷
    number (at 2 25) 1 ∷
    number (at 2 28) 1 ∷
    number (at 2 31) 1 ∷
    number (at 2 34) 1 ∷
    number (at 2 37) 1 ∷
    number (at 2 40) 1 ∷
    number (at 2 43) 1 ∷
    number (at 2 46) 1 ∷
    number (at 2 49) 1 ∷
    number (at 2 52) 1 ∷
    number (at 2 55) 1 ∷
    number (at 2 58) 1 ∷
    number (at 2 61) 1 ∷
    number (at 2 64) 1 ∷
    number (at 2 67) 1 ∷
    number (at 2 70) 1 ∷
    number (at 2 73) 1 ∷
    number (at 2 76) 1 ∷
    number (at 2 79) 1 ∷
    number (at 2 82) 1 ∷
    number (at 2 85) 1 ∷
    number (at 2 88) 1 ∷
    number (at 2 91) 1 ∷
    number (at 2 94) 1 ∷
    number (at 2 97) 1 ∷
    number (at 2 100) 1 ∷
    number (at 2 103) 1 ∷
    number (at 2 106) 1 ∷
    number (at 2 109) 1 ∷
    number (at 2 112) 1 ∷
    number (at 2 115) 1 ∷
    number (at 2 118) 1 ∷
    number (at 2 121) 1 ∷
    number (at 2 124) 1 ∷
    number (at 2 127) 1 ∷
    number (at 2 130) 1 ∷
    number (at 2 133) 1 ∷
    number (at 2 136) 1 ∷
    number (at 2 139) 1 ∷
    number (at 2 142) 1 ∷
    number (at 2 145) 1 ∷
    number (at 2 148) 1 ∷
    number (at 2 151) 1 ∷
    number (at 2 154) 1 ∷
    number (at 2 157) 1 ∷
    number (at 2 160) 1 ∷
    number (at 2 163) 1 ∷
    number (at 2 166) 1 ∷
    number (at 2 169) 1 ∷
    number (at 2 172) 1 ∷
    number (at 2 175) 1 ∷
    number (at 2 178) 1 ∷
    number (at 2 181) 1 ∷
    number (at 2 184) 1 ∷
    number (at 2 187) 1 ∷
    number (at 2 190) 1 ∷
    number (at 2 193) 1 ∷
    number (at 2 196) 1 ∷
    number (at 2 199) 1 ∷
    number (at 2 202) 1 ∷
    number (at 2 205) 1 ∷
    number (at 2 208) 1 ∷
    number (at 2 211) 1 ∷
    number (at 2 214) 1 ∷
    name (id "y" 2 217) ∷
    [])))) ∷
    []) (at 3 1)

too_many_elements_before_an_undeclared_one_breaks : FirstBroken too_many_elements_before_an_undeclared_one
    (fault (at 2 214) rule.TOO_MANY_ELEMENTS)
unfolding program_faults
too_many_elements_before_an_undeclared_one_breaks = refl
