-- One function more than there may be.
-- Each is made of a text and of what is due for it by tools/typing_goal.py.
use Rattle.sl_base.specs.declared.scalar.Scalar.TheVariants as t
use Rattle.sl_syntax.specs.declared.tree.function.ResultType.TheVariants as result
use Rattle.sl_typing.specs.declared.rules.TheConstants as rule
use Rattle.std.specs.Prelude.{refl, [], ◌∷◌}
use Rattle.sl_syntax.specs.Tree.{Program}
use Rattle.sl_typing.specs.ProgramFaults.{program_faults}
use Rattle.sl_typing.specs.Typing.{FirstBroken}
use Rattle.sl_typing.proofs.Examples.Words.{at, id, items, function, fault}

-- sixty five functions
-- void f0() {
-- }
-- void f1() {
-- }
-- void f2() {
-- }
-- void f3() {
-- }
-- void f4() {
-- }
-- void f5() {
-- }
-- void f6() {
-- }
-- void f7() {
-- }
-- void f8() {
-- }
-- void f9() {
-- }
-- void f10() {
-- }
-- void f11() {
-- }
-- void f12() {
-- }
-- void f13() {
-- }
-- void f14() {
-- }
-- void f15() {
-- }
-- void f16() {
-- }
-- void f17() {
-- }
-- void f18() {
-- }
-- void f19() {
-- }
-- void f20() {
-- }
-- void f21() {
-- }
-- void f22() {
-- }
-- void f23() {
-- }
-- void f24() {
-- }
-- void f25() {
-- }
-- void f26() {
-- }
-- void f27() {
-- }
-- void f28() {
-- }
-- void f29() {
-- }
-- void f30() {
-- }
-- void f31() {
-- }
-- void f32() {
-- }
-- void f33() {
-- }
-- void f34() {
-- }
-- void f35() {
-- }
-- void f36() {
-- }
-- void f37() {
-- }
-- void f38() {
-- }
-- void f39() {
-- }
-- void f40() {
-- }
-- void f41() {
-- }
-- void f42() {
-- }
-- void f43() {
-- }
-- void f44() {
-- }
-- void f45() {
-- }
-- void f46() {
-- }
-- void f47() {
-- }
-- void f48() {
-- }
-- void f49() {
-- }
-- void f50() {
-- }
-- void f51() {
-- }
-- void f52() {
-- }
-- void f53() {
-- }
-- void f54() {
-- }
-- void f55() {
-- }
-- void f56() {
-- }
-- void f57() {
-- }
-- void f58() {
-- }
-- void f59() {
-- }
-- void f60() {
-- }
-- void f61() {
-- }
-- void f62() {
-- }
-- void f63() {
-- }
-- int main() {
-- }
abbrev pub sixty_five_functions : Program
sixty_five_functions =
    function (at 1 1) result.Void (id "f0" 1 6) [] (at 1 11) (items []) (at 2 1) ∷
    function (at 3 1) result.Void (id "f1" 3 6) [] (at 3 11) (items []) (at 4 1) ∷
    function (at 5 1) result.Void (id "f2" 5 6) [] (at 5 11) (items []) (at 6 1) ∷
    function (at 7 1) result.Void (id "f3" 7 6) [] (at 7 11) (items []) (at 8 1) ∷
    function (at 9 1) result.Void (id "f4" 9 6) [] (at 9 11) (items []) (at 10 1) ∷
    function (at 11 1) result.Void (id "f5" 11 6) [] (at 11 11) (items []) (at 12 1) ∷
    function (at 13 1) result.Void (id "f6" 13 6) [] (at 13 11) (items []) (at 14 1) ∷
    function (at 15 1) result.Void (id "f7" 15 6) [] (at 15 11) (items []) (at 16 1) ∷
    function (at 17 1) result.Void (id "f8" 17 6) [] (at 17 11) (items []) (at 18 1) ∷
    function (at 19 1) result.Void (id "f9" 19 6) [] (at 19 11) (items []) (at 20 1) ∷
    function (at 21 1) result.Void (id "f10" 21 6) [] (at 21 12) (items []) (at 22 1) ∷
    function (at 23 1) result.Void (id "f11" 23 6) [] (at 23 12) (items []) (at 24 1) ∷
    function (at 25 1) result.Void (id "f12" 25 6) [] (at 25 12) (items []) (at 26 1) ∷
    function (at 27 1) result.Void (id "f13" 27 6) [] (at 27 12) (items []) (at 28 1) ∷
    function (at 29 1) result.Void (id "f14" 29 6) [] (at 29 12) (items []) (at 30 1) ∷
    function (at 31 1) result.Void (id "f15" 31 6) [] (at 31 12) (items []) (at 32 1) ∷
    function (at 33 1) result.Void (id "f16" 33 6) [] (at 33 12) (items []) (at 34 1) ∷
    function (at 35 1) result.Void (id "f17" 35 6) [] (at 35 12) (items []) (at 36 1) ∷
    function (at 37 1) result.Void (id "f18" 37 6) [] (at 37 12) (items []) (at 38 1) ∷
    function (at 39 1) result.Void (id "f19" 39 6) [] (at 39 12) (items []) (at 40 1) ∷
    function (at 41 1) result.Void (id "f20" 41 6) [] (at 41 12) (items []) (at 42 1) ∷
    function (at 43 1) result.Void (id "f21" 43 6) [] (at 43 12) (items []) (at 44 1) ∷
    function (at 45 1) result.Void (id "f22" 45 6) [] (at 45 12) (items []) (at 46 1) ∷
    function (at 47 1) result.Void (id "f23" 47 6) [] (at 47 12) (items []) (at 48 1) ∷
    function (at 49 1) result.Void (id "f24" 49 6) [] (at 49 12) (items []) (at 50 1) ∷
    function (at 51 1) result.Void (id "f25" 51 6) [] (at 51 12) (items []) (at 52 1) ∷
    function (at 53 1) result.Void (id "f26" 53 6) [] (at 53 12) (items []) (at 54 1) ∷
    function (at 55 1) result.Void (id "f27" 55 6) [] (at 55 12) (items []) (at 56 1) ∷
    function (at 57 1) result.Void (id "f28" 57 6) [] (at 57 12) (items []) (at 58 1) ∷
    function (at 59 1) result.Void (id "f29" 59 6) [] (at 59 12) (items []) (at 60 1) ∷
    function (at 61 1) result.Void (id "f30" 61 6) [] (at 61 12) (items []) (at 62 1) ∷
    function (at 63 1) result.Void (id "f31" 63 6) [] (at 63 12) (items []) (at 64 1) ∷
    function (at 65 1) result.Void (id "f32" 65 6) [] (at 65 12) (items []) (at 66 1) ∷
    function (at 67 1) result.Void (id "f33" 67 6) [] (at 67 12) (items []) (at 68 1) ∷
    function (at 69 1) result.Void (id "f34" 69 6) [] (at 69 12) (items []) (at 70 1) ∷
    function (at 71 1) result.Void (id "f35" 71 6) [] (at 71 12) (items []) (at 72 1) ∷
    function (at 73 1) result.Void (id "f36" 73 6) [] (at 73 12) (items []) (at 74 1) ∷
    function (at 75 1) result.Void (id "f37" 75 6) [] (at 75 12) (items []) (at 76 1) ∷
    function (at 77 1) result.Void (id "f38" 77 6) [] (at 77 12) (items []) (at 78 1) ∷
    function (at 79 1) result.Void (id "f39" 79 6) [] (at 79 12) (items []) (at 80 1) ∷
    function (at 81 1) result.Void (id "f40" 81 6) [] (at 81 12) (items []) (at 82 1) ∷
    function (at 83 1) result.Void (id "f41" 83 6) [] (at 83 12) (items []) (at 84 1) ∷
    function (at 85 1) result.Void (id "f42" 85 6) [] (at 85 12) (items []) (at 86 1) ∷
    function (at 87 1) result.Void (id "f43" 87 6) [] (at 87 12) (items []) (at 88 1) ∷
    function (at 89 1) result.Void (id "f44" 89 6) [] (at 89 12) (items []) (at 90 1) ∷
    function (at 91 1) result.Void (id "f45" 91 6) [] (at 91 12) (items []) (at 92 1) ∷
    function (at 93 1) result.Void (id "f46" 93 6) [] (at 93 12) (items []) (at 94 1) ∷
    function (at 95 1) result.Void (id "f47" 95 6) [] (at 95 12) (items []) (at 96 1) ∷
    function (at 97 1) result.Void (id "f48" 97 6) [] (at 97 12) (items []) (at 98 1) ∷
    function (at 99 1) result.Void (id "f49" 99 6) [] (at 99 12) (items []) (at 100 1) ∷
    function (at 101 1) result.Void (id "f50" 101 6) [] (at 101 12) (items []) (at 102 1) ∷
    function (at 103 1) result.Void (id "f51" 103 6) [] (at 103 12) (items []) (at 104 1) ∷
    function (at 105 1) result.Void (id "f52" 105 6) [] (at 105 12) (items []) (at 106 1) ∷
    function (at 107 1) result.Void (id "f53" 107 6) [] (at 107 12) (items []) (at 108 1) ∷
    function (at 109 1) result.Void (id "f54" 109 6) [] (at 109 12) (items []) (at 110 1) ∷
    function (at 111 1) result.Void (id "f55" 111 6) [] (at 111 12) (items []) (at 112 1) ∷
    function (at 113 1) result.Void (id "f56" 113 6) [] (at 113 12) (items []) (at 114 1) ∷
    function (at 115 1) result.Void (id "f57" 115 6) [] (at 115 12) (items []) (at 116 1) ∷
    function (at 117 1) result.Void (id "f58" 117 6) [] (at 117 12) (items []) (at 118 1) ∷
    function (at 119 1) result.Void (id "f59" 119 6) [] (at 119 12) (items []) (at 120 1) ∷
    function (at 121 1) result.Void (id "f60" 121 6) [] (at 121 12) (items []) (at 122 1) ∷
    function (at 123 1) result.Void (id "f61" 123 6) [] (at 123 12) (items []) (at 124 1) ∷
    function (at 125 1) result.Void (id "f62" 125 6) [] (at 125 12) (items []) (at 126 1) ∷
    function (at 127 1) result.Void (id "f63" 127 6) [] (at 127 12) (items []) (at 128 1) ∷
    function (at 129 1) (result.Scalar t.Int) (id "main" 129 5) [] (at 129 12) (items []) (at 130 1) ∷
    []

sixty_five_functions_breaks : FirstBroken sixty_five_functions (fault (at 129 5) rule.TOO_MANY_FUNCTIONS)
unfolding program_faults
sixty_five_functions_breaks = refl
