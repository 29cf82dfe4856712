-- The number of `main`, and the parts of a typed program.
use Rattle.std.proofs.Common.{◌≡◌, ℕ, ℤ, ◌+◌, ◌<◌, ◌≤◌, ◌^◌, Bool, true, false, cond, not, List, [], map, length, Some, None, refl, arith}
use Rattle.std.specs.Prelude.{nat_lt, if◌then◌else◌}
use Rattle.std.specs.List.{position_or_len, position}
use Rattle.std.specs.Option.{unwrap_or}
use Rattle.std.proofs.lemmas.Bool.Decides.{nat_tests}
use Rattle.std.proofs.lemmas.List.Sums.{prefix_len-le-length}
use Rattle.std.proofs.lemmas.List.Recursion.{is_position_or_len}
use Rattle.sl_base.specs.declared.place.Place.{Place}
use Rattle.sl_syntax.specs.declared.tree.function.Function.{Function as FunctionCode}
use Rattle.sl_syntax.specs.SubsetView.{constants_of}
use Rattle.sl_syntax.specs.Tree.{Program}
use Rattle.sl_syntax.specs.Typed as t
use Rattle.sl_syntax.specs.TreeView.{function_of}
use Rattle.sl_typing.specs.Contexts.{Context}
use Rattle.sl_typing.specs.Flow.{after_functions}
use Rattle.sl_typing.specs.Literals.{literals_of_program}
use Rattle.sl_typing.specs.ProgramFaults.{start, program_faults}
use Rattle.sl_typing.specs.Rules.{is_main_name}
use Rattle.sl_typing.specs.Typing.{main_number, typed_functions, typed_program}
use Rattle.sl_number_limits.proofs.Narrow.{main_is_narrow}

-- the function is called `main`
abbrev is_main_code : FunctionCode → Bool
is_main_code f = is_main_name f.name.name

next : (b : Bool) (n : ℕ) → (if b then 0 else n + 1) ≡ cond b 0 (1 + n)
next true n = refl
next false n = omega arith

-- so many stand before it
pub main_number-mapped : (fs : List FunctionCode) → main_number (map function_of fs) ≡ position_or_len is_main_code fs
main_number-mapped =
    is_position_or_len (λ fs. main_number (map function_of fs)) is_main_code refl
    (λ f fs. next (is_main_code f) (main_number (map function_of fs)))

found_or_all : (b : Bool) (n l : ℕ) → nat_lt n l ≡ b → n ≤ l → unwrap_or (cond b (Some n) None) l ≡ n
found_or_all true n l e le = refl
found_or_all false n l e le = grind (arith, nat_tests)

-- the place that was found, or how many there are
pub position-or_length : {X : Type 0} (p : X → Bool) (xs : List X) → unwrap_or (position p xs) (length xs) ≡ position_or_len p xs
position-or_length {X} p xs =
    found_or_all (nat_lt (position_or_len p xs) (length xs)) (position_or_len p xs) (length xs) refl
    (prefix_len-le-length (λ (x : X). not (p x)) xs)

-- it fits 16 bits
pub main_narrow : (p : Program) → program_faults p ≡ [] → main_number p < 2 ^ 16
unfolding typed_program
main_narrow p none = main_is_narrow p (typed_program p) (record { breaks_none = none; is_it = refl })

-- what the parts of a typed program are
pub parts-typed_program : (p fs : Program) (g end : Context) (functions : List t.Function) (main : ℕ) (sites loops : List Place)
    (names : List (List ℕ)) (constants : List ℤ) → g ≡ start → fs ≡ p → functions ≡ typed_functions g fs → main ≡ main_number p
    → end ≡ after_functions g fs → sites ≡ end.sites → loops ≡ end.loops → names ≡ end.names
    → constants ≡ constants_of (literals_of_program p)
    → record { functions = functions; main = main; sites = sites; loops = loops; names = names; constants = constants } ≡ typed_program p
unfolding typed_program
parts-typed_program p fs g end functions main sites loops names constants starts is a b ends c d e f =
    rw (a, b, c, d, e, f, ends, starts, is) refl
