-- Closed runs of reads, prints and what is evaluated in them, each worked out by hand.
use Rattle.std.specs.Prelude.{◌≡◌, refl, replicate, [], ◌∷◌, Some, None, pos, codes}
use Rattle.std.specs.Fmt.{digits}
use Rattle.sl_base.specs.declared.scalar.Scalar.TheVariants as t
use Rattle.sl_syntax.specs.declared.operator.Arithmetic.TheVariants as o
use Rattle.sl_syntax.specs.declared.operator.Comparison.TheVariants as c
use Rattle.sl_syntax.specs.declared.typed.step.Fix.TheVariants.{Prefix, Postfix}
use Rattle.sl_syntax.specs.declared.typed.step.Step.TheVariants.{Up, Down}
use Rattle.sl_syntax.specs.Typed.{literal, held, logical_not, logical_and, logical_or, arithmetic, comparison, increment, scalar, read, test, text}
use Rattle.sl_syntax.specs.Typed.{endline, number, reads, prints, evaluates, updates, unset_scalar, set_scalar, declares_first, declares, choice}
use Rattle.sl_syntax.specs.Typed.{choice_else, for, does, Typed}
use Rattle.sl_model.specs.Runs.Ends.{Done, Language}
use Rattle.sl_model.specs.Runs.Run.{run}
use Rattle.sl_model.proofs.Examples.Short.{at, main_of, text_of, alone, finish}

-- int main() {
--   int a = 7;
--   int b = 8;
--   if (std::cin >> a >> b) std::cout << "both";
--   else std::cout << "no";
--   std::cout << a << " " << b << "\n";
--   std::cin >> b;
--   std::cout << b;
-- }
abbrev pub half_read : Typed
half_read = text_of (
    main_of None (
    declares (set_scalar t.Int (literal t.Int (pos 7))) ∷
    declares (set_scalar t.Int (literal t.Int (pos 8))) ∷
    choice_else (read (0 ∷ 1 ∷ [])) (does (prints (text (codes "both") ∷ []))) (does (prints (text (codes "no") ∷ []))) ∷
    does (prints (number (held (scalar 0 (at 6 16))) ∷ text (codes " ") ∷ number (held (scalar 1 (at 6 28))) ∷ text (codes "\n") ∷ [])) ∷
    does (reads (1 ∷ [])) ∷
    does (prints (number (held (scalar 1 (at 8 16))) ∷ [])) ∷
    []) (at 9 1) ∷ []) 0 [] []

-- the last read is at the end of the input, and leaves b
half_read_both : run half_read (pos 1 ∷ pos 2 ∷ []) [] 100 ≡ finish (Done (pos 0)) (codes "both1 2\n2") 0
unfolding digits
half_read_both = refl

half_read_one : run half_read (pos 1 ∷ []) [] 100 ≡ finish (Done (pos 0)) (codes "no1 8\n8") 0
unfolding digits
half_read_one = refl

half_read_none : run half_read [] [] 100 ≡ finish (Done (pos 0)) (codes "no7 8\n8") 0
unfolding digits
half_read_none = refl

half_read_three : run half_read (pos 1 ∷ pos 2 ∷ pos 3 ∷ []) [] 100 ≡ finish (Done (pos 0)) (codes "both1 2\n3") 0
unfolding digits
half_read_three = refl

-- int main() {
--   int x;
--   std::cin >> x;
--   std::cout << 1;
--   int y = 0;
--   y += x;
-- }
abbrev pub unset : Typed
unset = text_of (
    main_of None (
    declares (unset_scalar t.Int) ∷
    does (reads (0 ∷ [])) ∷
    does (prints (number (literal t.Int (pos 1)) ∷ [])) ∷
    declares (set_scalar t.Int (literal t.Int (pos 0))) ∷
    does (updates o.Add t.Int t.Int (at 6 5) (scalar 1 (at 6 3)) (held (scalar 0 (at 6 8)))) ∷
    []) (at 7 1) ∷ []) 0 [] []

-- what couldn't be read stays unset; what was written before the fault is kept
unset_faults : run unset [] [] 100 ≡ finish (Language (at 6 8) 3) (codes "1") 0
unfolding digits
unset_faults = refl

unset_is_read : run unset (pos 4 ∷ []) [] 100 ≡ finish (Done (pos 0)) (codes "1") 0
unfolding digits
unset_is_read = refl

-- int main() {
--   int x = 0;
--   std::cin >> x;
--   if (x != 0 && 12 / x == 4) std::cout << "a";
--   if (x == 0 || 12 % x == 2) std::cout << "b";
--   bool c = !x;
--   std::cout << c << (x == 3 && x) << std::endl;
-- }
abbrev pub shortcuts : Typed
shortcuts = alone None (
    declares (set_scalar t.Int (literal t.Int (pos 0))) ∷
    does (reads (0 ∷ [])) ∷
    choice (test (logical_and (at 4 14) (comparison c.NotEqual (at 4 9) (held (scalar 0 (at 4 7))) (literal t.Int (pos 0)))
    (comparison c.Equal (at 4 24) (arithmetic o.Divide t.Int (at 4 20) (literal t.Int (pos 12)) (held (scalar 0 (at 4 22))))
    (literal t.Int (pos 4)))))
    (does (prints (text (codes "a") ∷ []))) ∷
    choice (test (logical_or (at 5 14) (comparison c.Equal (at 5 9) (held (scalar 0 (at 5 7))) (literal t.Int (pos 0)))
    (comparison c.Equal (at 5 24) (arithmetic o.Remainder t.Int (at 5 20) (literal t.Int (pos 12)) (held (scalar 0 (at 5 22))))
    (literal t.Int (pos 2)))))
    (does (prints (text (codes "b") ∷ []))) ∷
    declares (set_scalar t.Bool (logical_not (at 6 12) (held (scalar 0 (at 6 13))))) ∷
    does (prints (number (held (scalar 1 (at 7 16))) ∷
    number (logical_and (at 7 29) (comparison c.Equal (at 7 24) (held (scalar 0 (at 7 22))) (literal t.Int (pos 3))) (held (scalar 0 (at 7 32)))) ∷
    endline ∷ [])) ∷
    []) (at 8 1) [] []

-- no right side is evaluated, so nothing is divided by 0
shortcuts_of_0 : run shortcuts (pos 0 ∷ []) [] 100 ≡ finish (Done (pos 0)) (codes "b10\n") 0
unfolding digits
shortcuts_of_0 = refl

shortcuts_of_3 : run shortcuts (pos 3 ∷ []) [] 100 ≡ finish (Done (pos 0)) (codes "a01\n") 0
unfolding digits
shortcuts_of_3 = refl

shortcuts_of_5 : run shortcuts (pos 5 ∷ []) [] 100 ≡ finish (Done (pos 0)) (codes "b00\n") 0
unfolding digits
shortcuts_of_5 = refl

-- int main() {
--   int i = 5;
--   int a = i++;
--   int b = ++i;
--   int c = i--;
--   int d = --i;
--   std::cout << a << b << c << d << i;
-- }
abbrev pub steps_of_one : Typed
steps_of_one = alone None (
    declares (set_scalar t.Int (literal t.Int (pos 5))) ∷
    declares (set_scalar t.Int (increment Up Postfix t.Int (at 3 12) (scalar 0 (at 3 11)))) ∷
    declares (set_scalar t.Int (increment Up Prefix t.Int (at 4 11) (scalar 0 (at 4 13)))) ∷
    declares (set_scalar t.Int (increment Down Postfix t.Int (at 5 12) (scalar 0 (at 5 11)))) ∷
    declares (set_scalar t.Int (increment Down Prefix t.Int (at 6 11) (scalar 0 (at 6 13)))) ∷
    does (prints (number (held (scalar 1 (at 7 16))) ∷ number (held (scalar 2 (at 7 21))) ∷ number (held (scalar 3 (at 7 26))) ∷
    number (held (scalar 4 (at 7 31))) ∷
    number (held (scalar 0 (at 7 36))) ∷ [])) ∷
    []) (at 8 1) [] []

steps_of_one_prints : run steps_of_one [] [] 100 ≡ finish (Done (pos 0)) (codes "57755") 0
unfolding digits
steps_of_one_prints = refl

-- int main() {
--   for (int i = 0; i < 66; ++i) std::cout << "0..0";
-- }
-- where the text is 1000 times a 0
abbrev pub long : Typed
long = alone None (
    for 0 (declares_first (set_scalar t.Int (literal t.Int (pos 0))))
    (test (comparison c.Less (at 2 21) (held (scalar 0 (at 2 19))) (literal t.Int (pos 66))))
    (Some (evaluates (increment Up Prefix t.Int (at 2 27) (scalar 0 (at 2 29))))) (does (prints (text (replicate 1000 48) ∷ []))) ∷
    []) (at 3 1) [] []

-- of 66,000 bytes the first 65,536 are kept
long_loses : run long [] [] 1000 ≡ finish (Done (pos 0)) (replicate 65536 48) 464
unfolding digits
long_loses = refl
