-- Closed runs on numbers, their conversions and their faults, each checked by hand.
use Rattle.std.specs.Prelude.{◌≡◌, refl, [], ◌∷◌, Some, None, pos, negsuc, codes}
use Rattle.std.specs.Fmt.{digits}
use Rattle.sl_base.specs.declared.scalar.Scalar.TheVariants as t
use Rattle.sl_syntax.specs.declared.operator.Arithmetic.TheVariants as o
use Rattle.sl_syntax.specs.declared.operator.Comparison.TheVariants as c
use Rattle.sl_syntax.specs.declared.typed.step.Fix.TheVariants.{Prefix}
use Rattle.sl_syntax.specs.declared.typed.step.Step.TheVariants.{Down}
use Rattle.sl_syntax.specs.Typed.{literal, held, convert, negate, logical_not, arithmetic, comparison, increment, scalar, test, text, number, reads}
use Rattle.sl_syntax.specs.Typed.{prints, assigns, updates, set_scalar, declares, choice, gives_back, does, Typed}
use Rattle.sl_model.specs.Runs.Ends.{Done, Language}
use Rattle.sl_model.specs.Runs.Run.{run}
use Rattle.sl_model.proofs.Examples.Short.{at, main_of, text_of, finish}

-- int main() {
--   int x = -1;
--   std::size_t n = x;
--   std::ptrdiff_t d = n;
--   bool b = x;
--   bool c = !n;
--   int y = n;
--   int w = 2147483647;
--   std::size_t big = w;
--   big += 1;
--   int v = big;
--   std::cout << n << " " << d << b << c << y << " " << v << " ";
--   std::cout << (x < n) << (d < n) << (x == n) << (0 - n > 5) << (b + b) << -b;
--   b = 256;
--   x = 3;
--   x -= n;
--   x *= b;
--   std::cout << x << n - 2;
-- }
abbrev pub conversions : Typed
conversions = text_of (
    main_of None (
    declares (set_scalar t.Int (negate t.Int (at 2 11) (literal t.Int (pos 1)))) ∷
    declares (set_scalar t.Size (convert t.Size (held (scalar 0 (at 3 19))))) ∷
    declares (set_scalar t.Diff (convert t.Diff (held (scalar 1 (at 4 22))))) ∷
    declares (set_scalar t.Bool (convert t.Bool (held (scalar 0 (at 5 12))))) ∷
    declares (set_scalar t.Bool (logical_not (at 6 12) (held (scalar 1 (at 6 13))))) ∷
    declares (set_scalar t.Int (convert t.Int (held (scalar 1 (at 7 11))))) ∷
    declares (set_scalar t.Int (literal t.Int (pos 2147483647))) ∷
    declares (set_scalar t.Size (convert t.Size (held (scalar 6 (at 9 21))))) ∷
    does (updates o.Add t.Size t.Size (at 10 7) (scalar 7 (at 10 3)) (convert t.Size (literal t.Int (pos 1)))) ∷
    declares (set_scalar t.Int (convert t.Int (held (scalar 7 (at 11 11))))) ∷
    does (prints (number (held (scalar 1 (at 12 16))) ∷ text (codes " ") ∷ number (held (scalar 2 (at 12 28))) ∷
    number (held (scalar 3 (at 12 33))) ∷
    number (held (scalar 4 (at 12 38))) ∷ number (held (scalar 5 (at 12 43))) ∷ text (codes " ") ∷ number (held (scalar 8 (at 12 55))) ∷
    text (codes " ") ∷ [])) ∷
    does (prints (number (comparison c.Less (at 13 19) (convert t.Size (held (scalar 0 (at 13 17)))) (held (scalar 1 (at 13 21)))) ∷
    number (comparison c.Less (at 13 30) (convert t.Size (held (scalar 2 (at 13 28)))) (held (scalar 1 (at 13 32)))) ∷
    number (comparison c.Equal (at 13 41) (convert t.Size (held (scalar 0 (at 13 39)))) (held (scalar 1 (at 13 44)))) ∷
    number (comparison c.Greater (at 13 57) (arithmetic o.Subtract t.Size (at 13 53) (convert t.Size (literal t.Int (pos 0))) (held (scalar 1
    (at 13 55)))) (convert t.Size (literal t.Int (pos 5)))) ∷
    number (arithmetic o.Add t.Int (at 13 68) (convert t.Int (held (scalar 3 (at 13 66)))) (convert t.Int (held (scalar 3 (at 13 70))))) ∷
    number (negate t.Int (at 13 76) (convert t.Int (held (scalar 3 (at 13 77))))) ∷ [])) ∷
    does (assigns (scalar 3 (at 14 3)) (convert t.Bool (literal t.Int (pos 256)))) ∷
    does (assigns (scalar 0 (at 15 3)) (literal t.Int (pos 3))) ∷
    does (updates o.Subtract t.Size t.Int (at 16 5) (scalar 0 (at 16 3)) (held (scalar 1 (at 16 8)))) ∷
    does (updates o.Multiply t.Int t.Int (at 17 5) (scalar 0 (at 17 3)) (convert t.Int (held (scalar 3 (at 17 8))))) ∷
    does (prints (number (held (scalar 0 (at 18 16))) ∷
    number (arithmetic o.Subtract t.Size (at 18 23) (held (scalar 1 (at 18 21))) (convert t.Size (literal t.Int (pos 2)))) ∷ [])) ∷
    []) (at 19 1) ∷ []) 0 [] []

conversions_prints : run conversions [] [] 100
    ≡ finish (Done (pos 0)) (codes "18446744073709551615 -110-1 -2147483648 00102-1418446744073709551613") 0
unfolding digits
conversions_prints = refl

-- int main() {
--   int x = 0;
--   std::cin >> x;
--   int least = -2147483647 - 1;
--   if (x == 0) return 7 / x;
--   if (x == 1) return 7 % (x - 1);
--   if (x == -1) return least / x;
--   if (x == -2) return least % (x + 1);
--   if (x == 2) return -least;
--   if (x == 3) return least * x;
--   if (x == 4) return --least;
--   std::ptrdiff_t d = 2147483647;
--   d *= d;
--   d *= 2;
--   if (x == 5) d = d * d;
--   std::size_t n = d;
--   n = n * n;
--   std::cout << n << " " << d;
--   return -7 / 2 * 10 + -7 % 2;
-- }
abbrev pub faults : Typed
faults = text_of (
    main_of None (
    declares (set_scalar t.Int (literal t.Int (pos 0))) ∷
    does (reads (0 ∷ [])) ∷
    declares (set_scalar t.Int (arithmetic o.Subtract t.Int (at 4 27) (negate t.Int (at 4 15) (literal t.Int (pos 2147483647)))
    (literal t.Int (pos 1)))) ∷
    choice (test (comparison c.Equal (at 5 9) (held (scalar 0 (at 5 7))) (literal t.Int (pos 0)))) (gives_back (Some (arithmetic o.Divide t.Int
    (at 5 24) (literal t.Int (pos 7)) (held (scalar 0 (at 5 26)))))) ∷
    choice (test (comparison c.Equal (at 6 9) (held (scalar 0 (at 6 7))) (literal t.Int (pos 1)))) (gives_back (Some (arithmetic o.Remainder t.Int
    (at 6 24) (literal t.Int (pos 7)) (arithmetic o.Subtract t.Int (at 6 29) (held (scalar 0 (at 6 27))) (literal t.Int (pos 1)))))) ∷
    choice (test (comparison c.Equal (at 7 9) (held (scalar 0 (at 7 7))) (negate t.Int (at 7 12) (literal t.Int (pos 1))))) (gives_back (Some
    (arithmetic o.Divide t.Int (at 7 29) (held (scalar 1 (at 7 23))) (held (scalar 0 (at 7 31)))))) ∷
    choice (test (comparison c.Equal (at 8 9) (held (scalar 0 (at 8 7))) (negate t.Int (at 8 12) (literal t.Int (pos 2))))) (gives_back (Some
    (arithmetic o.Remainder t.Int (at 8 29) (held (scalar 1 (at 8 23))) (arithmetic o.Add t.Int (at 8 34) (held (scalar 0 (at 8 32)))
    (literal t.Int (pos 1)))))) ∷
    choice (test (comparison c.Equal (at 9 9) (held (scalar 0 (at 9 7))) (literal t.Int (pos 2)))) (gives_back (Some (negate t.Int (at 9 22) (held
    (scalar 1 (at 9 23)))))) ∷
    choice (test (comparison c.Equal (at 10 9) (held (scalar 0 (at 10 7))) (literal t.Int (pos 3)))) (gives_back (Some (arithmetic o.Multiply t.Int
    (at 10 28) (held (scalar 1 (at 10 22))) (held (scalar 0 (at 10 30)))))) ∷
    choice (test (comparison c.Equal (at 11 9) (held (scalar 0 (at 11 7))) (literal t.Int (pos 4)))) (gives_back (Some (increment Down Prefix t.Int
    (at 11 22) (scalar 1 (at 11 24))))) ∷
    declares (set_scalar t.Diff (convert t.Diff (literal t.Int (pos 2147483647)))) ∷
    does (updates o.Multiply t.Diff t.Diff (at 13 5) (scalar 2 (at 13 3)) (held (scalar 2 (at 13 8)))) ∷
    does (updates o.Multiply t.Diff t.Diff (at 14 5) (scalar 2 (at 14 3)) (convert t.Diff (literal t.Int (pos 2)))) ∷
    choice (test (comparison c.Equal (at 15 9) (held (scalar 0 (at 15 7))) (literal t.Int (pos 5)))) (does (assigns (scalar 2 (at 15 15))
    (arithmetic o.Multiply t.Diff (at 15 21) (held (scalar 2 (at 15 19))) (held (scalar 2 (at 15 23)))))) ∷
    declares (set_scalar t.Size (convert t.Size (held (scalar 2 (at 16 19))))) ∷
    does (assigns (scalar 3 (at 17 3)) (arithmetic o.Multiply t.Size (at 17 9) (held (scalar 3 (at 17 7))) (held (scalar 3 (at 17 11))))) ∷
    does (prints (number (held (scalar 3 (at 18 16))) ∷ text (codes " ") ∷ number (held (scalar 2 (at 18 28))) ∷ [])) ∷
    gives_back (Some (arithmetic o.Add t.Int (at 19 22) (arithmetic o.Multiply t.Int (at 19 17) (arithmetic o.Divide t.Int (at 19 13) (negate t.Int
    (at 19 10) (literal t.Int (pos 7))) (literal t.Int (pos 2))) (literal t.Int (pos 10))) (arithmetic o.Remainder t.Int (at 19 27) (negate t.Int
    (at 19 24) (literal t.Int (pos 7))) (literal t.Int (pos 2))))) ∷
    []) (at 20 1) ∷ []) 0 [] []

-- 7 / 0
faults_1 : run faults (pos 0 ∷ []) [] 100 ≡ finish (Language (at 5 24) 2) [] 0
faults_1 = refl

-- 7 % 0
faults_2 : run faults (pos 1 ∷ []) [] 100 ≡ finish (Language (at 6 24) 2) [] 0
faults_2 = refl

-- the least int by -1
faults_3 : run faults (negsuc 0 ∷ []) [] 100 ≡ finish (Language (at 7 29) 1) [] 0
faults_3 = refl

-- its remainder by -1
faults_4 : run faults (negsuc 1 ∷ []) [] 100 ≡ finish (Language (at 8 29) 1) [] 0
faults_4 = refl

-- its negation
faults_5 : run faults (pos 2 ∷ []) [] 100 ≡ finish (Language (at 9 22) 1) [] 0
faults_5 = refl

-- its threefold
faults_6 : run faults (pos 3 ∷ []) [] 100 ≡ finish (Language (at 10 28) 1) [] 0
faults_6 = refl

-- one less
faults_7 : run faults (pos 4 ∷ []) [] 100 ≡ finish (Language (at 11 22) 1) [] 0
faults_7 = refl

-- 9223372028264841218 squared
faults_8 : run faults (pos 5 ∷ []) [] 100 ≡ finish (Language (at 15 21) 1) [] 0
faults_8 = refl

-- an unsigned product is taken modulo; a quotient is rounded toward zero
faults_not : run faults (pos 6 ∷ []) [] 100 ≡ finish (Done (negsuc 30)) (codes "18446744039349813252 9223372028264841218") 0
unfolding digits
faults_not = refl
