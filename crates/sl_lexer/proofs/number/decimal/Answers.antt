-- Past the largest, more digits write no smaller number.
use Rattle.std.proofs.Common.{◌≡◌, ℕ, true, leb, ◌+◌, ◌-◌, ◌*◌, ◌<◌, ◌≤◌, List, [], ◌∷◌, length, drop, get_or, fold, refl, arith}
use Rattle.std.proofs.lemmas.Bool.{lt-ltb, leb-true, and_parts, both_ways, true_from_ne_false}
use Rattle.std.proofs.lemmas.List.Folds.{list_all_at}
use Rattle.std.specs.List.{list_all}
use Rattle.sl_base.specs.Bytes.{is_digit}
use Rattle.std.proofs.lemmas.List.{at_drop_more}
use Rattle.sl_base.specs.Pieces.{decimal}
use Rattle.sl_base.specs.declared.limits.TheConstants.{LARGEST_NUMBER}
use Rattle.sl_lexer.proofs.number.decimal.Goals as goal

grows : (bs : List ℕ) (n : ℕ) → n ≤ fold (λ n b. 10 * n + (b - 48)) n bs
grows [] n = omega arith
grows (b ∷ bs) n = omega (arith, grows bs (10 * n + (b - 48)))

passes : (digits : List ℕ) (i n : ℕ) → i < length digits → fold (λ n b. 10 * n + (b - 48)) n (drop i digits) ≡ decimal digits
    → LARGEST_NUMBER < 10 * n + (get_or digits i 0 - 48) → LARGEST_NUMBER < decimal digits
passes digits i n within goes_on past =
    let step = at_drop_more (fold (λ n b. 10 * n + (b - 48)) n) digits i 0 within in
    omega (arith, step, goes_on, grows (drop (i + 1) digits) (10 * n + (get_or digits i 0 - 48)))

digit-least : (digits : List ℕ) (i : ℕ) → i < length digits → list_all is_digit digits ≡ true → 48 ≤ get_or digits i 0
digit-least digits i within all =
    let digit : is_digit (get_or digits i 0) ≡ true = true_from_ne_false _ (λ no. both_ways _ (list_all_at is_digit digits i 0 within no) all) in
    leb-true 48 _ (and_parts (leb 48 (get_or digits i 0)) (leb (get_or digits i 0) 57) digit).0

pub overflow_sub-digit : goal.overflow_sub-digit
overflow_sub-digit c = omega (arith, digit-least c.args.digits.now c.loop-digit.digit-index (omega arith) c.requires)

pub returns-then-value-largest : goal.returns-then-value-largest
returns-then-value-largest c =
    let l = c.loop-digit in
    rw (lt-ltb _ _ (passes c.args.digits.now l.digit-index l.value (omega arith) l.invariant.goes_on (omega arith))) refl
