-- The value so far is not past the largest, and the digits that are left take it to the number that all of them write.
use Rattle.std.proofs.Common.{◌≡◌, ◌+◌, ◌-◌, ◌*◌, ◌≤◌, drop, fold}
use Rattle.sl_base.specs.declared.limits.TheConstants.{LARGEST_NUMBER}
use Rattle.sl_base.specs.Pieces.{decimal}
use Rattle.sl_lexer.proofs.number.decimal.Given as goal

abbrev pub invariant-loop-digit : goal.invariant-loop-digit
invariant-loop-digit l = record {
  small : l.value ≤ LARGEST_NUMBER;
  goes_on : fold (λ n b. 10 * n + (b - 48)) l.value (drop l.digit-index l.digits) ≡ decimal l.digits;
}
