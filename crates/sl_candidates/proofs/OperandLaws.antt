-- A test of the ends of a range is a test of their one type.
use Rattle.std.proofs.Common.{◌≡◌, List, [], ◌∷◌, refl, sym, ◌∙◌, ◌⊎◌, inl, inr}
use Rattle.std.specs.Prelude.{Bool, true, false, ◌&&◌}
use Rattle.sl_base.specs.declared.form.Form.{Form}
use Rattle.sl_specs.specs.declared.letter.Letter.{Letter}
use Rattle.sl_specs.specs.declared.letter.Letter.TheVariants as l
use Rattle.sl_typing.specs.declared.expr_type.ExprType.{ExprType}
use Rattle.sl_typing.specs.declared.expr_type.ExprType.TheVariants as types
use Rattle.sl_typing.specs.Types.{only, same_iterators, is_iterator_of, is_int_iterator}
use Rattle.sl_typing.specs.Signatures.{range}
use Rattle.sl_typing.specs.Arguments.{letter_takes}
use Rattle.sl_candidates.specs.Means.Operands.{range_type}

and_true : (b : Bool) → (b && true) ≡ b
and_true true = refl
and_true false = refl

and_false : (b : Bool) → (b && false) ≡ false
and_false true = refl
and_false false = refl

-- a type where a condition holds
only_test : (test : ExprType → Bool) (b : Bool) (u : ExprType) → test types.Wrong ≡ false → test (only b u) ≡ (test u && b)
only_test test true u e = sym (and_true (test u))
only_test test false u e = e ∙ sym (and_false (test u))

-- the ends of a range
range_test : (test : ExprType → Bool) (us : List ExprType) → test types.Wrong ≡ false → test (range_type us) ≡ range test us
range_test test [] e = e
range_test test (u ∷ []) e = e
range_test test (u ∷ v ∷ []) e = only_test test (same_iterators u v) u e
range_test test (u ∷ v ∷ w ∷ us) e = e

-- the tests of ranges
pub range_own : (form : Form) (us : List ExprType) → is_iterator_of form (range_type us) ≡ range (is_iterator_of form) us
range_own form us = range_test (is_iterator_of form) us refl

range_ints : (us : List ExprType) → is_int_iterator (range_type us) ≡ range is_int_iterator us
range_ints us = range_test is_int_iterator us refl

-- a letter that stands for a range of ints
pub ints_taken : (form : Form) (letter : Letter) (us : List ExprType)
    → (letter ≡ l.IntRange) ⊎ ((letter ≡ l.SecondIntRange) ⊎ ((letter ≡ l.WrittenRange) ⊎ (letter ≡ l.RandomAccessRange)))
    → is_int_iterator (range_type us) ≡ letter_takes form letter us
ints_taken form letter us (inl e) = rw e (range_ints us)
ints_taken form letter us (inr (inl e)) = rw e (range_ints us)
ints_taken form letter us (inr (inr (inl e))) = rw e (range_ints us)
ints_taken form letter us (inr (inr (inr e))) = rw e (range_ints us)
