-- The operands of a call that has a type have types, and there are as many as its letters take.
use Rattle.std.proofs.Common.{◌≡◌, Bool, true, false, not, ◌&&◌, List, [], ◌∷◌, ◌++◌, take, drop}
use Rattle.std.proofs.Common.{refl, subst, take-append-drop}
use Rattle.std.specs.List.{list_all}
use Rattle.std.proofs.lemmas.Bool.{and_from}
use Rattle.sl_base.specs.declared.form.Form.{Form}
use Rattle.sl_base.specs.declared.scalar.Scalar.TheVariants as t
use Rattle.sl_specs.specs.declared.letter.Letter.{Letter}
use Rattle.sl_specs.specs.declared.letter.Letter.TheVariants as l
use Rattle.sl_specs.specs.Forms.{same_form, is_keyed}
use Rattle.sl_typing.specs.declared.expr_type.ExprType.{ExprType}
use Rattle.sl_typing.specs.declared.expr_type.ExprType.TheVariants as types
use Rattle.sl_typing.specs.Types.{has_type, only, is_scalar, is_iterator, is_iterator_of, is_writing_iterator, same_iterators, is_container_of}
use Rattle.sl_typing.specs.Types.{is_changed_container, is_int_iterator, is_bidirectional, is_random}
use Rattle.sl_typing.specs.Signatures.{one, optional, range, elements, width}
use Rattle.sl_model.specs.Typing.WellTypedCalls.{fits_letter, fits}
use Rattle.sl_model.proofs.Passing.{first_of_both, second_of_both}

-- what passes a test that `no_type` doesn't pass has a type
pub typed_by : (test : ExprType → Bool) → test types.Wrong ≡ false → (u : ExprType) → test u ≡ true → has_type u ≡ true
typed_by test n types.Wrong h = absurd cc
typed_by test n u h = refl

-- the condition of a type that is there
pub only_holds : (b : Bool) (u : ExprType) → has_type (only b u) ≡ true → b ≡ true
only_holds true u h = refl
only_holds false u h = absurd cc

-- the type behind a condition that holds
pub only_rest : (b : Bool) (u : ExprType) → has_type (only b u) ≡ true → has_type u ≡ true
only_rest true u h = h
only_rest false u h = absurd cc

-- all of these types are there
abbrev pub all_typed : List ExprType → Bool
all_typed us = list_all has_type us

-- an iterator of one type with another has a type
pub second_iterator_typed : (u v : ExprType) → same_iterators u v ≡ true → has_type v ≡ true
second_iterator_typed (types.Iterator b x) types.Wrong h = absurd cc
second_iterator_typed (types.Iterator b x) v h = refl
second_iterator_typed u v h = absurd cc

-- an operand that passes a test has a type
one_typed : (test : ExprType → Bool) → test types.Wrong ≡ false → (us : List ExprType) → one test us ≡ true → all_typed us ≡ true
one_typed test n [] h = absurd cc
one_typed test n (u ∷ []) h = and_from (has_type u) true (typed_by test n u h) refl
one_typed test n (u ∷ v ∷ us) h = absurd cc

-- so has one that may be missing
optional_typed : (test : ExprType → Bool) → test types.Wrong ≡ false → (us : List ExprType) → optional test us ≡ true → all_typed us ≡ true
optional_typed test n [] h = refl
optional_typed test n (u ∷ us) h = one_typed test n (u ∷ us) h

-- so have the two ends of a range
range_typed : (test : ExprType → Bool) → test types.Wrong ≡ false → (us : List ExprType) → range test us ≡ true → all_typed us ≡ true
range_typed test n [] h = absurd cc
range_typed test n (u ∷ []) h = absurd cc
range_typed test n (u ∷ v ∷ []) h = and_from (has_type u) (has_type v && true) (typed_by test n u (first_of_both (test u) (same_iterators u v) h))
    (and_from (has_type v) true (second_iterator_typed u v (second_of_both (test u) (same_iterators u v) h)) refl)
range_typed test n (u ∷ v ∷ w ∷ us) h = absurd cc

-- all that pass such a test have types
all_passing_typed : (test : ExprType → Bool) → test types.Wrong ≡ false → (us : List ExprType) → list_all test us ≡ true → all_typed us ≡ true
all_passing_typed test n [] h = refl
all_passing_typed test n (u ∷ us) h = and_from (has_type u) (all_typed us) (typed_by test n u (first_of_both (test u) (list_all test us) h))
    (all_passing_typed test n us (second_of_both (test u) (list_all test us) h))

-- so have the elements of a list
elements_typed : (us : List ExprType) → elements us ≡ true → all_typed us ≡ true
elements_typed [] h = absurd cc
elements_typed (u ∷ us) h = all_passing_typed (is_scalar t.Int) refl (u ∷ us) h

-- what a letter stands for has types
letter_typed : (form : Form) (letter : Letter) (us : List ExprType) → fits_letter form letter us ≡ true → all_typed us ≡ true
letter_typed form l.Position us h = one_typed (is_iterator_of form) refl us h
letter_typed form l.SplicedPosition us h = one_typed (is_iterator_of form) refl us h
letter_typed form l.OwnRange us h = range_typed (is_iterator_of form) refl us h
letter_typed form l.IntRange us h = range_typed is_int_iterator refl us h
letter_typed form l.SecondIntRange us h = range_typed is_int_iterator refl us h
letter_typed form l.WrittenRange us h = range_typed is_writing_iterator refl us h
letter_typed form l.RandomAccessRange us h = range_typed (λ u. is_writing_iterator u && is_random u) refl us h
letter_typed form l.AnyRange us h = range_typed is_iterator refl us h
letter_typed form l.Count us h = one_typed (is_scalar t.Size) refl us h
letter_typed form l.Element us h = one_typed (is_scalar t.Int) refl us h
letter_typed form l.Key us h = one_typed (is_scalar t.Int) refl us h
letter_typed form l.InitializerList us h = elements_typed us h
letter_typed form l.Container us h = one_typed (is_container_of form) refl us h
letter_typed form l.ChangedContainer us h = one_typed (is_changed_container (same_form form)) refl us h
letter_typed form l.AppendedContainer us h = one_typed (is_changed_container (λ x. not (is_keyed x))) refl us h
letter_typed form l.Int us h = one_typed (is_scalar t.Int) refl us h
letter_typed form l.Output us h = one_typed is_writing_iterator refl us h
letter_typed form l.IteratorVariable us h = one_typed is_iterator refl us h
letter_typed form l.Iterator us h = one_typed is_iterator refl us h
letter_typed form l.BidirectionalIterator us h = one_typed is_bidirectional refl us h
letter_typed form l.Distance us h = one_typed (is_scalar t.Diff) refl us h
letter_typed form l.OptionalDistance us h = optional_typed (is_scalar t.Diff) refl us h

-- two lists of which all have types
joined_typed : (us vs : List ExprType) → all_typed us ≡ true → all_typed vs ≡ true → all_typed (us ++ vs) ≡ true
joined_typed [] vs h k = k
joined_typed (u ∷ us) vs h k = and_from (has_type u) (all_typed (us ++ vs)) (first_of_both (has_type u) (all_typed us) h)
    (joined_typed us vs (second_of_both (has_type u) (all_typed us) h) k)

-- what letters stand for has types
pub fitting_typed : (form : Form) (letters : List Letter) (us : List ExprType) → fits form letters us ≡ true → all_typed us ≡ true
fitting_typed form [] [] h = refl
fitting_typed form [] (u ∷ us) h = absurd cc
fitting_typed form (letter ∷ rest) us h =
    let own = letter_typed form letter (take (width letter us) us)
    (first_of_both (fits_letter form letter (take (width letter us) us)) (fits form rest (drop (width letter us) us)) h) in
    let others = fitting_typed form rest (drop (width letter us) us)
    (second_of_both (fits_letter form letter (take (width letter us) us)) (fits form rest (drop (width letter us) us)) h) in
    subst (λ (vs : List ExprType). all_typed vs ≡ true) (take-append-drop (width letter us) us)
    (joined_typed (take (width letter us) us) (drop (width letter us) us) own others)
