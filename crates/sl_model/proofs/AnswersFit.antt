-- What a call gives fits its type, by its answer: an iterator fits the form of its container, and an element that is there is one.
use Rattle.std.proofs.Common.{◌≡◌, ℕ, suc, ◌-◌, Bool, true, false, List, [], ◌∷◌, Some, None, length, refl, sym, subst, arith}
use Rattle.std.specs.Prelude.{slice_index_or}
use Rattle.std.specs.List.{slice_get}
use Rattle.sl_base.specs.declared.form.Form.{Form}
use Rattle.sl_specs.specs.declared.return_type.ReturnType.{ReturnType}
use Rattle.sl_specs.specs.declared.return_type.ReturnType.TheVariants as returns
use Rattle.sl_typing.specs.declared.expr_type.ExprType.{ExprType}
use Rattle.sl_typing.specs.declared.expr_type.ExprType.TheVariants as types
use Rattle.sl_typing.specs.Types.{is_iterator}
use Rattle.sl_typing.specs.Signatures.{first_type, last_type, result_type}
use Rattle.sl_model.specs.Memory.Containers.{Memory}
use Rattle.sl_model.specs.LibraryCalls.Values.{Value, nothing as no_result, number, iterator, pair, two, scalar_at, container_at, element_at}
use Rattle.sl_model.specs.LibraryCalls.Values.{a_number, a_stamp, a_pair, two_stamps, an_element}
use Rattle.sl_model.specs.LibraryCalls.Situation.{Situation, argument, place_of}
use Rattle.sl_model.specs.LibraryCalls.Needs.{first_failure}
use Rattle.sl_model.specs.LibraryCalls.Actions.{Answer, nothing, gives_number, gives_place, gives_place_and, gives_places, gives_element, never}
use Rattle.sl_model.specs.LibraryCalls.Rows.{of_first, Row, shape_of_return}
use Rattle.sl_model.specs.LibraryCalls.Library.{value_in}
use Rattle.sl_model.specs.Runs.Good.{IsSound}
use Rattle.sl_model.proofs.Called.{IsCalled}
use Rattle.sl_model.proofs.Placing.{IsPlaced}
use Rattle.sl_model.proofs.Tells.{shape_of_answer, memory_after}
use Rattle.sl_model.proofs.Fitting.{forms_of, KeepsForms, IsNumber, IsIteratorOf, IsPairOf, AreTwoOf, Fits, AllFit, IsElement, IsGiven}
use Rattle.sl_model.proofs.GivenIn.{AnswerIsIn, ElementIsThere, OperandStands, operand_given, place_fits, operand_form, form_kept, element_read}

-- a row was called, its needs hold and nothing stops it; what it leaves is sound, and each container keeps its form
pub record IsCarriedOut (more : List Form) (r : Row) (s : Situation) : Type 0 where
  pub called : IsCalled r s
  pub needs : first_failure (r.fails s) ≡ None
  pub goes : r.action.stops s ≡ never
  pub sound : IsSound (memory_after r s)
  pub kept : KeepsForms more s.memory (memory_after r s)

-- what a row gives fits a type, in the memory after the call
abbrev pub RowGives : Row → Situation → ExprType → Type 0
RowGives r s u = IsGiven (memory_after r s) u (value_in (memory_after r s) (r.action.answer s))

-- ## By the shape of the answer

-- a number
pub number_given : (t : Memory) (answer : Answer) → shape_of_answer answer ≡ a_number → IsNumber (value_in t answer)
number_given t nothing e = absurd (cc)
number_given t (gives_number z) e = tt
number_given t (gives_place j k) e = absurd (cc)
number_given t (gives_place_and j k b) e = absurd (cc)
number_given t (gives_places j k i) e = absurd (cc)
number_given t (gives_element j k part) e = absurd (cc)

-- an element
pub element_given : (t : Memory) (answer : Answer) → shape_of_answer answer ≡ an_element → ElementIsThere t answer → IsElement t (value_in t answer)
element_given t nothing e there = absurd (cc)
element_given t (gives_number z) e there = absurd (cc)
element_given t (gives_place j k) e there = absurd (cc)
element_given t (gives_place_and j k b) e there = absurd (cc)
element_given t (gives_places j k i) e there = absurd (cc)
element_given t (gives_element j k part) e there = element_read t j k there

module _ (t : Memory) (form : Form) (j : ℕ) (sound : IsSound t) (at : slice_get (forms_of t) j ≡ Some form) where
  -- a container that is the one of a form is of the form
  of_form_too : (i : ℕ) → i ≡ j → slice_get (forms_of t) i ≡ Some form
  of_form_too i same = subst (λ (x : ℕ). slice_get (forms_of t) x ≡ Some form) (sym same) at

  -- an iterator
  pub place_given : (answer : Answer) → shape_of_answer answer ≡ a_stamp → AnswerIsIn j answer → IsPlaced t answer
      → IsIteratorOf t form (value_in t answer)
  place_given nothing e same placed = absurd (cc)
  place_given (gives_number z) e same placed = absurd (cc)
  place_given (gives_place i k) e same placed = place_fits t i k form sound placed (of_form_too i same)
  place_given (gives_place_and i k b) e same placed = absurd (cc)
  place_given (gives_places i k h) e same placed = absurd (cc)
  place_given (gives_element i k part) e same placed = absurd (cc)

  -- an iterator with a bool
  pub pair_given : (answer : Answer) → shape_of_answer answer ≡ a_pair → AnswerIsIn j answer → IsPlaced t answer → IsPairOf t form (value_in t answer)
  pair_given nothing e same placed = absurd (cc)
  pair_given (gives_number z) e same placed = absurd (cc)
  pair_given (gives_place i k) e same placed = absurd (cc)
  pair_given (gives_place_and i k b) e same placed = place_fits t i k form sound placed (of_form_too i same)
  pair_given (gives_places i k h) e same placed = absurd (cc)
  pair_given (gives_element i k part) e same placed = absurd (cc)

  -- two iterators
  pub two_given : (answer : Answer) → shape_of_answer answer ≡ two_stamps → AnswerIsIn j answer → IsPlaced t answer
      → AreTwoOf t form (value_in t answer)
  two_given nothing e same placed = absurd (cc)
  two_given (gives_number z) e same placed = absurd (cc)
  two_given (gives_place i k) e same placed = absurd (cc)
  two_given (gives_place_and i k b) e same placed = absurd (cc)
  two_given (gives_places i k h) e same placed =
      (place_fits t i k form sound placed.0 (of_form_too i same), place_fits t i h form sound placed.1 (of_form_too i same))
  two_given (gives_element i k part) e same placed = absurd (cc)

-- what a call gives that is of its object, and of no operand
abbrev pub is_own : ReturnType → Bool
is_own returns.FirstArgument = false
is_own returns.Output = false
is_own returns.Appender = false
is_own gives = true

-- so it is of the type of the result, on an object of a form
pub own_given : (gives : ReturnType) (t : Memory) (form : Form) (b : Bool) (us : List ExprType) (j : ℕ) (answer : Answer) → is_own gives ≡ true
    → shape_of_answer answer ≡ shape_of_return gives → AnswerIsIn j answer → ElementIsThere t answer → IsSound t → IsPlaced t answer
    → slice_get (forms_of t) j ≡ Some form → IsGiven t (result_type gives b form us) (value_in t answer)
own_given returns.Nothing t form b us j answer own e same there sound placed at = tt
own_given (returns.Number ty) t form b us j answer own e same there sound placed at = number_given t answer e
own_given returns.Iterator t form b us j answer own e same there sound placed at = place_given t form j sound at answer e same placed
own_given returns.IteratorAndBool t form b us j answer own e same there sound placed at = pair_given t form j sound at answer e same placed
own_given returns.IteratorPair t form b us j answer own e same there sound placed at = two_given t form j sound at answer e same placed
own_given returns.Element t form b us j answer own e same there sound placed at = element_given t answer e there
own_given returns.FirstArgument t form b us j answer own e same there sound placed at = absurd (cc)
own_given returns.Output t form b us j answer own e same there sound placed at = absurd (cc)
own_given returns.Appender t form b us j answer own e same there sound placed at = absurd (cc)

-- ## By the operand that stands in the container of what is given

-- the form of the container in which an iterator of a form stands
iterator_form : (s : Situation) (a : ℕ) (p : ℕ × ℕ) (form : Form) (v : Value) → argument s a ≡ v → IsIteratorOf s.memory form v
    → place_of s a ≡ Some p → slice_get (forms_of s.memory) p.0 ≡ Some form
iterator_form s a p form no_result e fits there = absurd (fits)
iterator_form s a p form (number z) e fits there = absurd (fits)
iterator_form s a p form (iterator stamp) e fits there = operand_form s a p form stamp e fits there
iterator_form s a p form (pair t b) e fits there = absurd (fits)
iterator_form s a p form (two t u) e fits there = absurd (fits)
iterator_form s a p form (scalar_at l) e fits there = absurd (fits)
iterator_form s a p form (container_at l) e fits there = absurd (fits)
iterator_form s a p form (element_at i j part) e fits there = absurd (fits)

module _ (s : Situation) (a : ℕ) (t : Memory) (kept : KeepsForms [] s.memory t) (sound : IsSound t) where
  -- an iterator of the form of the operand
  moved_given : (form : Form) (answer : Answer) → shape_of_answer answer ≡ a_stamp → OperandStands of_first s a answer → IsPlaced t answer
      → IsIteratorOf s.memory form (argument s a) → IsIteratorOf t form (value_in t answer)
  moved_given form nothing e stood placed fits = absurd (cc)
  moved_given form (gives_number z) e stood placed fits = absurd (cc)
  moved_given form (gives_place j k) e stood placed fits =
      let before = iterator_form s a (j, _) form (argument s a) refl fits stood in
      place_fits t j k form sound placed (form_kept s.memory t [] j form kept before)
  moved_given form (gives_place_and j k b) e stood placed fits = absurd (cc)
  moved_given form (gives_places j k i) e stood placed fits = absurd (cc)
  moved_given form (gives_element j k part) e stood placed fits = absurd (cc)

  -- what is of the type of the operand, where that is one of iterators
  pub operand_type_given : (u : ExprType) (answer : Answer) → is_iterator u ≡ true → Fits s.memory u (argument s a)
      → shape_of_answer answer ≡ a_stamp → OperandStands of_first s a answer → IsPlaced t answer → IsGiven t u (value_in t answer)
  operand_type_given types.Wrong answer is fits e stood placed = absurd (cc)
  operand_type_given types.Nothing answer is fits e stood placed = tt
  operand_type_given (types.Scalar r) answer is fits e stood placed = absurd (cc)
  operand_type_given (types.Element w) answer is fits e stood placed = absurd (cc)
  operand_type_given (types.Iterator b x) answer is fits e stood placed = moved_given x answer e stood placed fits
  operand_type_given (types.IteratorAndBool x) answer is fits e stood placed = absurd (cc)
  operand_type_given (types.IteratorPair b x) answer is fits e stood placed = absurd (cc)
  operand_type_given (types.Container access x) answer is fits e stood placed = absurd (cc)
  operand_type_given (types.Handed r) answer is fits e stood placed = absurd (cc)
  operand_type_given (types.IntReference w) answer is fits e stood placed = absurd (cc)
  operand_type_given (types.EntryReference w) answer is fits e stood placed = absurd (cc)

-- ## The first and the last of the operands

-- the first value fits the first type
first_fits : (m : Memory) (us : List ExprType) (vs : List Value) → is_iterator (first_type us) ≡ true → AllFit m us vs
    → Fits m (first_type us) (slice_index_or vs 0 no_result)
first_fits m [] vs is fits = absurd (cc)
first_fits m (u ∷ us) [] is fits = absurd (fits)
first_fits m (u ∷ us) (v ∷ vs) is fits = fits.0

-- the last value fits the last type
last_fits : (m : Memory) (us : List ExprType) (vs : List Value) → is_iterator (last_type us) ≡ true → AllFit m us vs
    → Fits m (last_type us) (slice_index_or vs (length vs - 1) no_result)
last_fits m [] vs is fits = absurd (cc)
last_fits m (u ∷ us) [] is fits = absurd (fits)
last_fits m (u ∷ []) (v ∷ []) is fits = fits.0
last_fits m (u ∷ []) (v ∷ w ∷ vs) is fits = absurd (fits.1)
last_fits m (u ∷ r ∷ us) (v ∷ []) is fits = absurd (fits.1)
last_fits m (u ∷ r ∷ us) (v ∷ w ∷ vs) is fits =
    subst (λ (i : ℕ). Fits m (last_type (r ∷ us)) (slice_index_or (v ∷ w ∷ vs) i no_result)) (one_less (length vs))
    (last_fits m (r ∷ us) (w ∷ vs) is fits.1)
  where
    one_less : (n : ℕ) → suc (suc n - 1) ≡ suc (suc n) - 1
    one_less n = omega arith

-- the type of the operand in whose container the answer is
abbrev pub type_given : Bool → List ExprType → ExprType
type_given true us = last_type us
type_given false us = first_type us

-- that operand fits it
pub operand_fits : (last : Bool) (s : Situation) (us : List ExprType) → is_iterator (type_given last us) ≡ true → AllFit s.memory us s.values
    → Fits s.memory (type_given last us) (argument s (operand_given last s))
operand_fits true s us is fits = last_fits s.memory us s.values is fits
operand_fits false s us is fits = first_fits s.memory us s.values is fits
