-- Operands that fit the types of a typed call are of the sorts that the letters of its row stand for.
--
-- A letter for an operand that may be missing stands for all operands that are left, and its sort for the last one: so it has to be the last letter.
use Rattle.std.proofs.Common.{◌≡◌, ℕ, zero, suc, Bool, true, false, not, ◌&&◌, ◌||◌, List, [], ◌∷◌, ◌++◌, length, take, drop, map, Option, Some, None}
use Rattle.std.proofs.Common.{refl, ap, sym, subst, ◌∙◌, arith}
use Rattle.std.specs.List.{slice_get, list_all}
use Rattle.std.proofs.lemmas.List.{take_all}
use Rattle.std.proofs.lemmas.Bool.{and_from}
use denote.Enum.Bare.{true_same}
use Rattle.sl_base.specs.contracts.form.Form.{the_type}
use Rattle.sl_base.specs.declared.form.Form.{Form}
use Rattle.sl_base.specs.declared.scalar.Scalar.{Scalar}
use Rattle.sl_base.specs.declared.scalar.Scalar.TheVariants as t
use Rattle.sl_specs.specs.declared.letter.Letter.{Letter}
use Rattle.sl_specs.specs.declared.letter.Letter.TheVariants as l
use Rattle.sl_specs.specs.Forms.{same_form, is_keyed}
use Rattle.sl_syntax.specs.declared.operator.Access.TheVariants as a
use Rattle.sl_typing.specs.declared.expr_type.ExprType.{ExprType}
use Rattle.sl_typing.specs.declared.expr_type.ExprType.TheVariants as types
use Rattle.sl_typing.specs.Types.{is_scalar, is_iterator, is_iterator_that, is_iterator_of, is_writing_iterator, same_iterators, is_container_of}
use Rattle.sl_typing.specs.Types.{is_changed_container, is_int_iterator, is_bidirectional, is_random}
use Rattle.sl_typing.specs.Signatures.{one, optional, range, elements, width, appending}
use Rattle.sl_model.specs.Memory.Containers.{Cont, Memory, locate}
use Rattle.sl_model.specs.LibraryCalls.Operands.{Sort, a_number, numbers, perhaps_a_number, an_iterator, a_writer, a_container, a_sequence, sorts_of, all_sorts}
use Rattle.sl_model.specs.LibraryCalls.Operands.{is_number, all_numbers, is_of_form, is_sequence, stands_in_sequence, is_of, are_of}
use Rattle.sl_model.specs.LibraryCalls.Values.{Value, number, iterator, container_at}
use Rattle.sl_model.specs.Typing.WellTypedCalls.{fits_letter, fits}
use Rattle.sl_model.proofs.Called.{one_form}
use Rattle.sl_model.proofs.Fitting.{forms_of, StampFits, IsNumber, IsIteratorOf, IsContainerOf, Fits, AllFit}
use Rattle.sl_model.proofs.Getting.{got_map}
use Rattle.sl_model.proofs.Located.{at-locate}
use Rattle.sl_model.proofs.Passing.{first_of_both, second_of_both}

-- a number is of the sort of numbers
pub number_of : (m : Memory) (v : Value) → IsNumber v → is_of m a_number v ≡ true
number_of m (number z) h = refl
number_of m v h = absurd h

-- it may stand where a number may be missing
perhaps_number_of : (m : Memory) (v : Value) → IsNumber v → is_of m perhaps_a_number v ≡ true
perhaps_number_of m (number z) h = refl
perhaps_number_of m v h = absurd h

-- it is one of numbers
one_number : (v : Value) → IsNumber v → is_number v ≡ true
one_number (number z) h = refl
one_number v h = absurd h

-- what is of a type of numbers is a number
pub scalar_fits : (m : Memory) (s : Scalar) (u : ExprType) (v : Value) → is_scalar s u ≡ true → Fits m u v → IsNumber v
scalar_fits m s (types.Scalar r) v h fit = fit
scalar_fits m s (types.Element w) v h fit = fit
scalar_fits m s u v h fit = absurd cc

-- so it is of the sort of numbers
number_fits : (m : Memory) (s : Scalar) (u : ExprType) (v : Value) → is_scalar s u ≡ true → Fits m u v → is_of m a_number v ≡ true
number_fits m s u v h fit = number_of m v (scalar_fits m s u v h fit)

-- an iterator is of the sort of iterators
pub iterator_of : (m : Memory) (form : Form) (v : Value) → IsIteratorOf m form v → is_of m an_iterator v ≡ true
iterator_of m form (iterator stamp) h = refl
iterator_of m form v h = absurd h

-- so is what is of a type of iterators
pub iterator_fits : (m : Memory) (test : Bool → Form → Bool) (u : ExprType) (v : Value) → is_iterator_that test u ≡ true → Fits m u v
    → is_of m an_iterator v ≡ true
iterator_fits m test (types.Iterator b x) v h fit = iterator_of m x v fit
iterator_fits m test u v h fit = absurd cc

-- an iterator of a form without keys stands in a sequence, where it stands
stands_so : (m : Memory) (form : Form) (stamp : ℕ) → not (is_keyed form) ≡ true → StampFits m form stamp
    → stands_in_sequence m (locate m stamp) ≡ true
stands_so m form stamp plain fit = by_place (locate m stamp) refl
  where
    by_place : (o : Option (ℕ × ℕ)) → locate m stamp ≡ o → stands_in_sequence m o ≡ true
    by_place None e = refl
    by_place (Some p) e =
        let at = at-locate m stamp p e in
        let same : at.cont.form ≡ form = fit p.0 p.1 at.cont at.there at.stands in
        ap is_sequence at.there ∙ (ap (λ (x : Form). not (is_keyed x)) same ∙ plain)

-- such an iterator is of the sort of writers
writer_of : (m : Memory) (form : Form) (v : Value) → not (is_keyed form) ≡ true → IsIteratorOf m form v → is_of m a_writer v ≡ true
writer_of m form (iterator stamp) plain h = stands_so m form stamp plain h
writer_of m form v plain h = absurd h

-- what is of a type of iterators that write is of that sort
writer_fits : (m : Memory) (u : ExprType) (v : Value) → is_writing_iterator u ≡ true → Fits m u v → is_of m a_writer v ≡ true
writer_fits m (types.Iterator b x) v h fit = writer_of m x v (second_of_both (not b) (not (is_keyed x)) h) fit
writer_fits m u v h fit = absurd cc

-- a form is itself
pub same_form_self : (x : Form) → same_form x x ≡ true
same_form_self x = true_same the_type x x refl

-- the container with a number among these forms is of the form that is there
pub is_of_this : (m : Memory) (form : Form) (j : ℕ) → slice_get (forms_of m) j ≡ Some form → is_of_form form (slice_get m.conts j) ≡ true
is_of_this m form j h =
    let got = got_map (λ (c : Cont). c.form) m.conts j form h in
    ap (is_of_form form) got.1 ∙ (ap (λ (x : Form). same_form x form) got.2 ∙ same_form_self form)

-- it is a sequence if its form is one
is_sequence_so : (m : Memory) (form : Form) (j : ℕ) → not (is_keyed form) ≡ true → slice_get (forms_of m) j ≡ Some form
    → is_sequence (slice_get m.conts j) ≡ true
is_sequence_so m form j plain h =
    let got = got_map (λ (c : Cont). c.form) m.conts j form h in
    ap is_sequence got.1 ∙ (ap (λ (x : Form). not (is_keyed x)) got.2 ∙ plain)

-- a container of a form is of the sort of containers of that form
container_of : (m : Memory) (form : Form) (v : Value) → IsContainerOf m form v → is_of m (a_container form) v ≡ true
container_of m form (container_at j) h = is_of_this m form j h
container_of m form v h = absurd h

-- a container of a form without keys is of the sort of sequences
sequence_of : (m : Memory) (form : Form) (v : Value) → not (is_keyed form) ≡ true → IsContainerOf m form v → is_of m a_sequence v ≡ true
sequence_of m form (container_at j) plain h = is_sequence_so m form j plain h
sequence_of m form v plain h = absurd h

-- a container of a form that is the same as another is of the sort of that other
container_as : (m : Memory) (form x : Form) (v : Value) → same_form form x ≡ true → IsContainerOf m x v → is_of m (a_container form) v ≡ true
container_as m form x v same h = container_of m form v (subst (λ (y : Form). IsContainerOf m y v) (sym (one_form form x same)) h)

-- what is of a type of containers of a form is of the sort of these
container_fits : (m : Memory) (form : Form) (u : ExprType) (v : Value) → is_container_of form u ≡ true → Fits m u v
    → is_of m (a_container form) v ≡ true
container_fits m form (types.Container a.Elements x) v h fit = absurd cc
container_fits m form (types.Container access x) v h fit = container_as m form x v h fit
container_fits m form u v h fit = absurd cc

-- so is what may be changed
changed_fits : (m : Memory) (form : Form) (u : ExprType) (v : Value) → is_changed_container (same_form form) u ≡ true → Fits m u v
    → is_of m (a_container form) v ≡ true
changed_fits m form (types.Container a.Whole x) v h fit = container_as m form x v h fit
changed_fits m form u v h fit = absurd cc

-- what may be appended to is of the sort of sequences
appended_fits : (m : Memory) (u : ExprType) (v : Value) → is_changed_container (λ x. not (is_keyed x)) u ≡ true → Fits m u v
    → is_of m a_sequence v ≡ true
appended_fits m (types.Container a.Whole x) v h fit = sequence_of m x v h fit
appended_fits m u v h fit = absurd cc

-- a value of a sort before values of their sorts
pub more_of : (m : Memory) (sort : Sort) (sorts : List Sort) (v : Value) (vs : List Value) → is_of m sort v ≡ true → are_of m sorts vs ≡ true
    → are_of m (sort ∷ sorts) (v ∷ vs) ≡ true
more_of m numbers sorts v vs h k = absurd cc
more_of m perhaps_a_number [] v vs h k = and_from (is_of m perhaps_a_number v) (are_of m [] vs) h k
more_of m perhaps_a_number (sort ∷ sorts) v vs h k = and_from (is_of m perhaps_a_number v) (are_of m (sort ∷ sorts) vs) h k
more_of m sort sorts v vs h k = and_from (is_of m sort v) (are_of m sorts vs) h k

-- what is of each type that passes a test is of a sort
abbrev PassAsSort : Memory → (ExprType → Bool) → Sort → Type 0
PassAsSort m test sort = (u : ExprType) (v : Value) → test u ≡ true → Fits m u v → is_of m sort v ≡ true

-- the operand of a letter for one is of its sort, and the others are of theirs
one_of : (m : Memory) (test : ExprType → Bool) (sort : Sort) (sorts : List Sort) (us : List ExprType) (vs : List Value) → PassAsSort m test sort
    → one test (take 1 us) ≡ true → AllFit m us vs → are_of m sorts (drop 1 vs) ≡ true → are_of m (sort ∷ sorts) vs ≡ true
one_of m test sort sorts [] vs each h fit others = absurd cc
one_of m test sort sorts (u ∷ us) [] each h fit others = absurd fit
one_of m test sort sorts (u ∷ us) (v ∷ vs) each h fit others = more_of m sort sorts v vs (each u v h fit.0) others

-- the second of two iterators of one type is an iterator
pub second_of : (m : Memory) (u w : ExprType) (v : Value) → same_iterators u w ≡ true → Fits m w v → is_of m an_iterator v ≡ true
second_of m (types.Iterator b x) (types.Iterator c y) v h fit = iterator_of m y v fit
second_of m u w v h fit = absurd cc

-- so is the first
pub first_of : (m : Memory) (u w : ExprType) (v : Value) → same_iterators u w ≡ true → Fits m u v → is_of m an_iterator v ≡ true
first_of m (types.Iterator b x) w v h fit = iterator_of m x v fit
first_of m u w v h fit = absurd cc

-- the two ends of a range are of their sorts, and the others are of theirs
range_of : (m : Memory) (test : ExprType → Bool) (sort : Sort) (sorts : List Sort) (us : List ExprType) (vs : List Value) → PassAsSort m test sort
    → range test (take 2 us) ≡ true → AllFit m us vs → are_of m sorts (drop 2 vs) ≡ true → are_of m (sort ∷ an_iterator ∷ sorts) vs ≡ true
range_of m test sort sorts [] vs each h fit others = absurd cc
range_of m test sort sorts (u ∷ []) vs each h fit others = absurd cc
range_of m test sort sorts (u ∷ w ∷ us) [] each h fit others = absurd fit
range_of m test sort sorts (u ∷ w ∷ us) (v ∷ []) each h fit others = absurd fit.1
range_of m test sort sorts (u ∷ w ∷ us) (v ∷ y ∷ vs) each h fit others =
    more_of m sort (an_iterator ∷ sorts) v (y ∷ vs) (each u v (first_of_both (test u) (same_iterators u w) h) fit.0)
    (more_of m an_iterator sorts y vs (second_of m u w y (second_of_both (test u) (same_iterators u w) h) fit.1.0) others)

-- ints are numbers
ints_of : (m : Memory) (us : List ExprType) (vs : List Value) → list_all (is_scalar t.Int) us ≡ true → AllFit m us vs → all_numbers vs ≡ true
ints_of m [] [] h fit = refl
ints_of m [] (v ∷ vs) h fit = absurd fit
ints_of m (u ∷ us) [] h fit = absurd fit
ints_of m (u ∷ us) (v ∷ vs) h fit =
    and_from (is_number v) (all_numbers vs)
    (one_number v (scalar_fits m t.Int u v (first_of_both (is_scalar t.Int u) (list_all (is_scalar t.Int) us) h) fit.0))
    (ints_of m us vs (second_of_both (is_scalar t.Int u) (list_all (is_scalar t.Int) us) h) fit.1)

-- the elements of a list are ints
all_ints : (us : List ExprType) → elements us ≡ true → list_all (is_scalar t.Int) us ≡ true
all_ints [] h = absurd cc
all_ints (u ∷ us) h = h

-- the elements of a list are numbers
elements_of : (m : Memory) (us : List ExprType) (vs : List Value) → elements (take (length us) us) ≡ true → AllFit m us vs → all_numbers vs ≡ true
elements_of m us vs h fit =
    let all = subst (λ (ws : List ExprType). elements ws ≡ true) (take_all (length us) us (omega arith)) h in
    ints_of m us vs (all_ints us all) fit

-- an operand that may be missing is a number
perhaps_of : (m : Memory) (s : Scalar) (us : List ExprType) (vs : List Value) → optional (is_scalar s) us ≡ true → AllFit m us vs
    → are_of m (perhaps_a_number ∷ []) vs ≡ true
perhaps_of m s [] [] h fit = refl
perhaps_of m s [] (v ∷ vs) h fit = absurd fit
perhaps_of m s (u ∷ us) [] h fit = absurd fit
perhaps_of m s (u ∷ []) (v ∷ []) h fit =
    more_of m perhaps_a_number [] v [] (perhaps_number_of m v (scalar_fits m s u v h fit.0)) refl
perhaps_of m s (u ∷ []) (v ∷ w ∷ vs) h fit = absurd fit.1
perhaps_of m s (u ∷ w ∷ us) (v ∷ vs) h fit = absurd cc

-- a letter stands for an operand that may be missing
abbrev pub is_optional : Letter → Bool
is_optional l.OptionalDistance = true
is_optional letter = false

-- there are no letters
abbrev pub are_none : List Letter → Bool
are_none [] = true
are_none (letter ∷ rest) = false

-- only the last letter may stand for such an operand
abbrev pub is_last_optional : List Letter → Bool
is_last_optional [] = true
is_last_optional (letter ∷ rest) = (not (is_optional letter) || are_none rest) && is_last_optional rest

-- no letters have no sorts
no_sorts : (form : Form) (rest : List Letter) → are_none rest ≡ true → all_sorts form false rest ≡ []
no_sorts form [] h = refl
no_sorts form (letter ∷ rest) h = absurd cc

-- nothing is left behind a letter for an operand that may be missing
alone : (form : Form) (letter : Letter) (rest : List Letter) → is_last_optional (letter ∷ rest) ≡ true → is_optional letter ≡ true
    → all_sorts form false rest ≡ []
alone form l.OptionalDistance rest h k = no_sorts form rest (first_of_both (are_none rest) (is_last_optional rest) h)
alone form letter rest h k = absurd cc

-- an operand that may be missing, where it is the last
last_of : (m : Memory) (s : Scalar) (sorts : List Sort) (us : List ExprType) (vs : List Value) → sorts ≡ []
    → optional (is_scalar s) (take (length us) us) ≡ true → AllFit m us vs → are_of m (perhaps_a_number ∷ sorts) vs ≡ true
last_of m s sorts us vs e h fit =
    let all = subst (λ (ws : List ExprType). optional (is_scalar s) ws ≡ true) (take_all (length us) us (omega arith)) h in
    subst (λ (more : List Sort). are_of m (perhaps_a_number ∷ more) vs ≡ true) (sym e) (perhaps_of m s us vs all fit)

-- the operands of a letter are of its sorts, and the others are of theirs
letter_of : (m : Memory) (form : Form) (letter : Letter) (sorts : List Sort) (us : List ExprType) (vs : List Value)
    → (is_optional letter ≡ true → sorts ≡ []) → fits_letter form letter (take (width letter us) us) ≡ true → AllFit m us vs
    → are_of m sorts (drop (width letter us) vs) ≡ true → are_of m (sorts_of form false letter ++ sorts) vs ≡ true
letter_of m form l.Position sorts us vs last h fit others = one_of m (is_iterator_of form) an_iterator sorts us vs (iterator_fits m _) h fit others
letter_of m form l.SplicedPosition sorts us vs last h fit others =
    one_of m (is_iterator_of form) an_iterator sorts us vs (iterator_fits m _) h fit others
letter_of m form l.OwnRange sorts us vs last h fit others = range_of m (is_iterator_of form) an_iterator sorts us vs (iterator_fits m _) h fit others
letter_of m form l.IntRange sorts us vs last h fit others = range_of m is_int_iterator an_iterator sorts us vs (iterator_fits m _) h fit others
letter_of m form l.SecondIntRange sorts us vs last h fit others = range_of m is_int_iterator an_iterator sorts us vs (iterator_fits m _) h fit others
letter_of m form l.WrittenRange sorts us vs last h fit others = range_of m is_writing_iterator a_writer sorts us vs (writer_fits m) h fit others
letter_of m form l.RandomAccessRange sorts us vs last h fit others =
    range_of m (λ u. is_writing_iterator u && is_random u) a_writer sorts us vs
    (λ u v k. writer_fits m u v (first_of_both (is_writing_iterator u) (is_random u) k)) h fit others
letter_of m form l.AnyRange sorts us vs last h fit others = range_of m is_iterator an_iterator sorts us vs (iterator_fits m _) h fit others
letter_of m form l.Count sorts us vs last h fit others = one_of m (is_scalar t.Size) a_number sorts us vs (number_fits m t.Size) h fit others
letter_of m form l.Element sorts us vs last h fit others = one_of m (is_scalar t.Int) a_number sorts us vs (number_fits m t.Int) h fit others
letter_of m form l.Key sorts us vs last h fit others = one_of m (is_scalar t.Int) a_number sorts us vs (number_fits m t.Int) h fit others
letter_of m form l.InitializerList sorts us vs last h fit others = elements_of m us vs h fit
letter_of m form l.Container sorts us vs last h fit others =
    one_of m (is_container_of form) (a_container form) sorts us vs (container_fits m form) h fit others
letter_of m form l.ChangedContainer sorts us vs last h fit others =
    one_of m (is_changed_container (same_form form)) (a_container form) sorts us vs (changed_fits m form) h fit others
letter_of m form l.AppendedContainer sorts us vs last h fit others =
    one_of m (is_changed_container (λ x. not (is_keyed x))) a_sequence sorts us vs (appended_fits m) h fit others
letter_of m form l.Int sorts us vs last h fit others = one_of m (is_scalar t.Int) a_number sorts us vs (number_fits m t.Int) h fit others
letter_of m form l.Output sorts us vs last h fit others = one_of m is_writing_iterator a_writer sorts us vs (writer_fits m) h fit others
letter_of m form l.IteratorVariable sorts us vs last h fit others = one_of m is_iterator an_iterator sorts us vs (iterator_fits m _) h fit others
letter_of m form l.Iterator sorts us vs last h fit others = one_of m is_iterator an_iterator sorts us vs (iterator_fits m _) h fit others
letter_of m form l.BidirectionalIterator sorts us vs last h fit others =
    one_of m is_bidirectional an_iterator sorts us vs (iterator_fits m _) h fit others
letter_of m form l.Distance sorts us vs last h fit others = one_of m (is_scalar t.Diff) a_number sorts us vs (number_fits m t.Diff) h fit others
letter_of m form l.OptionalDistance sorts us vs last h fit others = last_of m t.Diff sorts us vs (last refl) h fit

-- without the first operands, what fits types fits the others
pub drop_fit : (m : Memory) (n : ℕ) (us : List ExprType) (vs : List Value) → AllFit m us vs → AllFit m (drop n us) (drop n vs)
drop_fit m zero us vs fit = fit
drop_fit m (suc n) [] [] fit = tt
drop_fit m (suc n) [] (v ∷ vs) fit = absurd fit
drop_fit m (suc n) (u ∷ us) [] fit = absurd fit
drop_fit m (suc n) (u ∷ us) (v ∷ vs) fit = drop_fit m n us vs fit.1

-- operands of types that are what letters stand for are of the sorts of these, where only the last letter's may be missing
pub operands_of : (m : Memory) (form : Form) (letters : List Letter) (us : List ExprType) (vs : List Value) → is_last_optional letters ≡ true
    → fits form letters us ≡ true → AllFit m us vs → are_of m (all_sorts form false letters) vs ≡ true
operands_of m form [] [] [] last h fit = refl
operands_of m form [] [] (v ∷ vs) last h fit = absurd fit
operands_of m form [] (u ∷ us) vs last h fit = absurd cc
operands_of m form (letter ∷ rest) us vs last h fit =
    let own = first_of_both (fits_letter form letter (take (width letter us) us)) (fits form rest (drop (width letter us) us)) h in
    let more = second_of_both (fits_letter form letter (take (width letter us) us)) (fits form rest (drop (width letter us) us)) h in
    let others = operands_of m form rest (drop (width letter us) us) (drop (width letter us) vs)
    (second_of_both (not (is_optional letter) || are_none rest) (is_last_optional rest) last) more (drop_fit m (width letter us) us vs fit) in
    letter_of m form letter (all_sorts form false rest) us vs (alone form letter rest last) own fit others

-- an output that is an appender is of the sort of what is appended to
appended_sorts : (form : Form) (letter : Letter) → sorts_of form true letter ≡ sorts_of form false (appending letter)
appended_sorts form l.Output = refl
appended_sorts form letter = refl

-- so are the operands of an algorithm that appends
pub all_appended_sorts : (form : Form) (letters : List Letter) → all_sorts form true letters ≡ all_sorts form false (map appending letters)
all_appended_sorts form [] = refl
all_appended_sorts form (letter ∷ rest) =
    ap (λ (sorts : List Sort). sorts ++ all_sorts form true rest) (appended_sorts form letter)
    ∙ ap (λ (sorts : List Sort). sorts_of form false (appending letter) ++ sorts) (all_appended_sorts form rest)

-- no other letter becomes one whose operand may be missing
still_optional : (letter : Letter) → is_optional (appending letter) ≡ is_optional letter
still_optional l.Output = refl
still_optional letter = refl

-- no letters stay none
still_none : (letters : List Letter) → are_none (map appending letters) ≡ are_none letters
still_none [] = refl
still_none (letter ∷ rest) = refl

-- only the last letter may stand for such an operand, as before
still_last : (letters : List Letter) → is_last_optional (map appending letters) ≡ is_last_optional letters
still_last [] = refl
still_last (letter ∷ rest) = rw (still_optional letter, still_none rest, still_last rest) refl

-- operands of an algorithm that appends are of the sorts of its letters
pub appended_operands_of : (m : Memory) (form : Form) (letters : List Letter) (us : List ExprType) (vs : List Value)
    → is_last_optional letters ≡ true → fits form (map appending letters) us ≡ true → AllFit m us vs
    → are_of m (all_sorts form true letters) vs ≡ true
appended_operands_of m form letters us vs last h fit =
    ap (λ (sorts : List Sort). are_of m sorts vs) (all_appended_sorts form letters)
    ∙ operands_of m form (map appending letters) us vs (still_last letters ∙ last) h fit
