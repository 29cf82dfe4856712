-- What `[ ]` stands on is a name, also one in parentheses: nothing else that breaks no rule is a container, but a call of `std::back_inserter`.
use Rattle.std.proofs.Common.{◌≡◌, ℕ, Bool, true, false, List, [], ◌∷◌, length, take, drop, Option, Some, None, refl, ⊎_elim}
use Rattle.std.specs.Prelude.{not, ◌&&◌, codes}
use Rattle.std.specs.Str.{bytes_eq}
use Rattle.std.proofs.lemmas.Bool.{and_parts, both_ways, cases_Bool}
use Rattle.sl_base.specs.declared.form.Form.{Form}
use Rattle.sl_base.specs.declared.form.Form.TheVariants as f
use Rattle.sl_specs.specs.declared.call.Call.TheVariants as c
use Rattle.sl_specs.specs.declared.letter.Letter.{Letter}
use Rattle.sl_specs.specs.declared.letter.Letter.TheVariants as l
use Rattle.sl_specs.specs.declared.return_type.ReturnType.{ReturnType}
use Rattle.sl_specs.specs.declared.return_type.ReturnType.TheVariants as r
use Rattle.sl_specs.specs.Table.{same_call}
use Rattle.sl_syntax.specs.declared.operator.BinaryOperator.{BinaryOperator}
use Rattle.sl_syntax.specs.declared.operator.BinaryOperator.TheVariants as b
use Rattle.sl_syntax.specs.declared.operator.PrefixOperator.TheVariants as p
use Rattle.sl_syntax.specs.declared.operator.Selector.TheVariants as selector
use Rattle.sl_syntax.specs.declared.typed.parameter.ParameterKind.{ParameterKind}
use Rattle.sl_syntax.specs.declared.typed.parameter.ParameterKind.TheVariants as parameters
use Rattle.sl_syntax.specs.Tree as s
use Rattle.sl_syntax.specs.Tree.{Expr}
use Rattle.sl_typing.specs.declared.expr_type.ExprType.{ExprType}
use Rattle.sl_typing.specs.declared.expr_type.ExprType.TheVariants as types
use Rattle.sl_typing.specs.declared.scope.FunctionHead.{FunctionHead}
use Rattle.sl_typing.specs.declared.scope.Scope.{Scope}
use Rattle.sl_typing.specs.declared.standing.Standing.TheVariants as standing
use Rattle.sl_typing.specs.Types.{is_container, is_iterator, is_int_iterator, value_type}
use Rattle.sl_typing.specs.Signatures.{one, range, first_type, last_type, result_type}
use Rattle.sl_typing.specs.Arguments.{letters_take, letters_seen}
use Rattle.sl_typing.specs.Candidates.{Found, is_candidate, member_row, algorithm_row}
use Rattle.sl_typing.specs.Scopes.{function_named, is_function_named}
use Rattle.sl_typing.specs.TypeOf.{appends, own_type, type_given, element_at, subscript_type, member_type, arithmetic_type, binary_type, part_type}
use Rattle.sl_typing.specs.TypeOf.{arrow_type, is_first, is_back_inserter, algorithm_gives, algorithm_type, type_of, types_of}
use Rattle.sl_typing.specs.Looks.{is_left_side}
use Rattle.sl_typing.specs.Sites.{sites_in, sites_in_all}
use Rattle.sl_typing.specs.WrongType.{can_step, wrong_type}
use Rattle.sl_typing.specs.Rules.{is_lone_appender}
use Rattle.sl_typing.specs.Faults.{faults}
use Rattle.sl_well_typed.proofs.Matching.{is_plain_result}
use Rattle.sl_well_typed.proofs.Names.{all_reversed, found_among}
use Rattle.sl_well_typed.proofs.Parts.{library_call_kept, prefix_kept, postfix_kept, parentheses_kept}
use Rattle.sl_well_typed.proofs.Rows.{found_row, gives_own, gives_fitting, moves_iterator, begin_with_iterator, are_output}
use Rattle.sl_well_typed.proofs.Letters.{first_end, int_is_iterator}
use Rattle.sl_well_typed.proofs.Algorithms.{algorithm_row_is}
use Rattle.sl_well_typed.proofs.AlgorithmCalls.{candidate_is, fine_by_name, mover_gives}
use Rattle.sl_model.proofs.Tells.{AllOf}
use Rattle.sl_typed_numbers.proofs.Counting.{not_not}
use Rattle.sl_typed_numbers.proofs.Referred.{member_row_gives}

-- functions give numbers, iterators or nothing
abbrev pub IsPlain : FunctionHead → Type 0
IsPlain h = is_plain_result h.result ≡ true

abbrev pub ArePlain : List FunctionHead → Type 0
ArePlain hs = AllOf IsPlain hs

-- what a call of one gives
given_none : (k : Option ParameterKind) → is_plain_result k ≡ true → is_container (type_given k) ≡ false
given_none None h = refl
given_none (Some (parameters.Value type)) h = refl
given_none (Some (parameters.Iterator b form)) h = refl
given_none k h = absurd cc

own_none : (o : Option FunctionHead) → ((h : FunctionHead) → o ≡ Some h → IsPlain h) → is_container (own_type o) ≡ false
own_none None plain = refl
own_none (Some h) plain = given_none h.result (plain h refl)

call_none : (g : Scope) → ArePlain g.functions → (name : List ℕ) → is_container (own_type (function_named g name)) ≡ false
call_none g plain name =
    own_none (function_named g name) (found_among IsPlain (is_function_named name) _ (all_reversed IsPlain g.functions plain))

-- an iterator is no container
iterator_none : (u : ExprType) → is_iterator u ≡ true → is_container u ≡ false
iterator_none (types.Iterator b form) h = refl
iterator_none u h = absurd cc

-- the first operand of an algorithm, where its letters begin with an iterator
range_first : (test : ExprType → Bool) (us : List ExprType) → range test (take 2 us) ≡ true → is_container (first_type us) ≡ false
range_first test [] h = refl
range_first test (u ∷ []) h = absurd cc
range_first test (u ∷ v ∷ us) h = iterator_none u (first_end u v (and_parts (test u) _ h).1)

one_first : (us : List ExprType) → one is_iterator (take 1 us) ≡ true → is_container (first_type us) ≡ false
one_first [] h = refl
one_first (u ∷ us) h = iterator_none u h

first_none : (form : Form) (letters : List Letter) (us : List ExprType) → begin_with_iterator letters ≡ true → letters_take form letters us ≡ true
    → is_container (first_type us) ≡ false
first_none form (l.IntRange ∷ rest) us k h =
    range_first is_int_iterator us (and_parts (range is_int_iterator (take 2 us)) (letters_take form rest (drop 2 us)) h).0
first_none form (l.WrittenRange ∷ rest) us k h =
    range_first is_int_iterator us (and_parts (range is_int_iterator (take 2 us)) (letters_take form rest (drop 2 us)) h).0
first_none form (l.RandomAccessRange ∷ rest) us k h =
    range_first is_int_iterator us (and_parts (range is_int_iterator (take 2 us)) (letters_take form rest (drop 2 us)) h).0
first_none form (l.AnyRange ∷ rest) us k h =
    range_first is_iterator us (and_parts (range is_iterator (take 2 us)) (letters_take form rest (drop 2 us)) h).0
first_none form (l.Iterator ∷ rest) us k h = one_first us (and_parts (one is_iterator (take 1 us)) (letters_take form rest (drop 1 us)) h).0
first_none form (l.BidirectionalIterator ∷ rest) us k h =
    one_first us (and_parts (one is_iterator (take 1 us)) (letters_take form rest (drop 1 us)) h).0
first_none form letters us k h = absurd cc

-- also as an appending call sees them
begin_seen : (letters : List Letter) → begin_with_iterator letters ≡ true → begin_with_iterator (letters_seen true letters) ≡ true
begin_seen (l.IntRange ∷ rest) h = refl
begin_seen (l.WrittenRange ∷ rest) h = refl
begin_seen (l.RandomAccessRange ∷ rest) h = refl
begin_seen (l.AnyRange ∷ rest) h = refl
begin_seen (l.Iterator ∷ rest) h = refl
begin_seen (l.BidirectionalIterator ∷ rest) h = refl
begin_seen letters h = absurd cc

-- the output of an algorithm
output_is_iterator : (form : Form) (us : List ExprType) → letters_take form (l.Output ∷ []) us ≡ true → is_iterator (last_type us) ≡ true
output_is_iterator form [] h = absurd cc
output_is_iterator form (u ∷ []) h = int_is_iterator u (and_parts (is_int_iterator u) true h).0
output_is_iterator form (u ∷ v ∷ us) h = let parts = and_parts (is_int_iterator u) false h in absurd cc

behind_range : (test : ExprType → Bool) (us : List ExprType) → range test (take 2 us) ≡ true → is_iterator (last_type (drop 2 us)) ≡ true
    → is_iterator (last_type us) ≡ true
behind_range test [] h last = absurd cc
behind_range test (u ∷ []) h last = absurd cc
behind_range test (u ∷ v ∷ []) h last = absurd cc
behind_range test (u ∷ v ∷ w ∷ us) h last = last

last_is_iterator : (form : Form) (letters : List Letter) (us : List ExprType) → are_output letters ≡ true → letters_take form letters us ≡ true
    → is_iterator (last_type us) ≡ true
last_is_iterator form (l.IntRange ∷ l.Output ∷ []) us k h =
    let parts = and_parts (range is_int_iterator (take 2 us)) (letters_take form (l.Output ∷ []) (drop 2 us)) h in
    behind_range is_int_iterator us parts.0 (output_is_iterator form (drop 2 us) parts.1)
last_is_iterator form (l.IntRange ∷ l.SecondIntRange ∷ l.Output ∷ []) us k h =
    let parts = and_parts (range is_int_iterator (take 2 us)) (letters_take form (l.SecondIntRange ∷ l.Output ∷ []) (drop 2 us)) h in
    behind_range is_int_iterator us parts.0 (last_is_iterator form (l.IntRange ∷ l.Output ∷ []) (drop 2 us) refl parts.1)
last_is_iterator form letters us k h = absurd cc

-- an algorithm gives none, but `back_inserter`
fitting_none : (b : Bool) (gives : ReturnType) (letters : List Letter) (us : List ExprType) → gives_fitting gives letters ≡ true
    → letters_take f.Vector (letters_seen b letters) us ≡ true → is_container (algorithm_gives b gives us) ≡ false
fitting_none true r.Nothing letters us k h = refl
fitting_none false r.Nothing letters us k h = refl
fitting_none true (r.Number q) letters us k h = refl
fitting_none false (r.Number q) letters us k h = refl
fitting_none true r.FirstArgument letters us k h = first_none f.Vector (letters_seen true letters) us (begin_seen letters k) h
fitting_none false r.FirstArgument letters us k h = first_none f.Vector letters us k h
fitting_none true r.Output letters us k h = refl
fitting_none false r.Output letters us k h = iterator_none (last_type us) (last_is_iterator f.Vector letters us k h)
fitting_none b gives letters us k h = absurd cc

meant_none : (b : Bool) (name : List ℕ) (us : List ExprType) (o : Option Found) → algorithm_row b name us ≡ o
    → bytes_eq name (codes "back_inserter") ≡ false
    → is_container (elim o as (λ _. ExprType) [ None ↦ types.Wrong | Some x ↦ algorithm_gives b x.row.gives us ]) ≡ false
meant_none b name us None e other = refl
meant_none b name us (Some x) e other =
    let row = x.row in
    let found = found_row (λ r. is_candidate None name (length us) r && letters_take f.Vector (letters_seen b r.letters) us) x e in
    let tests = and_parts (is_candidate None name (length us) row) (letters_take f.Vector (letters_seen b row.letters) us) found.passes in
    let called = candidate_is name (length us) row tests.0 in
    let is = algorithm_row_is row x.number found.there called.own in
    let fine = fine_by_name row name is called.text in
    ⊎_elim (λ (k : bytes_eq name (codes "advance") ≡ true).
    let both : (moves_iterator row.gives row.letters && same_call c.Advance row.call) ≡ true = rw (other, k) at fine in
    let moves = and_parts (moves_iterator row.gives row.letters) (same_call c.Advance row.call) both in
    rw (mover_gives row.gives row.letters moves.0 b us) refl)
    (λ (k : bytes_eq name (codes "advance") ≡ false).
    let both : (gives_fitting row.gives row.letters && not (same_call c.Advance row.call)) ≡ true = rw (other, k) at fine in
    let fitting = and_parts (gives_fitting row.gives row.letters) (not (same_call c.Advance row.call)) both in
    fitting_none b row.gives row.letters us fitting.0 tests.1)
    (cases_Bool (bytes_eq name (codes "advance")))

-- nor do operators and members
own_row_none : (gives : ReturnType) (b : Bool) (form : Form) (us : List ExprType) → gives_own gives ≡ true
    → is_container (result_type gives b form us) ≡ false
own_row_none r.FirstArgument b form us h = absurd cc
own_row_none r.Output b form us h = absurd cc
own_row_none r.Appender b form us h = absurd cc
own_row_none r.Nothing b form us h = refl
own_row_none (r.Number q) b form us h = refl
own_row_none r.Iterator b form us h = refl
own_row_none r.IteratorAndBool b form us h = refl
own_row_none r.IteratorPair b form us h = refl
own_row_none r.Element b form us h = refl

row_none : (b : Bool) (form : Form) (name : List ℕ) (us : List ExprType) (o : Option Found) → member_row form name us ≡ o
    → is_container (elim o as (λ _. ExprType) [ None ↦ types.Wrong | Some x ↦ result_type x.row.gives b form us ]) ≡ false
row_none b form name us None e = refl
row_none b form name us (Some x) e = own_row_none x.row.gives b form us (member_row_gives form name us x e)

member_none : (u : ExprType) (name : List ℕ) (us : List ExprType) → is_container (member_type u name us) ≡ false
member_none (types.Container access form) name us = row_none _ form name us (member_row form name us) refl
member_none u name us = refl

element_none : (u : ExprType) → is_container (element_at u) ≡ false
element_none (types.Iterator b form) = refl
element_none u = refl

step_none : (u : ExprType) → can_step u ≡ true → is_container (value_type u) ≡ false
step_none (types.Container access form) h = absurd cc
step_none (types.Element w) h = refl
step_none u h = refl

calculated_none : (u v : ExprType) → is_container (arithmetic_type u v) ≡ false
calculated_none (types.Iterator b x) (types.Iterator k y) = refl
calculated_none (types.Iterator b x) v = refl
calculated_none u v = refl

binary_none : (op : BinaryOperator) (u v : ExprType) → is_container (binary_type op u v) ≡ false
binary_none (b.Arithmetic op) u v = calculated_none u v
binary_none op u v = refl

subscript_none : (u : ExprType) → is_container (subscript_type u) ≡ false
subscript_none (types.Container access form) = refl
subscript_none u = refl

part_none : (u : ExprType) (first : Bool) → is_container (part_type u first) ≡ false
part_none (types.IteratorAndBool form) true = refl
part_none (types.IteratorAndBool form) false = refl
part_none (types.IteratorPair b form) first = refl
part_none (types.EntryReference w) first = refl
part_none u first = refl

arrow_none : (u : ExprType) (first : Bool) → is_container (arrow_type u first) ≡ false
arrow_none (types.Iterator b form) first = refl
arrow_none u first = refl

-- what steps can be stepped
steps : (g : Scope) (x : Expr) → not (is_left_side g x && can_step (type_of g x)) ≡ false → can_step (type_of g x) ≡ true
steps g x h = (and_parts (is_left_side g x) (can_step (type_of g x)) (not_not (is_left_side g x && can_step (type_of g x)) h)).1

no_appender : (b : Bool) → (b && true) ≡ false → b ≡ false
no_appender true h = absurd cc
no_appender false h = refl

-- so a container has no site in it
pub container_is_name : (g : Scope) → ArePlain g.functions → (n : ℕ) (e : Expr) → faults g n standing.Plain e ≡ [] → is_container (type_of g e) ≡ true
    → sites_in g e ≡ []
unfolding type_of types_of sites_in sites_in_all wrong_type is_lone_appender
container_is_name g plain n (s.number at k) none is = refl
container_is_name g plain n (s.truth at x) none is = refl
container_is_name g plain n (s.name x) none is = refl
container_is_name g plain n (s.call h xs) none is =
    absurd (both_ways (is_container (own_type (function_named g h.name))) (call_none g plain h.name) is)
container_is_name g plain n (s.library_call h xs) none is =
    let keeps = (library_call_kept g n standing.Plain h xs none).1 in
    let other = no_appender (is_back_inserter (s.library_call h xs)) keeps.appenders in
    let u = algorithm_type (appends h.name xs) h.name (types_of g xs) in
    absurd (both_ways (is_container u) (meant_none (appends h.name xs) h.name (types_of g xs) _ refl other) is)
container_is_name g plain n (s.parentheses at x) none is =
    container_is_name g plain n x (parentheses_kept g n standing.Plain at x none) is
container_is_name g plain n (s.prefix p.Not at x) none is = absurd cc
container_is_name g plain n (s.prefix p.Negate at x) none is = absurd cc
container_is_name g plain n (s.prefix p.Dereference at x) none is =
    absurd (both_ways (is_container (element_at (type_of g x))) (element_none (type_of g x)) is)
container_is_name g plain n (s.prefix p.Increment at x) none is =
    let keeps = (prefix_kept g n standing.Plain p.Increment at x none).1 in
    absurd (both_ways (is_container (value_type (type_of g x))) (step_none (type_of g x) (steps g x keeps.types)) is)
container_is_name g plain n (s.prefix p.Decrement at x) none is =
    let keeps = (prefix_kept g n standing.Plain p.Decrement at x none).1 in
    absurd (both_ways (is_container (value_type (type_of g x))) (step_none (type_of g x) (steps g x keeps.types)) is)
container_is_name g plain n (s.binary x op at y) none is =
    absurd (both_ways (is_container (binary_type op (type_of g x) (type_of g y))) (binary_none op (type_of g x) (type_of g y)) is)
container_is_name g plain n (s.postfix x op at) none is =
    let keeps = (postfix_kept g n standing.Plain x op at none).1 in
    absurd (both_ways (is_container (value_type (type_of g x))) (step_none (type_of g x) (steps g x keeps.types)) is)
container_is_name g plain n (s.index x at y) none is =
    absurd (both_ways (is_container (subscript_type (type_of g x))) (subscript_none (type_of g x)) is)
container_is_name g plain n (s.member_call x h xs) none is =
    absurd (both_ways (is_container (member_type (type_of g x) h.name (types_of g xs))) (member_none (type_of g x) h.name (types_of g xs)) is)
container_is_name g plain n (s.member x selector.Dot at h) none is =
    absurd (both_ways (is_container (part_type (type_of g x) (is_first h.name))) (part_none (type_of g x) (is_first h.name)) is)
container_is_name g plain n (s.member x selector.Arrow at h) none is =
    absurd (both_ways (is_container (arrow_type (type_of g x) (is_first h.name))) (arrow_none (type_of g x) (is_first h.name)) is)
