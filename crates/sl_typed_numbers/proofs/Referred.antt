-- What a reference is bound to is an element that a call gives.
use Rattle.std.proofs.Common.{◌≡◌, ℕ, Bool, true, false, List, [], Option, Some, None, refl}
use Rattle.std.specs.Prelude.{not, is_none, length, ◌&&◌, ◌||◌}
use Rattle.std.specs.List.{list_any}
use Rattle.std.specs.Str.{bytes_eq}
use Rattle.std.proofs.lemmas.Bool.{and_parts}
use Rattle.sl_base.specs.declared.form.Form.{Form}
use Rattle.sl_base.specs.declared.place.Place.{Place}
use Rattle.sl_specs.specs.declared.call.Call.TheVariants as c
use Rattle.sl_specs.specs.declared.return_type.ReturnType.{ReturnType}
use Rattle.sl_specs.specs.declared.return_type.ReturnType.TheVariants as r
use Rattle.sl_specs.specs.Forms.{same_object}
use Rattle.sl_specs.specs.Rows.{Row}
use Rattle.sl_specs.specs.Table.{same_call}
use Rattle.sl_specs.specs.Texts.{call_text}
use Rattle.sl_syntax.specs.declared.operator.BinaryOperator.{BinaryOperator}
use Rattle.sl_syntax.specs.declared.operator.BinaryOperator.TheVariants as b
use Rattle.sl_syntax.specs.declared.operator.PrefixOperator.TheVariants as p
use Rattle.sl_syntax.specs.declared.operator.Selector.TheVariants as l
use Rattle.sl_syntax.specs.declared.typed.head.Head.{Head}
use Rattle.sl_syntax.specs.declared.typed.parameter.ParameterKind.{ParameterKind}
use Rattle.sl_syntax.specs.declared.typed.parameter.ParameterKind.TheVariants as parameters
use Rattle.sl_syntax.specs.Tree as s
use Rattle.sl_syntax.specs.Tree.{Expr}
use Rattle.sl_syntax.specs.Typed.{Operands}
use Rattle.sl_typing.specs.declared.expr_type.ExprType.{ExprType}
use Rattle.sl_typing.specs.declared.expr_type.ExprType.TheVariants as types
use Rattle.sl_typing.specs.declared.scope.FunctionHead.{FunctionHead}
use Rattle.sl_typing.specs.declared.scope.Scope.{Scope}
use Rattle.sl_typing.specs.declared.standing.Standing.{Standing}
use Rattle.sl_typing.specs.Types.{is_element, is_container, is_number, is_const, value_type}
use Rattle.sl_typing.specs.Signatures.{is_algorithm, result_type}
use Rattle.sl_typing.specs.Arguments.{letters_take, takes_count}
use Rattle.sl_typing.specs.Candidates.{Found, is_candidate, is_called, is_named, is_row_of, member_row, subscript_row}
use Rattle.sl_typing.specs.Scopes.{function_named}
use Rattle.sl_typing.specs.TypeOf.{appends, own_type, type_given, binary_type, arithmetic_type, member_type, algorithm_type, type_of, types_of}
use Rattle.sl_typing.specs.WrongType.{fits_algorithm, wrong_type}
use Rattle.sl_typing.specs.Rules.{has_no_subscript, no_such_call}
use Rattle.sl_typing.specs.Ranges.{may_be_bound}
use Rattle.sl_typing.specs.Faults.{faults}
use Rattle.sl_typing.specs.Numbering.{row_call, called_row, row_of_subscript, row_of_member, typed, operands}
use Rattle.sl_well_typed.proofs.AlgorithmTypes.{stands_alone, algorithm_stands}
use Rattle.sl_well_typed.proofs.Bound.{is_called_element}
use Rattle.sl_well_typed.proofs.Parts.{library_call_kept, index_kept}
use Rattle.sl_well_typed.proofs.Rows.{found_row, row_is_fine, is_fine, is_member_fine, is_subscript_fine, is_algorithm_fine, is_output_fine}
use Rattle.sl_well_typed.proofs.Rows.{is_output_given}
use Rattle.sl_well_typed.proofs.Rows.{gives_own, gives_element, are_one_number, needs_strength}

both_ways : (x : Bool) → x ≡ false → x ≡ true → ⊥
both_ways x h k = cc

not_false : (x : Bool) → not x ≡ false → x ≡ true
not_false true h = refl
not_false false h = absurd cc

-- what holds where a test does
where_true : (x y : Bool) → (not x || y) ≡ true → x ≡ true → y ≡ true
where_true true y h k = h
where_true false y h k = absurd cc

where_false : (x y : Bool) → (x || y) ≡ true → x ≡ false → y ≡ true
where_false true y h k = absurd cc
where_false false y h k = h

-- types that are no elements
given_none : (k : Option ParameterKind) → is_element (type_given k) ≡ false
given_none None = refl
given_none (Some (parameters.Value s)) = refl
given_none (Some (parameters.Reference s)) = refl
given_none (Some (parameters.Container access form)) = refl
given_none (Some (parameters.Iterator k form)) = refl

own_none : (h : Option FunctionHead) → is_element (own_type h) ≡ false
own_none None = refl
own_none (Some h) = given_none h.result

value_none : (u : ExprType) → is_element (value_type u) ≡ false
value_none (types.Element w) = refl
value_none types.Wrong = refl
value_none types.Nothing = refl
value_none u = refl

arithmetic_none : (u v : ExprType) → is_element (arithmetic_type u v) ≡ false
arithmetic_none (types.Iterator k x) (types.Iterator j y) = refl
arithmetic_none (types.Iterator k x) v = refl
arithmetic_none u v = refl

binary_none : (op : BinaryOperator) (u v : ExprType) → is_element (binary_type op u v) ≡ false
binary_none (b.Arithmetic op) u v = arithmetic_none u v
binary_none op u v = refl

alone_none : (u : ExprType) → stands_alone u ≡ true → is_element u ≡ false
alone_none (types.Element w) h = absurd cc
alone_none u h = refl

-- what the rows of members, and of `[ ]`, are
fine_parts : (row : Row) → is_fine row ≡ true → (is_member_fine row ≡ true) × (is_subscript_fine row ≡ true)
fine_parts row fine =
    let f4 = and_parts (is_member_fine row && is_subscript_fine row && is_algorithm_fine row && is_output_fine row) (is_output_given row) fine in
    let f3 = and_parts (is_member_fine row && is_subscript_fine row && is_algorithm_fine row) (is_output_fine row) f4.0 in
    let f2 = and_parts (is_member_fine row && is_subscript_fine row) (is_algorithm_fine row) f3.0 in
    and_parts (is_member_fine row) (is_subscript_fine row) f2.0

-- `[ ]` of a container
gives_called : (gives : ReturnType) (h : Head) (es : Operands) → gives_element gives ≡ true → is_called_element (row_call gives h es) ≡ true
gives_called r.Element h es k = refl
gives_called gives h es k = absurd cc

subscript_row_gives : (form : Form) (x : Found) → subscript_row form ≡ Some x → gives_element x.row.gives ≡ true
subscript_row_gives form x e =
    let found = found_row (is_row_of form c.Subscript) x e in
    let row = x.row in
    let fine = row_is_fine x.number row found.there in
    let mine = (fine_parts row fine).1 in
    let called = (and_parts (same_object row.form (Some form)) (same_call row.call c.Subscript) found.passes).1 in
    let both = where_true (same_call row.call c.Subscript) (are_one_number row.letters && gives_element row.gives) mine called in
    (and_parts (are_one_number row.letters) (gives_element row.gives) both).1

subscript_found : (form : Form) (o : Option Found) (at : Place) (site : Option ℕ) (k : ℕ) (names : List (Option ℕ)) (es : Operands)
    → subscript_row form ≡ o → is_none o ≡ false → is_called_element (called_row o at site k names es) ≡ true
subscript_found form None at site k names es e there = absurd cc
subscript_found form (Some x) at site k names es e there = gives_called x.row.gives _ es (subscript_row_gives form x e)

subscript_called : (u : ExprType) (at : Place) (site : Option ℕ) (k : ℕ) (names : List (Option ℕ)) (es : Operands) → is_container u ≡ true
    → has_no_subscript u ≡ false → is_called_element (called_row (row_of_subscript u) at site k names es) ≡ true
subscript_called (types.Container access form) at site k names es is there = subscript_found form (subscript_row form) at site k names es refl there
subscript_called u at site k names es is there = absurd cc

-- a member call
no_algorithm : (o : Option Form) (form : Form) → same_object o (Some form) ≡ true → same_object o None ≡ false
no_algorithm None form h = absurd cc
no_algorithm (Some x) form h = refl

own_called : (gives : ReturnType) (constant : Bool) (form : Form) (us : List ExprType) (h : Head) (es : Operands) → gives_own gives ≡ true
    → is_element (result_type gives constant form us) ≡ true → is_called_element (row_call gives h es) ≡ true
own_called r.Element constant form us h es own may = refl
own_called r.FirstArgument constant form us h es own may = absurd cc
own_called r.Output constant form us h es own may = absurd cc
own_called r.Appender constant form us h es own may = absurd cc
own_called r.Nothing constant form us h es own may = absurd cc
own_called (r.Number s) constant form us h es own may = absurd cc
own_called r.Iterator constant form us h es own may = absurd cc
own_called r.IteratorAndBool constant form us h es own may = absurd cc
own_called r.IteratorPair constant form us h es own may = absurd cc

pub member_row_gives : (form : Form) (name : List ℕ) (us : List ExprType) (x : Found) → member_row form name us ≡ Some x
    → gives_own x.row.gives ≡ true
member_row_gives form name us x e =
    let found = found_row (λ row. is_candidate (Some form) name (length us) row && letters_take form row.letters us) x e in
    let row = x.row in
    let fine = row_is_fine x.number row found.there in
    let mine = (fine_parts row fine).0 in
    let candidate = (and_parts (is_candidate (Some form) name (length us) row) (letters_take form row.letters us) found.passes).0 in
    let called = (and_parts (is_called (Some form) name row) (takes_count row.letters (length us)) candidate).0 in
    let named = (and_parts (same_object row.form (Some form) && is_named row.call) (bytes_eq (call_text row.call) name) called).0 in
    let owned = (and_parts (same_object row.form (Some form)) (is_named row.call) named).0 in
    let gives = gives_own row.gives && not (same_call c.Advance row.call) in
    let strong = not (list_any needs_strength row.letters) in
    let rest = where_false (is_algorithm row) (gives && strong) mine (no_algorithm row.form form owned) in
    (and_parts (gives_own row.gives) (not (same_call c.Advance row.call)) (and_parts gives strong rest).0).0

member_found : (access : Bool) (form : Form) (name : List ℕ) (us : List ExprType) (o : Option Found) (at : Place) (site : Option ℕ) (k : ℕ)
    (names : List (Option ℕ)) (es : Operands) → member_row form name us ≡ o
    → is_element (elim o as (λ _. ExprType) [ None ↦ types.Wrong | Some x ↦ result_type x.row.gives access form us ]) ≡ true
    → is_called_element (called_row o at site k names es) ≡ true
member_found access form name us None at site k names es e may = absurd cc
member_found access form name us (Some x) at site k names es e may =
    own_called x.row.gives access form us _ es (member_row_gives form name us x e) may

member_called : (u : ExprType) (name : List ℕ) (us : List ExprType) (at : Place) (site : Option ℕ) (k : ℕ) (names : List (Option ℕ)) (es : Operands)
    → is_element (member_type u name us) ≡ true → is_called_element (called_row (row_of_member u name us) at site k names es) ≡ true
member_called (types.Container access form) name us at site k names es may =
    member_found (is_const access) form name us (member_row form name us) at site k names es refl may
member_called u name us at site k names es may = absurd cc

-- what a reference may be bound to, where it breaks no rule
pub referred_is_called : (g : Scope) (n : ℕ) (how : Standing) (e : Expr) → faults g n how e ≡ [] → may_be_bound g e ≡ true
    → is_called_element (typed g n e) ≡ true
unfolding type_of types_of typed operands wrong_type no_such_call
referred_is_called g n how (s.number at k) none may = absurd cc
referred_is_called g n how (s.truth at x) none may = absurd cc
referred_is_called g n how (s.name x) none may = absurd cc
referred_is_called g n how (s.call f xs) none may =
    absurd (both_ways (is_element (own_type (function_named g f.name))) (own_none (function_named g f.name)) may)
referred_is_called g n how (s.library_call f xs) none may =
    let keeps = (library_call_kept g n how f xs none).1 in
    let alone = algorithm_stands g f.name xs (not_false (fits_algorithm g f.name xs) keeps.types) in
    let u = algorithm_type (appends f.name xs) f.name (types_of g xs) in
    absurd (both_ways (is_element u) (alone_none u alone) may)
referred_is_called g n how (s.parentheses at x) none may = absurd cc
referred_is_called g n how (s.prefix p.Not at x) none may = absurd cc
referred_is_called g n how (s.prefix p.Negate at x) none may = absurd cc
referred_is_called g n how (s.prefix p.Dereference at x) none may = refl
referred_is_called g n how (s.prefix p.Increment at x) none may =
    absurd (both_ways (is_element (value_type (type_of g x))) (value_none (type_of g x)) may)
referred_is_called g n how (s.prefix p.Decrement at x) none may =
    absurd (both_ways (is_element (value_type (type_of g x))) (value_none (type_of g x)) may)
referred_is_called g n how (s.binary x op at y) none may =
    absurd (both_ways (is_element (binary_type op (type_of g x) (type_of g y))) (binary_none op (type_of g x) (type_of g y)) may)
referred_is_called g n how (s.postfix x op at) none may =
    absurd (both_ways (is_element (value_type (type_of g x))) (value_none (type_of g x)) may)
referred_is_called g n how (s.index x at y) none may =
    let keeps = (index_kept g n how x at y none).2 in
    let both = and_parts (is_container (type_of g x)) (is_number (type_of g y))
    (not_false (is_container (type_of g x) && is_number (type_of g y)) keeps.types) in
    subscript_called (type_of g x) _ _ _ _ _ both.0 keeps.calls
referred_is_called g n how (s.member_call x f xs) none may = member_called (type_of g x) f.name (types_of g xs) _ _ _ _ _ may
referred_is_called g n how (s.member x l.Dot at f) none may = absurd cc
referred_is_called g n how (s.member x l.Arrow at f) none may = refl
