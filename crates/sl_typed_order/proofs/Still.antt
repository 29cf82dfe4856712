-- What is still by names is still by the variables that the names cover.
use Rattle.std.proofs.Common.{◌≡◌, ℕ, ◌+◌, Bool, true, false, not, ◌&&◌, List, [], Option, Some, None, refl, sym, subst}
use Rattle.std.specs.Prelude.{if◌then◌else◌, codes, is_none}
use Rattle.std.specs.Str.{bytes_eq}
use Rattle.std.proofs.lemmas.Bool.{and_parts, and_from, or_parts, not-false}
use Rattle.sl_base.specs.declared.place.Place.{Place}
use Rattle.sl_base.specs.declared.form.Form.{Form}
use Rattle.sl_base.specs.declared.scalar.Scalar.{Scalar}
use Rattle.sl_base.specs.declared.scalar.Scalar.TheVariants as c
use Rattle.sl_specs.specs.declared.return_type.ReturnType.{ReturnType}
use Rattle.sl_specs.specs.declared.return_type.ReturnType.TheVariants as r
use Rattle.sl_syntax.specs.declared.operator.Arithmetic.{Arithmetic}
use Rattle.sl_syntax.specs.declared.operator.BinaryOperator.{BinaryOperator}
use Rattle.sl_syntax.specs.declared.operator.BinaryOperator.TheVariants as b
use Rattle.sl_syntax.specs.declared.operator.PostfixOperator.TheVariants as q
use Rattle.sl_syntax.specs.declared.operator.PrefixOperator.{PrefixOperator}
use Rattle.sl_syntax.specs.declared.operator.PrefixOperator.TheVariants as p
use Rattle.sl_syntax.specs.declared.tree.identifier.Identifier.{Identifier}
use Rattle.sl_syntax.specs.declared.typed.head.Head.{Head}
use Rattle.sl_syntax.specs.declared.typed.step.Fix.{Fix}
use Rattle.sl_syntax.specs.declared.typed.step.Fix.TheVariants as fixes
use Rattle.sl_syntax.specs.declared.typed.step.Step.TheVariants as steps
use Rattle.sl_syntax.specs.declared.typed.step.Step.{Step}
use Rattle.sl_syntax.specs.Tree as s
use Rattle.sl_syntax.specs.Tree.{Expr, Exprs}
use Rattle.sl_syntax.specs.Typed as t
use Rattle.sl_syntax.specs.Typed.{Operands}
use Rattle.sl_typing.specs.declared.expr_type.ExprType.{ExprType}
use Rattle.sl_typing.specs.declared.expr_type.ExprType.TheVariants as types
use Rattle.sl_typing.specs.declared.scope.Scope.{Scope}
use Rattle.sl_typing.specs.declared.standing.Standing.TheVariants as standing
use Rattle.sl_typing.specs.Types.{is_const, same_scalar, scalar_of, common, value_type, is_number, is_iterator, is_element, is_int_iterator}
use Rattle.sl_typing.specs.Signatures.{result_type}
use Rattle.sl_typing.specs.Candidates.{Found, member_row}
use Rattle.sl_typing.specs.Scopes.{sort_of, is_among, type_of_name, number_of_name}
use Rattle.sl_typing.specs.TypeOf.{member_type, element_at, arithmetic_type, type_of_use, type_of, types_of}
use Rattle.sl_typing.specs.Looks.{is_left_side, is_plain, bare_name}
use Rattle.sl_typing.specs.Sites.{site_count, inside}
use Rattle.sl_typing.specs.WrongType.{is_entry, can_step, is_int_reference, second_may_be_element, fits_member, is_iterator_pair, wrong_type}
use Rattle.sl_typing.specs.Faults.{faults}
use Rattle.sl_typing.specs.Order as order
use Rattle.sl_typing.specs.Order.{is_still as is_still_by_names}
use Rattle.sl_typing.specs.Numbering.{Way, row_call, converted, stepped, calculated, joined, called_row, letters_of, ways, row_of_member}
use Rattle.sl_typing.specs.Numbering.{number_in, variable, typed, operands}
use Rattle.sl_model.specs.Typing.WellTypedOrder.{Variable, is_among as is_variable_among, is_quiet, is_still}
use Rattle.sl_well_typed.proofs.Parts.{name_kept, parentheses_kept, prefix_kept, binary_kept, postfix_kept, member_call_kept}
use Rattle.sl_well_typed.proofs.Rows.{gives_element}
use Rattle.sl_typed_order.proofs.Numbered.{variable_of_sort, variable_meant}
use Rattle.sl_typed_order.proofs.Covers.{is_reference_type, Covers}
use Rattle.sl_typed_order.proofs.QuietRows.{quiet_call}

-- what isn't so
pub unnot : (b : Bool) → not b ≡ true → b ≡ false
unnot true h = absurd cc
unnot false h = refl

pub plainly : (b : Bool) → (b && true) ≡ false → b ≡ false
plainly true h = absurd cc
plainly false h = refl

no_reference : (u : ExprType) → is_int_reference u ≡ false → is_entry u ≡ false → is_reference_type u ≡ false
no_reference (types.IntReference w) h k = h
no_reference (types.EntryReference w) h k = k
no_reference u h k = refl

-- a variable that isn't among these
variable_still : (vs : List Variable) (calls : Bool) (u : ExprType) (n : ℕ) (at : Place) (label : ℕ) → is_reference_type u ≡ false
    → is_variable_among (variable_of_sort (sort_of u) n) vs ≡ false → is_still vs calls (variable u n at label) ≡ true
unfolding is_still
variable_still vs calls (types.IntReference w) n at label h k = absurd cc
variable_still vs calls (types.EntryReference w) n at label h k = absurd cc
variable_still vs calls (types.Iterator c form) n at label h k = rw k refl
variable_still vs calls (types.Container access form) n at label h k = rw k refl
variable_still vs calls u n at label h k = rw k refl

either_still : (vs : List Variable) (calls : Bool) (test : Bool) (d e : t.Expr) → is_still vs calls d ≡ true → is_still vs calls e ≡ true
    → is_still vs calls (if test then d else e) ≡ true
either_still vs calls true d e h k = h
either_still vs calls false d e h k = k

pub converted_still : (vs : List Variable) (calls : Bool) (k : Scalar) (u : ExprType) (d : t.Expr) → is_still vs calls d ≡ true
    → is_still vs calls (converted k u d) ≡ true
unfolding is_still
converted_still vs calls k u d h = either_still vs calls (same_scalar k (scalar_of u)) d (t.convert k d) h h

-- what is still is no element
arithmetic_no_element : (u v : ExprType) → is_number u ≡ true → is_element (arithmetic_type u v) ≡ false
arithmetic_no_element (types.Iterator c x) v h = absurd cc
arithmetic_no_element u v h = refl

dereferenced_no_element : (u : ExprType) → is_number u ≡ true → is_element (element_at u) ≡ false
dereferenced_no_element (types.Iterator c x) h = absurd cc
dereferenced_no_element u h = refl

pub value_no_element : (u : ExprType) → is_element (value_type u) ≡ false
value_no_element (types.Element w) = refl
value_no_element u = refl

prefix_no_element : (op : PrefixOperator) (g : Scope) (at : Place) (x : Expr) → is_number (type_of g x) ≡ true → is_element (type_of g (s.prefix op at x)) ≡ false
unfolding type_of types_of
prefix_no_element p.Not g at x h = refl
prefix_no_element p.Negate g at x h = refl
prefix_no_element p.Dereference g at x h = dereferenced_no_element (type_of g x) h
prefix_no_element p.Increment g at x h = value_no_element (type_of g x)
prefix_no_element p.Decrement g at x h = value_no_element (type_of g x)

binary_no_element : (op : BinaryOperator) (g : Scope) (at : Place) (x y : Expr) → is_number (type_of g x) ≡ true
    → is_element (type_of g (s.binary x op at y)) ≡ false
unfolding type_of types_of
binary_no_element b.Or g at x y h = refl
binary_no_element b.And g at x y h = refl
binary_no_element (b.Comparison op) g at x y h = refl
binary_no_element (b.Arithmetic op) g at x y h = arithmetic_no_element (type_of g x) (type_of g y) h

-- `++` and `--` of a number
name_steps : (vs : List Variable) (calls : Bool) (step : Step) (fix : Fix) (at spot : Place) (names : List (Option ℕ)) (u : ExprType) (n : ℕ)
    (label : ℕ) → is_number (type_of_use u) ≡ true → is_int_reference u ≡ false → is_variable_among (variable_of_sort (sort_of u) n) vs ≡ false
    → is_still vs calls (stepped step fix at (type_of_use u) names (variable u n spot label)) ≡ true
unfolding is_still
name_steps vs calls step fix at spot names (types.Scalar k) n label number other h = rw h refl
name_steps vs calls step fix at spot names (types.Element w) n label number other h = rw h refl
name_steps vs calls step fix at spot names (types.IntReference w) n label number other h = absurd cc
name_steps vs calls step fix at spot names u n label number other h = absurd cc

-- a quiet call gives no element
given_no_element : (gives : ReturnType) (k : Bool) (form : Form) (us : List ExprType) → gives_element gives ≡ false → us ≡ []
    → is_element (result_type gives k form us) ≡ false
given_no_element r.Element k form us h none = absurd cc
given_no_element r.FirstArgument k form us h none = rw none refl
given_no_element r.Output k form us h none = rw none refl
given_no_element gives k form us h none = refl

quiet_no_element : (u : ExprType) (name : List ℕ) (us : List ExprType) → order.is_quiet name ≡ true → is_element (member_type u name us) ≡ false
quiet_no_element (types.Container access form) name us quiet = by_row (member_row form name us) refl
  where
    by_row : (o : Option Found) → member_row form name us ≡ o → is_element (elim o as (λ _. ExprType) [
      | None ↦ types.Wrong
      | Some x ↦ result_type x.row.gives (is_const access) form us
    ]) ≡ false
    by_row None e = refl
    by_row (Some x) e =
        let is = quiet_call form name us quiet x e in given_no_element x.row.gives (is_const access) form us is.element is.none
quiet_no_element u name us quiet = refl

-- names that are covered
name_apart : (g : Scope) (names : List (List ℕ)) (vs : List Variable) → Covers g names vs → (n : ℕ) (x : Identifier)
    → faults g n standing.Plain (s.name x) ≡ [] → (not (is_among x.name names) && not (is_int_reference (type_of_name g x.name))) ≡ true
    → (is_reference_type (type_of_name g x.name) ≡ false) × (is_variable_among (variable_meant g x.name) vs ≡ false)
unfolding wrong_type
name_apart g names vs covers n x none still =
    let kept = name_kept g n standing.Plain x none in
    let parts = and_parts (not (is_among x.name names)) (not (is_int_reference (type_of_name g x.name))) still in
    let entry = plainly (is_entry (type_of_name g x.name)) kept.1.types in
    let other = no_reference (type_of_name g x.name) (unnot (is_int_reference (type_of_name g x.name)) parts.1) entry in
    (other, covers x.name kept.0 (unnot (is_among x.name names) parts.0) other)

-- `++` and `--`
step_still : (g : Scope) (names : List (List ℕ)) (vs : List Variable) → Covers g names vs → (calls : Bool) (n : ℕ) (x : Expr)
    → faults g n standing.Plain x ≡ [] → is_left_side g x ≡ true → is_number (type_of g x) ≡ true → is_still_by_names g names calls x ≡ true
    → (step : Step) (fix : Fix) (at : Place) (told_names : List (Option ℕ))
    → is_still vs calls (stepped step fix at (type_of g x) told_names (typed g n x)) ≡ true
unfolding is_still_by_names is_left_side type_of types_of typed operands
step_still g names vs covers calls n (s.number at m) none left number still step fix place told_names = absurd cc
step_still g names vs covers calls n (s.truth at x) none left number still step fix place told_names = absurd cc
step_still g names vs covers calls n (s.name x) none left number still step fix place told_names =
    let apart = name_apart g names vs covers n x none still in
    let parts = and_parts (not (is_among x.name names)) (not (is_int_reference (type_of_name g x.name))) still in
    name_steps vs calls step fix place x.place told_names (type_of_name g x.name) (number_of_name g x.name) _ number
    (unnot (is_int_reference (type_of_name g x.name)) parts.1) apart.1
step_still g names vs covers calls n (s.call f xs) none left number still step fix place told_names = absurd cc
step_still g names vs covers calls n (s.library_call f xs) none left number still step fix place told_names = absurd cc
step_still g names vs covers calls n (s.parentheses at x) none left number still step fix place told_names = absurd cc
step_still g names vs covers calls n (s.prefix op at x) none left number still step fix place told_names =
    let parts = and_parts (is_number (type_of g x)) (is_still_by_names g names calls x) still in
    let no = prefix_no_element op g at x parts.0 in absurd cc
step_still g names vs covers calls n (s.binary x op at y) none left number still step fix place told_names =
    let sx = is_still_by_names g names calls x in
    let sy = is_still_by_names g names calls y in
    let one = and_parts (is_number (type_of g x) && is_number (type_of g y) && sx) sy still in
    let two = and_parts (is_number (type_of g x) && is_number (type_of g y)) sx one.0 in
    let three = and_parts (is_number (type_of g x)) (is_number (type_of g y)) two.0 in
    let no = binary_no_element op g at x y three.0 in absurd cc
step_still g names vs covers calls n (s.postfix x op at) none left number still step fix place told_names =
    let no = value_no_element (type_of g x) in absurd cc
step_still g names vs covers calls n (s.index x at y) none left number still step fix place told_names = absurd cc
step_still g names vs covers calls n (s.member_call x f xs) none left number still step fix place told_names =
    let parts = and_parts calls (order.is_quiet f.name) still in
    let no = quiet_no_element (type_of g x) f.name (types_of g xs) parts.1 in absurd cc
step_still g names vs covers calls n (s.member x selector at f) none left number still step fix place told_names = absurd cc

-- an operator between two numbers
number_no_iterator : (u : ExprType) → is_number u ≡ true → is_iterator u ≡ false
number_no_iterator (types.Iterator k x) h = absurd cc
number_no_iterator u h = refl

calculated_still : (vs : List Variable) (calls : Bool) (op : Arithmetic) (at : Place) (u v : ExprType) (names : List (Option ℕ)) (d e : t.Expr)
    → is_number u ≡ true → is_still vs calls d ≡ true → is_still vs calls e ≡ true → is_still vs calls (calculated op at u v names d e) ≡ true
unfolding is_still
calculated_still vs calls op at (types.Iterator k x) v names d e number h j = absurd cc
calculated_still vs calls op at u v names d e number h j =
    let type = common (scalar_of u) (scalar_of v) in
    and_from (is_still vs calls (converted type u d)) (is_still vs calls (converted type v e)) (converted_still vs calls type u d h)
    (converted_still vs calls type v e j)

joined_still : (vs : List Variable) (calls : Bool) (op : BinaryOperator) (at : Place) (u v : ExprType) (names : List (Option ℕ)) (d e : t.Expr)
    → is_number u ≡ true → is_still vs calls d ≡ true → is_still vs calls e ≡ true → is_still vs calls (joined op at u v names d e) ≡ true
unfolding is_still
joined_still vs calls b.Or at u v names d e number h j = and_from (is_still vs calls d) (is_still vs calls e) h j
joined_still vs calls b.And at u v names d e number h j = and_from (is_still vs calls d) (is_still vs calls e) h j
joined_still vs calls (b.Comparison op) at u v names d e number h j =
    let type = common (scalar_of u) (scalar_of v) in
    rw (number_no_iterator u number)
    (and_from (is_still vs calls (converted type u d)) (is_still vs calls (converted type v e)) (converted_still vs calls type u d h)
    (converted_still vs calls type v e j))
joined_still vs calls (b.Arithmetic op) at u v names d e number h j = calculated_still vs calls op at u v names d e number h j

-- a quiet call
quiet_row_still : (vs : List Variable) (gives : ReturnType) (h : Head) → gives_element gives ≡ false → is_quiet h.callee ≡ true
    → is_still vs true (row_call gives h t.none) ≡ true
unfolding is_still
quiet_row_still vs r.Element h k q = absurd cc
quiet_row_still vs gives h k q = q

no_operands : (g : Scope) (n : ℕ) (ws : List Way) (xs : Exprs) → types_of g xs ≡ [] → operands g n ws xs ≡ t.none
unfolding operands types_of
no_operands g n ws s.none h = refl
no_operands g n ws (s.with x xs) h = absurd cc

quiet_still : (g : Scope) (vs : List Variable) (n : ℕ) (u : ExprType) (name : List ℕ) (xs : Exprs) → order.is_quiet name ≡ true
    → is_none (row_of_member u name (types_of g xs)) ≡ false → (at : Place) (site : Option ℕ) (object : ℕ) (names : List (Option ℕ))
    → is_still vs true (called_row (row_of_member u name (types_of g xs)) at site object names
    (operands g n (ways (letters_of (row_of_member u name (types_of g xs)))) xs)) ≡ true
quiet_still g vs n (types.Container access form) name xs quiet some at site object names = by_row (member_row form name (types_of g xs)) refl some
  where
    by_row : (o : Option Found) → member_row form name (types_of g xs) ≡ o → is_none o ≡ false
        → is_still vs true (called_row o at site object names (operands g n (ways (letters_of o)) xs)) ≡ true
    by_row None e k = absurd cc
    by_row (Some x) e k =
        let is = quiet_call form name (types_of g xs) quiet x e in
        subst (λ (es : Operands). is_still vs true (called_row (Some x) at site object names es) ≡ true)
        (sym (no_operands g n (ways x.row.letters) xs is.none)) (quiet_row_still vs x.row.gives _ is.element is.quiet)
quiet_still g vs n u name xs quiet some at site object names = absurd cc

-- a member call that fits is one of a row
member_some : (g : Scope) (u : ExprType) (x : Expr) (name : List ℕ) (xs : Exprs) → fits_member g u x name xs ≡ true
    → is_none (row_of_member u name (types_of g xs)) ≡ false
member_some g (types.Container access form) x name xs h =
    let none = is_none (member_row form name (types_of g xs)) in
    let own = bytes_eq name (codes "assign") && second_may_be_element g (bare_name x) form xs in
    let parts = and_parts (is_plain x && not none) (not own) h in
    unnot none (and_parts (is_plain x) (not none) parts.0).1
member_some g u x name xs h = absurd cc

-- no number is an iterator
no_number : (u : ExprType) → is_number u ≡ true → is_int_iterator u ≡ true → ⊥
no_number (types.Iterator k x) h j = cc
no_number u h j = cc

-- an expression that is still by names
pub still_is : (g : Scope) (names : List (List ℕ)) (vs : List Variable) → Covers g names vs → (calls : Bool) (n : ℕ) (e : Expr)
    → faults g n standing.Plain e ≡ [] → is_still_by_names g names calls e ≡ true → is_still vs calls (typed g n e) ≡ true
unfolding is_still is_still_by_names typed operands wrong_type
still_is g names vs covers calls n (s.number at m) none still = refl
still_is g names vs covers calls n (s.truth at x) none still = refl
still_is g names vs covers calls n (s.name x) none still =
    let apart = name_apart g names vs covers n x none still in
    variable_still vs calls (type_of_name g x.name) (number_of_name g x.name) x.place _ apart.0 apart.1
still_is g names vs covers calls n (s.call f xs) none still = absurd cc
still_is g names vs covers calls n (s.library_call f xs) none still = absurd cc
still_is g names vs covers calls n (s.parentheses at x) none still =
    still_is g names vs covers calls n x (parentheses_kept g n standing.Plain at x none) still
still_is g names vs covers calls n (s.prefix p.Not at x) none still =
    let parts = and_parts (is_number (type_of g x)) (is_still_by_names g names calls x) still in
    still_is g names vs covers calls n x (prefix_kept g n standing.Plain p.Not at x none).0 parts.1
still_is g names vs covers calls n (s.prefix p.Negate at x) none still =
    let parts = and_parts (is_number (type_of g x)) (is_still_by_names g names calls x) still in
    converted_still vs calls (common (scalar_of (type_of g x)) c.Int) (type_of g x) (typed g n x)
    (still_is g names vs covers calls n x (prefix_kept g n standing.Plain p.Negate at x none).0 parts.1)
still_is g names vs covers calls n (s.prefix p.Dereference at x) none still =
    let parts = and_parts (is_number (type_of g x)) (is_still_by_names g names calls x) still in
    let iterator = not-false (is_int_iterator (type_of g x)) (prefix_kept g n standing.Plain p.Dereference at x none).1.types in
    absurd (no_number (type_of g x) parts.0 iterator)
still_is g names vs covers calls n (s.prefix p.Increment at x) none still =
    let parts = and_parts (is_number (type_of g x)) (is_still_by_names g names calls x) still in
    let kept = prefix_kept g n standing.Plain p.Increment at x none in
    let left = and_parts (is_left_side g x) (can_step (type_of g x)) (not-false (is_left_side g x && can_step (type_of g x)) kept.1.types) in
    step_still g names vs covers calls n x kept.0 left.0 parts.0 parts.1 steps.Up fixes.Prefix at _
still_is g names vs covers calls n (s.prefix p.Decrement at x) none still =
    let parts = and_parts (is_number (type_of g x)) (is_still_by_names g names calls x) still in
    let kept = prefix_kept g n standing.Plain p.Decrement at x none in
    let left = and_parts (is_left_side g x) (can_step (type_of g x)) (not-false (is_left_side g x && can_step (type_of g x)) kept.1.types) in
    step_still g names vs covers calls n x kept.0 left.0 parts.0 parts.1 steps.Down fixes.Prefix at _
still_is g names vs covers calls n (s.postfix x q.Increment at) none still =
    let parts = and_parts (is_number (type_of g x)) (is_still_by_names g names calls x) still in
    let kept = postfix_kept g n standing.Plain x q.Increment at none in
    let left = and_parts (is_left_side g x) (can_step (type_of g x)) (not-false (is_left_side g x && can_step (type_of g x)) kept.1.types) in
    step_still g names vs covers calls n x kept.0 left.0 parts.0 parts.1 steps.Up fixes.Postfix at _
still_is g names vs covers calls n (s.postfix x q.Decrement at) none still =
    let parts = and_parts (is_number (type_of g x)) (is_still_by_names g names calls x) still in
    let kept = postfix_kept g n standing.Plain x q.Decrement at none in
    let left = and_parts (is_left_side g x) (can_step (type_of g x)) (not-false (is_left_side g x && can_step (type_of g x)) kept.1.types) in
    step_still g names vs covers calls n x kept.0 left.0 parts.0 parts.1 steps.Down fixes.Postfix at _
still_is g names vs covers calls n (s.binary x op at y) none still =
    let sx = is_still_by_names g names calls x in
    let sy = is_still_by_names g names calls y in
    let one = and_parts (is_number (type_of g x) && is_number (type_of g y) && sx) sy still in
    let two = and_parts (is_number (type_of g x) && is_number (type_of g y)) sx one.0 in
    let three = and_parts (is_number (type_of g x)) (is_number (type_of g y)) two.0 in
    let kept = binary_kept g n standing.Plain x op at y none in
    joined_still vs calls op at (type_of g x) (type_of g y) _ (typed g n x) (typed g (n + site_count g x) y) three.0
    (still_is g names vs covers calls n x kept.0 two.1) (still_is g names vs covers calls (n + site_count g x) y kept.1 one.1)
still_is g names vs covers calls n (s.index x at y) none still = absurd cc
still_is g names vs covers true n (s.member_call x f xs) none still =
    let kept = member_call_kept g n standing.Plain x f xs none in
    let fits = or_parts (not (fits_member g (type_of g x) x f.name xs)) (is_iterator_pair (type_of g (s.member_call x f xs)) && true) kept.2.types in
    let some = member_some g (type_of g x) x f.name xs (not-false (fits_member g (type_of g x) x f.name xs) fits.0) in
    quiet_still g vs (inside g n (s.member_call x f xs)) (type_of g x) f.name xs still some f.place _ (number_in (typed g n x)) _
still_is g names vs covers false n (s.member_call x f xs) none still = absurd cc
still_is g names vs covers calls n (s.member x selector at f) none still = absurd cc
