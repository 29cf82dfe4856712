-- An expression that has the type of a container is a bare name, if no algorithm gives one.
use Rattle.std.proofs.Common.{◌≡◌, ℕ, Bool, true, false, ◌&&◌, List, [], ◌∷◌, Option, Some, None, reverse, refl}
use Rattle.std.proofs.lemmas.Bool.{and_parts, not-false}
use Rattle.sl_base.specs.declared.place.Place.{Place}
use Rattle.sl_base.specs.declared.form.Form.{Form}
use Rattle.sl_specs.specs.declared.return_type.ReturnType.{ReturnType}
use Rattle.sl_specs.specs.declared.return_type.ReturnType.TheVariants as r
use Rattle.sl_syntax.specs.declared.operator.BinaryOperator.{BinaryOperator}
use Rattle.sl_syntax.specs.declared.operator.BinaryOperator.TheVariants as b
use Rattle.sl_syntax.specs.declared.operator.PrefixOperator.TheVariants as p
use Rattle.sl_syntax.specs.declared.operator.Selector.TheVariants as l
use Rattle.sl_syntax.specs.declared.tree.identifier.Identifier.{Identifier}
use Rattle.sl_syntax.specs.Tree as s
use Rattle.sl_syntax.specs.Tree.{Expr, Exprs}
use Rattle.sl_syntax.specs.Typed.{Function}
use Rattle.sl_typing.specs.declared.expr_type.ExprType.{ExprType}
use Rattle.sl_typing.specs.declared.expr_type.ExprType.TheVariants as types
use Rattle.sl_typing.specs.declared.scope.FunctionHead.{FunctionHead}
use Rattle.sl_typing.specs.declared.scope.Scope.{Scope}
use Rattle.sl_typing.specs.declared.standing.Standing.TheVariants as standing
use Rattle.sl_typing.specs.Types.{is_const, value_type, is_container}
use Rattle.sl_typing.specs.Signatures.{result_type}
use Rattle.sl_typing.specs.Candidates.{Found, member_row}
use Rattle.sl_typing.specs.Scopes.{function_named, is_function_named, type_of_name, number_of_name}
use Rattle.sl_typing.specs.TypeOf.{element_at, arithmetic_type, binary_type, subscript_type, member_type, own_type, is_first, part_type, arrow_type}
use Rattle.sl_typing.specs.TypeOf.{type_of_use, type_of, types_of}
use Rattle.sl_typing.specs.Looks.{is_left_side, bare_name}
use Rattle.sl_typing.specs.WrongType.{can_step, wrong_type}
use Rattle.sl_typing.specs.Faults.{faults}
use Rattle.sl_typing.specs.Numbering.{number_in, variable, typed, operands}
use Rattle.sl_model.specs.Typing.WellTypedNodes.{nodes_in}
use Rattle.sl_model.specs.Typing.WellTypedOrder.{the_container}
use Rattle.sl_well_typed.proofs.Parts.{parentheses_kept, prefix_kept, postfix_kept}
use Rattle.sl_well_typed.proofs.Names.{all_reversed, found_among}
use Rattle.sl_well_typed.proofs.Rows.{gives_own}
use Rattle.sl_typed_order.proofs.Sound.{IsThere, Sound}
use Rattle.sl_typed_order.proofs.Covers.{Covers}
use Rattle.sl_typed_order.proofs.QuietRows.{member_row_is}
use Rattle.sl_typed_order.proofs.FormRows.{form_row}
use Rattle.sl_typed_order.proofs.Containers.{object_covers}

-- what is no container
own_none : (fs : List Function) (g : Scope) → Sound fs g → (name : List ℕ) → is_container (own_type (function_named g name)) ≡ false
own_none fs g sound name = by_head (function_named g name) refl
  where
    by_head : (o : Option FunctionHead) → function_named g name ≡ o → is_container (own_type o) ≡ false
    by_head None e = refl
    by_head (Some h) e =
        (found_among (IsThere fs) (is_function_named name) (reverse g.functions) (all_reversed (IsThere fs) g.functions sound.functions) h e).result

at_none : (u : ExprType) → is_container (element_at u) ≡ false
at_none (types.Iterator k x) = refl
at_none u = refl

stepped_none : (u : ExprType) → can_step u ≡ true → is_container (value_type u) ≡ false
stepped_none (types.Container access form) h = absurd cc
stepped_none (types.Element w) h = refl
stepped_none u h = refl

sum_none : (u v : ExprType) → is_container (arithmetic_type u v) ≡ false
sum_none (types.Iterator k x) (types.Iterator j y) = refl
sum_none (types.Iterator k x) v = refl
sum_none u v = refl

joined_none : (op : BinaryOperator) (u v : ExprType) → is_container (binary_type op u v) ≡ false
joined_none b.Or u v = refl
joined_none b.And u v = refl
joined_none (b.Comparison op) u v = refl
joined_none (b.Arithmetic op) u v = sum_none u v

subscript_none : (u : ExprType) → is_container (subscript_type u) ≡ false
subscript_none (types.Container access form) = refl
subscript_none u = refl

part_none : (u : ExprType) (first : Bool) → is_container (part_type u first) ≡ false
part_none (types.IteratorAndBool form) true = refl
part_none (types.IteratorAndBool form) false = refl
part_none (types.IteratorPair k form) first = refl
part_none (types.EntryReference w) first = refl
part_none u first = refl

arrow_none : (u : ExprType) (first : Bool) → is_container (arrow_type u first) ≡ false
arrow_none (types.Iterator k form) first = refl
arrow_none u first = refl

given_none : (gives : ReturnType) (k : Bool) (form : Form) (us : List ExprType) → gives_own gives ≡ true → is_container (result_type gives k form us) ≡ false
given_none r.FirstArgument k form us h = absurd cc
given_none r.Output k form us h = absurd cc
given_none gives k form us h = refl

member_none : (u : ExprType) (name : List ℕ) (us : List ExprType) → is_container (member_type u name us) ≡ false
member_none (types.Container access form) name us = by_row (member_row form name us) refl
  where
    by_row : (o : Option Found) → member_row form name us ≡ o → is_container (elim o as (λ _. ExprType) [
      | None ↦ types.Wrong
      | Some x ↦ result_type x.row.gives (is_const access) form us
    ]) ≡ false
    by_row None e = refl
    by_row (Some x) e =
        let row = member_row_is form name us x e in given_none x.row.gives (is_const access) form us (form_row x row.there row.other).own
member_none u name us = refl

-- a call of an algorithm that stands plainly gives no container
abbrev pub NoneGives : Scope → Type 0
NoneGives g = (n : ℕ) (f : Identifier) (xs : Exprs) → faults g n standing.Plain (s.library_call f xs) ≡ []
    → is_container (type_of g (s.library_call f xs)) ≡ false

-- a name, which may stand in parentheses
abbrev pub is_bare : Expr → Bool
is_bare (s.name x) = true
is_bare (s.parentheses at x) = is_bare x
is_bare e = false

-- what is a container is one
pub container_is_bare : (fs : List Function) (g : Scope) → Sound fs g → NoneGives g → (n : ℕ) (x : Expr) → faults g n standing.Plain x ≡ []
    → is_container (type_of g x) ≡ true → is_bare x ≡ true
unfolding type_of types_of wrong_type
container_is_bare fs g sound gives n (s.number at m) none is = absurd cc
container_is_bare fs g sound gives n (s.truth at x) none is = absurd cc
container_is_bare fs g sound gives n (s.name x) none is = refl
container_is_bare fs g sound gives n (s.call f xs) none is = let no = own_none fs g sound f.name in absurd cc
container_is_bare fs g sound gives n (s.library_call f xs) none is = let no = gives n f xs none in absurd cc
container_is_bare fs g sound gives n (s.parentheses at x) none is =
    container_is_bare fs g sound gives n x (parentheses_kept g n standing.Plain at x none) is
container_is_bare fs g sound gives n (s.prefix p.Not at x) none is = absurd cc
container_is_bare fs g sound gives n (s.prefix p.Negate at x) none is = absurd cc
container_is_bare fs g sound gives n (s.prefix p.Dereference at x) none is = let no = at_none (type_of g x) in absurd cc
container_is_bare fs g sound gives n (s.prefix p.Increment at x) none is =
    let kept = (prefix_kept g n standing.Plain p.Increment at x none).1 in
    let left = and_parts (is_left_side g x) (can_step (type_of g x)) (not-false (is_left_side g x && can_step (type_of g x)) kept.types) in
    let no = stepped_none (type_of g x) left.1 in absurd cc
container_is_bare fs g sound gives n (s.prefix p.Decrement at x) none is =
    let kept = (prefix_kept g n standing.Plain p.Decrement at x none).1 in
    let left = and_parts (is_left_side g x) (can_step (type_of g x)) (not-false (is_left_side g x && can_step (type_of g x)) kept.types) in
    let no = stepped_none (type_of g x) left.1 in absurd cc
container_is_bare fs g sound gives n (s.binary x op at y) none is = let no = joined_none op (type_of g x) (type_of g y) in absurd cc
container_is_bare fs g sound gives n (s.postfix x op at) none is =
    let kept = (postfix_kept g n standing.Plain x op at none).1 in
    let left = and_parts (is_left_side g x) (can_step (type_of g x)) (not-false (is_left_side g x && can_step (type_of g x)) kept.types) in
    let no = stepped_none (type_of g x) left.1 in absurd cc
container_is_bare fs g sound gives n (s.index x at y) none is = let no = subscript_none (type_of g x) in absurd cc
container_is_bare fs g sound gives n (s.member_call x f xs) none is = let no = member_none (type_of g x) f.name (types_of g xs) in absurd cc
container_is_bare fs g sound gives n (s.member x l.Dot at f) none is = let no = part_none (type_of g x) (is_first f.name) in absurd cc
container_is_bare fs g sound gives n (s.member x l.Arrow at f) none is = let no = arrow_none (type_of g x) (is_first f.name) in absurd cc

-- the container that an expression is
pub container_object : (fs : List Function) (g : Scope) → Sound fs g → NoneGives g → (n : ℕ) (x : Expr) → faults g n standing.Plain x ≡ []
    → is_container (type_of g x) ≡ true → Covers g (bare_name x) (the_container (number_in (typed g n x)) ∷ [])
unfolding typed operands type_of types_of
container_object fs g sound gives n (s.name x) none is = object_covers g sound.numbered n standing.Plain x none is
container_object fs g sound gives n (s.parentheses at x) none is =
    container_object fs g sound gives n x (parentheses_kept g n standing.Plain at x none) is
container_object fs g sound gives n x none is = let bare = container_is_bare fs g sound gives n x none is in absurd cc

-- it has no nodes
variable_has_none : (u : ExprType) (n : ℕ) (at : Place) (label : ℕ) → is_container (type_of_use u) ≡ true → nodes_in (variable u n at label) ≡ []
unfolding nodes_in
variable_has_none (types.Container access form) n at label h = refl
variable_has_none u n at label h = absurd cc

pub container_has_none : (fs : List Function) (g : Scope) → Sound fs g → NoneGives g → (n : ℕ) (x : Expr) → faults g n standing.Plain x ≡ []
    → is_container (type_of g x) ≡ true → nodes_in (typed g n x) ≡ []
unfolding typed operands type_of types_of
container_has_none fs g sound gives n (s.name x) none is = variable_has_none (type_of_name g x.name) (number_of_name g x.name) x.place _ is
container_has_none fs g sound gives n (s.parentheses at x) none is =
    container_has_none fs g sound gives n x (parentheses_kept g n standing.Plain at x none) is
container_has_none fs g sound gives n x none is = let bare = container_is_bare fs g sound gives n x none is in absurd cc
