-- The scopes of loops that have one of their own: more variables behind those around them.
use Rattle.std.proofs.Common.{Option, refl, ◌∙◌, ap, append_assoc}
use Rattle.sl_base.specs.declared.place.Place.{Place}
use Rattle.sl_syntax.specs.declared.tree.element.Element.{Element}
use Rattle.sl_syntax.specs.declared.tree.identifier.Identifier.{Identifier}
use Rattle.sl_typing.specs.declared.expr_type.ExprType.{ExprType}
use Rattle.sl_typing.specs.declared.expr_type.ExprType.TheVariants as types
use Rattle.sl_syntax.specs.Tree.{Effect, Cond, First}
use Rattle.sl_typing.specs.declared.scope.Scope.{Scope}
use Rattle.sl_typing.specs.Contexts.{Context, declare, looping, started_loop, enter, with_hidden}
use Rattle.sl_typing.specs.Flow.{in_for, in_range, at_test, at_last, behind_hidden}
use Rattle.sl_typing.specs.Ranges.{element_type}
use Rattle.sl_typing.specs.Scopes.{type_of_name}
use Rattle.sl_expr_sites.proofs.ScopeLaws.{Extends, Extends-refl, Extends-trans, behind_first-extends, behind_test-scope, behind_last-scope}

-- in the body of a `for`
pub in_for-extends : (g : Context) (at : Place) (first : Option First) (k : Option Cond) (w : Option Effect)
    → Extends g.scope (in_for g at first k w).scope
in_for-extends g at first k w =
    let x = behind_first-extends (enter (started_loop at g)) first in
    let same = behind_last-scope (at_last g at first k) w ∙ behind_test-scope (at_test g at first) k in
    record {
      added = x.added;
      variables = ap (λ (k : Scope). k.variables) same ∙ x.variables;
      functions = ap (λ (k : Scope). k.functions) same ∙ x.functions;
      result = ap (λ (k : Scope). k.result) same ∙ x.result;
    }

with_hidden-extends : (u : ExprType) (g : Context) → Extends g.scope (with_hidden u g).scope
with_hidden-extends (types.Container access form) g = record { added = _; variables = append_assoc g.scope.variables _ _; functions = refl; result = refl }
with_hidden-extends types.Wrong g = Extends-refl g.scope
with_hidden-extends types.Nothing g = Extends-refl g.scope
with_hidden-extends (types.Scalar t) g = Extends-refl g.scope
with_hidden-extends (types.Element w) g = Extends-refl g.scope
with_hidden-extends (types.Iterator b form) g = Extends-refl g.scope
with_hidden-extends (types.IteratorAndBool form) g = Extends-refl g.scope
with_hidden-extends (types.IteratorPair b form) g = Extends-refl g.scope
with_hidden-extends (types.Handed t) g = Extends-refl g.scope
with_hidden-extends (types.IntReference w) g = Extends-refl g.scope
with_hidden-extends (types.EntryReference w) g = Extends-refl g.scope

-- a variable behind the others, in a loop
loop_variable-extends : (x : Identifier) (u : ExprType) (g : Context) → Extends g.scope (looping (declare x u g)).scope
loop_variable-extends x u g = record { added = _; variables = refl; functions = refl; result = refl }

-- in the body of a range-for
pub in_range-extends : (g : Context) (at : Place) (how : Element) (x over : Identifier) → Extends g.scope (in_range g at how x over).scope
in_range-extends g at how x over =
    let u = type_of_name g.scope over.name in
    let h = with_hidden-extends u (enter (started_loop at g)) in
    let hidden : Extends g.scope (behind_hidden g at over).scope =
    record { added = h.added; variables = h.variables; functions = h.functions; result = h.result } in
    Extends-trans hidden (loop_variable-extends x (element_type how u) (behind_hidden g at over))
