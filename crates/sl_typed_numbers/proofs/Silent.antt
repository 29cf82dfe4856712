-- What a function gives of nodes, where it gives nothing of those of expressions.
use Rattle.std.proofs.Common.{◌≡◌, ℕ, ℤ, List, [], ◌∷◌, ◌++◌, Option, None, Some, refl}
use Rattle.std.specs.Prelude.{flat_map}
use Rattle.std.specs.List.{filter_map}
use Rattle.std.proofs.lemmas.List.Elements.{filter_map-append}
use Rattle.sl_base.specs.declared.place.Place.{Place}
use Rattle.sl_syntax.specs.declared.typed.head.Head.{Head}
use Rattle.sl_syntax.specs.Typed as t
use Rattle.sl_syntax.specs.Typed.{Operands, Left, Printed}
use Rattle.sl_model.specs.Typing.WellTypedNodes.{Node, a_literal, a_call, an_own_call, an_operator, a_step, a_use}
use Rattle.sl_model.specs.Typing.WellTypedNodes.{nodes_in, nodes_in_left, nodes_in_operands, nodes_in_printed}
use Rattle.sl_model.specs.Typing.WellTypedNodes.{nodes_in_effect, nodes_in_cond, nodes_in_value}

-- a function that gives nothing of the nodes of expressions
pub record Skips (X : Type 0) (f : Node → Option X) : Type 0 where
  pub literals : (z : ℤ) → f (a_literal z) ≡ None
  pub calls : (h : Head) (es : Operands) → f (a_call h es) ≡ None
  pub own_calls : (k : ℕ) (es : Operands) → f (an_own_call k es) ≡ None
  pub operators : (d e : t.Expr) → f (an_operator d e) ≡ None
  pub steps : (x : Left) → f (a_step x) ≡ None
  pub uses : (at : Place) (name : ℕ) → f (a_use at name) ≡ None

-- it gives nothing of one node more, and of two lists of nodes
skipped : (X : Type 0) (f : Node → Option X) (x : Node) (xs : List Node) → f x ≡ None → filter_map f xs ≡ [] → filter_map f (x ∷ xs) ≡ []
skipped X f x xs h k = rw h k

both_skipped : (X : Type 0) (f : Node → Option X) (xs ys : List Node) → filter_map f xs ≡ [] → filter_map f ys ≡ [] → filter_map f (xs ++ ys) ≡ []
both_skipped X f xs ys h k = rw (filter_map-append f xs ys, h, k) refl

mutual
  unfolding nodes_in nodes_in_left nodes_in_operands

  -- an expression
  pub silent : (X : Type 0) (f : Node → Option X) → Skips X f → (e : t.Expr) → filter_map f (nodes_in e) ≡ []
  silent X f s (t.literal type z) = skipped X f _ [] (s.literals z) refl
  silent X f s (t.held x) = silent_left X f s x
  silent X f s (t.iterator x) = refl
  silent X f s (t.convert type e) = silent X f s e
  silent X f s (t.negate type at e) = silent X f s e
  silent X f s (t.logical_not at e) = silent X f s e
  silent X f s (t.logical_and at d e) = both_skipped X f (nodes_in d) (nodes_in e) (silent X f s d) (silent X f s e)
  silent X f s (t.logical_or at d e) = both_skipped X f (nodes_in d) (nodes_in e) (silent X f s d) (silent X f s e)
  silent X f s (t.arithmetic op type at d e) =
      skipped X f _ (nodes_in d ++ nodes_in e) (s.operators d e)
      (both_skipped X f (nodes_in d) (nodes_in e) (silent X f s d) (silent X f s e))
  silent X f s (t.comparison op at d e) =
      skipped X f _ (nodes_in d ++ nodes_in e) (s.operators d e)
      (both_skipped X f (nodes_in d) (nodes_in e) (silent X f s d) (silent X f s e))
  silent X f s (t.increment step fix type at x) = skipped X f _ (nodes_in_left x) (s.steps x) (silent_left X f s x)
  silent X f s (t.move fix x h es) = skipped X f _ (nodes_in_operands es) (s.calls h _) (silent_operands X f s es)
  silent X f s (t.call h es) = skipped X f _ (nodes_in_operands es) (s.calls h es) (silent_operands X f s es)
  silent X f s (t.own_call k at es) = skipped X f _ (nodes_in_operands es) (s.own_calls k es) (silent_operands X f s es)
  silent X f s (t.first at e) = silent X f s e
  silent X f s (t.second at e) = silent X f s e
  silent X f s (t.container x) = refl
  silent X f s (t.handed_scalar x) = refl

  -- a left side
  pub silent_left : (X : Type 0) (f : Node → Option X) → Skips X f → (x : Left) → filter_map f (nodes_in_left x) ≡ []
  silent_left X f s (t.scalar x at) = refl
  silent_left X f s (t.reference x at name part) = skipped X f _ [] (s.uses at name) refl
  silent_left X f s (t.element h es) = skipped X f _ (nodes_in_operands es) (s.calls h es) (silent_operands X f s es)

  -- operands
  pub silent_operands : (X : Type 0) (f : Node → Option X) → Skips X f → (es : Operands) → filter_map f (nodes_in_operands es) ≡ []
  silent_operands X f s t.none = refl
  silent_operands X f s (t.with e es) = both_skipped X f (nodes_in e) (nodes_in_operands es) (silent X f s e) (silent_operands X f s es)

-- two lists of nodes of which it gives nothing
pub two_silent : (X : Type 0) (f : Node → Option X) (xs ys : List Node) → filter_map f xs ≡ [] → filter_map f ys ≡ [] → filter_map f (xs ++ ys) ≡ []
two_silent X f xs ys h k = both_skipped X f xs ys h k

-- an effect
silent_items : (X : Type 0) (f : Node → Option X) → Skips X f → (items : List Printed) → filter_map f (flat_map nodes_in_printed items) ≡ []
silent_items X f s [] = refl
silent_items X f s (t.text bytes ∷ items) = silent_items X f s items
silent_items X f s (t.endline ∷ items) = silent_items X f s items
silent_items X f s (t.number e ∷ items) =
    both_skipped X f (nodes_in e) (flat_map nodes_in_printed items) (silent X f s e) (silent_items X f s items)

pub silent_effect : (X : Type 0) (f : Node → Option X) → Skips X f → (w : t.Effect) → filter_map f (nodes_in_effect w) ≡ []
silent_effect X f s (t.reads xs) = refl
silent_effect X f s (t.prints items) = silent_items X f s items
silent_effect X f s (t.evaluates e) = silent X f s e
silent_effect X f s (t.assigns x e) = both_skipped X f (nodes_in_left x) (nodes_in e) (silent_left X f s x) (silent X f s e)
silent_effect X f s (t.updates op type own at x e) = both_skipped X f (nodes_in_left x) (nodes_in e) (silent_left X f s x) (silent X f s e)
silent_effect X f s (t.moves_to x e) = silent X f s e

-- a condition, and a value that is given back
pub silent_cond : (X : Type 0) (f : Node → Option X) → Skips X f → (k : t.Cond) → filter_map f (nodes_in_cond k) ≡ []
silent_cond X f s (t.read xs) = refl
silent_cond X f s (t.not_read xs) = refl
silent_cond X f s (t.test e) = silent X f s e
silent_cond X f s t.always = refl

pub silent_value : (X : Type 0) (f : Node → Option X) → Skips X f → (v : Option t.Expr) → filter_map f (nodes_in_value v) ≡ []
silent_value X f s None = refl
silent_value X f s (Some e) = silent X f s e
