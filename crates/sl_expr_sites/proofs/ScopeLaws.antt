-- What a part leaves of the scope that it stands in: a statement leaves it as it is, a declaration puts a variable behind the others.
use Rattle.std.proofs.Common.{◌≡◌, ℕ, List, [], ◌∷◌, ◌++◌, Option, Some, None, refl, sym, ◌∙◌, ap, subst, append_assoc, append-nil}
use Rattle.sl_syntax.specs.declared.typed.parameter.ParameterKind.{ParameterKind}
use Rattle.sl_syntax.specs.Tree as s
use Rattle.sl_syntax.specs.Tree.{Expr, Initializer, Declaration, Out, Effect, Cond, First, Stmt, Item, Items}
use Rattle.sl_typing.specs.declared.scope.FunctionHead.{FunctionHead}
use Rattle.sl_typing.specs.declared.scope.NamedVariable.{NamedVariable}
use Rattle.sl_typing.specs.declared.scope.Scope.{Scope}
use Rattle.sl_typing.specs.Contexts.{Context, started}
use Rattle.sl_typing.specs.Flow.{behind_value, behind_initializer, behind_declaration, behind_out, behind_outs, behind_effect, behind_cond, behind_first}
use Rattle.sl_typing.specs.Flow.{behind_test, behind_last, after, after_item, after_items}

-- a scope with more variables behind those of another, in the same function
pub record Extends (g h : Scope) : Type 0 where
  pub added : List NamedVariable
  pub variables : h.variables ≡ g.variables ++ added
  pub functions : h.functions ≡ g.functions
  pub result : h.result ≡ g.result

-- no more variables
pub Extends-refl : (g : Scope) → Extends g g
Extends-refl g = record { added = []; variables = sym (append-nil g.variables); functions = refl; result = refl }

-- and more behind those
pub Extends-trans : {g h k : Scope} → Extends g h → Extends h k → Extends g k
Extends-trans {g} {h} {k} x y = record {
  added = x.added ++ y.added;
  variables = y.variables ∙ ap (λ (l : List NamedVariable). l ++ y.added) x.variables ∙ append_assoc g.variables x.added y.added;
  functions = y.functions ∙ x.functions;
  result = y.result ∙ x.result;
}

-- the same scope
pub Extends-same : {g h : Scope} → h ≡ g → Extends g h
Extends-same {g} {h} e = subst (λ (k : Scope). Extends g k) (sym e) (Extends-refl g)

pub behind_value-scope : (g : Context) (v : Option Expr) → (behind_value g v).scope ≡ g.scope
behind_value-scope g None = refl
behind_value-scope g (Some e) = refl

pub behind_initializer-scope : (g : Context) (v : Initializer) → (behind_initializer g v).scope ≡ g.scope
behind_initializer-scope g s.absent = refl
behind_initializer-scope g (s.copies x) = refl
behind_initializer-scope g (s.braces equal xs) = refl
behind_initializer-scope g (s.arguments xs) = refl

pub behind_out-scope : (g : Context) (o : Out) → (behind_out g o).scope ≡ g.scope
behind_out-scope g (s.text at bytes) = refl
behind_out-scope g (s.end_line at) = refl
behind_out-scope g (s.value e) = refl

pub behind_outs-scope : (g : Context) (os : List Out) → (behind_outs g os).scope ≡ g.scope
behind_outs-scope g [] = refl
behind_outs-scope g (o ∷ os) = behind_outs-scope (behind_out g o) os ∙ behind_out-scope g o

pub behind_effect-scope : (g : Context) (w : Effect) → (behind_effect g w).scope ≡ g.scope
behind_effect-scope g (s.reads r) = refl
behind_effect-scope g (s.prints at os) = behind_outs-scope g os
behind_effect-scope g (s.evaluates e) = refl
behind_effect-scope g (s.assigns x op at y) = refl

pub behind_cond-scope : (g : Context) (k : Cond) → (behind_cond g k).scope ≡ g.scope
behind_cond-scope g (s.tests_read r) = refl
behind_cond-scope g (s.tests_no_read at r) = refl
behind_cond-scope g (s.tests e) = refl

pub behind_test-scope : (g : Context) (k : Option Cond) → (behind_test g k).scope ≡ g.scope
behind_test-scope g None = refl
behind_test-scope g (Some k) = behind_cond-scope g k

pub behind_last-scope : (g : Context) (w : Option Effect) → (behind_last g w).scope ≡ g.scope
behind_last-scope g None = refl
behind_last-scope g (Some w) = behind_effect-scope g w

-- a declaration puts one variable behind the others
pub behind_declaration-extends : (g : Context) (d : Declaration) → Extends g.scope (behind_declaration g d).scope
behind_declaration-extends g (s.declares_scalar at type x None) = record { added = _; variables = refl; functions = refl; result = refl }
behind_declaration-extends g (s.declares_scalar at type x (Some e)) = record { added = _; variables = refl; functions = refl; result = refl }
behind_declaration-extends g (s.declares_auto at x e) = record { added = _; variables = refl; functions = refl; result = refl }
behind_declaration-extends g (s.declares_reference head x e) = record { added = _; variables = refl; functions = refl; result = refl }
behind_declaration-extends g (s.declares_container ct x s.absent) = record { added = _; variables = refl; functions = refl; result = refl }
behind_declaration-extends g (s.declares_container ct x (s.copies y)) = record { added = _; variables = refl; functions = refl; result = refl }
behind_declaration-extends g (s.declares_container ct x (s.braces equal xs)) = record { added = _; variables = refl; functions = refl; result = refl }
behind_declaration-extends g (s.declares_container ct x (s.arguments xs)) = record { added = _; variables = refl; functions = refl; result = refl }

-- the first part of a `for` puts at most one there
pub behind_first-extends : (g : Context) (first : Option First) → Extends g.scope (behind_first g first).scope
behind_first-extends g None = Extends-refl g.scope
behind_first-extends g (Some (s.first_scalar at type x e)) = behind_declaration-extends g (s.declares_scalar at type x (Some e))
behind_first-extends g (Some (s.first_auto at x e)) = behind_declaration-extends g (s.declares_auto at x e)
behind_first-extends g (Some (s.first_effect w)) = Extends-same (behind_effect-scope g w)

-- a statement leaves the scope as it is
pub after-scope : (g : Context) (a : Stmt) → (after g a).scope ≡ g.scope
unfolding after after_item after_items
after-scope g (s.block at items close) = refl
after-scope g (s.choice at k a) = after-scope (behind_cond (started g) k) a ∙ behind_cond-scope (started g) k
after-scope g (s.choice_else at k a b) =
    after-scope (after (behind_cond (started g) k) a) b ∙ after-scope (behind_cond (started g) k) a ∙ behind_cond-scope (started g) k
after-scope g (s.while at k a) = refl
after-scope g (s.for at first k last a) = refl
after-scope g (s.range_for at how x over a) = refl
after-scope g (s.break at) = refl
after-scope g (s.continue at) = refl
after-scope g (s.gives_back at value) = behind_value-scope (started g) value
after-scope g (s.does at w) = behind_effect-scope (started g) w

-- an item puts at most one variable behind the others
pub after_item-extends : (g : Context) (i : Item) → Extends g.scope (after_item g i).scope
unfolding after after_item after_items
after_item-extends g (s.declares d) = behind_declaration-extends (started g) d
after_item-extends g (s.states a) = Extends-same (after-scope g a)

-- items put theirs there
pub after_items-extends : (g : Context) (items : Items) → Extends g.scope (after_items g items).scope
unfolding after after_item after_items
after_items-extends g s.no_more = Extends-refl g.scope
after_items-extends g (s.followed i rest) = Extends-trans (after_item-extends g i) (after_items-extends (after_item g i) rest)
