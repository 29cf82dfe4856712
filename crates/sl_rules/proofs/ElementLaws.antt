-- What may be an element, variant by variant of the code's tree.
use Rattle.std.proofs.Common.{◌≡◌, refl, ℕ, Bool, false, List, ◌&&◌}
use Rattle.std.specs.List.{list_any}
use Rattle.sl_base.specs.declared.form.Form.{Form}
use Rattle.sl_base.specs.declared.place.Place.{Place}
use Rattle.sl_syntax.specs.declared.operator.BinaryOperator.{BinaryOperator}
use Rattle.sl_syntax.specs.declared.operator.PostfixOperator.{PostfixOperator}
use Rattle.sl_syntax.specs.declared.operator.PrefixOperator.TheVariants as p
use Rattle.sl_syntax.specs.declared.operator.Selector.{Selector}
use Rattle.sl_syntax.specs.declared.tree.identifier.Identifier.{Identifier}
use Rattle.sl_syntax.specs.Tree as s
use Rattle.sl_syntax.specs.Tree.{Expr, Exprs}
use Rattle.sl_syntax.proofs.TreeViews.{expr_views}
use Rattle.sl_typing.specs.declared.scope.Scope.{Scope}
use Rattle.sl_typing.specs.Looks.{bare_name}
use Rattle.sl_typing.specs.Scopes.{type_of_name, is_among}
use Rattle.sl_typing.specs.Types.{is_element, is_iterator_of}
use Rattle.sl_typing.specs.TypeOf.{type_of}
use Rattle.sl_typing.specs.WrongType.{may_be_element, is_int_reference}

pub may-number : (g : Scope) (names : List (List ℕ)) (form : Form) (at : Place) (n : ℕ) → may_be_element g names form (s.number at n) ≡ false
unfolding may_be_element
may-number g names form at n = refl

pub may-truth : (g : Scope) (names : List (List ℕ)) (form : Form) (at : Place) (x : Bool) → may_be_element g names form (s.truth at x) ≡ false
unfolding may_be_element
may-truth g names form at x = refl

pub may-name : (g : Scope) (names : List (List ℕ)) (form : Form) (x : Identifier)
    → may_be_element g names form (s.name x) ≡ is_int_reference (type_of_name g x.name)
unfolding may_be_element
may-name g names form x = refl

pub may-call : (g : Scope) (names : List (List ℕ)) (form : Form) (f : Identifier) (xs : Exprs) → may_be_element g names form (s.call f xs) ≡ false
unfolding may_be_element
may-call g names form f xs = refl

pub may-library_call : (g : Scope) (names : List (List ℕ)) (form : Form) (f : Identifier) (xs : Exprs)
    → may_be_element g names form (s.library_call f xs) ≡ false
unfolding may_be_element
may-library_call g names form f xs = refl

pub may-parentheses : (g : Scope) (names : List (List ℕ)) (form : Form) (at : Place) (x : Expr)
    → may_be_element g names form (s.parentheses at x) ≡ may_be_element g names form x
unfolding may_be_element
may-parentheses g names form at x = refl

pub may-increment : (g : Scope) (names : List (List ℕ)) (form : Form) (at : Place) (x : Expr)
    → may_be_element g names form (s.prefix p.Increment at x) ≡ may_be_element g names form x
unfolding may_be_element
may-increment g names form at x = refl

pub may-decrement : (g : Scope) (names : List (List ℕ)) (form : Form) (at : Place) (x : Expr)
    → may_be_element g names form (s.prefix p.Decrement at x) ≡ may_be_element g names form x
unfolding may_be_element
may-decrement g names form at x = refl

pub may-dereference : (g : Scope) (names : List (List ℕ)) (form : Form) (at : Place) (x : Expr)
    → may_be_element g names form (s.prefix p.Dereference at x) ≡ is_iterator_of form (type_of g x)
unfolding may_be_element
may-dereference g names form at x = refl

pub may-not : (g : Scope) (names : List (List ℕ)) (form : Form) (at : Place) (x : Expr)
    → may_be_element g names form (s.prefix p.Not at x) ≡ false
unfolding may_be_element
may-not g names form at x = refl

pub may-negate : (g : Scope) (names : List (List ℕ)) (form : Form) (at : Place) (x : Expr)
    → may_be_element g names form (s.prefix p.Negate at x) ≡ false
unfolding may_be_element
may-negate g names form at x = refl

pub may-binary : (g : Scope) (names : List (List ℕ)) (form : Form) (x : Expr) (op : BinaryOperator) (at : Place) (y : Expr)
    → may_be_element g names form (s.binary x op at y) ≡ false
unfolding may_be_element
may-binary g names form x op at y = refl

pub may-postfix : (g : Scope) (names : List (List ℕ)) (form : Form) (x : Expr) (op : PostfixOperator) (at : Place)
    → may_be_element g names form (s.postfix x op at) ≡ false
unfolding may_be_element
may-postfix g names form x op at = refl

pub may-index : (g : Scope) (names : List (List ℕ)) (form : Form) (x : Expr) (at : Place) (y : Expr)
    → may_be_element g names form (s.index x at y) ≡ list_any (λ n. is_among n names) (bare_name x)
unfolding may_be_element
may-index g names form x at y = refl

pub may-member_call : (g : Scope) (names : List (List ℕ)) (form : Form) (x : Expr) (f : Identifier) (xs : Exprs)
    → may_be_element g names form (s.member_call x f xs)
    ≡ (is_element (type_of g (s.member_call x f xs)) && list_any (λ n. is_among n names) (bare_name x))
unfolding may_be_element
may-member_call g names form x f xs = refl

pub may-member : (g : Scope) (names : List (List ℕ)) (form : Form) (x : Expr) (selector : Selector) (at : Place) (f : Identifier)
    → may_be_element g names form (s.member x selector at f) ≡ false
unfolding may_be_element
may-member g names form x selector at f = refl

pub ruleset may_be = (
  expr_views,
  may-number,
  may-truth,
  may-name,
  may-call,
  may-library_call,
  may-parentheses,
  may-binary,
  may-postfix,
  may-index,
  may-member_call,
  may-member,
)

pub ruleset may_be_behind = (may-increment, may-decrement, may-dereference, may-not, may-negate)
