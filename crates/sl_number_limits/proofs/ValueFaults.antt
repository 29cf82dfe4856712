-- The parts of a declaration and of an effect that break no rule break none: a lemma for each part.
use Rattle.std.proofs.Common.{◌≡◌, ℕ, ◌+◌, List, [], ◌∷◌, Option}
use Rattle.sl_base.specs.declared.place.Place.{Place}
use Rattle.sl_base.specs.declared.scalar.Scalar.{Scalar}
use Rattle.sl_syntax.specs.declared.operator.Assignment.{Assignment}
use Rattle.sl_syntax.specs.declared.tree.declaration.ContainerType.{ContainerType}
use Rattle.sl_syntax.specs.declared.tree.element.ReferenceHead.{ReferenceHead}
use Rattle.sl_syntax.specs.declared.tree.identifier.Identifier.{Identifier}
use Rattle.sl_syntax.specs.Tree as s
use Rattle.sl_syntax.specs.Tree.{Expr, Exprs, Initializer, Out}
use Rattle.sl_typing.specs.Contexts.{Context}
use Rattle.sl_typing.specs.Sites.{behind, is_assignment_site}
use Rattle.sl_typing.specs.Flow.{behind_declaration, behind_out, behind_left}
use Rattle.sl_typing.specs.StatementFaults.{expr_faults, value_faults, element_faults, initializer_faults, limit_faults, declaration_faults}
use Rattle.sl_typing.specs.StatementFaults.{out_faults, outs_faults, site_faults, effect_faults}
use Rattle.sl_number_limits.proofs.Lists.{parts}

-- a number, which may have a value
pub scalar_value : (g : Context) (at : Place) (type : Scalar) (x : Identifier) (value : Option Expr)
    → declaration_faults g (s.declares_scalar at type x value) ≡ [] → value_faults g value ≡ []
scalar_value g at type x value none = search parts

pub scalar_limit : (g : Context) (at : Place) (type : Scalar) (x : Identifier) (value : Option Expr)
    → declaration_faults g (s.declares_scalar at type x value) ≡ []
    → limit_faults g (behind_declaration g (s.declares_scalar at type x value)) x.place ≡ []
scalar_limit g at type x value none = search parts

-- `auto`
pub auto_value : (g : Context) (at : Place) (x : Identifier) (e : Expr) → declaration_faults g (s.declares_auto at x e) ≡ [] → expr_faults g e ≡ []
auto_value g at x e none = search parts

pub auto_limit : (g : Context) (at : Place) (x : Identifier) (e : Expr) → declaration_faults g (s.declares_auto at x e) ≡ []
    → limit_faults g (behind_declaration g (s.declares_auto at x e)) x.place ≡ []
auto_limit g at x e none = search parts

-- a reference
pub reference_value : (g : Context) (head : ReferenceHead) (x : Identifier) (e : Expr) → declaration_faults g (s.declares_reference head x e) ≡ []
    → expr_faults g e ≡ []
reference_value g head x e none = search parts

pub reference_limit : (g : Context) (head : ReferenceHead) (x : Identifier) (e : Expr) → declaration_faults g (s.declares_reference head x e) ≡ []
    → limit_faults g (behind_declaration g (s.declares_reference head x e)) x.place ≡ []
reference_limit g head x e none = search parts

-- a container
pub container_value : (g : Context) (ct : ContainerType) (x : Identifier) (value : Initializer)
    → declaration_faults g (s.declares_container ct x value) ≡ [] → initializer_faults g value ≡ []
container_value g ct x value none = search parts

pub container_limit : (g : Context) (ct : ContainerType) (x : Identifier) (value : Initializer)
    → declaration_faults g (s.declares_container ct x value) ≡ []
    → limit_faults g (behind_declaration g (s.declares_container ct x value)) x.place ≡ []
container_limit g ct x value none = search parts

-- elements in braces
pub first_element : (g : Context) (k : ℕ) (x : Expr) (xs : Exprs) → element_faults g k (s.with x xs) ≡ [] → expr_faults g x ≡ []
first_element g k x xs none = search parts

pub other_elements : (g : Context) (k : ℕ) (x : Expr) (xs : Exprs) → element_faults g k (s.with x xs) ≡ []
    → element_faults (behind g x) (k + 1) xs ≡ []
other_elements g k x xs none = search parts

-- a print, and its items
pub printed : (g : Context) (at : Place) (os : List Out) → effect_faults g (s.prints at os) ≡ [] → outs_faults g os ≡ []
printed g at os none = search parts

pub first_out : (g : Context) (o : Out) (os : List Out) → outs_faults g (o ∷ os) ≡ [] → out_faults g o ≡ []
first_out g o os none = search parts

pub other_outs : (g : Context) (o : Out) (os : List Out) → outs_faults g (o ∷ os) ≡ [] → outs_faults (behind_out g o) os ≡ []
other_outs g o os none = search parts

-- an assignment: its left side, its `=` and its right side
pub left_side : (g : Context) (x : Expr) (op : Assignment) (at : Place) (y : Expr) → effect_faults g (s.assigns x op at y) ≡ []
    → expr_faults g x ≡ []
left_side g x op at y none = search parts

pub equals_sign : (g : Context) (x : Expr) (op : Assignment) (at : Place) (y : Expr) → effect_faults g (s.assigns x op at y) ≡ []
    → site_faults (behind g x) (is_assignment_site g.scope x op) at ≡ []
equals_sign g x op at y none = search parts

pub right_side : (g : Context) (x : Expr) (op : Assignment) (at : Place) (y : Expr) → effect_faults g (s.assigns x op at y) ≡ []
    → expr_faults (behind_left g (s.assigns x op at y)) y ≡ []
right_side g x op at y none = search parts
