-- The values in a declaration that breaks no rule break none.
use Rattle.std.proofs.Common.{◌≡◌, [], Option, option_map, subst}
use Rattle.sl_base.specs.declared.place.Place.{Place}
use Rattle.sl_base.specs.declared.scalar.Scalar.{Scalar}
use Rattle.sl_syntax.specs.declared.tree.declaration.ContainerType.{ContainerType}
use Rattle.sl_syntax.specs.declared.tree.declaration.Declaration.{Declaration as DeclarationCode}
use Rattle.sl_syntax.specs.declared.tree.declaration.Declaration.TheVariants as d
use Rattle.sl_syntax.specs.declared.tree.declaration.Initializer.{Initializer as InitializerCode}
use Rattle.sl_syntax.specs.declared.tree.element.ReferenceHead.{ReferenceHead}
use Rattle.sl_syntax.specs.declared.tree.expr.Expr.{Expr as ExprCode}
use Rattle.sl_syntax.specs.declared.tree.identifier.Identifier.{Identifier}
use Rattle.sl_syntax.specs.TreeView.{expr_of, initializer_of, declaration_of}
use Rattle.sl_typing.specs.Contexts.{Context}
use Rattle.sl_typing.specs.StatementFaults.{expr_faults, value_faults, initializer_faults, declaration_faults}
use Rattle.sl_number_limits.proofs.ValueFaults.{scalar_value, auto_value, reference_value, container_value}

at_variant : (g : Context) (x y : DeclarationCode) → x ≡ y → declaration_faults g (declaration_of x) ≡ [] → declaration_faults g (declaration_of y) ≡ []
at_variant g x y e k = subst (λ (z : DeclarationCode). declaration_faults g (declaration_of z) ≡ []) e k

pub scalar_kept : (g : Context) (x : DeclarationCode) (at : Place) (type : Scalar) (name : Identifier) (value : Option ExprCode)
    → x ≡ d.Scalar at type name value → declaration_faults g (declaration_of x) ≡ [] → value_faults g (option_map expr_of value) ≡ []
scalar_kept g x at type name value e k =
    scalar_value g at type name (option_map expr_of value) (at_variant g x (d.Scalar at type name value) e k)

pub auto_kept : (g : Context) (x : DeclarationCode) (at : Place) (name : Identifier) (value : ExprCode)
    → x ≡ d.Auto at name value → declaration_faults g (declaration_of x) ≡ [] → expr_faults g (expr_of value) ≡ []
auto_kept g x at name value e k = auto_value g at name (expr_of value) (at_variant g x (d.Auto at name value) e k)

pub reference_kept : (g : Context) (x : DeclarationCode) (head : ReferenceHead) (name : Identifier) (value : ExprCode)
    → x ≡ d.Reference head name value → declaration_faults g (declaration_of x) ≡ [] → expr_faults g (expr_of value) ≡ []
reference_kept g x head name value e k = reference_value g head name (expr_of value) (at_variant g x (d.Reference head name value) e k)

pub container_kept : (g : Context) (x : DeclarationCode) (ct : ContainerType) (name : Identifier) (value : InitializerCode)
    → x ≡ d.Container ct name value → declaration_faults g (declaration_of x) ≡ [] → initializer_faults g (initializer_of value) ≡ []
container_kept g x ct name value e k = container_value g ct name (initializer_of value) (at_variant g x (d.Container ct name value) e k)
