-- What names mean at a place of a text: the variables of each sort are numbered in their order, and the functions are those of the typed text.
use Rattle.std.proofs.Common.{◌≡◌, false, List, [], ◌∷◌, Option, Some, None, subst, sym}
use Rattle.std.specs.Prelude.{slice_get}
use Rattle.sl_base.specs.declared.place.Place.{Place}
use Rattle.sl_syntax.specs.declared.operator.Access.TheVariants as a
use Rattle.sl_syntax.specs.declared.tree.element.Element.{Element}
use Rattle.sl_syntax.specs.declared.tree.function.Param.{Param}
use Rattle.sl_syntax.specs.declared.tree.identifier.Identifier.{Identifier}
use Rattle.sl_syntax.specs.Tree as s
use Rattle.sl_syntax.specs.Tree.{Expr, Declaration, First}
use Rattle.sl_syntax.specs.Typed.{Function}
use Rattle.sl_typing.specs.declared.expr_type.ExprType.{ExprType}
use Rattle.sl_typing.specs.declared.expr_type.ExprType.TheVariants as types
use Rattle.sl_typing.specs.declared.scope.FunctionHead.{FunctionHead}
use Rattle.sl_typing.specs.declared.scope.Scope.{Scope}
use Rattle.sl_typing.specs.Types.{value_type, is_const, is_container}
use Rattle.sl_typing.specs.TypeOf.{type_given, type_of}
use Rattle.sl_typing.specs.Ranges.{reference_type, element_type}
use Rattle.sl_typing.specs.Scopes.{parameter_kind, name_of_parameter, type_of_kind, type_of_name, with_variable}
use Rattle.sl_typing.specs.Contexts.{Context, declare, declare_parameters, with_hidden, enter, looping, started_loop}
use Rattle.sl_typing.specs.Flow.{behind_value, behind_initializer, behind_declaration, behind_hidden, behind_first, in_range}
use Rattle.sl_model.proofs.Tells.{AllOf}
use Rattle.sl_well_typed.proofs.Behind.{effect_scope}
use Rattle.sl_typed_order.proofs.Numbered.{AllNumbered, numbered_with}

-- a head is that of a function of the typed text
pub record IsThere (fs : List Function) (h : FunctionHead) : Type 0 where
  pub function : Function
  pub there : slice_get fs h.number ≡ Some function
  pub parameters : function.parameters ≡ h.parameters
  pub result : is_container (type_given h.result) ≡ false

-- what names mean at a place
pub record Sound (fs : List Function) (g : Scope) : Type 0 where
  pub numbered : AllNumbered g
  pub functions : AllOf (IsThere fs) g.functions

-- where names mean the same
pub same_sound : (fs : List Function) (g h : Scope) → h ≡ g → Sound fs g → Sound fs h
same_sound fs g h same sound = subst (λ (x : Scope). Sound fs x) (sym same) sound

-- where a scope begins, and a loop's body
pub enter_sound : (fs : List Function) (g : Context) → Sound fs g.scope → Sound fs (enter g).scope
enter_sound fs g h = record { numbered = h.numbered; functions = h.functions }

pub looping_sound : (fs : List Function) (g : Context) → Sound fs g.scope → Sound fs (looping g).scope
looping_sound fs g h = record { numbered = h.numbered; functions = h.functions }

-- behind a declared variable
pub declare_sound : (fs : List Function) (x : Identifier) (type : ExprType) (g : Context) → Sound fs g.scope → Sound fs (declare x type g).scope
declare_sound fs x type g h = record { numbered = numbered_with (Some x.name) _ type g.scope h.numbered; functions = h.functions }

-- behind hidden iterators
pub hidden_sound : (fs : List Function) (u : ExprType) (g : Context) → Sound fs g.scope → Sound fs (with_hidden u g).scope
hidden_sound fs (types.Container access form) g h =
    let type = types.Iterator (is_const access) form in
    record {
      numbered = numbered_with None 0 type (with_variable None 0 type g.scope) (numbered_with None 0 type g.scope h.numbered);
      functions = h.functions;
    }
hidden_sound fs u g h = h

-- behind a declaration
pub declaration_sound : (fs : List Function) (g : Context) (d : Declaration) → Sound fs g.scope → Sound fs (behind_declaration g d).scope
declaration_sound fs g (s.declares_scalar at type x None) h = declare_sound fs x (types.Scalar type) g h
declaration_sound fs g (s.declares_scalar at type x (Some e)) h = declare_sound fs x (types.Scalar type) (behind_value g (Some e)) h
declaration_sound fs g (s.declares_auto at x e) h = declare_sound fs x (value_type (type_of g.scope e)) (behind_value g (Some e)) h
declaration_sound fs g (s.declares_reference head x e) h =
    declare_sound fs x (reference_type head (type_of g.scope e)) (behind_value g (Some e)) h
declaration_sound fs g (s.declares_container ct x s.absent) h =
    declare_sound fs x (types.Container a.Whole ct.form) g h
declaration_sound fs g (s.declares_container ct x (s.copies y)) h =
    declare_sound fs x (types.Container a.Whole ct.form) g h
declaration_sound fs g (s.declares_container ct x (s.braces equal xs)) h =
    declare_sound fs x (types.Container a.Whole ct.form) (behind_initializer g (s.braces equal xs)) h
declaration_sound fs g (s.declares_container ct x (s.arguments xs)) h =
    declare_sound fs x (types.Container a.Whole ct.form) (behind_initializer g (s.arguments xs)) h

-- behind the first part of a `for`
pub first_sound : (fs : List Function) (g : Context) (first : Option First) → Sound fs g.scope → Sound fs (behind_first g first).scope
first_sound fs g None h = h
first_sound fs g (Some (s.first_scalar at type x e)) h = declaration_sound fs g (s.declares_scalar at type x (Some e)) h
first_sound fs g (Some (s.first_auto at x e)) h = declaration_sound fs g (s.declares_auto at x e) h
first_sound fs g (Some (s.first_effect w)) h = same_sound fs g.scope (behind_first g (Some (s.first_effect w))).scope (effect_scope g w) h

-- in the body of a range-for
pub range_sound : (fs : List Function) (g : Context) (at : Place) (how : Element) (x over : Identifier) → Sound fs g.scope
    → Sound fs (in_range g at how x over).scope
range_sound fs g at how x over h =
    let hidden = hidden_sound fs (type_of_name g.scope over.name) (enter (started_loop at g)) (enter_sound fs (started_loop at g) h) in
    let inner = declare_sound fs x (element_type how (type_of_name g.scope over.name)) (behind_hidden g at over) hidden in record { numbered = inner.numbered; functions = inner.functions }

-- behind parameters
pub parameters_sound : (fs : List Function) (g : Context) (qs : List Param) → Sound fs g.scope → Sound fs (declare_parameters qs g).scope
parameters_sound fs g [] h = h
parameters_sound fs g (q ∷ qs) h =
    let type = type_of_kind (parameter_kind q) in
    parameters_sound fs (declare (name_of_parameter q) type g) qs (declare_sound fs (name_of_parameter q) type g h)
