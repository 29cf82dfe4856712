-- What an argument does with the parameter that it is for, if there is one.
use Rattle.std.specs.Prelude.{ℕ, Bool, true, false, List, [], Option, Some, None, if◌then◌else◌}
use Rattle.sl_syntax.specs.declared.operator.Access.TheVariants as a
use Rattle.sl_syntax.specs.declared.typed.parameter.ParameterKind.{ParameterKind}
use Rattle.sl_syntax.specs.declared.typed.parameter.ParameterKind.TheVariants as parameters
use Rattle.sl_syntax.specs.Tree.{Expr}
use Rattle.sl_typing.specs.declared.scope.Scope.{Scope}
use Rattle.sl_typing.specs.Types.{is_const_container}
use Rattle.sl_typing.specs.Looks.{plain_name}
use Rattle.sl_typing.specs.Rules.{is_reference}
use Rattle.sl_typing.specs.TypeOf.{type_of}
use Rattle.sl_typing.specs.WrongType.{fits_parameter}

-- it fits
abbrev pub fits_optional : Scope → Option ParameterKind → Expr → Bool
fits_optional g None e = true
fits_optional g (Some k) e = fits_parameter g k e

-- a const container is handed to a reference that isn't const
abbrev pub hands_optional : Scope → Option ParameterKind → Expr → Bool
hands_optional g (Some (parameters.Container a.Whole form)) e = is_const_container (type_of g e)
hands_optional g k e = false

-- the name that is bound to a reference
abbrev pub bound_name : Option ParameterKind → Expr → List (List ℕ)
bound_name None e = []
bound_name (Some k) e = if is_reference k then plain_name e else []
