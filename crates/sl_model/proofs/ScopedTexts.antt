-- A well typed text is scoped: each variable that is used is in scope, and each operand has the shape that is asked for.
use Rattle.std.proofs.Common.{◌≡◌, ℕ, true, false, ◌&&◌, Option, Some, None, refl, subst}
use Rattle.std.specs.Prelude.{slice_get}
use Rattle.sl_base.specs.declared.scalar.Scalar.TheVariants as t
use Rattle.sl_syntax.specs.declared.typed.parameter.ParameterKind.{ParameterKind}
use Rattle.sl_syntax.specs.declared.typed.parameter.ParameterKind.TheVariants as parameters
use Rattle.sl_syntax.specs.Typed.{Function, Typed}
use Rattle.sl_typing.specs.Types.{has_type, is_scalar}
use Rattle.sl_model.specs.LibraryCalls.Values.{a_number}
use Rattle.sl_model.specs.Typing.Shapes.{shape_of_result, lib_shape, lib_makes}
use Rattle.sl_model.specs.Typing.Scoped.{Counts, InStmt, IsScopedFunction, IsScoped}
use Rattle.sl_model.specs.Typing.WellTypedScopes.{is_within}
use Rattle.sl_model.specs.Typing.WellTypedExpressions.{type_given}
use Rattle.sl_model.specs.Typing.WellTypedNodes.{nodes_in_stmt}
use Rattle.sl_model.specs.Typing.WellTypedOrder.{binds_apart}
use Rattle.sl_model.specs.Typing.WellTypedStatements.{is_typed_stmt, with_parameters, no_variables, is_block}
use Rattle.sl_model.specs.Typing.WellTyped.{has_no_alias, WellTyped}
use Rattle.sl_model.proofs.Passing.{second_of_both, three_parts}
use Rattle.sl_model.proofs.TypedNumbers.{passes_in_function}
use Rattle.sl_model.proofs.TypedStatements.{function_is_typed, main_is_there}
use Rattle.sl_model.proofs.ScopedGifts.{lib_signature, KnowsText}
use Rattle.sl_model.proofs.ScopedExpressions.{AreFree}
use Rattle.sl_model.proofs.ScopedScopes.{parameters_counts, parameters_known, none_known}
use Rattle.sl_model.proofs.ScopedStatements.{statement-scoped}

-- no call in a function of a well typed text binds a variable twice
pub function_is_free : (p : Typed) → WellTyped p → (n : ℕ) (f : Function) → slice_get p.functions n ≡ Some f → AreFree (nodes_in_stmt f.body)
unfolding has_no_alias
function_is_free p w n f e = passes_in_function p n f binds_apart w.no_alias e

-- the scope of a function's body knows the text
pub function_knows : (p : Typed) (f : Function) → KnowsText p (with_parameters f.parameters (no_variables p))
function_knows p f = parameters_known p f.parameters (no_variables p) (none_known p)

-- a function of a well typed text is scoped
pub function-scoped : (p : Typed) → WellTyped p → (n : ℕ) (f : Function) → slice_get p.functions n ≡ Some f → IsScopedFunction (lib_signature p) f
function-scoped p w n f e =
    let g = with_parameters f.parameters (no_variables p) in
    let parts = three_parts (is_block f.body && has_type (type_given f.result)) (is_within g) (is_typed_stmt g f.result false f.body)
    (function_is_typed p w n f e) in
    subst (λ (counts : Counts). InStmt (lib_signature p) (shape_of_result f.result) counts f.body) (parameters_counts f.parameters (no_variables p))
    (statement-scoped p g f.result false f.body (function_knows p f)
    (second_of_both (is_block f.body) (has_type (type_given f.result)) parts.0) (function_is_free p w n f e) parts.2)

-- what gives an int gives a number
int_shape : (k : Option ParameterKind) → is_scalar t.Int (type_given k) ≡ true → shape_of_result k ≡ a_number
int_shape None h = absurd cc
int_shape (Some (parameters.Value s)) h = refl
int_shape (Some (parameters.Reference s)) h = absurd cc
int_shape (Some (parameters.Container access x)) h = absurd cc
int_shape (Some (parameters.Iterator b x)) h = absurd cc

-- a well typed text is scoped
pub well-typed-scoped : (p : Typed) → WellTyped p → IsScoped lib_shape lib_makes p
well-typed-scoped p w = let main = main_is_there p w in record {
  bodies = λ n f e. function-scoped p w n f e;
  main = main.function;
  main_there = main.there;
  main_parameters = main.parameters;
  main_result = int_shape main.function.result main.result;
}
