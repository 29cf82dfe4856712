-- The two hidden iterators of a range-for over a container pass a limit where two iterators do.
use Rattle.std.proofs.Common.{◌≡◌, Bool, None, refl, ◌∙◌}
use Rattle.sl_base.specs.declared.form.Form.{Form}
use Rattle.sl_syntax.specs.declared.operator.Access.{Access}
use Rattle.sl_typing.specs.declared.expr_type.ExprType.TheVariants as types
use Rattle.sl_typing.specs.declared.scope.Scope.{Scope}
use Rattle.sl_typing.specs.Contexts.{Context, with_hidden}
use Rattle.sl_typing.specs.Scopes.{passes_some_limit, with_variable}
use Rattle.sl_typing.specs.Types.{is_const}

pub hidden_told : (b const : Bool) (access : Access) (form : Form) (h : Context) (g s : Scope) → h.scope ≡ g → s ≡ g → const ≡ is_const access
    → b ≡ passes_some_limit s (with_variable None 0 (types.Iterator const form) (with_variable None 0 (types.Iterator const form) s))
    → b ≡ passes_some_limit g (with_hidden (types.Container access form) h).scope
hidden_told b const access form h g s is_h is_s is_it told = told ∙ rw (is_s, is_h, is_it) refl
