-- The two hidden iterators of a range-for are within the limits.
use Rattle.std.proofs.Common.{◌≡◌, ℕ, ◌<◌, false, List, length, None, refl, arith}
use Rattle.sl_typing.specs.declared.expr_type.ExprType.{ExprType}
use Rattle.sl_typing.specs.declared.expr_type.ExprType.TheVariants as types
use Rattle.sl_typing.specs.declared.scope.Scope.{Scope}
use Rattle.sl_typing.specs.Types.{is_const}
use Rattle.sl_typing.specs.Scopes.{passes_some_limit, type_of_name, with_variable}
use Rattle.sl_typing.specs.Contexts.{Context, with_hidden}
use Rattle.sl_number_limits.specs.Fits.{FitsScope, Fits, HasRoom}
use Rattle.sl_number_limits.proofs.ScopeLaws.{AllCounted, counts_stay, counts_before, variable_fits}
use Rattle.sl_number_limits.proofs.Lookups.{some_name}

-- two variables without a name
two_fit : (names : ℕ) (type : ExprType) (g : Scope) → FitsScope names g → 0 < names
    → AllCounted (with_variable None 0 type (with_variable None 0 type g)) → FitsScope names (with_variable None 0 type (with_variable None 0 type g))
two_fit names type g f some all =
    let one = variable_fits names names None 0 type g f (omega arith) some (counts_before None 0 type (with_variable None 0 type g) all) in
    variable_fits names names None 0 type (with_variable None 0 type g) one (omega arith) some all

of_type : (name : List ℕ) (before : Scope) (g : Context) → AllCounted before → Fits g → (u : ExprType) → type_of_name g.scope name ≡ u
    → passes_some_limit before (with_hidden u g).scope ≡ false → Fits (with_hidden u g)
of_type name before g all f (types.Container access form) is none =
    let u = types.Container access form in
    let some = some_name (length g.names) g.scope name f.scope (λ wrong. cc) in
    record {
      scope = two_fit (length g.names) (types.Iterator (is_const access) form) g.scope f.scope some
          (counts_stay before (with_hidden u g).scope none all);
      sites = f.sites;
      statements = f.statements;
      loops = f.loops;
      names = f.names;
      declared = f.declared;
      labels = f.labels;
    }
of_type name before g all f u is none = f

-- the hidden iterators come into scope, and no limit is passed since some place before
pub hidden_fits : (name : List ℕ) (before : Scope) (g : Context) → AllCounted before → Fits g
    → passes_some_limit before (with_hidden (type_of_name g.scope name) g).scope ≡ false → Fits (with_hidden (type_of_name g.scope name) g)
hidden_fits name before g all f none = of_type name before g all f (type_of_name g.scope name) refl none

-- they take no room
pub room_behind_hidden : (more : ℕ) (u : ExprType) (g : Context) → HasRoom more g → HasRoom more (with_hidden u g)
room_behind_hidden more (types.Container access form) g r = record { for_names = r.for_names; for_variables = r.for_variables }
room_behind_hidden more u g r = r
