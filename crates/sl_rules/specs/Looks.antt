-- What a look at an expression, or at expressions, finds.
use Rattle.std.specs.Prelude.{◌≡◌, ℕ, length}
use Rattle.sl_expr_types.specs.Capped.{capped}
use Rattle.sl_expr_types.specs.Few.{few}
use Rattle.sl_rules.specs.declared.look.Look.{Look}
use Rattle.sl_rules.specs.declared.look.LookAll.{LookAll}
use Rattle.sl_syntax.specs.Tree.{Expr, Exprs}
use Rattle.sl_typing.specs.declared.scope.Scope.{Scope}
use Rattle.sl_typing.specs.declared.standing.Standing.{Standing}
use Rattle.sl_typing.specs.Faults.{faults, faults_of_all}
use Rattle.sl_typing.specs.Sites.{site_count, sites_in_all}
use Rattle.sl_typing.specs.TypeOf.{type_of, types_of}
use Rattle.sl_typing.specs.Typing.{first_of}

-- at an expression that stands so, with n sites before it: its first fault, its type, and the number of its sites as far as it counts
pub record IsLook (g : Scope) (n : ℕ) (how : Standing) (e : Expr) (look : Look) : Type 0 where
  pub fault : look.fault ≡ first_of (faults g n how e)
  pub expr_type : look.expr_type ≡ type_of g e
  pub sites : look.sites ≡ capped (site_count g e)

-- at arguments, of which the last stands so
pub record AreLooks (g : Scope) (n : ℕ) (last : Standing) (xs : Exprs) (looks : LookAll) : Type 0 where
  pub fault : looks.fault ≡ first_of (faults_of_all g n last xs)
  pub types : looks.types ≡ few (types_of g xs)
  pub sites : looks.sites ≡ capped (length (sites_in_all g xs))
