-- The head of a loop: its number is small, and its condition leaves the scope as it was.
use Rattle.std.proofs.Common.{◌≡◌, ◌<◌, length, ap, arith}
use Rattle.sl_base.specs.declared.place.Place.{Place}
use Rattle.sl_syntax.specs.Tree.{Cond}
use Rattle.sl_typing.specs.declared.scope.Scope.{Scope}
use Rattle.sl_typing.specs.Contexts.{Context, started_loop}
use Rattle.sl_typing.specs.Flow.{behind_cond}
use Rattle.sl_number_limits.specs.Fits.{Fits}
use Rattle.sl_expr_sites.proofs.ScopeLaws.{behind_cond-scope}

-- the number of a loop has 16 bits
pub loop_number_free : (g : Context) → Fits g → length g.loops < 65536
loop_number_free g f = let a = f.loops in let b = f.statements in omega arith

-- whether a `while` stands in a loop is as it was, behind its condition
pub still_in_loop : (g : Context) (at : Place) (k : Cond) → (behind_cond (started_loop at g) k).scope.in_loop ≡ g.scope.in_loop
still_in_loop g at k = ap (λ (s : Scope). s.in_loop) (behind_cond-scope (started_loop at g) k)
