-- An `if` of the code that breaks no rule, with an `else` or without.
use Rattle.std.proofs.Common.{◌≡◌, [], Box, Option, Some, None}
use Rattle.std.specs.declared.alloc.Global.{Global}
use Rattle.sl_base.specs.declared.place.Place.{Place}
use Rattle.sl_syntax.specs.declared.tree.effect.Cond.{Cond as CondCode}
use Rattle.sl_syntax.specs.declared.tree.statement.Stmt.{Stmt as StmtCode}
use Rattle.sl_syntax.specs.declared.tree.statement.Stmt.TheVariants as codes
use Rattle.sl_syntax.specs.TreeView.{cond_of, stmt_of}
use Rattle.sl_syntax.proofs.TreeViews.{stmt_of-If, stmt_of-If_else}
use Rattle.sl_typing.specs.Contexts.{Context, started}
use Rattle.sl_typing.specs.Flow.{behind_cond}
use Rattle.sl_typing.specs.StatementFaults.{cond_faults, stmt_faults}
use Rattle.sl_number_limits.specs.Fits.{Fits}
use Rattle.sl_number_limits.proofs.PartFaults.{choice_condition, choice_body, choice_else_condition, choice_else_body}
use Rattle.sl_number_limits.proofs.StatementParts.{at_choice, in_choice, at_choice_else, in_choice_else}

-- where it begins
pub begun_fits : (g : Context) (at : Place) (k : CondCode) (a : Box StmtCode Global) (o : Option (Box StmtCode Global)) → Fits g
    → stmt_faults g (stmt_of (codes.If at k a o)) ≡ [] → Fits (started g)
begun_fits g at k a None f h = at_choice g at (cond_of k) (stmt_of a.value) f (rw (stmt_of-If at k a) at h)
begun_fits g at k a (Some b) f h = at_choice_else g at (cond_of k) (stmt_of a.value) (stmt_of b.value) f (rw (stmt_of-If_else at k a b) at h)

-- its condition
pub condition_kept : (g : Context) (at : Place) (k : CondCode) (a : Box StmtCode Global) (o : Option (Box StmtCode Global))
    → stmt_faults g (stmt_of (codes.If at k a o)) ≡ [] → cond_faults (started g) (cond_of k) ≡ []
condition_kept g at k a None h = choice_condition g at (cond_of k) (stmt_of a.value) (rw (stmt_of-If at k a) at h)
condition_kept g at k a (Some b) h =
    choice_else_condition g at (cond_of k) (stmt_of a.value) (stmt_of b.value) (rw (stmt_of-If_else at k a b) at h)

-- its first branch
pub branch_fits : (g : Context) (at : Place) (k : CondCode) (a : Box StmtCode Global) (o : Option (Box StmtCode Global)) → Fits g
    → stmt_faults g (stmt_of (codes.If at k a o)) ≡ [] → Fits (behind_cond (started g) (cond_of k))
branch_fits g at k a None f h = in_choice g at (cond_of k) (stmt_of a.value) f (rw (stmt_of-If at k a) at h)
branch_fits g at k a (Some b) f h = in_choice_else g at (cond_of k) (stmt_of a.value) (stmt_of b.value) f (rw (stmt_of-If_else at k a b) at h)

pub branch_kept : (g : Context) (at : Place) (k : CondCode) (a : Box StmtCode Global) (o : Option (Box StmtCode Global))
    → stmt_faults g (stmt_of (codes.If at k a o)) ≡ [] → stmt_faults (behind_cond (started g) (cond_of k)) (stmt_of a.value) ≡ []
branch_kept g at k a None h = choice_body g at (cond_of k) (stmt_of a.value) (rw (stmt_of-If at k a) at h)
branch_kept g at k a (Some b) h = choice_else_body g at (cond_of k) (stmt_of a.value) (stmt_of b.value) (rw (stmt_of-If_else at k a b) at h)
