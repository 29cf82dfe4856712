use Rattle.std.proofs.Common.{◌≡◌, drop}
use Rattle.sl_syntax.specs.TreeView.{exprs_of}
use Rattle.sl_typing.specs.Sites.{behind_all}
use Rattle.sl_expr_sites.proofs.sites.+expression.Given as goal

-- what is left lies between what is known and what is known behind all
abbrev pub invariant-pass_all-loop-x : goal.invariant-pass_all-loop-x
invariant-pass_all-loop-x l = behind_all l.known (exprs_of (drop l.x-index l.xs)) ≡ behind_all l.fn.known (exprs_of l.xs)
