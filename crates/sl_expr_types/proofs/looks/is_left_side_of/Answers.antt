use Rattle.std.proofs.Common.{◌∙◌}
use Rattle.sl_syntax.specs.TreeView.{expr_of}
use Rattle.sl_expr_types.proofs.LooksLaws.{side_by}
use Rattle.sl_expr_types.proofs.looks.is_left_side_of.Goals as goal

pub returns : goal.returns
returns c = λ g t. c.is_left_side_at.ensures ∙ side_by g (expr_of c.args.e.now) c.args.own t
