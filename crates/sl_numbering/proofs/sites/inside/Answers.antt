use Rattle.std.proofs.Common.{arith}
use Rattle.sl_syntax.specs.TreeView.{expr_of}
use Rattle.sl_numbering.proofs.SiteLaws.{word_within}
use Rattle.sl_numbering.proofs.sites.inside.Goals as goal

pub overflow_add-result : goal.overflow_add-result
overflow_add-result c =
    omega (arith, c.requires, c.at_word-word.ensures, word_within c.args.scope.now c.args.before (expr_of c.args.x.now))
