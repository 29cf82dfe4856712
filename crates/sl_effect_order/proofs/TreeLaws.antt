-- The views of the tree's variants.
use Rattle.sl_syntax.proofs.TreeViews.{expr_of-Call, expr_of-LibraryCall, expr_of-Parentheses, expr_of-Prefix, expr_of-Binary, expr_of-Postfix}
use Rattle.sl_syntax.proofs.TreeViews.{expr_of-Index, expr_of-MemberCall, expr_of-Member}

pub ruleset tree_views = (
  expr_of-Call,
  expr_of-LibraryCall,
  expr_of-Parentheses,
  expr_of-Prefix,
  expr_of-Binary,
  expr_of-Postfix,
  expr_of-Index,
  expr_of-MemberCall,
  expr_of-Member,
)
