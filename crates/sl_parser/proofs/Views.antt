-- The views of the tree's variants, and how high items are.
use Rattle.std.proofs.Common.{◌≡◌, List}
use Rattle.sl_syntax.specs.Depth.{highest, item_height, items_height}
use Rattle.sl_syntax.specs.Tree.{Item, items_from}
use Rattle.sl_grammar.proofs.Rows.{items-height}
pub use Rattle.sl_syntax.proofs.TreeViews.{stmt_of-Block, stmt_of-If, stmt_of-If_else, stmt_of-While, stmt_of-For, stmt_of-RangeFor}

pub ruleset stmt_views = (stmt_of-Block, stmt_of-If, stmt_of-If_else, stmt_of-While, stmt_of-For, stmt_of-RangeFor)

pub of_items : (xs : List Item) → items_height (items_from xs) ≡ highest item_height xs
of_items xs = items-height xs
