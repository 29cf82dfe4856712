-- The walk over the items of a block.
use Rattle.std.proofs.Common.{◌≡◌, List, [], ◌∷◌, refl, ap}
use Rattle.sl_syntax.specs.declared.tree.statement.Item.{Item as ItemCode}
use Rattle.sl_syntax.specs.declared.typed.statement.Stmt.{Stmt as StmtCode}
use Rattle.sl_syntax.specs.TreeView.{item_of, items_of}
use Rattle.sl_syntax.specs.TypedView.{stmt_of, stmts_of}
use Rattle.sl_syntax.specs.Typed as t
use Rattle.sl_typing.specs.Contexts.{Context}
use Rattle.sl_typing.specs.Flow.{after_item, after_items}
use Rattle.sl_typing.specs.StatementFaults.{item_faults, items_faults}
use Rattle.sl_typing.specs.StatementNumbering.{typed_item, typed_items}
use Rattle.sl_number_limits.proofs.PartFaults.{first_item, other_items}
use Rattle.sl_number_limits.proofs.Statements.{next_items_fit}
use Rattle.sl_statement_numbering.proofs.WalkLaws.{Walk, all_before}

pub after-none : (g : Context) → after_items g (items_of []) ≡ g
unfolding after_items
after-none g = refl

pub after-more : (g : Context) (x : ItemCode) (xs : List ItemCode) → after_items g (items_of (x ∷ xs)) ≡ after_items (after_item g (item_of x)) (items_of xs)
unfolding after_items
after-more g x xs = refl

pub typed-none : (g : Context) → typed_items g (items_of []) ≡ t.no_more
unfolding typed_items
typed-none g = refl

pub typed-more : (g : Context) (x : ItemCode) (xs : List ItemCode)
    → typed_items g (items_of (x ∷ xs)) ≡ t.followed (typed_item g (item_of x)) (typed_items (after_item g (item_of x)) (items_of xs))
unfolding typed_items
typed-more g x xs = refl

-- the items of a block
abbrev pub item_walk : Walk ItemCode StmtCode t.Stmt t.Stmts
item_walk = record {
  faults = λ g xs. items_faults g (items_of xs);
  behind = λ g xs. after_items g (items_of xs);
  typed = λ g xs. typed_items g (items_of xs);
  one = λ g x. item_faults g (item_of x);
  behind_one = λ g x. after_item g (item_of x);
  typed_one = λ g x. typed_item g (item_of x);
  seen = stmt_of;
  nothing = t.no_more;
  before = λ v vs. t.followed v vs;
  behind_none = after-none;
  typed_none = typed-none;
  first = λ g x xs k. first_item g (item_of x) (items_of xs) k;
  others = λ g x xs k. other_items g (item_of x) (items_of xs) k;
  behind_more = after-more;
  typed_more = typed-more;
  fits = λ g x xs f k. next_items_fit g (item_of x) (items_of xs) f k;
}

-- those that are typed
pub stmts_seen : (ys : List StmtCode) → stmts_of ys ≡ all_before item_walk ys t.no_more
unfolding all_before
stmts_seen [] = refl
stmts_seen (y ∷ ys) = ap (λ (vs : t.Stmts). t.followed (stmt_of y) vs) (stmts_seen ys)
