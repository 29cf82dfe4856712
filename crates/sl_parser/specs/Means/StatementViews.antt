-- A function value that reads statements, and what statements and their parts are as data, with their height.
use Rattle.std.specs.Prelude.{ℕ, ◌+◌, List, map, Option, option_map, Result, Vec}
use Rattle.std.specs.declared.alloc.Global.{Global}
use denote.Ref.{MutBor}
use Rattle.sl_base.specs.declared.place.Place.{Place}
use Rattle.sl_base.specs.declared.token.Token.{Token}
use Rattle.sl_syntax.specs.declared.tree.effect.Cond.{Cond as CondCode}
use Rattle.sl_syntax.specs.declared.tree.effect.Effect.{Effect as EffectCode}
use Rattle.sl_syntax.specs.declared.tree.statement.Block.{Block as BlockCode}
use Rattle.sl_syntax.specs.declared.tree.statement.First.{First as FirstCode}
use Rattle.sl_syntax.specs.declared.tree.statement.Item.{Item as ItemCode}
use Rattle.sl_syntax.specs.declared.tree.statement.Stmt.{Stmt as StmtCode}
use Rattle.sl_syntax.specs.Depth.{highest, option_height, cond_height, effect_height, first_height, stmt_height, item_height, items_height}
use Rattle.sl_syntax.specs.Tree.{Cond, Effect, First, Item, Items, Stmt}
use Rattle.sl_syntax.specs.TreeView.{cond_of, effect_of, first_of, item_of, items_of, stmt_of}
use Rattle.sl_grammar.specs.declared.fault.Fault.{Fault}
use Rattle.sl_grammar.specs.Means.Statements.{stmt}
pub use Rattle.sl_grammar.specs.Means.Statements.{loop as while_loop}
use Rattle.sl_grammar.specs.Means.Steps.{Reads, Reader, Tall}
use Rattle.sl_expressions.specs.Means.Nests.{measured}

abbrev pub tall_stmt : StmtCode → Tall Stmt
tall_stmt x = measured stmt_height (stmt_of x)

abbrev pub tall_item : ItemCode → Tall Item
tall_item x = measured item_height (item_of x)

abbrev pub tall_items : Vec ItemCode Global → Tall (List Item)
tall_items xs = measured (highest item_height) (map item_of xs.items)

abbrev pub tall_block : BlockCode → Tall (Place × Items × Place)
tall_block x = ((x.place, items_of x.items.items, x.close), items_height (items_of x.items.items) + 1)

-- the parts of the head of a `for`, which may be left out
abbrev pub tall_first : Option FirstCode → Tall (Option First)
tall_first x = measured (option_height first_height) (option_map first_of x)

abbrev pub tall_optional_cond : Option CondCode → Tall (Option Cond)
tall_optional_cond x = measured (option_height cond_height) (option_map cond_of x)

abbrev pub tall_optional_effect : Option EffectCode → Tall (Option Effect)
tall_optional_effect x = measured (option_height effect_height) (option_map effect_of x)

-- reads statements that are at most so high, where it is given that number
pub record Holds (depth_left : ℕ) (pre : Global → MutBor (List Token) → ℕ → Type 0)
    (post : Global → MutBor (List Token) → ℕ → Result StmtCode Fault → MutBor (List Token) → Type 0) : Type 0 where
  pub callable : (alloc : Global) (old : MutBor (List Token)) → pre alloc old depth_left
  pub reads : (alloc : Global) (old new : MutBor (List Token)) (r : Result StmtCode Fault) → post alloc old depth_left r new
      → Reads tall_stmt (stmt depth_left old.now) r new.now

-- a part of a statement, by the reader of what is one node deeper
abbrev pub within : {A : Type 0} → (Reader (Tall Stmt) → ℕ → A) → ℕ → A
within reader depth_left = reader (stmt depth_left) depth_left
