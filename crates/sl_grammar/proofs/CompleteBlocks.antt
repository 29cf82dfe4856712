-- The words of a block are read as that block, where those of its statements are read as they are.
use Rattle.std.proofs.Common.{◌≡◌, ℕ, ◌+◌, ◌-◌, ◌≤◌, true, false, List, [], ◌∷◌, drop, flat_map, Ok, refl, sym, ap, ◌∙◌, arith}
use Rattle.sl_base.specs.declared.mark.Mark.TheVariants as m
use Rattle.sl_base.specs.declared.place.Place.{Place}
use Rattle.sl_base.specs.declared.token.Token.{Token}
use Rattle.sl_syntax.specs.declared.token_kind.TokenKind.TheVariants as k
use Rattle.sl_syntax.specs.Depth.{highest, stmt_height, item_height, items_height}
use Rattle.sl_syntax.specs.Shaped.{Each, ends_open, IsStmt, IsItem, AreItems}
use Rattle.sl_syntax.specs.Tree as t
use Rattle.sl_syntax.specs.Tree.{Stmt, Item, Items, items_from}
use Rattle.sl_syntax.specs.Written.{declaration_written, stmt_written, item_written, items_written}
use Rattle.sl_grammar.specs.Means.Statements.{is_else, is_item, item, braced}
use Rattle.sl_grammar.specs.Means.Steps.{Reader, Tall, kind_at, mark, all_behind}
use Rattle.sl_grammar.proofs.CompleteBegins.{begins_stmt, stmt-begins, stmt-no_reference, item-begins, item-not_else, item-goes_on, item-some}
use Rattle.sl_grammar.proofs.CompleteBegins.{declaration-height_some, declaration-opens, stated-kind}
use Rattle.sl_grammar.proofs.CompleteDeclarations.{declaration-complete}
use Rattle.sl_grammar.proofs.CompleteEffects.{and-false}
use Rattle.sl_grammar.proofs.CompleteLists.{zero-max}
use Rattle.sl_grammar.proofs.CompleteSteps.{Turn, row, all-row}
use Rattle.sl_grammar.proofs.Rows.{items-written, items-height}
use Rattle.sl_grammar.proofs.Spelling.{Spelled, split, at_word, plain_word, respelled}

-- statements that are at most so high are read as they are
pub record ReadsStmts (depth_left : ℕ) (reader : Reader (Tall Stmt)) : Type 0 where
  pub reads : (x : Stmt) (ts rest : List Token) → IsStmt x → stmt_height x ≤ depth_left → (ends_open x ≡ true → is_else (kind_at rest) ≡ false)
      → Spelled (stmt_written x) ts rest
      → reader ts ≡ Ok ((x, stmt_height x), rest)

-- the items as a list
abbrev items_list : Items → List Item
items_list t.no_more = []
items_list (t.followed x xs) = x ∷ items_list xs

from-list : (xs : Items) → items_from (items_list xs) ≡ xs
from-list t.no_more = refl
from-list (t.followed x xs) = ap (t.followed x) (from-list xs)

written-list : (xs : Items) → items_written xs ≡ flat_map item_written (items_list xs)
written-list xs = ap items_written (sym (from-list xs)) ∙ sym (items-written (items_list xs))

highest-list : (xs : Items) → highest item_height (items_list xs) ≡ items_height xs
highest-list xs = sym (items-height (items_list xs)) ∙ ap items_height (from-list xs)

module _ (inner : Reader (Tall Stmt)) (depth_left : ℕ) (i : ReadsStmts depth_left inner) where
  abbrev LowItem : Item → Type 0
  LowItem x = IsItem x × (item_height x ≤ depth_left)

  low-items : (xs : Items) → AreItems xs → items_height xs ≤ depth_left → Each LowItem (items_list xs)
  low-items t.no_more a l = tt
  low-items (t.followed x xs) a l = ((a.0, omega arith), low-items xs a.1 (omega arith))

  item-reads : (x : Item) (ts rest : List Token) → LowItem x → is_else (kind_at rest) ≡ false → Spelled (item_written x) ts rest
      → item depth_left inner ts ≡ Ok ((x, item_height x), rest)
  unfolding item mark
  item-reads (t.declares d) ts rest p f s =
      split (declaration_written d) s (λ mid a b.
      plain_word b (λ o place us e c.
      let e2 : us ≡ rest = c.spells in
      let some : 1 ≤ _ = declaration-height_some d in
      rw (
        (declaration-opens d ts mid a).reads inner depth_left (omega (arith, p.1)),
        declaration-complete (depth_left - 2) d ts mid p.0 (omega (arith, p.1)) (rw e refl) a,
        e,
        e2,
      ) refl))
  item-reads (t.states x) ts rest p f s =
      let begins : begins_stmt (kind_at ts) ≡ true = stmt-begins x ts rest p.0 s in
      rw (
        stmt-no_reference (kind_at ts) (kind_at (drop 1 ts)) begins,
        and-false,
        stated-kind inner depth_left (kind_at ts) begins,
        i.reads x ts rest p.0 p.1 (λ _. f) s,
      ) refl

  item-turn : (x : Item) (ts mid : List Token) → LowItem x → is_else (kind_at mid) ≡ false → Spelled (item_written x) ts mid
      → Turn is_item (item depth_left inner) item_height x ts mid
  item-turn x ts mid p f s = record { goes_on = item-goes_on (kind_at ts) (item-begins x ts mid p.0 s); reads = item-reads x ts mid p f s }

  item-fits : (x : Item) (ts mid : List Token) → LowItem x → Spelled (item_written x) ts mid → is_else (kind_at ts) ≡ false
  item-fits x ts mid p s = item-not_else (kind_at ts) (item-begins x ts mid p.0 s)

  items-read : (xs : Items) (ts rest : List Token) → AreItems xs → items_height xs ≤ depth_left → kind_at rest ≡ k.Mark m.RightBrace
      → Spelled (items_written xs) ts rest
      → all_behind is_item (item depth_left inner) ([], 0) ts ≡ Ok ((items_list xs, items_height xs), rest)
  items-read xs ts rest a l f s =
      let s' : Spelled (flat_map item_written (items_list xs)) ts rest = respelled (written-list xs) s in
      let r = row is_item (item depth_left inner) item_height item_written LowItem (λ kind. is_else kind ≡ false) item-turn item-fits item-some
      (items_list xs) ts rest (low-items xs a l) (rw f refl) (rw f refl) s' in
      all-row is_item (item depth_left inner) item_height (items_list xs) [] 0 ts rest r ∙ rw (zero-max, highest-list) refl

  pub block-reads : (opens closes : Place) (xs : Items) (ts rest : List Token) → AreItems xs → items_height xs ≤ depth_left
      → Spelled (stmt_written (t.block opens xs closes)) ts rest
      → braced inner depth_left ts ≡ Ok (((opens, xs, closes), items_height xs + 1), rest)
  unfolding braced mark
  block-reads opens closes xs ts rest a l s =
      at_word s (λ o us e b.
      split (items_written xs) b (λ mid c d.
      at_word d (λ o2 vs e2 z.
      let e3 : vs ≡ rest = z.spells in
      let items = items-read xs us mid a l (rw e2 refl) c in
      rw (e, items, e2, e3, from-list) refl)))
