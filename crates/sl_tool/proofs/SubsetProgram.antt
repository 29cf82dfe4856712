-- A text of the subset is a program: one function, whose items are the statements.
use Rattle.std.proofs.Common.{◌≡◌, ℕ, ◌≤◌, List, [], ◌∷◌, ◌++◌, Some, codes, refl, sym, ap, ◌∙◌, arith}
use Rattle.std.proofs.lemmas.List.{append-nil}
use Rattle.std.specs.List.{flat_map}
use Rattle.sl_base.specs.declared.form.Form.TheVariants as f
use Rattle.sl_base.specs.declared.scalar.Scalar.TheVariants as c
use Rattle.sl_base.specs.declared.word.Word.{Word}
use Rattle.sl_base.specs.declared.word.Word.TheVariants as w
use Rattle.sl_base.specs.declared.mark.Mark.TheVariants as m
use Rattle.sl_syntax.specs.declared.operator.PrefixOperator.TheVariants as p
use Rattle.sl_syntax.specs.declared.tree.function.ResultType.TheVariants as z
use Rattle.sl_syntax.specs.declared.tree.identifier.Identifier.{Identifier}
use Rattle.sl_syntax.specs.Begins.{IsProgram}
use Rattle.sl_syntax.specs.Blank.{nowhere}
use Rattle.sl_syntax.specs.Depth.{item_height, items_height}
use Rattle.sl_syntax.specs.Shaped.{IsItem, AreItems}
use Rattle.sl_syntax.specs.Tree as t
use Rattle.sl_syntax.specs.Written.{Written, words_of, item_written, items_written, at}
use Rattle.sl_syntax.proofs.WrittenLaws.{words_of-append}
use Rattle.sl_tool.specs.Subset.{IsInSubset}
use Rattle.sl_tool.specs.Subset.{Item, vector_item, push_back_item, begin_item, dereference_item, item_words, head_words}

abbrev called : List ℕ → Identifier
called name = record { name = name; place = nowhere }

-- a call of a member without arguments, or with a number
abbrev member_call : List ℕ → List ℕ → t.Exprs → t.Expr
member_call object function xs = t.member_call (t.name (called object)) (called function) xs

-- the item that a statement is
abbrev tree_of : Item → t.Item
tree_of (vector_item name) = t.declares (t.declares_container (record { place = nowhere; form = f.Vector }) (called name) t.absent)
tree_of (push_back_item vector number) =
    t.states (t.does nowhere (t.evaluates (member_call vector (codes "push_back") (t.with (t.number nowhere number) t.none))))
tree_of (begin_item name vector) = t.declares (t.declares_auto nowhere (called name) (member_call vector (codes "begin") t.none))
tree_of (dereference_item name iterator) =
    t.declares (t.declares_scalar nowhere c.Int (called name) (Some (t.prefix p.Dereference nowhere (t.name (called iterator)))))

abbrev trees_of : List Item → t.Items
trees_of [] = t.no_more
trees_of (i ∷ is) = t.followed (tree_of i) (trees_of is)

item-words : (i : Item) → words_of (item_written (tree_of i)) ≡ item_words i
item-words (vector_item name) = refl
item-words (push_back_item vector number) = refl
item-words (begin_item name vector) = refl
item-words (dereference_item name iterator) = refl

items-words : (is : List Item) → words_of (items_written (trees_of is)) ≡ flat_map item_words is
items-words [] = refl
items-words (i ∷ is) = words_of-append (item_written (tree_of i)) (items_written (trees_of is)) ∙ rw (item-words i, items-words is) refl

item-fits : (i : Item) → IsItem (tree_of i)
item-fits (vector_item name) = tt
item-fits (push_back_item vector number) = (omega arith, tt, (tt, tt))
item-fits (begin_item name vector) = (omega arith, tt, tt)
item-fits (dereference_item name iterator) = (omega arith, tt)

items-fit : (is : List Item) → AreItems (trees_of is)
items-fit [] = tt
items-fit (i ∷ is) = (item-fits i, items-fit is)

item-low : (i : Item) → item_height (tree_of i) ≤ 3
item-low (vector_item name) = omega arith
item-low (push_back_item vector number) = omega arith
item-low (begin_item name vector) = omega arith
item-low (dereference_item name iterator) = omega arith

items-low : (is : List Item) → items_height (trees_of is) ≤ 3
items-low [] = omega arith
items-low (i ∷ is) = omega (arith, item-low i, items-low is)

-- `int main()` with these statements
abbrev main_of : List Item → t.Program
main_of is = record {
  place = nowhere;
  result = z.Scalar c.Int;
  name = called (codes "main");
  params = [];
  opens = nowhere;
  items = trees_of is;
  closes = nowhere;
} ∷ []

closed : (xs : List Written) → words_of (xs ++ at nowhere (w.Mark m.RightBrace) ∷ [] ++ []) ≡ words_of xs ++ w.Mark m.RightBrace ∷ []
closed xs = rw (append-nil, words_of-append xs (at nowhere (w.Mark m.RightBrace) ∷ [])) refl

pub text_is_program : (ws : List Word) → IsInSubset ws → IsProgram ws
text_is_program ws text = (
  main_of text.items,
  record { some = omega arith; each = (items-fit text.items, tt); depth = omega (arith, items-low text.items) },
  ap (λ (l : List Word). head_words ++ l)
      (closed (items_written (trees_of text.items)) ∙ ap (λ (l : List Word). l ++ w.Mark m.RightBrace ∷ []) (items-words text.items))
      ∙ sym text.are_items,
)
