-- The literals of a statement of the code, variant by variant.
use Rattle.std.proofs.Common.{◌≡◌, List, [], ◌∷◌, ◌++◌, Box, refl, ap, ◌∙◌, ℤ, Option, Some, None, option_map, flat_map}
use Rattle.std.specs.declared.alloc.Global.{Global}
use Rattle.sl_base.specs.declared.place.Place.{Place}
use Rattle.sl_syntax.specs.declared.tree.declaration.Declaration.{Declaration as DeclarationCode}
use Rattle.sl_syntax.specs.declared.tree.effect.Cond.{Cond as CondCode}
use Rattle.sl_syntax.specs.declared.tree.effect.Effect.{Effect as EffectCode}
use Rattle.sl_syntax.specs.declared.tree.element.Element.{Element}
use Rattle.sl_syntax.specs.declared.tree.expr.Expr.{Expr as ExprCode}
use Rattle.sl_syntax.specs.declared.tree.identifier.Identifier.{Identifier}
use Rattle.sl_syntax.specs.declared.tree.statement.Block.{Block as BlockCode}
use Rattle.sl_syntax.specs.declared.tree.statement.First.{First as FirstCode}
use Rattle.sl_syntax.specs.declared.tree.statement.Item.{Item as ItemCode}
use Rattle.sl_syntax.specs.declared.tree.statement.Item.TheVariants as i
use Rattle.sl_syntax.specs.declared.tree.statement.Stmt.{Stmt as StmtCode}
use Rattle.sl_syntax.specs.declared.tree.statement.Stmt.TheVariants as s
use Rattle.sl_syntax.specs.Tree.{Stmt}
use Rattle.sl_syntax.specs.TreeView.{expr_of, cond_of, first_of, effect_of, declaration_of, stmt_of, item_of, items_of}
use Rattle.sl_typing.specs.Literals.{literals_of_value, literals_of_declaration, literals_of_effect, literals_of_cond, literals_of_first}
use Rattle.sl_typing.specs.Literals.{literals_of_test, literals_of_last, literals_of_stmt, literals_of_item, literals_of_items}
use Rattle.sl_syntax.proofs.TreeViews.{stmt_of-Block, stmt_of-If, stmt_of-If_else, stmt_of-While, stmt_of-For, stmt_of-RangeFor}

abbrev pub literals_in : StmtCode → List ℤ
literals_in x = literals_of_stmt (stmt_of x)

as_data : (x : StmtCode) (y : Stmt) → stmt_of x ≡ y → literals_in x ≡ literals_of_stmt y
as_data x y e = ap literals_of_stmt e

pub literals-Block : (b : BlockCode)
    → literals_in (s.Block b) ≡ literals_of_items (items_of b.items.items)
unfolding literals_of_stmt literals_of_item literals_of_items
literals-Block b = as_data (s.Block b) _ (stmt_of-Block b)

pub literals-If : (p : Place) (c : CondCode) (a : Box StmtCode Global)
    → literals_in (s.If p c a None) ≡ literals_of_cond (cond_of c) ++ literals_in a.value
unfolding literals_of_stmt literals_of_item literals_of_items
literals-If p c a = as_data (s.If p c a None) _ (stmt_of-If p c a)

pub literals-If_else : (p : Place) (c : CondCode) (a : Box StmtCode Global) (b : Box StmtCode Global)
    → literals_in (s.If p c a (Some b)) ≡ literals_of_cond (cond_of c) ++ (literals_in a.value ++ literals_in b.value)
unfolding literals_of_stmt literals_of_item literals_of_items
literals-If_else p c a b = as_data (s.If p c a (Some b)) _ (stmt_of-If_else p c a b)

pub literals-While : (p : Place) (c : CondCode) (a : Box StmtCode Global)
    → literals_in (s.While p c a) ≡ literals_of_cond (cond_of c) ++ literals_in a.value
unfolding literals_of_stmt literals_of_item literals_of_items
literals-While p c a = as_data (s.While p c a) _ (stmt_of-While p c a)

pub literals-For : (p : Place) (x : Option FirstCode) (y : Option CondCode) (z : Option EffectCode) (a : Box StmtCode Global)
    → literals_in (s.For p x y z a) ≡ literals_of_first (option_map first_of x) ++ (literals_of_test (option_map cond_of y) ++ (literals_of_last (option_map effect_of z) ++ literals_in a.value))
unfolding literals_of_stmt literals_of_item literals_of_items
literals-For p x y z a = as_data (s.For p x y z a) _ (stmt_of-For p x y z a)

pub literals-RangeFor : (p : Place) (l : Element) (x : Identifier) (v : Identifier) (a : Box StmtCode Global)
    → literals_in (s.RangeFor p l x v a) ≡ literals_in a.value
unfolding literals_of_stmt literals_of_item literals_of_items
literals-RangeFor p l x v a = as_data (s.RangeFor p l x v a) _ (stmt_of-RangeFor p l x v a)

pub literals-Break : (p : Place)
    → literals_in (s.Break p) ≡ []
unfolding literals_of_stmt literals_of_item literals_of_items
literals-Break p = refl

pub literals-Continue : (p : Place)
    → literals_in (s.Continue p) ≡ []
unfolding literals_of_stmt literals_of_item literals_of_items
literals-Continue p = refl

pub literals-Return : (p : Place) (v : Option ExprCode)
    → literals_in (s.Return p v) ≡ literals_of_value (option_map expr_of v)
unfolding literals_of_stmt literals_of_item literals_of_items
literals-Return p v = refl

pub literals-Effect : (p : Place) (w : EffectCode)
    → literals_in (s.Effect p w) ≡ literals_of_effect (effect_of w)
unfolding literals_of_stmt literals_of_item literals_of_items
literals-Effect p w = refl

pub literals-Declaration : (d : DeclarationCode) → literals_of_item (item_of (i.Declaration d)) ≡ literals_of_declaration (declaration_of d)
unfolding literals_of_item
literals-Declaration d = refl

pub literals-Statement : (x : StmtCode) → literals_of_item (item_of (i.Statement x)) ≡ literals_in x
unfolding literals_of_item
literals-Statement x = refl

pub literals-no_more : literals_of_items (items_of []) ≡ []
unfolding literals_of_items
literals-no_more = refl

pub literals-followed : (x : ItemCode) (xs : List ItemCode) → literals_of_items (items_of (x ∷ xs)) ≡ literals_of_item (item_of x) ++ literals_of_items (items_of xs)
unfolding literals_of_items
literals-followed x xs = refl

abbrev pub item_literals : ItemCode → List ℤ
item_literals x = literals_of_item (item_of x)

-- those of each item, one behind the other
pub each_item : (xs : List ItemCode) → literals_of_items (items_of xs) ≡ flat_map item_literals xs
each_item [] = literals-no_more
each_item (x ∷ xs) = literals-followed x xs ∙ ap (λ l. item_literals x ++ l) (each_item xs)

pub ruleset item_laws = (literals-Declaration, literals-Statement)
