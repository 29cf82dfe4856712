-- The words of a statement of the code, variant by variant.
use Rattle.std.proofs.Common.{◌≡◌, List, [], ◌∷◌, ◌++◌, Box, flat_map, refl, ap, ◌∙◌, append_assoc, codes, Option, Some, None, option_map}
use Rattle.std.specs.declared.alloc.Global.{Global}
use Rattle.sl_base.specs.declared.mark.Mark.TheVariants as m
use Rattle.sl_base.specs.declared.place.Place.{Place}
use Rattle.sl_base.specs.declared.word.Word.{Word}
use Rattle.sl_base.specs.declared.word.Word.TheVariants as w
use Rattle.sl_syntax.specs.declared.tree.effect.Cond.{Cond as CondCode}
use Rattle.sl_syntax.specs.declared.tree.effect.Effect.{Effect as EffectCode}
use Rattle.sl_syntax.specs.declared.tree.element.Element.{Element}
use Rattle.sl_syntax.specs.declared.tree.identifier.Identifier.{Identifier}
use Rattle.sl_syntax.specs.declared.tree.statement.Block.{Block as BlockCode}
use Rattle.sl_syntax.specs.declared.tree.statement.First.{First as FirstCode}
use Rattle.sl_syntax.specs.declared.tree.statement.Item.{Item as ItemCode}
use Rattle.sl_syntax.specs.declared.tree.statement.Stmt.{Stmt as StmtCode}
use Rattle.sl_syntax.specs.declared.tree.statement.Stmt.TheVariants as s
use Rattle.sl_syntax.specs.Tree as t
use Rattle.sl_syntax.specs.Tree.{Stmt, Cond}
use Rattle.sl_syntax.specs.TreeView.{cond_of, first_of, effect_of, stmt_of, item_of, items_of}
use Rattle.sl_syntax.specs.Written.{Written, words_of, mark, tested, option_written, first_written, cond_written, effect_written}
use Rattle.sl_syntax.specs.Written.{element_written, named}
use Rattle.sl_syntax.specs.Written.{stmt_written, item_written, items_written}
use Rattle.sl_syntax.proofs.TreeViews.{stmt_of-Block, stmt_of-If, stmt_of-If_else, stmt_of-While, stmt_of-For, stmt_of-RangeFor}
use Rattle.sl_syntax.proofs.WrittenLaws.{words_of-append, words_of-from_place}

abbrev pub stmt_words_of : StmtCode → List Word
stmt_words_of x = words_of (stmt_written (stmt_of x))

abbrev pub tested_words : CondCode → List Word
tested_words c = words_of (tested (cond_of c) [])

as_data : (x : StmtCode) (y : Stmt) → stmt_of x ≡ y → stmt_words_of x ≡ words_of (stmt_written y)
as_data x y e = ap (λ (y : Stmt). words_of (stmt_written y)) e

words_of-tested : (c : Cond) (rest : List Written) → words_of (tested c rest) ≡ words_of (tested c []) ++ words_of rest
words_of-tested c rest = simp (words_of-append, append_assoc)

pub words-Block : (b : BlockCode) → stmt_words_of (s.Block b) ≡ words_of (stmt_written (t.block b.place (items_of b.items.items) b.close))
words-Block b = as_data (s.Block b) _ (stmt_of-Block b)

pub words-If : (p : Place) (c : CondCode) (a : Box StmtCode Global)
    → stmt_words_of (s.If p c a None) ≡ w.Key (codes "if") ∷ (tested_words c ++ stmt_words_of a.value)
words-If p c a = as_data (s.If p c a None) _ (stmt_of-If p c a)
    ∙ ap (λ (l : List Word). w.Key (codes "if") ∷ l) (words_of-tested (cond_of c) (stmt_written (stmt_of a.value)))

pub words-If_else : (p : Place) (c : CondCode) (a b : Box StmtCode Global)
    → stmt_words_of (s.If p c a (Some b))
    ≡ w.Key (codes "if") ∷ (tested_words c ++ (stmt_words_of a.value ++ w.Key (codes "else") ∷ stmt_words_of b.value))
words-If_else p c a b =
    as_data (s.If p c a (Some b)) _ (stmt_of-If_else p c a b)
    ∙ ap (λ (l : List Word). w.Key (codes "if") ∷ l) (words_of-tested (cond_of c) _
    ∙ ap (λ (l : List Word). tested_words c ++ l) (words_of-append (stmt_written (stmt_of a.value)) _))

pub words-While : (p : Place) (c : CondCode) (a : Box StmtCode Global)
    → stmt_words_of (s.While p c a) ≡ w.Key (codes "while") ∷ (tested_words c ++ stmt_words_of a.value)
words-While p c a = as_data (s.While p c a) _ (stmt_of-While p c a)
    ∙ ap (λ (l : List Word). w.Key (codes "while") ∷ l) (words_of-tested (cond_of c) (stmt_written (stmt_of a.value)))

abbrev pub parts_words : Option FirstCode → Option CondCode → Option EffectCode → List Word
parts_words x y z =
    w.Mark m.LeftParenthesis ∷ (words_of (option_written first_written (option_map first_of x)) ++ w.Mark m.Semicolon
    ∷ (words_of (option_written cond_written (option_map cond_of y)) ++ w.Mark m.Semicolon
    ∷ (words_of (option_written effect_written (option_map effect_of z)) ++ w.Mark m.RightParenthesis ∷ [])))

pub words-For : (p : Place) (x : Option FirstCode) (y : Option CondCode) (z : Option EffectCode) (a : Box StmtCode Global)
    → stmt_words_of (s.For p x y z a) ≡ w.Key (codes "for") ∷ (parts_words x y z ++ stmt_words_of a.value)
words-For p x y z a = as_data (s.For p x y z a) _ (stmt_of-For p x y z a) ∙ simp (words_of-append, append_assoc)

pub words-RangeFor : (p : Place) (l : Element) (x v : Identifier) (a : Box StmtCode Global)
    → stmt_words_of (s.RangeFor p l x v a) ≡ w.Key (codes "for") ∷ w.Mark m.LeftParenthesis ∷ (words_of (element_written l) ++ w.Name x.name
    ∷ w.Mark m.Colon ∷ w.Name v.name ∷ w.Mark m.RightParenthesis ∷ stmt_words_of a.value)
words-RangeFor p l x v a =
    as_data (s.RangeFor p l x v a) _ (stmt_of-RangeFor p l x v a)
    ∙ ap (λ (ws : List Word). w.Key (codes "for") ∷ w.Mark m.LeftParenthesis ∷ ws)
    (words_of-append (element_written l) (named x ∷ mark m.Colon ∷ named v ∷ mark m.RightParenthesis ∷ stmt_written (stmt_of a.value)))

pub words-Effect : (p : Place) (x : EffectCode) → stmt_words_of (s.Effect p x) ≡ words_of (effect_written (effect_of x)) ++ w.Mark m.Semicolon ∷ []
words-Effect p x =
    words_of-from_place p (effect_written (effect_of x) ++ mark m.Semicolon ∷ [])
    ∙ words_of-append (effect_written (effect_of x)) (mark m.Semicolon ∷ [])

pub ruleset stmt_words = (words-Block, words-If, words-If_else, words-While, words-For, words-RangeFor, words_of-append)

pub items_words : (xs : List ItemCode) → words_of (items_written (items_of xs)) ≡ flat_map (λ x. words_of (item_written (item_of x))) xs
items_words [] = refl
items_words (x ∷ xs) =
    words_of-append (item_written (item_of x)) (items_written (items_of xs))
    ∙ ap (λ (l : List Word). words_of (item_written (item_of x)) ++ l) (items_words xs)
