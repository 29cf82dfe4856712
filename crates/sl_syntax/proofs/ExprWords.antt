-- The words of an expression of the code, variant by variant.
use Rattle.std.proofs.Common.{◌≡◌, List, [], ◌∷◌, ◌++◌, Box, Vec, flat_map, refl, ap, ◌∙◌}
use Rattle.std.specs.declared.alloc.Global.{Global}
use Rattle.sl_base.specs.declared.mark.Mark.TheVariants as m
use Rattle.sl_base.specs.declared.place.Place.{Place}
use Rattle.sl_base.specs.declared.word.Word.{Word}
use Rattle.sl_base.specs.declared.word.Word.TheVariants as w
use Rattle.sl_syntax.specs.declared.operator.BinaryOperator.{BinaryOperator}
use Rattle.sl_syntax.specs.declared.operator.PostfixOperator.{PostfixOperator}
use Rattle.sl_syntax.specs.declared.operator.PrefixOperator.{PrefixOperator}
use Rattle.sl_syntax.specs.declared.operator.Selector.{Selector}
use Rattle.sl_syntax.specs.declared.tree.expr.Expr.{Expr as ExprCode}
use Rattle.sl_syntax.specs.declared.tree.expr.Expr.TheVariants as e
use Rattle.sl_syntax.specs.declared.tree.identifier.Identifier.{Identifier}
use Rattle.sl_syntax.specs.Tree.{Expr}
use Rattle.sl_syntax.specs.TreeView.{expr_of, exprs_of}
use Rattle.sl_syntax.specs.Written.{words_of, written, list_written, rest_written, binary_mark, prefix_mark, postfix_mark, selector_mark}
use Rattle.sl_syntax.proofs.TreeViews.{expr_of-Call, expr_of-LibraryCall, expr_of-Parentheses, expr_of-Prefix, expr_of-Binary, expr_of-Postfix}
use Rattle.sl_syntax.proofs.TreeViews.{expr_of-Index, expr_of-MemberCall, expr_of-Member}
use Rattle.sl_syntax.proofs.WrittenLaws.{words_of-append, separated}

abbrev pub expr_words_of : ExprCode → List Word
expr_words_of x = words_of (written (expr_of x))

abbrev pub arguments_words : List ExprCode → List Word
arguments_words xs = w.Mark m.LeftParenthesis ∷ (words_of (list_written (exprs_of xs)) ++ w.Mark m.RightParenthesis ∷ [])

as_data : (x : ExprCode) (y : Expr) → expr_of x ≡ y → expr_words_of x ≡ words_of (written y)
as_data x y e = ap (λ (y : Expr). words_of (written y)) e

pub words-Call : (f : Identifier) (v : Vec ExprCode Global) → expr_words_of (e.Call f v) ≡ w.Name f.name ∷ arguments_words v.items
words-Call f v = as_data (e.Call f v) _ (expr_of-Call f v) ∙ rw words_of-append refl

pub words-LibraryCall : (f : Identifier) (v : Vec ExprCode Global) → expr_words_of (e.LibraryCall f v) ≡ w.Lib f.name ∷ arguments_words v.items
words-LibraryCall f v = as_data (e.LibraryCall f v) _ (expr_of-LibraryCall f v) ∙ rw words_of-append refl

pub words-Parentheses : (p : Place) (x : Box ExprCode Global)
    → expr_words_of (e.Parentheses p x) ≡ w.Mark m.LeftParenthesis ∷ (expr_words_of x.value ++ w.Mark m.RightParenthesis ∷ [])
words-Parentheses p x = as_data (e.Parentheses p x) _ (expr_of-Parentheses p x) ∙ rw words_of-append refl

pub words-Prefix : (op : PrefixOperator) (p : Place) (x : Box ExprCode Global)
    → expr_words_of (e.Prefix op p x) ≡ w.Mark (prefix_mark op) ∷ expr_words_of x.value
words-Prefix op p x = as_data (e.Prefix op p x) _ (expr_of-Prefix op p x)

pub words-Binary : (x : Box ExprCode Global) (op : BinaryOperator) (p : Place) (y : Box ExprCode Global)
    → expr_words_of (e.Binary x op p y) ≡ expr_words_of x.value ++ w.Mark (binary_mark op) ∷ expr_words_of y.value
words-Binary x op p y = as_data (e.Binary x op p y) _ (expr_of-Binary x op p y) ∙ rw words_of-append refl

pub words-Postfix : (x : Box ExprCode Global) (op : PostfixOperator) (p : Place)
    → expr_words_of (e.Postfix x op p) ≡ expr_words_of x.value ++ w.Mark (postfix_mark op) ∷ []
words-Postfix x op p = as_data (e.Postfix x op p) _ (expr_of-Postfix x op p) ∙ rw words_of-append refl

pub words-Index : (x : Box ExprCode Global) (p : Place) (y : Box ExprCode Global)
    → expr_words_of (e.Index x p y) ≡ expr_words_of x.value ++ w.Mark m.LeftBracket ∷ (expr_words_of y.value ++ w.Mark m.RightBracket ∷ [])
words-Index x p y = as_data (e.Index x p y) _ (expr_of-Index x p y) ∙ simp words_of-append

pub words-MemberCall : (x : Box ExprCode Global) (f : Identifier) (v : Vec ExprCode Global)
    → expr_words_of (e.MemberCall x f v) ≡ expr_words_of x.value ++ w.Mark m.Dot ∷ w.Name f.name ∷ arguments_words v.items
words-MemberCall x f v = as_data (e.MemberCall x f v) _ (expr_of-MemberCall x f v) ∙ simp words_of-append

pub words-Member : (x : Box ExprCode Global) (s : Selector) (p : Place) (f : Identifier)
    → expr_words_of (e.Member x s p f) ≡ expr_words_of x.value ++ w.Mark (selector_mark s) ∷ w.Name f.name ∷ []
words-Member x s p f = as_data (e.Member x s p f) _ (expr_of-Member x s p f) ∙ rw words_of-append refl

pub ruleset expr_words = (
  words-Call,
  words-LibraryCall,
  words-Parentheses,
  words-Prefix,
  words-Binary,
  words-Postfix,
  words-Index,
  words-MemberCall,
  words-Member,
  words_of-append,
)

rest_words : (xs : List ExprCode) → words_of (rest_written (exprs_of xs)) ≡ flat_map (λ y. w.Mark m.Comma ∷ expr_words_of y) xs
rest_words [] = refl
rest_words (x ∷ xs) = ap (λ (l : List Word). w.Mark m.Comma ∷ l)
    (words_of-append (written (expr_of x)) (rest_written (exprs_of xs)) ∙ ap (λ (l : List Word). expr_words_of x ++ l) (rest_words xs))

pub list_words : (xs : List ExprCode) → words_of (list_written (exprs_of xs)) ≡ separated expr_words_of xs
list_words [] = refl
list_words (x ∷ xs) =
    words_of-append (written (expr_of x)) (rest_written (exprs_of xs)) ∙ ap (λ (l : List Word). expr_words_of x ++ l) (rest_words xs)
