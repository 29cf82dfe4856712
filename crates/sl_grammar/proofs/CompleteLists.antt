-- The words of a list of expressions are read as that list.
use Rattle.std.proofs.Common.{◌≡◌, ℕ, ◌<◌, ◌≤◌, max, true, false, List, [], ◌∷◌, flat_map, Ok, refl, sym, ap, ◌∙◌, arith}
use Rattle.std.proofs.lemmas.Bool.{lt-ltb}
use Rattle.sl_base.specs.declared.mark.Mark.{Mark}
use Rattle.sl_base.specs.declared.mark.Mark.TheVariants as m
use Rattle.sl_base.specs.declared.token.Token.{Token}
use Rattle.sl_syntax.specs.declared.token_kind.TokenKind.{TokenKind}
use Rattle.sl_syntax.specs.Depth.{height, list_height, rest_height, highest}
use Rattle.sl_syntax.specs.Shaped.{IsExpr, AreExprs, Each}
use Rattle.sl_syntax.specs.Tree as t
use Rattle.sl_syntax.specs.Tree.{Expr, Exprs, exprs_from}
use Rattle.sl_syntax.specs.Written.{written, list_written, rest_written}
use Rattle.sl_grammar.specs.Means.Expressions.{comma_expr, list_behind, list, list_before}
use Rattle.sl_grammar.specs.Means.Steps.{Reader, Tall, kind_at, is_mark, all_behind, mark}
use Rattle.sl_grammar.proofs.CompleteKinds.{Ends, begins_expr, expr-begins}
use Rattle.sl_grammar.proofs.CompleteSteps.{Turn, row, all-row}
use Rattle.sl_grammar.proofs.KindLaws.{not_mark}
use Rattle.sl_grammar.proofs.Rows.{comma_expr_written, rest-written, rest-height}
use Rattle.sl_grammar.proofs.Spelling.{Spelled, split, plain_word, respelled}

-- a whole expression that is less high than this is read as it is
pub record ReadsWhole (bound : ℕ) (reader : Reader (Tall Expr)) : Type 0 where
  pub reads : (r : Expr) (ts rest : List Token) → IsExpr r → height r < bound → Ends 1 (kind_at rest) → Spelled (written r) ts rest
      → reader ts ≡ Ok ((r, height r), rest)

-- the word is this mark, behind a list
pub record Closes (close : Mark) (kind : TokenKind) : Type 0 where
  pub is : is_mark close kind ≡ true
  pub ends : Ends 1 kind
  pub no_comma : is_mark m.Comma kind ≡ false

-- no expression begins with this mark
pub record IsClose (close : Mark) : Type 0 where
  pub begins : (kind : TokenKind) → begins_expr kind ≡ true → is_mark close kind ≡ false

pub parenthesis-close : IsClose m.RightParenthesis
parenthesis-close = record { begins = λ kind h. not_mark begins_expr m.RightParenthesis kind refl h }

pub brace-close : IsClose m.RightBrace
brace-close = record { begins = λ kind h. not_mark begins_expr m.RightBrace kind refl h }

pub semicolon-close : IsClose m.Semicolon
semicolon-close = record { begins = λ kind h. not_mark begins_expr m.Semicolon kind refl h }

-- the expressions as a list
abbrev exprs_list : Exprs → List Expr
exprs_list t.none = []
exprs_list (t.with x xs) = x ∷ exprs_list xs

from-list : (xs : Exprs) → exprs_from (exprs_list xs) ≡ xs
from-list t.none = refl
from-list (t.with x xs) = ap (t.with x) (from-list xs)

rest-list : (xs : Exprs) → rest_written xs ≡ flat_map comma_expr_written (exprs_list xs)
rest-list xs = ap rest_written (sym (from-list xs)) ∙ sym (rest-written (exprs_list xs))

rest-highest : (xs : Exprs) → highest height (exprs_list xs) ≡ rest_height xs
rest-highest xs = sym (rest-height (exprs_list xs)) ∙ ap rest_height (from-list xs)

pub zero-max : (n : ℕ) → max 0 n ≡ n
zero-max n = omega arith

module _ (one more : Reader (Tall Expr)) (n bound : ℕ) (o : ReadsWhole bound one) (q : ReadsWhole n more) (lower : n < bound) where
  abbrev Low : Expr → Type 0
  Low x = IsExpr x × (height x < n)

  comma-turn : (x : Expr) (ts mid : List Token) → Low x → Ends 1 (kind_at mid) → Spelled (comma_expr_written x) ts mid
      → Turn (is_mark m.Comma) (comma_expr one more n) height x ts mid
  unfolding mark
  comma-turn x ts mid p f s = plain_word s (λ a place us e b. record { goes_on = rw e refl; reads = rw (e, q.reads x us mid p.0 p.1 f b) refl })

  comma-ends : (x : Expr) (ts mid : List Token) → Low x → Spelled (comma_expr_written x) ts mid → Ends 1 (kind_at ts)
  comma-ends x ts mid p s = plain_word s (λ a place us e b. rw e (record { stops = omega arith; not_call = refl }))

  low-each : (xs : Exprs) → AreExprs xs → rest_height xs < n → Each Low (exprs_list xs)
  low-each t.none a l = tt
  low-each (t.with x xs) a l = ((a.0, omega arith), low-each xs a.1 (omega arith))

  rest-row : (xs : Exprs) (ts rest : List Token) → AreExprs xs → rest_height xs < n → Ends 1 (kind_at rest)
      → is_mark m.Comma (kind_at rest) ≡ false → Spelled (rest_written xs) ts rest
      → all_behind (is_mark m.Comma) (comma_expr one more n) ([], 0) ts ≡ Ok ((exprs_list xs, rest_height xs), rest)
  rest-row xs ts rest a l f e s =
      let s' : Spelled (flat_map comma_expr_written (exprs_list xs)) ts rest = respelled (rest-list xs) s in
      let r = row (is_mark m.Comma) (comma_expr one more n) height comma_expr_written Low (Ends 1) comma-turn comma-ends (λ x. omega arith)
      (exprs_list xs) ts rest (low-each xs a l) f e s' in
      all-row (is_mark m.Comma) (comma_expr one more n) height (exprs_list xs) [] 0 ts rest r ∙ rw (zero-max, rest-highest) refl

  pub list-reads : (x : Expr) (xs : Exprs) (ts rest : List Token) → AreExprs (t.with x xs) → list_height (t.with x xs) ≤ n → Ends 1 (kind_at rest)
      → is_mark m.Comma (kind_at rest) ≡ false
      → Spelled (list_written (t.with x xs)) ts rest → list one more n ts ≡ Ok ((t.with x xs, list_height (t.with x xs)), rest)
  unfolding list list_behind
  list-reads x t.none ts rest a l f e s =
      split (written x) s (λ mid b c.
      let e2 : mid ≡ rest = c.spells in
      rw (o.reads x ts mid a.0 (omega arith) (rw e2 f) b, e2, e) refl)
  list-reads x (t.with y ys) ts rest a l f e s =
      split (written x) s (λ mid b c.
      let comma : is_mark m.Comma (kind_at mid) ≡ true = plain_word c (λ offset place us e2 d. rw e2 refl) in
      let ends : Ends 1 (kind_at mid) = plain_word c (λ offset place us e2 d. rw e2 (record { stops = omega arith; not_call = refl })) in
      rw (
        o.reads x ts mid a.0 (omega arith) ends b,
        comma,
        lt-ltb (height x) n (omega arith),
        rest-row (t.with y ys) mid rest a.1 (omega arith) f e c,
        from-list,
      ) refl)

  pub list_before-reads : (close : Mark) (xs : Exprs) (ts rest : List Token) → IsClose close → AreExprs xs → list_height xs ≤ n
      → Closes close (kind_at rest) → Spelled (list_written xs) ts rest
      → list_before one more n close ts ≡ Ok ((xs, list_height xs), rest)
  unfolding list_before
  list_before-reads close t.none ts rest i a l c s =
      let e : ts ≡ rest = s.spells in
      rw (e, c.is) refl
  list_before-reads close (t.with x xs) ts rest i a l c s =
      split (written x) s (λ mid b d.
      rw (i.begins (kind_at ts) (expr-begins x ts mid a.0 b)) (list-reads x xs ts rest a l c.ends c.no_comma s))
