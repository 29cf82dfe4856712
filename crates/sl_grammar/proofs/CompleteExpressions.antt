-- The words of an expression are read as that expression.
use Rattle.std.proofs.Common.{◌≡◌, ℕ, zero, suc, ◌+◌, ◌-◌, ◌<◌, ◌≤◌, max, true, false, List, [], ◌∷◌, ◌++◌, Ok, refl, ◌∙◌, arith}
use Rattle.std.proofs.lemmas.Bool.{lt-ltb, le-ltb}
use Rattle.sl_base.specs.declared.mark.Mark.TheVariants as m
use Rattle.sl_base.specs.declared.place.Place.{Place}
use Rattle.sl_base.specs.declared.token.Token.{Token}
use Rattle.sl_base.specs.declared.word.Word.TheVariants as w
use Rattle.sl_syntax.specs.declared.token_kind.TokenKind.TheVariants as k
use Rattle.sl_syntax.specs.declared.operator.BinaryOperator.{BinaryOperator}
use Rattle.sl_syntax.specs.declared.operator.PostfixOperator.{PostfixOperator}
use Rattle.sl_syntax.specs.declared.operator.PostfixOperator.TheVariants as q
use Rattle.sl_syntax.specs.declared.operator.PrefixOperator.{PrefixOperator}
use Rattle.sl_syntax.specs.declared.operator.PrefixOperator.TheVariants as p
use Rattle.sl_syntax.specs.declared.operator.Selector.TheVariants as s
use Rattle.sl_syntax.specs.declared.tree.identifier.Identifier.{Identifier}
use Rattle.sl_syntax.specs.Depth.{height, list_height}
use Rattle.sl_syntax.specs.TokenKinds.{kind_of}
use Rattle.sl_syntax.specs.Shaped.{level, binary_level, IsExpr, AreExprs}
use Rattle.sl_syntax.specs.Tree as t
use Rattle.sl_syntax.specs.Tree.{Expr, Exprs}
use Rattle.sl_syntax.specs.Written.{written, list_written, named, binary_mark, prefix_mark, postfix_mark}
use Rattle.sl_syntax.specs.Written as v
use Rattle.sl_grammar.specs.Means.Expressions as x
use Rattle.sl_grammar.specs.Means.Expressions.{goes_on, arguments, library_call, parentheses, prefixed, operand_by, operand, indexed, dotted, pointed}
use Rattle.sl_grammar.specs.Means.Expressions.{piece, combined, operation, climb, from_operand, expr}
use Rattle.sl_grammar.specs.Means.Steps.{Reader, Tall, kind_at, is_mark, mark, identifier, library}
use Rattle.sl_grammar.proofs.CompleteKinds.{Ends, truth-kind, infix-mark, binary-level, binary-level_some, binary-not_call, sign-level}
use Rattle.sl_grammar.proofs.CompleteLists.{ReadsWhole, parenthesis-close, list_before-reads}
use Rattle.sl_grammar.proofs.Spelling.{token, Spelled, split, at_word, plain_word}

pub level-some : (r : Expr) → 1 ≤ level r
level-some (t.binary x op place y) = binary-level_some op
level-some _ = omega arith

-- expressions that are less high than this, and belong to the rule, are read as they are
pub record ReadsBelow (bound : ℕ) (reader : ℕ → Reader (Tall Expr)) : Type 0 where
  pub reads : (r : Expr) (least : ℕ) (ts rest : List Token) → IsExpr r → height r < bound → least ≤ level r → Ends least (kind_at rest)
      → Spelled (written r) ts rest
      → reader least ts ≡ Ok ((r, height r), rest)

pub reads-whole : (bound : ℕ) (reader : ℕ → Reader (Tall Expr)) → ReadsBelow bound reader → ReadsWhole bound (reader 1)
reads-whole bound reader b = record { reads = λ r ts rest g h e s. b.reads r 1 ts rest g h (level-some r) e s }

-- Reading comes to the expression, with enough turns left.
record Arrives (inner smaller : ℕ → Reader (Tall Expr)) (depth_left least : ℕ) (r : Expr) (ts rest : List Token) : Type 0 where
  turns : ℕ
  enough : depth_left ≤ turns + height r
  here : from_operand inner smaller depth_left least ts ≡ climb inner smaller depth_left least turns (r, height r) rest

module _ (inner smaller : ℕ → Reader (Tall Expr)) (depth_left : ℕ) where
  climb-stops : (least turns : ℕ) (left : Tall Expr) (ts : List Token) → goes_on (kind_at ts) < least
      → climb inner smaller depth_left least turns left ts ≡ Ok (left, ts)
  unfolding climb
  climb-stops least zero left ts h = rw (lt-ltb (goes_on (kind_at ts)) least h) refl
  climb-stops least (suc n) left ts h = rw (lt-ltb (goes_on (kind_at ts)) least h) refl

  -- one more turn
  climb-goes_on : (least turns : ℕ) (left more : Tall Expr) (ts rest : List Token) → least ≤ goes_on (kind_at ts) → left.1 < depth_left
      → operation inner smaller depth_left left ts ≡ Ok (more, rest)
      → climb inner smaller depth_left least (suc turns) left ts ≡ climb inner smaller depth_left least turns more rest
  unfolding climb
  climb-goes_on least turns left more ts rest h l e = rw (le-ltb (goes_on (kind_at ts)) least h, lt-ltb left.1 depth_left l, e) refl

  at_operand : (r : Expr) (least : ℕ) (ts rest : List Token) → operand inner smaller depth_left ts ≡ Ok ((r, height r), rest)
      → Arrives inner smaller depth_left least r ts rest
  unfolding from_operand
  at_operand r least ts rest e = record { turns = depth_left; enough = omega arith; here = rw e refl }

  -- an expression with one more operation on it
  extend_by : (turns : ℕ) (x r : Expr) (least : ℕ) (ts mid rest : List Token) → depth_left ≤ turns + height x
      → from_operand inner smaller depth_left least ts ≡ climb inner smaller depth_left least turns (x, height x) mid
      → least ≤ goes_on (kind_at mid) → height x < height r → height x < depth_left
      → operation inner smaller depth_left (x, height x) mid ≡ Ok ((r, height r), rest) → Arrives inner smaller depth_left least r ts rest
  extend_by zero x r least ts mid rest enough here l higher low e = absurd (omega arith)
  extend_by (suc n) x r least ts mid rest enough here l higher low e = record {
    turns = n;
    enough = omega arith;
    here = here ∙ climb-goes_on least n (x, height x) (r, height r) mid rest l low e;
  }

  extend : (x r : Expr) (least : ℕ) (ts mid rest : List Token) → Arrives inner smaller depth_left least x ts mid → least ≤ goes_on (kind_at mid)
      → height x < height r → height x < depth_left
      → operation inner smaller depth_left (x, height x) mid ≡ Ok ((r, height r), rest) → Arrives inner smaller depth_left least r ts rest
  extend x r least ts mid rest a = extend_by a.turns x r least ts mid rest a.enough a.here

  finishes : (r : Expr) (least : ℕ) (ts rest : List Token) → Arrives inner smaller depth_left least r ts rest → goes_on (kind_at rest) < least
      → from_operand inner smaller depth_left least ts ≡ Ok ((r, height r), rest)
  finishes r least ts rest a h = a.here ∙ climb-stops least a.turns (r, height r) rest h

  name-reads : (f : Identifier) (o : ℕ) (us : List Token) → is_mark m.LeftParenthesis (kind_at us) ≡ false
      → operand inner smaller depth_left (token (w.Name f.name) o f.place ∷ us) ≡ Ok ((t.name f, 0), us)
  unfolding operand x.named identifier
  name-reads f o us h = rw h refl

  call-reads : (f : Identifier) (o : ℕ) (us rest : List Token) (xs : Tall Exprs) → 0 < depth_left → is_mark m.LeftParenthesis (kind_at us) ≡ true
      → arguments inner smaller depth_left us ≡ Ok (xs, rest)
      → operand inner smaller depth_left (token (w.Name f.name) o f.place ∷ us) ≡ Ok ((t.call f xs.0, xs.1 + 1), rest)
  unfolding operand x.named identifier
  call-reads f o us rest xs l h e = rw (h, lt-ltb 0 depth_left l, e) refl

  library_call-reads : (f : Identifier) (o : ℕ) (us rest : List Token) (xs : Tall Exprs) → 0 < depth_left → kind_of (w.Lib f.name) ≡ k.Library
      → arguments inner smaller depth_left us ≡ Ok (xs, rest)
      → operand inner smaller depth_left (token (w.Lib f.name) o f.place ∷ us) ≡ Ok ((t.library_call f xs.0, xs.1 + 1), rest)
  unfolding operand library_call library
  library_call-reads f o us rest xs l h e = rw (h, lt-ltb 0 depth_left l, e) refl

  parentheses-reads : (place at : Place) (o c : ℕ) (x : Tall Expr) (us rest : List Token) → 0 < depth_left
      → inner 1 us ≡ Ok (x, token (w.Mark m.RightParenthesis) c at ∷ rest)
      → operand inner smaller depth_left (token (w.Mark m.LeftParenthesis) o place ∷ us) ≡ Ok ((t.parentheses place x.0, x.1 + 1), rest)
  unfolding operand parentheses mark
  parentheses-reads place at o c x us rest l e = rw (lt-ltb 0 depth_left l, e) refl

  prefix-kind : (op : PrefixOperator) → operand_by inner smaller depth_left (k.Mark (prefix_mark op)) ≡ prefixed inner smaller depth_left op
  prefix-kind p.Not = refl
  prefix-kind _ = refl

  prefix-reads : (op : PrefixOperator) (place : Place) (o : ℕ) (x : Tall Expr) (us rest : List Token) → 0 < depth_left → inner 7 us ≡ Ok (x, rest)
      → operand inner smaller depth_left (token (w.Mark (prefix_mark op)) o place ∷ us) ≡ Ok ((t.prefix op place x.0, x.1 + 1), rest)
  unfolding operand prefixed
  prefix-reads op place o x us rest l e = rw (prefix-kind op, lt-ltb 0 depth_left l, e) refl

  binary-reads : (left y : Tall Expr) (op : BinaryOperator) (place : Place) (o : ℕ) (us rest : List Token)
      → inner (binary_level op + 1) us ≡ Ok (y, rest)
      → operation inner smaller depth_left left (token (w.Mark (binary_mark op)) o place ∷ us)
      ≡ Ok ((t.binary left.0 op place y.0, max left.1 y.1 + 1), rest)
  unfolding operation combined
  binary-reads left y op place o us rest e = rw (infix-mark op, e) refl

  postfix-reads : (left : Tall Expr) (op : PostfixOperator) (place : Place) (o : ℕ) (us : List Token)
      → operation inner smaller depth_left left (token (w.Mark (postfix_mark op)) o place ∷ us) ≡ Ok ((t.postfix left.0 op place, left.1 + 1), us)
  unfolding operation piece
  postfix-reads left q.Increment place o us = refl
  postfix-reads left q.Decrement place o us = refl

  postfix-level : (op : PostfixOperator) → goes_on (k.Mark (postfix_mark op)) ≡ 8
  postfix-level q.Increment = refl
  postfix-level q.Decrement = refl

  postfix-not_call : (op : PostfixOperator) → is_mark m.LeftParenthesis (k.Mark (postfix_mark op)) ≡ false
  postfix-not_call q.Increment = refl
  postfix-not_call q.Decrement = refl

  index-reads : (left y : Tall Expr) (place at : Place) (o c : ℕ) (us rest : List Token)
      → inner 1 us ≡ Ok (y, token (w.Mark m.RightBracket) c at ∷ rest)
      → operation inner smaller depth_left left (token (w.Mark m.LeftBracket) o place ∷ us)
      ≡ Ok ((t.index left.0 place y.0, max left.1 y.1 + 1), rest)
  unfolding operation piece indexed mark
  index-reads left y place at o c us rest e = rw e refl

  member_call-reads : (left : Tall Expr) (dot : Place) (f : Identifier) (o c : ℕ) (us rest : List Token) (xs : Tall Exprs)
      → is_mark m.LeftParenthesis (kind_at us) ≡ true
      → arguments inner smaller depth_left us ≡ Ok (xs, rest)
      → operation inner smaller depth_left left (token (w.Mark m.Dot) o dot ∷ token (w.Name f.name) c f.place ∷ us)
      ≡ Ok ((t.member_call left.0 f xs.0, max left.1 xs.1 + 1), rest)
  unfolding operation piece dotted identifier
  member_call-reads left dot f o c us rest xs h e = rw (h, e) refl

  dot-reads : (left : Tall Expr) (dot : Place) (f : Identifier) (o c : ℕ) (us : List Token) → is_mark m.LeftParenthesis (kind_at us) ≡ false
      → operation inner smaller depth_left left (token (w.Mark m.Dot) o dot ∷ token (w.Name f.name) c f.place ∷ us)
      ≡ Ok ((t.member left.0 s.Dot dot f, left.1 + 1), us)
  unfolding operation piece dotted identifier
  dot-reads left dot f o c us h = rw h refl

  arrow-reads : (left : Tall Expr) (place : Place) (f : Identifier) (o c : ℕ) (us : List Token)
      → operation inner smaller depth_left left (token (w.Mark m.Arrow) o place ∷ token (w.Name f.name) c f.place ∷ us)
      ≡ Ok ((t.member left.0 s.Arrow place f, left.1 + 1), us)
  unfolding operation piece pointed identifier
  arrow-reads left place f o c us = refl

  module _ (i : ReadsBelow depth_left inner) (j : ReadsBelow (depth_left - 1) smaller) where
    arguments-read : (xs : Exprs) (ts rest : List Token) → 0 < depth_left → AreExprs xs → list_height xs < depth_left
        → Spelled (v.mark m.LeftParenthesis ∷ (list_written xs ++ v.mark m.RightParenthesis ∷ [])) ts rest
        → arguments inner smaller depth_left ts ≡ Ok ((xs, list_height xs), rest)
    unfolding arguments mark
    arguments-read xs ts rest l a h s =
        plain_word s (λ o place us e b.
        split (list_written xs) b (λ mid c d.
        plain_word d (λ o2 place2 vs e2 f.
        let e3 : vs ≡ rest = f.spells in
        let list = list_before-reads (inner 1) (smaller 1) (depth_left - 1) depth_left (reads-whole depth_left inner i)
        (reads-whole (depth_left - 1) smaller j) (omega arith)
        m.RightParenthesis xs us mid parenthesis-close a (omega arith)
        (rw e2 (record { is = refl; ends = record { stops = omega arith; not_call = refl }; no_comma = refl })) c in
        rw (e, list, e2, e3) refl)))

    arrives : (r : Expr) (least : ℕ) (ts rest : List Token) → IsExpr r → height r ≤ depth_left → least ≤ level r → goes_on (kind_at rest) ≤ level r
        → is_mark m.LeftParenthesis (kind_at rest) ≡ false
        → Spelled (written r) ts rest → Arrives inner smaller depth_left least r ts rest
    unfolding operand
    arrives (t.number place n) least ts rest g h l b c s =
        at_word s (λ o us e d. let e2 : us ≡ rest = d.spells in at_operand _ least ts rest (rw (e, e2) refl))
    arrives (t.truth place v) least ts rest g h l b c s = at_word s (λ o us e d. let e2 : us ≡ rest = d.spells in at_operand _ least ts rest
        (rw (e, e2, truth-kind v) refl))
    arrives (t.name x) least ts rest g h l b c s =
        at_word s (λ o us e d. let e2 : us ≡ rest = d.spells in at_operand _ least ts rest (rw (e, e2) (name-reads x o rest c)))
    arrives (t.call f xs) least ts rest g h l b c s =
        at_word s (λ o us e d.
        at_operand _ least ts rest (rw e (call-reads f o us rest (xs, list_height xs) (omega arith) (plain_word d (λ o2 place us2 e2 z. rw e2 refl))
        (arguments-read xs us rest (omega arith) g (omega arith) d))))
    arrives (t.library_call f xs) least ts rest g h l b c s =
        at_word s (λ o us e d.
        at_operand _ least ts rest (rw e (library_call-reads f o us rest (xs, list_height xs) (omega arith) g.0
        (arguments-read xs us rest (omega arith) g.1 (omega arith) d))))
    arrives (t.parentheses place x) least ts rest g h l b c s =
        at_word s (λ o us e d.
        split (written x) d (λ mid y z.
        plain_word z (λ o2 place2 vs e2 f.
        let e3 : vs ≡ rest = f.spells in
        let inside : inner 1 us ≡ Ok ((x, height x), mid) = i.reads x 1 us mid g (omega arith) (level-some x)
        (rw e2 (record { stops = omega arith; not_call = refl })) y in
        at_operand _ least ts rest (rw e (parentheses-reads place place2 o o2 (x, height x) us rest (omega arith) (rw (← e3, ← e2) inside))))))
    arrives (t.prefix op place x) least ts rest g h l b c s =
        at_word s (λ o us e d.
        at_operand _ least ts rest (rw e (prefix-reads op place o (x, height x) us rest (omega arith)
        (i.reads x 7 us rest g.1 (omega arith) g.0 (record { stops = sign-level (kind_at rest) b; not_call = c }) d))))
    arrives (t.binary x op place y) least ts rest g h l b c s =
        split (written x) s (λ mid y1 z.
        at_word z (λ o us e d.
        let bound : goes_on (kind_at mid) ≡ binary_level op = rw e (binary-level op) in
        let left = arrives x least ts mid g.2 (omega arith) (omega (arith, g.0)) (omega (arith, g.0, bound)) (rw e (binary-not_call op)) y1 in
        let right = i.reads y (binary_level op + 1) us rest g.3 (omega arith) (omega (arith, g.1))
        (record { stops = omega (arith, b); not_call = c }) d in
        extend x _ least ts mid rest left (omega (arith, bound)) (omega arith) (omega arith)
        (rw e (binary-reads (x, height x) (y, height y) op place o us rest right))))
    arrives (t.postfix x op place) least ts rest g h l b c s =
        split (written x) s (λ mid y1 z.
        at_word z (λ o us e d.
        let e2 : us ≡ rest = d.spells in
        let bound : goes_on (kind_at mid) ≡ 8 = rw e (postfix-level op) in
        let left = arrives x least ts mid g.1 (omega arith) (omega (arith, g.0)) (omega (arith, g.0, bound)) (rw e (postfix-not_call op)) y1 in
        extend x _ least ts mid rest left (omega (arith, bound)) (omega arith) (omega arith)
        (rw (e, e2) (postfix-reads (x, height x) op place o rest))))
    arrives (t.index x place y) least ts rest g h l b c s =
        split (written x) s (λ mid y1 z.
        at_word z (λ o us e d.
        split (written y) d (λ mid2 y2 z2.
        plain_word z2 (λ o2 place2 vs e2 f.
        let e3 : vs ≡ rest = f.spells in
        let bound : goes_on (kind_at mid) ≡ 8 = rw e refl in
        let left = arrives x least ts mid g.1 (omega arith) (omega (arith, g.0)) (omega (arith, g.0, bound)) (rw e refl) y1 in
        let inside : inner 1 us ≡ Ok ((y, height y), mid2) = i.reads y 1 us mid2 g.2 (omega arith) (level-some y)
        (rw e2 (record { stops = omega arith; not_call = refl })) y2 in
        extend x _ least ts mid rest left (omega (arith, bound)) (omega arith) (omega arith)
        (rw e (index-reads (x, height x) (y, height y) place place2 o o2 us rest (rw (← e3, ← e2) inside)))))))
    arrives (t.member_call x f xs) least ts rest g h l b c s =
        split (written x) s (λ mid y1 z.
        plain_word z (λ o dot us e d.
        at_word d (λ o2 vs e2 z2.
        let bound : goes_on (kind_at mid) ≡ 8 = rw e refl in
        let left = arrives x least ts mid g.1 (omega arith) (omega (arith, g.0)) (omega (arith, g.0, bound)) (rw e refl) y1 in
        extend x _ least ts mid rest left (omega (arith, bound)) (omega arith) (omega arith)
        (rw (e, e2) (member_call-reads (x, height x) dot f o o2 vs rest (xs, list_height xs) (plain_word z2 (λ o3 place3 us3 e3 z3. rw e3 refl))
        (arguments-read xs vs rest (omega arith) g.2 (omega arith) z2))))))
    arrives (t.member x s.Dot place f) least ts rest g h l b c s =
        split (written x) s (λ mid y1 z.
        at_word z (λ o us e d.
        at_word d (λ o2 vs e2 z2.
        let e3 : vs ≡ rest = z2.spells in
        let bound : goes_on (kind_at mid) ≡ 8 = rw e refl in
        let left = arrives x least ts mid g.1 (omega arith) (omega (arith, g.0)) (omega (arith, g.0, bound)) (rw e refl) y1 in
        extend x _ least ts mid rest left (omega (arith, bound)) (omega arith) (omega arith)
        (rw (e, e2, e3) (dot-reads (x, height x) place f o o2 rest c)))))
    arrives (t.member x s.Arrow place f) least ts rest g h l b c s =
        split (written x) s (λ mid y1 z.
        at_word z (λ o us e d.
        at_word d (λ o2 vs e2 z2.
        let e3 : vs ≡ rest = z2.spells in
        let bound : goes_on (kind_at mid) ≡ 8 = rw e refl in
        let left = arrives x least ts mid g.1 (omega arith) (omega (arith, g.0)) (omega (arith, g.0, bound)) (rw e refl) y1 in
        extend x _ least ts mid rest left (omega (arith, bound)) (omega arith) (omega arith)
        (rw (e, e2, e3) (arrow-reads (x, height x) place f o o2 rest)))))

    reads-from : (r : Expr) (least : ℕ) (ts rest : List Token) → IsExpr r → height r ≤ depth_left → least ≤ level r → Ends least (kind_at rest)
        → Spelled (written r) ts rest
        → from_operand inner smaller depth_left least ts ≡ Ok ((r, height r), rest)
    reads-from r least ts rest g h l e s = finishes r least ts rest (arrives r least ts rest g h l (omega (arith, e.stops)) e.not_call s) e.stops

lower : (n : ℕ) (reader : ℕ → Reader (Tall Expr)) → ReadsBelow n reader → ReadsBelow (suc n - 1) reader
lower n reader b = record { reads = λ r least ts rest g h l e s. b.reads r least ts rest g (omega arith) l e s }

none-below : (n : ℕ) (reader : ℕ → Reader (Tall Expr)) → n ≤ 0 → ReadsBelow n reader
none-below n reader z = record { reads = λ r least ts rest g h l e s. absurd (omega arith) }

-- The words of an expression, where what follows doesn't go on with it, are read as that expression.
pub expr-complete : (d : ℕ) → ReadsBelow d (expr d)
unfolding expr
expr-complete zero = none-below 0 (expr 0) (omega arith)
expr-complete (suc zero) = record {
  reads = λ r least ts rest g h l e s. reads-from (expr 0) (expr 0) 0 (none-below 0 (expr 0) (omega arith))
      (none-below (0 - 1) (expr 0) (omega arith)) r least ts rest g (omega arith) l e s;
}
expr-complete (suc (suc n)) = record {
  reads = λ r least ts rest g h l e s. reads-from (expr (suc n)) (expr n) (suc n) (expr-complete (suc n))
      (lower n (expr n) (expr-complete n)) r least ts rest g (omega arith) l e s;
}

-- as `expr-complete` says, for an expression of the widest rule
pub whole-complete : (d : ℕ) → ReadsWhole d (expr d 1)
whole-complete d = reads-whole d (expr d) (expr-complete d)
