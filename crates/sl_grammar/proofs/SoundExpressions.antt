-- What is read as an expression is the words of one that follows the grammar, and nothing that could go on with it follows.
use Rattle.std.proofs.Common.{◌≡◌, ℕ, zero, suc, ◌+◌, ◌-◌, ◌<◌, ◌≤◌, List, Option, Some, None, Ok, refl, ap, arith, drop, sub-one}
use Rattle.std.specs.Prelude.{nat_lt}
use Rattle.std.proofs.lemmas.Bool.{ltb-true, ltb-false}
use Rattle.sl_base.specs.declared.mark.Mark.TheVariants as m
use Rattle.sl_base.specs.declared.token.Token.{Token}
use Rattle.sl_base.specs.declared.word.Word.TheVariants as w
use Rattle.sl_syntax.specs.declared.token_kind.TokenKind.{TokenKind}
use Rattle.sl_syntax.specs.declared.token_kind.TokenKind.TheVariants as k
use Rattle.sl_syntax.specs.declared.operator.BinaryOperator.{BinaryOperator}
use Rattle.sl_syntax.specs.declared.operator.PostfixOperator.{PostfixOperator}
use Rattle.sl_syntax.specs.declared.operator.PostfixOperator.TheVariants as postfix
use Rattle.sl_syntax.specs.Depth.{height}
use Rattle.sl_syntax.specs.Shaped.{binary_level, level, IsExpr}
use Rattle.sl_syntax.specs.Tree.{Expr}
use Rattle.sl_syntax.specs.Written.{binary_mark, postfix_mark, written}
use Rattle.sl_grammar.specs.Means.Expressions.{infix_of, binds_or, piece_level, goes_on, arguments, operand, indexed, dotted, pointed, postfixed}
use Rattle.sl_grammar.specs.Means.Expressions.{piece_by, piece, combined, operation_by, operation, climb, from_operand, expr}
use Rattle.sl_grammar.specs.Means.Steps.{Reader, Tall, kind_at, is_mark, mark, identifier}
use Rattle.sl_grammar.proofs.SoundOperands.{Found, Left, Finds, goes-low, binary-low, infix-mark, arguments-part, operand-left}
use Rattle.sl_grammar.proofs.SoundSteps.{Took, bound, chosen, guarded, answered, one_word, one_plain, mark_plain, identifier_took, Part, Parts}
use Rattle.sl_grammar.proofs.Spelling.{◌⨾◌}

module _ (inner smaller : ℕ → Reader (Tall Expr)) (depth_left : ℕ) (f : Finds inner depth_left) (g : Finds smaller (depth_left - 1)) (ts : List Token)
    (left : Tall Expr) (us : List Token) where
  -- the left side with what was read behind it
  abbrev Longer : ℕ → Took Expr → Type 0
  Longer least z = Left depth_left least ts z.0 z.1

  binary-longer : (op : BinaryOperator) (y : Took Expr) → Part written IsExpr height depth_left ts left us → left.1 < depth_left
      → goes_on (kind_at us) ≤ level left.0
      → infix_of (kind_at us) ≡ Some op → combined inner smaller depth_left left op us ≡ Ok y → Longer (goes_on (kind_at us)) y
  unfolding combined
  binary-longer op y first below goes e h =
      let P : Took Expr → Type 0 = Longer (goes_on (kind_at us)) in
      let low : binary_level op ≤ 6 = binary-low op in
      let told : goes_on (kind_at us) ≡ binary_level op = ap (binds_or (piece_level (kind_at us))) e in
      bound (inner (binary_level op + 1) (drop 1 us)) _ y P h (λ x read h1.
      let found = f (binary_level op + 1) (drop 1 us) x (omega arith) (omega arith) read in
      answered _ y P h1 (record {
        part = record {
          spelled = first.spelled
              ⨾ (one_word us (k.Mark (binary_mark op)) (w.Mark (binary_mark op)) (infix-mark (kind_at us) op e) refl ⨾ found.1.part.spelled);
          fits = (omega (arith, told, goes), omega (arith, found.1.tight), first.fits, found.1.part.fits);
          size = omega (arith, first.size, found.1.part.size);
          low = omega (arith, below, found.0, found.1.part.low);
        };
        tight = omega (arith, told);
        goes = omega (arith, found.1.stops);
      }))

  index-longer : (y : Took Expr) → Part written IsExpr height depth_left ts left us → left.1 < depth_left → 8 ≤ level left.0
      → kind_at us ≡ k.Mark m.LeftBracket → indexed inner smaller depth_left left us ≡ Ok y → Longer 8 y
  unfolding indexed
  index-longer y first below tight e h =
      let P : Took Expr → Type 0 = Longer 8 in
      bound (inner 1 (drop 1 us)) _ y P h (λ x read h1.
      bound (mark m.RightBracket x.1) _ y P h1 (λ v closed h2.
      let found = f 1 (drop 1 us) x (omega arith) (omega arith) read in
      answered _ y P h2 (record {
        part = record {
          spelled = first.spelled
              ⨾ (one_word us (k.Mark m.LeftBracket) (w.Mark m.LeftBracket) e refl ⨾ (found.1.part.spelled ⨾ mark_plain m.RightBracket x.1 v closed));
          fits = (tight, first.fits, found.1.part.fits);
          size = omega (arith, first.size, found.1.part.size);
          low = omega (arith, below, found.0, found.1.part.low);
        };
        tight = omega arith;
        goes = omega (arith, goes-low (kind_at v.1));
      })))

  dot-longer : (y : Took Expr) → Part written IsExpr height depth_left ts left us → left.1 < depth_left → 8 ≤ level left.0
      → kind_at us ≡ k.Mark m.Dot → dotted inner smaller depth_left left us ≡ Ok y → Longer 8 y
  unfolding dotted
  dot-longer y first below tight e h =
      let P : Took Expr → Type 0 = Longer 8 in
      bound (identifier (drop 1 us)) _ y P h (λ x name h1.
      let member = identifier_took (drop 1 us) x name in
      chosen (is_mark m.LeftParenthesis (kind_at x.1)) _ _ _ (P y) h1
      (λ calls h2.
      bound (arguments inner smaller depth_left x.1) _ y P h2 (λ xs read h3.
      let found = arguments-part inner smaller depth_left f g (omega arith) x.1 xs read in
      answered _ y P h3 (record {
        part = record {
          spelled = first.spelled ⨾ (one_plain us (k.Mark m.Dot) (w.Mark m.Dot) e refl ⨾ (member ⨾ found.spelled));
          fits = (tight, first.fits, found.fits);
          size = omega (arith, first.size, found.size);
          low = omega (arith, below, found.low);
        };
        tight = omega arith;
        goes = omega (arith, goes-low (kind_at xs.1));
      })))
      (λ alone h2.
      answered _ y P h2 (record {
        part = record {
          spelled = first.spelled ⨾ (one_word us (k.Mark m.Dot) (w.Mark m.Dot) e refl ⨾ member);
          fits = (tight, first.fits);
          size = omega (arith, first.size);
          low = omega (arith, below);
        };
        tight = omega arith;
        goes = omega (arith, goes-low (kind_at x.1));
      })))

  arrow-longer : (y : Took Expr) → Part written IsExpr height depth_left ts left us → left.1 < depth_left → 8 ≤ level left.0
      → kind_at us ≡ k.Mark m.Arrow → pointed inner smaller depth_left left us ≡ Ok y → Longer 8 y
  unfolding pointed
  arrow-longer y first below tight e h =
      let P : Took Expr → Type 0 = Longer 8 in
      bound (identifier (drop 1 us)) _ y P h (λ x name h1.
      answered _ y P h1 (record {
        part = record {
          spelled = first.spelled ⨾ (one_word us (k.Mark m.Arrow) (w.Mark m.Arrow) e refl ⨾ identifier_took (drop 1 us) x name);
          fits = (tight, first.fits);
          size = omega (arith, first.size);
          low = omega (arith, below);
        };
        tight = omega arith;
        goes = omega (arith, goes-low (kind_at x.1));
      }))

  postfix-longer : (op : PostfixOperator) (y : Took Expr) → Part written IsExpr height depth_left ts left us → left.1 < depth_left → 8 ≤ level left.0
      → kind_at us ≡ k.Mark (postfix_mark op) → postfixed inner smaller depth_left left op us ≡ Ok y → Longer 8 y
  postfix-longer op y first below tight e h =
      answered _ y (Longer 8) h (record {
        part = record {
          spelled = first.spelled ⨾ one_word us (k.Mark (postfix_mark op)) (w.Mark (postfix_mark op)) e refl;
          fits = (tight, first.fits);
          size = omega (arith, first.size);
          low = omega (arith, below);
        };
        tight = omega arith;
        goes = omega (arith, goes-low (kind_at (drop 1 us)));
      })

  piece-by : (kind : TokenKind) (y : Took Expr) → Part written IsExpr height depth_left ts left us → left.1 < depth_left → goes_on kind ≤ level left.0
      → kind_at us ≡ kind → piece_by inner smaller depth_left left kind us ≡ Ok y → Longer (goes_on kind) y
  piece-by (k.Mark m.PlusPlus) y first below goes e h = postfix-longer postfix.Increment y first below goes e h
  piece-by (k.Mark m.MinusMinus) y first below goes e h = postfix-longer postfix.Decrement y first below goes e h
  piece-by (k.Mark m.LeftBracket) y first below goes e h = index-longer y first below goes e h
  piece-by (k.Mark m.Dot) y first below goes e h = dot-longer y first below goes e h
  piece-by (k.Mark m.Arrow) y first below goes e h = arrow-longer y first below goes e h
  piece-by _ y first below goes e h = absurd cc

  operation-by : (op : Option BinaryOperator) (y : Took Expr) → Part written IsExpr height depth_left ts left us → left.1 < depth_left
      → goes_on (kind_at us) ≤ level left.0
      → infix_of (kind_at us) ≡ op → operation_by inner smaller depth_left left op us ≡ Ok y → Longer (goes_on (kind_at us)) y
  unfolding piece
  operation-by (Some op) y first below goes e h = binary-longer op y first below goes e h
  operation-by None y first below goes e h = piece-by (kind_at us) y first below goes refl h

  pub operation-longer : (y : Took Expr) → Left depth_left 1 ts left us → left.1 < depth_left → operation inner smaller depth_left left us ≡ Ok y
      → Longer (goes_on (kind_at us)) y
  unfolding operation
  operation-longer y first below h = operation-by (infix_of (kind_at us)) y first.part below first.goes refl h

module _ (inner smaller : ℕ → Reader (Tall Expr)) (depth_left : ℕ) (f : Finds inner depth_left) (g : Finds smaller (depth_left - 1)) where
  climb-found : (turns least : ℕ) (ts : List Token) (left : Tall Expr) (us : List Token) (y : Took Expr) → 1 ≤ least
      → Left depth_left least ts left us
      → climb inner smaller depth_left least turns left us ≡ Ok y → Found depth_left least ts y.0 y.1
  unfolding climb
  climb-found zero least ts left us y one first h =
      let P : Took Expr → Type 0 = λ z. Found depth_left least ts z.0 z.1 in
      guarded (nat_lt (goes_on (kind_at us)) least) _ _ y P h (λ stop h1.
      answered _ y P h1 (record { part = first.part; tight = first.tight; stops = ltb-true (goes_on (kind_at us)) least stop }))
  climb-found (suc n) least ts left us y one first h =
      let P : Took Expr → Type 0 = λ z. Found depth_left least ts z.0 z.1 in
      chosen (nat_lt (goes_on (kind_at us)) least) _ _ _ (P y) h
      (λ stop h1. answered _ y P h1 (record { part = first.part; tight = first.tight; stops = ltb-true (goes_on (kind_at us)) least stop }))
      (λ on h1.
      let some : least ≤ goes_on (kind_at us) = ltb-false (goes_on (kind_at us)) least on in
      guarded (nat_lt left.1 depth_left) _ _ y P h1 (λ below h2.
      bound (operation inner smaller depth_left left us) _ y P h2 (λ x read h3.
      let start : Left depth_left 1 ts left us = record { part = first.part; tight = omega (arith, first.tight); goes = first.goes } in
      let longer = operation-longer inner smaller depth_left f g ts left us x start (ltb-true left.1 depth_left below) read in
      climb-found n least ts x.0 x.1 y one (record { part = longer.part; tight = omega (arith, longer.tight); goes = longer.goes }) h3)))

  pub from_operand-found : (least : ℕ) (ts : List Token) (y : Took Expr) → 1 ≤ least → least ≤ 7
      → from_operand inner smaller depth_left least ts ≡ Ok y
      → Found depth_left least ts y.0 y.1
  unfolding from_operand
  from_operand-found least ts y one low h =
      let P : Took Expr → Type 0 = λ z. Found depth_left least ts z.0 z.1 in
      bound (operand inner smaller depth_left ts) _ y P h (λ x read h1.
      let left = operand-left inner smaller depth_left f g ts x read in
      climb-found depth_left least ts x.0 x.1 y one (record { part = left.part; tight = omega (arith, left.tight); goes = left.goes }) h1)

-- What is read is the words of an expression with fewer nodes on each way than the depth, and what follows doesn't go on with it.
pub sound : (d least : ℕ) (ts : List Token) (y : Took Expr) → 1 ≤ least → least ≤ 7 → expr d least ts ≡ Ok y
    → (0 < d) × Found (d - 1) least ts y.0 y.1
unfolding expr
sound zero least ts y one low h = absurd cc
sound (suc zero) least ts y one low h =
    (omega arith, from_operand-found (expr zero) (expr zero) zero (sound zero) (sound zero) least ts y one low h)
sound (suc (suc n)) least ts y one low h =
    (omega arith, rw sub-one (from_operand-found (expr (suc n)) (expr n) (suc n) (sound (suc n)) (rw sub-one (sound n)) least ts y one low h))

-- the same, of a whole expression that has so much depth left
pub whole-part : (depth_left : ℕ) → Parts written IsExpr height depth_left (expr (depth_left + 1) 1)
whole-part depth_left ts y h =
    let found = sound (depth_left + 1) 1 ts y (omega arith) (omega arith) h in
    let same : depth_left + 1 - 1 ≡ depth_left = omega arith in
    (rw same at found.1).part
