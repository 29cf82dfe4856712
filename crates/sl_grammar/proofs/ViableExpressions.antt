-- Where an expression stops at a fault, the tokens before it begin an expression.
use Rattle.std.proofs.Common.{◌≡◌, ℕ, zero, suc, ◌+◌, ◌-◌, ◌<◌, ◌≤◌, length, List, [], ◌∷◌, Option, Some, None, Err, refl, ap, arith, drop, sub-one}
use Rattle.std.specs.Prelude.{nat_lt}
use Rattle.std.proofs.lemmas.Bool.{ltb-true, ltb-false}
use Rattle.sl_base.specs.declared.mark.Mark.TheVariants as m
use Rattle.sl_base.specs.declared.token.Token.{Token}
use Rattle.sl_base.specs.declared.word.Word.TheVariants as w
use Rattle.sl_syntax.specs.declared.token_kind.TokenKind.{TokenKind}
use Rattle.sl_syntax.specs.declared.token_kind.TokenKind.TheVariants as k
use Rattle.sl_syntax.specs.declared.operator.BinaryOperator.{BinaryOperator}
use Rattle.sl_syntax.specs.declared.operator.Selector.TheVariants as selector
use Rattle.sl_syntax.specs.Depth.{height}
use Rattle.sl_syntax.specs.Shaped.{binary_level, level, IsExpr}
use Rattle.sl_syntax.specs.Tree as t
use Rattle.sl_syntax.specs.Tree.{Expr}
use Rattle.sl_syntax.specs.Written as s
use Rattle.sl_syntax.specs.Written.{binary_mark, written}
use Rattle.sl_grammar.specs.declared.fault.Fault.TheVariants.{Grammar}
use Rattle.sl_grammar.specs.Means.Expressions.{infix_of, binds_or, piece_level, goes_on, arguments, operand, indexed, dotted, pointed, piece_by}
use Rattle.sl_grammar.specs.Means.Expressions.{piece, combined, operation_by, operation, climb, from_operand, expr}
use Rattle.sl_grammar.specs.Means.Steps.{Reader, Tall, kind_at, here, is_mark, mark, identifier}
use Rattle.sl_grammar.proofs.SoundExpressions.{sound, operation-longer}
use Rattle.sl_grammar.proofs.SoundOperands.{Left, Finds, binary-low, infix-mark, operand-left}
use Rattle.sl_grammar.proofs.SoundSteps.{one_word, one_plain, identifier_took, Part, chosen}
use Rattle.sl_grammar.proofs.ViableOperands.{Tight, Lower, StopsIn, arguments-viable, operand-viable}
use Rattle.sl_grammar.proofs.ViableSteps.{Viable, viable, begun, refitted, at_once, ◌⨠◌, unfinished, ended, some_name, faulted, tested, one_fault}
use Rattle.sl_grammar.proofs.ViableSteps.{no_fault, mark_fault, identifier_fault, Stops}

module _ (inner smaller : ℕ → Reader (Tall Expr)) (depth_left : ℕ) (f : Finds inner depth_left) (g : Finds smaller (depth_left - 1))
    (inner-stops : StopsIn inner depth_left)
    (smaller-stops : StopsIn smaller (depth_left - 1)) (ts : List Token) (left : Tall Expr) (us : List Token) where
  -- the left side with what was begun behind it
  abbrev Further : ℕ → ℕ → Type 0
  Further least n = Viable (Tight depth_left least) written ts n

  -- the left side itself
  left-viable : (least n : ℕ) → Part written IsExpr height depth_left ts left us → least ≤ level left.0 → length us ≡ n → Further least n
  left-viable least n first tight e = viable left.0 (first.fits, omega (arith, first.size, first.low), tight) (ended first.spelled e)

  binary-viable : (op : BinaryOperator) (n : ℕ) → Part written IsExpr height depth_left ts left us → left.1 < depth_left
      → goes_on (kind_at us) ≤ level left.0
      → infix_of (kind_at us) ≡ Some op → combined inner smaller depth_left left op us ≡ Err (Grammar n) → Further (goes_on (kind_at us)) n
  unfolding combined
  binary-viable op n first below goes e h =
      let P : Type 0 = Further (goes_on (kind_at us)) n in
      let low : binary_level op ≤ 6 = binary-low op in
      let told : goes_on (kind_at us) ≡ binary_level op = ap (binds_or (piece_level (kind_at us))) e in
      faulted (inner (binary_level op + 1) (drop 1 us)) _ n P h
      (λ h1.
      let v = inner-stops (binary_level op + 1) (drop 1 us) n (omega arith) (omega arith) (omega arith) h1 in
      viable (t.binary left.0 op (here us) v.tree)
      ((omega (arith, told, goes), omega (arith, v.fits.2), first.fits, v.fits.0), omega (arith, below, first.size, v.fits.1), omega (arith, told))
      (first.spelled ⨠ one_word us (k.Mark (binary_mark op)) (w.Mark (binary_mark op)) (infix-mark (kind_at us) op e) refl ⨠ begun v))
      (λ x read h1. no_fault _ n P h1)

  index-viable : (n : ℕ) → Part written IsExpr height depth_left ts left us → left.1 < depth_left → 8 ≤ level left.0
      → kind_at us ≡ k.Mark m.LeftBracket
      → indexed inner smaller depth_left left us ≡ Err (Grammar n) → Further 8 n
  unfolding indexed
  index-viable n first below tight e h =
      let P : Type 0 = Further 8 n in
      let opened = one_word us (k.Mark m.LeftBracket) (w.Mark m.LeftBracket) e refl in
      faulted (inner 1 (drop 1 us)) _ n P h
      (λ h1.
      let v = inner-stops 1 (drop 1 us) n (omega arith) (omega arith) (omega arith) h1 in
      viable (t.index left.0 (here us) v.tree)
      ((tight, first.fits, v.fits.0), omega (arith, below, first.size, v.fits.1), omega arith)
      (first.spelled ⨠ opened ⨠ unfinished (begun v) (s.mark m.RightBracket ∷ [])))
      (λ x read h1.
      let found = f 1 (drop 1 us) x (omega arith) (omega arith) read in
      faulted (mark m.RightBracket x.1) _ n P h1
      (λ h2.
      viable (t.index left.0 (here us) x.0.0)
      ((tight, first.fits, found.1.part.fits), omega (arith, below, first.size, found.0, found.1.part.size, found.1.part.low), omega arith)
      (first.spelled ⨠ opened ⨠ found.1.part.spelled ⨠ at_once (s.mark m.RightBracket ∷ []) x.1 n (mark_fault m.RightBracket x.1 n h2)))
      (λ v closed h2. no_fault _ n P h2))

  dot-viable : (n : ℕ) → Part written IsExpr height depth_left ts left us → left.1 < depth_left → 8 ≤ level left.0 → kind_at us ≡ k.Mark m.Dot
      → dotted inner smaller depth_left left us ≡ Err (Grammar n) → Further 8 n
  unfolding dotted
  dot-viable n first below tight e h =
      let P : Type 0 = Further 8 n in
      faulted (identifier (drop 1 us)) _ n P h
      (λ h1.
      viable (t.member left.0 selector.Dot (here us) some_name) ((tight, first.fits), omega (arith, below, first.size), omega arith)
      (first.spelled ⨠ one_word us (k.Mark m.Dot) (w.Mark m.Dot) e refl
      ⨠ at_once (s.named some_name ∷ []) (drop 1 us) n (identifier_fault (drop 1 us) n h1)))
      (λ x name h1.
      chosen (is_mark m.LeftParenthesis (kind_at x.1)) _ _ _ P h1
      (λ calls h2.
      faulted (arguments inner smaller depth_left x.1) _ n P h2
      (λ h3.
      let v = arguments-viable inner smaller depth_left f g inner-stops smaller-stops (omega arith) x.1 n h3 in
      viable (t.member_call left.0 x.0 v.tree) ((tight, first.fits, v.fits.0), omega (arith, below, first.size, v.fits.1), omega arith)
      (first.spelled ⨠ one_plain us (k.Mark m.Dot) (w.Mark m.Dot) e refl ⨠ identifier_took (drop 1 us) x name ⨠ begun v))
      (λ xs read h3. no_fault _ n P h3))
      (λ alone h2. no_fault _ n P h2))

  arrow-viable : (n : ℕ) → Part written IsExpr height depth_left ts left us → left.1 < depth_left → 8 ≤ level left.0 → kind_at us ≡ k.Mark m.Arrow
      → pointed inner smaller depth_left left us ≡ Err (Grammar n) → Further 8 n
  unfolding pointed
  arrow-viable n first below tight e h =
      let P : Type 0 = Further 8 n in
      faulted (identifier (drop 1 us)) _ n P h
      (λ h1.
      viable (t.member left.0 selector.Arrow (here us) some_name) ((tight, first.fits), omega (arith, below, first.size), omega arith)
      (first.spelled ⨠ one_word us (k.Mark m.Arrow) (w.Mark m.Arrow) e refl
      ⨠ at_once (s.named some_name ∷ []) (drop 1 us) n (identifier_fault (drop 1 us) n h1)))
      (λ x name h1. no_fault _ n P h1)

  piece-by : (kind : TokenKind) (n : ℕ) → Part written IsExpr height depth_left ts left us → left.1 < depth_left → goes_on kind ≤ level left.0
      → kind_at us ≡ kind → piece_by inner smaller depth_left left kind us ≡ Err (Grammar n) → Further (goes_on kind) n
  piece-by (k.Mark m.PlusPlus) n first below goes e h = no_fault _ n (Further 8 n) h
  piece-by (k.Mark m.MinusMinus) n first below goes e h = no_fault _ n (Further 8 n) h
  piece-by (k.Mark m.LeftBracket) n first below goes e h = index-viable n first below goes e h
  piece-by (k.Mark m.Dot) n first below goes e h = dot-viable n first below goes e h
  piece-by (k.Mark m.Arrow) n first below goes e h = arrow-viable n first below goes e h
  piece-by _ n first below goes e h = left-viable _ n first goes (one_fault {A = Tall Expr} _ n h)

  operation-by : (op : Option BinaryOperator) (n : ℕ) → Part written IsExpr height depth_left ts left us → left.1 < depth_left
      → goes_on (kind_at us) ≤ level left.0
      → infix_of (kind_at us) ≡ op → operation_by inner smaller depth_left left op us ≡ Err (Grammar n) → Further (goes_on (kind_at us)) n
  unfolding piece
  operation-by (Some op) n first below goes e h = binary-viable op n first below goes e h
  operation-by None n first below goes e h = piece-by (kind_at us) n first below goes refl h

  operation-viable : (n : ℕ) → Left depth_left 1 ts left us → left.1 < depth_left → operation inner smaller depth_left left us ≡ Err (Grammar n)
      → Further (goes_on (kind_at us)) n
  unfolding operation
  operation-viable n first below h = operation-by (infix_of (kind_at us)) n first.part below first.goes refl h

module _ (inner smaller : ℕ → Reader (Tall Expr)) (depth_left : ℕ) (f : Finds inner depth_left) (g : Finds smaller (depth_left - 1))
    (inner-stops : StopsIn inner depth_left)
    (smaller-stops : StopsIn smaller (depth_left - 1)) where
  climb-viable : (turns least : ℕ) (ts : List Token) (left : Tall Expr) (us : List Token) (n : ℕ) → 1 ≤ least → Left depth_left least ts left us
      → climb inner smaller depth_left least turns left us ≡ Err (Grammar n) → Viable (Tight depth_left least) written ts n
  unfolding climb
  climb-viable zero least ts left us n one first h =
      let P : Type 0 = Viable (Tight depth_left least) written ts n in
      chosen (nat_lt (goes_on (kind_at us)) least) _ _ _ P h
      (λ stop h1. no_fault _ n P h1)
      (λ on h1.
      left-viable inner smaller depth_left f g inner-stops smaller-stops ts left us least n first.part first.tight (one_fault {A = Tall Expr} _ n h1))
  climb-viable (suc turns) least ts left us n one first h =
      let P : Type 0 = Viable (Tight depth_left least) written ts n in
      chosen (nat_lt (goes_on (kind_at us)) least) _ _ _ P h
      (λ stop h1. no_fault _ n P h1)
      (λ on h1.
      let some : least ≤ goes_on (kind_at us) = ltb-false (goes_on (kind_at us)) least on in
      let start : Left depth_left 1 ts left us = record { part = first.part; tight = omega (arith, first.tight); goes = first.goes } in
      tested (nat_lt left.1 depth_left) _ (length us) n P h1
      (λ below h2.
      faulted (operation inner smaller depth_left left us) _ n P h2
      (λ h3.
      refitted (λ (x : Expr) fits. (fits.0, fits.1, omega (arith, some, fits.2)))
      (operation-viable inner smaller depth_left f g inner-stops smaller-stops ts left us n start (ltb-true left.1 depth_left below) h3))
      (λ x read h3.
      let longer = operation-longer inner smaller depth_left f g ts left us x start (ltb-true left.1 depth_left below) read in
      climb-viable turns least ts x.0 x.1 n one (record { part = longer.part; tight = omega (arith, longer.tight); goes = longer.goes }) h3))
      (λ _ e. left-viable inner smaller depth_left f g inner-stops smaller-stops ts left us least n first.part first.tight e))

  from_operand-viable : (least : ℕ) (ts : List Token) (n : ℕ) → 1 ≤ least → least ≤ 7
      → from_operand inner smaller depth_left least ts ≡ Err (Grammar n) → Viable (Lower (suc depth_left) least) written ts n
  unfolding from_operand
  from_operand-viable least ts n one low h =
      let P : Type 0 = Viable (Lower (suc depth_left) least) written ts n in
      faulted (operand inner smaller depth_left ts) _ n P h
      (λ h1.
      refitted (λ (x : Expr) fits. (fits.0, omega (arith, fits.1), omega (arith, low, fits.2)))
      (operand-viable inner smaller depth_left f g inner-stops smaller-stops ts n h1))
      (λ x read h1.
      let left = operand-left inner smaller depth_left f g ts x read in
      refitted (λ (y : Expr) fits. (fits.0, omega (arith, fits.1), fits.2))
      (climb-viable depth_left least ts x.0 x.1 n one (record { part = left.part; tight = omega (arith, left.tight); goes = left.goes }) h1))

-- What is read as an expression stops at a fault at the first token that can't stand there: those before it begin an expression.
pub expr-viable : (d least : ℕ) (ts : List Token) (n : ℕ) → 0 < d → 1 ≤ least → least ≤ 7 → expr d least ts ≡ Err (Grammar n)
    → Viable (λ (x : Expr). IsExpr x × (height x < d) × (least ≤ level x)) written ts n
unfolding expr
expr-viable zero least ts n high one low h = absurd (omega arith)
expr-viable (suc zero) least ts n high one low h =
    from_operand-viable (expr zero) (expr zero) zero (sound zero) (sound zero) (λ l us m a b c e. expr-viable zero l us m a b c e)
    (λ l us m a b c e. expr-viable zero l us m a b c e) least ts n one low h
expr-viable (suc (suc d)) least ts n high one low h =
    from_operand-viable (expr (suc d)) (expr d) (suc d) (sound (suc d)) (rw sub-one (sound d)) (λ l us m a b c e. expr-viable (suc d) l us m a b c e)
    (rw sub-one (λ l us m a b c e. expr-viable d l us m a b c e)) least ts n one low h

-- the same, of a whole expression that has so much depth left
pub value-stops : (depth_left : ℕ) → Stops written IsExpr height depth_left (expr (depth_left + 1) 1)
value-stops depth_left ts n h =
    refitted (λ (x : Expr) fits. (fits.0, omega (arith, fits.1))) (expr-viable (depth_left + 1) 1 ts n (omega arith) (omega arith) (omega arith) h)
