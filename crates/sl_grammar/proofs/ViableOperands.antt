-- Where an operand stops at a fault, the tokens before it begin an operand.
use Rattle.std.proofs.Common.{◌≡◌, ℕ, ◌-◌, ◌<◌, ◌≤◌, length, List, [], ◌∷◌, Err, refl, arith, drop}
use Rattle.std.specs.Prelude.{nat_lt}
use Rattle.std.proofs.lemmas.Bool.{ltb-true}
use Rattle.sl_base.specs.declared.mark.Mark.TheVariants as m
use Rattle.sl_base.specs.declared.token.Token.{Token}
use Rattle.sl_base.specs.declared.word.Word.TheVariants as w
use Rattle.sl_syntax.specs.declared.token_kind.TokenKind.{TokenKind}
use Rattle.sl_syntax.specs.declared.token_kind.TokenKind.TheVariants as k
use Rattle.sl_syntax.specs.declared.operator.PrefixOperator.{PrefixOperator}
use Rattle.sl_syntax.specs.declared.operator.PrefixOperator.TheVariants as prefix
use Rattle.sl_syntax.specs.Depth.{height}
use Rattle.sl_syntax.specs.Shaped.{level, IsExpr}
use Rattle.sl_syntax.specs.Tree as t
use Rattle.sl_syntax.specs.Tree.{Expr}
use Rattle.sl_syntax.specs.Written as s
use Rattle.sl_syntax.specs.Written.{prefix_mark, written, list_written}
use Rattle.sl_grammar.specs.declared.fault.Fault.TheVariants.{Grammar}
use Rattle.sl_grammar.specs.Means.Expressions.{list_before, arguments, named, library_call, parentheses, prefixed, operand_by, operand}
use Rattle.sl_grammar.specs.Means.Steps.{Reader, Tall, kind_at, here, is_mark, mark, identifier, library}
use Rattle.sl_grammar.proofs.SoundOperands.{Finds, arguments_written, list-parts}
use Rattle.sl_grammar.proofs.SoundSteps.{one_word, mark_plain, identifier_took, library_took, chosen}
use Rattle.sl_grammar.proofs.ViableLists.{ListLow, list-before-viable}
use Rattle.sl_grammar.proofs.ViableSteps.{Viable, viable, begun, refitted, at_once, ◌⨠◌, unfinished, ended, some_expr, faulted, tested, one_fault}
use Rattle.sl_grammar.proofs.ViableSteps.{no_fault, mark_fault, identifier_fault, library_fault, Stops}

-- an expression that is no higher than what is left of the depth, and binds at least so tightly
abbrev pub Tight : ℕ → ℕ → Expr → Type 0
Tight depth_left least x = IsExpr x × (height x ≤ depth_left) × (least ≤ level x)

-- an expression that is less high than the depth, and binds at least so tightly
abbrev pub Lower : ℕ → ℕ → Expr → Type 0
Lower depth least x = IsExpr x × (height x < depth) × (least ≤ level x)

-- what a reader of inner expressions stops in, where it stops at a fault
abbrev pub StopsIn : (ℕ → Reader (Tall Expr)) → ℕ → Type 0
StopsIn inner depth = (least : ℕ) (ts : List Token) (n : ℕ) → 0 < depth → 1 ≤ least → least ≤ 7 → inner least ts ≡ Err (Grammar n)
    → Viable (Lower depth least) written ts n

-- the same, of a whole expression
pub whole-stops : (inner : ℕ → Reader (Tall Expr)) (depth : ℕ) → StopsIn inner depth → 0 < depth → Stops written IsExpr height (depth - 1) (inner 1)
whole-stops inner depth stops high ts n h =
    refitted (λ (x : Expr) fits. (fits.0, omega (arith, fits.1))) (stops 1 ts n high (omega arith) (omega arith) h)

module _ (inner smaller : ℕ → Reader (Tall Expr)) (depth_left : ℕ) (f : Finds inner depth_left) (g : Finds smaller (depth_left - 1))
    (inner-stops : StopsIn inner depth_left)
    (smaller-stops : StopsIn smaller (depth_left - 1)) where
  list-stops : 0 < depth_left → (ts : List Token) (n : ℕ) → list_before (inner 1) (smaller 1) (depth_left - 1) m.RightParenthesis ts ≡ Err (Grammar n)
      → Viable (ListLow (depth_left - 1)) list_written ts n
  list-stops high =
      list-before-viable (inner 1) (smaller 1) (depth_left - 1) (λ us z e. (f 1 us z (omega arith) (omega arith) e).1.part)
      (λ us z e. ((g 1 us z (omega arith) (omega arith) e).0, (g 1 us z (omega arith) (omega arith) e).1.part))
      (whole-stops inner depth_left inner-stops high) (whole-stops smaller (depth_left - 1) smaller-stops) m.RightParenthesis

  pub arguments-viable : 0 < depth_left → (ts : List Token) (n : ℕ) → arguments inner smaller depth_left ts ≡ Err (Grammar n)
      → Viable (ListLow (depth_left - 1)) arguments_written ts n
  unfolding arguments
  arguments-viable high ts n h =
      let P : Type 0 = Viable (ListLow (depth_left - 1)) arguments_written ts n in
      faulted (mark m.LeftParenthesis ts) _ n P h
      (λ h1. viable t.none (tt, omega arith) (at_once (arguments_written t.none) ts n (mark_fault m.LeftParenthesis ts n h1)))
      (λ u opened h1.
      faulted (list_before (inner 1) (smaller 1) (depth_left - 1) m.RightParenthesis u.1) _ n P h1
      (λ h2.
      let v = list-stops high u.1 n h2 in
      viable v.tree v.fits (mark_plain m.LeftParenthesis ts u opened ⨠ unfinished (begun v) (s.mark m.RightParenthesis ∷ [])))
      (λ xs read h2.
      let found = list-parts inner smaller depth_left f g u.1 xs read in
      faulted (mark m.RightParenthesis xs.1) _ n P h2
      (λ h3.
      viable xs.0.0 (found.fits, omega (arith, found.size, found.low))
      (mark_plain m.LeftParenthesis ts u opened
      ⨠ found.spelled ⨠ at_once (s.mark m.RightParenthesis ∷ []) xs.1 n (mark_fault m.RightParenthesis xs.1 n h3)))
      (λ v closed h3. no_fault _ n P h3)))

  named-viable : (ts : List Token) (n : ℕ) → named inner smaller depth_left ts ≡ Err (Grammar n) → Viable (Tight depth_left 7) written ts n
  unfolding named
  named-viable ts n h =
      let P : Type 0 = Viable (Tight depth_left 7) written ts n in
      faulted (identifier ts) _ n P h
      (λ h1. viable some_expr (tt, omega arith, omega arith) (at_once (written some_expr) ts n (identifier_fault ts n h1)))
      (λ x name h1.
      let first = identifier_took ts x name in
      chosen (is_mark m.LeftParenthesis (kind_at x.1)) _ _ _ P h1
      (λ calls h2.
      tested (nat_lt 0 depth_left) _ (length x.1) n P h2
      (λ high h3.
      let above : 0 < depth_left = ltb-true 0 depth_left high in
      faulted (arguments inner smaller depth_left x.1) _ n P h3
      (λ h4.
      let v = arguments-viable above x.1 n h4 in
      viable (t.call x.0 v.tree) (v.fits.0, omega (arith, v.fits.1), omega arith) (first ⨠ begun v))
      (λ xs read h4. no_fault _ n P h4))
      (λ _ e. viable (t.name x.0) (tt, omega arith, omega arith) (ended first e)))
      (λ alone h2. no_fault _ n P h2))

  library-viable : (ts : List Token) (n : ℕ) → kind_at ts ≡ k.Library → library_call inner smaller depth_left ts ≡ Err (Grammar n)
      → Viable (Tight depth_left 7) written ts n
  unfolding library_call
  library-viable ts n is h =
      let P : Type 0 = Viable (Tight depth_left 7) written ts n in
      tested (nat_lt 0 depth_left) _ (length ts) n P h
      (λ high h1.
      let above : 0 < depth_left = ltb-true 0 depth_left high in
      faulted (library ts) _ n P h1
      (λ h2. viable some_expr (tt, omega arith, omega arith) (at_once (written some_expr) ts n (library_fault ts n h2)))
      (λ x name h2.
      let first = library_took ts x is name in
      faulted (arguments inner smaller depth_left x.1) _ n P h2
      (λ h3.
      let v = arguments-viable above x.1 n h3 in
      viable (t.library_call x.0 v.tree) ((first.1, v.fits.0), omega (arith, v.fits.1), omega arith) (first.0 ⨠ begun v))
      (λ xs read h3. no_fault _ n P h3)))
      (λ _ e. viable some_expr (tt, omega arith, omega arith) (at_once (written some_expr) ts n e))

  parentheses-viable : (ts : List Token) (n : ℕ) → kind_at ts ≡ k.Mark m.LeftParenthesis → parentheses inner smaller depth_left ts ≡ Err (Grammar n)
      → Viable (Tight depth_left 7) written ts n
  unfolding parentheses
  parentheses-viable ts n e h =
      let P : Type 0 = Viable (Tight depth_left 7) written ts n in
      let opened = one_word ts (k.Mark m.LeftParenthesis) (w.Mark m.LeftParenthesis) e refl in
      tested (nat_lt 0 depth_left) _ (length ts) n P h
      (λ high h1.
      let above : 0 < depth_left = ltb-true 0 depth_left high in
      faulted (inner 1 (drop 1 ts)) _ n P h1
      (λ h2.
      let v = inner-stops 1 (drop 1 ts) n above (omega arith) (omega arith) h2 in
      viable (t.parentheses (here ts) v.tree) (v.fits.0, omega (arith, v.fits.1), omega arith)
      (opened ⨠ unfinished (begun v) (s.mark m.RightParenthesis ∷ [])))
      (λ x read h2.
      let found = f 1 (drop 1 ts) x (omega arith) (omega arith) read in
      faulted (mark m.RightParenthesis x.1) _ n P h2
      (λ h3.
      viable (t.parentheses (here ts) x.0.0) (found.1.part.fits, omega (arith, above, found.1.part.size, found.1.part.low), omega arith)
      (opened ⨠ found.1.part.spelled ⨠ at_once (s.mark m.RightParenthesis ∷ []) x.1 n (mark_fault m.RightParenthesis x.1 n h3)))
      (λ v closed h3. no_fault _ n P h3)))
      (λ _ e1. viable some_expr (tt, omega arith, omega arith) (at_once (written some_expr) ts n e1))

  prefixed-viable : (op : PrefixOperator) (ts : List Token) (n : ℕ) → kind_at ts ≡ k.Mark (prefix_mark op)
      → prefixed inner smaller depth_left op ts ≡ Err (Grammar n) → Viable (Tight depth_left 7) written ts n
  unfolding prefixed
  prefixed-viable op ts n e h =
      let P : Type 0 = Viable (Tight depth_left 7) written ts n in
      tested (nat_lt 0 depth_left) _ (length ts) n P h
      (λ high h1.
      let above : 0 < depth_left = ltb-true 0 depth_left high in
      faulted (inner 7 (drop 1 ts)) _ n P h1
      (λ h2.
      let v = inner-stops 7 (drop 1 ts) n above (omega arith) (omega arith) h2 in
      viable (t.prefix op (here ts) v.tree) ((v.fits.2, v.fits.0), omega (arith, v.fits.1), omega arith)
      (one_word ts (k.Mark (prefix_mark op)) (w.Mark (prefix_mark op)) e refl ⨠ begun v))
      (λ x read h2. no_fault _ n P h2))
      (λ _ e1. viable some_expr (tt, omega arith, omega arith) (at_once (written some_expr) ts n e1))

  operand-by : (kind : TokenKind) (ts : List Token) (n : ℕ) → kind_at ts ≡ kind → operand_by inner smaller depth_left kind ts ≡ Err (Grammar n)
      → Viable (Tight depth_left 7) written ts n
  operand-by k.Number ts n e h = no_fault _ n (Viable (Tight depth_left 7) written ts n) h
  operand-by (k.Truth v) ts n e h = no_fault _ n (Viable (Tight depth_left 7) written ts n) h
  operand-by k.Name ts n e h = named-viable ts n h
  operand-by k.Library ts n e h = library-viable ts n e h
  operand-by (k.Mark m.LeftParenthesis) ts n e h = parentheses-viable ts n e h
  operand-by (k.Mark m.Not) ts n e h = prefixed-viable prefix.Not ts n e h
  operand-by (k.Mark m.Minus) ts n e h = prefixed-viable prefix.Negate ts n e h
  operand-by (k.Mark m.Star) ts n e h = prefixed-viable prefix.Dereference ts n e h
  operand-by (k.Mark m.PlusPlus) ts n e h = prefixed-viable prefix.Increment ts n e h
  operand-by (k.Mark m.MinusMinus) ts n e h = prefixed-viable prefix.Decrement ts n e h
  operand-by _ ts n e h = viable some_expr (tt, omega arith, omega arith) (at_once (written some_expr) ts n (one_fault {A = Tall Expr} _ n h))

  pub operand-viable : (ts : List Token) (n : ℕ) → operand inner smaller depth_left ts ≡ Err (Grammar n) → Viable (Tight depth_left 7) written ts n
  unfolding operand
  operand-viable ts n h = operand-by (kind_at ts) ts n refl h
