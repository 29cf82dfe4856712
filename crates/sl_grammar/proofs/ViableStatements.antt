-- The words before a fault in a statement begin one.
use Rattle.std.proofs.Common.{Err, List, Some, [], arith, drop, length, refl, suc, zero, ℕ, ◌++◌, ◌+◌, ◌<◌, ◌∷◌, ◌≡◌, ◌≤◌}
use Rattle.std.proofs.lemmas.Bool.{ltb-true}
use Rattle.std.specs.Prelude.{codes, nat_lt}
use Rattle.sl_base.specs.declared.mark.Mark.TheVariants as m
use Rattle.sl_base.specs.declared.place.Place.{Place}
use Rattle.sl_base.specs.declared.token.Token.{Token}
use Rattle.sl_base.specs.declared.word.Word.{Word}
use Rattle.sl_base.specs.declared.word.Word.TheVariants as w
use Rattle.sl_syntax.specs.declared.token_kind.TokenKind.{TokenKind}
use Rattle.sl_syntax.specs.declared.token_kind.TokenKind.TheVariants as k
use Rattle.sl_syntax.specs.Depth.{stmt_height}
use Rattle.sl_syntax.specs.Shaped.{IsStmt, ends_open}
use Rattle.sl_syntax.specs.Tree as t
use Rattle.sl_syntax.specs.Tree.{Cond, Stmt}
use Rattle.sl_syntax.specs.Written as s
use Rattle.sl_syntax.specs.Written.{Written, at, plain, stmt_written, tested}
use Rattle.sl_grammar.specs.declared.fault.Fault.TheVariants.{Grammar}
use Rattle.sl_grammar.specs.Means.Effects.{effect}
use Rattle.sl_grammar.specs.Means.Expressions.{expr}
use Rattle.sl_grammar.specs.Means.Statements.{block, braced, choice, condition, effect_stmt, is_else, loop, otherwise, return_stmt, stmt, stmt_by}
use Rattle.sl_grammar.specs.Means.Statements.{word_stmt}
use Rattle.sl_grammar.specs.Means.Steps.{Reader, Tall, here, is_mark, kind_at, mark}
use Rattle.sl_grammar.proofs.SoundBlocks.{Finds, condition-part, condition_written, tested-written}
use Rattle.sl_grammar.proofs.SoundEffects.{effect-part}
use Rattle.sl_grammar.proofs.SoundExpressions.{whole-part}
use Rattle.sl_grammar.proofs.SoundStatements.{stmt-sound, is_else_kind, not_open}
use Rattle.sl_grammar.proofs.SoundSteps.{one_plain, one_word, chosen}
use Rattle.sl_grammar.proofs.Spelling.{Spelled}
use Rattle.sl_grammar.proofs.ViableBlocks.{Faults, LowStmt, braced-begun, condition-begun, inner-stops, some_stmt}
use Rattle.sl_grammar.proofs.ViableEffects.{effect-viable}
use Rattle.sl_grammar.proofs.ViableExpressions.{value-stops}
use Rattle.sl_grammar.proofs.ViableFors.{for-begun}
use Rattle.sl_grammar.proofs.ViableSteps as steps
use Rattle.sl_grammar.proofs.ViableSteps.{Begun, Viable, at_once, begun, faulted, mark_fault, no_fault, one_fault, placed-begun, rewritten, unfinished}
use Rattle.sl_grammar.proofs.ViableSteps.{viable, ◌⨠◌}

module _ (inner : Reader (Tall Stmt)) (depth_left : ℕ) (f : Finds inner depth_left) (g : Faults inner depth_left) where
  block-begun : (ts : List Token) (n : ℕ) → block inner depth_left ts ≡ Err (Grammar n) → Viable (LowStmt (depth_left + 1)) stmt_written ts n
  block-begun ts n h =
      let P : Type 0 = Viable (LowStmt (depth_left + 1)) stmt_written ts n in
      faulted (braced inner depth_left ts) _ n P h
      (λ h1.
      let v = braced-begun inner depth_left f g ts n h1 in
      viable (t.block v.tree.0 v.tree.1 v.tree.2) v.fits (begun v))
      (λ b read h1. no_fault _ n P h1)

  -- a condition that begins, and a statement behind it
  tested-begun : (ts : List Token) (n : ℕ) (c : Cond) → Begun (condition_written c) ts n → Begun (tested c (stmt_written some_stmt)) ts n
  tested-begun ts n c b = rewritten (tested-written c (stmt_written some_stmt)) (unfinished b (stmt_written some_stmt))

  choice-begun : (ts : List Token) (n : ℕ) → kind_at ts ≡ k.If → choice inner depth_left ts ≡ Err (Grammar n)
      → Viable (LowStmt (depth_left + 1)) stmt_written ts n
  unfolding choice otherwise
  choice-begun ts n e h =
      let P : Type 0 = Viable (LowStmt (depth_left + 1)) stmt_written ts n in
      let word = one_word ts k.If (w.Key (codes "if")) e refl in
      steps.tested (nat_lt 0 depth_left) _ (length ts) n P h
      (λ test h1.
      let high : 0 < depth_left = ltb-true 0 depth_left test in
      let stops = inner-stops inner depth_left g high in
      faulted (condition inner depth_left (drop 1 ts)) _ n P h1
      (λ h2.
      let v = condition-begun inner depth_left f g (drop 1 ts) n h2 in
      viable (t.choice (here ts) v.tree some_stmt) ((v.fits.0, tt), omega (arith, v.fits.1, high))
      (word ⨠ tested-begun (drop 1 ts) n v.tree (begun v)))
      (λ c asks h2.
      let asked = condition-part inner depth_left f (drop 1 ts) c asks in
      faulted (inner c.1) _ n P h2
      (λ h3.
      let v = stops c.1 n h3 in
      viable (t.choice (here ts) c.0.0 v.tree) ((asked.fits, v.fits.0), omega (arith, asked.size, asked.low, v.fits.1))
      (word ⨠ rewritten (tested-written c.0.0 (stmt_written v.tree)) (asked.spelled ⨠ begun v)))
      (λ a first_read h3.
      let first = f c.1 a first_read in
      chosen (is_else (kind_at a.1)) _ _ _ P h3
      (λ sees h4.
      let other = one_plain a.1 k.Else (w.Key (codes "else")) (is_else_kind (kind_at a.1) sees) refl in
      faulted (inner (drop 1 a.1)) _ n P h4
      (λ h5.
      let v = stops (drop 1 a.1) n h5 in
      viable (t.choice_else (here ts) c.0.0 a.0.0 v.tree) (
        (asked.fits, first.part.fits, not_open (ends_open a.0.0) (is_else (kind_at a.1)) first.closed sees, v.fits.0),
        omega (arith, asked.size, asked.low, first.part.size, first.part.low, v.fits.1),
      )
      (word ⨠ rewritten (tested-written c.0.0 (stmt_written a.0.0 ++ plain (w.Key (codes "else")) ∷ stmt_written v.tree))
      (asked.spelled ⨠ (first.part.spelled ⨠ (other ⨠ begun v)))))
      (λ b read h5. no_fault _ n P h5))
      (λ none h4. no_fault _ n P h4))))
      (λ _ same. viable some_stmt (tt, omega arith) (at_once _ ts n same))

  loop-begun : (ts : List Token) (n : ℕ) → kind_at ts ≡ k.While → loop inner depth_left ts ≡ Err (Grammar n)
      → Viable (LowStmt (depth_left + 1)) stmt_written ts n
  unfolding loop
  loop-begun ts n e h =
      let P : Type 0 = Viable (LowStmt (depth_left + 1)) stmt_written ts n in
      let word = one_word ts k.While (w.Key (codes "while")) e refl in
      steps.tested (nat_lt 0 depth_left) _ (length ts) n P h
      (λ test h1.
      let high : 0 < depth_left = ltb-true 0 depth_left test in
      faulted (condition inner depth_left (drop 1 ts)) _ n P h1
      (λ h2.
      let v = condition-begun inner depth_left f g (drop 1 ts) n h2 in
      viable (t.while (here ts) v.tree some_stmt) ((v.fits.0, tt), omega (arith, v.fits.1, high))
      (word ⨠ tested-begun (drop 1 ts) n v.tree (begun v)))
      (λ c asks h2.
      let asked = condition-part inner depth_left f (drop 1 ts) c asks in
      faulted (inner c.1) _ n P h2
      (λ h3.
      let v = inner-stops inner depth_left g high c.1 n h3 in
      viable (t.while (here ts) c.0.0 v.tree) ((asked.fits, v.fits.0), omega (arith, asked.size, asked.low, v.fits.1))
      (word ⨠ rewritten (tested-written c.0.0 (stmt_written v.tree)) (asked.spelled ⨠ begun v)))
      (λ a read h3. no_fault _ n P h3)))
      (λ _ same. viable some_stmt (tt, omega arith) (at_once _ ts n same))

  return-begun : (ts : List Token) (n : ℕ) → kind_at ts ≡ k.Return → return_stmt inner depth_left ts ≡ Err (Grammar n)
      → Viable (LowStmt (depth_left + 1)) stmt_written ts n
  unfolding return_stmt
  return-begun ts n e h =
      let P : Type 0 = Viable (LowStmt (depth_left + 1)) stmt_written ts n in
      let word = one_word ts k.Return (w.Key (codes "return")) e refl in
      let close : List Written = s.mark m.Semicolon ∷ [] in
      chosen (is_mark m.Semicolon (kind_at (drop 1 ts))) _ _ _ P h
      (λ ends h1. no_fault _ n P h1)
      (λ goes h1.
      faulted (expr (depth_left + 1) 1 (drop 1 ts)) _ n P h1
      (λ h2.
      let v = value-stops depth_left (drop 1 ts) n h2 in
      viable (t.gives_back (here ts) (Some v.tree)) (v.fits.0, omega (arith, v.fits.1)) (word ⨠ unfinished (begun v) close))
      (λ v read h2.
      let found = whole-part depth_left (drop 1 ts) v read in
      faulted (mark m.Semicolon v.1) _ n P h2
      (λ h3. viable (t.gives_back (here ts) (Some v.0.0)) (found.fits, omega (arith, found.size, found.low))
      (word ⨠ (found.spelled ⨠ at_once close v.1 n (mark_fault m.Semicolon v.1 n h3))))
      (λ u read h3. no_fault _ n P h3)))

  effect-begun : (ts : List Token) (n : ℕ) → effect_stmt inner depth_left ts ≡ Err (Grammar n) → Viable (LowStmt (depth_left + 1)) stmt_written ts n
  unfolding effect_stmt
  effect-begun ts n h =
      let P : Type 0 = Viable (LowStmt (depth_left + 1)) stmt_written ts n in
      let close : List Written = s.mark m.Semicolon ∷ [] in
      faulted (effect depth_left ts) _ n P h
      (λ h1.
      let v = effect-viable depth_left ts n h1 in
      viable (t.does (here ts) v.tree) (v.fits.0, omega (arith, v.fits.1)) (placed-begun (here ts) (unfinished (begun v) close)))
      (λ x read h1.
      let found = effect-part depth_left ts x read in
      faulted (mark m.Semicolon x.1) _ n P h1
      (λ h2. viable (t.does (here ts) x.0.0) (found.fits, omega (arith, found.size, found.low))
      (placed-begun (here ts) (found.spelled ⨠ at_once close x.1 n (mark_fault m.Semicolon x.1 n h2))))
      (λ u read h2. no_fault _ n P h2))

  -- a statement that is a word alone
  word-begun : (word : Word) (make : Place → Stmt) (ts : List Token) (n : ℕ) (P : Type 0) → word_stmt inner depth_left make ts ≡ Err (Grammar n)
      → Spelled (at (here ts) word ∷ []) ts (drop 1 ts) → (Begun (at (here ts) word ∷ s.mark m.Semicolon ∷ []) ts n → P) → P
  unfolding word_stmt
  word-begun word make ts n P h first go =
      faulted (mark m.Semicolon (drop 1 ts)) _ n P h (λ h1. go (first ⨠ at_once _ (drop 1 ts) n (mark_fault m.Semicolon (drop 1 ts) n h1)))
      (λ u close h1. no_fault _ n P h1)

  stmt-by : (kind : TokenKind) (ts : List Token) (n : ℕ) → kind_at ts ≡ kind → stmt_by inner depth_left kind ts ≡ Err (Grammar n)
      → Viable (LowStmt (depth_left + 1)) stmt_written ts n
  stmt-by (k.Mark m.LeftBrace) ts n e h = block-begun ts n h
  stmt-by k.If ts n e h = choice-begun ts n e h
  stmt-by k.While ts n e h = loop-begun ts n e h
  stmt-by k.For ts n e h = for-begun inner depth_left f g ts n e h
  stmt-by k.Break ts n e h =
      word-begun (w.Key (codes "break")) t.break ts n (Viable (LowStmt (depth_left + 1)) stmt_written ts n) h
      (one_word ts k.Break (w.Key (codes "break")) e refl) (λ b. viable (t.break (here ts)) (tt, omega arith) b)
  stmt-by k.Continue ts n e h =
      word-begun (w.Key (codes "continue")) t.continue ts n (Viable (LowStmt (depth_left + 1)) stmt_written ts n) h
      (one_word ts k.Continue (w.Key (codes "continue")) e refl) (λ b. viable (t.continue (here ts)) (tt, omega arith) b)
  stmt-by k.Return ts n e h = return-begun ts n e h
  stmt-by _ ts n e h = effect-begun ts n h

-- What a statement stops in; where no depth is left it stops at its first word.
pub stmt-faults : (depth_left : ℕ) → Faults (stmt depth_left) depth_left
unfolding stmt
stmt-faults zero ts n P h shut go = shut (one_fault {A = Tall Stmt} _ n h)
stmt-faults (suc depth_left) ts n P h shut go =
    go (rw suc-is (stmt-by (stmt depth_left) depth_left (stmt-sound depth_left) (stmt-faults depth_left) (kind_at ts) ts n refl h))
  where
    suc-is : suc depth_left ≡ depth_left + 1
    suc-is = omega arith

-- The words before a fault in a statement begin one that is at most so high.
pub stmt-viable : (depth_left : ℕ) (ts : List Token) (n : ℕ) → 0 < depth_left → stmt depth_left ts ≡ Err (Grammar n)
    → Viable (λ (x : Stmt). IsStmt x × (stmt_height x ≤ depth_left)) stmt_written ts n
stmt-viable depth_left ts n high h = inner-stops (stmt depth_left) depth_left (stmt-faults depth_left) high ts n h
