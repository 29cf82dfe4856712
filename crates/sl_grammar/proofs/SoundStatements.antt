-- What is read as a statement is the words of one that follows the grammar, and its `else` belong to the nearest `if`.
use Rattle.std.proofs.Common.{◌≡◌, ℕ, zero, suc, ◌+◌, Bool, true, false, List, [], ◌∷◌, ◌++◌, Ok, refl, sym, ◌∙◌, arith, drop}
use Rattle.std.specs.Prelude.{nat_lt, codes}
use Rattle.std.proofs.lemmas.Bool.{false≢true}
use Rattle.sl_base.specs.declared.mark.Mark.TheVariants as m
use Rattle.sl_base.specs.declared.place.Place.{Place}
use Rattle.sl_base.specs.declared.token.Token.{Token}
use Rattle.sl_base.specs.declared.word.Word.{Word}
use Rattle.sl_base.specs.declared.word.Word.TheVariants as w
use Rattle.sl_syntax.specs.declared.token_kind.TokenKind.{TokenKind}
use Rattle.sl_syntax.specs.declared.token_kind.TokenKind.TheVariants as k
use Rattle.sl_syntax.specs.Shaped.{ends_open}
use Rattle.sl_syntax.specs.Tree as t
use Rattle.sl_syntax.specs.Tree.{Stmt}
use Rattle.sl_syntax.specs.Written as s
use Rattle.sl_syntax.specs.Written.{at, plain, stmt_written}
use Rattle.sl_grammar.specs.Means.Effects.{effect}
use Rattle.sl_grammar.specs.Means.Expressions.{expr}
use Rattle.sl_grammar.specs.Means.Statements.{is_else, braced, block, condition, otherwise, choice, loop, return_stmt, effect_stmt, word_stmt}
use Rattle.sl_grammar.specs.Means.Statements.{stmt_by, stmt}
use Rattle.sl_grammar.specs.Means.Steps.{Reader, Tall, kind_at, here, is_mark, mark}
use Rattle.sl_grammar.proofs.SoundBlocks.{FoundStmt, Finds, braced-part, condition-part, tested-written}
use Rattle.sl_grammar.proofs.SoundEffects.{effect-part}
use Rattle.sl_grammar.proofs.SoundExpressions.{whole-part}
use Rattle.sl_grammar.proofs.SoundFors.{for-found}
use Rattle.sl_grammar.proofs.SoundSteps.{Took, bound, chosen, guarded, answered, one_word, one_plain, seen, mark_plain}
use Rattle.sl_grammar.proofs.Spelling.{Spelled, ◌⨾◌, respelled, begun}

-- where no `else` follows what may end in an open `if`, and one follows, it doesn't
pub not_open : (open_end next : Bool) → (open_end ≡ true → next ≡ false) → next ≡ true → open_end ≡ false
not_open true next h e = absurd (false≢true (sym (h refl) ∙ e))
not_open false next h e = refl

pub is_else_kind : (kind : TokenKind) → is_else kind ≡ true → kind ≡ k.Else
is_else_kind k.Else h = refl
is_else_kind _ h = absurd (false≢true h)

module _ (inner : Reader (Tall Stmt)) (depth_left : ℕ) (f : Finds inner depth_left) where
  block-found : (ts : List Token) (y : Took Stmt) → block inner depth_left ts ≡ Ok y → FoundStmt (depth_left + 1) ts y.0 y.1
  block-found ts y h =
      let P : Took Stmt → Type 0 = λ z. FoundStmt (depth_left + 1) ts z.0 z.1 in
      bound (braced inner depth_left ts) _ y P h (λ b read h1.
      let found = braced-part inner depth_left f ts b read in
      answered _ y P h1 (record {
        part = record { spelled = found.spelled; fits = found.fits; size = found.size; low = found.low };
        closed = λ e. absurd (false≢true e);
      }))

  choice-found : (ts : List Token) (y : Took Stmt) → kind_at ts ≡ k.If → choice inner depth_left ts ≡ Ok y → FoundStmt (depth_left + 1) ts y.0 y.1
  unfolding choice otherwise
  choice-found ts y e h =
      let P : Took Stmt → Type 0 = λ z. FoundStmt (depth_left + 1) ts z.0 z.1 in
      guarded (nat_lt 0 depth_left) _ _ y P h (λ _ h1.
      bound (condition inner depth_left (drop 1 ts)) _ y P h1 (λ c test h2.
      bound (inner c.1) _ y P h2 (λ a first_read h3.
      let word = one_word ts k.If (w.Key (codes "if")) e refl in
      let asked = condition-part inner depth_left f (drop 1 ts) c test in
      let first = f c.1 a first_read in
      chosen (is_else (kind_at a.1)) _ _ _ (P y) h3
      (λ sees h4.
      bound (inner (drop 1 a.1)) _ y P h4 (λ b second_read h5.
      let second = f (drop 1 a.1) b second_read in
      let other = one_plain a.1 k.Else (w.Key (codes "else")) (is_else_kind (kind_at a.1) sees) refl in
      answered _ y P h5 (record {
        part = record {
          spelled = word ⨾ respelled (tested-written c.0.0 (stmt_written a.0.0 ++ plain (w.Key (codes "else")) ∷ stmt_written b.0.0))
              (asked.spelled ⨾ (first.part.spelled ⨾ (other ⨾ second.part.spelled)));
          fits = (asked.fits, first.part.fits, not_open (ends_open a.0.0) (is_else (kind_at a.1)) first.closed sees, second.part.fits);
          size = omega (arith, asked.size, first.part.size, second.part.size);
          low = omega (arith, asked.low, first.part.low, second.part.low);
        };
        closed = second.closed;
      })))
      (λ none h4.
      answered _ y P h4 (record {
        part = record {
          spelled = word ⨾ respelled (tested-written c.0.0 (stmt_written a.0.0)) (asked.spelled ⨾ first.part.spelled);
          fits = (asked.fits, first.part.fits);
          size = omega (arith, asked.size, first.part.size);
          low = omega (arith, asked.low, first.part.low);
        };
        closed = λ _. none;
      })))))

  loop-found : (ts : List Token) (y : Took Stmt) → kind_at ts ≡ k.While → loop inner depth_left ts ≡ Ok y → FoundStmt (depth_left + 1) ts y.0 y.1
  unfolding loop
  loop-found ts y e h =
      let P : Took Stmt → Type 0 = λ z. FoundStmt (depth_left + 1) ts z.0 z.1 in
      guarded (nat_lt 0 depth_left) _ _ y P h (λ _ h1.
      bound (condition inner depth_left (drop 1 ts)) _ y P h1 (λ c test h2.
      bound (inner c.1) _ y P h2 (λ a read h3.
      let asked = condition-part inner depth_left f (drop 1 ts) c test in
      let body = f c.1 a read in
      answered _ y P h3 (record {
        part = record {
          spelled = one_word ts k.While (w.Key (codes "while")) e refl
              ⨾ respelled (tested-written c.0.0 (stmt_written a.0.0)) (asked.spelled ⨾ body.part.spelled);
          fits = (asked.fits, body.part.fits);
          size = omega (arith, asked.size, body.part.size);
          low = omega (arith, asked.low, body.part.low);
        };
        closed = body.closed;
      }))))

  return-found : (ts : List Token) (y : Took Stmt) → kind_at ts ≡ k.Return → return_stmt inner depth_left ts ≡ Ok y
      → FoundStmt (depth_left + 1) ts y.0 y.1
  unfolding return_stmt
  return-found ts y e h =
      let P : Took Stmt → Type 0 = λ z. FoundStmt (depth_left + 1) ts z.0 z.1 in
      let word = one_word ts k.Return (w.Key (codes "return")) e refl in
      chosen (is_mark m.Semicolon (kind_at (drop 1 ts))) _ _ _ (P y) h
      (λ ends h1.
      answered _ y P h1 (record {
        part = record { spelled = word ⨾ seen m.Semicolon (drop 1 ts) ends; fits = tt; size = refl; low = omega arith };
        closed = λ e. absurd (false≢true e);
      }))
      (λ goes h1.
      bound (expr (depth_left + 1) 1 (drop 1 ts)) _ y P h1 (λ v read h2.
      bound (mark m.Semicolon v.1) _ y P h2 (λ u close h3.
      let found = whole-part depth_left (drop 1 ts) v read in
      answered _ y P h3 (record {
        part = record {
          spelled = word ⨾ (found.spelled ⨾ mark_plain m.Semicolon v.1 u close);
          fits = found.fits;
          size = omega (arith, found.size);
          low = omega (arith, found.low);
        };
        closed = λ e. absurd (false≢true e);
      }))))

  effect-found : (ts : List Token) (y : Took Stmt) → effect_stmt inner depth_left ts ≡ Ok y → FoundStmt (depth_left + 1) ts y.0 y.1
  unfolding effect_stmt
  effect-found ts y h =
      let P : Took Stmt → Type 0 = λ z. FoundStmt (depth_left + 1) ts z.0 z.1 in
      bound (effect depth_left ts) _ y P h (λ x read h1.
      bound (mark m.Semicolon x.1) _ y P h1 (λ u close h2.
      let found = effect-part depth_left ts x read in
      answered _ y P h2 (record {
        part = record {
          spelled = begun (found.spelled ⨾ mark_plain m.Semicolon x.1 u close);
          fits = found.fits;
          size = omega (arith, found.size);
          low = omega (arith, found.low);
        };
        closed = λ e. absurd (false≢true e);
      })))

  -- a statement that is a word alone
  word-found : (word : Word) (make : Place → Stmt) (ts : List Token) (y : Took Stmt) (P : Took Stmt → Type 0)
      → word_stmt inner depth_left make ts ≡ Ok y
      → Spelled (at (here ts) word ∷ []) ts (drop 1 ts)
      → ((us : List Token) → Spelled (at (here ts) word ∷ s.mark m.Semicolon ∷ []) ts us → P ((make (here ts), 1), us)) → P y
  unfolding word_stmt
  word-found word make ts y P h first go =
      bound (mark m.Semicolon (drop 1 ts)) _ y P h (λ u close h1. answered _ y P h1 (go u.1 (first ⨾ mark_plain m.Semicolon (drop 1 ts) u close)))

  pub stmt-by : (kind : TokenKind) (ts : List Token) (y : Took Stmt) → kind_at ts ≡ kind → stmt_by inner depth_left kind ts ≡ Ok y
      → FoundStmt (depth_left + 1) ts y.0 y.1
  stmt-by (k.Mark m.LeftBrace) ts y e h = block-found ts y h
  stmt-by k.If ts y e h = choice-found ts y e h
  stmt-by k.While ts y e h = loop-found ts y e h
  stmt-by k.For ts y e h = for-found inner depth_left f ts y e h
  stmt-by k.Break ts y e h =
      word-found (w.Key (codes "break")) t.break ts y (λ z. FoundStmt (depth_left + 1) ts z.0 z.1) h
      (one_word ts k.Break (w.Key (codes "break")) e refl) (λ us spelled.
      record { part = record { spelled = spelled; fits = tt; size = refl; low = omega arith }; closed = λ e. absurd (false≢true e) })
  stmt-by k.Continue ts y e h =
      word-found (w.Key (codes "continue")) t.continue ts y (λ z. FoundStmt (depth_left + 1) ts z.0 z.1) h
      (one_word ts k.Continue (w.Key (codes "continue")) e refl) (λ us spelled.
      record { part = record { spelled = spelled; fits = tt; size = refl; low = omega arith }; closed = λ e. absurd (false≢true e) })
  stmt-by k.Return ts y e h = return-found ts y e h
  stmt-by _ ts y e h = effect-found ts y h

-- What is read is the words of a statement that is at most so high.
pub stmt-sound : (depth_left : ℕ) (ts : List Token) (y : Took Stmt) → stmt depth_left ts ≡ Ok y → FoundStmt depth_left ts y.0 y.1
unfolding stmt
stmt-sound zero ts y h = absurd cc
stmt-sound (suc depth_left) ts y h = rw suc-is (stmt-by (stmt depth_left) depth_left (stmt-sound depth_left) (kind_at ts) ts y refl h)
  where
    suc-is : suc depth_left ≡ depth_left + 1
    suc-is = omega arith
