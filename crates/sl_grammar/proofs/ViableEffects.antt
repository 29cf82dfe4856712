-- Where an effect or a condition stops at a fault, the tokens before it begin one.
use Rattle.std.proofs.Common.{◌≡◌, ℕ, ◌+◌, ◌-◌, ◌<◌, ◌≤◌, length, true, List, [], ◌∷◌, ◌++◌, Option, Some, None, Err, refl, arith, drop}
use Rattle.std.specs.Prelude.{nat_lt, ◌&&◌, codes}
use Rattle.std.proofs.lemmas.Bool.{ltb-true}
use Rattle.sl_base.specs.declared.mark.Mark.TheVariants as m
use Rattle.sl_base.specs.declared.token.Token.{Token}
use Rattle.sl_base.specs.declared.word.Word.TheVariants as w
use Rattle.sl_syntax.specs.declared.token_kind.TokenKind.{TokenKind}
use Rattle.sl_syntax.specs.declared.token_kind.TokenKind.TheVariants as k
use Rattle.sl_syntax.specs.declared.operator.Assignment.{Assignment}
use Rattle.sl_syntax.specs.declared.tree.effect.Read.{Read}
use Rattle.sl_syntax.specs.declared.tree.identifier.Identifier.{Identifier}
use Rattle.sl_syntax.specs.Blank.{nowhere}
use Rattle.sl_syntax.specs.Depth.{height, out_height, effect_height, cond_height}
use Rattle.sl_syntax.specs.Shaped.{IsExpr, IsRead, IsOut, IsEffect, IsCond}
use Rattle.sl_syntax.specs.Tree as t
use Rattle.sl_syntax.specs.Tree.{Expr, Out, Effect, Cond}
use Rattle.sl_syntax.specs.Written as s
use Rattle.sl_syntax.specs.Written.{assignment_mark, written, out_written, read_written, effect_written, cond_written}
use Rattle.sl_grammar.specs.declared.fault.Fault.TheVariants.{Grammar}
use Rattle.sl_grammar.specs.Means.Effects.{shifted_name, read, is_input, out_by, shifted_out, print, assignment_of, assigned_by, assigned, effect_by}
use Rattle.sl_grammar.specs.Means.Effects.{effect, begins_no_read, no_read, cond_by}
use Rattle.sl_grammar.specs.Means.Effects as effects
use Rattle.sl_grammar.specs.Means.Expressions.{expr}
use Rattle.sl_grammar.specs.Means.Steps.{Tall, kind_at, here, is_mark, mark, identifier, all_behind}
use Rattle.sl_grammar.proofs.KindLaws.{is_mark_kind}
use Rattle.sl_grammar.proofs.Rows.{Anything, name_written, flat, shifted_written}
use Rattle.sl_grammar.proofs.SoundEffects.{read-part, shifted_name-part, shifted-part, assignment-mark, no_read-begins, input-behind}
use Rattle.sl_grammar.proofs.SoundExpressions.{whole-part}
use Rattle.sl_grammar.proofs.SoundSteps.{one_word, mark_plain, Part, chosen}
use Rattle.sl_grammar.proofs.Spelling.{Spelled}
use Rattle.sl_grammar.proofs.ViableExpressions.{expr-viable, value-stops}
use Rattle.sl_grammar.proofs.ViableSteps.{Viable, viable, begun, at_once, ◌⨠◌, unfinished, ended, some_name, some_expr, faulted, tested, no_fault}
use Rattle.sl_grammar.proofs.ViableSteps.{mark_fault, identifier_fault, Stops, behind-viable}

shifted_name-stops : Stops name_written Anything flat 0 shifted_name
unfolding shifted_name
shifted_name-stops ts n h =
    let P : Type 0 = Viable (λ (x : Identifier). Anything x × (flat x ≤ 0)) name_written ts n in
    faulted (mark m.ShiftRight ts) _ n P h
    (λ h1. viable some_name (tt, omega arith) (at_once (name_written some_name) ts n (mark_fault m.ShiftRight ts n h1)))
    (λ u shift h1.
    faulted (identifier u.1) _ n P h1
    (λ h2.
    viable some_name (tt, omega arith)
    (mark_plain m.ShiftRight ts u shift ⨠ at_once (s.named some_name ∷ []) u.1 n (identifier_fault u.1 n h2)))
    (λ x name h2. no_fault _ n P h2))

-- there is depth enough for a read
pub read-viable : (depth_left : ℕ) (ts : List Token) (n : ℕ) → 0 < depth_left → kind_at ts ≡ k.Input → read depth_left ts ≡ Err (Grammar n)
    → Viable IsRead read_written ts n
unfolding read
read-viable depth_left ts n high e h =
    let P : Type 0 = Viable IsRead read_written ts n in
    let input : Spelled (s.at (here ts) (w.Lib (codes "cin")) ∷ []) ts (drop 1 ts) = one_word ts k.Input (w.Lib (codes "cin")) e refl in
    tested (nat_lt 0 depth_left) _ (length ts) n P h
    (λ _ h1.
    faulted (shifted_name (drop 1 ts)) _ n P h1
    (λ h2.
    let v = shifted_name-stops (drop 1 ts) n h2 in
    let r : Read = record { place = here ts; variables = v.tree ∷ [] } in
    viable r (omega arith) (input ⨠ unfinished (begun v) []))
    (λ x one h2.
    let first = shifted_name-part (drop 1 ts) x one in
    faulted (all_behind (is_mark m.ShiftRight) shifted_name (x.0.0 ∷ [], 0) x.1) _ n P h2
    (λ h3.
    let v = behind-viable name_written Anything flat 0 (is_mark m.ShiftRight) shifted_name shifted_name-part shifted_name-stops
    (x.0.0 ∷ [], 0) x.1 n h3 in
    let r : Read = record { place = here ts; variables = x.0.0 ∷ v.tree } in
    viable r (omega arith) (input ⨠ first.spelled ⨠ begun v))
    (λ xs more h3. no_fault _ n P h3)))
    (λ _ e1.
    let r : Read = record { place = here ts; variables = some_name ∷ [] } in
    viable r (omega arith) (at_once (read_written r) ts n e1))

module _ (depth_left : ℕ) where
  -- what is read, no higher than what is left of the depth
  abbrev pub EffectLow : Effect → Type 0
  EffectLow e = IsEffect e × (effect_height e ≤ depth_left)

  abbrev pub CondLow : Cond → Type 0
  CondLow c = IsCond c × (cond_height c ≤ depth_left)

  -- a read is refused at its first word where no depth is left, and there any effect fits
  no_effect : (ts : List Token) (n : ℕ) → length ts ≡ n → Viable EffectLow effect_written ts n
  no_effect ts n e = viable (t.evaluates some_expr) (tt, omega arith) (at_once (effect_written (t.evaluates some_expr)) ts n e)

  no_cond : (ts : List Token) (n : ℕ) → length ts ≡ n → Viable CondLow cond_written ts n
  no_cond ts n e = viable (t.tests some_expr) (tt, omega arith) (at_once (cond_written (t.tests some_expr)) ts n e)

  -- an item that is less high than what is left of the depth
  abbrev OutLow : Out → Type 0
  OutLow x = IsOut x × (out_height x ≤ depth_left - 1)

  value-out : 0 < depth_left → (ts : List Token) (n : ℕ) → out_by depth_left k.End ts ≡ Err (Grammar n) → Viable OutLow out_written ts n
  value-out high ts n h =
      let P : Type 0 = Viable OutLow out_written ts n in
      faulted (expr depth_left 5 ts) _ n P h
      (λ h1.
      let v = expr-viable depth_left 5 ts n high (omega arith) (omega arith) h1 in
      viable (t.value v.tree) ((v.fits.2, v.fits.0), omega (arith, v.fits.1)) (begun v))
      (λ x read h1. no_fault _ n P h1)

  out-viable : 0 < depth_left → (kind : TokenKind) (ts : List Token) (n : ℕ) → out_by depth_left kind ts ≡ Err (Grammar n)
      → Viable OutLow out_written ts n
  out-viable high k.Text ts n h = no_fault _ n (Viable OutLow out_written ts n) h
  out-viable high k.EndLine ts n h = no_fault _ n (Viable OutLow out_written ts n) h
  out-viable high _ ts n h = value-out high ts n h

  shifted-stops : 0 < depth_left → Stops shifted_written IsOut out_height (depth_left - 1) (shifted_out depth_left)
  unfolding shifted_out
  shifted-stops high ts n h =
      let P : Type 0 = Viable OutLow shifted_written ts n in
      faulted (mark m.ShiftLeft ts) _ n P h
      (λ h1. viable (t.end_line nowhere) (tt, omega arith) (at_once (shifted_written (t.end_line nowhere)) ts n (mark_fault m.ShiftLeft ts n h1)))
      (λ u shift h1.
      let v = out-viable high (kind_at u.1) u.1 n h1 in
      viable v.tree v.fits (mark_plain m.ShiftLeft ts u shift ⨠ begun v))

  pub print-viable : (ts : List Token) (n : ℕ) → kind_at ts ≡ k.Output → print depth_left ts ≡ Err (Grammar n) → Viable EffectLow effect_written ts n
  unfolding print
  print-viable ts n e h =
      let P : Type 0 = Viable EffectLow effect_written ts n in
      let output : Spelled (s.at (here ts) (w.Lib (codes "cout")) ∷ []) ts (drop 1 ts) = one_word ts k.Output (w.Lib (codes "cout")) e refl in
      tested (nat_lt 0 depth_left) _ (length ts) n P h
      (λ high h1.
      let above : 0 < depth_left = ltb-true 0 depth_left high in
      faulted (shifted_out depth_left (drop 1 ts)) _ n P h1
      (λ h2.
      let v = shifted-stops above (drop 1 ts) n h2 in
      viable (t.prints (here ts) (v.tree ∷ [])) ((omega arith, (v.fits.0, tt)), omega (arith, above, v.fits.1))
      (output ⨠ unfinished (begun v) []))
      (λ x one h2.
      let first = shifted-part depth_left (drop 1 ts) x one in
      faulted (all_behind (is_mark m.ShiftLeft) (shifted_out depth_left) (x.0.0 ∷ [], x.0.1) x.1) _ n P h2
      (λ h3.
      let v = behind-viable shifted_written IsOut out_height (depth_left - 1) (is_mark m.ShiftLeft) (shifted_out depth_left) (shifted-part depth_left)
      (shifted-stops above) (x.0.0 ∷ [], x.0.1) x.1 n h3 in
      viable (t.prints (here ts) (x.0.0 ∷ v.tree))
      ((omega arith, (first.fits, v.fits.0)), omega (arith, above, first.size, first.low, v.fits.1))
      (output ⨠ first.spelled ⨠ begun v))
      (λ xs more h3. no_fault _ n P h3)))
      (λ _ e1. no_effect ts n e1)

  assigned-by : (op : Option Assignment) (ts us : List Token) (left : Tall Expr) (n : ℕ) → Part written IsExpr height depth_left ts left us
      → assignment_of depth_left (kind_at us) ≡ op → assigned_by depth_left left op us ≡ Err (Grammar n) → Viable EffectLow effect_written ts n
  assigned-by (Some op) ts us left n first e h =
      let P : Type 0 = Viable EffectLow effect_written ts n in
      tested (nat_lt left.1 depth_left) _ (length us) n P h
      (λ below h1.
      let lower : left.1 < depth_left = ltb-true left.1 depth_left below in
      faulted (expr depth_left 1 (drop 1 us)) _ n P h1
      (λ h2.
      let v = expr-viable depth_left 1 (drop 1 us) n (omega arith) (omega arith) (omega arith) h2 in
      viable (t.assigns left.0 op (here us) v.tree) ((first.fits, v.fits.0), omega (arith, lower, first.size, v.fits.1))
      (first.spelled ⨠ one_word us (k.Mark (assignment_mark op)) (w.Mark (assignment_mark op)) (assignment-mark depth_left (kind_at us) op e) refl
      ⨠ begun v))
      (λ x read h2. no_fault _ n P h2))
      (λ _ e1. viable (t.evaluates left.0) (first.fits, omega (arith, first.size, first.low)) (ended first.spelled e1))
  assigned-by None ts us left n first e h = no_fault _ n (Viable EffectLow effect_written ts n) h

  value-effect : (ts : List Token) (n : ℕ) → effect_by depth_left k.End ts ≡ Err (Grammar n) → Viable EffectLow effect_written ts n
  unfolding assigned
  value-effect ts n h =
      let P : Type 0 = Viable EffectLow effect_written ts n in
      faulted (expr (depth_left + 1) 1 ts) _ n P h
      (λ h1.
      let v = value-stops depth_left ts n h1 in
      viable (t.evaluates v.tree) v.fits (begun v))
      (λ x read h1.
      assigned-by (assignment_of depth_left (kind_at x.1)) ts x.1 x.0 n (whole-part depth_left ts x read) refl h1)

  -- a read that faults: at its first word where there is no depth left for it, and else in it
  read-fault : (ts : List Token) (n : ℕ) (P : Type 0) → kind_at ts ≡ k.Input → read depth_left ts ≡ Err (Grammar n)
      → (length ts ≡ n → P) → (0 < depth_left → Viable IsRead read_written ts n → P) → P
  unfolding read
  read-fault ts n P e h here_fault inside =
      tested (nat_lt 0 depth_left) _ (length ts) n P h
      (λ high h1.
      let above : 0 < depth_left = ltb-true 0 depth_left high in
      inside above (read-viable depth_left ts n above e h))
      (λ _ e1. here_fault e1)

  effect-by : (kind : TokenKind) (ts : List Token) (n : ℕ) → kind_at ts ≡ kind → effect_by depth_left kind ts ≡ Err (Grammar n)
      → Viable EffectLow effect_written ts n
  effect-by k.Input ts n e h =
      let P : Type 0 = Viable EffectLow effect_written ts n in
      faulted (read depth_left ts) _ n P h
      (λ h1.
      read-fault ts n P e h1 (λ e1. no_effect ts n e1)
      (λ high v. viable (t.reads v.tree) (v.fits, omega (arith, high)) (begun v)))
      (λ r reads h1. no_fault _ n P h1)
  effect-by k.Output ts n e h = print-viable ts n e h
  effect-by _ ts n e h = value-effect ts n h

  no_read-viable : (ts : List Token) (n : ℕ) → 1 < depth_left → is_mark m.Not (kind_at ts) ≡ true → is_input (kind_at (drop 2 ts)) ≡ true
      → no_read depth_left ts ≡ Err (Grammar n) → Viable CondLow cond_written ts n
  unfolding no_read
  no_read-viable ts n high sees input h =
      let P : Type 0 = Viable CondLow cond_written ts n in
      let some_read : Read = record { place = nowhere; variables = some_name ∷ [] } in
      let first : Spelled (s.at (here ts) (w.Mark m.Not) ∷ []) ts (drop 1 ts) =
      one_word ts (k.Mark m.Not) (w.Mark m.Not) (is_mark_kind m.Not (kind_at ts) sees) refl in
      faulted (mark m.LeftParenthesis (drop 1 ts)) _ n P h
      (λ h1.
      viable (t.tests_no_read (here ts) some_read) (omega arith, omega arith)
      (first ⨠ at_once (s.mark m.LeftParenthesis ∷ (read_written some_read ++ s.mark m.RightParenthesis ∷ [])) (drop 1 ts) n
      (mark_fault m.LeftParenthesis (drop 1 ts) n h1)))
      (λ u opened h1.
      let kind = input-behind ts u opened input in
      let open_paren : Spelled (s.mark m.LeftParenthesis ∷ []) (drop 1 ts) u.1 = mark_plain m.LeftParenthesis (drop 1 ts) u opened in
      faulted (read depth_left u.1) _ n P h1
      (λ h2.
      let v = read-viable depth_left u.1 n (omega arith) kind h2 in
      viable (t.tests_no_read (here ts) v.tree) (v.fits, omega arith)
      (first ⨠ open_paren ⨠ unfinished (begun v) (s.mark m.RightParenthesis ∷ [])))
      (λ r reads h2.
      let found = read-part depth_left u.1 r kind reads in
      faulted (mark m.RightParenthesis r.1) _ n P h2
      (λ h3.
      viable (t.tests_no_read (here ts) r.0.0) (found.fits, omega arith)
      (first ⨠ open_paren ⨠ found.spelled ⨠ at_once (s.mark m.RightParenthesis ∷ []) r.1 n (mark_fault m.RightParenthesis r.1 n h3)))
      (λ v closed h3. no_fault _ n P h3)))

  value-cond : (ts : List Token) (n : ℕ) → cond_by depth_left k.End ts ≡ Err (Grammar n) → Viable CondLow cond_written ts n
  value-cond ts n h =
      let P : Type 0 = Viable CondLow cond_written ts n in
      chosen (nat_lt 1 depth_left && begins_no_read depth_left ts) _ _ _ P h
      (λ begins h1.
      let of = no_read-begins depth_left ts begins in
      no_read-viable ts n of.0 of.1 of.2 h1)
      (λ other h1.
      faulted (expr (depth_left + 1) 1 ts) _ n P h1
      (λ h2.
      let v = value-stops depth_left ts n h2 in
      viable (t.tests v.tree) v.fits (begun v))
      (λ x read h2. no_fault _ n P h2))

  cond-by : (kind : TokenKind) (ts : List Token) (n : ℕ) → kind_at ts ≡ kind → cond_by depth_left kind ts ≡ Err (Grammar n)
      → Viable CondLow cond_written ts n
  cond-by k.Input ts n e h =
      let P : Type 0 = Viable CondLow cond_written ts n in
      faulted (read depth_left ts) _ n P h
      (λ h1.
      read-fault ts n P e h1 (λ e1. no_cond ts n e1)
      (λ high v. viable (t.tests_read v.tree) (v.fits, omega (arith, high)) (begun v)))
      (λ r reads h1. no_fault _ n P h1)
  cond-by _ ts n e h = value-cond ts n h

-- Where an effect stops at a fault, the tokens before it begin one that is no higher than what is left of the depth.
pub effect-viable : (depth_left : ℕ) (ts : List Token) (n : ℕ) → effect depth_left ts ≡ Err (Grammar n)
    → Viable (λ (e : Effect). IsEffect e × (effect_height e ≤ depth_left)) effect_written ts n
unfolding effect
effect-viable depth_left ts n h = effect-by depth_left (kind_at ts) ts n refl h

-- Where a condition stops at a fault, the tokens before it begin one that is no higher than what is left of the depth.
pub cond-viable : (depth_left : ℕ) (ts : List Token) (n : ℕ) → effects.cond depth_left ts ≡ Err (Grammar n)
    → Viable (λ (c : Cond). IsCond c × (cond_height c ≤ depth_left)) cond_written ts n
unfolding effects.cond
cond-viable depth_left ts n h = cond-by depth_left (kind_at ts) ts n refl h
