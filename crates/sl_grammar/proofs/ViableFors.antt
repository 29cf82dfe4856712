-- The words before a fault in a `for` begin one.
use Rattle.std.proofs.Common.{Err, List, None, Ok, Option, Some, ap, arith, drop, length, refl, true, ℕ, ◌++◌, ◌+◌, ◌<◌, ◌∙◌, ◌∷◌, ◌≡◌, ◌≤◌}
use Rattle.std.proofs.lemmas.Bool.{ltb-true}
use Rattle.std.specs.Prelude.{codes, nat_lt, ◌&&◌}
use Rattle.sl_base.specs.declared.mark.Mark.TheVariants as m
use Rattle.sl_base.specs.declared.place.Place.{Place}
use Rattle.sl_base.specs.declared.scalar.Scalar.{Scalar}
use Rattle.sl_base.specs.declared.token.Token.{Token}
use Rattle.sl_base.specs.declared.word.Word.TheVariants as w
use Rattle.sl_syntax.specs.declared.token_kind.TokenKind.{TokenKind}
use Rattle.sl_syntax.specs.declared.token_kind.TokenKind.TheVariants as k
use Rattle.sl_syntax.specs.declared.tree.element.Element.{Element}
use Rattle.sl_syntax.specs.declared.tree.element.Element.TheVariants as l
use Rattle.sl_syntax.specs.declared.tree.identifier.Identifier.{Identifier}
use Rattle.sl_syntax.specs.Depth.{cond_height, effect_height, element_height, first_height, height, option_height, stmt_height}
use Rattle.sl_syntax.specs.Shaped.{IfThere, IsCond, IsEffect, IsExpr, IsFirst, IsStmt}
use Rattle.sl_syntax.specs.Tree as t
use Rattle.sl_syntax.specs.Tree.{Cond, Effect, Expr, First, Stmt}
use Rattle.sl_syntax.specs.Written as s
use Rattle.sl_syntax.specs.Written.{Written, at, cond_written, effect_written, element_word, element_written, option_written, stmt_written, written}
use Rattle.sl_grammar.specs.declared.fault.Fault.TheVariants.{Grammar}
use Rattle.sl_grammar.specs.Means.Declarations.{begins_reference, reference_head}
use Rattle.sl_grammar.specs.Means.Effects as effects
use Rattle.sl_grammar.specs.Means.Effects.{effect}
use Rattle.sl_grammar.specs.Means.Expressions.{expr}
use Rattle.sl_grammar.specs.Means.Statements.{declared_first, element_of, first_of, for_behind, for_by, for_head, for_loop, optional_cond}
use Rattle.sl_grammar.specs.Means.Statements.{optional_effect, range_behind, ranges, reference_range, valued_first, variable_behind}
use Rattle.sl_grammar.specs.Means.Steps.{Reader, Tall, here, identifier, is_mark, kind_at, mark}
use Rattle.sl_grammar.proofs.KindLaws.{both}
use Rattle.sl_grammar.proofs.MeetHeads.{head-met}
use Rattle.sl_grammar.proofs.MeetSteps.{stuck, took}
use Rattle.sl_grammar.proofs.SoundBlocks.{Finds}
use Rattle.sl_grammar.proofs.SoundEffects.{effect-part}
use Rattle.sl_grammar.proofs.SoundFors.{cond-option, effect-option, element-low, element-word, first-fits, first-height, first-written, type-fixed, type_kind}
use Rattle.sl_grammar.proofs.SoundFors.{type_word, head_written, opened_written, valued-head}
use Rattle.sl_grammar.proofs.SoundSteps.{Part, identifier_took, mark_plain, one_plain, one_word, chosen}
use Rattle.sl_grammar.proofs.Spelling.{Spelled, ◌⨾◌}
use Rattle.sl_grammar.proofs.ViableBlocks.{Faults, LowStmt, inner-stops, some_stmt}
use Rattle.sl_grammar.proofs.ViableEffects.{cond-viable, effect-viable}
use Rattle.sl_grammar.proofs.ViableExpressions.{expr-viable}
use Rattle.sl_grammar.proofs.ViableSteps.{Begun, Stops, Viable, at_once, begun, faulted, identifier_fault, mark_fault, no_fault, rewritten, some_expr}
use Rattle.sl_grammar.proofs.ViableSteps.{some_name, tested, unfinished, viable, ◌⨠◌}

-- what may stand behind the first part
abbrev others_written : List Written
others_written = s.mark m.Semicolon ∷ s.mark m.Semicolon ∷ s.mark m.RightParenthesis ∷ stmt_written some_stmt

valued-written : (type : Option Scalar) (place at_type : Place) (x : Identifier) (v : Expr) (rest : List Written)
    → opened_written place ++ at at_type (type_word type) ∷ s.named x ∷ s.mark m.Equal ∷ (written v ++ rest)
    ≡ head_written place (Some (first_of type at_type x v)) ++ rest
valued-written type place at_type x v rest =
    ap (λ (l : List Written). opened_written place ++ (l ++ rest)) (first-written type at_type x v)

module _ (inner : Reader (Tall Stmt)) (depth_left : ℕ) (f : Finds inner depth_left) (high : 0 < depth_left)
    (stops : Stops stmt_written IsStmt stmt_height depth_left inner) where
  cond-begun : Stops (option_written cond_written) (IfThere IsCond) (option_height cond_height) depth_left (optional_cond inner depth_left)
  unfolding optional_cond
  cond-begun ts n h =
      let P : Type 0 =
      Viable (λ (x : Option Cond). IfThere IsCond x × (option_height cond_height x ≤ depth_left)) (option_written cond_written) ts n in
      chosen (is_mark m.Semicolon (kind_at ts)) _ _ _ P h
      (λ left_out h1. no_fault _ n P h1)
      (λ there h1.
      faulted (effects.cond depth_left ts) _ n P h1
      (λ h2.
      let v = cond-viable depth_left ts n h2 in
      viable (Some v.tree) v.fits (begun v))
      (λ x read h2. no_fault _ n P h2))

  step-begun : Stops (option_written effect_written) (IfThere IsEffect) (option_height effect_height) depth_left (optional_effect inner depth_left)
  unfolding optional_effect
  step-begun ts n h =
      let P : Type 0 =
      Viable (λ (x : Option Effect). IfThere IsEffect x × (option_height effect_height x ≤ depth_left)) (option_written effect_written) ts n in
      chosen (is_mark m.RightParenthesis (kind_at ts)) _ _ _ P h
      (λ left_out h1. no_fault _ n P h1)
      (λ there h1.
      faulted (effect depth_left ts) _ n P h1
      (λ h2.
      let v = effect-viable depth_left ts n h2 in
      viable (Some v.tree) v.fits (begun v))
      (λ x read h2. no_fault _ n P h2))

  -- a first part may end where it ends
  first-begun : (ts : List Token) (n : ℕ) (first : Option First) → IfThere IsFirst first → option_height first_height first ≤ depth_left
      → Begun (head_written (here ts) first ++ others_written) ts n → Viable (LowStmt (depth_left + 1)) stmt_written ts n
  first-begun ts n first fits low b =
      viable (t.for (here ts) first None None some_stmt) ((fits, tt, tt, tt), omega (arith, low, high)) b

  for_behind-begun : (ts us : List Token) (first : Tall (Option First)) (n : ℕ)
      → Part (head_written (here ts)) (IfThere IsFirst) (option_height first_height) depth_left ts first us
      → for_behind inner depth_left (here ts) first us ≡ Err (Grammar n) → Viable (LowStmt (depth_left + 1)) stmt_written ts n
  unfolding for_behind
  for_behind-begun ts us first n head h =
      let P : Type 0 = Viable (LowStmt (depth_left + 1)) stmt_written ts n in
      let place : Place = here ts in
      let tall : option_height first_height first.0 ≤ depth_left = omega (arith, head.size, head.low) in
      faulted (mark m.Semicolon us) _ n P h
      (λ h1. first-begun ts n first.0 head.fits tall (head.spelled ⨠ at_once others_written us n (mark_fault m.Semicolon us n h1)))
      (λ u one h1.
      let one_mark = mark_plain m.Semicolon us u one in
      faulted (optional_cond inner depth_left u.1) _ n P h1
      (λ h2.
      let v = cond-begun u.1 n h2 in
      viable (t.for place first.0 v.tree None some_stmt) ((head.fits, v.fits.0, tt, tt), omega (arith, tall, v.fits.1, high))
      (head.spelled ⨠ (one_mark ⨠ unfinished (begun v) (s.mark m.Semicolon ∷ s.mark m.RightParenthesis ∷ stmt_written some_stmt))))
      (λ a test h2.
      let c = cond-option inner depth_left f u.1 a test in
      faulted (mark m.Semicolon a.1) _ n P h2
      (λ h3. viable (t.for place first.0 a.0.0 None some_stmt) ((head.fits, c.fits, tt, tt), omega (arith, tall, c.size, c.low, high))
      (head.spelled ⨠ (one_mark ⨠ (c.spelled ⨠ at_once _ a.1 n (mark_fault m.Semicolon a.1 n h3)))))
      (λ v two h3.
      let two_mark = mark_plain m.Semicolon a.1 v two in
      faulted (optional_effect inner depth_left v.1) _ n P h3
      (λ h4.
      let e = step-begun v.1 n h4 in
      viable (t.for place first.0 a.0.0 e.tree some_stmt) ((head.fits, c.fits, e.fits.0, tt), omega (arith, tall, c.size, c.low, e.fits.1, high))
      (head.spelled ⨠ (one_mark ⨠ (c.spelled ⨠ (two_mark ⨠ unfinished (begun e) (s.mark m.RightParenthesis ∷ stmt_written some_stmt))))))
      (λ b step h4.
      let e = effect-option inner depth_left f v.1 b step in
      faulted (mark m.RightParenthesis b.1) _ n P h4
      (λ h5. viable (t.for place first.0 a.0.0 b.0.0 some_stmt)
      ((head.fits, c.fits, e.fits, tt), omega (arith, tall, c.size, c.low, e.size, e.low, high))
      (head.spelled ⨠ (one_mark ⨠ (c.spelled ⨠ (two_mark ⨠ (e.spelled ⨠ at_once _ b.1 n (mark_fault m.RightParenthesis b.1 n h5)))))))
      (λ d close h5.
      faulted (inner d.1) _ n P h5
      (λ h6.
      let x = stops d.1 n h6 in
      viable (t.for place first.0 a.0.0 b.0.0 x.tree)
      ((head.fits, c.fits, e.fits, x.fits.0), omega (arith, tall, c.size, c.low, e.size, e.low, x.fits.1))
      (head.spelled ⨠ (one_mark ⨠ (c.spelled ⨠ (two_mark ⨠ (e.spelled ⨠ (mark_plain m.RightParenthesis b.1 d close ⨠ begun x)))))))
      (λ x read h6. no_fault _ n P h6))))))

  range-begun : (element : Element) (ts us vs : List Token) (x : Identifier × List Token) (n : ℕ) → Spelled (opened_written (here ts)) ts us
      → Spelled (element_written element) us vs → identifier vs ≡ Ok x
      → range_behind inner depth_left (here ts) element x.0 x.1 ≡ Err (Grammar n) → Viable (LowStmt (depth_left + 1)) stmt_written ts n
  unfolding range_behind
  range-begun element ts us vs x n opened typed name h =
      let P : Type 0 = Viable (LowStmt (depth_left + 1)) stmt_written ts n in
      let low : element_height element ≤ 1 = element-low element in
      let of_range = λ (v : Identifier) (body : Stmt). t.range_for (here ts) element x.0 v body in
      let named = identifier_took vs x name in
      faulted (mark m.Colon x.1) _ n P h
      (λ h1. viable (of_range some_name some_stmt) (tt, omega (arith, high, low))
      (opened ⨠ (typed ⨠ (named ⨠ at_once _ x.1 n (mark_fault m.Colon x.1 n h1)))))
      (λ u colon h1.
      let colon_mark = mark_plain m.Colon x.1 u colon in
      faulted (identifier u.1) _ n P h1
      (λ h2. viable (of_range some_name some_stmt) (tt, omega (arith, high, low))
      (opened ⨠ (typed ⨠ (named ⨠ (colon_mark ⨠ at_once _ u.1 n (identifier_fault u.1 n h2))))))
      (λ v container h2.
      let given = identifier_took u.1 v container in
      faulted (mark m.RightParenthesis v.1) _ n P h2
      (λ h3. viable (of_range v.0 some_stmt) (tt, omega (arith, high, low))
      (opened ⨠ (typed ⨠ (named ⨠ (colon_mark ⨠ (given ⨠ at_once _ v.1 n (mark_fault m.RightParenthesis v.1 n h3)))))))
      (λ d close h3.
      faulted (inner d.1) _ n P h3
      (λ h4.
      let b = stops d.1 n h4 in
      viable (of_range v.0 b.tree) (b.fits.0, omega (arith, b.fits.1, high, low))
      (opened ⨠ (typed ⨠ (named ⨠ (colon_mark ⨠ (given ⨠ (mark_plain m.RightParenthesis v.1 d close ⨠ begun b)))))))
      (λ b read h4. no_fault _ n P h4))))

  -- from the type of a reference on
  reference-begun : (ts us : List Token) (n : ℕ) → Spelled (opened_written (here ts)) ts us
      → reference_range inner depth_left (here ts) us ≡ Err (Grammar n) → Viable (LowStmt (depth_left + 1)) stmt_written ts n
  unfolding reference_range
  reference-begun ts us n opened h =
      let P : Type 0 = Viable (LowStmt (depth_left + 1)) stmt_written ts n in
      faulted (reference_head us) _ n P h
      (λ h1.
      let v = stuck (head-met us) h1 in
      viable (t.range_for (here ts) (l.Reference v.tree) some_name some_name some_stmt) (tt, omega (arith, high)) (opened ⨠ unfinished (begun v) _))
      (λ head headed h1.
      let typed = (took (head-met us) headed).0 in
      faulted (identifier head.1) _ n P h1
      (λ h2. viable (t.range_for (here ts) (l.Reference head.0) some_name some_name some_stmt) (tt, omega (arith, high))
      (opened ⨠ (typed ⨠ at_once _ head.1 n (identifier_fault head.1 n h2))))
      (λ x name h2. range-begun (l.Reference head.0) ts us head.1 x n opened typed name h2))

  -- a variable with a value
  value-begun : (type : Option Scalar) (ts us : List Token) (x : Identifier) (v : Expr) (n : ℕ) → IsExpr v → height v < depth_left
      → Begun (opened_written (here ts) ++ at (here us) (type_word type) ∷ s.named x ∷ s.mark m.Equal ∷ (written v ++ others_written)) ts n
      → Viable (LowStmt (depth_left + 1)) stmt_written ts n
  value-begun type ts us x v n fits low b =
      first-begun ts n (Some (first_of type (here us) x v)) (first-fits type (here us) x v fits)
      (omega (arith, first-height type (here us) x v, low)) (rewritten (valued-written type (here ts) (here us) x v others_written) b)

  valued-begun : (type : Option Scalar) (ts us : List Token) (x : Identifier × List Token) (n : ℕ) → Spelled (opened_written (here ts)) ts us
      → kind_at us ≡ type_kind type → identifier (drop 1 us) ≡ Ok x
      → valued_first inner depth_left (here ts) (here us) type x.0 x.1 ≡ Err (Grammar n) → Viable (LowStmt (depth_left + 1)) stmt_written ts n
  unfolding valued_first
  valued-begun type ts us x n opened e name h =
      let P : Type 0 = Viable (LowStmt (depth_left + 1)) stmt_written ts n in
      let variable = one_word us (type_kind type) (type_word type) e (type-fixed type) ⨾ identifier_took (drop 1 us) x name in
      faulted (mark m.Equal x.1) _ n P h
      (λ h1. value-begun type ts us x.0 some_expr n tt high (opened ⨠ (variable ⨠ at_once _ x.1 n (mark_fault m.Equal x.1 n h1))))
      (λ u equal h1.
      let sign = mark_plain m.Equal x.1 u equal in
      faulted (expr depth_left 1 u.1) _ n P h1
      (λ h2.
      let v = expr-viable depth_left 1 u.1 n high (omega arith) (omega arith) h2 in
      value-begun type ts us x.0 v.tree n v.fits.0 v.fits.1 (opened ⨠ (variable ⨠ (sign ⨠ unfinished (begun v) others_written))))
      (λ v read h2. for_behind-begun ts v.1 _ n (valued-head inner depth_left f type ts us x u v opened e name equal read) h2))

  declared-begun : (type : Option Scalar) (ts us : List Token) (n : ℕ) → Spelled (opened_written (here ts)) ts us
      → kind_at us ≡ type_kind type → declared_first inner depth_left (here ts) type us ≡ Err (Grammar n)
      → Viable (LowStmt (depth_left + 1)) stmt_written ts n
  unfolding declared_first variable_behind
  declared-begun type ts us n opened e h =
      let P : Type 0 = Viable (LowStmt (depth_left + 1)) stmt_written ts n in
      faulted (identifier (drop 1 us)) _ n P h
      (λ h1. value-begun type ts us some_name some_expr n tt high
      (opened ⨠ (one_word us (type_kind type) (type_word type) e (type-fixed type)
      ⨠ at_once _ (drop 1 us) n (identifier_fault (drop 1 us) n h1))))
      (λ x name h1.
      chosen (ranges type && is_mark m.Colon (kind_at x.1)) _ _ _ P h1
      (λ range h2.
      let may : ranges type ≡ true = (both (ranges type) (is_mark m.Colon (kind_at x.1)) range).0 in
      range-begun (l.Value (element_of type)) ts us (drop 1 us) x n opened
      (one_plain us (type_kind type) (element_word (element_of type)) e (type-fixed type ∙ ap Some (element-word type may))) name h2)
      (λ other h2. valued-begun type ts us x n opened e name h2))

  effect-begun : (ts us : List Token) (n : ℕ) → Spelled (opened_written (here ts)) ts us
      → for_by inner depth_left (here ts) k.End us ≡ Err (Grammar n)
      → Viable (LowStmt (depth_left + 1)) stmt_written ts n
  effect-begun ts us n opened h =
      let P : Type 0 = Viable (LowStmt (depth_left + 1)) stmt_written ts n in
      faulted (effect depth_left us) _ n P h
      (λ h1.
      let v = effect-viable depth_left us n h1 in
      first-begun ts n (Some (t.first_effect v.tree)) v.fits.0 v.fits.1 (opened ⨠ unfinished (begun v) others_written))
      (λ x read h1.
      let found = effect-part depth_left us x read in
      for_behind-begun ts x.1 (Some (t.first_effect x.0.0), x.0.1) n
      (record { spelled = opened ⨾ found.spelled; fits = found.fits; size = found.size; low = found.low }) h1)

  for-by : (kind : TokenKind) (ts us : List Token) (n : ℕ) → Spelled (opened_written (here ts)) ts us → kind_at us ≡ kind
      → for_by inner depth_left (here ts) kind us ≡ Err (Grammar n) → Viable (LowStmt (depth_left + 1)) stmt_written ts n
  for-by (k.Scalar scalar) ts us n opened e h = declared-begun (Some scalar) ts us n opened e h
  for-by k.Auto ts us n opened e h = declared-begun None ts us n opened e h
  for-by (k.Mark m.Semicolon) ts us n opened e h =
      for_behind-begun ts us (None, 0) n (record { spelled = opened; fits = tt; size = refl; low = omega arith }) h
  for-by _ ts us n opened e h = effect-begun ts us n opened h

  head-begun : (ts us : List Token) (n : ℕ) → Spelled (opened_written (here ts)) ts us
      → for_head inner depth_left (here ts) us ≡ Err (Grammar n) → Viable (LowStmt (depth_left + 1)) stmt_written ts n
  unfolding for_head
  head-begun ts us n opened h =
      chosen (begins_reference us) _ _ _ (Viable (LowStmt (depth_left + 1)) stmt_written ts n) h
      (λ begins h1. reference-begun ts us n opened h1)
      (λ other h1. for-by (kind_at us) ts us n opened refl h1)

pub for-begun : (inner : Reader (Tall Stmt)) (depth_left : ℕ) → Finds inner depth_left → Faults inner depth_left → (ts : List Token) (n : ℕ)
    → kind_at ts ≡ k.For
    → for_loop inner depth_left ts ≡ Err (Grammar n) → Viable (LowStmt (depth_left + 1)) stmt_written ts n
unfolding for_loop
for-begun inner depth_left f g ts n e h =
    let P : Type 0 = Viable (LowStmt (depth_left + 1)) stmt_written ts n in
    let word = one_word ts k.For (w.Key (codes "for")) e refl in
    tested (nat_lt 0 depth_left) _ (length ts) n P h
    (λ test h1.
    let high : 0 < depth_left = ltb-true 0 depth_left test in
    faulted (mark m.LeftParenthesis (drop 1 ts)) _ n P h1
    (λ h2. viable (t.for (here ts) None None None some_stmt) ((tt, tt, tt, tt), omega (arith, high))
    (word ⨠ at_once _ (drop 1 ts) n (mark_fault m.LeftParenthesis (drop 1 ts) n h2)))
    (λ u opened h2.
    head-begun inner depth_left f high (inner-stops inner depth_left g high) ts u.1 n
    (word ⨾ mark_plain m.LeftParenthesis (drop 1 ts) u opened) h2))
    (λ _ same. viable some_stmt (tt, omega arith) (at_once _ ts n same))
