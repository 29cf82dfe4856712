-- The words before a fault in a type, a declaration or parameters begin such that follow the grammar.
use Rattle.std.proofs.Common.{Bool, Err, List, None, Option, Some, [], arith, drop, false, length, refl, true, ℕ, ◌+◌, ◌-◌, ◌<◌, ◌∷◌, ◌≡◌, ◌≤◌}
use Rattle.std.proofs.lemmas.Bool.{ltb-true}
use Rattle.std.specs.Prelude.{codes, nat_lt}
use Rattle.sl_base.specs.declared.form.Form.{Form}
use Rattle.sl_base.specs.declared.mark.Mark.TheVariants as m
use Rattle.sl_base.specs.declared.scalar.Scalar.{Scalar}
use Rattle.sl_base.specs.declared.scalar.Scalar.TheVariants as c
use Rattle.sl_base.specs.declared.token.Token.{Token}
use Rattle.sl_base.specs.declared.word.Word.TheVariants as w
use Rattle.sl_syntax.specs.declared.token_kind.TokenKind.{TokenKind}
use Rattle.sl_syntax.specs.declared.token_kind.TokenKind.TheVariants as k
use Rattle.sl_syntax.specs.declared.tree.declaration.ContainerType.{ContainerType}
use Rattle.sl_syntax.specs.Depth.{declaration_height, height, initializer_height, option_height}
use Rattle.sl_syntax.specs.Shaped.{IfThere, IsDeclaration, IsExpr, IsInitializer}
use Rattle.sl_syntax.specs.Tree as t
use Rattle.sl_syntax.specs.Tree.{Declaration, Expr, Initializer}
use Rattle.sl_syntax.specs.Written as s
use Rattle.sl_syntax.specs.Written.{container_written, declaration_written, elements_written, form_word, initializer_written, is_map, option_written}
use Rattle.sl_syntax.specs.Written.{scalar_word, value_written, written}
use Rattle.sl_grammar.specs.declared.fault.Fault.TheVariants.{Grammar}
use Rattle.sl_grammar.specs.Means.Declarations.{auto_declaration, behind_equal_by, braces, constructed, container_declaration, container_type}
use Rattle.sl_grammar.specs.Means.Declarations.{elements_by, initializer, initializer_by, int, int_by, optional_value, scalar_declaration}
use Rattle.sl_grammar.specs.Means.Expressions.{expr, list, list_before}
use Rattle.sl_grammar.specs.Means.Steps.{here, identifier, is_mark, kind_at, mark}
use Rattle.sl_grammar.proofs.SoundDeclarations.{int-took, type-took, inner-part, scalar-written, opening, braces-written}
use Rattle.sl_grammar.proofs.SoundExpressions.{whole-part}
use Rattle.sl_grammar.proofs.SoundLists.{list-before-part, list-part}
use Rattle.sl_grammar.proofs.SoundSteps.{identifier_took, mark_plain, one_plain, one_word, seen, chosen}
use Rattle.sl_grammar.proofs.Spelling.{Spelled, ◌⨾◌}
use Rattle.sl_grammar.proofs.ViableExpressions.{expr-viable, value-stops}
use Rattle.sl_grammar.proofs.ViableLists.{list-before-viable, list-viable}
use Rattle.sl_grammar.proofs.ViableSteps.{Begun, Stops, Viable, at_once, begun, faulted, identifier_fault, mark_fault, no_fault, one_fault, refitted}
use Rattle.sl_grammar.proofs.ViableSteps.{rewritten, some_expr, some_name, tested, unfinished, viable, ◌⨠◌}

-- a declaration and an initializer that follow the grammar and are at most so high
abbrev pub LowDeclaration : ℕ → Declaration → Type 0
LowDeclaration depth_left d = IsDeclaration d × (declaration_height d ≤ depth_left)

abbrev pub LowInitializer : ℕ → Initializer → Type 0
LowInitializer depth_left i = IsInitializer i × (initializer_height i ≤ depth_left)

int-by : (kind : TokenKind) (ts : List Token) (n : ℕ) → int_by kind ts ≡ Err (Grammar n) → length ts ≡ n
int-by (k.Scalar c.Int) ts n h = absurd cc
int-by (k.Scalar _) ts n h = cc
int-by _ ts n h = cc

int-fault : (ts : List Token) (n : ℕ) → int ts ≡ Err (Grammar n) → length ts ≡ n
unfolding int
int-fault ts n h = int-by (kind_at ts) ts n h

elements-begun : (map : Bool) (ts : List Token) (n : ℕ) → elements_by map ts ≡ Err (Grammar n) → Begun (elements_written map) ts n
elements-begun false ts n h =
    let P : Type 0 = Begun (elements_written false) ts n in
    faulted (mark m.Less ts) _ n P h (λ h1. at_once _ ts n (mark_fault m.Less ts n h1)) (λ u less h1.
    let a = mark_plain m.Less ts u less in
    faulted (int u.1) _ n P h1 (λ h2. a ⨠ at_once _ u.1 n (int-fault u.1 n h2)) (λ x one h2.
    let b = int-took u.1 x one in
    faulted (mark m.Greater x.1) _ n P h2 (λ h3. a ⨠ (b ⨠ at_once _ x.1 n (mark_fault m.Greater x.1 n h3))) (λ v greater h3.
    no_fault _ n P h3)))
elements-begun true ts n h =
    let P : Type 0 = Begun (elements_written true) ts n in
    faulted (mark m.Less ts) _ n P h (λ h1. at_once _ ts n (mark_fault m.Less ts n h1)) (λ u less h1.
    let a = mark_plain m.Less ts u less in
    faulted (int u.1) _ n P h1 (λ h2. a ⨠ at_once _ u.1 n (int-fault u.1 n h2)) (λ x one h2.
    let b = a ⨾ int-took u.1 x one in
    faulted (mark m.Comma x.1) _ n P h2 (λ h3. b ⨠ at_once _ x.1 n (mark_fault m.Comma x.1 n h3)) (λ v comma h3.
    let c = b ⨾ mark_plain m.Comma x.1 v comma in
    faulted (int v.1) _ n P h3 (λ h4. c ⨠ at_once _ v.1 n (int-fault v.1 n h4)) (λ y two h4.
    let d = c ⨾ int-took v.1 y two in
    faulted (mark m.Greater y.1) _ n P h4 (λ h5. d ⨠ at_once _ y.1 n (mark_fault m.Greater y.1 n h5)) (λ z greater h5.
    no_fault _ n P h5)))))

pub type-begun : (form : Form) (ts : List Token) (n : ℕ) → kind_at ts ≡ k.Container form → container_type form ts ≡ Err (Grammar n)
    → Begun (container_written (record { place = here ts; form = form })) ts n
unfolding container_type
type-begun form ts n e h =
    let P : Type 0 = Begun (container_written (record { place = here ts; form = form })) ts n in
    faulted (elements_by (is_map form) (drop 1 ts)) _ n P h
    (λ h1. one_word ts (k.Container form) (form_word form) e refl ⨠ elements-begun (is_map form) (drop 1 ts) n h1)
    (λ u elements h1. no_fault _ n P h1)

inner-stops : (depth_left : ℕ) → 0 < depth_left → Stops written IsExpr height (depth_left - 1) (expr depth_left 1)
inner-stops depth_left high ts n h = refitted (λ x fits. (fits.0, omega (arith, fits.1)))
    (expr-viable depth_left 1 ts n high (omega arith) (omega arith) h)

module _ (depth_left : ℕ) where
  value-begun : Stops (option_written value_written) (IfThere IsExpr) (option_height height) depth_left (optional_value depth_left)
  unfolding optional_value
  value-begun ts n h =
      let P : Type 0 = Viable (λ (x : Option Expr). IfThere IsExpr x × (option_height height x ≤ depth_left)) (option_written value_written) ts n in
      chosen (is_mark m.Equal (kind_at ts)) _ _ _ P h
      (λ equal h1.
      faulted (expr (depth_left + 1) 1 (drop 1 ts)) _ n P h1
      (λ h2.
      let v = value-stops depth_left (drop 1 ts) n h2 in
      viable (Some v.tree) v.fits (seen m.Equal ts equal ⨠ begun v))
      (λ x read h2. no_fault _ n P h2))
      (λ bare h1. no_fault _ n P h1)

  pub scalar-begun : (scalar : Scalar) (ts : List Token) (n : ℕ) → kind_at ts ≡ k.Scalar scalar
      → scalar_declaration depth_left scalar ts ≡ Err (Grammar n) → Viable (LowDeclaration (depth_left + 1)) declaration_written ts n
  unfolding scalar_declaration
  scalar-begun scalar ts n e h =
      let P : Type 0 = Viable (LowDeclaration (depth_left + 1)) declaration_written ts n in
      let word = one_word ts (k.Scalar scalar) (scalar_word scalar) e refl in
      faulted (identifier (drop 1 ts)) _ n P h
      (λ h1. viable (t.declares_scalar (here ts) scalar some_name None) (tt, omega arith)
      (word ⨠ at_once _ (drop 1 ts) n (identifier_fault (drop 1 ts) n h1)))
      (λ x name h1.
      faulted (optional_value depth_left x.1) _ n P h1
      (λ h2.
      let v = value-begun x.1 n h2 in
      viable (t.declares_scalar (here ts) scalar x.0 v.tree) (v.fits.0, omega (arith, v.fits.1))
      (rewritten (scalar-written (here ts) scalar x.0 v.tree) (word ⨠ (identifier_took (drop 1 ts) x name ⨠ begun v))))
      (λ v read h2. no_fault _ n P h2))

  pub auto-begun : (ts : List Token) (n : ℕ) → kind_at ts ≡ k.Auto → auto_declaration depth_left ts ≡ Err (Grammar n)
      → Viable (LowDeclaration (depth_left + 1)) declaration_written ts n
  unfolding auto_declaration
  auto-begun ts n e h =
      let P : Type 0 = Viable (LowDeclaration (depth_left + 1)) declaration_written ts n in
      let word = one_word ts k.Auto (w.Key (codes "auto")) e refl in
      faulted (identifier (drop 1 ts)) _ n P h
      (λ h1. viable (t.declares_auto (here ts) some_name some_expr) (tt, omega arith)
      (word ⨠ at_once _ (drop 1 ts) n (identifier_fault (drop 1 ts) n h1)))
      (λ x name h1.
      let named = word ⨾ identifier_took (drop 1 ts) x name in
      faulted (mark m.Equal x.1) _ n P h1
      (λ h2. viable (t.declares_auto (here ts) x.0 some_expr) (tt, omega arith) (named ⨠ at_once _ x.1 n (mark_fault m.Equal x.1 n h2)))
      (λ u equal h2.
      faulted (expr (depth_left + 1) 1 u.1) _ n P h2
      (λ h3.
      let v = value-stops depth_left u.1 n h3 in
      viable (t.declares_auto (here ts) x.0 v.tree) (v.fits.0, omega (arith, v.fits.1)) (named ⨠ (mark_plain m.Equal x.1 u equal ⨠ begun v)))
      (λ v read h3. no_fault _ n P h3)))

  braces-begun : (equal : Bool) (ts us : List Token) (n : ℕ) → Spelled (opening equal) ts us → braces depth_left equal us ≡ Err (Grammar n)
      → Viable (LowInitializer depth_left) initializer_written ts n
  unfolding braces
  braces-begun equal ts us n opened h =
      let P : Type 0 = Viable (LowInitializer depth_left) initializer_written ts n in
      let one = expr (depth_left + 1) 1 in
      let more = expr depth_left 1 in
      faulted (list_before one more depth_left m.RightBrace us) _ n P h
      (λ h1.
      let v = list-before-viable one more depth_left (whole-part depth_left) (inner-part depth_left) (value-stops depth_left)
      (inner-stops depth_left) m.RightBrace us n h1 in
      viable (t.braces equal v.tree) v.fits (rewritten (braces-written equal v.tree) (opened ⨠ unfinished (begun v) (s.mark m.RightBrace ∷ []))))
      (λ xs read h1.
      let found = list-before-part one more depth_left (whole-part depth_left) (inner-part depth_left) m.RightBrace us xs read in
      faulted (mark m.RightBrace xs.1) _ n P h1
      (λ h2. viable (t.braces equal xs.0.0) (found.fits, omega (arith, found.size, found.low))
      (rewritten (braces-written equal xs.0.0) (opened ⨠ (found.spelled ⨠ at_once _ xs.1 n (mark_fault m.RightBrace xs.1 n h2)))))
      (λ v closed h2. no_fault _ n P h2))

  behind-equal : (kind : TokenKind) (ts us : List Token) (n : ℕ) → Spelled (s.mark m.Equal ∷ []) ts us → kind_at us ≡ kind
      → behind_equal_by depth_left kind us ≡ Err (Grammar n) → Viable (LowInitializer depth_left) initializer_written ts n
  behind-equal k.Name ts us n equal e h =
      let P : Type 0 = Viable (LowInitializer depth_left) initializer_written ts n in
      faulted (identifier us) _ n P h
      (λ h1. viable (t.copies some_name) (tt, omega arith) (equal ⨠ at_once _ us n (identifier_fault us n h1)))
      (λ x name h1. no_fault _ n P h1)
  behind-equal (k.Mark m.LeftBrace) ts us n equal e h =
      braces-begun true ts (drop 1 us) n (equal ⨾ one_plain us (k.Mark m.LeftBrace) (w.Mark m.LeftBrace) e refl) h
  behind-equal _ ts us n equal e h = viable (t.copies some_name) (tt, omega arith) (equal ⨠ at_once _ us n (one_fault _ n h))

  constructed-begun : (ts : List Token) (n : ℕ) → kind_at ts ≡ k.Mark m.LeftParenthesis → constructed depth_left ts ≡ Err (Grammar n)
      → Viable (LowInitializer depth_left) initializer_written ts n
  unfolding constructed
  constructed-begun ts n e h =
      let P : Type 0 = Viable (LowInitializer depth_left) initializer_written ts n in
      let one = expr (depth_left + 1) 1 in
      let more = expr depth_left 1 in
      let opened = one_plain ts (k.Mark m.LeftParenthesis) (w.Mark m.LeftParenthesis) e refl in
      faulted (list one more depth_left (drop 1 ts)) _ n P h
      (λ h1.
      let v = list-viable one more depth_left (whole-part depth_left) (inner-part depth_left) (value-stops depth_left) (inner-stops depth_left)
      (drop 1 ts) n h1 in
      viable (t.arguments v.tree) ((v.fits.0, v.fits.1), v.fits.2) (opened ⨠ unfinished (begun v) (s.mark m.RightParenthesis ∷ [])))
      (λ xs read h1.
      let found = list-part one more depth_left (whole-part depth_left) (inner-part depth_left) (drop 1 ts) xs read in
      faulted (mark m.RightParenthesis xs.1) _ n P h1
      (λ h2. viable (t.arguments xs.0.0) (found.fits, omega (arith, found.size, found.low))
      (opened ⨠ (found.spelled ⨠ at_once _ xs.1 n (mark_fault m.RightParenthesis xs.1 n h2))))
      (λ v closed h2. no_fault _ n P h2))

  initializer-by : (kind : TokenKind) (ts : List Token) (n : ℕ) → kind_at ts ≡ kind → initializer_by depth_left kind ts ≡ Err (Grammar n)
      → Viable (LowInitializer depth_left) initializer_written ts n
  initializer-by (k.Mark m.Equal) ts n e h = behind-equal (kind_at (drop 1 ts)) ts (drop 1 ts) n
      (one_plain ts (k.Mark m.Equal) (w.Mark m.Equal) e refl) refl h
  initializer-by (k.Mark m.LeftBrace) ts n e h =
      braces-begun false ts (drop 1 ts) n (one_plain ts (k.Mark m.LeftBrace) (w.Mark m.LeftBrace) e refl) h
  initializer-by (k.Mark m.LeftParenthesis) ts n e h = constructed-begun ts n e h
  initializer-by _ ts n e h = absurd cc

  initializer-begun : Stops initializer_written IsInitializer initializer_height depth_left (initializer depth_left)
  unfolding initializer
  initializer-begun ts n h = initializer-by (kind_at ts) ts n refl h

  -- where too little of the depth is left, the fault is at the first word
  pub container-begun : (form : Form) (ts : List Token) (n : ℕ) (P : Type 0) → kind_at ts ≡ k.Container form
      → container_declaration depth_left form ts ≡ Err (Grammar n) → (length ts ≡ n → P)
      → (Viable (LowDeclaration (depth_left + 1)) declaration_written ts n → P) → P
  unfolding container_declaration
  container-begun form ts n P e h shut go =
      tested (nat_lt 0 depth_left) _ (length ts) n P h
      (λ high h1.
      let above : 0 < depth_left = ltb-true 0 depth_left high in
      let type : ContainerType = record { place = here ts; form = form } in
      faulted (container_type form ts) _ n P h1
      (λ h2. go (viable (t.declares_container type some_name t.absent) (tt, omega (arith, above))
      (unfinished (type-begun form ts n e h2) (s.named some_name ∷ []))))
      (λ c typed h2.
      let word = type-took form ts c e typed in
      faulted (identifier c.1) _ n P h2
      (λ h3. go (viable (t.declares_container c.0 some_name t.absent) (tt, omega (arith, above))
      (word ⨠ at_once (s.named some_name ∷ []) c.1 n (identifier_fault c.1 n h3))))
      (λ x name h3.
      faulted (initializer depth_left x.1) _ n P h3
      (λ h4.
      let v = initializer-begun x.1 n h4 in
      go (viable (t.declares_container c.0 x.0 v.tree) (v.fits.0, omega (arith, above, v.fits.1))
      (word ⨠ (identifier_took c.1 x name ⨠ begun v))))
      (λ i read h4. no_fault _ n P h4))))
      (λ _ same. shut same)
