-- What is read as a type or a declaration is the words of one that follows the grammar.
use Rattle.std.proofs.Common.{◌≡◌, ℕ, ◌+◌, ◌-◌, ◌<◌, Bool, true, false, List, [], ◌∷◌, ◌++◌, Option, Some, None, Ok, refl, arith, drop}
use Rattle.std.specs.Prelude.{nat_lt, codes}
use Rattle.std.proofs.lemmas.Bool.{ltb-true}
use Rattle.sl_base.specs.declared.form.Form.{Form}
use Rattle.sl_base.specs.declared.mark.Mark.TheVariants as m
use Rattle.sl_base.specs.declared.place.Place.{Place}
use Rattle.sl_base.specs.declared.scalar.Scalar.{Scalar}
use Rattle.sl_base.specs.declared.scalar.Scalar.TheVariants as c
use Rattle.sl_base.specs.declared.token.Token.{Token}
use Rattle.sl_base.specs.declared.word.Word.TheVariants as w
use Rattle.sl_syntax.specs.declared.token_kind.TokenKind.{TokenKind}
use Rattle.sl_syntax.specs.declared.token_kind.TokenKind.TheVariants as k
use Rattle.sl_syntax.specs.declared.tree.declaration.ContainerType.{ContainerType}
use Rattle.sl_syntax.specs.declared.tree.identifier.Identifier.{Identifier}
use Rattle.sl_syntax.specs.Depth.{height, option_height, initializer_height, declaration_height}
use Rattle.sl_syntax.specs.Shaped.{IsExpr, IfThere, IsInitializer, IsDeclaration}
use Rattle.sl_syntax.specs.Tree as t
use Rattle.sl_syntax.specs.Tree.{Expr, Exprs, Initializer, Declaration}
use Rattle.sl_syntax.specs.Written as s
use Rattle.sl_syntax.specs.Written.{Written, at, plain, is_map, scalar_word, form_word, elements_written, container_written, written, list_written}
use Rattle.sl_syntax.specs.Written.{initializer_written, value_written, declaration_written, option_written}
use Rattle.sl_grammar.specs.Means.Declarations.{int_by, int, elements_by, container_type, optional_value, scalar_declaration, auto_declaration}
use Rattle.sl_grammar.specs.Means.Declarations.{braces, behind_equal_by, constructed, initializer_by, initializer, container_declaration}
use Rattle.sl_grammar.specs.Means.Expressions.{expr, list, list_before}
use Rattle.sl_grammar.specs.Means.Steps.{kind_at, here, is_mark, mark, identifier}
use Rattle.sl_grammar.proofs.SoundExpressions.{sound, whole-part}
use Rattle.sl_grammar.proofs.SoundLists.{list-part, list-before-part}
use Rattle.sl_grammar.proofs.SoundSteps.{Took, bound, chosen, guarded, answered, one_word, one_plain, seen, mark_plain, identifier_took, Part, Parts}
use Rattle.sl_grammar.proofs.Spelling.{Spelled, ◌⨾◌, no_words, respelled}

-- what is read from these tokens
abbrev pub DeclarationAt : ℕ → List Token → Took Declaration → Type 0
DeclarationAt depth_left ts y = Part declaration_written IsDeclaration declaration_height depth_left ts y.0 y.1

abbrev pub InitializerAt : ℕ → List Token → Took Initializer → Type 0
InitializerAt depth_left ts y = Part initializer_written IsInitializer initializer_height depth_left ts y.0 y.1

int-by : (kind : TokenKind) (ts : List Token) (y : Unit {0} × List Token) → kind_at ts ≡ kind → int_by kind ts ≡ Ok y
    → Spelled (plain (scalar_word c.Int) ∷ []) ts y.1
int-by (k.Scalar c.Int) ts y e h = answered _ y (λ z. Spelled (plain (scalar_word c.Int) ∷ []) ts z.1) h
    (one_plain ts (k.Scalar c.Int) (scalar_word c.Int) e refl)
int-by (k.Scalar _) ts y e h = absurd cc
int-by _ ts y e h = absurd cc

pub int-took : (ts : List Token) (y : Unit {0} × List Token) → int ts ≡ Ok y → Spelled (plain (scalar_word c.Int) ∷ []) ts y.1
unfolding int
int-took ts y h = int-by (kind_at ts) ts y refl h

elements-took : (map : Bool) (ts : List Token) (y : Unit {0} × List Token) → elements_by map ts ≡ Ok y → Spelled (elements_written map) ts y.1
elements-took false ts y h =
    let P : Unit {0} × List Token → Type 0 = λ z. Spelled (elements_written false) ts z.1 in
    bound (mark m.Less ts) _ y P h (λ u less h1.
    bound (int u.1) _ y P h1 (λ x one h2.
    bound (mark m.Greater x.1) _ y P h2 (λ v greater h3.
    answered _ y P h3 (mark_plain m.Less ts u less ⨾ (int-took u.1 x one ⨾ mark_plain m.Greater x.1 v greater)))))
elements-took true ts y h =
    let P : Unit {0} × List Token → Type 0 = λ z. Spelled (elements_written true) ts z.1 in
    bound (mark m.Less ts) _ y P h (λ u less h1.
    bound (int u.1) _ y P h1 (λ x one h2.
    bound (mark m.Comma x.1) _ y P h2 (λ a comma h3.
    bound (int a.1) _ y P h3 (λ b two h4.
    bound (mark m.Greater b.1) _ y P h4 (λ v greater h5.
    answered _ y P h5 (mark_plain m.Less ts u less
    ⨾ (int-took u.1 x one ⨾ (mark_plain m.Comma x.1 a comma ⨾ (int-took a.1 b two ⨾ mark_plain m.Greater b.1 v greater)))))))))

pub type-took : (form : Form) (ts : List Token) (y : ContainerType × List Token) → kind_at ts ≡ k.Container form → container_type form ts ≡ Ok y
    → Spelled (container_written y.0) ts y.1
unfolding container_type
type-took form ts y e h =
    let P : ContainerType × List Token → Type 0 = λ z. Spelled (container_written z.0) ts z.1 in
    bound (elements_by (is_map form) (drop 1 ts)) _ y P h (λ u elements h1.
    answered _ y P h1 (one_word ts (k.Container form) (form_word form) e refl ⨾ elements-took (is_map form) (drop 1 ts) u elements))

pub scalar-written : (place : Place) (scalar : Scalar) (x : Identifier) (v : Option Expr)
    → at place (scalar_word scalar) ∷ s.named x ∷ option_written value_written v ≡ declaration_written (t.declares_scalar place scalar x v)
scalar-written place scalar x None = refl
scalar-written place scalar x (Some v) = refl

-- what stands before the elements
abbrev pub opening : Bool → List Written
opening true = s.mark m.Equal ∷ s.mark m.LeftBrace ∷ []
opening false = s.mark m.LeftBrace ∷ []

pub braces-written : (equal : Bool) (xs : Exprs)
    → opening equal ++ (list_written xs ++ s.mark m.RightBrace ∷ []) ≡ initializer_written (t.braces equal xs)
braces-written true xs = refl
braces-written false xs = refl

module _ (depth_left : ℕ) where
  value-part : Parts (option_written value_written) (IfThere IsExpr) (option_height height) depth_left (optional_value depth_left)
  unfolding optional_value
  value-part ts y h =
      let P : Took (Option Expr) → Type 0 = λ z. Part (option_written value_written) (IfThere IsExpr) (option_height height) depth_left ts z.0 z.1 in
      chosen (is_mark m.Equal (kind_at ts)) _ _ _ (P y) h
      (λ equal h1.
      bound (expr (depth_left + 1) 1 (drop 1 ts)) _ y P h1 (λ x read h2.
      let found = whole-part depth_left (drop 1 ts) x read in
      answered _ y P h2 (record { spelled = seen m.Equal ts equal ⨾ found.spelled; fits = found.fits; size = found.size; low = found.low })))
      (λ bare h1. answered _ y P h1 (record { spelled = no_words ts; fits = tt; size = refl; low = omega arith }))

  pub scalar-part : (scalar : Scalar) (ts : List Token) (y : Took Declaration) → kind_at ts ≡ k.Scalar scalar
      → scalar_declaration depth_left scalar ts ≡ Ok y
      → DeclarationAt (depth_left + 1) ts y
  unfolding scalar_declaration
  scalar-part scalar ts y e h =
      let P : Took Declaration → Type 0 = DeclarationAt (depth_left + 1) ts in
      bound (identifier (drop 1 ts)) _ y P h (λ x name h1.
      bound (optional_value depth_left x.1) _ y P h1 (λ v read h2.
      let found = value-part x.1 v read in
      answered _ y P h2 (record {
        spelled = respelled (scalar-written (here ts) scalar x.0 v.0.0)
            (one_word ts (k.Scalar scalar) (scalar_word scalar) e refl ⨾ (identifier_took (drop 1 ts) x name ⨾ found.spelled));
        fits = found.fits;
        size = omega (arith, found.size);
        low = omega (arith, found.low);
      })))

  pub auto-part : (ts : List Token) (y : Took Declaration) → kind_at ts ≡ k.Auto → auto_declaration depth_left ts ≡ Ok y
      → DeclarationAt (depth_left + 1) ts y
  unfolding auto_declaration
  auto-part ts y e h =
      let P : Took Declaration → Type 0 = DeclarationAt (depth_left + 1) ts in
      bound (identifier (drop 1 ts)) _ y P h (λ x name h1.
      bound (mark m.Equal x.1) _ y P h1 (λ u equal h2.
      bound (expr (depth_left + 1) 1 u.1) _ y P h2 (λ v read h3.
      let found = whole-part depth_left u.1 v read in
      answered _ y P h3 (record {
        spelled = one_word ts k.Auto (w.Key (codes "auto")) e refl
            ⨾ (identifier_took (drop 1 ts) x name ⨾ (mark_plain m.Equal x.1 u equal ⨾ found.spelled));
        fits = found.fits;
        size = omega (arith, found.size);
        low = omega (arith, found.low);
      }))))

  pub inner-part : (ts : List Token) (y : Took Expr) → expr depth_left 1 ts ≡ Ok y
      → (0 < depth_left) × Part written IsExpr height (depth_left - 1) ts y.0 y.1
  inner-part ts y h =
      let found = sound depth_left 1 ts y (omega arith) (omega arith) h in
      (found.0, found.1.part)

  braces-part : (equal : Bool) (ts us : List Token) (y : Took Initializer) → Spelled (opening equal) ts us → braces depth_left equal us ≡ Ok y
      → InitializerAt depth_left ts y
  unfolding braces
  braces-part equal ts us y opened h =
      let P : Took Initializer → Type 0 = InitializerAt depth_left ts in
      bound (list_before (expr (depth_left + 1) 1) (expr depth_left 1) depth_left m.RightBrace us) _ y P h (λ xs read h1.
      bound (mark m.RightBrace xs.1) _ y P h1 (λ v closed h2.
      let found = list-before-part (expr (depth_left + 1) 1) (expr depth_left 1) depth_left
      (whole-part depth_left) inner-part m.RightBrace us xs read in
      answered _ y P h2 (record {
        spelled = respelled (braces-written equal xs.0.0) (opened ⨾ (found.spelled ⨾ mark_plain m.RightBrace xs.1 v closed));
        fits = found.fits;
        size = found.size;
        low = found.low;
      })))

  behind-equal : (kind : TokenKind) (ts us : List Token) (y : Took Initializer) → Spelled (s.mark m.Equal ∷ []) ts us → kind_at us ≡ kind
      → behind_equal_by depth_left kind us ≡ Ok y
      → InitializerAt depth_left ts y
  behind-equal k.Name ts us y equal e h =
      let P : Took Initializer → Type 0 = InitializerAt depth_left ts in
      bound (identifier us) _ y P h (λ x name h1.
      answered _ y P h1 (record { spelled = equal ⨾ identifier_took us x name; fits = tt; size = refl; low = omega arith }))
  behind-equal (k.Mark m.LeftBrace) ts us y equal e h =
      braces-part true ts (drop 1 us) y (equal ⨾ one_plain us (k.Mark m.LeftBrace) (w.Mark m.LeftBrace) e refl) h
  behind-equal _ ts us y equal e h = absurd cc

  constructed-part : (ts : List Token) (y : Took Initializer) → kind_at ts ≡ k.Mark m.LeftParenthesis → constructed depth_left ts ≡ Ok y
      → InitializerAt depth_left ts y
  unfolding constructed
  constructed-part ts y e h =
      let P : Took Initializer → Type 0 = InitializerAt depth_left ts in
      bound (list (expr (depth_left + 1) 1) (expr depth_left 1) depth_left (drop 1 ts)) _ y P h (λ xs read h1.
      bound (mark m.RightParenthesis xs.1) _ y P h1 (λ v closed h2.
      let found = list-part (expr (depth_left + 1) 1) (expr depth_left 1) depth_left (whole-part depth_left) inner-part (drop 1 ts) xs read in
      answered _ y P h2 (record {
        spelled = one_plain ts (k.Mark m.LeftParenthesis) (w.Mark m.LeftParenthesis) e refl
            ⨾ (found.spelled ⨾ mark_plain m.RightParenthesis xs.1 v closed);
        fits = found.fits;
        size = found.size;
        low = found.low;
      })))

  absent-part : (ts : List Token) (y : Took Initializer) → initializer_by depth_left k.End ts ≡ Ok y → InitializerAt depth_left ts y
  absent-part ts y h = answered _ y (InitializerAt depth_left ts) h
      (record { spelled = no_words ts; fits = tt; size = refl; low = omega arith })

  initializer-by : (kind : TokenKind) (ts : List Token) (y : Took Initializer) → kind_at ts ≡ kind → initializer_by depth_left kind ts ≡ Ok y
      → InitializerAt depth_left ts y
  initializer-by (k.Mark m.Equal) ts y e h = behind-equal (kind_at (drop 1 ts)) ts (drop 1 ts) y
      (one_plain ts (k.Mark m.Equal) (w.Mark m.Equal) e refl) refl h
  initializer-by (k.Mark m.LeftBrace) ts y e h = braces-part false ts (drop 1 ts) y (one_plain ts (k.Mark m.LeftBrace) (w.Mark m.LeftBrace) e refl) h
  initializer-by (k.Mark m.LeftParenthesis) ts y e h = constructed-part ts y e h
  initializer-by _ ts y e h = absent-part ts y h

  initializer-part : Parts initializer_written IsInitializer initializer_height depth_left (initializer depth_left)
  unfolding initializer
  initializer-part ts y h = initializer-by (kind_at ts) ts y refl h

  pub container-part : (form : Form) (ts : List Token) (y : Took Declaration) → kind_at ts ≡ k.Container form
      → container_declaration depth_left form ts ≡ Ok y
      → DeclarationAt (depth_left + 1) ts y
  unfolding container_declaration
  container-part form ts y e h =
      let P : Took Declaration → Type 0 = DeclarationAt (depth_left + 1) ts in
      guarded (nat_lt 0 depth_left) _ _ y P h (λ high h1.
      bound (container_type form ts) _ y P h1 (λ type typed h2.
      bound (identifier type.1) _ y P h2 (λ x name h3.
      bound (initializer depth_left x.1) _ y P h3 (λ i read h4.
      let above : 0 < depth_left = ltb-true 0 depth_left high in
      let found = initializer-part x.1 i read in
      answered _ y P h4 (record {
        spelled = type-took form ts type e typed ⨾ (identifier_took type.1 x name ⨾ found.spelled);
        fits = found.fits;
        size = omega (arith, found.size);
        low = omega (arith, above, found.low);
      })))))
