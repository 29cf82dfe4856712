-- What is read as a `for` is the words of one that follows the grammar.
use Rattle.std.proofs.Common.{◌≡◌, ℕ, ◌+◌, ◌<◌, ◌≤◌, true, List, [], ◌∷◌, Option, Some, None, Ok, refl, ap, ◌∙◌, arith, drop}
use Rattle.std.specs.Prelude.{nat_lt, ◌&&◌, codes}
use Rattle.std.proofs.lemmas.Bool.{false≢true, ltb-true}
use Rattle.sl_base.specs.declared.mark.Mark.TheVariants as m
use Rattle.sl_base.specs.declared.place.Place.{Place}
use Rattle.sl_base.specs.declared.scalar.Scalar.{Scalar}
use Rattle.sl_base.specs.declared.scalar.Scalar.TheVariants as c
use Rattle.sl_base.specs.declared.token.Token.{Token}
use Rattle.sl_base.specs.declared.word.Word.{Word}
use Rattle.sl_base.specs.declared.word.Word.TheVariants as w
use Rattle.sl_syntax.specs.declared.token_kind.TokenKind.{TokenKind}
use Rattle.sl_syntax.specs.declared.token_kind.TokenKind.TheVariants as k
use Rattle.sl_syntax.specs.declared.tree.element.Element.{Element}
use Rattle.sl_syntax.specs.declared.tree.element.Element.TheVariants as l
use Rattle.sl_syntax.specs.declared.tree.identifier.Identifier.{Identifier}
use Rattle.sl_syntax.specs.Depth.{height, option_height, effect_height, cond_height, element_height, first_height}
use Rattle.sl_syntax.specs.Shaped.{IsExpr, IfThere, IsEffect, IsCond, IsFirst}
use Rattle.sl_syntax.specs.Tree as t
use Rattle.sl_syntax.specs.Tree.{Expr, Effect, Cond, First, Stmt}
use Rattle.sl_syntax.specs.Written as s
use Rattle.sl_syntax.specs.Written.{Written, at, scalar_word, element_word, element_written, value_written, option_written, effect_written, cond_written}
use Rattle.sl_syntax.specs.Written.{first_written, tested}
use Rattle.sl_grammar.specs.Means.Declarations.{begins_reference, reference_head}
use Rattle.sl_grammar.specs.Means.Effects.{effect}
use Rattle.sl_grammar.specs.Means.Effects as effects
use Rattle.sl_grammar.specs.Means.Expressions.{expr}
use Rattle.sl_grammar.specs.Means.Statements.{ranges, element_of, first_of, optional_cond, optional_effect, for_behind, range_behind, valued_first}
use Rattle.sl_grammar.specs.Means.Statements.{variable_behind, reference_range, declared_first, for_by, for_head, for_loop}
use Rattle.sl_grammar.specs.Means.Steps.{Reader, Tall, kind_at, here, is_mark, mark, identifier}
use Rattle.sl_grammar.proofs.KindLaws.{fixed, both}
use Rattle.sl_grammar.proofs.MeetHeads.{head-met}
use Rattle.sl_grammar.proofs.MeetSteps.{took}
use Rattle.sl_grammar.proofs.SoundBlocks.{FoundStmt, Finds}
use Rattle.sl_grammar.proofs.SoundEffects.{effect-part, cond-part}
use Rattle.sl_grammar.proofs.SoundExpressions.{sound}
use Rattle.sl_grammar.proofs.SoundSteps.{Took, bound, chosen, guarded, answered, one_word, one_plain, mark_plain, identifier_took, Part, Parts}
use Rattle.sl_grammar.proofs.Spelling.{Spelled, ◌⨾◌, no_words, respelled}

-- what stands before the first `;` of a `for`
abbrev pub head_written : Place → Option First → List Written
head_written place first = at place (w.Key (codes "for")) ∷ s.mark m.LeftParenthesis ∷ option_written first_written first

-- the word of a type, where None is `auto`
abbrev pub type_word : Option Scalar → Word
type_word None = w.Key (codes "auto")
type_word (Some scalar) = scalar_word scalar

abbrev pub type_kind : Option Scalar → TokenKind
type_kind None = k.Auto
type_kind (Some scalar) = k.Scalar scalar

pub type-fixed : (type : Option Scalar) → fixed (type_kind type) ≡ Some (type_word type)
type-fixed None = refl
type-fixed (Some scalar) = refl

-- a type that a range-for's variable may have
pub element-word : (type : Option Scalar) → ranges type ≡ true → type_word type ≡ element_word (element_of type)
element-word None h = refl
element-word (Some c.Int) h = refl
element-word (Some _) h = absurd (false≢true h)

pub element-low : (e : Element) → element_height e ≤ 1
element-low (l.Value x) = omega arith
element-low (l.Reference x) = omega arith

-- a first part that declares a variable
pub first-written : (type : Option Scalar) (place : Place) (x : Identifier) (v : Expr)
    → at place (type_word type) ∷ s.named x ∷ value_written v ≡ first_written (first_of type place x v)
first-written None place x v = refl
first-written (Some scalar) place x v = refl

pub first-fits : (type : Option Scalar) (place : Place) (x : Identifier) (v : Expr) → IsExpr v → IsFirst (first_of type place x v)
first-fits None place x v h = h
first-fits (Some scalar) place x v h = h

pub first-height : (type : Option Scalar) (place : Place) (x : Identifier) (v : Expr) → first_height (first_of type place x v) ≡ height v + 1
first-height None place x v = refl
first-height (Some scalar) place x v = refl

-- what stands before the first part
abbrev pub opened_written : Place → List Written
opened_written place = at place (w.Key (codes "for")) ∷ s.mark m.LeftParenthesis ∷ []

module _ (inner : Reader (Tall Stmt)) (depth_left : ℕ) (f : Finds inner depth_left) where
  pub cond-option : Parts (option_written cond_written) (IfThere IsCond) (option_height cond_height) depth_left (optional_cond inner depth_left)
  unfolding optional_cond
  cond-option ts y h =
      let P : Took (Option Cond) → Type 0 =
      λ z. Part (option_written cond_written) (IfThere IsCond) (option_height cond_height) depth_left ts z.0 z.1 in
      chosen (is_mark m.Semicolon (kind_at ts)) _ _ _ (P y) h
      (λ left_out h1. answered _ y P h1 (record { spelled = no_words ts; fits = tt; size = refl; low = omega arith }))
      (λ there h1.
      bound (effects.cond depth_left ts) _ y P h1 (λ x read h2.
      let found = cond-part depth_left ts x read in
      answered _ y P h2 (record { spelled = found.spelled; fits = found.fits; size = found.size; low = found.low })))

  pub effect-option : Parts (option_written effect_written) (IfThere IsEffect) (option_height effect_height) depth_left
      (optional_effect inner depth_left)
  unfolding optional_effect
  effect-option ts y h =
      let P : Took (Option Effect) → Type 0 =
      λ z. Part (option_written effect_written) (IfThere IsEffect) (option_height effect_height) depth_left ts z.0 z.1 in
      chosen (is_mark m.RightParenthesis (kind_at ts)) _ _ _ (P y) h
      (λ left_out h1. answered _ y P h1 (record { spelled = no_words ts; fits = tt; size = refl; low = omega arith }))
      (λ there h1.
      bound (effect depth_left ts) _ y P h1 (λ x read h2.
      let found = effect-part depth_left ts x read in
      answered _ y P h2 (record { spelled = found.spelled; fits = found.fits; size = found.size; low = found.low })))

  for_behind-found : (ts us : List Token) (first : Tall (Option First)) (y : Took Stmt)
      → Part (head_written (here ts)) (IfThere IsFirst) (option_height first_height) depth_left ts first us
      → for_behind inner depth_left (here ts) first us ≡ Ok y → FoundStmt (depth_left + 1) ts y.0 y.1
  unfolding for_behind
  for_behind-found ts us first y head h =
      let P : Took Stmt → Type 0 = λ z. FoundStmt (depth_left + 1) ts z.0 z.1 in
      bound (mark m.Semicolon us) _ y P h (λ u one h1.
      bound (optional_cond inner depth_left u.1) _ y P h1 (λ a test h2.
      bound (mark m.Semicolon a.1) _ y P h2 (λ v two h3.
      bound (optional_effect inner depth_left v.1) _ y P h3 (λ b step h4.
      bound (mark m.RightParenthesis b.1) _ y P h4 (λ d close h5.
      bound (inner d.1) _ y P h5 (λ x read h6.
      let tested = cond-option u.1 a test in
      let stepped = effect-option v.1 b step in
      let body = f d.1 x read in
      answered _ y P h6 (record {
        part = record {
          spelled = head.spelled ⨾ (mark_plain m.Semicolon us u one ⨾ (tested.spelled ⨾ (mark_plain m.Semicolon a.1 v two
              ⨾ (stepped.spelled ⨾ (mark_plain m.RightParenthesis b.1 d close ⨾ body.part.spelled)))));
          fits = (head.fits, tested.fits, stepped.fits, body.part.fits);
          size = omega (arith, head.size, tested.size, stepped.size, body.part.size);
          low = omega (arith, head.low, tested.low, stepped.low, body.part.low);
        };
        closed = body.closed;
      })))))))

  range-found : (element : Element) (ts us vs : List Token) (x : Identifier × List Token) (y : Took Stmt) → 0 < depth_left
      → Spelled (opened_written (here ts)) ts us → Spelled (element_written element) us vs → identifier vs ≡ Ok x
      → range_behind inner depth_left (here ts) element x.0 x.1 ≡ Ok y → FoundStmt (depth_left + 1) ts y.0 y.1
  unfolding range_behind
  range-found element ts us vs x y high opened typed name h =
      let P : Took Stmt → Type 0 = λ z. FoundStmt (depth_left + 1) ts z.0 z.1 in
      bound (mark m.Colon x.1) _ y P h (λ u colon h1.
      bound (identifier u.1) _ y P h1 (λ v container h2.
      bound (mark m.RightParenthesis v.1) _ y P h2 (λ d close h3.
      bound (inner d.1) _ y P h3 (λ b read h4.
      let body = f d.1 b read in
      answered _ y P h4 (record {
        part = record {
          spelled = opened ⨾ (typed ⨾ (identifier_took vs x name ⨾ (mark_plain m.Colon x.1 u colon ⨾ (identifier_took u.1 v container
              ⨾ (mark_plain m.RightParenthesis v.1 d close ⨾ body.part.spelled)))));
          fits = body.part.fits;
          size = omega (arith, body.part.size);
          low = omega (arith, high, element-low element, body.part.low);
        };
        closed = body.closed;
      })))))

  -- from the type of a reference on
  reference-found : (ts us : List Token) (y : Took Stmt) → 0 < depth_left → Spelled (opened_written (here ts)) ts us
      → reference_range inner depth_left (here ts) us ≡ Ok y → FoundStmt (depth_left + 1) ts y.0 y.1
  unfolding reference_range
  reference-found ts us y high opened h =
      let P : Took Stmt → Type 0 = λ z. FoundStmt (depth_left + 1) ts z.0 z.1 in
      bound (reference_head us) _ y P h (λ head headed h1.
      bound (identifier head.1) _ y P h1 (λ x name h2.
      range-found (l.Reference head.0) ts us head.1 x y high opened (took (head-met us) headed).0 name h2))

  -- a first part that declares a variable, as it was read
  pub valued-head : (type : Option Scalar) (ts us : List Token) (x : Identifier × List Token) (u : Place × List Token) (v : Took Expr)
      → Spelled (opened_written (here ts)) ts us → kind_at us ≡ type_kind type → identifier (drop 1 us) ≡ Ok x → mark m.Equal x.1 ≡ Ok u
      → expr depth_left 1 u.1 ≡ Ok v
      → Part (head_written (here ts)) (IfThere IsFirst) (option_height first_height) depth_left ts
      (Some (first_of type (here us) x.0 v.0.0), v.0.1 + 1) v.1
  valued-head type ts us x u v opened e name equal read =
      let found = sound depth_left 1 u.1 v (omega arith) (omega arith) read in
      let declares : Spelled (first_written (first_of type (here us) x.0 v.0.0)) us v.1 = respelled (first-written type (here us) x.0 v.0.0)
      (one_word us (type_kind type) (type_word type) e (type-fixed type)
      ⨾ (identifier_took (drop 1 us) x name ⨾ (mark_plain m.Equal x.1 u equal ⨾ found.1.part.spelled))) in
      record {
        spelled = opened ⨾ declares;
        fits = first-fits type (here us) x.0 v.0.0 found.1.part.fits;
        size = omega (arith, found.1.part.size, first-height type (here us) x.0 v.0.0);
        low = omega (arith, found.0, found.1.part.low);
      }

  valued-found : (type : Option Scalar) (ts us : List Token) (x : Identifier × List Token) (y : Took Stmt) → Spelled (opened_written (here ts)) ts us
      → kind_at us ≡ type_kind type → identifier (drop 1 us) ≡ Ok x → valued_first inner depth_left (here ts) (here us) type x.0 x.1 ≡ Ok y
      → FoundStmt (depth_left + 1) ts y.0 y.1
  unfolding valued_first
  valued-found type ts us x y opened e name h =
      let P : Took Stmt → Type 0 = λ z. FoundStmt (depth_left + 1) ts z.0 z.1 in
      bound (mark m.Equal x.1) _ y P h (λ u equal h1.
      bound (expr depth_left 1 u.1) _ y P h1 (λ v read h2.
      for_behind-found ts v.1 _ y (valued-head type ts us x u v opened e name equal read) h2))

  declared-found : (type : Option Scalar) (ts us : List Token) (y : Took Stmt) → 0 < depth_left → Spelled (opened_written (here ts)) ts us
      → kind_at us ≡ type_kind type → declared_first inner depth_left (here ts) type us ≡ Ok y → FoundStmt (depth_left + 1) ts y.0 y.1
  unfolding declared_first variable_behind
  declared-found type ts us y high opened e h =
      let P : Took Stmt → Type 0 = λ z. FoundStmt (depth_left + 1) ts z.0 z.1 in
      bound (identifier (drop 1 us)) _ y P h (λ x name h1.
      chosen (ranges type && is_mark m.Colon (kind_at x.1)) _ _ _ (P y) h1
      (λ range h2.
      let may : ranges type ≡ true = (both (ranges type) (is_mark m.Colon (kind_at x.1)) range).0 in
      range-found (l.Value (element_of type)) ts us (drop 1 us) x y high opened
      (one_plain us (type_kind type) (element_word (element_of type)) e (type-fixed type ∙ ap Some (element-word type may))) name h2)
      (λ other h2. valued-found type ts us x y opened e name h2))

  effect-found : (ts us : List Token) (y : Took Stmt) → Spelled (opened_written (here ts)) ts us → for_by inner depth_left (here ts) k.End us ≡ Ok y
      → FoundStmt (depth_left + 1) ts y.0 y.1
  effect-found ts us y opened h =
      let P : Took Stmt → Type 0 = λ z. FoundStmt (depth_left + 1) ts z.0 z.1 in
      bound (effect depth_left us) _ y P h (λ x read h1.
      let found = effect-part depth_left us x read in
      for_behind-found ts x.1 (Some (t.first_effect x.0.0), x.0.1) y
      (record { spelled = opened ⨾ found.spelled; fits = found.fits; size = found.size; low = found.low }) h1)

  for-by : (kind : TokenKind) (ts us : List Token) (y : Took Stmt) → 0 < depth_left → Spelled (opened_written (here ts)) ts us → kind_at us ≡ kind
      → for_by inner depth_left (here ts) kind us ≡ Ok y → FoundStmt (depth_left + 1) ts y.0 y.1
  for-by (k.Scalar scalar) ts us y high opened e h = declared-found (Some scalar) ts us y high opened e h
  for-by k.Auto ts us y high opened e h = declared-found None ts us y high opened e h
  for-by (k.Mark m.Semicolon) ts us y high opened e h =
      for_behind-found ts us (None, 0) y (record { spelled = opened; fits = tt; size = refl; low = omega arith }) h
  for-by _ ts us y high opened e h = effect-found ts us y opened h

  head-found : (ts us : List Token) (y : Took Stmt) → 0 < depth_left → Spelled (opened_written (here ts)) ts us
      → for_head inner depth_left (here ts) us ≡ Ok y → FoundStmt (depth_left + 1) ts y.0 y.1
  unfolding for_head
  head-found ts us y high opened h =
      chosen (begins_reference us) _ _ _ (FoundStmt (depth_left + 1) ts y.0 y.1) h
      (λ begins h1. reference-found ts us y high opened h1)
      (λ other h1. for-by (kind_at us) ts us y high opened refl h1)

  pub for-found : (ts : List Token) (y : Took Stmt) → kind_at ts ≡ k.For → for_loop inner depth_left ts ≡ Ok y → FoundStmt (depth_left + 1) ts y.0 y.1
  unfolding for_loop
  for-found ts y e h =
      let P : Took Stmt → Type 0 = λ z. FoundStmt (depth_left + 1) ts z.0 z.1 in
      guarded (nat_lt 0 depth_left) _ _ y P h (λ high h1.
      bound (mark m.LeftParenthesis (drop 1 ts)) _ y P h1 (λ u opened h2.
      head-found ts u.1 y (ltb-true 0 depth_left high)
      (one_word ts k.For (w.Key (codes "for")) e refl ⨾ mark_plain m.LeftParenthesis (drop 1 ts) u opened) h2))
