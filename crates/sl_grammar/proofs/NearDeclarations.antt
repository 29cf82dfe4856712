-- The readers of types and declarations do the same up to a point.
use Rattle.std.proofs.Common.{ℕ, ◌+◌, ◌≤◌, nat_lt, Bool, true, false, List, ◌∷◌, length, drop, refl}
use Rattle.sl_base.specs.declared.form.Form.{Form}
use Rattle.sl_base.specs.declared.mark.Mark.TheVariants as m
use Rattle.sl_base.specs.declared.place.Place.{Place}
use Rattle.sl_base.specs.declared.scalar.Scalar.{Scalar}
use Rattle.sl_base.specs.declared.scalar.Scalar.TheVariants as c
use Rattle.sl_base.specs.declared.token.Token.{Token}
use Rattle.sl_syntax.specs.declared.token_kind.TokenKind.{TokenKind}
use Rattle.sl_syntax.specs.declared.token_kind.TokenKind.TheVariants as k
use Rattle.sl_syntax.specs.Tree as t
use Rattle.sl_syntax.specs.Tree.{Declaration}
use Rattle.sl_syntax.specs.Written.{is_map}
use Rattle.sl_grammar.specs.Means.Declarations.{int_by, int, elements_by, container_type, optional_value, scalar_declaration, auto_declaration}
use Rattle.sl_grammar.specs.Means.Declarations.{braces, behind_equal_by, constructed, initializer_by, initializer, container_declaration}
use Rattle.sl_grammar.specs.Means.Expressions.{expr}
use Rattle.sl_grammar.specs.Means.Steps.{Reader, Tall, ◌>>=◌, ◌>>◌, pure, is_mark, mark, identifier}
use Rattle.sl_grammar.proofs.NearExpressions.{list-near, list_before-near, expr-near}
use Rattle.sl_grammar.proofs.NearSteps.{left_over, left-within, Twins, Level, Any, plain, tall, yields, refuses, loose, skipped, chosen, by_test, under, mark-near}
use Rattle.sl_grammar.proofs.NearSteps.{identifier-near}

-- what is read behind the first word of a declaration
module _ (depth_left : ℕ) where
  abbrev scalar_behind : Place → Scalar → Reader (Tall Declaration)
  scalar_behind place scalar = do
    x ← identifier
    v ← optional_value depth_left
    pure (t.declares_scalar place scalar x v.0, v.1 + 1)

  abbrev auto_behind : Place → Reader (Tall Declaration)
  auto_behind place = do
    x ← identifier
    mark m.Equal
    v ← expr (depth_left + 1) 1
    pure (t.declares_auto place x v.0, v.1 + 1)

module _ {b : ℕ} where
  int_by-near : (kind : TokenKind) → Twins b 0 Any (int_by kind) (int_by kind)
  int_by-near (k.Scalar c.Int) s s' = skipped (yields tt)
  int_by-near _ s s' = refuses

  int-near : Twins b 0 Any int int
  unfolding int
  int-near s s' = chosen int_by int_by int_by-near s s'

  elements_by-near : (map : Bool) → Twins b 1 Any (elements_by map) (elements_by map)
  elements_by-near false s s' = plain (mark-near m.Less s s') (λ _ _ s s'. plain (int-near s s')
      (λ _ _ s s'. plain (mark-near m.Greater s s') (λ _ _ _ _. yields tt)))
  elements_by-near true s s' = plain (mark-near m.Less s s') (λ _ _ s s'. plain (int-near s s') (λ _ _ s s'. plain (mark-near m.Comma s s')
      (λ _ _ s s'. plain (int-near s s') (λ _ _ s s'. plain (mark-near m.Greater s s') (λ _ _ _ _. yields tt)))))

  pub container_type-near : (form : Form) → Twins b 1 Any (container_type form) (container_type form)
  unfolding container_type
  container_type-near form s s' = skipped (plain (elements_by-near (is_map form) _ _) (λ _ _ _ _. yields tt))

  module _ (depth_left : ℕ) where
    optional_value-near : Twins b 0 Level (optional_value depth_left) (optional_value depth_left)
    unfolding optional_value
    optional_value-near s s' = by_test (is_mark m.Equal) (skipped (loose (tall _ _ (expr-near (depth_left + 1) 1 _ _) (λ _ _ _ _ _. yields refl))))
        (yields refl)

    scalar_behind-near : (place place' : Place) (scalar : Scalar)
        → Twins b 1 Level (scalar_behind depth_left place scalar) (scalar_behind depth_left place' scalar)
    scalar_behind-near place place' scalar s s' = plain (identifier-near s s')
        (λ _ _ s s'. tall _ _ (optional_value-near s s') (λ _ _ _ _ _. yields refl))

    auto_behind-near : (place place' : Place) → Twins b 1 Level (auto_behind depth_left place) (auto_behind depth_left place')
    auto_behind-near place place' s s' = plain (identifier-near s s') (λ _ _ s s'. plain (mark-near m.Equal s s')
        (λ _ _ s s'. tall _ _ (expr-near (depth_left + 1) 1 s s') (λ _ _ _ _ _. yields refl)))

    pub scalar_declaration-near : (scalar : Scalar) → Twins b 1 Level (scalar_declaration depth_left scalar) (scalar_declaration depth_left scalar)
    unfolding scalar_declaration
    scalar_declaration-near scalar s s' = skipped (scalar_behind-near _ _ scalar _ _)

    pub auto_declaration-near : Twins b 1 Level (auto_declaration depth_left) (auto_declaration depth_left)
    unfolding auto_declaration
    auto_declaration-near s s' = skipped (auto_behind-near _ _ _ _)

    braces-near : (equal : Bool) → Twins b 1 Level (braces depth_left equal) (braces depth_left equal)
    unfolding braces
    braces-near equal s s' = tall _ _ (list_before-near (expr (depth_left + 1) 1) (expr depth_left 1) depth_left (expr-near (depth_left + 1) 1)
        (expr-near depth_left 1) m.RightBrace s s')
        (λ _ _ _ s s'. plain (mark-near m.RightBrace s s') (λ _ _ _ _. yields refl))

    behind_equal_by-near : (kind : TokenKind) → Twins b 1 Level (behind_equal_by depth_left kind) (behind_equal_by depth_left kind)
    behind_equal_by-near k.Name s s' = plain (identifier-near s s') (λ _ _ _ _. yields refl)
    behind_equal_by-near (k.Mark m.LeftBrace) s s' = skipped (braces-near true _ _)
    behind_equal_by-near _ s s' = refuses

    constructed-near : Twins b 1 Level (constructed depth_left) (constructed depth_left)
    unfolding constructed
    constructed-near s s' =
        skipped (tall _ _
        (list-near (expr (depth_left + 1) 1) (expr depth_left 1) depth_left (expr-near (depth_left + 1) 1) (expr-near depth_left 1) _ _)
        (λ _ _ _ s s'. plain (mark-near m.RightParenthesis s s') (λ _ _ _ _. yields refl)))

    initializer_by-near : (kind : TokenKind) → Twins b 0 Level (initializer_by depth_left kind) (initializer_by depth_left kind)
    initializer_by-near (k.Mark m.Equal) s s' =
        skipped (loose (chosen (behind_equal_by depth_left) (behind_equal_by depth_left) behind_equal_by-near (drop 1 s)
        (drop 1 s')))
    initializer_by-near (k.Mark m.LeftBrace) s s' = skipped (loose (braces-near false _ _))
    initializer_by-near (k.Mark m.LeftParenthesis) s s' = loose (constructed-near s s')
    initializer_by-near _ s s' = yields refl

    initializer-near : Twins b 0 Level (initializer depth_left) (initializer depth_left)
    unfolding initializer
    initializer-near s s' = chosen (initializer_by depth_left) (initializer_by depth_left) initializer_by-near s s'

    pub container_declaration-near : (form : Form) → Twins b 1 Level (container_declaration depth_left form) (container_declaration depth_left form)
    unfolding container_declaration
    container_declaration-near form s s' =
        under (nat_lt 0 depth_left) (plain (container_type-near form s s') (λ _ _ s s'. plain (identifier-near s s')
        (λ _ _ s s'. tall _ _ (initializer-near s s') (λ _ _ _ _ _. yields refl))))

-- the first word is taken
pub scalar-left : (depth_left : ℕ) (scalar : Scalar) (x : Token) (ts : List Token)
    → left_over (scalar_declaration depth_left scalar (x ∷ ts)) ≤ length ts
unfolding scalar_declaration
scalar-left depth_left scalar x ts = left-within 1 (length ts) (scalar_behind depth_left x.place scalar ts)
    (scalar_behind-near {b = 0} depth_left x.place x.place scalar ts ts).within

pub auto-left : (depth_left : ℕ) (x : Token) (ts : List Token) → left_over (auto_declaration depth_left (x ∷ ts)) ≤ length ts
unfolding auto_declaration
auto-left depth_left x ts = left-within 1 (length ts) (auto_behind depth_left x.place ts)
    (auto_behind-near {b = 0} depth_left x.place x.place ts ts).within
