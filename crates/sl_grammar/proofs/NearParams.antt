-- The readers of parameters do the same up to a point.
use Rattle.std.proofs.Common.{ℕ, [], ◌∷◌, drop, refl}
use Rattle.sl_base.specs.declared.mark.Mark.TheVariants as m
use Rattle.sl_base.specs.declared.place.Place.{Place}
use Rattle.sl_base.specs.declared.scalar.Scalar.{Scalar}
use Rattle.sl_syntax.specs.declared.token_kind.TokenKind.{TokenKind}
use Rattle.sl_syntax.specs.declared.token_kind.TokenKind.TheVariants as k
use Rattle.sl_syntax.specs.declared.tree.declaration.ContainerType.{ContainerType}
use Rattle.sl_grammar.specs.Means.Declarations.{scalar_param, type_param, container_by, const_param, param_by, param, comma_param, params}
use Rattle.sl_grammar.specs.Means.Steps.{is_mark}
use Rattle.sl_grammar.proofs.NearDeclarations.{container_type-near}
use Rattle.sl_grammar.proofs.NearHeads.{iterator_behind-near}
use Rattle.sl_grammar.proofs.NearSteps.{Twins, Level, Any, plain, tall, yields, refuses, loose, skipped, chosen, by_test, mark-near, identifier-near}
use Rattle.sl_grammar.proofs.NearSteps.{repeat-near}

module _ {b : ℕ} where
  scalar_param-near : (place place' : Place) (scalar : Scalar) → Twins b 1 Level (scalar_param place scalar) (scalar_param place' scalar)
  unfolding scalar_param
  scalar_param-near place place' scalar s s' = by_test (is_mark m.And) (skipped (plain (identifier-near _ _) (λ _ _ _ _. yields refl)))
      (plain (identifier-near s s') (λ _ _ _ _. yields refl))

  type_param-near : (type type' : ContainerType) → Twins b 1 Level (type_param type) (type_param type')
  unfolding type_param
  type_param-near type type' s s' = by_test (is_mark m.ColonColon)
      (plain (iterator_behind-near type type' s s') (λ _ _ s s'. plain (identifier-near s s') (λ _ _ _ _. yields refl)))
      (plain (mark-near m.And s s') (λ _ _ s s'. plain (identifier-near s s') (λ _ _ _ _. yields refl)))

  container_by-near : (kind : TokenKind) → Twins b 1 Any (container_by kind) (container_by kind)
  container_by-near (k.Container form) s s' = container_type-near form s s'
  container_by-near _ s s' = refuses

  const_param-near : Twins b 1 Level const_param const_param
  unfolding const_param
  const_param-near s s' = skipped (plain (chosen container_by container_by container_by-near (drop 1 s) (drop 1 s'))
      (λ _ _ s s'. plain (mark-near m.And s s') (λ _ _ s s'. plain (identifier-near s s') (λ _ _ _ _. yields refl))))

  param_by-near : (kind : TokenKind) → Twins b 1 Level (param_by kind) (param_by kind)
  param_by-near (k.Scalar scalar) s s' = skipped (scalar_param-near _ _ scalar _ _)
  param_by-near (k.Container form) s s' = plain (container_type-near form s s') (λ type type' u u'. type_param-near type type' u u')
  param_by-near k.Const s s' = const_param-near s s'
  param_by-near _ s s' = refuses

  param-near : Twins b 1 Level param param
  unfolding param
  param-near s s' = chosen param_by param_by param_by-near s s'

  comma_param-near : Twins b 1 Level comma_param comma_param
  comma_param-near s s' = plain (mark-near m.Comma s s') (λ _ _ u u'. param-near u u')

  pub params-near : Twins b 0 Level params params
  unfolding params
  params-near s s' = by_test (is_mark m.RightParenthesis) (yields refl)
      (loose (tall _ _ (param-near s s') (λ x y z u u'. repeat-near (is_mark m.Comma) comma_param comma_param-near (x ∷ []) (y ∷ []) z u u')))
