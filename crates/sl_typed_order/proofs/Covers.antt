-- Names cover variables: a variable that stands for no reference, and whose name isn't among the names, isn't among the variables.
use Rattle.std.proofs.Common.{◌≡◌, ℕ, Bool, true, false, ◌||◌, List, [], ◌∷◌, ◌++◌, map, refl, sym, subst, ◌∙◌}
use Rattle.std.specs.Str.{bytes_eq}
use Rattle.std.proofs.lemmas.Bool.{or_parts, false_from_ne_true}
use Rattle.std.proofs.lemmas.List.Folds.{list_any-append}
use Rattle.sl_typing.specs.declared.expr_type.ExprType.{ExprType}
use Rattle.sl_typing.specs.declared.expr_type.ExprType.TheVariants as types
use Rattle.sl_typing.specs.declared.scope.Scope.{Scope}
use Rattle.sl_typing.specs.Scopes.{is_among, type_of_name}
use Rattle.sl_model.specs.Typing.WellTypedOrder.{Variable, same_variable, is_among as is_variable_among}
use Rattle.sl_model.proofs.Tells.{AllOf}
use Rattle.sl_typed_order.proofs.Numbered.{AllNumbered, variable_meant, one_name}
use Rattle.sl_typed_order.proofs.Alias.{Known, none_among}

-- a reference, to an int or to an element of a map
abbrev pub is_reference_type : ExprType → Bool
is_reference_type (types.IntReference w) = true
is_reference_type (types.EntryReference w) = true
is_reference_type u = false

abbrev pub Covers : Scope → List (List ℕ) → List Variable → Type 0
Covers g names vs = (x : List ℕ) → Known g x → is_among x names ≡ false → is_reference_type (type_of_name g x) ≡ false
    → is_variable_among (variable_meant g x) vs ≡ false

pub covers_none : (g : Scope) (names : List (List ℕ)) → Covers g names []
covers_none g names x known apart other = refl

-- neither of two is true
pub neither : (a b : Bool) → a ≡ false → b ≡ false → (a || b) ≡ false
neither true b h k = h
neither false b h k = k

-- none of two lists
split : (x : List ℕ) (xs ys : List (List ℕ)) → is_among x (xs ++ ys) ≡ false → (is_among x xs ≡ false) × (is_among x ys ≡ false)
split x xs ys h = or_parts (is_among x xs) (is_among x ys) (sym (list_any-append (λ n. bytes_eq n x) xs ys) ∙ h)

pub covers_both : (g : Scope) (xs ys : List (List ℕ)) (vs ws : List Variable) → Covers g xs vs → Covers g ys ws → Covers g (xs ++ ys) (vs ++ ws)
covers_both g xs ys vs ws h k x known apart other =
    let parts = split x xs ys apart in
    list_any-append (same_variable (variable_meant g x)) vs ws
    ∙ neither (is_variable_among (variable_meant g x) vs) (is_variable_among (variable_meant g x) ws) (h x known parts.0 other) (k x known parts.1 other)

-- more names
pub covers_left : (g : Scope) (xs ys : List (List ℕ)) (vs : List Variable) → Covers g xs vs → Covers g (xs ++ ys) vs
covers_left g xs ys vs h x known apart other = h x known (split x xs ys apart).0 other

pub covers_right : (g : Scope) (xs ys : List (List ℕ)) (vs : List Variable) → Covers g ys vs → Covers g (xs ++ ys) vs
covers_right g xs ys vs h x known apart other = h x known (split x xs ys apart).1 other

-- names cover the variables that they mean
pub covers_names : (g : Scope) → AllNumbered g → (ns : List (List ℕ)) → AllOf (Known g) ns → Covers g ns (map (variable_meant g) ns)
covers_names g h ns all x known apart other = none_among g h x ns known all apart

-- a reference needs no name
pub covers_reference : (g : Scope) → AllNumbered g → (names : List (List ℕ)) (r : List ℕ) → Known g r → is_reference_type (type_of_name g r) ≡ true
    → Covers g names (variable_meant g r ∷ [])
covers_reference g h names r there is x known apart other =
    neither (same_variable (variable_meant g x) (variable_meant g r)) false
    (
    false_from_ne_true (same_variable (variable_meant g x) (variable_meant g r))
    (λ same. let one = one_name g h x r known there same in
    let yes : is_reference_type (type_of_name g x) ≡ true = subst (λ (y : List ℕ). is_reference_type (type_of_name g y) ≡ true) (sym one) is in
    absurd cc)
    )
    refl
