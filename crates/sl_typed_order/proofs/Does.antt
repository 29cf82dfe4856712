-- What a part does by names, and what its nodes do to variables.
use Rattle.std.proofs.Common.{◌≡◌, ℕ, Bool, false, List, [], ◌∷◌, ◌++◌, refl, sym, subst, ap, ◌∙◌}
use Rattle.std.specs.Prelude.{flat_map}
use Rattle.std.specs.List.{list_any}
use Rattle.std.proofs.lemmas.Bool.{or_parts}
use Rattle.std.proofs.lemmas.Grind.{flat_map-append}
use Rattle.std.proofs.lemmas.List.Folds.{list_any-append}
use Rattle.sl_syntax.specs.Typed.{Function}
use Rattle.sl_typing.specs.declared.scope.Scope.{Scope}
use Rattle.sl_typing.specs.Order.{Deeds, both}
use Rattle.sl_model.specs.Typing.WellTypedNodes.{Node}
use Rattle.sl_model.specs.Typing.WellTypedOrder.{Variable, same_variable, is_among as is_variable_among, is_change, changed_by, is_write}
use Rattle.sl_typed_order.proofs.Numbered.{variable_meant}
use Rattle.sl_typed_order.proofs.Covers.{Covers, covers_none, covers_both, covers_left, covers_right, neither}

-- nodes do no more than this says
pub record Does (fs : List Function) (g : Scope) (d : Deeds) (xs : List Node) : Type 0 where
  pub changes : d.changes ≡ false → list_any is_change xs ≡ false
  pub changed : Covers g d.changed (flat_map (changed_by fs) xs)
  pub writes : d.writes ≡ false → list_any is_write xs ≡ false

-- no nodes
pub does_none : (fs : List Function) (g : Scope) (d : Deeds) → Does fs g d []
does_none fs g d = record { changes = λ k. refl; changed = covers_none g d.changed; writes = λ k. refl }

-- what does less than two parts
pub does_left : (fs : List Function) (g : Scope) (d e : Deeds) (xs : List Node) → Does fs g d xs → Does fs g (both d e) xs
does_left fs g d e xs h = record {
  changes = λ k. h.changes (or_parts d.changes e.changes k).0;
  changed = covers_left g d.changed e.changed (flat_map (changed_by fs) xs) h.changed;
  writes = λ k. h.writes (or_parts d.writes e.writes k).0;
}

pub does_right : (fs : List Function) (g : Scope) (d e : Deeds) (xs : List Node) → Does fs g e xs → Does fs g (both d e) xs
does_right fs g d e xs h = record {
  changes = λ k. h.changes (or_parts d.changes e.changes k).1;
  changed = covers_right g d.changed e.changed (flat_map (changed_by fs) xs) h.changed;
  writes = λ k. h.writes (or_parts d.writes e.writes k).1;
}

-- none of two lists
none_of_two : (p : Node → Bool) (xs ys : List Node) → list_any p xs ≡ false → list_any p ys ≡ false → list_any p (xs ++ ys) ≡ false
none_of_two p xs ys h k = list_any-append p xs ys ∙ neither (list_any p xs) (list_any p ys) h k

none_in_parts : (p : Node → Bool) (xs ys : List Node) → list_any p (xs ++ ys) ≡ false → (list_any p xs ≡ false) × (list_any p ys ≡ false)
none_in_parts p xs ys h = or_parts (list_any p xs) (list_any p ys) (sym (list_any-append p xs ys) ∙ h)

-- two parts
pub does_both : (fs : List Function) (g : Scope) (d e : Deeds) (xs ys : List Node) → Does fs g d xs → Does fs g e ys → Does fs g (both d e) (xs ++ ys)
does_both fs g d e xs ys h k = record {
  changes = λ none. let parts = or_parts d.changes e.changes none in none_of_two is_change xs ys (h.changes parts.0) (k.changes parts.1);
  changed = subst (λ (vs : List Variable). Covers g (d.changed ++ e.changed) vs) (sym (flat_map-append (changed_by fs) xs ys))
      (covers_both g d.changed e.changed (flat_map (changed_by fs) xs) (flat_map (changed_by fs) ys) h.changed k.changed);
  writes = λ none. let parts = or_parts d.writes e.writes none in none_of_two is_write xs ys (h.writes parts.0) (k.writes parts.1);
}

-- the first of two lists, and the second
covers_parts : (g : Scope) (names : List (List ℕ)) (vs ws : List Variable) → Covers g names (vs ++ ws) → Covers g names vs × Covers g names ws
covers_parts g names vs ws h = (λ x known apart other. (parts x (h x known apart other)).0, λ x known apart other. (parts x (h x known apart other)).1)
  where
    parts : (x : List ℕ) → is_variable_among (variable_meant g x) (vs ++ ws) ≡ false
        → (is_variable_among (variable_meant g x) vs ≡ false) × (is_variable_among (variable_meant g x) ws ≡ false)
    parts x none = or_parts (is_variable_among (variable_meant g x) vs) (is_variable_among (variable_meant g x) ws)
        (sym (list_any-append (same_variable (variable_meant g x)) vs ws) ∙ none)

pub does_first : (fs : List Function) (g : Scope) (d : Deeds) (xs ys : List Node) → Does fs g d (xs ++ ys) → Does fs g d xs
does_first fs g d xs ys h = record {
  changes = λ k. (none_in_parts is_change xs ys (h.changes k)).0;
  changed = (covers_parts g d.changed (flat_map (changed_by fs) xs) (flat_map (changed_by fs) ys)
      (subst (λ (vs : List Variable). Covers g d.changed vs) (flat_map-append (changed_by fs) xs ys) h.changed)).0;
  writes = λ k. (none_in_parts is_write xs ys (h.writes k)).0;
}

pub does_second : (fs : List Function) (g : Scope) (d : Deeds) (xs ys : List Node) → Does fs g d (xs ++ ys) → Does fs g d ys
does_second fs g d xs ys h = record {
  changes = λ k. (none_in_parts is_change xs ys (h.changes k)).1;
  changed = (covers_parts g d.changed (flat_map (changed_by fs) xs) (flat_map (changed_by fs) ys)
      (subst (λ (vs : List Variable). Covers g d.changed vs) (flat_map-append (changed_by fs) xs ys) h.changed)).1;
  writes = λ k. (none_in_parts is_write xs ys (h.writes k)).1;
}

-- behind nothing more
pub behind_none : {X : Type 0} (xs : List X) → xs ++ [] ≡ xs
behind_none [] = refl
behind_none {X} (x ∷ xs) = ap (λ (ys : List X). x ∷ ys) (behind_none xs)

pub does_alone : (fs : List Function) (g : Scope) (d : Deeds) (xs : List Node) → Does fs g d xs → Does fs g d (xs ++ [])
does_alone fs g d xs h = subst (λ (ys : List Node). Does fs g d ys) (sym (behind_none xs)) h

pub covers_alone : (g : Scope) (names : List (List ℕ)) (vs : List Variable) → Covers g names vs → Covers g names (vs ++ [])
covers_alone g names vs h = subst (λ (ws : List Variable). Covers g names ws) (sym (behind_none vs)) h
