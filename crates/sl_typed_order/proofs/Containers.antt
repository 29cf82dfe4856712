-- What has the type of a container is a bare name of one.
use Rattle.std.proofs.Common.{◌≡◌, ℕ, ◌+◌, Bool, true, false, List, [], ◌∷◌, refl, sym, subst}
use Rattle.std.specs.Prelude.{flat_map, if◌then◌else◌}
use Rattle.sl_base.specs.declared.place.Place.{Place}
use Rattle.sl_syntax.specs.declared.tree.identifier.Identifier.{Identifier}
use Rattle.sl_syntax.specs.Tree as s
use Rattle.sl_syntax.specs.Tree.{Expr, Exprs}
use Rattle.sl_syntax.specs.Typed as t
use Rattle.sl_syntax.specs.Typed.{Function}
use Rattle.sl_typing.specs.declared.expr_type.ExprType.{ExprType}
use Rattle.sl_typing.specs.declared.expr_type.ExprType.TheVariants as types
use Rattle.sl_typing.specs.declared.scope.Scope.{Scope}
use Rattle.sl_typing.specs.declared.standing.Standing.{Standing}
use Rattle.sl_typing.specs.declared.standing.Standing.TheVariants as standing
use Rattle.sl_typing.specs.Types.{same_scalar, scalar_of, is_container}
use Rattle.sl_typing.specs.Scopes.{sort_of, type_of_name, number_of_name}
use Rattle.sl_typing.specs.TypeOf.{type_of_use, type_of, types_of}
use Rattle.sl_typing.specs.Looks.{bare_name}
use Rattle.sl_typing.specs.Sites.{site_count}
use Rattle.sl_typing.specs.Faults.{faults, faults_of_all}
use Rattle.sl_typing.specs.Order.{container_names}
use Rattle.sl_typing.specs.Numbering.{Way, as_it_is, as_number, as_variable, number_in, handed, first_way, other_ways, variable, typed, operands}
use Rattle.sl_model.specs.Typing.WellTypedOrder.{Variable, the_container, container_in, listed}
use Rattle.sl_model.proofs.Tells.{AllOf}
use Rattle.sl_well_typed.proofs.Parts.{name_kept, parentheses_kept, arguments_kept}
use Rattle.sl_typed_order.proofs.Numbered.{AllNumbered, variable_of_sort}
use Rattle.sl_typed_order.proofs.Alias.{Known, first_plain}
use Rattle.sl_typed_order.proofs.Covers.{Covers, covers_none, covers_both, covers_names}
use Rattle.sl_typed_order.proofs.Values.{is_variable, value_is_calculated}

-- bare names are known
pub bare_known : (g : Scope) (n : ℕ) (how : Standing) (e : Expr) → faults g n how e ≡ [] → AllOf (Known g) (bare_name e)
bare_known g n how (s.name x) none = ((name_kept g n how x none).0, tt)
bare_known g n how (s.parentheses at x) none = bare_known g n standing.Plain x (parentheses_kept g n how at x none)
bare_known g n how e none = tt

-- a container variable
container_is : (u : ExprType) (n : ℕ) (at : Place) (label : ℕ) → is_container (type_of_use u) ≡ true
    → the_container (number_in (variable u n at label)) ≡ variable_of_sort (sort_of u) n
container_is (types.Container access form) n at label h = refl
container_is u n at label h = absurd cc

no_container : (u : ExprType) (n : ℕ) (at : Place) (label : ℕ) → is_container (type_of_use u) ≡ false → container_in (variable u n at label) ≡ []
no_container (types.Container access form) n at label h = absurd cc
no_container u n at label h = refl

some_container : (u : ExprType) (n : ℕ) (at : Place) (label : ℕ) → is_container (type_of_use u) ≡ true
    → container_in (variable u n at label) ≡ variable_of_sort (sort_of u) n ∷ []
some_container (types.Container access form) n at label h = refl
some_container u n at label h = absurd cc

calculated_is_none : (e : t.Expr) → is_variable e ≡ false → container_in e ≡ []
calculated_is_none (t.container x) h = absurd cc
calculated_is_none e h = refl

-- a bare name of a container
pub object_covers : (g : Scope) → AllNumbered g → (n : ℕ) (how : Standing) (x : Identifier) → faults g n how (s.name x) ≡ []
    → is_container (type_of g (s.name x)) ≡ true → Covers g (x.name ∷ []) (the_container (number_in (typed g n (s.name x))) ∷ [])
unfolding typed operands type_of types_of
object_covers g h n how x none is =
    subst (λ (v : Variable). Covers g (x.name ∷ []) (v ∷ [])) (sym (container_is (type_of_name g x.name) (number_of_name g x.name) x.place _ is))
    (covers_names g h (x.name ∷ []) (bare_known g n how (s.name x) none))

-- the container that a value is
chosen_names : (g : Scope) (b : Bool) (names : List (List ℕ)) (vs : List Variable) → (b ≡ true → Covers g names vs) → (b ≡ false → vs ≡ [])
    → Covers g (if b then names else []) vs
chosen_names g true names vs h k = h refl
chosen_names g false names vs h k = subst (λ (ws : List Variable). Covers g [] ws) (sym (k refl)) (covers_none g [])

pub value_covers : (g : Scope) → AllNumbered g → (n : ℕ) (e : Expr) → faults g n standing.Plain e ≡ []
    → Covers g (if is_container (type_of g e) then bare_name e else []) (container_in (typed g n e))
unfolding typed operands type_of types_of
value_covers g h n (s.name x) none =
    chosen_names g (is_container (type_of_use (type_of_name g x.name))) (x.name ∷ []) _
    (λ is. subst (λ (vs : List Variable). Covers g (x.name ∷ []) vs)
    (sym (some_container (type_of_name g x.name) (number_of_name g x.name) x.place _ is))
    (covers_names g h (x.name ∷ []) (bare_known g n standing.Plain (s.name x) none)))
    (λ is. no_container (type_of_name g x.name) (number_of_name g x.name) x.place _ is)
value_covers g h n (s.parentheses at x) none = value_covers g h n x (parentheses_kept g n standing.Plain at x none)
value_covers g h n e none =
    subst (λ (vs : List Variable). Covers g (if is_container (type_of g e) then bare_name e else []) vs)
    (sym (calculated_is_none (typed g n e) (value_is_calculated g n e none refl)))
    (covers_none g (if is_container (type_of g e) then bare_name e else []))

-- handed over in any way
either_covers : (g : Scope) (names : List (List ℕ)) (b : Bool) (d e : t.Expr) → Covers g names (container_in d) → Covers g names (container_in e)
    → Covers g names (container_in (if b then d else e))
either_covers g names true d e h k = h
either_covers g names false d e h k = k

pub handed_covers : (g : Scope) (names : List (List ℕ)) (w : Way) (u : ExprType) (d : t.Expr) → Covers g names (container_in d)
    → Covers g names (container_in (handed w u d))
handed_covers g names as_it_is u d h = h
handed_covers g names (as_number c) u d h = either_covers g names (same_scalar c (scalar_of u)) d (t.convert c d) h (covers_none g names)
handed_covers g names as_variable u d h = covers_none g names

-- the containers among arguments
pub operands_cover : (g : Scope) → AllNumbered g → (n : ℕ) (ws : List Way) (xs : Exprs) → faults_of_all g n standing.Plain xs ≡ []
    → Covers g (container_names g xs) (flat_map container_in (listed (operands g n ws xs)))
unfolding operands
operands_cover g h n ws s.none none = covers_none g []
operands_cover g h n ws (s.with x xs) none =
    covers_both g (if is_container (type_of g x) then bare_name x else []) (container_names g xs)
    (container_in (handed (first_way ws) (type_of g x) (typed g n x)))
    (flat_map container_in (listed (operands g (n + site_count g x) (other_ways ws) xs)))
    (handed_covers g (if is_container (type_of g x) then bare_name x else []) (first_way ws) (type_of g x) (typed g n x)
    (value_covers g h n x (first_plain g n x xs none)))
    (operands_cover g h (n + site_count g x) (other_ways ws) xs (arguments_kept g n standing.Plain x xs none).1)
