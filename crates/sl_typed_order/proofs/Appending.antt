-- What stands as an output, and what an algorithm that appends to a container changes.
use Rattle.std.proofs.Common.{◌≡◌, ℕ, ◌+◌, Bool, true, false, not, ◌||◌, List, [], ◌∷◌, ◌++◌, Option, Some, None, refl, sym, subst}
use Rattle.std.specs.Prelude.{flat_map, codes, if◌then◌else◌}
use Rattle.std.specs.Str.{bytes_eq}
use Rattle.std.proofs.lemmas.Bool.{and_parts, or_parts, not-true}
use Rattle.sl_base.specs.declared.place.Place.{Place}
use Rattle.sl_syntax.specs.declared.tree.identifier.Identifier.{Identifier}
use Rattle.sl_syntax.specs.Tree as s
use Rattle.sl_syntax.specs.Tree.{Expr, Exprs}
use Rattle.sl_syntax.specs.Typed.{Operands}
use Rattle.sl_typing.specs.declared.fault.Fault.{Fault}
use Rattle.sl_typing.specs.declared.scope.Scope.{Scope}
use Rattle.sl_typing.specs.declared.standing.Standing.{Standing}
use Rattle.sl_typing.specs.declared.standing.Standing.TheVariants as standing
use Rattle.sl_typing.specs.Types.{is_container}
use Rattle.sl_typing.specs.Candidates.{Found, algorithm_row}
use Rattle.sl_typing.specs.TypeOf.{size, is_back_inserter, end_in_appender, appends, type_of, types_of}
use Rattle.sl_typing.specs.Looks.{bare_name}
use Rattle.sl_typing.specs.Sites.{site_count, inside}
use Rattle.sl_typing.specs.WrongType.{wrong_type}
use Rattle.sl_typing.specs.Rules.{is_lone_appender}
use Rattle.sl_typing.specs.Faults.{own_faults, last_standing, faults, faults_of_all}
use Rattle.sl_typing.specs.Order.{last_arguments, first_name}
use Rattle.sl_typing.specs.Numbering.{Way, handed, first_operand, ways, letters_of, first_way, other_ways, called_algorithm, typed, operands}
use Rattle.sl_model.specs.Typing.WellTypedOrder.{Variable, container_in, listed}
use Rattle.sl_well_typed.proofs.Parts.{none_in_both, arguments_kept, library_call_kept}
use Rattle.sl_typed_order.proofs.Numbered.{AllNumbered}
use Rattle.sl_typed_order.proofs.Covers.{Covers, covers_none, covers_both, covers_left}
use Rattle.sl_typed_order.proofs.Does.{covers_alone}
use Rattle.sl_typed_order.proofs.Containers.{value_covers, handed_covers}
use Rattle.sl_typed_order.proofs.Alias.{first_plain}
use Rattle.sl_typed_order.proofs.AlgorithmRows.{no_output, may_end}

-- a call of an algorithm that isn't `back_inserter` is as good plainly as it is as an output
lone_same : (f : Identifier) (xs : Exprs) → bytes_eq f.name (codes "back_inserter") ≡ false
    → is_lone_appender standing.Output (s.library_call f xs) ≡ is_lone_appender standing.Plain (s.library_call f xs)
unfolding is_lone_appender
lone_same f xs h = rw h refl

own_same : (g : Scope) (n : ℕ) (f : Identifier) (xs : Exprs) → bytes_eq f.name (codes "back_inserter") ≡ false
    → own_faults g n standing.Output (s.library_call f xs) ≡ own_faults g n standing.Plain (s.library_call f xs)
unfolding own_faults wrong_type
own_same g n f xs h = rw (lone_same f xs h) refl

output_is_plain : (g : Scope) (n : ℕ) (e : Expr) → is_back_inserter e ≡ false → faults g n standing.Output e ≡ [] → faults g n standing.Plain e ≡ []
unfolding faults faults_of_all own_faults wrong_type is_lone_appender
output_is_plain g n (s.library_call f xs) other h =
    let all = faults_of_all g (inside g n (s.library_call f xs)) (last_standing f.name xs) xs in
    subst (λ (ys : List Fault). all ++ ys ≡ []) (own_same g n f xs other) h
output_is_plain g n e other h = h

-- two lists that have nothing
none_of_both : (xs ys : List Fault) → xs ≡ [] → ys ≡ [] → xs ++ ys ≡ []
none_of_both xs ys h k = rw (h, k) refl

-- so are arguments that don't end in `back_inserter`
pub all_plain : (g : Scope) (b : Bool) (n : ℕ) (xs : Exprs) → end_in_appender xs ≡ false
    → faults_of_all g n (if b then standing.Output else standing.Plain) xs ≡ [] → faults_of_all g n standing.Plain xs ≡ []
unfolding faults_of_all
all_plain g false n xs other h = h
all_plain g true n s.none other h = refl
all_plain g true n (s.with x s.none) other h =
    let both = none_in_both (faults g n standing.Output x) [] h in
    none_of_both (faults g n standing.Plain x) [] (output_is_plain g n x (or_parts (is_back_inserter x) false other).0 both.0) refl
all_plain g true n (s.with x (s.with y ys)) other h =
    let both = none_in_both (faults g n standing.Plain x) (faults_of_all g (n + site_count g x) standing.Output (s.with y ys)) h in
    none_of_both (faults g n standing.Plain x) (faults_of_all g (n + site_count g x) standing.Plain (s.with y ys)) both.0
    (all_plain g true (n + site_count g x) (s.with y ys) other both.1)

-- a value that is a container has its name, and one that isn't has none
either_covers : (g : Scope) (b : Bool) (names : List (List ℕ)) (vs : List Variable) → Covers g (if b then names else []) vs → Covers g names vs
either_covers g true names vs h = h
either_covers g false names vs h = covers_left g [] names vs h

pub other_covers : (g : Scope) → AllNumbered g → (n : ℕ) (x : Expr) → faults g n standing.Plain x ≡ [] → is_container (type_of g x) ≡ false
    → Covers g [] (container_in (typed g n x))
other_covers g h n x none other =
    subst (λ (b : Bool). Covers g (if b then bare_name x else []) (container_in (typed g n x))) other (value_covers g h n x none)

-- the container that `back_inserter` is given
first_covers : (g : Scope) → AllNumbered g → (n : ℕ) (ws : List Way) (xs : Exprs) → faults_of_all g n standing.Plain xs ≡ []
    → Covers g (first_name xs) (container_in (first_operand (operands g n ws xs)))
unfolding operands typed
first_covers g h n ws s.none none = covers_none g []
first_covers g h n ws (s.with x xs) none =
    handed_covers g (bare_name x) (first_way ws) (type_of g x) (typed g n x)
    (either_covers g (is_container (type_of g x)) (bare_name x) (container_in (typed g n x)) (value_covers g h n x (first_plain g n x xs none)))

found_covers : (g : Scope) (names : List (List ℕ)) (o : Option Found) (append : Bool) (name : List ℕ) (at : Place) (site : Option ℕ)
    (told : List (Option ℕ)) (es : Operands) → bytes_eq name (codes "back_inserter") ≡ true → Covers g names (container_in (first_operand es))
    → Covers g names (container_in (called_algorithm o append name at site told es))
found_covers g names None append name at site told es same h = covers_none g names
found_covers g names (Some x) append name at site told es same h = rw same h

inserter_covers : (g : Scope) → AllNumbered g → (n : ℕ) (how : Standing) (x : Expr) → faults g n how x ≡ [] → is_back_inserter x ≡ true
    → Covers g (first_name (last_arguments (s.with x s.none))) (container_in (typed g n x))
unfolding typed operands
inserter_covers g h n how (s.library_call f ys) none is =
    let e = s.library_call f ys in
    let row = algorithm_row (appends f.name ys) f.name (types_of g ys) in
    let all = (library_call_kept g n how f ys none).0 in
    let out = no_output f.name (size ys) (codes "back_inserter") is refl in
    let plain : faults_of_all g (inside g n e) standing.Plain ys ≡ [] =
    subst (λ (b : Bool). faults_of_all g (inside g n e) (if b then standing.Output else standing.Plain) ys ≡ []) out all in
    found_covers g (first_name ys) row (appends f.name ys) f.name f.place _ _ (operands g (inside g n e) (ways (letters_of row)) ys) is
    (first_covers g h (inside g n e) (ways (letters_of row)) ys plain)
inserter_covers g h n how x none is = absurd cc

-- what stands last
last_behind : (x y : Expr) (ys : Exprs) → last_arguments (s.with x (s.with y ys)) ≡ last_arguments (s.with y ys)
last_behind (s.library_call f xs) y ys = refl
last_behind x y ys = refl

-- the container to which an algorithm appends
pub appended_covers : (g : Scope) → AllNumbered g → (n : ℕ) (last : Standing) (ws : List Way) (xs : Exprs) → faults_of_all g n last xs ≡ []
    → end_in_appender xs ≡ true → may_end true (types_of g xs) ≡ true
    → Covers g (first_name (last_arguments xs)) (flat_map container_in (listed (operands g n ws xs)))
unfolding operands types_of
appended_covers g h n last ws s.none none end types = absurd cc
appended_covers g h n last ws (s.with x s.none) none end types =
    let names = first_name (last_arguments (s.with x s.none)) in
    let inserter : is_back_inserter x ≡ true = only_one (is_back_inserter x) end in
    covers_alone g names (container_in (handed (first_way ws) (type_of g x) (typed g n x)))
    (handed_covers g names (first_way ws) (type_of g x) (typed g n x)
    (inserter_covers g h n last x (arguments_kept g n last x s.none none).0 inserter))
  where
    only_one : (b : Bool) → (b || false) ≡ true → b ≡ true
    only_one true k = refl
    only_one false k = k
appended_covers g h n last ws (s.with x (s.with y ys)) none end types =
    let kept = arguments_kept g n last x (s.with y ys) none in
    let parts = and_parts (not (is_container (type_of g x))) (may_end true (type_of g y ∷ types_of g ys)) types in
    let d = handed (first_way ws) (type_of g x) (typed g n x) in
    let es = operands g (n + site_count g x) (other_ways ws) (s.with y ys) in
    subst (λ (zs : Exprs). Covers g (first_name zs) (container_in d ++ flat_map container_in (listed es))) (sym (last_behind x y ys))
    (
    covers_both g [] (first_name (last_arguments (s.with y ys))) (container_in d) (flat_map container_in (listed es))
    (handed_covers g [] (first_way ws) (type_of g x) (typed g n x)
    (other_covers g h n x kept.0 (not-true (is_container (type_of g x)) parts.0)))
    (appended_covers g h (n + site_count g x) last (other_ways ws) (s.with y ys) kept.1 end parts.1)
    )
