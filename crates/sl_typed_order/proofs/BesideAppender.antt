-- Beside an output that appends nothing is changed or written, and it has no nodes.
use Rattle.std.proofs.Common.{◌≡◌, ℕ, ◌+◌, Bool, true, false, not, ◌&&◌, ◌||◌, List, [], ◌∷◌, Option, Some, None, refl, sym, subst}
use Rattle.std.specs.Prelude.{codes, if◌then◌else◌}
use Rattle.std.specs.List.{list_all, list_any}
use Rattle.std.specs.Str.{bytes_eq}
use Rattle.std.proofs.lemmas.Bool.{and_parts, and_from, or_parts, not-false}
use Rattle.sl_base.specs.declared.form.Form.TheVariants as f
use Rattle.sl_base.specs.declared.place.Place.{Place}
use Rattle.sl_specs.specs.declared.letter.Letter.{Letter}
use Rattle.sl_specs.specs.declared.letter.Letter.TheVariants as l
use Rattle.sl_specs.specs.declared.return_type.ReturnType.{ReturnType}
use Rattle.sl_specs.specs.declared.return_type.ReturnType.TheVariants as r
use Rattle.sl_syntax.specs.Tree as s
use Rattle.sl_syntax.specs.Tree.{Expr, Exprs}
use Rattle.sl_syntax.specs.Typed as t
use Rattle.sl_syntax.specs.Typed.{Function, Operands}
use Rattle.sl_typing.specs.declared.expr_type.ExprType.{ExprType}
use Rattle.sl_typing.specs.declared.expr_type.ExprType.TheVariants as types
use Rattle.sl_typing.specs.declared.scope.Scope.{Scope}
use Rattle.sl_typing.specs.declared.standing.Standing.{Standing}
use Rattle.sl_typing.specs.declared.standing.Standing.TheVariants as standing
use Rattle.sl_typing.specs.Types.{same_scalar, scalar_of, is_container}
use Rattle.sl_typing.specs.Arguments.{is_sequence, letters_take, letters_seen}
use Rattle.sl_typing.specs.Candidates.{Found, algorithm_row}
use Rattle.sl_typing.specs.TypeOf.{size, is_back_inserter, end_in_appender, appends, type_of, types_of}
use Rattle.sl_typing.specs.Sites.{site_count, inside}
use Rattle.sl_typing.specs.Faults.{standing_before, faults, faults_of_all}
use Rattle.sl_typing.specs.Order.{Deeds, stands_beside, clash, clashes, some_clash, deeds}
use Rattle.sl_typing.specs.Order.{is_still as is_still_by_names}
use Rattle.sl_typing.specs.Numbering.{Way, as_it_is, as_number, as_variable, handed, ways, letters_of, first_operand, called_algorithm, first_way, other_ways}
use Rattle.sl_typing.specs.Numbering.{typed, operands}
use Rattle.sl_model.specs.Typing.WellTypedNodes.{Node, nodes_in}
use Rattle.sl_model.specs.Typing.WellTypedOrder.{is_change, is_write, holds_change, holds_write, listed}
use Rattle.sl_well_typed.proofs.Parts.{arguments_kept, library_call_kept}
use Rattle.sl_well_typed.proofs.Rows.{gives_container}
use Rattle.sl_well_typed.proofs.AlgorithmCalls.{fine_by_name}
use Rattle.sl_typed_order.proofs.Sound.{Sound}
use Rattle.sl_typed_order.proofs.Alias.{first_plain}
use Rattle.sl_typed_order.proofs.Does.{Does}
use Rattle.sl_typed_order.proofs.Swap.{handed_does}
use Rattle.sl_typed_order.proofs.Objects.{container_has_none}
use Rattle.sl_typed_order.proofs.AlgorithmRows.{meant_is, no_output, none_gives}
use Rattle.sl_typed_order.proofs.Deeds.{expression_does}

-- what has no nodes, handed over
either_has_none : (b : Bool) (d e : t.Expr) → nodes_in d ≡ [] → nodes_in e ≡ [] → nodes_in (if b then d else e) ≡ []
either_has_none true d e h k = h
either_has_none false d e h k = k

handed_has_none : (w : Way) (u : ExprType) (d : t.Expr) → nodes_in d ≡ [] → nodes_in (handed w u d) ≡ []
unfolding nodes_in
handed_has_none as_it_is u d h = h
handed_has_none (as_number k) u d h = either_has_none (same_scalar k (scalar_of u)) d (t.convert k d) h h
handed_has_none as_variable u d h = refl

-- what `back_inserter` is given
sequence_is_container : (u : ExprType) → is_sequence u ≡ true → is_container u ≡ true
sequence_is_container (types.Container access form) h = refl
sequence_is_container u h = absurd cc

-- the first of arguments is a container
abbrev is_first_container : Scope → Exprs → Bool
is_first_container g s.none = false
is_first_container g (s.with x xs) = is_container (type_of g x)

appended_alone : (g : Scope) (xs : Exprs) → letters_take f.Vector (l.AppendedContainer ∷ []) (types_of g xs) ≡ true → is_first_container g xs ≡ true
unfolding types_of
appended_alone g s.none h = absurd cc
appended_alone g (s.with x xs) h = sequence_is_container (type_of g x) (and_parts (is_sequence (type_of g x)) _ h).0

inserted_first : (g : Scope) (b : Bool) (gives : ReturnType) (letters : List Letter) (xs : Exprs) → gives_container gives letters ≡ true
    → letters_take f.Vector (letters_seen b letters) (types_of g xs) ≡ true → is_first_container g xs ≡ true
inserted_first g true r.Appender (l.AppendedContainer ∷ []) xs k h = appended_alone g xs h
inserted_first g false r.Appender (l.AppendedContainer ∷ []) xs k h = appended_alone g xs h
inserted_first g b gives letters xs k h = absurd cc

first_has_none : (fs : List Function) (g : Scope) → Sound fs g → (n : ℕ) (ws : List Way) (xs : Exprs) → faults_of_all g n standing.Plain xs ≡ []
    → is_first_container g xs ≡ true → nodes_in (first_operand (operands g n ws xs)) ≡ []
unfolding operands
first_has_none fs g sound n ws s.none none h = absurd cc
first_has_none fs g sound n ws (s.with x xs) none h =
    handed_has_none (first_way ws) (type_of g x) (typed g n x) (container_has_none fs g sound (none_gives g) n x (first_plain g n x xs none) h)

-- a call of `back_inserter`
found_has_none : (fs : List Function) (g : Scope) → Sound fs g → (n : ℕ) (name : List ℕ) (xs : Exprs) → faults_of_all g n standing.Plain xs ≡ []
    → bytes_eq name (codes "back_inserter") ≡ true → (b : Bool) (o : Option Found) → algorithm_row b name (types_of g xs) ≡ o
    → (at : Place) (site : Option ℕ) (told : List (Option ℕ))
    → nodes_in (called_algorithm o b name at site told (operands g n (ways (letters_of o)) xs)) ≡ []
unfolding nodes_in
found_has_none fs g sound n name xs none same b None e at site told = refl
found_has_none fs g sound n name xs none same b (Some x) e at site told =
    let row = x.row in
    let is = meant_is b name (types_of g xs) x e in
    let any = fine_by_name row name is.algorithm is.called.text in
    let fine : gives_container row.gives row.letters ≡ true = rw same at any in
    let first = first_has_none fs g sound n (ways row.letters) xs none (inserted_first g b row.gives row.letters xs fine is.takes) in rw same first

inserter_has_none : (fs : List Function) (g : Scope) → Sound fs g → (n : ℕ) (how : Standing) (x : Expr) → faults g n how x ≡ []
    → is_back_inserter x ≡ true → nodes_in (typed g n x) ≡ []
unfolding typed operands
inserter_has_none fs g sound n how (s.library_call f xs) none is =
    let out = no_output f.name (size xs) (codes "back_inserter") is refl in
    let k = inside g n (s.library_call f xs) in
    let plain = subst (λ (b : Bool). faults_of_all g k (if b then standing.Output else standing.Plain) xs ≡ []) out
    (library_call_kept g n how f xs none).0 in
    found_has_none fs g sound k f.name xs plain is (appends f.name xs) (algorithm_row (appends f.name xs) f.name (types_of g xs)) refl f.place _ _
inserter_has_none fs g sound n how x none is = absurd cc

-- what stands beside such a call does nothing
denied : (b c : Bool) → (not b || c) ≡ true → c ≡ false → b ≡ false
denied true c h k = absurd cc
denied false c h k = refl

inserter_moves : (g : Scope) (names : List (List ℕ)) (calls : Bool) (x : Expr) → is_back_inserter x ≡ true → is_still_by_names g names calls x ≡ false
unfolding is_still_by_names
inserter_moves g names calls (s.library_call f xs) is = refl
inserter_moves g names calls x is = absurd cc

abbrev IsIdle : Deeds → Type 0
IsIdle d = (d.changes ≡ false) × (d.writes ≡ false)

beside_inserter : (g : Scope) (x y : Expr) → is_back_inserter y ≡ true → clash g x y ≡ false → IsIdle (deeds g x)
beside_inserter g x y is apart =
    let d = deeds g x in
    let both = and_parts (stands_beside g d y) (stands_beside g (deeds g y) x) (not-false (stands_beside g d y && stands_beside g (deeds g y) x) apart) in
    let parts = and_parts (not d.changes || is_still_by_names g d.changed false y) (not d.writes || is_still_by_names g d.changed true y) both.0 in (
      denied d.changes (is_still_by_names g d.changed false y) parts.0 (inserter_moves g d.changed false y is),
      denied d.writes (is_still_by_names g d.changed true y) parts.1 (inserter_moves g d.changed true y is),
    )

only_one : (b : Bool) → (b || false) ≡ true → b ≡ true
only_one true k = refl
only_one false k = k

before_inserter : (g : Scope) (x : Expr) (ys : Exprs) → end_in_appender ys ≡ true → clashes g x ys ≡ false → IsIdle (deeds g x)
before_inserter g x s.none end apart = absurd cc
before_inserter g x (s.with y s.none) end apart =
    beside_inserter g x y (only_one (is_back_inserter y) end) (or_parts (clash g x y) false apart).0
before_inserter g x (s.with y (s.with z zs)) end apart =
    before_inserter g x (s.with z zs) end (or_parts (clash g x y) (clashes g x (s.with z zs)) apart).1

-- so no operand of a call that appends does anything
abbrev pub is_idle : t.Expr → Bool
is_idle e = not (holds_change e || holds_write e)

no_nodes_idle : (e : t.Expr) → nodes_in e ≡ [] → is_idle e ≡ true
no_nodes_idle e h =
    subst (λ (xs : List Node). not (list_any is_change xs || list_any is_write xs) ≡ true) (sym h) refl

deeds_idle : (fs : List Function) (g : Scope) (d : Deeds) (e : t.Expr) → Does fs g d (nodes_in e) → IsIdle d → is_idle e ≡ true
deeds_idle fs g d e does idle = let changes = does.changes idle.0 in let writes = does.writes idle.1 in rw (changes, writes) refl

pub all_idle : (fs : List Function) (g : Scope) → Sound fs g → (n : ℕ) (last : Standing) (ws : List Way) (xs : Exprs) → faults_of_all g n last xs ≡ []
    → end_in_appender xs ≡ true → some_clash g xs ≡ false → list_all is_idle (listed (operands g n ws xs)) ≡ true
unfolding operands
all_idle fs g sound n last ws s.none none end apart = absurd cc
all_idle fs g sound n last ws (s.with x s.none) none end apart =
    let inserter = only_one (is_back_inserter x) end in
    let bare = inserter_has_none fs g sound n last x (arguments_kept g n last x s.none none).0 inserter in
    and_from (is_idle (handed (first_way ws) (type_of g x) (typed g n x))) true
    (no_nodes_idle (handed (first_way ws) (type_of g x) (typed g n x)) (handed_has_none (first_way ws) (type_of g x) (typed g n x) bare)) refl
all_idle fs g sound n last ws (s.with x (s.with y ys)) none end apart =
    let kept = arguments_kept g n last x (s.with y ys) none in
    let parts = or_parts (clashes g x (s.with y ys)) (some_clash g (s.with y ys)) apart in
    let d = handed (first_way ws) (type_of g x) (typed g n x) in
    let does = handed_does fs g (deeds g x) (first_way ws) (type_of g x) (typed g n x)
    (expression_does fs g sound n (standing_before (s.with y ys) last) x kept.0) in
    and_from (is_idle d) (list_all is_idle (listed (operands g (n + site_count g x) (other_ways ws) (s.with y ys))))
    (deeds_idle fs g (deeds g x) d does (before_inserter g x (s.with y ys) end parts.0))
    (all_idle fs g sound (n + site_count g x) last (other_ways ws) (s.with y ys) kept.1 end parts.1)
