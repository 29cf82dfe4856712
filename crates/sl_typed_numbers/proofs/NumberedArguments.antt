-- The sites of arguments: each argument that is handed over keeps its sites, since a variable itself is a plain name.
use Rattle.std.proofs.Common.{◌≡◌, ℕ, ◌+◌, Bool, true, false, List, [], ◌∷◌, ◌++◌, length, map, Option, Some, None}
use Rattle.std.proofs.Common.{refl, ◌∙◌, ap, subst, arith}
use Rattle.std.specs.Prelude.{◌&&◌, if◌then◌else◌}
use Rattle.std.specs.List.{list_all, filter_map}
use Rattle.std.proofs.lemmas.Bool.{and_from, and_parts, cond_both}
use Rattle.std.proofs.lemmas.List.{append-nil}
use Rattle.std.proofs.lemmas.List.Elements.{filter_map-append}
use Rattle.std.proofs.lemmas.List.Folds.{list_all-append}
use Rattle.sl_base.specs.declared.form.Form.TheVariants as f
use Rattle.sl_base.specs.declared.place.Place.{Place}
use Rattle.sl_specs.specs.declared.letter.Letter.{Letter}
use Rattle.sl_specs.specs.declared.letter.Letter.TheVariants as l
use Rattle.sl_specs.specs.declared.return_type.ReturnType.{ReturnType}
use Rattle.sl_specs.specs.declared.return_type.ReturnType.TheVariants as r
use Rattle.sl_syntax.specs.declared.typed.parameter.ParameterKind.{ParameterKind}
use Rattle.sl_syntax.specs.declared.typed.parameter.ParameterKind.TheVariants as parameters
use Rattle.sl_syntax.specs.Tree as s
use Rattle.sl_syntax.specs.Tree.{Expr, Exprs}
use Rattle.sl_syntax.specs.Typed as t
use Rattle.sl_syntax.specs.Typed.{Operands}
use Rattle.sl_typing.specs.declared.expr_type.ExprType.{ExprType}
use Rattle.sl_typing.specs.declared.scope.FunctionHead.{FunctionHead}
use Rattle.sl_typing.specs.declared.scope.Scope.{Scope}
use Rattle.sl_typing.specs.Arguments.{letters_take, letters_seen}
use Rattle.sl_typing.specs.Scopes.{type_of_name, number_of_name, label_of_name}
use Rattle.sl_typing.specs.TypeOf.{type_of, types_of}
use Rattle.sl_typing.specs.Looks.{is_plain, place_of}
use Rattle.sl_typing.specs.Order.{parameters_of}
use Rattle.sl_typing.specs.Sites.{site_count, sites_in, is_site, at_word, inside, own_site}
use Rattle.sl_typing.specs.WrongType.{first_is_plain, fits_parameter, fit_parameters, fits_call, is_exactly}
use Rattle.sl_typing.specs.Numbering.{Way, as_it_is, as_number, as_variable, handed, letter_ways, ways, parameter_way, first_way, other_ways}
use Rattle.sl_typing.specs.Numbering.{label_in, variable, first_operand, other_operands, typed, operands}
use Rattle.sl_model.specs.Typing.WellTypedNodes.{Node, nodes_in, nodes_in_left, nodes_in_operands}
use Rattle.sl_model.specs.Typing.WellTypedNumbers.{site_in}
use Rattle.sl_well_typed.proofs.Rows.{gives_container}
use Rattle.sl_typed_numbers.proofs.NumberedNodes.{Numbers, none_number, converted_numbers, variable_is_none}
use Rattle.sl_typed_numbers.proofs.Upto.{upto}

-- an expression without sites
pub none_counted : (g : Scope) (n : ℕ) (x : Expr) → sites_in g x ≡ [] → n + site_count g x ≡ n
unfolding site_count
none_counted g n x none = let e : length (sites_in g x) ≡ 0 = ap (λ (l : List Place). length l) none in omega arith

pub plain_has_none : (g : Scope) (x : Expr) → is_plain x ≡ true → sites_in g x ≡ []
unfolding sites_in
plain_has_none g (s.name x) plain = refl
plain_has_none g x plain = absurd cc

-- a node that is no site
no_site : (is : Bool) (at : Place) → is ≡ false → length (if is then at ∷ [] else []) ≡ 0
no_site false at h = refl
no_site true at h = absurd cc

pub inside_is_word : (g : Scope) (n : ℕ) (e : Expr) → is_site g e ≡ false → inside g n e ≡ at_word g n e
unfolding inside own_site
inside_is_word g n e none = let l : length (own_site g e) ≡ 0 = no_site (is_site g e) (place_of e) none in omega arith

-- a way in which no variable itself is handed over
abbrev pub is_value : Way → Bool
is_value as_variable = false
is_value w = true

letter_is_value : (letter : Letter) → list_all is_value (letter_ways letter) ≡ true
letter_is_value l.Count = refl
letter_is_value l.Element = refl
letter_is_value l.Key = refl
letter_is_value l.Distance = refl
letter_is_value l.OptionalDistance = refl
letter_is_value letter = refl

-- so it is in calls of the library
pub ways_are_values : (letters : List Letter) → list_all is_value (ways letters) ≡ true
ways_are_values [] = refl
ways_are_values (letter ∷ rest) =
    list_all-append is_value (letter_ways letter) (ways rest)
    ∙ and_from (list_all is_value (letter_ways letter)) (list_all is_value (ways rest)) (letter_is_value letter) (ways_are_values rest)

-- an argument that is handed over in a way keeps its sites
abbrev pub keeps : Way → Expr → Bool
keeps as_variable x = is_plain x
keeps w x = true

abbrev pub all_keep : List Way → Exprs → Bool
all_keep ws s.none = true
all_keep ws (s.with x xs) = keeps (first_way ws) x && all_keep (other_ways ws) xs

pub value_keeps : (w : Way) (x : Expr) → is_value w ≡ true → keeps w x ≡ true
value_keeps as_it_is x h = refl
value_keeps (as_number type) x h = refl
value_keeps as_variable x h = absurd cc

pub first_is_value : (ws : List Way) → list_all is_value ws ≡ true → is_value (first_way ws) ≡ true
first_is_value [] h = refl
first_is_value (w ∷ ws) h = (and_parts (is_value w) (list_all is_value ws) h).0

others_are_values : (ws : List Way) → list_all is_value ws ≡ true → list_all is_value (other_ways ws) ≡ true
others_are_values [] h = refl
others_are_values (w ∷ ws) h = (and_parts (is_value w) (list_all is_value ws) h).1

pub values_keep : (ws : List Way) (xs : Exprs) → list_all is_value ws ≡ true → all_keep ws xs ≡ true
values_keep ws s.none h = refl
values_keep ws (s.with x xs) h =
    and_from (keeps (first_way ws) x) (all_keep (other_ways ws) xs) (value_keeps (first_way ws) x (first_is_value ws h))
    (values_keep (other_ways ws) xs (others_are_values ws h))

-- and those of a call of the program's own that fits
parameter_keeps : (g : Scope) (k : ParameterKind) (x : Expr) → fits_parameter g k x ≡ true → keeps (parameter_way k) x ≡ true
parameter_keeps g (parameters.Value type) x h = refl
parameter_keeps g (parameters.Reference type) x h = (and_parts (is_plain x) (is_exactly type (type_of g x)) h).0
parameter_keeps g (parameters.Container access form) x h = refl
parameter_keeps g (parameters.Iterator b form) x h = refl

parameters_keep : (g : Scope) (ks : List ParameterKind) (xs : Exprs) → fit_parameters g ks xs ≡ true → all_keep (map parameter_way ks) xs ≡ true
parameters_keep g ks s.none h = refl
parameters_keep g [] (s.with x xs) h = values_keep [] (s.with x xs) refl
parameters_keep g (k ∷ ks) (s.with x xs) h =
    let parts = and_parts (fits_parameter g k x) (fit_parameters g ks xs) h in
    and_from (keeps (parameter_way k) x) (all_keep (map parameter_way ks) xs) (parameter_keeps g k x parts.0) (parameters_keep g ks xs parts.1)

pub own_call_keeps : (g : Scope) (o : Option FunctionHead) (xs : Exprs) → fits_call g o xs ≡ true
    → all_keep (map parameter_way (parameters_of o)) xs ≡ true
own_call_keeps g None xs h = values_keep [] xs refl
own_call_keeps g (Some k) xs h = parameters_keep g k.parameters xs h

-- what is handed over
pub handed_numbers : (g : Scope) (n : ℕ) (w : Way) (u : ExprType) (x : Expr) (e : t.Expr) → keeps w x ≡ true
    → Numbers n (n + site_count g x) (nodes_in e)
    → Numbers n (n + site_count g x) (nodes_in (handed w u e))
unfolding nodes_in nodes_in_left nodes_in_operands
handed_numbers g n as_it_is u x e keep h = h
handed_numbers g n (as_number type) u x e keep h = converted_numbers n (n + site_count g x) type u e h
handed_numbers g n as_variable u x e keep h = none_number n (n + site_count g x) [] (none_counted g n x (plain_has_none g x keep)) refl

-- behind nodes without sites
behind_none : (n m : ℕ) (xs ys : List Node) → filter_map site_in xs ≡ [] → Numbers n m (xs ++ ys) → Numbers n m ys
behind_none n m xs ys none h =
    h ∙ ap (λ (l : List ℕ). upto n ++ l) (filter_map-append site_in xs ys ∙ ap (λ (l : List ℕ). l ++ filter_map site_in ys) none)

handed_is_none : (w : Way) (u : ExprType) (e : t.Expr) → filter_map site_in (nodes_in e) ≡ [] → filter_map site_in (nodes_in (handed w u e)) ≡ []
unfolding nodes_in nodes_in_left nodes_in_operands
handed_is_none as_it_is u e h = h
handed_is_none (as_number type) u e h = cond_both _ e (t.convert type e) (λ (d : t.Expr). filter_map site_in (nodes_in d) ≡ []) (λ k. h) (λ k. h)
handed_is_none as_variable u e h = refl

-- what `advance` is given behind its variable
pub others_number : (g : Scope) (n m : ℕ) (ws : List Way) (xs : Exprs) → first_is_plain xs ≡ true
    → Numbers n m (nodes_in_operands (operands g n ws xs))
    → Numbers n m (nodes_in_operands (other_operands (operands g n ws xs)))
unfolding operands typed nodes_in_operands
others_number g n m ws s.none plain h = absurd cc
others_number g n m ws (s.with (s.name x) xs) plain h =
    let u = type_of g (s.name x) in
    let e = variable (type_of_name g x.name) (number_of_name g x.name) x.place (label_in (label_of_name g x.name)) in
    behind_none n m (nodes_in (handed (first_way ws) u e)) _
    (handed_is_none (first_way ws) u e (variable_is_none (type_of_name g x.name) _ x.place _)) h
others_number g n m ws (s.with x xs) plain h = absurd cc

-- the one argument of `back_inserter`
pub single_numbers : (g : Scope) (n m : ℕ) (ws : List Way) (xs : Exprs) (b : Bool) (gives : ReturnType) (letters : List Letter)
    → gives_container gives letters ≡ true → letters_take f.Vector (letters_seen b letters) (types_of g xs) ≡ true
    → Numbers n m (nodes_in_operands (operands g n ws xs)) → Numbers n m (nodes_in (first_operand (operands g n ws xs)))
unfolding types_of operands nodes_in_operands
single_numbers g n m ws s.none true r.Appender (l.AppendedContainer ∷ []) gives take h = absurd cc
single_numbers g n m ws s.none false r.Appender (l.AppendedContainer ∷ []) gives take h = absurd cc
single_numbers g n m ws (s.with x s.none) b r.Appender (l.AppendedContainer ∷ []) gives take h =
    subst (λ (l : List Node). Numbers n m l) (append-nil (nodes_in (handed (first_way ws) (type_of g x) (typed g n x)))) h
single_numbers g n m ws (s.with x (s.with y xs)) true r.Appender (l.AppendedContainer ∷ []) gives take h =
    let parts = and_parts _ false take in absurd cc
single_numbers g n m ws (s.with x (s.with y xs)) false r.Appender (l.AppendedContainer ∷ []) gives take h =
    let parts = and_parts _ false take in absurd cc
single_numbers g n m ws xs b gives letters k take h = absurd cc
