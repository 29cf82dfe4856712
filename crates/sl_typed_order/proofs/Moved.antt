-- The variables that `++` and `--` change.
use Rattle.std.proofs.Common.{◌≡◌, ℕ, Bool, true, false, ◌&&◌, List, [], ◌∷◌, Option, Some, None, refl, sym, subst}
use Rattle.std.specs.Prelude.{is_none}
use Rattle.std.proofs.lemmas.Bool.{and_parts, not-false}
use Rattle.sl_base.specs.declared.place.Place.{Place}
use Rattle.sl_base.specs.declared.form.Form.{Form}
use Rattle.sl_specs.specs.declared.return_type.ReturnType.{ReturnType}
use Rattle.sl_specs.specs.declared.return_type.ReturnType.TheVariants as r
use Rattle.sl_syntax.specs.declared.operator.BinaryOperator.{BinaryOperator}
use Rattle.sl_syntax.specs.declared.operator.BinaryOperator.TheVariants as b
use Rattle.sl_syntax.specs.declared.operator.PrefixOperator.TheVariants as p
use Rattle.sl_syntax.specs.declared.operator.Selector.TheVariants as l
use Rattle.sl_syntax.specs.declared.typed.head.Head.{Head}
use Rattle.sl_syntax.specs.declared.typed.parameter.ParameterKind.{ParameterKind}
use Rattle.sl_syntax.specs.declared.typed.parameter.ParameterKind.TheVariants as parameters
use Rattle.sl_syntax.specs.Tree as s
use Rattle.sl_syntax.specs.Tree.{Expr, Exprs}
use Rattle.sl_syntax.specs.Typed.{Operands}
use Rattle.sl_typing.specs.declared.expr_type.ExprType.{ExprType}
use Rattle.sl_typing.specs.declared.expr_type.ExprType.TheVariants as types
use Rattle.sl_typing.specs.declared.scope.FunctionHead.{FunctionHead}
use Rattle.sl_typing.specs.declared.scope.Scope.{Scope}
use Rattle.sl_typing.specs.declared.standing.Standing.{Standing}
use Rattle.sl_typing.specs.declared.standing.Standing.TheVariants as standing
use Rattle.sl_typing.specs.Types.{is_const, is_number, is_iterator, is_container, is_element}
use Rattle.sl_typing.specs.Signatures.{result_type}
use Rattle.sl_typing.specs.Candidates.{Found, member_row, subscript_row}
use Rattle.sl_typing.specs.Scopes.{sort_of, type_of_name, number_of_name, function_named}
use Rattle.sl_typing.specs.TypeOf.{is_part_name, arithmetic_type, binary_type, member_type, own_type, type_given, is_first, part_type, type_of_use, type_of, types_of}
use Rattle.sl_typing.specs.Looks.{is_left_side, is_plain, bare_name}
use Rattle.sl_typing.specs.Sites.{inside}
use Rattle.sl_typing.specs.WrongType.{fits_algorithm, has_parts, wrong_type}
use Rattle.sl_typing.specs.Rules.{has_no_subscript, no_such_call}
use Rattle.sl_typing.specs.Faults.{part_standing, faults}
use Rattle.sl_typing.specs.Order.{moved_names}
use Rattle.sl_typing.specs.Numbering.{number_in, left_of, part_of, row_call, called_row, letters_of, ways, row_of_subscript, row_of_member, variable}
use Rattle.sl_typing.specs.Numbering.{typed, operands}
use Rattle.sl_model.specs.Typing.WellTypedOrder.{Variable, the_container, the_iterator, object_in, variable_of}
use Rattle.sl_well_typed.proofs.Parts.{library_call_kept, index_kept, member_call_kept, member_kept}
use Rattle.sl_well_typed.proofs.Rows.{gives_own, gives_element}
use Rattle.sl_well_typed.proofs.AlgorithmTypes.{stands_alone, algorithm_stands}
use Rattle.sl_typed_order.proofs.Numbered.{AllNumbered, variable_of_sort}
use Rattle.sl_typed_order.proofs.Covers.{is_reference_type, Covers, covers_none, covers_names, covers_reference}
use Rattle.sl_typed_order.proofs.QuietRows.{member_row_is}
use Rattle.sl_typed_order.proofs.Still.{value_no_element}
use Rattle.sl_typed_order.proofs.FormRows.{form_row, subscript_row_is}
use Rattle.sl_typed_order.proofs.Containers.{bare_known}

-- a name
name_moved : (u : ExprType) (n : ℕ) (at : Place) (label : ℕ) → is_number (type_of_use u) ≡ true
    → variable_of (left_of (variable u n at label)) ≡ variable_of_sort (sort_of u) n ∷ []
name_moved (types.Iterator k x) n at label h = absurd cc
name_moved (types.Container access form) n at label h = absurd cc
name_moved (types.EntryReference w) n at label h = absurd cc
name_moved u n at label h = refl

iterator_moved : (u : ExprType) (n : ℕ) (at : Place) (label : ℕ) → is_iterator (type_of_use u) ≡ true
    → the_iterator (number_in (variable u n at label)) ≡ variable_of_sort (sort_of u) n
iterator_moved (types.Iterator k x) n at label h = refl
iterator_moved u n at label h = absurd cc

pub iterator_covers : (g : Scope) → AllNumbered g → (n : ℕ) (how : Standing) (x : Expr) → faults g n how x ≡ [] → is_plain x ≡ true
    → is_iterator (type_of g x) ≡ true → Covers g (bare_name x) (the_iterator (number_in (typed g n x)) ∷ [])
unfolding typed operands type_of types_of
iterator_covers g h n how (s.name x) none plain is =
    subst (λ (v : Variable). Covers g (x.name ∷ []) (v ∷ [])) (sym (iterator_moved (type_of_name g x.name) (number_of_name g x.name) x.place _ is))
    (covers_names g h (x.name ∷ []) (bare_known g n how (s.name x) none))
iterator_covers g h n how x none plain is = absurd cc

-- a plain name's moved name
pub plain_moved : (x : Expr) → is_plain x ≡ true → moved_names x ≡ bare_name x
plain_moved (s.name x) h = refl
plain_moved x h = absurd cc

-- what is no element
given_no_element : (k : Option ParameterKind) → is_element (type_given k) ≡ false
given_no_element None = refl
given_no_element (Some (parameters.Value c)) = refl
given_no_element (Some (parameters.Reference c)) = refl
given_no_element (Some (parameters.Container access form)) = refl
given_no_element (Some (parameters.Iterator c form)) = refl

own_no_element : (o : Option FunctionHead) → is_element (own_type o) ≡ false
own_no_element None = refl
own_no_element (Some h) = given_no_element h.result

alone_no_element : (u : ExprType) → stands_alone u ≡ true → is_element u ≡ false
alone_no_element (types.Element w) h = absurd cc
alone_no_element u h = refl

sum_no_element : (u v : ExprType) → is_element (arithmetic_type u v) ≡ false
sum_no_element (types.Iterator k x) (types.Iterator c y) = refl
sum_no_element (types.Iterator k x) v = refl
sum_no_element u v = refl

joined_no_element : (op : BinaryOperator) (u v : ExprType) → is_element (binary_type op u v) ≡ false
joined_no_element b.Or u v = refl
joined_no_element b.And u v = refl
joined_no_element (b.Comparison op) u v = refl
joined_no_element (b.Arithmetic op) u v = sum_no_element u v

-- an element of a container
object_moved : (gives : ReturnType) (h : Head) (es : Operands) → gives_element gives ≡ true → variable_of (left_of (row_call gives h es)) ≡ object_in h
object_moved r.Element h es k = refl
object_moved gives h es k = absurd cc

element_given : (gives : ReturnType) (k : Bool) (form : Form) (us : List ExprType) → gives_own gives ≡ true
    → is_element (result_type gives k form us) ≡ true → gives_element gives ≡ true
element_given r.Element k form us own h = refl
element_given r.FirstArgument k form us own h = absurd cc
element_given r.Output k form us own h = absurd cc
element_given gives k form us own h = absurd cc

-- `[ ]`
subscript_moved : (g : Scope) (u : ExprType) (names : List (List ℕ)) (object : ℕ) → has_no_subscript u ≡ false → is_container u ≡ true
    → Covers g names (the_container object ∷ []) → (at : Place) (site : Option ℕ) (told : List (Option ℕ)) (es : Operands)
    → Covers g names (variable_of (left_of (called_row (row_of_subscript u) at site object told es)))
subscript_moved g (types.Container access form) names object has is covers at site told es = by_row (subscript_row form) refl has
  where
    by_row : (o : Option Found) → subscript_row form ≡ o → is_none o ≡ false
        → Covers g names (variable_of (left_of (called_row o at site object told es)))
    by_row None e k = absurd cc
    by_row (Some x) e k =
        let row = subscript_row_is form x e in
        subst (λ (vs : List Variable). Covers g names vs) (sym (object_moved x.row.gives _ es row.element)) covers
subscript_moved g u names object has is covers at site told es = absurd cc

-- a member call
member_moved : (g : Scope) (u : ExprType) (name : List ℕ) (us : List ExprType) (names : List (List ℕ)) (object : ℕ)
    → is_element (member_type u name us) ≡ true → (is_container u ≡ true → Covers g names (the_container object ∷ []))
    → (at : Place) (site : Option ℕ) (told : List (Option ℕ)) (es : Option Found → Operands)
    → Covers g names (variable_of (left_of (called_row (row_of_member u name us) at site object told (es (row_of_member u name us)))))
member_moved g (types.Container access form) name us names object is covers at site told es = by_row (member_row form name us) refl is
  where
    by_row : (o : Option Found) → member_row form name us ≡ o → is_element (elim o as (λ _. ExprType) [
      | None ↦ types.Wrong
      | Some x ↦ result_type x.row.gives (is_const access) form us
    ]) ≡ true → Covers g names (variable_of (left_of (called_row o at site object told (es o))))
    by_row None e k = absurd cc
    by_row (Some x) e k =
        let row = member_row_is form name us x e in
        let own = (form_row x row.there row.other).own in
        subst (λ (vs : List Variable). Covers g names vs)
        (sym (object_moved x.row.gives _ (es (Some x)) (element_given x.row.gives (is_const access) form us own k))) (covers refl)
member_moved g u name us names object is covers at site told es = absurd cc

-- a piece of the element of a range-for
entry_moved : (u : ExprType) (n : ℕ) (named at : Place) (label : ℕ) (first : Bool) → is_element (part_type (type_of_use u) first) ≡ true
    → (variable_of (left_of (part_of at first (variable u n named label))) ≡ variable_of_sort (sort_of u) n ∷ []) × (is_reference_type u ≡ true)
entry_moved (types.EntryReference w) n named at label first h = (refl, refl)
entry_moved (types.IteratorAndBool form) n named at label true h = absurd cc
entry_moved (types.IteratorAndBool form) n named at label false h = absurd cc
entry_moved u n named at label first h = absurd cc

-- only the element of a range-for over a map has parts that are elements
part_is_plain : (x : Expr) (u : ExprType) (first : Bool) → has_parts x u ≡ true → is_element (part_type u first) ≡ true → is_plain x ≡ true
part_is_plain x (types.EntryReference w) first h k = h
part_is_plain x (types.IteratorAndBool form) true h k = absurd cc
part_is_plain x (types.IteratorAndBool form) false h k = absurd cc
part_is_plain x u first h k = absurd cc

entry_covers : (g : Scope) → AllNumbered g → (n : ℕ) (how : Standing) (x : Expr) → faults g n how x ≡ [] → is_plain x ≡ true → (at : Place) (first : Bool)
    → is_element (part_type (type_of g x) first) ≡ true → Covers g [] (variable_of (left_of (part_of at first (typed g n x))))
unfolding typed operands type_of types_of
entry_covers g h n how (s.name x) none plain at first is =
    let both = entry_moved (type_of_name g x.name) (number_of_name g x.name) x.place at _ first is in
    subst (λ (vs : List Variable). Covers g [] vs) (sym both.0) (covers_reference g h [] x.name (bare_known g n how (s.name x) none).0 both.1)
entry_covers g h n how x none plain at first is = absurd cc

-- a number that is stepped
pub number_covers : (g : Scope) → AllNumbered g
    → ((n : ℕ) (x : Expr) → faults g n standing.Plain x ≡ [] → is_container (type_of g x) ≡ true → Covers g (bare_name x) (the_container (number_in (typed g n x)) ∷ []))
    → (n : ℕ) (x : Expr) → faults g n standing.Plain x ≡ [] → is_left_side g x ≡ true → is_number (type_of g x) ≡ true
    → Covers g (moved_names x) (variable_of (left_of (typed g n x)))
unfolding typed operands type_of types_of is_left_side wrong_type no_such_call
number_covers g h objects n (s.number at m) none left number = absurd cc
number_covers g h objects n (s.truth at x) none left number = absurd cc
number_covers g h objects n (s.name x) none left number =
    subst (λ (vs : List Variable). Covers g (x.name ∷ []) vs) (sym (name_moved (type_of_name g x.name) (number_of_name g x.name) x.place _ number))
    (covers_names g h (x.name ∷ []) (bare_known g n standing.Plain (s.name x) none))
number_covers g h objects n (s.call f xs) none left number = let no = own_no_element (function_named g f.name) in absurd cc
number_covers g h objects n (s.library_call f xs) none left number =
    let fits = not-false (fits_algorithm g f.name xs) (library_call_kept g n standing.Plain f xs none).1.types in
    let no = alone_no_element (type_of g (s.library_call f xs)) (algorithm_stands g f.name xs fits) in absurd cc
number_covers g h objects n (s.parentheses at x) none left number = absurd cc
number_covers g h objects n (s.prefix p.Not at x) none left number = absurd cc
number_covers g h objects n (s.prefix p.Negate at x) none left number = absurd cc
number_covers g h objects n (s.prefix p.Dereference at x) none left number = covers_none g []
number_covers g h objects n (s.prefix p.Increment at x) none left number = let no = value_no_element (type_of g x) in absurd cc
number_covers g h objects n (s.prefix p.Decrement at x) none left number = let no = value_no_element (type_of g x) in absurd cc
number_covers g h objects n (s.binary x op at y) none left number = let no = joined_no_element op (type_of g x) (type_of g y) in absurd cc
number_covers g h objects n (s.postfix x op at) none left number = let no = value_no_element (type_of g x) in absurd cc
number_covers g h objects n (s.index x at y) none left number =
    let kept = index_kept g n standing.Plain x at y none in
    let both = and_parts (is_container (type_of g x)) (is_number (type_of g y)) (not-false (is_container (type_of g x) && is_number (type_of g y)) kept.2.types) in
    subscript_moved g (type_of g x) (bare_name x) (number_in (typed g n x)) kept.2.calls both.0 (objects n x kept.0 both.0) at _ _ _
number_covers g h objects n (s.member_call x f xs) none left number =
    let kept = member_call_kept g n standing.Plain x f xs none in
    member_moved g (type_of g x) f.name (types_of g xs) (bare_name x) (number_in (typed g n x)) left (λ is. objects n x kept.0 is) f.place _ _
    (λ o. operands g (inside g n (s.member_call x f xs)) (ways (letters_of o)) xs)
number_covers g h objects n (s.member x l.Dot at f) none left number =
    let kept = member_kept g n standing.Plain x l.Dot at f none in
    let fits = and_parts (is_part_name f.name) (has_parts x (type_of g x)) (not-false (is_part_name f.name && has_parts x (type_of g x)) kept.1.types) in
    let plain = part_is_plain x (type_of g x) (is_first f.name) fits.1 left in
    entry_covers g h n (part_standing l.Dot f.name) x kept.0 plain at (is_first f.name) left
number_covers g h objects n (s.member x l.Arrow at f) none left number = covers_none g []
