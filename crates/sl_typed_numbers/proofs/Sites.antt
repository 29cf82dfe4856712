-- What can invalidate is a site, and nothing else.
use Rattle.std.proofs.Common.{◌≡◌, ℕ, Bool, true, false, List, [], ◌∷◌, length, Option, Some, None, refl, sym, subst, ap, arith, ◌∙◌}
use Rattle.std.specs.Prelude.{not, ◌&&◌, ◌||◌, codes, is_none, is_some, if◌then◌else◌}
use Rattle.std.specs.List.{list_any}
use Rattle.std.specs.Str.{bytes_eq}
use Rattle.std.proofs.lemmas.Bool.{and_parts}
use Rattle.sl_base.specs.declared.form.Form.{Form}
use Rattle.sl_base.specs.declared.form.Form.TheVariants as f
use Rattle.sl_base.specs.declared.place.Place.{Place}
use Rattle.sl_specs.specs.declared.call.Call.TheVariants as c
use Rattle.sl_specs.specs.Forms.{same_object}
use Rattle.sl_specs.specs.Rows.{Row}
use Rattle.sl_specs.specs.Table.{table, same_call}
use Rattle.sl_specs.specs.Texts.{call_text}
use Rattle.sl_syntax.specs.declared.operator.Access.{Access}
use Rattle.sl_syntax.specs.declared.operator.Assignment.TheVariants as assignments
use Rattle.sl_syntax.specs.declared.tree.identifier.Identifier.{Identifier}
use Rattle.sl_syntax.specs.declared.typed.callee.Callee.TheVariants as callees
use Rattle.sl_syntax.specs.Tree as s
use Rattle.sl_syntax.specs.Tree.{Expr, Exprs, Initializer, Stmt, Item, Items, Program}
use Rattle.sl_syntax.specs.Typed as t
use Rattle.sl_typing.specs.declared.expr_type.ExprType.{ExprType}
use Rattle.sl_typing.specs.declared.expr_type.ExprType.TheVariants as types
use Rattle.sl_typing.specs.declared.rules.TheConstants as rule
use Rattle.sl_typing.specs.declared.scope.Scope.{Scope}
use Rattle.sl_typing.specs.declared.standing.Standing.{Standing}
use Rattle.sl_typing.specs.Types.{same_answer, is_element, is_container}
use Rattle.sl_typing.specs.Signatures.{row_at}
use Rattle.sl_typing.specs.Arguments.{letters_take, letters_seen, takes_count, takes_list}
use Rattle.sl_typing.specs.Candidates.{Found, is_candidate, is_called, is_named, is_row_of, is_constructor_of, member_row, algorithm_row}
use Rattle.sl_typing.specs.Candidates.{subscript_row}
use Rattle.sl_typing.specs.Candidates.{assignment_row, list_constructor, constructor_row, end_in_output, has_output, row_kills}
use Rattle.sl_typing.specs.Contexts.{Context, started}
use Rattle.sl_typing.specs.Scopes.{type_of_name}
use Rattle.sl_typing.specs.TypeOf.{size, appends, end_in_appender, type_of, types_of}
use Rattle.sl_typing.specs.Looks.{is_plain, is_left_side, bare_name}
use Rattle.sl_typing.specs.Sites.{behind, is_site, is_member_site, is_subscript_site, at_word, site_number, is_assignment_site, declares_container}
use Rattle.sl_typing.specs.WrongType.{wrong_type, fits_member, is_iterator_pair, is_before_part, second_may_be_element, takes_value, wrong_assignment}
use Rattle.sl_typing.specs.Faults.{broken, own_faults}
use Rattle.sl_typing.specs.Flow.{after_functions, after_item, after_items}
use Rattle.sl_typing.specs.StatementFaults.{effect_faults}
use Rattle.sl_typing.specs.ProgramFaults.{start}
use Rattle.sl_typing.specs.Numbering.{row_of_subscript, row_of_member}
use Rattle.sl_typing.specs.StatementNumbering.{assignment_number, brace_number, making_row, number_of_row, declared_auto, bound, typed_expr}
use Rattle.sl_typing.specs.StatementNumbering.{typed_stmt, typed_item, typed_items}
use Rattle.sl_typing.specs.Typing as typing
use Rattle.sl_typing.specs.Typing.{typed_program}
use Rattle.sl_model.specs.Typing.WellTypedNodes.{has_container}
use Rattle.sl_model.specs.Typing.WellTypedNumbers.{has_due_site, row_kills as kills_at, is_site as is_call_site}
use Rattle.sl_model.specs.Typing.WellTyped.{has_sites}
use Rattle.sl_number_limits.proofs.Lists.{parts, not_broken}
use Rattle.sl_number_limits.proofs.Functions.{start_fits}
use Rattle.sl_number_limits.proofs.Programs.{functions_break_none}
use Rattle.sl_well_typed.proofs.Arguments.{as_many_types}
use Rattle.sl_well_typed.proofs.Parts.{own_kept}
use Rattle.sl_well_typed.proofs.Rows.{found_row, some_row, row_is_fine, is_fine, is_member_fine, is_subscript_fine, is_algorithm_fine}
use Rattle.sl_well_typed.proofs.Rows.{is_output_fine, is_output_given, has_name, output_names}
use Rattle.sl_typed_numbers.proofs.Nodes.{Passes}
use Rattle.sl_typed_numbers.proofs.StatementNodes.{PassesText}
use Rattle.sl_typed_numbers.proofs.Names.{functions_pass}
use Rattle.sl_typed_numbers.proofs.Same.{same_text}
use Rattle.sl_typed_numbers.proofs.Killing.{algorithm_kills_none, assignment_kills, constructor_kills_none, member_kills_as}

-- a site stands where one is due
answered : (b is : Bool) (k : ℕ) → b ≡ is → same_answer b (is_some (if is then Some k else None)) ≡ true
answered true true k h = refl
answered false false k h = refl
answered true false k h = absurd cc
answered false true k h = absurd cc

-- of a row of the table
due : (n : ℕ) (row : Row) (is : Bool) (k : ℕ) → row_at n ≡ Some row → row_kills row ≡ is
    → same_answer (is_call_site (callees.Row n)) (is_some (if is then Some k else None)) ≡ true
due n row is k there same =
    subst (λ (o : Option Row). same_answer (kills_at o) (is_some (if is then Some k else None)) ≡ true) (sym there)
    (answered (row_kills row) is k same)

-- no site
not_due : (n : ℕ) (row : Row) → row_at n ≡ Some row → row_kills row ≡ false → same_answer (is_call_site (callees.Row n)) false ≡ true
not_due n row there same = due n row false 0 there same

-- a row's place, and whether it can invalidate
record Kills (x : Found) (is : Bool) : Type 0 where
  there : row_at x.number ≡ Some x.row
  same : row_kills x.row ≡ is

-- `[ ]`
of_row : (o : Option Found) (x : Found) → o ≡ Some x → row_kills x.row ≡ (elim o as (λ _. Bool) [ None ↦ false | Some y ↦ row_kills y.row ])
of_row None x e = absurd cc
of_row (Some y) x e = let same : y ≡ x = cc in ap (λ (z : Found). row_kills z.row) (sym same)

subscript_kills_as : (u : ExprType) (x : Found) → row_of_subscript u ≡ Some x → Kills x (is_subscript_site u)
subscript_kills_as (types.Container access form) x e =
    record { there = (found_row (is_row_of form c.Subscript) x e).there; same = of_row (subscript_row form) x e }
subscript_kills_as u x e = absurd cc

subscript_due : (g : Scope) (n : ℕ) (x : Expr) (at : Place) (y : Expr) (w : Found) → row_of_subscript (type_of g x) ≡ Some w
    → same_answer (is_call_site (callees.Row w.number)) (is_some (site_number g n (s.index x at y))) ≡ true
unfolding site_number is_site
subscript_due g n x at y w e =
    let k = subscript_kills_as (type_of g x) w e in
    due w.number w.row (is_subscript_site (type_of g x)) (at_word g n (s.index x at y)) k.there k.same

-- member calls
member_kills_here : (g : Scope) (u : ExprType) (name : List ℕ) (xs : Exprs) (x : Found) → row_of_member u name (types_of g xs) ≡ Some x
    → Kills x (is_member_site u name (size xs))
member_kills_here g (types.Container access form) name xs x e =
    let us = types_of g xs in
    let found = found_row (λ r. is_candidate (Some form) name (length us) r && letters_take form r.letters us) x e in
    let candidate = (and_parts (is_candidate (Some form) name (length us) x.row) (letters_take form x.row.letters us) found.passes).0 in
    let counted = subst (λ (n : ℕ). is_candidate (Some form) name n x.row ≡ true) (as_many_types g xs) candidate in
    record { there = found.there; same = member_kills_as form name (size xs) x.number x.row found.there counted }
member_kills_here g u name xs x e = absurd cc

fits_plain : (g : Scope) (u : ExprType) (x : Expr) (name : List ℕ) (xs : Exprs) → fits_member g u x name xs ≡ true → is_plain x ≡ true
fits_plain g (types.Container access form) x name xs h =
    let row = is_none (member_row form name (types_of g xs)) in
    let own = bytes_eq name (codes "assign") && second_may_be_element g (bare_name x) form xs in
    (and_parts (is_plain x) (not row) (and_parts (is_plain x && not row) (not own) h).0).0
fits_plain g u x name xs h = absurd cc

neither : (x y : Bool) → (not x || y) ≡ false → x ≡ true
neither true y h = refl
neither false y h = absurd cc

object_is_plain : (g : Scope) (n : ℕ) (how : Standing) (x : Expr) (w : Identifier) (xs : Exprs) → own_faults g n how (s.member_call x w xs) ≡ []
    → is_plain x ≡ true
unfolding wrong_type
object_is_plain g n how x w xs none =
    let types = (own_kept g n how (s.member_call x w xs) none).types in
    fits_plain g (type_of g x) x w.name xs
    (neither (fits_member g (type_of g x) x w.name xs) (is_iterator_pair (type_of g (s.member_call x w xs)) && not (is_before_part how)) types)

and_true : (x y z : Bool) → x ≡ true → z ≡ y → z ≡ (x && y)
and_true true y z h k = k
and_true false y z h k = absurd cc

member_due : (g : Scope) (n : ℕ) (how : Standing) (x : Expr) (w : Identifier) (xs : Exprs) (o : Found)
    → own_faults g n how (s.member_call x w xs) ≡ []
    → row_of_member (type_of g x) w.name (types_of g xs) ≡ Some o
    → same_answer (is_call_site (callees.Row o.number)) (is_some (site_number g n (s.member_call x w xs))) ≡ true
unfolding site_number is_site
member_due g n how x w xs o none e =
    let k = member_kills_here g (type_of g x) w.name xs o e in
    let is = is_member_site (type_of g x) w.name (size xs) in
    due o.number o.row (is_plain x && is) (at_word g n (s.member_call x w xs)) k.there
    (and_true (is_plain x) is (row_kills o.row) (object_is_plain g n how x w xs none) k.same)

-- algorithms
record IsAlgorithmRow (name : List ℕ) (n : ℕ) (x : Found) : Type 0 where
  there : row_at x.number ≡ Some x.row
  own : same_object x.row.form None ≡ true

algorithm_found : (b : Bool) (name : List ℕ) (us : List ExprType) (x : Found) → algorithm_row b name us ≡ Some x → IsAlgorithmRow name (length us) x
algorithm_found b name us x e =
    let found = found_row (λ r. is_candidate None name (length us) r && letters_take f.Vector (letters_seen b r.letters) us) x e in
    let candidate = (and_parts (is_candidate None name (length us) x.row) (letters_take f.Vector (letters_seen b x.row.letters) us) found.passes).0 in
    let called = (and_parts (is_called None name x.row) (takes_count x.row.letters (length us)) candidate).0 in
    let two = (and_parts (same_object x.row.form None && is_named x.row.call) (bytes_eq (call_text x.row.call) name) called).0 in
    record { there = found.there; own = (and_parts (same_object x.row.form None) (is_named x.row.call) two).0 }

algorithm_due : (g : Scope) (n : ℕ) (w : Identifier) (xs : Exprs) (o : Found) → algorithm_row (appends w.name xs) w.name (types_of g xs) ≡ Some o
    → appends w.name xs ≡ false → same_answer (is_call_site (callees.Row o.number)) (is_some (site_number g n (s.library_call w xs))) ≡ true
unfolding site_number is_site
algorithm_due g n w xs o e none =
    let is = algorithm_found (appends w.name xs) w.name (types_of g xs) o e in
    due o.number o.row (appends w.name xs) (at_word g n (s.library_call w xs)) is.there
    (algorithm_kills_none o.number o.row is.there is.own ∙ sym none)

appender_due : (g : Scope) (n : ℕ) (w : Identifier) (xs : Exprs) (k : ℕ) → appends w.name xs ≡ true
    → same_answer (is_call_site (callees.Appends k)) (is_some (site_number g n (s.library_call w xs))) ≡ true
unfolding site_number is_site
appender_due g n w xs k all = answered true (appends w.name xs) (at_word g n (s.library_call w xs)) (sym all)

-- a call with the name of no algorithm with an output appends nothing
other_row : (row : Row) (word : List ℕ) → call_text row.call ≡ word → list_any (λ name. bytes_eq word name) output_names ≡ false
    → list_any (λ name. has_name name row) output_names ≡ false
other_row row word text other = subst (λ (l : List ℕ). list_any (λ name. bytes_eq l name) output_names ≡ false) (sym text) other

output_of : (b : Bool) (e out : Bool) → b ≡ true → (not b || (if e then out else not out)) ≡ true → e ≡ true → out ≡ true
output_of true true out h k l = k
output_of true false out h k l = absurd cc
output_of false e out h k l = absurd cc

output_is_fine : (row : Row) → is_fine row ≡ true → is_output_fine row ≡ true
output_is_fine row fine =
    let f4 = and_parts (is_member_fine row && is_subscript_fine row && is_algorithm_fine row && is_output_fine row) (is_output_given row) fine in
    (and_parts (is_member_fine row && is_subscript_fine row && is_algorithm_fine row) (is_output_fine row) f4.0).1

no_output : (name word : List ℕ) (n : ℕ) → name ≡ word → list_any (λ k. bytes_eq word k) output_names ≡ false → has_output name n ≡ true → ⊥
no_output name word n is none some =
    let other = some_row (λ r. is_candidate None name n r && end_in_output r.letters) some in
    let both = and_parts (is_candidate None name n other.row) (end_in_output other.row.letters) other.passes in
    let called = (and_parts (is_called None name other.row) (takes_count other.row.letters n) both.0).0 in
    let two = and_parts (same_object other.row.form None && is_named other.row.call) (bytes_eq (call_text other.row.call) name) called in
    let own = (and_parts (same_object other.row.form None) (is_named other.row.call) two.0).0 in
    let text = same_text (call_text other.row.call) name two.1 ∙ is in
    let fine = output_is_fine other.row (row_is_fine other.index other.row other.there) in
    let out = list_any (λ nm. has_name nm other.row) output_names in
    let yes = output_of (same_object other.row.form None) (end_in_output other.row.letters) out own fine both.1 in
    let no = other_row other.row word text none in
    cc

first_fails : (x y : Bool) → (x ≡ true → ⊥) → (x && y) ≡ false
first_fails true y h = absurd (h refl)
first_fails false y h = refl

pub appends_none : (word name : List ℕ) (xs : Exprs) → list_any (λ k. bytes_eq word k) output_names ≡ false → bytes_eq name word ≡ true
    → appends name xs ≡ false
appends_none word name xs other is =
    first_fails (has_output name (size xs)) (end_in_appender xs) (no_output name word (size xs) (same_text name word is) other)

-- the nodes of expressions have the sites that are due
sites_pass : (g : Scope) → Passes has_due_site g
sites_pass g = record {
  literals = λ z. refl;
  own_calls = λ k es. refl;
  operators = λ d e. refl;
  steps = λ x. refl;
  uses = λ at name known. refl;
  iterators = λ op at names es are. refl;
  subscripts = λ n how x at y o object es none found. subscript_due g n x at y o found;
  members = λ n how x w xs o object es none found. member_due g n how x w xs o none found;
  algorithms = λ n how w xs o es none found other. algorithm_due g n w xs o found other;
  advances = λ n how w xs o es none found name. algorithm_due g n w xs o found (appends_none (codes "advance") w.name xs refl name);
  appenders = λ n how w xs o es none found all. appender_due g n w xs o.number all;
}

-- the `=` of containers
left_is_plain : (g : Scope) (x : Expr) (access : Access) (form : Form) → is_left_side g x ≡ true → type_of g x ≡ types.Container access form
    → is_plain x ≡ true
unfolding is_left_side
left_is_plain g (s.name x) access form left is = refl
left_is_plain g (s.parentheses at x) access form left is = absurd cc
left_is_plain g e access form left is = let none = ap is_element is in absurd cc

both_true : (x y : Bool) → not (x && y) ≡ false → x ≡ true
both_true true y h = refl
both_true false y h = absurd cc

left_side_stands : (g : Context) (x : Expr) (at : Place) (y : Expr) → effect_faults g (s.assigns x assignments.Set at y) ≡ []
    → is_left_side g.scope x ≡ true
unfolding wrong_assignment
left_side_stands g x at y none =
    let wrong : broken (wrong_assignment g.scope x assignments.Set y) at rule.WRONG_TYPE ≡ [] = search parts in
    both_true (is_left_side g.scope x) (takes_value assignments.Set (type_of g.scope x) (type_of g.scope y))
    (not_broken (wrong_assignment g.scope x assignments.Set y) at rule.WRONG_TYPE wrong)

assignment_is_site : (g : Scope) (x : Expr) (access : Access) (form : Form) → is_plain x ≡ true → type_of g x ≡ types.Container access form
    → is_assignment_site g x assignments.Set ≡ true
assignment_is_site g x access form plain is = and_of (is_plain x) (is_container (type_of g x)) plain (ap is_container is)
  where
    and_of : (a b : Bool) → a ≡ true → b ≡ true → (a && b) ≡ true
    and_of true b h k = k
    and_of false b h k = absurd cc

assignment_due : (g : Context) (x : Expr) (at : Place) (y : Expr) (access : Access) (form : Form) (o : Found)
    → effect_faults g (s.assigns x assignments.Set at y) ≡ [] → type_of g.scope x ≡ types.Container access form → assignment_row form ≡ Some o
    → same_answer (is_call_site (callees.Row o.number)) (is_some (assignment_number (behind g x) x assignments.Set)) ≡ true
assignment_due g x at y access form o none is found =
    let row = found_row (is_row_of form c.Assignment) o found in
    let called = (and_parts (same_object o.row.form (Some form)) (same_call o.row.call c.Assignment) row.passes).1 in
    let site = assignment_is_site g.scope x access form (left_is_plain g.scope x access form (left_side_stands g x at y none) is) is in
    due o.number o.row (is_assignment_site g.scope x assignments.Set) (length (behind g x).sites) row.there
    (assignment_kills o.number o.row row.there called ∙ sym site)

-- constructors
constructor_due : (test : Row → Bool) (form : Form) (o : Option Found) → ((x : Found) → o ≡ Some x → row_at x.number ≡ Some x.row)
    → ((x : Found) → o ≡ Some x → is_row_of form c.Constructor x.row ≡ true) → same_answer (is_call_site (callees.Row (number_of_row o))) false ≡ true
unfolding table
constructor_due test form None there is = refl
constructor_due test form (Some x) there is =
    let called = (and_parts (same_object x.row.form (Some form)) (same_call x.row.call c.Constructor) (is x refl)).1 in
    not_due x.number x.row (there x refl) (constructor_kills_none x.number x.row (there x refl) called)

made_of : (form : Form) (us : List ExprType) → same_answer (is_call_site (callees.Row (number_of_row (constructor_row form us)))) false ≡ true
made_of form us =
    let test = λ (r : Row). is_constructor_of form (length us) r && letters_take form r.letters us in
    constructor_due test form (constructor_row form us) (λ x e. (found_row test x e).there)
    (λ x e.
    let one = (and_parts (is_constructor_of form (length us) x.row) (letters_take form x.row.letters us) (found_row test x e).passes).0 in
    (and_parts (is_row_of form c.Constructor x.row) (takes_count x.row.letters (length us)) one).0)

made_of_list : (form : Form) → same_answer (is_call_site (callees.Row (number_of_row (list_constructor form)))) false ≡ true
made_of_list form =
    let test = λ (r : Row). is_row_of form c.Constructor r && takes_list r.letters in
    constructor_due test form (list_constructor form) (λ x e. (found_row test x e).there)
    (λ x e. (and_parts (is_row_of form c.Constructor x.row) (takes_list x.row.letters) (found_row test x e).passes).0)

making_due : (g : Context) (form : Form) (made : Initializer)
    → same_answer (is_call_site (callees.Row (number_of_row (making_row g form made)))) false ≡ true
making_due g form s.absent = made_of form []
making_due g form (s.copies x) = made_of form (type_of_name g.scope x.name ∷ [])
making_due g form (s.braces equal s.none) = made_of form []
making_due g form (s.braces equal (s.with x xs)) = made_of_list form
making_due g form (s.arguments xs) = made_of form (types_of g.scope xs)

-- closing braces: a typed block declares a container where the block does
auto_makes_none : (u : ExprType) (e : t.Expr) (rest : t.Stmts) → has_container (t.followed (t.declares (declared_auto u e)) rest) ≡ has_container rest
auto_makes_none (types.Iterator b form) e rest = refl
auto_makes_none u e rest = refl

bound_makes_none : (e : t.Expr) (rest : t.Stmts) → has_container (t.followed (t.declares (bound e)) rest) ≡ has_container rest
bound_makes_none (t.held (t.element h es)) rest = refl
bound_makes_none (t.held x) rest = refl
bound_makes_none e rest = refl

statement_makes_none : (g : Context) (a : Stmt) (rest : t.Stmts) → has_container (t.followed (typed_stmt g a) rest) ≡ has_container rest
unfolding typed_stmt
statement_makes_none g (s.block at items close) rest = refl
statement_makes_none g (s.choice at k a) rest = refl
statement_makes_none g (s.choice_else at k a b) rest = refl
statement_makes_none g (s.while at k a) rest = refl
statement_makes_none g (s.for at first k last a) rest = refl
statement_makes_none g (s.range_for at how x over a) rest = refl
statement_makes_none g (s.break at) rest = refl
statement_makes_none g (s.continue at) rest = refl
statement_makes_none g (s.gives_back at v) rest = refl
statement_makes_none g (s.does at w) rest = refl

pub declares_same : (g : Context) (items : Items) → has_container (typed_items g items) ≡ declares_container items
unfolding typed_items typed_item
declares_same g s.no_more = refl
declares_same g (s.followed (s.declares (s.declares_scalar at type x None)) rest) =
    declares_same (after_item g (s.declares (s.declares_scalar at type x None))) rest
declares_same g (s.followed (s.declares (s.declares_scalar at type x (Some e))) rest) =
    declares_same (after_item g (s.declares (s.declares_scalar at type x (Some e)))) rest
declares_same g (s.followed (s.declares (s.declares_auto at x e)) rest) =
    let h = after_item g (s.declares (s.declares_auto at x e)) in
    auto_makes_none (type_of (started g).scope e) (typed_expr (started g) e) (typed_items h rest) ∙ declares_same h rest
declares_same g (s.followed (s.declares (s.declares_reference head x e)) rest) =
    let h = after_item g (s.declares (s.declares_reference head x e)) in
    bound_makes_none (typed_expr (started g) e) (typed_items h rest) ∙ declares_same h rest
declares_same g (s.followed (s.declares (s.declares_container ct x made)) rest) = refl
declares_same g (s.followed (s.states a) rest) =
    let h = after_item g (s.states a) in
    statement_makes_none g a (typed_items h rest) ∙ declares_same h rest

braced : (g : Context) (items : Items) → same_answer (has_container (typed_items g items)) (is_some (brace_number g items)) ≡ true
braced g items =
    answered (has_container (typed_items g items)) (declares_container items) (length (after_items g items).sites) (declares_same g items)

-- the nodes of statements have the sites that are due
sites_pass_text : (names : ℕ) → PassesText has_due_site names
sites_pass_text names = record {
  expressions = λ g st. sites_pass g.scope;
  loops = λ n. refl;
  variables = λ kind. refl;
  braces = λ g items. braced g items;
  ranges = λ g st at over none. refl;
  assignments = λ g st x at y access form o k es none is found. assignment_due g x at y access form o none is found;
  makings = λ g st form at made es. making_due g form made;
}

-- what is typed has the sites that are due
pub sites_stand : (p : Program) (u : t.Typed) → typing.Typed p u → has_sites u ≡ true
unfolding has_sites typed_program
sites_stand p u h =
    let names = length (after_functions start p).names in
    subst (λ (v : t.Typed). has_sites v ≡ true) (sym h.is_it)
    (functions_pass has_due_site names (sites_pass_text names) start p start_fits (functions_break_none p h.breaks_none) (omega arith))
