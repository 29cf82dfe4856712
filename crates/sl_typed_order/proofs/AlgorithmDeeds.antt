-- What a call of an algorithm does by its name is all that it does to variables.
use Rattle.std.proofs.Common.{◌≡◌, ℕ, zero, suc, ◌+◌, Bool, true, false, not, ◌&&◌, ◌||◌, List, [], ◌∷◌, Option, Some, None, refl, sym, subst}
use Rattle.std.specs.Prelude.{flat_map, codes, slice_get, if◌then◌else◌}
use Rattle.std.specs.List.{list_all, list_any}
use Rattle.std.specs.Str.{bytes_eq}
use Rattle.std.proofs.lemmas.Bool.{and_parts, or_parts, not-false}
use Rattle.sl_base.specs.declared.form.Form.TheVariants as f
use Rattle.sl_base.specs.declared.place.Place.{Place}
use Rattle.sl_specs.specs.declared.call.Call.TheVariants as calls
use Rattle.sl_specs.specs.declared.letter.Letter.{Letter}
use Rattle.sl_specs.specs.declared.letter.Letter.TheVariants as l
use Rattle.sl_specs.specs.declared.return_type.ReturnType.{ReturnType}
use Rattle.sl_specs.specs.declared.return_type.ReturnType.TheVariants as r
use Rattle.sl_specs.specs.Rows.{Row}
use Rattle.sl_specs.specs.Table.{table, same_call}
use Rattle.sl_syntax.specs.declared.typed.callee.Callee.TheVariants as callees
use Rattle.sl_syntax.specs.Tree as s
use Rattle.sl_syntax.specs.Tree.{Expr, Exprs}
use Rattle.sl_syntax.specs.Typed as t
use Rattle.sl_syntax.specs.Typed.{Function, Operands}
use Rattle.sl_typing.specs.declared.expr_type.ExprType.{ExprType}
use Rattle.sl_typing.specs.declared.expr_type.ExprType.TheVariants as types
use Rattle.sl_typing.specs.declared.scope.Scope.{Scope}
use Rattle.sl_typing.specs.declared.standing.Standing.TheVariants as standing
use Rattle.sl_typing.specs.Types.{same_scalar, scalar_of, is_number, is_iterator}
use Rattle.sl_typing.specs.Signatures.{row_at, is_algorithm}
use Rattle.sl_typing.specs.Arguments.{letters_take, letters_seen}
use Rattle.sl_typing.specs.Candidates.{Found, is_candidate, has_row, algorithm_row, has_output}
use Rattle.sl_typing.specs.Scopes.{type_of_name, number_of_name}
use Rattle.sl_typing.specs.TypeOf.{size, end_in_appender, appends, type_of_use, type_of, types_of}
use Rattle.sl_typing.specs.Looks.{bare_name}
use Rattle.sl_typing.specs.Sites.{site_count}
use Rattle.sl_typing.specs.WrongType.{first_is_plain, fits_algorithm}
use Rattle.sl_typing.specs.Faults.{last_standing, faults, faults_of_all}
use Rattle.sl_typing.specs.Order.{Deeds, nothing_done, changing, writing, last_arguments, first_name, writes_elements, algorithm_deeds}
use Rattle.sl_typing.specs.Order.{is_written_letter}
use Rattle.sl_typing.specs.Numbering.{Way, as_it_is, as_number, as_variable, number_in, handed, ways, head, first_operand, other_operands, first_way}
use Rattle.sl_typing.specs.Numbering.{other_ways, variable, typed, operands}
use Rattle.sl_model.specs.Typing.WellTypedCalls.{is_advance}
use Rattle.sl_model.specs.Typing.WellTypedNodes.{a_call}
use Rattle.sl_model.specs.Typing.WellTypedOrder.{Variable, the_iterator, container_in, iterator_in, listed, changed_by}
use Rattle.sl_well_typed.proofs.Parts.{parentheses_kept, arguments_kept}
use Rattle.sl_well_typed.proofs.Rows.{moves_iterator, gives_fitting}
use Rattle.sl_well_typed.proofs.Arguments.{as_many_types}
use Rattle.sl_well_typed.proofs.AlgorithmCalls.{fine_by_name}
use Rattle.sl_typed_order.proofs.Numbered.{AllNumbered}
use Rattle.sl_typed_order.proofs.Alias.{first_plain}
use Rattle.sl_typed_order.proofs.Kept.{algorithm_node}
use Rattle.sl_typed_order.proofs.Covers.{Covers, covers_none}
use Rattle.sl_typed_order.proofs.Does.{Does, does_none, covers_alone}
use Rattle.sl_typed_order.proofs.QuietRows.{is_quiet_fine, is_change_fine, is_algorithm_change, row_is_tame}
use Rattle.sl_typed_order.proofs.Still.{unnot}
use Rattle.sl_typed_order.proofs.Values.{is_variable, value_is_calculated}
use Rattle.sl_typed_order.proofs.Moved.{iterator_covers}
use Rattle.sl_typed_order.proofs.AlgorithmRows.{IsMeant, meant_is, output_row, output_ends, no_output}
use Rattle.sl_typed_order.proofs.Appending.{appended_covers}

-- what is no iterator variable
calculated_is_none : (e : t.Expr) → is_variable e ≡ false → iterator_in e ≡ []
calculated_is_none (t.iterator x) h = absurd cc
calculated_is_none e h = refl

name_is_none : (u : ExprType) (n : ℕ) (at : Place) (label : ℕ) → is_number (type_of_use u) ≡ true → iterator_in (variable u n at label) ≡ []
name_is_none (types.Iterator b form) n at label h = absurd cc
name_is_none u n at label h = refl

number_is_none : (g : Scope) (n : ℕ) (e : Expr) → faults g n standing.Plain e ≡ [] → is_number (type_of g e) ≡ true → iterator_in (typed g n e) ≡ []
unfolding typed operands type_of types_of
number_is_none g n (s.name x) none number = name_is_none (type_of_name g x.name) (number_of_name g x.name) x.place _ number
number_is_none g n (s.parentheses at x) none number = number_is_none g n x (parentheses_kept g n standing.Plain at x none) number
number_is_none g n e none number = calculated_is_none (typed g n e) (value_is_calculated g n e none refl)

either_is_none : (b : Bool) (d e : t.Expr) → iterator_in d ≡ [] → iterator_in e ≡ [] → iterator_in (if b then d else e) ≡ []
either_is_none true d e h k = h
either_is_none false d e h k = k

handed_is_none : (w : Way) (u : ExprType) (d : t.Expr) → iterator_in d ≡ [] → iterator_in (handed w u d) ≡ []
handed_is_none as_it_is u d h = h
handed_is_none (as_number k) u d h = either_is_none (same_scalar k (scalar_of u)) d (t.convert k d) h refl
handed_is_none as_variable u d h = refl

numbers_are_none : (g : Scope) (n : ℕ) (ws : List Way) (xs : Exprs) → faults_of_all g n standing.Plain xs ≡ []
    → list_all is_number (types_of g xs) ≡ true → flat_map iterator_in (listed (operands g n ws xs)) ≡ []
unfolding operands types_of
numbers_are_none g n ws s.none none numbers = refl
numbers_are_none g n ws (s.with x xs) none numbers =
    let parts = and_parts (is_number (type_of g x)) (list_all is_number (types_of g xs)) numbers in
    let first = handed_is_none (first_way ws) (type_of g x) (typed g n x) (number_is_none g n x (first_plain g n x xs none) parts.0) in
    let rest = numbers_are_none g (n + site_count g x) (other_ways ws) xs (arguments_kept g n standing.Plain x xs none).1 parts.1 in
    rw (first, rest) refl

-- what `advance` is given: an iterator as it is, and a number
abbrev pub are_moved : List ExprType → Bool
are_moved [] = false
are_moved (u ∷ us) = is_iterator u && list_all is_number us

two_taken : (us : List ExprType) → letters_take f.Vector (l.IteratorVariable ∷ l.Distance ∷ []) us ≡ true → are_moved us ≡ true
two_taken [] h = absurd cc
two_taken (u ∷ []) h = let parts = and_parts (is_iterator u) false h in absurd cc
two_taken (u ∷ v ∷ []) h =
    let parts = and_parts (is_iterator u) (is_number v && true) h in rw (parts.0, (and_parts (is_number v) true parts.1).0) refl
two_taken (u ∷ v ∷ w ∷ us) h =
    let parts = and_parts (is_iterator u) (is_number v && false) h in let no = and_parts (is_number v) false parts.1 in absurd cc

pub moved_types : (b : Bool) (gives : ReturnType) (letters : List Letter) (us : List ExprType) → moves_iterator gives letters ≡ true
    → letters_take f.Vector (letters_seen b letters) us ≡ true → are_moved us ≡ true
moved_types true r.Nothing (l.IteratorVariable ∷ l.Distance ∷ []) us k h = two_taken us h
moved_types false r.Nothing (l.IteratorVariable ∷ l.Distance ∷ []) us k h = two_taken us h
moved_types b gives letters us k h = absurd cc

pub moved_way : (gives : ReturnType) (letters : List Letter) → moves_iterator gives letters ≡ true → first_way (ways letters) ≡ as_it_is
moved_way r.Nothing (l.IteratorVariable ∷ l.Distance ∷ []) h = refl
moved_way gives letters h = absurd cc

-- the variable that `advance` moves
moved_covers : (g : Scope) → AllNumbered g → (n : ℕ) (ws : List Way) (xs : Exprs) → faults_of_all g n standing.Plain xs ≡ []
    → first_is_plain xs ≡ true → first_way ws ≡ as_it_is → are_moved (types_of g xs) ≡ true
    → let es = operands g n ws xs in
    Covers g (first_name xs) (the_iterator (number_in (first_operand es)) ∷ flat_map iterator_in (listed (other_operands es)))
unfolding operands types_of
moved_covers g h n ws s.none none plain way taken = absurd cc
moved_covers g h n ws (s.with x xs) none plain way taken =
    let parts = and_parts (is_iterator (type_of g x)) (list_all is_number (types_of g xs)) taken in
    let rest = numbers_are_none g (n + site_count g x) (other_ways ws) xs (arguments_kept g n standing.Plain x xs none).1 parts.1 in
    subst (λ (w : Way). Covers g (bare_name x) (the_iterator (number_in (handed w (type_of g x) (typed g n x)))
    ∷ flat_map iterator_in (listed (operands g (n + site_count g x) (other_ways ws) xs)))) (sym way)
    (
    subst (λ (vs : List Variable). Covers g (bare_name x) (the_iterator (number_in (typed g n x)) ∷ vs)) (sym rest)
    (iterator_covers g h n standing.Plain x (first_plain g n x xs none) plain parts.0)
    )

-- what holds of the row of an algorithm
record IsTame (x : Found) : Type 0 where
  own : is_algorithm x.row ≡ true
  still : x.row.changes ≡ false
  reads : is_advance x.row ≡ true → list_any is_written_letter x.row.letters ≡ false

is_so : (a b : Bool) → a ≡ true → (not a || b) ≡ true → b ≡ true
is_so true b h k = k
is_so false b h k = absurd cc

tame_is : (x : Found) → row_at x.number ≡ Some x.row → is_algorithm x.row ≡ true → IsTame x
tame_is x there own =
    let row = x.row in
    let tame = and_parts (is_quiet_fine row && is_change_fine row) (is_algorithm_change row) (row_is_tame x.number row there) in
    let fine = and_parts (is_quiet_fine row) (is_change_fine row) tame.0 in
    record {
      own = own;
      still = unnot row.changes (is_so (is_algorithm row) (not row.changes) own tame.1);
      reads = λ h.
          let both = is_so (is_advance row) (is_algorithm row && not (list_any is_written_letter row.letters)) h fine.1 in
          unnot (list_any is_written_letter row.letters) (and_parts (is_algorithm row) (not (list_any is_written_letter row.letters)) both).1;
    }

-- `advance`
mover_does : (fs : List Function) (g : Scope) (names : List (List ℕ)) (x : Found) → row_at x.number ≡ Some x.row → IsTame x
    → is_advance x.row ≡ true → (at : Place) (site : Option ℕ) (told : List (Option ℕ)) (k : ℕ) (es : Operands)
    → Covers g names (the_iterator k ∷ flat_map iterator_in (listed es))
    → Does fs g (changing names) (a_call (head (callees.Row x.number) at site None told) (t.with (t.iterator k) es) ∷ [])
mover_does fs g names x there tame advance at site told k es covers =
    let moved = the_iterator k ∷ flat_map iterator_in (listed es) in
    let node = a_call (head (callees.Row x.number) at site None told) (t.with (t.iterator k) es) in
    let same : changed_by fs node ≡ moved = rw (there, advance) refl in
    record {
      changes = λ j. absurd cc;
      changed = covers_alone g names (changed_by fs node) (subst (λ (vs : List Variable). Covers g names vs) (sym same) covers);
      writes = λ j. rw (there, tame.own, tame.reads advance) refl;
    }

-- an algorithm that appends
appender_does : (fs : List Function) (g : Scope) (names : List (List ℕ)) (n : ℕ) (at : Place) (site : Option ℕ) (told : List (Option ℕ))
    (es : Operands) → Covers g names (flat_map container_in (listed es))
    → Does fs g (changing names) (a_call (head (callees.Appends n) at site None told) es ∷ [])
appender_does fs g names n at site told es covers =
    record { changes = λ j. absurd cc; changed = covers_alone g names (flat_map container_in (listed es)) covers; writes = λ j. refl }

-- another one
other_does : (fs : List Function) (g : Scope) (does : Deeds) (x : Found) → row_at x.number ≡ Some x.row → IsTame x → is_advance x.row ≡ false
    → (does.writes ≡ false → list_any is_written_letter x.row.letters ≡ false) → (at : Place) (site : Option ℕ) (told : List (Option ℕ))
    (es : Operands) → Does fs g does (a_call (head (callees.Row x.number) at site None told) es ∷ [])
other_does fs g does x there tame other reads at site told es =
    let node = a_call (head (callees.Row x.number) at site None told) es in
    let none : changed_by fs node ≡ [] = rw (there, other, tame.still) refl in
    record {
      changes = λ j. rw (there, other, tame.still) refl;
      changed = covers_alone g does.changed (changed_by fs node)
          (subst (λ (vs : List Variable). Covers g does.changed vs) (sym none) (covers_none g does.changed));
      writes = λ j. rw (there, tame.own, reads j) refl;
    }

-- no row passes a test that some row would
none_passes : (test : Row → Bool) (rows : List Row) (n : ℕ) (row : Row) → list_any test rows ≡ false → slice_get rows n ≡ Some row → test row ≡ false
none_passes test [] n row h e = absurd cc
none_passes test (y ∷ ys) zero row h e =
    let same : y ≡ row = cc in subst (λ (z : Row). test z ≡ false) same (or_parts (test y) (list_any test ys) h).0
none_passes test (y ∷ ys) (suc n) row h e = none_passes test ys n row (or_parts (test y) (list_any test ys) h).1 e

row_fails : (test : Row → Bool) (n : ℕ) (row : Row) → has_row test ≡ false → row_at n ≡ Some row → test row ≡ false
unfolding has_row
row_fails test n row h e = none_passes test table n row h e

second_fails : (a b : Bool) → a ≡ true → (a && b) ≡ false → b ≡ false
second_fails true b h k = k
second_fails false b h k = absurd cc

reads_only : (b : Bool) (g : Scope) (name : List ℕ) (xs : Exprs) (x : Found) → IsMeant b name (types_of g xs) x
    → writes_elements name (size xs) ≡ false → list_any is_written_letter x.row.letters ≡ false
reads_only b g name xs x is none =
    let row = x.row in
    let candidate = subst (λ (n : ℕ). is_candidate None name n row ≡ true) (as_many_types g xs) is.candidate in
    second_fails (is_candidate None name (size xs) row) (list_any is_written_letter row.letters) candidate
    (row_fails (λ r. is_candidate None name (size xs) r && list_any is_written_letter r.letters) x.number row none is.there)

-- what is known of a call of `advance`
pub record Moves (g : Scope) (n : ℕ) (xs : Exprs) (x : Found) : Type 0 where
  pub advances : is_advance x.row ≡ true
  pub plain : faults_of_all g n standing.Plain xs ≡ []
  pub named : first_is_plain xs ≡ true
  pub way : first_way (ways x.row.letters) ≡ as_it_is
  pub taken : are_moved (types_of g xs) ≡ true

pub moves_is : (g : Scope) (n : ℕ) (name : List ℕ) (xs : Exprs) → faults_of_all g n (last_standing name xs) xs ≡ []
    → fits_algorithm g name xs ≡ true → (x : Found) → IsMeant (appends name xs) name (types_of g xs) x
    → bytes_eq name (codes "back_inserter") ≡ false → bytes_eq name (codes "advance") ≡ true → Moves g n xs x
moves_is g n name xs none fits x is p q =
    let row = x.row in
    let fine = fine_by_name row name is.algorithm is.called.text in
    let both : (moves_iterator row.gives row.letters && same_call calls.Advance row.call) ≡ true = rw (p, q) at fine in
    let moves = and_parts (moves_iterator row.gives row.letters) (same_call calls.Advance row.call) both in
    let out = no_output name (size xs) (codes "advance") q refl in
    let lost = (and_parts _ (not (bytes_eq name (codes "advance") && not (first_is_plain xs))) fits).1 in
    let first : not (not (first_is_plain xs)) ≡ true = rw q at lost in record {
      advances = moves.1;
      plain = subst (λ (b : Bool). faults_of_all g n (if b then standing.Output else standing.Plain) xs ≡ []) out none;
      named = not-false (first_is_plain xs) (unnot (not (first_is_plain xs)) first);
      way = moved_way row.gives row.letters moves.0;
      taken = moved_types (appends name xs) row.gives row.letters (types_of g xs) moves.0 is.takes;
    }

-- a call of an algorithm
pub algorithm_does : (fs : List Function) (g : Scope) → AllNumbered g → (n : ℕ) (name : List ℕ) (xs : Exprs)
    → faults_of_all g n (last_standing name xs) xs ≡ [] → fits_algorithm g name xs ≡ true
    → (x : Found) → algorithm_row (appends name xs) name (types_of g xs) ≡ Some x → (at : Place) (site : Option ℕ) (told : List (Option ℕ))
    → Does fs g (algorithm_deeds name xs) (algorithm_node x (appends name xs) name at site told (operands g n (ways x.row.letters) xs))
algorithm_does fs g h n name xs none fits x e at site told =
    by_names (bytes_eq name (codes "back_inserter")) (bytes_eq name (codes "advance")) (appends name xs) (writes_elements name (size xs))
    refl refl refl refl
  where
    row : Row
    row = x.row

    es : Operands
    es = operands g n (ways row.letters) xs

    is : IsMeant (appends name xs) name (types_of g xs) x
    is = meant_is (appends name xs) name (types_of g xs) x e

    tame : IsTame x
    tame = tame_is x is.there is.called.own

    mover : bytes_eq name (codes "back_inserter") ≡ false → bytes_eq name (codes "advance") ≡ true
        → Does fs g (changing (first_name xs))
        (a_call (head (callees.Row x.number) at site None told) (t.with (t.iterator (number_in (first_operand es))) (other_operands es)) ∷ [])
    mover p q =
        let moves = moves_is g n name xs none fits x is p q in
        mover_does fs g (first_name xs) x is.there tame moves.advances at site told (number_in (first_operand es)) (other_operands es)
        (moved_covers g h n (ways row.letters) xs moves.plain moves.named moves.way moves.taken)

    appender : appends name xs ≡ true → Does fs g (changing (first_name (last_arguments xs))) (a_call (head (callees.Appends x.number) at site None told) es ∷ [])
    appender p =
        let parts = and_parts (has_output name (size xs)) (end_in_appender xs) p in
        let out = output_row name (size xs) row is.algorithm is.called.text parts.0 in
        let takes : letters_take f.Vector (letters_seen true row.letters) (types_of g xs) ≡ true =
        subst (λ (b : Bool). letters_take f.Vector (letters_seen b row.letters) (types_of g xs) ≡ true) p is.takes in
        appender_does fs g (first_name (last_arguments xs)) x.number at site told es
        (appended_covers g h n (last_standing name xs) (ways row.letters) xs none parts.1
        (output_ends true row.letters (types_of g xs) out.letters takes))

    other : (does : Deeds) → bytes_eq name (codes "back_inserter") ≡ false → bytes_eq name (codes "advance") ≡ false
        → (does.writes ≡ false → writes_elements name (size xs) ≡ false)
        → Does fs g does (a_call (head (callees.Row x.number) at site None told) es ∷ [])
    other does p q reads =
        let fine = fine_by_name row name is.algorithm is.called.text in
        let both : (gives_fitting row.gives row.letters && not (same_call calls.Advance row.call)) ≡ true = rw (p, q) at fine in
        let still = (and_parts (gives_fitting row.gives row.letters) (not (same_call calls.Advance row.call)) both).1 in
        other_does fs g does x is.there tame (unnot (is_advance row) still)
        (λ j. reads_only (appends name xs) g name xs x is (reads j)) at site told es

    by_names : (inserts advances adds writes : Bool) → bytes_eq name (codes "back_inserter") ≡ inserts → bytes_eq name (codes "advance") ≡ advances
        → appends name xs ≡ adds → writes_elements name (size xs) ≡ writes
        → Does fs g (if advances then changing (first_name xs) else if adds then changing (first_name (last_arguments xs))
        else if writes then writing else nothing_done)
        (if inserts then [] else if advances
        then a_call (head (callees.Row x.number) at site None told) (t.with (t.iterator (number_in (first_operand es))) (other_operands es)) ∷ []
        else if adds then a_call (head (callees.Appends x.number) at site None told) es ∷ []
        else a_call (head (callees.Row x.number) at site None told) es ∷ [])
    by_names true advances adds writes p q a w = does_none fs g _
    by_names false true adds writes p q a w = mover p q
    by_names false false true writes p q a w = appender a
    by_names false false false true p q a w = other writing p q (λ j. absurd cc)
    by_names false false false false p q a w = other nothing_done p q (λ j. w)
