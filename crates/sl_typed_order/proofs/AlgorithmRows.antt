-- The rows of algorithms: which have an output, and what they take and give. What stands plainly gives no container.
use Rattle.std.proofs.Common.{◌≡◌, ℕ, Bool, true, false, not, ◌&&◌, ◌||◌, List, [], ◌∷◌, length, take, drop, Option, Some, None, refl, sym, subst, ⊎_elim}
use Rattle.std.specs.Prelude.{codes, if◌then◌else◌}
use Rattle.std.specs.List.{list_any}
use Rattle.std.specs.Str.{bytes_eq}
use Rattle.std.proofs.lemmas.Bool.{and_parts, cases_Bool, not-true, false_from_ne_true}
use Rattle.std.proofs.lemmas.Slice.Eq.{bytes_eq-Decides}
use Rattle.sl_base.specs.declared.form.Form.TheVariants as f
use Rattle.sl_specs.specs.declared.call.Call.TheVariants as calls
use Rattle.sl_specs.specs.declared.letter.Letter.{Letter}
use Rattle.sl_specs.specs.declared.letter.Letter.TheVariants as l
use Rattle.sl_specs.specs.declared.return_type.ReturnType.{ReturnType}
use Rattle.sl_specs.specs.declared.return_type.ReturnType.TheVariants as r
use Rattle.sl_specs.specs.Rows.{Row}
use Rattle.sl_specs.specs.Table.{same_call}
use Rattle.sl_specs.specs.Texts.{call_text}
use Rattle.sl_syntax.specs.Tree as s
use Rattle.sl_syntax.specs.Tree.{Exprs}
use Rattle.sl_typing.specs.declared.expr_type.ExprType.{ExprType}
use Rattle.sl_typing.specs.declared.expr_type.ExprType.TheVariants as types
use Rattle.sl_typing.specs.declared.scope.Scope.{Scope}
use Rattle.sl_typing.specs.declared.standing.Standing.TheVariants as standing
use Rattle.sl_typing.specs.Types.{is_iterator, is_int_iterator, same_iterators, is_container}
use Rattle.sl_typing.specs.Signatures.{one, range, first_type, last_type, row_at, is_output}
use Rattle.sl_typing.specs.Arguments.{is_sequence, letters_take, letters_seen}
use Rattle.sl_typing.specs.Candidates.{Found, is_candidate, algorithm_row, has_output, end_in_output}
use Rattle.sl_typing.specs.TypeOf.{size, appends, end_in_appender, algorithm_gives, type_of, types_of}
use Rattle.sl_well_typed.proofs.Parts.{library_call_kept}
use Rattle.sl_well_typed.proofs.Rows.{found_row, some_row, has_name, output_names, begin_with_iterator, are_output, gives_fitting, gives_output}
use Rattle.sl_well_typed.proofs.Rows.{moves_iterator}
use Rattle.sl_well_typed.proofs.Letters.{int_is_iterator, first_end}
use Rattle.sl_well_typed.proofs.Algorithms.{IsAlgorithmRow, algorithm_row_is}
use Rattle.sl_well_typed.proofs.AlgorithmCalls.{IsCalled, candidate_is, fine_by_name, mover_gives}
use Rattle.sl_typed_order.proofs.Values.{no_appender}
use Rattle.sl_typed_order.proofs.Objects.{NoneGives}

-- an algorithm with an output has one of their names
output_name : (name : List ℕ) (n : ℕ) → has_output name n ≡ true → list_any (λ x. bytes_eq name x) output_names ≡ true
output_name name n h =
    let other = some_row (λ r. is_candidate None name n r && end_in_output r.letters) h in
    let parts = and_parts (is_candidate None name n other.row) (end_in_output other.row.letters) other.passes in
    let called = candidate_is name n other.row parts.0 in
    let is = algorithm_row_is other.row other.index other.there called.own in
    let known : (if end_in_output other.row.letters then list_any (λ x. has_name x other.row) output_names
    else not (list_any (λ x. has_name x other.row) output_names)) ≡ true = rw is.own at is.output in
    let among : list_any (λ x. has_name x other.row) output_names ≡ true = rw parts.1 at known in
    subst (λ (text : List ℕ). list_any (λ x. bytes_eq text x) output_names ≡ true) called.text among

-- another one has none
pub no_output : (name : List ℕ) (n : ℕ) (other : List ℕ) → bytes_eq name other ≡ true → list_any (λ x. bytes_eq other x) output_names ≡ false
    → has_output name n ≡ false
no_output name n other same apart =
    false_from_ne_true (has_output name n)
    (λ h. let is : name ≡ other = (bytes_eq-Decides name other).0 same in
    let yes : list_any (λ x. bytes_eq other x) output_names ≡ true =
    subst (λ (text : List ℕ). list_any (λ x. bytes_eq text x) output_names ≡ true) is (output_name name n h) in
    absurd cc)

-- and one with an output has another name
other_name : (name : List ℕ) (n : ℕ) (other : List ℕ) → has_output name n ≡ true → list_any (λ x. bytes_eq other x) output_names ≡ false
    → bytes_eq name other ≡ false
other_name name n other h apart =
    false_from_ne_true (bytes_eq name other) (λ same. let no = no_output name n other same apart in absurd cc)

-- what is known of the row that a call of an algorithm means
pub record IsMeant (b : Bool) (name : List ℕ) (us : List ExprType) (x : Found) : Type 0 where
  pub there : row_at x.number ≡ Some x.row
  pub candidate : is_candidate None name (length us) x.row ≡ true
  pub called : IsCalled name (length us) x.row
  pub algorithm : IsAlgorithmRow x.row
  pub takes : letters_take f.Vector (letters_seen b x.row.letters) us ≡ true

pub meant_is : (b : Bool) (name : List ℕ) (us : List ExprType) (x : Found) → algorithm_row b name us ≡ Some x → IsMeant b name us x
meant_is b name us x e =
    let row = x.row in
    let found = found_row (λ r. is_candidate None name (length us) r && letters_take f.Vector (letters_seen b r.letters) us) x e in
    let tests = and_parts (is_candidate None name (length us) row) (letters_take f.Vector (letters_seen b row.letters) us) found.passes in
    let called = candidate_is name (length us) row tests.0 in
    record {
      there = found.there;
      candidate = tests.0;
      called = called;
      algorithm = algorithm_row_is row x.number found.there called.own;
      takes = tests.1;
    }

-- the row of an algorithm with an output
pub record IsOutputRow (row : Row) : Type 0 where
  pub gives : gives_output row.gives ≡ true
  pub letters : are_output row.letters ≡ true

fitting_output : (gives : ReturnType) (letters : List Letter) → gives_output gives ≡ true → gives_fitting gives letters ≡ true → are_output letters ≡ true
fitting_output r.Output letters h k = k
fitting_output gives letters h k = absurd cc

ends_so : (b c : Bool) → c ≡ true → (if b then c else not c) ≡ true → b ≡ true
ends_so true c h k = refl
ends_so false true h k = absurd cc
ends_so false false h k = absurd cc

pub output_row : (name : List ℕ) (n : ℕ) (row : Row) → IsAlgorithmRow row → call_text row.call ≡ name → has_output name n ≡ true → IsOutputRow row
output_row name n row is same h =
    let among = list_any (λ x. has_name x row) output_names in
    let there : among ≡ true =
    subst (λ (text : List ℕ). list_any (λ x. bytes_eq text x) output_names ≡ true) (sym same) (output_name name n h) in
    let choice : (if end_in_output row.letters then among else not among) ≡ true = rw is.own at is.output in
    let end = ends_so (end_in_output row.letters) among there choice in
    let given : (gives_output row.gives && list_any is_output row.letters) ≡ true = rw end at is.given in
    let gives = (and_parts (gives_output row.gives) (list_any is_output row.letters) given).0 in
    let inserter = other_name name n (codes "back_inserter") h refl in
    let mover = other_name name n (codes "advance") h refl in
    let fine = fine_by_name row name is same in
    let other : (gives_fitting row.gives row.letters && not (same_call calls.Advance row.call)) ≡ true = rw (inserter, mover) at fine in
    let fitting = and_parts (gives_fitting row.gives row.letters) (not (same_call calls.Advance row.call)) other in
    record { gives = gives; letters = fitting_output row.gives row.letters gives fitting.0 }

-- iterators are no containers
iterator_is_other : (u : ExprType) → is_iterator u ≡ true → is_container u ≡ false
iterator_is_other (types.Container access form) h = absurd cc
iterator_is_other u h = refl

second_is_other : (u v : ExprType) → same_iterators u v ≡ true → is_container v ≡ false
second_is_other (types.Iterator b x) (types.Iterator c y) h = refl
second_is_other (types.Iterator b x) v h = absurd cc
second_is_other u v h = absurd cc

-- all of these but the last are no containers, and the last may be one, or isn't either
abbrev pub may_end : Bool → List ExprType → Bool
may_end b [] = false
may_end b (u ∷ []) = b || not (is_container u)
may_end b (u ∷ v ∷ us) = not (is_container u) && may_end b (v ∷ us)

behind_range : (p : ExprType → Bool) (b : Bool) (us : List ExprType) → range p (take 2 us) ≡ true → may_end b (drop 2 us) ≡ true → may_end b us ≡ true
behind_range p b [] h k = absurd cc
behind_range p b (u ∷ []) h k = absurd cc
behind_range p b (u ∷ v ∷ []) h k = absurd cc
behind_range p b (u ∷ v ∷ w ∷ us) h k =
    let same = (and_parts (p u) (same_iterators u v) h).1 in
    let first = iterator_is_other u (first_end u v same) in
    let second = second_is_other u v same in rw (first, second) k

output_alone : (b : Bool) (us : List ExprType) → letters_take f.Vector (letters_seen b (l.Output ∷ [])) us ≡ true → may_end b us ≡ true
output_alone true [] h = absurd cc
output_alone true (u ∷ []) h = refl
output_alone true (u ∷ v ∷ us) h = let parts = and_parts (is_sequence u) false h in absurd cc
output_alone false [] h = absurd cc
output_alone false (u ∷ []) h =
    let other = iterator_is_other u (int_is_iterator u (and_parts (is_int_iterator u) true h).0) in rw other refl
output_alone false (u ∷ v ∷ us) h = let parts = and_parts (is_int_iterator u) false h in absurd cc

pub output_ends : (b : Bool) (letters : List Letter) (us : List ExprType) → are_output letters ≡ true
    → letters_take f.Vector (letters_seen b letters) us ≡ true → may_end b us ≡ true
output_ends true (l.IntRange ∷ l.Output ∷ []) us k h =
    let parts = and_parts (range is_int_iterator (take 2 us)) (letters_take f.Vector (letters_seen true (l.Output ∷ [])) (drop 2 us)) h in
    behind_range is_int_iterator true us parts.0 (output_alone true (drop 2 us) parts.1)
output_ends false (l.IntRange ∷ l.Output ∷ []) us k h =
    let parts = and_parts (range is_int_iterator (take 2 us)) (letters_take f.Vector (l.Output ∷ []) (drop 2 us)) h in
    behind_range is_int_iterator false us parts.0 (output_alone false (drop 2 us) parts.1)
output_ends true (l.IntRange ∷ l.SecondIntRange ∷ l.Output ∷ []) us k h =
    let rest = l.SecondIntRange ∷ l.Output ∷ [] in
    let parts = and_parts (range is_int_iterator (take 2 us)) (letters_take f.Vector (letters_seen true rest) (drop 2 us)) h in
    behind_range is_int_iterator true us parts.0 (output_ends true (l.IntRange ∷ l.Output ∷ []) (drop 2 us) refl parts.1)
output_ends false (l.IntRange ∷ l.SecondIntRange ∷ l.Output ∷ []) us k h =
    let rest = l.SecondIntRange ∷ l.Output ∷ [] in
    let parts = and_parts (range is_int_iterator (take 2 us)) (letters_take f.Vector rest (drop 2 us)) h in
    behind_range is_int_iterator false us parts.0 (output_ends false (l.IntRange ∷ l.Output ∷ []) (drop 2 us) refl parts.1)
output_ends b letters us k h = absurd cc

-- the last is then none
last_is_other : (us : List ExprType) → may_end false us ≡ true → is_container (last_type us) ≡ false
last_is_other [] h = absurd cc
last_is_other (u ∷ []) h = not-true (is_container u) h
last_is_other (u ∷ v ∷ us) h = last_is_other (v ∷ us) (and_parts (not (is_container u)) (may_end false (v ∷ us)) h).1

-- nor is the first that letters begin with
range_first : (p : ExprType → Bool) (us : List ExprType) → range p (take 2 us) ≡ true → is_container (first_type us) ≡ false
range_first p [] h = absurd cc
range_first p (u ∷ []) h = absurd cc
range_first p (u ∷ v ∷ us) h = iterator_is_other u (first_end u v (and_parts (p u) (same_iterators u v) h).1)

one_first : (us : List ExprType) → one is_iterator (take 1 us) ≡ true → is_container (first_type us) ≡ false
one_first [] h = absurd cc
one_first (u ∷ us) h = iterator_is_other u h

first_is_other : (letters : List Letter) (us : List ExprType) → begin_with_iterator letters ≡ true → letters_take f.Vector letters us ≡ true
    → is_container (first_type us) ≡ false
first_is_other (l.IntRange ∷ rest) us k h =
    range_first is_int_iterator us (and_parts (range is_int_iterator (take 2 us)) (letters_take f.Vector rest (drop 2 us)) h).0
first_is_other (l.WrittenRange ∷ rest) us k h =
    range_first is_int_iterator us (and_parts (range is_int_iterator (take 2 us)) (letters_take f.Vector rest (drop 2 us)) h).0
first_is_other (l.RandomAccessRange ∷ rest) us k h =
    range_first is_int_iterator us (and_parts (range is_int_iterator (take 2 us)) (letters_take f.Vector rest (drop 2 us)) h).0
first_is_other (l.AnyRange ∷ rest) us k h =
    range_first is_iterator us (and_parts (range is_iterator (take 2 us)) (letters_take f.Vector rest (drop 2 us)) h).0
first_is_other (l.Iterator ∷ rest) us k h = one_first us (and_parts (one is_iterator (take 1 us)) (letters_take f.Vector rest (drop 1 us)) h).0
first_is_other (l.BidirectionalIterator ∷ rest) us k h =
    one_first us (and_parts (one is_iterator (take 1 us)) (letters_take f.Vector rest (drop 1 us)) h).0
first_is_other letters us k h = absurd cc

-- what an algorithm gives
given_other : (b : Bool) (gives : ReturnType) (letters : List Letter) (us : List ExprType) → (b ≡ true → gives_output gives ≡ true)
    → gives_fitting gives letters ≡ true → letters_take f.Vector (letters_seen b letters) us ≡ true → is_container (algorithm_gives b gives us) ≡ false
given_other true r.Output letters us output k h = refl
given_other true gives letters us output k h = let no = output refl in absurd cc
given_other false r.Nothing letters us output k h = refl
given_other false (r.Number q) letters us output k h = refl
given_other false r.FirstArgument letters us output k h = first_is_other letters us k h
given_other false r.Output letters us output k h = last_is_other us (output_ends false letters us k h)
given_other false gives letters us output k h = absurd cc

meant_other : (b : Bool) (name : List ℕ) (n : ℕ) (us : List ExprType) (x : Found) → IsMeant b name us x → (b ≡ true → has_output name n ≡ true)
    → bytes_eq name (codes "back_inserter") ≡ false → is_container (algorithm_gives b x.row.gives us) ≡ false
meant_other b name n us x is output plain =
    let row = x.row in
    let fine = fine_by_name row name is.algorithm is.called.text in
    ⊎_elim (λ (k : bytes_eq name (codes "advance") ≡ true).
    let both : (moves_iterator row.gives row.letters && same_call calls.Advance row.call) ≡ true = rw (plain, k) at fine in
    let moves = and_parts (moves_iterator row.gives row.letters) (same_call calls.Advance row.call) both in
    rw (mover_gives row.gives row.letters moves.0 b us) refl)
    (λ (k : bytes_eq name (codes "advance") ≡ false).
    let both : (gives_fitting row.gives row.letters && not (same_call calls.Advance row.call)) ≡ true = rw (plain, k) at fine in
    let fitting = and_parts (gives_fitting row.gives row.letters) (not (same_call calls.Advance row.call)) both in
    given_other b row.gives row.letters us (λ e. (output_row name n row is.algorithm is.called.text (output e)).gives) fitting.0 is.takes)
    (cases_Bool (bytes_eq name (codes "advance")))

row_other : (b : Bool) (name : List ℕ) (n : ℕ) (us : List ExprType) (o : Option Found) → algorithm_row b name us ≡ o
    → (b ≡ true → has_output name n ≡ true) → bytes_eq name (codes "back_inserter") ≡ false
    → is_container (elim o as (λ _. ExprType) [ None ↦ types.Wrong | Some x ↦ algorithm_gives b x.row.gives us ]) ≡ false
row_other b name n us None e output plain = refl
row_other b name n us (Some x) e output plain = meant_other b name n us x (meant_is b name us x e) output plain

-- a call of an algorithm that stands plainly gives no container
pub none_gives : (g : Scope) → NoneGives g
unfolding type_of types_of
none_gives g n f xs none =
    row_other (appends f.name xs) f.name (size xs) (types_of g xs) (algorithm_row (appends f.name xs) f.name (types_of g xs)) refl
    (λ h. (and_parts (has_output f.name (size xs)) (end_in_appender xs) h).0)
    (no_appender (s.library_call f xs) (library_call_kept g n standing.Plain f xs none).1.appenders)
