-- What a library has to be: each of its calls leaves a sound memory sound, and no mark vanishes: each stands afterwards, or was
-- dropped at the call's site. The library is one, since each of its rows is fine.
use Rattle.std.proofs.Common.{◌≡◌, ℕ, ◌&&◌, ◌||◌, Bool, true, false, not, List, [], ◌∷◌, Option, Some, None, refl, subst, option_map, if◌then◌else◌}
use Rattle.std.specs.Prelude.{find}
use Rattle.std.specs.List.{cons_option}
use Rattle.sl_base.specs.declared.form.Form.{Form}
use Rattle.sl_specs.specs.declared.class.Class.{Class}
use Rattle.sl_specs.specs.Forms.{same_form}
use Rattle.sl_specs.specs.Rows.{Line, row_of as row_of_line, class_on, rows_on}
use Rattle.sl_specs.specs.ContainerLines.{container_lines}
use Rattle.sl_specs.specs.MultiLines.{multi_lines}
use Rattle.sl_specs.specs.AlgorithmRows.{algorithm_rows}
use Rattle.sl_specs.specs.Table.{table}
use Rattle.sl_syntax.specs.declared.typed.callee.Callee.{Callee}
use Rattle.sl_model.specs.Memory.Containers.{Memory}
use Rattle.sl_model.specs.LibraryCalls.Values.{Value, Args, Lib, LibOut, trapped, thrown, faulted, gives, unbuilt}
use Rattle.sl_model.specs.LibraryCalls.Situation.{Situation}
use Rattle.sl_model.specs.LibraryCalls.Needs.{first_failure}
use Rattle.sl_model.specs.LibraryCalls.Actions.{Stop, never, exception, overflow}
use Rattle.sl_model.specs.LibraryCalls.Rows.{Row, member_row, meaning_of, row_of}
use Rattle.sl_model.specs.LibraryCalls.Library.{form_of, carried_out, row_out, called_row, lib}
use Rattle.sl_model.specs.Runs.Good.{IsSound}
use Rattle.sl_model.proofs.Keeps.{InAnswer}
use Rattle.sl_model.proofs.After.{Leaves}
use Rattle.sl_model.proofs.Called.{IsCalled, situation, row_by}
use Rattle.sl_model.proofs.Tells.{AllOf}
use Rattle.sl_model.proofs.TableRows.{all_table, row-holds}
use Rattle.sl_model.proofs.FineEffects.{does-leaves}
use Rattle.sl_model.proofs.FineRows.{RowIsFine, erases, buries, LineIsFine}
use Rattle.sl_model.proofs.FineContainers.{containers-fine, multis-fine}
use Rattle.sl_model.proofs.FineAlgorithms.{algorithms-fine, appending-fine, operator-fine}
use Rattle.sl_model.proofs.Passing.{first_of_both, second_of_both}

-- what a library has to be: each call leaves a sound memory sound, and lets nothing vanish
abbrev pub KeepsMemory : Lib → Type 0
KeepsMemory l = (c : Callee) (a : Args) (m : Memory) (picks : List ℕ) → IsSound m → InAnswer (Leaves m a.site) (l c a m picks)

-- each of these classes invalidates what goes
abbrev all_bury : List (Form × Class) → Bool
all_bury [] = true
all_bury (x ∷ xs) = buries x.1 && all_bury xs

-- a line that takes elements out has such classes alone
abbrev line_buries : Line → Bool
line_buries x = not (erases x.call) || all_bury x.classes

-- so it is with each of these
abbrev all_lines_bury : List Line → Bool
all_lines_bury [] = true
all_lines_bury (x ∷ xs) = line_buries x && all_lines_bury xs

-- each line of the table is one
container_lines-bury : all_lines_bury container_lines ≡ true
container_lines-bury = refl

multi_lines-bury : all_lines_bury multi_lines ≡ true
multi_lines-bury = refl

-- the class of a form is one of these
class_of_form : (form : Form) (xs : List (Form × Class)) (class : Class) → class_on form xs ≡ Some class → all_bury xs ≡ true → buries class ≡ true
class_of_form form [] class e h = absurd (cc)
class_of_form form (x ∷ xs) class e h =
    by_form (same_form x.0 form) e (first_of_both (buries x.1) (all_bury xs) h) (second_of_both (buries x.1) (all_bury xs) h)
    (class_of_form form xs class)
  where
    by_form : (b : Bool) → option_map (λ (y : Form × Class). y.1) (if b then Some x else find (λ (y : Form × Class). same_form y.0 form) xs) ≡ Some class
        → buries x.1 ≡ true → all_bury xs ≡ true → (class_on form xs ≡ Some class → all_bury xs ≡ true → buries class ≡ true) → buries class ≡ true
    by_form true e h k rest = let q : x.1 ≡ class = cc in subst (λ (d : Class). buries d ≡ true) q h
    by_form false e h k rest = rest e k

-- a class of a line that takes elements out invalidates them
line_class : (x : Line) (form : Form) (class : Class) → line_buries x ≡ true → class_on form x.classes ≡ Some class → erases x.call ≡ true
    → buries class ≡ true
line_class x form class h e t = class_of_form form x.classes class e (by_call (erases x.call) t h)
  where
    by_call : (b : Bool) → b ≡ true → (not b || all_bury x.classes) ≡ true → all_bury x.classes ≡ true
    by_call true t h = h
    by_call false t h = absurd (cc)

-- the rows of a form are fine where their lines are
rows-fine : (form : Form) (lines : List Line) → all_lines_bury lines ≡ true → AllOf LineIsFine lines
    → AllOf (λ r. RowIsFine (member_row form r)) (rows_on form lines)
rows-fine form [] b h = tt
rows-fine form (x ∷ xs) b h =
    by_class (class_on form x.classes) refl (rows-fine form xs (second_of_both (line_buries x) (all_lines_bury xs) b) h.1)
  where
    by_class : (o : Option Class) → class_on form x.classes ≡ o → AllOf (λ r. RowIsFine (member_row form r)) (rows_on form xs)
        → AllOf (λ r. RowIsFine (member_row form r)) (cons_option (option_map (row_of_line (Some form) x) o) (rows_on form xs))
    by_class None e rest = rest
    by_class (Some class) e rest =
        (h.0 form class (λ t. line_class x form class (first_of_both (line_buries x) (all_lines_bury xs) b) e t), rest)

-- they are rows on containers
rows-meant : (appends : Bool) (form : Form) (lines : List Line) → AllOf (λ r. RowIsFine (member_row form r)) (rows_on form lines)
    → AllOf (λ r. RowIsFine (meaning_of appends r)) (rows_on form lines)
rows-meant appends form [] h = tt
rows-meant appends form (x ∷ xs) h = by_class (class_on form x.classes) h (rows-meant appends form xs)
  where
    by_class : (o : Option Class)
        → AllOf (λ r. RowIsFine (member_row form r)) (cons_option (option_map (row_of_line (Some form) x) o) (rows_on form xs))
        → (AllOf (λ r. RowIsFine (member_row form r)) (rows_on form xs) → AllOf (λ r. RowIsFine (meaning_of appends r)) (rows_on form xs))
        → AllOf (λ r. RowIsFine (meaning_of appends r)) (cons_option (option_map (row_of_line (Some form) x) o) (rows_on form xs))
    by_class None h rest = rest h
    by_class (Some class) h rest = (h.0, rest h.1)

-- the rows of algorithms
algorithms-meant : (appends : Bool) → AllOf (λ r. RowIsFine (meaning_of appends r)) algorithm_rows
algorithms-meant true = appending-fine
algorithms-meant false = algorithms-fine

-- each row of the table is fine
table-fine : (appends : Bool) → AllOf (λ r. RowIsFine (meaning_of appends r)) table
table-fine appends = all_table (λ r. RowIsFine (meaning_of appends r))
    (λ form e. rows-meant appends form container_lines (rows-fine form container_lines container_lines-bury containers-fine))
    (λ form e. rows-meant appends form multi_lines (rows-fine form multi_lines multi_lines-bury multis-fine))
    (algorithms-meant appends)

-- each row of what is called is
pub row-fine : (callee : Callee) (r : Row) → row_of callee ≡ Some r → RowIsFine r
row-fine = row-holds RowIsFine table-fine operator-fine

-- a row that is called leaves a memory as a call has to
out-leaves : (r : Row) (s : Situation) → RowIsFine r → IsSound s.memory → IsCalled r s → InAnswer (Leaves s.memory s.site) (row_out r s)
out-leaves r s fine sound called = by_failure (first_failure (r.fails s)) refl
  where
    by_stop : (o : Stop) → r.action.stops s ≡ o → first_failure (r.fails s) ≡ None → InAnswer (Leaves s.memory s.site) (carried_out r s o)
    by_stop never e n = does-leaves (form_of r.object s) r.class s (r.action.effect s) sound (fine s sound called n e)
    by_stop exception e n = tt
    by_stop overflow e n = tt

    by_failure : (o : Option (ℕ × ℕ)) → first_failure (r.fails s) ≡ o
        → InAnswer (Leaves s.memory s.site) (elim o as (λ _. LibOut) [ Some x ↦ trapped x.0 x.1 | None ↦ carried_out r s (r.action.stops s) ])
    by_failure (Some x) e = tt
    by_failure None e = by_stop (r.action.stops s) refl e

-- the library keeps memory: each of its rows is fine
pub lib-leaves : KeepsMemory lib
lib-leaves callee a m picks sound = by_row (row_of callee) refl
  where
    by_row : (o : Option Row) → row_of callee ≡ o → InAnswer (Leaves m a.site) (called_row o a m picks)
    by_row None e = tt
    by_row (Some r) e = row_by (InAnswer (Leaves m a.site)) r a m picks tt
        (λ j called. out-leaves r (situation a m picks j) (row-fine callee r e) sound called)

-- what holds of an answer holds of the memory that is given
pub in_given : (I : Memory → Type 0) (o : LibOut) (v : Value) (t : Memory) (left : List ℕ) → InAnswer I o → o ≡ gives v t left → I t
in_given I o v t left h e = subst (InAnswer I) e h

-- an answer that leaves a memory leaves it sound
pub sound-answer : (m : Memory) (site : ℕ) (o : LibOut) → InAnswer (Leaves m site) o → InAnswer IsSound o
sound-answer m site (gives v t left) h = h.sound
sound-answer m site (trapped k a) h = tt
sound-answer m site thrown h = tt
sound-answer m site (faulted w) h = tt
sound-answer m site unbuilt h = tt
