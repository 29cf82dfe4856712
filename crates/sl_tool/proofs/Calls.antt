-- What the library gives at the calls of a text of the subset.
use Rattle.std.proofs.Common.{arith, ◌≡◌, ℕ, ◌+◌, Bool, true, false, List, [], ◌∷◌, length, Option, Some, None, refl, ap, ◌∙◌, drop, if◌then◌else◌}
use Rattle.std.specs.Prelude.{slice_get, nat_lt, ◌==◌, ℤ, pos}
use Rattle.sl_base.specs.declared.form.Form.{Form}
use Rattle.sl_base.specs.declared.form.Form.TheVariants as f
use Rattle.sl_base.specs.declared.scalar.Scalar.TheVariants as scalar
use Rattle.sl_base.specs.declared.failures.TheConstants.{END_ITERATOR}
use Rattle.sl_base.specs.declared.limits.TheConstants.{ELEMENTS}
use Rattle.sl_syntax.specs.declared.typed.callee.Callee.TheVariants as callees
use Rattle.sl_syntax.specs.declared.typed.operator.Operator.TheVariants as operators
use Rattle.sl_syntax.specs.SubsetView.{vector_row, begin_row, push_back_row}
use Rattle.sl_specs.specs.declared.call.Call.TheVariants as calls
use Rattle.sl_specs.specs.declared.letter.Letter.TheVariants as letters
use Rattle.sl_specs.specs.declared.return_type.ReturnType.TheVariants as results
use Rattle.sl_specs.specs.declared.class.Class.TheVariants as classes
use Rattle.sl_specs.specs.Forms.{same_form}
use Rattle.sl_specs.specs.Rows.{Row as TableRow}
use Rattle.sl_specs.specs.Table.{table}
use Rattle.sl_model.specs.Memory.Containers.{Memory, Cont, size, cont_at, begin_of, locate, made, key_part}
use Rattle.sl_model.specs.Numbers.{converted}
use Rattle.sl_model.specs.Memory.Schedule.{pick}
use Rattle.sl_model.specs.Memory.Edits.{change_of, after}
use Rattle.sl_model.specs.LibraryCalls.Values.{Value, Args, number, iterator, nothing, element_at, LibOut, trapped, thrown, gives}
use Rattle.sl_model.specs.LibraryCalls.Operands.{is_of_form}
use Rattle.sl_model.specs.LibraryCalls.Situation.{Situation, container_in, index_in}
use Rattle.sl_model.specs.LibraryCalls.Needs.{first_failure, fails_if, dereference_fails}
use Rattle.sl_model.specs.LibraryCalls.Actions.{exception_if}
use Rattle.sl_model.specs.LibraryCalls.Effects.{insertion, picks_with}
use Rattle.sl_model.specs.LibraryCalls.Rows.{of_form, Row, member_row, row_of}
use Rattle.sl_model.specs.LibraryCalls.Library.{lib, object_in, called_row, on_object, carried_out}
use Rattle.sl_tool.proofs.Lists.{get_or-there}

pub cont_at-there : (m : Memory) (j : ℕ) (c : Cont) → slice_get m.conts j ≡ Some c → cont_at m j ≡ c
cont_at-there m j c h = get_or-there m.conts j c (record { form = f.Vector; cells = []; end = m.fresh; room = 0 }) h

-- the rows of a new vector, of `begin` and of `push_back` in the table
abbrev vector_line : TableRow
vector_line = record {
  form = Some f.Vector;
  call = calls.Constructor;
  letters = [];
  gives = results.Nothing;
  changes = false;
  needs = [];
  kills = classes.Nothing;
}

abbrev begin_line : TableRow
begin_line = record {
  form = Some f.Vector;
  call = calls.Begin;
  letters = [];
  gives = results.Iterator;
  changes = false;
  needs = [];
  kills = classes.Nothing;
}

abbrev push_back_line : TableRow
push_back_line = record {
  form = Some f.Vector;
  call = calls.PushBack;
  letters = letters.Element ∷ [];
  gives = results.Nothing;
  changes = true;
  needs = [];
  kills = classes.VectorInsert;
}

vector_told : row_of (callees.Row vector_row) ≡ Some (member_row f.Vector vector_line)
unfolding table
vector_told = refl

begin_told : row_of (callees.Row begin_row) ≡ Some (member_row f.Vector begin_line)
unfolding table
begin_told = refl

push_back_told : row_of (callees.Row push_back_row) ≡ Some (member_row f.Vector push_back_line)
unfolding table
push_back_told = refl

-- the object is there
vector_there : (m : Memory) (j : ℕ) (c : Cont) (vs : List Value) → slice_get m.conts j ≡ Some c → c.form ≡ f.Vector
    → object_in m (of_form f.Vector) (Some j) vs ≡ Some j
vector_there m j c vs h form = ap (λ (o : Option Cont). if is_of_form f.Vector o then Some j else None) h
    ∙ ap (λ (g : Form). if same_form g f.Vector then Some j else None) form

-- a call without operands, on an object or not
abbrev pub bare : Option ℕ → Args
bare object = record { site = 0; object = object; values = [] }

pub lib-vector : (m : Memory) (picks : List ℕ) → lib (callees.Row vector_row) (bare None) m picks
    ≡ gives nothing (made f.Vector (pick picks) [] m) (drop 1 picks)
lib-vector m picks = ap (λ (r : Option Row). called_row r (bare None) m picks) vector_told
    ∙ ap (λ n. gives nothing (made f.Vector n [] m) (drop 1 picks)) (let e : 0 + pick picks ≡ pick picks = omega arith in e)

pub lib-begin : (m : Memory) (j : ℕ) (c : Cont) (picks : List ℕ) → slice_get m.conts j ≡ Some c → c.form ≡ f.Vector
    → lib (callees.Row begin_row) (bare (Some j)) m picks ≡ gives (iterator (begin_of m j)) m picks
lib-begin m j c picks h form = ap (λ (r : Option Row). called_row r (bare (Some j)) m picks) begin_told
    ∙ ap (on_object (member_row f.Vector begin_line) (bare (Some j)) m picks) (vector_there m j c [] h form)

-- what `push_back` of a vector gives, by the int that comes in
abbrev pub pushed_back : Memory → ℕ → Cont → ℤ → List ℕ → ℕ → LibOut
pushed_back m j c z picks site =
    if nat_lt ELEMENTS (size c + 1) then thrown
    else gives nothing (after (change_of classes.VectorInsert c (insertion c (size c) ((z, pos 0) ∷ []) picks)) m j c site)
    (drop (picks_with c.form c 1) picks)

-- the operands of `push_back`
abbrev pub pushing : ℕ → ℕ → ℤ → Args
pushing site j z = record { site = site; object = Some j; values = number z ∷ [] }

push_case : (m : Memory) (j : ℕ) (z : ℤ) (picks : List ℕ) (site : ℕ) (full : Bool) → let s : Situation =
    record { memory = m; object = j; values = number z ∷ []; picks = picks; site = site } in
    let d : Cont = cont_at m j in
    carried_out (member_row f.Vector push_back_line) s (exception_if full)
    ≡ (if full then thrown
    else gives nothing (after (change_of classes.VectorInsert d (insertion d (size d) ((converted scalar.Int z, pos 0) ∷ []) picks)) m j d site)
    (drop (picks_with d.form d 1) picks))
push_case m j z picks site true = refl
push_case m j z picks site false = refl

pub lib-push_back : (m : Memory) (j : ℕ) (c : Cont) (z : ℤ) (picks : List ℕ) (site : ℕ) → slice_get m.conts j ≡ Some c → c.form ≡ f.Vector
    → lib (callees.Row push_back_row) (pushing site j z) m picks ≡ pushed_back m j c (converted scalar.Int z) picks site
lib-push_back m j c z picks site h form = ap (λ (r : Option Row). called_row r (pushing site j z) m picks) push_back_told
    ∙ (ap (on_object (member_row f.Vector push_back_line) (pushing site j z) m picks) (vector_there m j c (number z ∷ []) h form)
    ∙ (push_case m j z picks site (nat_lt ELEMENTS (size (cont_at m j) + 1))
    ∙ ap (λ (d : Cont). pushed_back m j d (converted scalar.Int z) picks site) (cont_at-there m j c h)))

-- what `*` gives where its operand stands
abbrev pub at_element : ℕ → ℕ → ℕ → Memory → List ℕ → LibOut
at_element j k n m picks = if k == n then trapped 4 1 else gives (element_at j k key_part) m picks

element_case : (j k : ℕ) (m : Memory) (picks : List ℕ) (at_end : Bool)
    → (elim (first_failure (fails_if at_end END_ITERATOR 1)) as (λ _. LibOut)
    [ Some f ↦ trapped f.0 f.1 | None ↦ gives (element_at j k key_part) m picks ])
    ≡ (if at_end then trapped 4 1 else gives (element_at j k key_part) m picks)
element_case j k m picks true = refl
element_case j k m picks false = refl

-- what `*` gives, by where its operand stands
abbrev star_at : Memory → List ℕ → Option (ℕ × ℕ) → LibOut
star_at m picks p = elim (first_failure (dereference_fails m p 1)) as (λ _. LibOut)
    [ Some f ↦ trapped f.0 f.1 | None ↦ gives (element_at (container_in p) (index_in p) key_part) m picks ]

-- the operand of `*`
abbrev pub starring : ℕ → Args
starring stamp = record { site = 0; object = None; values = iterator stamp ∷ [] }

pub lib-star_valid : (m : Memory) (stamp j k : ℕ) (picks : List ℕ) → locate m stamp ≡ Some (j, k)
    → lib (callees.Operator operators.Dereference) (starring stamp) m picks ≡ at_element j k (size (cont_at m j)) m picks
lib-star_valid m stamp j k picks h = ap (star_at m picks) h ∙ element_case j k m picks (k == size (cont_at m j))

pub lib-star_invalid : (m : Memory) (stamp : ℕ) (picks : List ℕ) → locate m stamp ≡ None
    → lib (callees.Operator operators.Dereference) (starring stamp) m picks ≡ trapped 1 1
lib-star_invalid m stamp picks h = ap (star_at m picks) h
