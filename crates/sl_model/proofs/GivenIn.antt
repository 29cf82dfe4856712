-- Where the answer of a row is: in which container, that an element that is given is there, and where the iterator operand stands in
-- whose container it is. An iterator that is given fits the form of its container.
use Rattle.std.proofs.Common.{◌≡◌, ℕ, ◌<◌, Bool, true, false, List, [], Some, None, length, ap, sym, ◌∙◌, subst}
use Rattle.std.proofs.Common.{arith}
use Rattle.std.specs.List.{slice_get}
use Rattle.std.proofs.lemmas.List.{length-map}
use Rattle.std.proofs.lemmas.Option.{slice_get-get_or, get_or_from_slice_get}
use Rattle.sl_base.specs.declared.form.Form.{Form}
use Rattle.sl_base.specs.declared.form.Form.TheVariants as f
use Rattle.sl_specs.specs.declared.return_type.ReturnType.{ReturnType}
use Rattle.sl_specs.specs.declared.return_type.ReturnType.TheVariants as returns
use Rattle.sl_model.specs.Memory.Containers.{Cell, Cont, Memory, size, stamps, refers, cont_at, stamp_at}
use Rattle.sl_model.specs.LibraryCalls.Values.{iterator}
use Rattle.sl_model.specs.LibraryCalls.Situation.{Situation, own, argument, index_in, place_in, place_of, index, container_of}
use Rattle.sl_model.specs.LibraryCalls.Needs.{first_failure}
use Rattle.sl_model.specs.LibraryCalls.Actions.{Answer, nothing, gives_number, gives_place, gives_place_and, gives_places, gives_element, never}
use Rattle.sl_model.specs.LibraryCalls.Rows.{Object, of_form, new_one, of_first, Row}
use Rattle.sl_model.specs.Runs.Good.{IsSound, IsAt}
use Rattle.sl_model.proofs.Getting.{get_left, get_some, get_map, get_within}
use Rattle.sl_model.proofs.Located.{same_pair, stamp-once, at-locate}
use Rattle.sl_model.proofs.Called.{HasObject, IsCalled, own_there, own_form}
use Rattle.sl_model.proofs.Placing.{HasPlace, place_stands}
use Rattle.sl_model.proofs.Tells.{memory_after}
use Rattle.sl_model.proofs.AlgorithmsTell.{container_there}
use Rattle.sl_model.proofs.Fitting.{forms_of, StampFits, KeepsForms}

-- what is given is in a container, where it is in one
abbrev pub AnswerIsIn : ℕ → Answer → Type 0
AnswerIsIn j nothing = Unit {0}
AnswerIsIn j (gives_number z) = Unit {0}
AnswerIsIn j (gives_place i k) = i ≡ j
AnswerIsIn j (gives_place_and i k b) = i ≡ j
AnswerIsIn j (gives_places i k h) = i ≡ j
AnswerIsIn j (gives_element i k part) = i ≡ j

-- a container has an element at an index
pub record HasElement (m : Memory) (j k : ℕ) : Type 0 where
  pub there : j < length m.conts
  pub within : k < size (cont_at m j)

-- an element that is given is there
abbrev pub ElementIsThere : Memory → Answer → Type 0
ElementIsThere m nothing = Unit {0}
ElementIsThere m (gives_number z) = Unit {0}
ElementIsThere m (gives_place j k) = Unit {0}
ElementIsThere m (gives_place_and j k b) = Unit {0}
ElementIsThere m (gives_places j k i) = Unit {0}
ElementIsThere m (gives_element j k part) = HasElement m j k

-- what a row gives is behind its output
abbrev pub is_output : ReturnType → Bool
is_output returns.Output = true
is_output gives = false

-- the operand in whose container the answer is: the last one of an algorithm with an output, and else the first
abbrev pub operand_given : Bool → Situation → ℕ
operand_given true s = length s.values
operand_given false s = 1

-- the container in which the answer is: that of the last operand of an algorithm with an output, and else the object
abbrev pub container_given : Bool → Situation → ℕ
container_given true s = container_of s (length s.values)
container_given false s = s.object

-- an operand of a call without an object stands in the container of the iterator that is given
abbrev pub OperandStands : Object → Situation → ℕ → Answer → Type 0
OperandStands (of_form form) s a answer = Unit {0}
OperandStands (new_one form) s a answer = Unit {0}
OperandStands of_first s a nothing = Unit {0}
OperandStands of_first s a (gives_number z) = Unit {0}
OperandStands of_first s a (gives_place j k) = place_of s a ≡ Some (j, index s a)
OperandStands of_first s a (gives_place_and j k b) = Unit {0}
OperandStands of_first s a (gives_places j k i) = Unit {0}
OperandStands of_first s a (gives_element j k part) = Unit {0}

-- where the answer of a row is, which has an output or hasn't
pub record GivesIn (last : Bool) (r : Row) (s : Situation) : Type 0 where
  pub in_container : AnswerIsIn (container_given last s) (r.action.answer s)
  pub element_there : ElementIsThere (memory_after r s) (r.action.answer s)
  pub stood : OperandStands r.object s (operand_given last s) (r.action.answer s)

-- by its three parts
pub given_in : {last : Bool} {r : Row} {s : Situation} → AnswerIsIn (container_given last s) (r.action.answer s)
    → ElementIsThere (memory_after r s) (r.action.answer s) → OperandStands r.object s (operand_given last s) (r.action.answer s) → GivesIn last r s
given_in in_container element_there stood = record { in_container = in_container; element_there = element_there; stood = stood }

-- so it is wherever the row is called, its needs hold and nothing stops it
abbrev pub RowGivesIn : Bool → Row → Type 0
RowGivesIn last r = (s : Situation) → IsCalled r s → first_failure (r.fails s) ≡ None → r.action.stops s ≡ never → GivesIn last r s

-- a place of a container is where its stamp stands
pub place_at : (m : Memory) (j k : ℕ) → HasPlace m j k → IsAt m j k (stamp_at m j k)
place_at m j k h = record {
  cont = cont_at m j;
  there = slice_get-get_or m.conts j (record { form = f.Vector; cells = []; end = m.fresh; room = 0 }) h.there;
  stands = by_place (place_stands (cont_at m j) k h.within);
}
  where
    by_place : (s : ℕ) × (slice_get (stamps (cont_at m j)) k ≡ Some s) → slice_get (stamps (cont_at m j)) k ≡ Some (stamp_at m j k)
    by_place r = r.1 ∙ ap (λ (s : ℕ). Some s) (sym (get_or_from_slice_get (stamps (cont_at m j)) k r.0 m.fresh r.1))

-- the form of a container that is there
pub form_at : (m : Memory) (j : ℕ) (c : Cont) → slice_get m.conts j ≡ Some c → slice_get (forms_of m) j ≡ Some c.form
form_at m j c e = get_map (λ (c : Cont). c.form) m.conts j c e

-- an iterator at a place of a container of a form fits the form
pub place_fits : (m : Memory) (j k : ℕ) (form : Form) → IsSound m → HasPlace m j k → slice_get (forms_of m) j ≡ Some form
    → StampFits m form (stamp_at m j k)
place_fits m j k form sound h e i n c there stands =
    let here = place_at m j k h in
    let same : i ≡ j = (stamp-once m sound i n j k (stamp_at m j k) (record { cont = c; there = there; stands = stands }) here).0 in
    let at : slice_get (forms_of m) j ≡ Some c.form = subst (λ (x : ℕ). slice_get (forms_of m) x ≡ Some c.form) same (form_at m i c there) in
    cc

-- the form of an object, in the memory before the call
pub object_form : (form : Form) (s : Situation) → HasObject (of_form form) s → slice_get (forms_of s.memory) s.object ≡ Some form
object_form form s there = form_at s.memory s.object (own s) (own_there form s there) ∙ ap (λ (x : Form). Some x) (own_form form s there)

-- and the form of the container in which an operand stands
pub operand_form : (s : Situation) (a : ℕ) (p : ℕ × ℕ) (form : Form) (stamp : ℕ) → argument s a ≡ iterator stamp → StampFits s.memory form stamp
    → place_of s a ≡ Some p → slice_get (forms_of s.memory) p.0 ≡ Some form
operand_form s a p form stamp e fits there =
    let at = at-locate s.memory stamp p (ap (place_in s.memory) (sym e) ∙ there) in
    form_at s.memory p.0 at.cont at.there ∙ ap (λ (x : Form). Some x) (fits p.0 p.1 at.cont at.there at.stands)

-- a container that keeps its form
pub form_kept : (m later : Memory) (more : List Form) (j : ℕ) (form : Form) → KeepsForms more m later → slice_get (forms_of m) j ≡ Some form
    → slice_get (forms_of later) j ≡ Some form
form_kept m later more j form kept e =
    ap (λ (xs : List Form). slice_get xs j) kept.forms ∙ (get_left (forms_of m) more j (get_within (forms_of m) j form e) ∙ e)

-- an element that is there has a number
pub element_read : (m : Memory) (j k : ℕ) → HasElement m j k → (refer : ℕ) × (slice_get (refers (cont_at m j)) k ≡ Some refer)
element_read m j k h = get_some (refers (cont_at m j)) k (within (length-map (cont_at m j).cells (λ (x : Cell). x.refer)))
  where
    within : length (refers (cont_at m j)) ≡ size (cont_at m j) → k < length (refers (cont_at m j))
    within e = let r : k < size (cont_at m j) = h.within in omega arith

-- an operand that stands somewhere stands in its container, at its index
pub stands_in : (s : Situation) (a : ℕ) (p : ℕ × ℕ) → place_of s a ≡ Some p → place_of s a ≡ Some (container_of s a, index s a)
stands_in s a p e =
    let j : container_of s a ≡ p.0 = container_there s.memory (argument s a) p e in
    let k : index s a ≡ p.1 = ap index_in e in
    e ∙ same_pair p.0 p.1 (container_of s a) (index s a) (sym j) (sym k)

-- the first operand stands in the object
pub first_stands : (s : Situation) (p : ℕ × ℕ) → HasObject of_first s → place_of s 1 ≡ Some p → place_of s 1 ≡ Some (s.object, index s 1)
first_stands s p there e = subst (λ (j : ℕ). place_of s 1 ≡ Some (j, index s 1)) (sym there) (stands_in s 1 p e)
