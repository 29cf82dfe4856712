-- The library: what a call does to memory, with the picks that are left.
--
-- Restates ISO/IEC 14882:2017, [structure.specifications] and [res.on.required]: a call whose "Requires" doesn't hold has no
-- meaning, else it throws or has its effects and its result.
-- Chosen here: needs come first, by ascending kind and then argument; then exceptions; then the effect. A call that no row takes has
-- no meaning: a number without a row, an object that isn't there, is of another form or is too many, another number or sort of
-- operands. No run of a well typed text meets one.
use Rattle.std.specs.Prelude.{ℕ, List, length, Option, Some, None, slice_get, slice_index_or, if◌then◌else◌}
use Rattle.sl_base.specs.declared.form.Form.{Form}
use Rattle.sl_model.specs.Memory.Containers.{Memory, stamp_at}
use Rattle.sl_model.specs.LibraryCalls.Values.{Value, nothing as no_result, number, iterator, pair, two, element_at, Args, LibOut, trapped, thrown, faulted, gives}
use Rattle.sl_model.specs.LibraryCalls.Values.{unbuilt, Lib}
use Rattle.sl_model.specs.LibraryCalls.Operands.{is_of_form, are_of}
use Rattle.sl_model.specs.LibraryCalls.Situation.{Situation, own, container_of_value}
use Rattle.sl_model.specs.LibraryCalls.Needs.{first_failure}
use Rattle.sl_model.specs.LibraryCalls.Actions.{Answer, nothing, gives_number, gives_place, gives_place_and, gives_places, gives_element}
use Rattle.sl_model.specs.LibraryCalls.Actions.{Stop, never, exception, overflow}
use Rattle.sl_model.specs.LibraryCalls.Effects.{Left, does}
use Rattle.sl_model.specs.LibraryCalls.Rows.{Object, of_form, new_one, of_first, Row, row_of}

-- what is given in the memory after a call
abbrev pub value_in : Memory → Answer → Value
value_in m nothing = no_result
value_in m (gives_number z) = number z
value_in m (gives_place j k) = iterator (stamp_at m j k)
value_in m (gives_place_and j k b) = pair (stamp_at m j k) b
value_in m (gives_places j k i) = two (stamp_at m j k) (stamp_at m j i)
value_in m (gives_element j k part) = element_at j k part

-- a call has a container for its object, or it hasn't
abbrev pub object_in : Memory → Object → Option ℕ → List Value → Option ℕ
object_in m (of_form form) None vs = None
object_in m (of_form form) (Some j) vs = if is_of_form form (slice_get m.conts j) then Some j else None
object_in m (new_one form) None vs = Some (length m.conts)
object_in m (new_one form) (Some j) vs = None
object_in m of_first None vs = Some (container_of_value m (slice_index_or vs 0 no_result))
object_in m of_first (Some j) vs = None

-- the form on which an effect is carried out
abbrev pub form_of : Object → Situation → Form
form_of (of_form form) s = form
form_of (new_one form) s = form
form_of of_first s = (own s).form

-- what is left and what is given
abbrev pub returns : Row → Situation → Left → LibOut
returns r s left = gives (value_in left.memory (r.action.answer s)) left.memory left.picks

-- the effect is carried out, where nothing stops the run
abbrev pub carried_out : Row → Situation → Stop → LibOut
carried_out r s never = returns r s (does (form_of r.object s) r.class s (r.action.effect s))
carried_out r s exception = thrown
carried_out r s overflow = faulted 1

-- the first failure, else the effect
abbrev pub row_out : Row → Situation → LibOut
row_out r s = elim (first_failure (r.fails s)) [ Some f ↦ trapped f.0 f.1 | None ↦ carried_out r s (r.action.stops s) ]

-- a row on an object, where the operands are its
abbrev pub on_object : Row → Args → Memory → List ℕ → Option ℕ → LibOut
on_object r a m picks None = unbuilt
on_object r a m picks (Some j) =
    if are_of m r.operands a.values
    then row_out r (record { memory = m; object = j; values = a.values; picks = picks; site = a.site })
    else unbuilt

-- a row on what it is called with
abbrev pub called_row : Option Row → Args → Memory → List ℕ → LibOut
called_row None a m picks = unbuilt
called_row (Some r) a m picks = on_object r a m picks (object_in m r.object a.object a.values)

-- a call of the library
abbrev pub lib : Lib
lib callee a m picks = called_row (row_of callee) a m picks
