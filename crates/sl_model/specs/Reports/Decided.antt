-- Decided texts: texts so plain that one run, with no input, an empty schedule and 20,000 steps, is meant to tell whether any run fails. Said of
-- well typed texts.
--
-- No section of ISO/IEC 14882:2017 speaks of them: all of it is chosen here, and much of it follows what the standard leaves open. A decided text
-- - reads nothing: input may be anything;
-- - asks for no order of a hash form, which is the implementation's ([unord.req]): it takes no `begin`, and goes from no element to the next, be it
--   by `++`, in a range-for, in a range of a call, by `std::advance`, `std::next` or `std::distance`, or by what `erase(p)` gives;
-- - leaves nothing unspecified behind an end, as `std::remove` and `std::unique` do ([alg.remove], [alg.unique]).
-- How far a room lies above a size is open too ([vector.capacity], [unord.req]). But the empty schedule has the least room, which invalidates what
-- any other does. And that run can be followed step by step: there are no calls of the text's own functions, at most 20,000 steps and 1,000 tests
-- of loops, and no container of more than 64 elements.
use Rattle.std.specs.Prelude.{◌≡◌, ℕ, nat_le, Bool, true, false, not, ◌&&◌, ◌||◌, List, [], ◌∷◌, Option, Some, None}
use Rattle.std.specs.Prelude.{if◌then◌else◌}
use Rattle.std.specs.List.{list_all, list_any}
use Rattle.sl_base.specs.declared.form.Form.{Form}
use Rattle.sl_base.specs.declared.limits.TheConstants.{WINDOW}
use Rattle.sl_specs.specs.declared.call.Call.TheVariants as c
use Rattle.sl_specs.specs.declared.letter.Letter.{Letter}
use Rattle.sl_specs.specs.declared.letter.Letter.TheVariants as l
use Rattle.sl_specs.specs.Forms.{is_hash}
use Rattle.sl_specs.specs.Rows.{Row}
use Rattle.sl_specs.specs.Table.{table, same_call}
use Rattle.sl_syntax.specs.declared.typed.callee.Callee.{Callee}
use Rattle.sl_syntax.specs.declared.typed.callee.Callee.TheVariants as callees
use Rattle.sl_syntax.specs.declared.typed.operator.Operator.TheVariants as operators
use Rattle.sl_syntax.specs.Typed.{Typed}
use Rattle.sl_typing.specs.declared.expr_type.ExprType.{ExprType}
use Rattle.sl_typing.specs.declared.expr_type.ExprType.TheVariants as types
use Rattle.sl_typing.specs.Types.{is_iterator_that}
use Rattle.sl_typing.specs.Signatures.{row_at, is_algorithm}
use Rattle.sl_model.specs.Memory.Containers.{Memory, size}
use Rattle.sl_model.specs.LibraryCalls.Values.{LibOut, gives, unbuilt, Lib}
use Rattle.sl_model.specs.LibraryCalls.Library.{lib}
use Rattle.sl_model.specs.Runs.Ends.{End, OutOfSteps, NoMeaning}
use Rattle.sl_model.specs.Runs.Run.{run, run_over, main_out, end_state}
use Rattle.sl_model.specs.Reports.Deeds.{Deed, a_read, an_own_call, a_range_for, a_library_call, deeds_of}

-- the steps that the run is given
abbrev pub decided_steps : ℕ
decided_steps = 20000

-- the tests of loops that it may make
abbrev pub decided_tests : ℕ
decided_tests = 1000

-- an iterator of a hash form is among these types
abbrev pub has_hash_iterator : List ExprType → Bool
has_hash_iterator us = list_any (λ u. is_iterator_that (λ b x. is_hash x) u) us

-- the type of a hash form
abbrev pub is_hash_container : ExprType → Bool
is_hash_container (types.Container access x) = is_hash x
is_hash_container u = false

-- a row, if it is there, passes a test
abbrev pub passes : (Row → Bool) → Option Row → Bool
passes test None = false
passes test (Some row) = test row

-- what is called is a row of the table that passes a test
abbrev pub is_row_that : (Row → Bool) → Callee → Bool
is_row_that test (callees.Row n) = passes test (row_at n)
is_row_that test (callees.Appends n) = passes test (row_at n)
is_row_that test callee = false

-- the form of a row, if it has one, is a hash form
abbrev pub is_hash_form : Option Form → Bool
is_hash_form None = false
is_hash_form (Some x) = is_hash x

-- `begin()` of a hash form
abbrev pub is_hash_begin : Row → Bool
is_hash_begin row = is_hash_form row.form && same_call c.Begin row.call

-- these letters are a position alone
abbrev pub is_position : List Letter → Bool
is_position (l.Position ∷ []) = true
is_position letters = false

-- `erase(p)` of a hash form
abbrev pub is_hash_erase : Row → Bool
is_hash_erase row = is_hash_form row.form && same_call c.Erase row.call && is_position row.letters

-- a letter is a range
abbrev pub is_range : Letter → Bool
is_range l.OwnRange = true
is_range l.IntRange = true
is_range l.SecondIntRange = true
is_range l.WrittenRange = true
is_range l.RandomAccessRange = true
is_range l.AnyRange = true
is_range letter = false

-- a call that takes a range, or `std::advance`, `std::next` or `std::distance`
abbrev pub goes_along : Row → Bool
goes_along row = list_any is_range row.letters || same_call c.Advance row.call || same_call c.Next row.call || same_call c.Distance row.call

-- `std::remove` or `std::unique`; the members of a list that are called so erase what they take out
abbrev pub leaves_values : Row → Bool
leaves_values row = is_algorithm row && (same_call c.Remove row.call || same_call c.Unique row.call)

-- the text calls a function of its own
abbrev pub calls_its_own : Deed → Bool
calls_its_own an_own_call = true
calls_its_own d = false

-- it reads from `std::cin`
abbrev pub reads_input : Deed → Bool
reads_input a_read = true
reads_input d = false

-- it calls `begin()` of a hash form
abbrev pub begins_hash : Deed → Bool
begins_hash (a_library_call used callee us) = is_row_that is_hash_begin callee
begins_hash d = false

-- it has `++` of an iterator of a hash form
abbrev pub steps_in_hash : Deed → Bool
steps_in_hash (a_library_call used (callees.Operator operators.Increment) us) = has_hash_iterator us
steps_in_hash d = false

-- it has a range-for over a hash form
abbrev pub loops_over_hash : Deed → Bool
loops_over_hash (a_range_for u) = is_hash_container u
loops_over_hash d = false

-- it hands an iterator of a hash form to a call that takes a range, or to `std::advance`, `std::next` or `std::distance`. In a call that takes a
-- range each iterator of a hash form is an end of one: none is a position beside it or an output.
abbrev pub goes_along_hash : Deed → Bool
goes_along_hash (a_library_call used callee us) = is_row_that goes_along callee && has_hash_iterator us
goes_along_hash d = false

-- it uses what `erase(p)` of a hash form gives
abbrev pub uses_hash_erase : Deed → Bool
uses_hash_erase (a_library_call true callee us) = is_row_that is_hash_erase callee
uses_hash_erase d = false

-- it calls `std::remove` or `std::unique`
abbrev pub calls_leaving : Deed → Bool
calls_leaving (a_library_call used callee us) = is_row_that leaves_values callee
calls_leaving d = false

-- the text does nothing that passes a test
unfoldable pub never_does : (Deed → Bool) → Typed → Bool
unfolding table deeds_of
never_does test p = list_all (λ d. not (test d)) (deeds_of p)

-- a run is out of steps
abbrev pub is_out_of_steps : End → Bool
is_out_of_steps OutOfSteps = true
is_out_of_steps e = false

-- the run isn't out of steps
unfoldable pub ends_in_time : Typed → Bool
unfolding table
ends_in_time p = not (is_out_of_steps (run p [] [] decided_steps).end)

-- it makes no more tests of loops than it may
unfoldable pub makes_few_tests : Typed → Bool
unfolding table
makes_few_tests p = nat_le (end_state (main_out p [] [] decided_steps)).tests decided_tests

-- no container of a memory has more than n elements
abbrev pub holds_at_most : ℕ → Memory → Bool
holds_at_most n m = list_all (λ x. nat_le (size x) n) m.conts

-- what a call gives, unless it leaves a container of more than n elements
abbrev pub unless_above : ℕ → LibOut → LibOut
unless_above n (gives v m picks) = if holds_at_most n m then gives v m picks else unbuilt
unless_above n out = out

-- the library without the calls that leave a container of more than n elements: such a call has no meaning in it
abbrev pub lib_within : ℕ → Lib
lib_within n callee a m picks = unless_above n (lib callee a m picks)

-- a run ends at what has no meaning
abbrev pub is_without_meaning : End → Bool
is_without_meaning (NoMeaning at) = true
is_without_meaning e = false

-- at no moment of the run does a container have more than 64 elements: over the library without the calls that leave more, it meets none that is missing
unfoldable pub stays_small : Typed → Bool
unfolding table
stays_small p = not (is_without_meaning (run_over (lib_within WINDOW) p [] [] decided_steps).end)

-- a text is decided
pub record Decided (p : Typed) : Type 0 where
  pub no_own_call : never_does calls_its_own p ≡ true
  pub no_input : never_does reads_input p ≡ true
  pub no_hash_begin : never_does begins_hash p ≡ true
  pub no_hash_step : never_does steps_in_hash p ≡ true
  pub no_hash_loop : never_does loops_over_hash p ≡ true
  pub no_hash_range : never_does goes_along_hash p ≡ true
  pub no_hash_erase : never_does uses_hash_erase p ≡ true
  pub no_leaving : never_does calls_leaving p ≡ true
  pub in_time : ends_in_time p ≡ true
  pub few_tests : makes_few_tests p ≡ true
  pub small : stays_small p ≡ true
