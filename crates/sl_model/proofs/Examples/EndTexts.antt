-- The text of a run at each end, worked out by hand.
use Rattle.std.specs.Prelude.{◌≡◌, refl, [], ◌∷◌, Some, None, pos, negsuc, codes}
use Rattle.std.specs.Fmt.{digits}
use Rattle.sl_syntax.specs.Typed.{Typed}
use Rattle.sl_model.specs.Runs.Ends.{Done, Trapped, OutOfSteps, Language, Thrown}
use Rattle.sl_model.specs.Reports.EndText.{end_text}
use Rattle.sl_model.proofs.Examples.Short.{at, finish, trap, text_of}

-- a text with two sites, and variables of these names; a run's text asks no more of it
abbrev text : Typed
text = text_of [] 0 (at 5 5 ∷ at 14 3 ∷ []) (codes "v" ∷ codes "it" ∷ [])

done : end_text text (finish (Done (pos 0)) [] 0) ≡ codes "run: done 0\n"
unfolding digits
done = refl

done_below_zero : end_text text (finish (Done (negsuc 41)) [] 0) ≡ codes "run: done -42\n"
unfolding digits
done_below_zero = refl

-- the last line of the output is ended where it isn't
output_without_line_end : end_text text (finish OutOfSteps (codes "1\n2") 0) ≡ codes "1\n2\nrun: out of steps\n"
output_without_line_end = refl

output_with_line_end : end_text text (finish OutOfSteps (codes "12\n") 0) ≡ codes "12\nrun: out of steps\n"
output_with_line_end = refl

only_line_end : end_text text (finish OutOfSteps (codes "\n") 0) ≡ codes "\nrun: out of steps\n"
only_line_end = refl

-- what is lost is counted, behind the end of the last line
lost_bytes : end_text text (finish (Done (pos 3)) (codes "ab") 464) ≡ codes "ab\nrun: output cut, 464 bytes lost\nrun: done 3\n"
unfolding digits
lost_bytes = refl

one_lost_byte : end_text text (finish OutOfSteps (codes "ab\n") 1) ≡ codes "ab\nrun: output cut, 1 bytes lost\nrun: out of steps\n"
unfolding digits
one_lost_byte = refl

-- a failed need of an invalid iterator tells where it was dropped
invalid_iterator : end_text text (finish (Trapped (trap (at 6 11) 1 (codes "*") 1 (Some 1) (Some 0))) [] 0)
    ≡ codes "run: trap at 6:11: invalid iterator in *: it, invalidated at 5:5\n"
unfolding digits
invalid_iterator = refl

-- without a name the argument is told by its number
argument_without_name : end_text text (finish (Trapped (trap (at 21 3) 1 (codes "copy") 3 None (Some 1))) (codes "7") 0)
    ≡ codes "7\nrun: trap at 21:3: invalid iterator in copy: argument 3, invalidated at 14:3\n"
unfolding digits
argument_without_name = refl

empty_container : end_text text (finish (Trapped (trap (at 3 13) 6 (codes "front") 0 (Some 0) None)) [] 0)
    ≡ codes "run: trap at 3:13: empty container in front: v\n"
unfolding digits
empty_container = refl

-- the iterators of a range-for are told by its container
begin_in_for : end_text text (finish (Trapped (trap (at 4 3) 1 (codes "for") 1 (Some 0) (Some 1))) [] 0)
    ≡ codes "run: trap at 4:3: invalid iterator in for: begin of v, invalidated at 14:3\n"
unfolding digits
begin_in_for = refl

end_in_for : end_text text (finish (Trapped (trap (at 4 3) 2 (codes "for") 2 (Some 0) None)) [] 0)
    ≡ codes "run: trap at 4:3: wrong container in for: end of v\n"
unfolding digits
end_in_for = refl

-- the five faults of the language
overflow : end_text text (finish (Language (at 4 9) 1) [] 0) ≡ codes "run: language fault at 4:9: overflow\n"
unfolding digits
overflow = refl

zero_divisor : end_text text (finish (Language (at 4 9) 2) [] 0) ≡ codes "run: language fault at 4:9: zero divisor\n"
unfolding digits
zero_divisor = refl

unset_variable : end_text text (finish (Language (at 10 12) 3) [] 0) ≡ codes "run: language fault at 10:12: unset variable\n"
unfolding digits
unset_variable = refl

no_return_value : end_text text (finish (Language (at 9 1) 4) (codes "x") 0) ≡ codes "x\nrun: language fault at 9:1: no return value\n"
unfolding digits
no_return_value = refl

too_many_calls : end_text text (finish (Language (at 3 10) 5) [] 0) ≡ codes "run: language fault at 3:10: too many calls\n"
unfolding digits
too_many_calls = refl

exception : end_text text (finish (Thrown (at 7 5)) [] 0) ≡ codes "run: exception at 7:5\n"
unfolding digits
exception = refl
