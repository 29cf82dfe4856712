-- Lists of numbers at their edges, each worked out by hand: what is one, which numbers it has, and at which offset bytes are bad.
use Rattle.std.proofs.Common.{◌≡◌, refl, arith, true, [], ◌∷◌, pos, negsuc, codes}
use Rattle.sl_model.specs.Reports.Lists.{words_of, int_of, pick_of, ListOf, begins_list, BadAt, at_byte, at_end}

-- blanks part words, of all four kinds, and stand at both ends
words_between_blanks : words_of (32 ∷ 49 ∷ 9 ∷ 50 ∷ 51 ∷ 13 ∷ 10 ∷ 45 ∷ 52 ∷ 32 ∷ 32 ∷ []) ≡ codes "1" ∷ codes "23" ∷ codes "-4" ∷ []
words_between_blanks = refl

ints : ListOf int_of (codes " 1 23\n-4  ") (pos 1 ∷ pos 23 ∷ negsuc 3 ∷ [])
ints = record { short = omega arith; few = omega arith; each = refl }

picks : ListOf pick_of (codes "0 5\n7") (0 ∷ 5 ∷ 7 ∷ [])
picks = record { short = omega arith; few = omega arith; each = refl }

-- a list may be empty
no_bytes : ListOf int_of [] []
no_bytes = record { short = omega arith; few = omega arith; each = refl }

only_blanks : ListOf pick_of (codes " \n ") []
only_blanks = record { short = omega arith; few = omega arith; each = refl }

-- leading zeros may stand, and a 0 behind a `-`
leading_zeros : ListOf int_of (codes "007 -0 -007 00000000000001") (pos 7 ∷ pos 0 ∷ negsuc 6 ∷ pos 1 ∷ [])
leading_zeros = record { short = omega arith; few = omega arith; each = refl }

-- the largest and the least int
ends_of_ints : ListOf int_of (codes "2147483647 -2147483648") (pos 2147483647 ∷ negsuc 2147483647 ∷ [])
ends_of_ints = record { short = omega arith; few = omega arith; each = refl }

-- the digit that makes a number no int is bad
above_ints : BadAt int_of (codes "2147483648") 9
above_ints = at_byte 9 (omega arith) refl refl

ten_times_too_large : BadAt int_of (codes "21474836470") 10
ten_times_too_large = at_byte 10 (omega arith) refl refl

below_ints : BadAt int_of (codes "5 -02147483649") 13
below_ints = at_byte 13 (omega arith) refl refl

end_of_picks : ListOf pick_of (codes "4294967295") (4294967295 ∷ [])
end_of_picks = record { short = omega arith; few = omega arith; each = refl }

above_picks : BadAt pick_of (codes "4294967296") 9
above_picks = at_byte 9 (omega arith) refl refl

-- no `-` stands in a schedule, also not before a 0
minus_in_schedule : BadAt pick_of (codes "3 -0") 2
minus_in_schedule = at_byte 2 (omega arith) refl refl

-- a byte that stands nowhere
letter : BadAt int_of (codes "12x") 2
letter = at_byte 2 (omega arith) refl refl

plus : BadAt int_of (codes "+1") 0
plus = at_byte 0 (omega arith) refl refl

comma : BadAt pick_of (codes "1, 2") 1
comma = at_byte 1 (omega arith) refl refl

-- a vertical tab, a form feed and a zero byte are no blanks
vertical_tab : BadAt int_of (49 ∷ 11 ∷ 50 ∷ []) 1
vertical_tab = at_byte 1 (omega arith) refl refl

form_feed : BadAt pick_of (12 ∷ []) 0
form_feed = at_byte 0 (omega arith) refl refl

zero_byte : BadAt int_of (32 ∷ 0 ∷ []) 1
zero_byte = at_byte 1 (omega arith) refl refl

-- a `-` stands directly before digits, and behind none
minus_behind_digit : BadAt int_of (codes "1-2") 1
minus_behind_digit = at_byte 1 (omega arith) refl refl

two_minus : BadAt int_of (codes "--1") 1
two_minus = at_byte 1 (omega arith) refl refl

blank_behind_minus : BadAt int_of (codes "1 - 2") 3
blank_behind_minus = at_byte 3 (omega arith) refl refl

-- bytes that end in a `-` are bad at their end
ends_in_minus : BadAt int_of (codes "7 -") 3
ends_in_minus = at_end refl refl

only_minus : BadAt int_of (codes "-") 1
only_minus = at_end refl refl

-- so they begin a list
minus_begins : begins_list int_of (codes "7 -") ≡ true
minus_begins = refl
