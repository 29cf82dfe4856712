-- The bytes of a number are digits.
use Rattle.sl_lexer.proofs.WordLaws.{number-digits}
use Rattle.sl_lexer.proofs.number.number_front.Goals as goal

pub decimal-requires : goal.decimal-requires
decimal-requires c = rw c.number_len-len.ensures.count (number-digits c.args.rest.now c.requires.digit)
