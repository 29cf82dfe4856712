-- What begins with another byte.
use Rattle.std.proofs.Common.{inl, sym, ◌∙◌}
use Rattle.sl_lexer.specs.declared.byte.First.TheVariants.{Other}
use Rattle.sl_lexer.proofs.FirstLaws.{at-read}
use Rattle.sl_lexer.proofs.front.front_of.Goals as goal

pub returns-in-Other : goal.returns-in-Other
returns-in-Other c = rw (at-read c.args.rest.now Other c.requires.some (sym c.in-Other.is ∙ c.first_of.ensures)) (inl c.other_front.ensures)
