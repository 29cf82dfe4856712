use Rattle.std.proofs.Common.{ap, inr, subst}
use Rattle.sl_syntax.specs.Begins.{IsProgram, Stops, words_in}
use Rattle.sl_syntax.proofs.BeginsLaws.{stops_once, not_whole}
use Rattle.sl_grammar.proofs.ProgramLaws.{within, stops, one_program, is_program}
use Rattle.sl_grammar.proofs.SoundPrograms.{read_program}
use Rattle.sl_parser.specs.declared.error.ParseErr.TheVariants.{Grammar}
use Rattle.sl_parser.proofs.ParseLaws.{same_token, not_memory}
use Rattle.sl_parser.proofs.program.parse.Goals as goal

pub overflow_sub-result : goal.overflow_sub-result
overflow_sub-result c =
    within c.args.tokens.now c.in-Err-Grammar.left
    (rw (c.new-cursor.ensures, c.in-Err-Grammar.field-0-is) at (c.in-Err-Grammar.ensures (not_memory c.in-Err-Grammar.field-0-is)))

pub returns-in-Ok-clause-shaped : goal.returns-in-Ok-clause-shaped
returns-in-Ok-clause-shaped c = (read_program c.args.tokens.now _ _ _ (rw c.new-cursor.ensures at c.in-Ok.ensures)).1

pub returns-in-Ok-clause-placed : goal.returns-in-Ok-clause-placed
returns-in-Ok-clause-placed c = (read_program c.args.tokens.now _ _ _ (rw c.new-cursor.ensures at c.in-Ok.ensures)).2

pub returns-in-Ok-clause-only_program : goal.returns-in-Ok-clause-only_program
returns-in-Ok-clause-only_program c p shaped placed =
    let read = read_program c.args.tokens.now _ _ _ (rw c.new-cursor.ensures at c.in-Ok.ensures) in
    one_program c.args.tokens.now _ p read.1 shaped read.2 placed

pub returns-in-Ok-clause-only_stop : goal.returns-in-Ok-clause-only_stop
returns-in-Ok-clause-only_stop c k stopped =
    let read = read_program c.args.tokens.now _ _ _ (rw c.new-cursor.ensures at c.in-Ok.ensures) in
    not_whole IsProgram (words_in c.args.tokens.now) k stopped (is_program c.args.tokens.now _ read.1 read.2)

pub returns-in-Err-Grammar-clause-stops : goal.returns-in-Err-Grammar-clause-stops
returns-in-Err-Grammar-clause-stops c k e =
    subst (Stops IsProgram (words_in c.args.tokens.now)) (same_token e)
    (stops c.args.tokens.now c.in-Err-Grammar.left
    (rw (c.new-cursor.ensures, c.in-Err-Grammar.field-0-is) at (c.in-Err-Grammar.ensures (not_memory c.in-Err-Grammar.field-0-is))))

pub returns-in-Err-Grammar-clause-only_program : goal.returns-in-Err-Grammar-clause-only_program
returns-in-Err-Grammar-clause-only_program c p shaped placed =
    absurd (not_whole IsProgram (words_in c.args.tokens.now) _
    (stops c.args.tokens.now c.in-Err-Grammar.left
    (rw (c.new-cursor.ensures, c.in-Err-Grammar.field-0-is) at (c.in-Err-Grammar.ensures (not_memory c.in-Err-Grammar.field-0-is))))
    (is_program c.args.tokens.now p shaped placed))

pub returns-in-Err-Grammar-clause-only_stop : goal.returns-in-Err-Grammar-clause-only_stop
returns-in-Err-Grammar-clause-only_stop c k stopped =
    let here = stops c.args.tokens.now c.in-Err-Grammar.left
    (rw (c.new-cursor.ensures, c.in-Err-Grammar.field-0-is) at (c.in-Err-Grammar.ensures (not_memory c.in-Err-Grammar.field-0-is))) in
    inr (ap Grammar (stops_once IsProgram (words_in c.args.tokens.now) _ k here stopped))
