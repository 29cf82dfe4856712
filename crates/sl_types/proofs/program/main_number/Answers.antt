use Rattle.std.proofs.Common.{ℕ, Option, ◌∙◌, ap, sym, length}
use Rattle.std.specs.Option.{unwrap_or}
use Rattle.sl_types.proofs.ProgramLaws.{main_number-mapped, position-or_length}
use Rattle.sl_types.proofs.program.main_number.Goals as goal

pub returns : goal.returns
returns c =
    c.unwrap_or.ensures
    ∙ ap (λ (o : Option ℕ). unwrap_or o (length c.args.functions.now)) c.place_of_main.ensures
    ∙ position-or_length _ c.args.functions.now
    ∙ sym (main_number-mapped c.args.functions.now)
