use Rattle.std.proofs.Common.{Bool, ap, ◌∙◌}
use Rattle.std.proofs.lemmas.Result.{err_from_is_err_and}
use Rattle.sl_syntax.specs.TreeView.{program_of}
use Rattle.sl_typing.specs.declared.rules.TheConstants as rule
use Rattle.sl_typing.specs.Faults.{broken}
use Rattle.sl_typing.specs.ProgramFaults.{first_place}
use Rattle.sl_typing.specs.Typing.{first_of}
use Rattle.sl_first_fault.proofs.FunctionLaws.{program, program_stops}
use Rattle.sl_first_fault.proofs.function.program.Goals as goal

pub returns-in_err-functions : goal.returns-in_err-functions
returns-in_err-functions c =
    let p = err_from_is_err_and c.from_residual.result c.from_residual.ensures.1 in
    rw (p.1, p.2)
    (program_stops _ c.args.known.now (program_of c.args.x.now) c.requires (rw c.deref.ensures.value at c.in_err-functions.ensures))

pub returns : goal.returns
returns c =
    program c.stop_at.result c.broken.result c.args.known.now c.functions.new.known (program_of c.args.x.now) c.requires
    (rw c.deref.ensures.value at c.in_ok-functions.ensures)
    (c.broken.ensures
    ∙ ap (λ (b : Bool). first_of (broken b first_place rule.NO_MAIN)) (rw c.deref-2.ensures.value at c.has_no_main.ensures))
    c.stop_at.ensures
