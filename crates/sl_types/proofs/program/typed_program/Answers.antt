use Rattle.std.proofs.Common.{◌<◌, ◌^◌, ◌∙◌, ap, map, arith}
use Rattle.sl_syntax.specs.TreeView.{function_of, program_of}
use Rattle.sl_typing.specs.Typing.{main_number}
use Rattle.sl_number_limits.proofs.Programs.{functions_break_none}
use Rattle.sl_types.proofs.ProgramLaws.{main_narrow, parts-typed_program}
use Rattle.sl_types.proofs.program.typed_program.Goals as goal

pub typed_functions-requires-clause-kept : goal.typed_functions-requires-clause-kept
typed_functions-requires-clause-kept c =
    rw (c.new-known.ensures, c.as_slice.ensures.value) (functions_break_none (program_of c.args.p.now) c.requires)

pub overflow_cast-main : goal.overflow_cast-main
overflow_cast-main c =
    let narrow : main_number (map function_of c.as_slice-2.result.now) < 2 ^ 16 =
    rw c.as_slice-2.ensures.value (main_narrow (program_of c.args.p.now) c.requires) in
    omega (arith, c.main_number-main.ensures, narrow)

pub returns : goal.returns
returns c =
    parts-typed_program (program_of c.args.p.now) (map function_of c.as_slice.result.now) c.new-known.result c.typed_functions.new.known
    _ _ _ _ _ _ c.new-known.ensures (ap (map function_of) c.as_slice.ensures.value)
    c.in_ok-functions.ensures.typed
    (c.main_number-main.ensures ∙ ap (λ fs. main_number (map function_of fs)) c.as_slice-2.ensures.value)
    c.in_ok-functions.ensures.behind c.into_parts-sites.ensures.sites c.into_parts-sites.ensures.loops c.into_parts-sites.ensures.names
    c.in_ok-constants.ensures
