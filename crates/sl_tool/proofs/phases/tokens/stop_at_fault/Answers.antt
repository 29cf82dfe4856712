use Rattle.sl_model.specs.Reports.Refusals.{IsRefusal, by_token}
use Rattle.sl_tool.proofs.RefusalLaws.{is_line}
use Rattle.sl_tool.proofs.phases.tokens.stop_at_fault.Goals as goal

pub returns-in-Some : goal.returns-in-Some
returns-in-Some c = λ file line e.
    let fault = c.in-Some.ensures in
    is_line (IsRefusal file c.args.text.now) _ line e
    (rw (c.place_of.ensures, fault.2) (by_token c.requires.short fault.0 _ (c.requires.is_fault fault.0 _ fault.1)))
