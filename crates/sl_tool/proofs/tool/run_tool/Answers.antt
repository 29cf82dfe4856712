use Rattle.std.proofs.KnownBytes.{Keeps-refl}
use Rattle.sl_tool.proofs.OutcomeLaws.{NoFault-same}
use Rattle.sl_tool.proofs.tool.run_tool.Goals as goal

pub returns-in-Check : goal.returns-in-Check
returns-in-Check g c = rw (← c.in-Check.ensures) (c.check_file.ensures.others, c.check_file.ensures.checked)

pub returns-in-Specs : goal.returns-in-Specs
returns-in-Specs g c = rw (← c.in-Specs.ensures) (λ other. Keeps-refl _, NoFault-same _ _, c.list_rows.ensures)

pub returns-in-Unknown : goal.returns-in-Unknown
returns-in-Unknown g c =
    rw (← c.in-Unknown.ensures) (λ other. Keeps-refl _, NoFault-same _ _, rw c.as_bytes.ensures.value at c.deliver.ensures)
