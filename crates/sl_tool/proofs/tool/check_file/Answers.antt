use Rattle.std.proofs.Common.{refl, rules}
use Rattle.std.proofs.KnownBytes.{Keeps-refl}
use Rattle.sl_base.specs.declared.limits.TheConstants.{TEXT_BYTES}
use Rattle.sl_tool.specs.Outcome.{to_text, to_fault, no_memory}
use Rattle.sl_tool.proofs.AnswerLaws.{told}
use Rattle.sl_tool.proofs.OutcomeLaws.{NoFault-same, IsReadInPart-none}
use Rattle.sl_tool.proofs.tool.check_file.Goals as goal

pub returns-in_default-clause-others : goal.returns-in_default-clause-others
returns-in_default-clause-others g c = λ other is. Keeps-refl _

pub returns-in_default-clause-checked : goal.returns-in_default-clause-checked
returns-in_default-clause-checked g c = no_memory refl (NoFault-same _ _) (IsReadInPart-none TEXT_BYTES _) refl (Keeps-refl _)

pub returns-in-Err-Memory-clause-checked : goal.returns-in-Err-Memory-clause-checked
returns-in-Err-Memory-clause-checked g c =
    no_memory refl (c.in-Err-Memory.ensures.steady_memory (search rules)) c.in-Err-Memory.ensures.part refl (Keeps-refl _)

pub returns-in-Err-Failed-clause-checked : goal.returns-in-Err-Failed-clause-checked
returns-in-Err-Failed-clause-checked g c =
    to_fault (c.in-Err-Failed.ensures.risen (search rules), c.in-Err-Failed.ensures.blame (search rules)) c.in-Err-Failed.ensures.part
    (rw (c.as_bytes.ensures.value, c.in-Ok.ensures.ok) at c.deliver.ensures)

pub returns-in-Ok-answer-clause-checked : goal.returns-in-Ok-answer-clause-checked
returns-in-Ok-answer-clause-checked g c =
    let answer = rw c.deref.ensures.value at c.in-Ok-answer.ensures in
    let read = c.in-Ok-read_all.ensures.read in
    to_text c.in-Ok-read_all.text.items _ _
    (record { read = read; answer = answer; told = λ all e. told _ _ all _ _ _ _ read answer e })
    c.in-Ok-read_all.ensures.steady
    (rw c.as_slice.ensures at c.deliver-in-Ok-answer.ensures)
