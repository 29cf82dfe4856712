use Rattle.sl_tool.specs.Answers.{refused}
use Rattle.sl_tool.proofs.tool.answer.Goals as goal

pub check-requires : goal.check-requires
check-requires c = c.in-Ok.ensures.so

pub returns-in_ok-line-in-Err : goal.returns-in_ok-line-in-Err
returns-in_ok-line-in-Err c = refused _ (c.in-Err.ensures.refused _ _ c.in_ok-line-in-Err.ensures)
