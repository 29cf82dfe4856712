-- What a run of the tool did, by what its words ask for.
use Rattle.std.specs.Prelude.{◌≡◌, ℕ, List, take, Option, Some}
use Rattle.std.specs.Io.KnownBytes.{Appends, Keeps}
use Rattle.sl_base.specs.declared.limits.TheConstants.{TEXT_BYTES}
use Rattle.sl_base.specs.Outside.{Rose, NoFault, IsRead, IsReadInPart, OthersKept, AllKept}
use Rattle.sl_specs.specs.Printed.{table_text}
use Rattle.sl_tool.specs.declared.status.Status.{Status}
use Rattle.sl_tool.specs.declared.status.Status.TheVariants.{Passed, Usage, ReadFault, WriteFault, Memory}
use Rattle.sl_tool.specs.Answers.{AnswerTo}
use Rattle.sl_tool.specs.Command.{Command, check, specs, unknown}
use Rattle.sl_tool.specs.Texts.{usage_line, fault_line}

-- what files tell: the bytes of each name that aren't read yet, how often a read has failed, and the name whose read failed last
pub record FilesTell : Type 1 where
  pub left : List ℕ → Option (List ℕ)
  pub faults : ℕ
  pub blamed : List ℕ → Type 0

-- what a sink tells: the bytes that it took, and how often a write has failed
pub record SinkTells : Type 0 where
  pub taken : Option (List ℕ)
  pub faults : ℕ

-- no read failed
abbrev pub NoReadFailed : FilesTell → FilesTell → Type 0
NoReadFailed files files' = NoFault files.faults files'.faults files.blamed files'.blamed

-- a read of this file failed
abbrev pub ReadFailed : List ℕ → FilesTell → FilesTell → Type 0
ReadFailed file files files' = Rose files.faults files'.faults × files'.blamed file

-- no write failed
abbrev pub NoWriteFailed : SinkTells → SinkTells → Type 0
NoWriteFailed out out' = out'.faults ≡ out.faults

-- The sink took all the bytes and the status is told; or a write failed, and the sink took a first part of them.
pub data Written (status : Status) (bytes : List ℕ) (result : Status) (out out' : SinkTells) : Type 0 where
  whole : result ≡ status → NoWriteFailed out out' → Appends out.taken out'.taken bytes → Written status bytes result out out'
  in_part : result ≡ WriteFault → Rose out.faults out'.faults → (n : ℕ) → Appends out.taken out'.taken (take n bytes)
      → Written status bytes result out out'

-- The answer to a text that was read of a file. Where the file's bytes are told, it is the answer to all that was left of them at the start.
pub record AnswerOf (file text : List ℕ) (left left' : Option (List ℕ)) (status : Status) (bytes : List ℕ) : Type 0 where
  pub read : IsRead TEXT_BYTES text left left'
  pub answer : AnswerTo file text status bytes
  pub told : (all : List ℕ) → left ≡ Some all → AnswerTo file all status bytes

-- What a run of `check FILE` did: it wrote the answer to the text of the file, and no read failed; or a read of the file failed, and it wrote
-- that; or it ran out of memory and wrote nothing, and no read failed.
pub data Checked (file : List ℕ) (result : Status) (files files' : FilesTell) (out out' : SinkTells) : Type 0 where
  to_text : (text : List ℕ) (status : Status) (bytes : List ℕ) → AnswerOf file text (files.left file) (files'.left file) status bytes
      → NoReadFailed files files' → Written status bytes result out out' → Checked file result files files' out out'
  to_fault : ReadFailed file files files' → IsReadInPart TEXT_BYTES (files.left file) (files'.left file)
      → Written ReadFault (fault_line file) result out out' → Checked file result files files' out out'
  no_memory : result ≡ Memory → NoReadFailed files files' → IsReadInPart TEXT_BYTES (files.left file) (files'.left file)
      → NoWriteFailed out out' → Keeps out.taken out'.taken → Checked file result files files' out out'

-- What a run of `specs` did: it wrote the tables of the library; or it ran out of memory and wrote nothing.
pub data Listed (result : Status) (out out' : SinkTells) : Type 0 where
  all_rows : Written Passed table_text result out out' → Listed result out out'
  no_memory_for_rows : result ≡ Memory → NoWriteFailed out out' → Keeps out.taken out'.taken → Listed result out out'

-- What a run did, by what its words ask for: no byte left another file than the one to be checked. Words that are no command are answered by
-- the usage line.
abbrev pub Outcome : Command → Status → (files files' : FilesTell) (out out' : SinkTells) → Type 0
Outcome (check file) result files files' out out' = OthersKept files.left files'.left file × Checked file result files files' out out'
Outcome specs result files files' out out' = AllKept files.left files'.left × NoReadFailed files files' × Listed result out out'
Outcome unknown result files files' out out' = AllKept files.left files'.left × NoReadFailed files files' × Written Usage usage_line result out out'
