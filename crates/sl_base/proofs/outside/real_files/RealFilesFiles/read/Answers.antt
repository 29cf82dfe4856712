use Rattle.sl_base.proofs.WordLaws.{IsWordAt-some}
use Rattle.sl_base.proofs.outside.real_files.RealFilesFiles.read.Goals as goal

pub returns-in-Ok-read-clause-is_word : goal.returns-in-Ok-read-clause-is_word
returns-in-Ok-read-clause-is_word g c = IsWordAt-some _ _ _ (rw c.deref.ensures.value at c.in-Some.ensures)
