-- Of errors that name a token.
use Rattle.std.proofs.Common.{◌≡◌, ◌≢◌, ℕ, Result, Err}
use Rattle.sl_parser.specs.declared.error.ParseErr.{ParseErr}
use Rattle.sl_parser.specs.declared.error.ParseErr.TheVariants.{Grammar}
use Rattle.sl_grammar.specs.declared.fault.Fault.{Fault}
use Rattle.sl_grammar.specs.declared.fault.Fault.TheVariants.{Memory, Grammar as Wrong}

pub not_memory : {f : Fault} {n : ℕ} → f ≡ Wrong n → f ≢ Memory
not_memory h = λ e. cc

pub same_token : {A : Type 0} {j k : ℕ} → ◌≡◌ {A = Result A ParseErr} (Err (Grammar j)) (Err (Grammar k)) → j ≡ k
same_token e = cc
