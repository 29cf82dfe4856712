-- What is within the limits while a function is typed.
use Rattle.std.proofs.Common.{◌<◌, ◌^◌, length, arith}
use Rattle.std.specs.List.{All}
use Rattle.sl_typing.specs.Contexts.{Context}
use Rattle.sl_number_limits.specs.Fits.{Fits}
use Rattle.sl_number_limits.proofs.ContextLaws.{labels_stay}
use Rattle.sl_number_limits.proofs.Narrow.{names_are_narrow}

-- the numbers of the names of declared variables fit 16 bits
pub labels_narrow : (g : Context) → Fits g → All (λ v. v.name < 2 ^ 16) g.variables
labels_narrow g f =
    let few = names_are_narrow g f in
    labels_stay (length g.names) (2 ^ 16) (omega arith) g.variables f.labels
