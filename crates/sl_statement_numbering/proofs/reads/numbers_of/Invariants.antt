use Rattle.std.proofs.Common.{◌≡◌, map, take}
use Rattle.sl_typing.specs.Scopes as scopes
use Rattle.sl_statement_numbering.proofs.reads.numbers_of.Given as goal

abbrev pub invariant-loop-variable : goal.invariant-loop-variable
invariant-loop-variable l = l.numbers ≡ map (λ x. scopes.number_of_name l.scope x.name) (take l.variable-index l.variables)
