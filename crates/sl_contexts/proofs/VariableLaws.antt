-- Where the numbers of all names fit, that of each does.
use Rattle.std.proofs.Common.{ℕ, ◌<◌, ◌^◌, List, length, get_or, subst}
use Rattle.std.proofs.Math.ListN.{get_or-map}
use Rattle.std.proofs.lemmas.List.{length-map}
use Rattle.std.specs.List.{All}
use Rattle.sl_syntax.specs.declared.typed.variable.Variable.{Variable}
use Rattle.sl_contexts.specs.declared.own_variable.DeclaredVariable.{DeclaredVariable}
use Rattle.sl_contexts.specs.VariableView.{variable_seen, variables_seen}

-- the number of a name fits
abbrev fits : Variable → Type 0
fits v = v.name < 2 ^ 16

pub name_fits : (vs : List DeclaredVariable) (i : ℕ) (d : DeclaredVariable) → i < length vs → All fits (variables_seen vs)
    → (get_or vs i d).name < 2 ^ 16
name_fits vs i d lt all =
    subst fits (get_or-map variable_seen vs i d) (all i (variable_seen d) (rw (length-map vs variable_seen) lt))
