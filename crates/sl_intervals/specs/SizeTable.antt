-- What a table of size facts tells.
use Rattle.std.specs.Prelude.{ℕ, ◌+◌, ◌*◌, Bool, true, false, slice_index_or}
use Rattle.sl_intervals.specs.declared.size_fact.SizeFact.{SizeFact}
use Rattle.sl_intervals.specs.declared.size_fact.SizeFact.TheVariants.{Nothing, Upto, Below}
use Rattle.sl_intervals.specs.declared.size_facts.SizeFacts.{SizeFacts}

-- what stands in the table at the number x of a scalar and the number c of a container
unfoldable pub told : SizeFacts → ℕ → ℕ → SizeFact
told facts x c = slice_index_or facts.entries (x * 16 + c) Nothing

-- a fact tells another: x < size(c) tells x <= size(c) too, and every fact tells itself and nothing
abbrev pub tells : SizeFact → SizeFact → Bool
tells Nothing Nothing = true
tells Nothing Upto = false
tells Nothing Below = false
tells Upto Nothing = true
tells Upto Upto = true
tells Upto Below = false
tells Below Nothing = true
tells Below Upto = true
tells Below Below = true
