-- Which vectors and iterators statements use.
use Rattle.std.proofs.Common.{ℕ, ◌+◌, ◌<◌, List, [], ◌∷◌}
use Rattle.sl_syntax.specs.declared.subset.Stmt.{Stmt}
use Rattle.sl_syntax.specs.declared.subset.Stmt.TheVariants.{Vector, PushBack, Begin, Dereference}

-- each statement uses vectors and iterators that are declared before it, of which there are this many at first
abbrev pub UsesDeclared : ℕ → ℕ → List Stmt → Type 0
UsesDeclared vectors iterators [] = Unit {0}
UsesDeclared vectors iterators (Vector place named ∷ ss) = UsesDeclared (vectors + 1) iterators ss
UsesDeclared vectors iterators (PushBack place vector name site number ∷ ss) = (vector < vectors) × UsesDeclared vectors iterators ss
UsesDeclared vectors iterators (Begin place vector name named ∷ ss) = (vector < vectors) × UsesDeclared vectors (iterators + 1) ss
UsesDeclared vectors iterators (Dereference place iterator name named ∷ ss) = (iterator < iterators) × UsesDeclared vectors iterators ss
