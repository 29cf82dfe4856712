-- The nodes of a text that warnings are of.
use Rattle.std.proofs.Common.{◌≡◌, ℕ, ◌<◌, List, length, Some}
use Rattle.std.specs.Prelude.{slice_get, Contains}
use Rattle.sl_base.specs.declared.place.Place.{Place}
use Rattle.sl_base.specs.Places.{IsPlaceBefore}
use Rattle.sl_syntax.specs.declared.subset.Stmt.{Stmt}
use Rattle.sl_syntax.specs.declared.subset.Stmt.TheVariants.{Dereference}
use Rattle.sl_tool.specs.declared.analysis.Fault.{Fault}
use Rattle.sl_tool.specs.declared.analysis.Fault.TheVariants.{InvalidIterator, EndIterator}
use Rattle.sl_tool.specs.declared.analysis.Warning.{Warning as WarningCode}
use Rattle.sl_tool.specs.Exactness.{IsPushBefore}

-- an invalid iterator has sites that may have invalidated it, and at each of them a `push_back` stands before the `*`
abbrev pub HasCause : List Stmt → ℕ → Fault → Type 0
HasCause stmts index (InvalidIterator killers) = (0 < length killers) × ((site : ℕ) → Contains killers site → IsPushBefore stmts index site)
HasCause stmts index EndIterator = Unit {0}

-- a warning is of the `*` that stands at an index: it has its place and the name of its operand, and what it tells has a cause
pub record IsOfNode (stmts : List Stmt) (index : ℕ) (w : WarningCode) : Type 0 where
  pub iterator : ℕ
  pub variable : Place
  pub there : slice_get stmts index ≡ Some (Dereference w.place iterator w.name variable)
  pub cause : HasCause stmts index w.fault

-- two warnings are of nodes in their order, so there is at most one at each `*`
pub record AreInTurn (stmts : List Stmt) (v w : WarningCode) : Type 0 where
  pub first : ℕ
  pub second : ℕ
  pub of_first : IsOfNode stmts first v
  pub of_second : IsOfNode stmts second w
  pub order : first < second

-- the places of each `*` come in their order
abbrev pub PlacesAscend : List Stmt → Type 0
PlacesAscend stmts = (i j it jt name other : ℕ) (p q named also : Place) → i < j → slice_get stmts i ≡ Some (Dereference p it name named)
    → slice_get stmts j ≡ Some (Dereference q jt other also) → IsPlaceBefore p q
