-- A report that warns has a cause: the plainest run of the text ends in the failure that the first warning tells of. So a report is empty
-- exactly where the text is safe. Each warning is of a node of the text.
use Rattle.std.specs.Prelude.{◌≡◌, ◌↔◌, ◌⊎◌, ℕ, ◌<◌, List, [], ◌∷◌, length, Some, Contains, slice_get, codes}
use Rattle.sl_base.specs.declared.failures.TheConstants.{INVALID_ITERATOR, END_ITERATOR}
use Rattle.sl_base.specs.declared.limits.TheConstants.{STATEMENTS}
use Rattle.sl_base.specs.declared.place.Place.{Place}
use Rattle.sl_syntax.specs.declared.subset.Stmt.{Stmt}
use Rattle.sl_syntax.specs.declared.subset.Stmt.TheVariants.{PushBack, Dereference}
use Rattle.sl_syntax.specs.declared.subset.Text.{Text}
use Rattle.sl_syntax.specs.Typed.{Typed}
use Rattle.sl_model.specs.Runs.Ends.{Trapped, Trap, Finish}
use Rattle.sl_model.specs.Runs.Run.{run}
use Rattle.sl_model.specs.Reports.Covers.{Warning, Tells, Safe}

-- the run with no input, with no schedule, and with as many steps as a text may have statements: where the schedule is empty, a
-- vector has no room beyond its elements
abbrev pub plain_run : Typed → Finish
plain_run p = run p [] [] STATEMENTS

-- that run ends in a trap that this warning tells of
pub record IsMet (p : Typed) (w : Warning) : Type 0 where
  pub trap : Trap
  pub traps : (plain_run p).end ≡ Trapped trap
  pub tells : Tells p.names w trap

-- the plainest run meets the first warning of the report, and the report is empty exactly where no run traps
pub record IsExact (p : Typed) (r : List Warning) : Type 0 where
  pub first : (w : Warning) (ws : List Warning) → r ≡ w ∷ ws → IsMet p w
  pub safe : (r ≡ []) ↔ Safe p

-- a `push_back` of this site stands among these statements before an index
pub record IsPushBefore (stmts : List Stmt) (index site : ℕ) : Type 0 where
  pub at : ℕ
  pub place : Place
  pub vector : ℕ
  pub name : ℕ
  pub number : ℕ
  pub there : slice_get stmts at ≡ Some (PushBack place vector name site number)
  pub before : at < index

-- the numbers ascend
abbrev pub Ascend : List ℕ → Type 0
Ascend ns = (i j a b : ℕ) → i < j → slice_get ns i ≡ Some a → slice_get ns j ≡ Some b → a < b

-- a site that is numbered in the text: the place with this number is that of a `push_back` before an index
pub record IsSiteBefore (p : Text) (index site : ℕ) : Type 0 where
  pub push : IsPushBefore p.stmts index site
  pub listed : slice_get p.sites site ≡ Some push.place

-- A warning of a report on a text is of one of its nodes, a `*` at the warning's place whose operand, argument 1, has its name. Its kind
-- is that of an invalid iterator, or of one at the end. The first has killers; they ascend, and each is a site of the text before the node.
pub record IsFounded (p : Text) (w : Warning) : Type 0 where
  pub index : ℕ
  pub iterator : ℕ
  pub name : ℕ
  pub variable : Place
  pub there : slice_get p.stmts index ≡ Some (Dereference w.place iterator name variable)
  pub named : w.name ≡ slice_get p.names name
  pub call : w.call ≡ codes "*"
  pub argument : w.argument ≡ 1
  pub kind : (w.kind ≡ INVALID_ITERATOR) ⊎ (w.kind ≡ END_ITERATOR)
  pub killed : w.kind ≡ INVALID_ITERATOR → 0 < length w.killers
  pub ascend : Ascend w.killers
  pub killers : (site : ℕ) → Contains w.killers site → IsSiteBefore p index site
