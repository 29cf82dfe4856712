-- What is known describes a state of a run.
use Rattle.std.proofs.Common.{◌≡◌, ℕ, ◌≤◌, Bool, false, List, [], length, Some, ◌⊎◌}
use Rattle.std.specs.Prelude.{slice_get, slice_index_or, nat_lt, Contains}
use Rattle.sl_base.specs.declared.form.Form.TheVariants as f
use Rattle.sl_model.specs.Memory.Containers.{Memory, Cont, size, killer}
use Rattle.sl_model.specs.Memory.Edits.{numbers}
use Rattle.sl_model.specs.Runs.Good.{IsAt, IsSound}
use Rattle.sl_model.specs.Runs.State.{Pointer, mark_in, Frame}
use Rattle.sl_tool.specs.declared.analysis.Standing.{Standing}
use Rattle.sl_tool.specs.Means.Analysis.{Known, is_filled, killers_of}

-- An iterator stands at the begin of its vector, which has elements or hasn't as it was when the iterator was made; where it hadn't, no call
-- came since.
pub record Stays (m : Memory) (stamp : ℕ) (filled : Bool) (killers : List ℕ) (standing : Standing) : Type 0 where
  pub here : IsAt m standing.vector 0 stamp
  pub same : filled ≡ standing.at_element
  pub still : standing.at_element ≡ false → killers ≡ []

-- an iterator stays where it was made, or one of the calls since then dropped it
abbrev pub IsHere : Memory → ℕ → Known → Standing → Type 0
IsHere m stamp k standing = Stays m stamp (is_filled k standing.vector) (killers_of k standing) standing
    ⊎ ((site : ℕ) × (killer m stamp ≡ Some site) × Contains (killers_of k standing) site)

pub record Describes (k : Known) (m : Memory) (frame : Frame) (iters : List Pointer) : Type 0 where
  pub sound : IsSound m
  pub vectors : length m.conts ≡ length k.filled
  pub iterators : length iters ≡ length k.iterators
  pub conts_frame : frame.conts ≡ numbers 0 (length k.filled)
  pub iters_frame : frame.iters ≡ numbers 0 (length k.iterators)
  pub forms : (j : ℕ) (c : Cont) → slice_get m.conts j ≡ Some c → c.form ≡ f.Vector
  pub filled : (j : ℕ) (c : Cont) → slice_get m.conts j ≡ Some c → slice_index_or k.filled j false ≡ nat_lt 0 (size c)
  pub stands : (i : ℕ) (held : Pointer) (standing : Standing) → slice_get iters i ≡ Some held → slice_get k.iterators i ≡ Some standing
      → IsHere m (mark_in held) k standing
  pub since : (i : ℕ) (standing : Standing) → slice_get k.iterators i ≡ Some standing → standing.since ≤ length k.pushes
