-- Edits as the code makes them, told by the edits of the model.
use Rattle.std.specs.Prelude.{◌≡◌, ℕ, List}
use Rattle.sl_model.specs.Memory.Containers.{Cont, size}
use Rattle.sl_model.specs.LibraryCalls.Effects.{insertion_class, room_with}
use Rattle.sl_slots.specs.declared.edit.Edit.{Edit}

-- an edit by which an element comes at the end of a sequence, with these picks left
pub record IsEndInsertion (e : Edit) (c : Cont) (picks : List ℕ) : Type 0 where
  pub class : e.class ≡ insertion_class c.form
  pub from : e.from ≡ size c
  pub gone : e.gone ≡ 0
  pub room : e.room ≡ room_with c.form c 1 picks
