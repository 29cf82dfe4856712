-- Variables of which one came into scope are those of the state in which it did.
use Rattle.std.proofs.Common.{◌≡◌, ℕ, ◌<◌, List, [], ◌∷◌, ◌++◌, Option, map, length, refl, ap, sym, ◌∙◌, subst, arith}
use Rattle.std.specs.Prelude.{ℤ}
use Rattle.std.proofs.lemmas.List.{length-map}
use Rattle.sl_base.specs.declared.scalar.Scalar.{Scalar}
use Rattle.sl_model.specs.LibraryCalls.Values.{Value}
use Rattle.sl_model.specs.Memory.Containers.{Memory}
use Rattle.sl_model.specs.Runs.Good.{AreBelow, IsGood}
use Rattle.sl_model.specs.Runs.State.{Frame, Pointer, Slot, State, mark_in, new_scalar, new_pointer, new_container}
use Rattle.sl_model.proofs.Levels.{level_of, Now, new_scalar-now, new_pointer-now}
use Rattle.sl_model.proofs.Locations.{below_one_more}
use Rattle.sl_model.proofs.Making.{map_last}
use Rattle.sl_slots.specs.declared.slot.Pointer.{Pointer as PointerCode}
use Rattle.sl_slots.specs.declared.store.Store.{Store}
use Rattle.sl_slots.specs.Shown.{Holds, contents, pointer_of}
use Rattle.sl_frames.specs.declared.variables.Variables.{Variables}
use Rattle.sl_frames.specs.Followed.{Follows, Mirrors, variable_of}
use Rattle.sl_frames.specs.Changed.{ScalarCame, ScalarNamed, PointerCame, ContainerCame}

-- a good state is at its own level
pub at_its_level : (s : State) → IsGood s → Now (level_of s) s.memory.fresh s
at_its_level s good = record { good = good; level = refl; later = omega arith }

-- a scalar came into scope
pub scalar_mirrors : (ty : Scalar) (z : Option ℤ) (old new : Variables) (s : State) (held : List Value) → ScalarCame ty z old new
    → Mirrors old s held → Mirrors new (new_scalar ty z s) held
scalar_mirrors ty z old new s held is h = record {
  frame = is.frame ∙ (ap (λ (f : Frame). record f { scalars = f.scalars ++ length old.scalars.items ∷ [] }) h.frame
      ∙ ap (λ (n : ℕ). record s.frame { scalars = s.frame.scalars ++ n ∷ [] }) many);
  scalars = is.scalars ∙ ap (λ (l : List Slot). l ++ record { ty = ty; value = z } ∷ []) h.scalars;
  store = subst (λ (st : Store). Holds st s.memory s.iters held) (sym is.store) h.store;
}
  where
    many : length old.scalars.items ≡ length s.scalars
    many = sym (length-map old.scalars.items variable_of) ∙ ap (λ (l : List Slot). length l) h.scalars

pub scalar_follows : (ty : Scalar) (z : Option ℤ) (old new : Variables) (s : State) (held : List Value) → ScalarCame ty z old new
    → Follows old s held → Follows new (new_scalar ty z s) held
scalar_follows ty z old new s held is h = record {
  good = (new_scalar-now (level_of s) s.memory.fresh ty z s (at_its_level s h.good)).good;
  mirrors = scalar_mirrors ty z old new s held is h.mirrors;
}

-- a scalar got a further name
pub named_mirrors : (at : ℕ) (old new : Variables) (s : State) (held : List Value) → ScalarNamed at old new → Mirrors old s held
    → Mirrors new (record s { frame = record s.frame { scalars = s.frame.scalars ++ at ∷ [] } }) held
named_mirrors at old new s held is h = record {
  frame = is.frame ∙ ap (λ (f : Frame). record f { scalars = f.scalars ++ at ∷ [] }) h.frame;
  scalars = ap (λ v. map variable_of v.items) is.scalars ∙ h.scalars;
  store = subst (λ (st : Store). Holds st s.memory s.iters held) (sym is.store) h.store;
}

-- a store in which one more is held
pub more_held : (old new : Store) (x : PointerCode) (m : Memory) (ps : List Pointer) (held : List Value) (q : Pointer) → mark_in q < m.fresh
    → pointer_of m q ≡ x → new.containers ≡ old.containers → new.pointers.items ≡ old.pointers.items ++ x ∷ []
    → new.operands ≡ old.operands → Holds old m ps held → Holds new m (ps ++ q ∷ []) held
more_held old new x m ps held q low same containers pointers operands h = record {
  sound = h.sound;
  pointers_used = subst (λ (l : List ℕ). AreBelow l m.fresh) (sym (map_last mark_in ps q))
      (below_one_more (map mark_in ps) (mark_in q) m.fresh h.pointers_used low);
  operands_used = h.operands_used;
  shows = record {
    containers = ap (λ v. map contents v.items) containers ∙ h.shows.containers;
    pointers = pointers ∙ (ap (λ (l : List PointerCode). l ++ x ∷ []) h.shows.pointers
        ∙ (ap (λ (y : PointerCode). map (pointer_of m) ps ++ y ∷ []) (sym same) ∙ sym (map_last (pointer_of m) ps q)));
    operands = ap (λ v. v.items) operands ∙ h.shows.operands;
  };
}

-- an iterator or a reference came into scope
pub pointer_mirrors : (x : PointerCode) (old new : Variables) (s : State) (held : List Value) (q : Pointer) → mark_in q < s.memory.fresh
    → pointer_of s.memory q ≡ x → PointerCame x old new → Mirrors old s held → Mirrors new (new_pointer q s) held
pointer_mirrors x old new s held q low same is h = record {
  frame = is.frame ∙ (ap (λ (f : Frame). record f { iters = f.iters ++ length old.store.pointers.items ∷ [] }) h.frame
      ∙ ap (λ (n : ℕ). record s.frame { iters = s.frame.iters ++ n ∷ [] }) many);
  scalars = ap (λ v. map variable_of v.items) is.scalars ∙ h.scalars;
  store = more_held old.store new.store x s.memory s.iters held q low same is.containers is.pointers is.operands h.store;
}
  where
    many : length old.store.pointers.items ≡ length s.iters
    many = ap (λ (l : List PointerCode). length l) h.store.shows.pointers ∙ length-map s.iters (pointer_of s.memory)

pub pointer_follows : (x : PointerCode) (old new : Variables) (s : State) (held : List Value) (q : Pointer) → mark_in q < s.memory.fresh
    → pointer_of s.memory q ≡ x → PointerCame x old new → Follows old s held → Follows new (new_pointer q s) held
pointer_follows x old new s held q low same is h = record {
  good = (new_pointer-now (level_of s) s.memory.fresh q s low (at_its_level s h.good)).good;
  mirrors = pointer_mirrors x old new s held q low same is h.mirrors;
}

-- a container came into scope
pub container_mirrors : (at : ℕ) (old new : Variables) (s : State) (held : List Value) → ContainerCame at old new → Mirrors old s held
    → Mirrors new (new_container at s) held
container_mirrors at old new s held is h = record {
  frame = is.frame ∙ ap (λ (f : Frame). record f { conts = f.conts ++ at ∷ [] }) h.frame;
  scalars = ap (λ v. map variable_of v.items) is.scalars ∙ h.scalars;
  store = subst (λ (st : Store). Holds st s.memory s.iters held) (sym is.store) h.store;
}

-- ## States that differ in what isn't kept here

-- input, picks, steps, tests and the bytes written may be any
pub others_follow : (now : Variables) (s : State) (held : List Value) (input : List ℤ) (picks : List ℕ) (steps tests : ℕ) (written : List ℕ)
    → Follows now s held
    → Follows now (record s { input = input; picks = picks; steps = steps; tests = tests; written = written }) held
others_follow now s held input picks steps tests written h = record {
  good = record {
    sound = h.good.sound;
    scalars = h.good.scalars;
    iters = h.good.iters;
    conts = h.good.conts;
    apart = h.good.apart;
    held = h.good.held;
  };
  mirrors = record { frame = h.mirrors.frame; scalars = h.mirrors.scalars; store = h.mirrors.store };
}
