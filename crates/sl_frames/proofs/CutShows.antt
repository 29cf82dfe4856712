-- Variables of which the last ones ended are those of the state in which the scope ended.
use Rattle.std.proofs.Common.{◌≡◌, ℕ, List, [], ◌∷◌, ◌++◌, map, length, take, refl, ap, sym, ◌∙◌, subst, arith}
use Rattle.std.proofs.Math.Seq.{take-append_seam}
use Rattle.std.proofs.lemmas.List.{length-map, take-map}
use Rattle.sl_model.specs.LibraryCalls.Values.{Value}
use Rattle.sl_model.specs.Memory.Containers.{Memory, end_from}
use Rattle.sl_model.specs.Runs.Exec.{Flow, Next, Broke, Continued, Returned, Over, scoped}
use Rattle.sl_model.specs.Runs.Good.{AreBelow, IsGood}
use Rattle.sl_model.specs.Runs.State.{Frame, Pointer, Slot, State, mark_in, leave}
use Rattle.sl_model.proofs.Gifts.{AllUsed}
use Rattle.sl_model.proofs.Levels.{level_of, Above, above_less, leave-now}
use Rattle.sl_model.proofs.Locations.{below_take}
use Rattle.sl_slots.specs.declared.slot.Pointer.{Pointer as PointerCode}
use Rattle.sl_slots.specs.declared.slot.Value.{Value as ValueCode}
use Rattle.sl_slots.specs.declared.store.Store.{Store}
use Rattle.sl_slots.specs.Shown.{Holds, Plain, contents, plain, pointer_of, value_of}
use Rattle.sl_frames.specs.declared.heights.Heights.{Heights}
use Rattle.sl_frames.specs.declared.variables.Variables.{Variables}
use Rattle.sl_frames.specs.Followed.{Follows, FollowsFlow, Mirrors, AreHeights, AreCounts, IsFront, frame_of, variable_of}
use Rattle.sl_frames.specs.Changed.{StacksCut, frame_cut, heights_of}

-- a store in which the first variables alone are held
pub fewer_held : (old new : Store) (k : ℕ) (m : Memory) (ps : List Pointer) (held : List Value) → new.containers ≡ old.containers
    → new.pointers.items ≡ take k old.pointers.items → new.operands ≡ old.operands → Holds old m ps held → Holds new m (take k ps) held
fewer_held old new k m ps held containers pointers operands h = record {
  sound = h.sound;
  pointers_used = subst (λ (l : List ℕ). AreBelow l m.fresh) (take-map mark_in k ps) (below_take k (map mark_in ps) m.fresh h.pointers_used);
  operands_used = h.operands_used;
  shows = record {
    containers = ap (λ v. map contents v.items) containers ∙ h.shows.containers;
    pointers = pointers ∙ (ap (λ (l : List PointerCode). take k l) h.shows.pointers ∙ take-map (pointer_of m) k ps);
    operands = ap (λ v. v.items) operands ∙ h.shows.operands;
  };
}

-- a frame of these
abbrev as_frame : List ℕ → List ℕ → List ℕ → Frame
as_frame a b c = record { scalars = a; conts = b; iters = c }

-- the front of a frame is cut out of it
pub front_cut : (h : Heights) (f g : Frame) → AreCounts h f → IsFront f g → frame_cut h g ≡ f
front_cut h f g c front =
    ap (λ (n : ℕ). as_frame (take n g.scalars) (take h.containers g.conts) (take h.pointers g.iters)) c.of_scalars
    ∙ (ap (λ (n : ℕ). as_frame (take (length f.scalars) g.scalars) (take n g.conts) (take h.pointers g.iters)) c.of_containers
    ∙ (ap (λ (n : ℕ). as_frame (take (length f.scalars) g.scalars) (take (length f.conts) g.conts) (take n g.iters)) c.of_pointers
    ∙ (ap (λ (l : List ℕ). as_frame l (take (length f.conts) g.conts) (take (length f.iters) g.iters)) front.scalars
    ∙ (ap (λ (l : List ℕ). as_frame f.scalars l (take (length f.iters) g.iters)) front.conts
    ∙ ap (λ (l : List ℕ). as_frame f.scalars f.conts l) front.iters))))

-- a scope ended, and the frame of its start is there again
pub left_follows : (h : Heights) (site : ℕ) (old new : Variables) (start s : State) (held : List Value) → StacksCut h site old new
    → frame_of new.frame ≡ start.frame → AreHeights h start
    → Holds new.store (end_from site h.containers s.memory) (take h.pointers s.iters) held → IsGood (leave site start s)
    → Mirrors old s held → Follows new (leave site start s) held
left_follows h site old new start s held is frame marks store good mirrors = record {
  good = good;
  mirrors = record {
    frame = frame;
    scalars = ap (map variable_of) is.scalars ∙ (sym (take-map variable_of h.scalars old.scalars.items)
        ∙ (ap (λ (l : List Slot). take h.scalars l) mirrors.scalars ∙ ap (λ (n : ℕ). take n s.scalars) marks.of_scalars));
    store = subst (λ (n : ℕ). Holds new.store (end_from site n s.memory) (take (length start.iters) s.iters) held) marks.of_containers
        (subst (λ (n : ℕ). Holds new.store (end_from site h.containers s.memory) (take n s.iters) held) marks.of_pointers store);
  };
}

-- a scope that began in a good state, and whose variables lie above those of its start, ends in a good state
pub leave_good : (n site : ℕ) (start s : State) → IsGood start → Above (level_of start) n s → IsGood (leave site start s)
leave_good n site start s good above = (leave-now (level_of start) 0 site start s (record {
  good = good;
  level = refl;
  later = omega arith;
}) (above_less (level_of start) 0 n s (omega arith) above)).good

-- what holds of the state where a statement goes; the end of a run is none
abbrev pub AtEnd : (State → Type 0) → Flow → Type 0
AtEnd P (Next s) = P s
AtEnd P (Broke s) = P s
AtEnd P (Continued s) = P s
AtEnd P (Returned x s) = P s
AtEnd P (Over e s) = Unit {0}

-- a scope that ends in each of these states is left on each way
pub scoped_follows : (site : ℕ) (start : State) (old new : Variables) (held : List Value) (P : State → Type 0)
    → ((s : State) (hs : List Value) → P s → Follows old s hs → Follows new (leave site start s) hs)
    → (o : Flow) → AtEnd P o → FollowsFlow old held o → FollowsFlow new held (scoped site start o)
scoped_follows site start old new held P leaves (Next s) at h = leaves s held at h
scoped_follows site start old new held P leaves (Broke s) at h = leaves s held at h
scoped_follows site start old new held P leaves (Continued s) at h = leaves s held at h
scoped_follows site start old new held P leaves (Returned x s) at h = leaves s (held ++ x ∷ []) at h
scoped_follows site start old new held P leaves (Over e s) at h = tt

-- ## Calls

-- so many variables all calls in progress have
pub heights_shown : (v : Variables) (s : State) (held : List Value) → Mirrors v s held → AreHeights (heights_of v) s
heights_shown v s held h = record {
  of_scalars = sym (length-map v.scalars.items variable_of) ∙ ap (λ (l : List Slot). length l) h.scalars;
  of_containers = sym (length-map v.store.containers.items contents) ∙ (ap (λ (l : List Plain). length l) h.store.shows.containers
      ∙ length-map s.memory.conts plain);
  of_pointers = ap (λ (l : List PointerCode). length l) h.store.shows.pointers ∙ length-map s.iters (pointer_of s.memory);
}

-- what is used among all is used among the first
front_used : (n : ℕ) (held vs : List Value) → AllUsed n (held ++ vs) → AllUsed n held
front_used n [] vs used = tt
front_used n (x ∷ held) vs used = (used.0, front_used n held vs used.1)

-- the last operands are held no longer
pub fewer_operands : (old new : Variables) (k : ℕ) (s : State) (held vs : List Value) → new.frame ≡ old.frame → new.scalars ≡ old.scalars
    → new.store.containers ≡ old.store.containers → new.store.pointers ≡ old.store.pointers
    → new.store.operands.items ≡ take k old.store.operands.items → length held ≡ k → Mirrors old s (held ++ vs) → Mirrors new s held
fewer_operands old new k s held vs frame scalars containers pointers operands many h = record {
  frame = ap frame_of frame ∙ h.frame;
  scalars = ap (λ w. map variable_of w.items) scalars ∙ h.scalars;
  store = record {
    sound = h.store.sound;
    pointers_used = h.store.pointers_used;
    operands_used = front_used s.memory.fresh held vs h.store.operands_used;
    shows = record {
      containers = ap (λ w. map contents w.items) containers ∙ h.store.shows.containers;
      pointers = ap (λ w. w.items) pointers ∙ h.store.shows.pointers;
      operands = operands ∙ (ap (λ (l : List ValueCode). take k l) h.store.shows.operands
          ∙ (take-map (value_of s.memory) k (held ++ vs)
          ∙ ap (map (value_of s.memory)) (ap (λ (n : ℕ). take n (held ++ vs)) (sym many) ∙ take-append_seam held vs)));
    };
  };
}
