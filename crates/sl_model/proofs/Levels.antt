-- Each change of a state keeps what holds of all states of a run, and it keeps how high the stacks are, or says how they grow.
use Rattle.std.proofs.Common.{◌≡◌, ℕ, ◌+◌, ◌<◌, ◌≤◌, List, [], ◌∷◌, ◌++◌, Option, Some, None, map, length, length-append, take, refl, ◌∙◌, sym}
use Rattle.std.proofs.Common.{subst, arith}
use Rattle.std.specs.Prelude.{ℤ}
use Rattle.std.specs.List.{slice_get, slice_set}
use Rattle.std.proofs.Math.ListN.{length-set}
use Rattle.std.proofs.lemmas.List.{length-take-le, map-append, take-map}
use Rattle.std.proofs.lemmas.Option.{slice_get-get_or}
use Rattle.sl_base.specs.declared.scalar.Scalar.{Scalar}
use Rattle.sl_model.specs.Memory.Containers.{Memory, Part, cont_with, write_element}
use Rattle.sl_model.specs.LibraryCalls.Values.{Value, nothing, number, iterator, pair, two, scalar_at, container_at, element_at}
use Rattle.sl_model.specs.Runs.State.{Pointer, iterator_at, Slot, Frame, State, set_scalar_at, set_iterator_at, mark_in, pointer_at, stamp_held}
use Rattle.sl_model.specs.Runs.State.{new_scalar, new_pointer, new_iterator, new_container, leave}
use Rattle.sl_model.specs.Runs.Eval.{write_at}
use Rattle.sl_model.specs.Runs.Good.{AreBelow, IsSound, IsGood}
use Rattle.sl_model.specs.Typing.Scoped.{Counts}
use Rattle.sl_model.proofs.Getting.{get_map, map_set}
use Rattle.sl_model.proofs.Ending.{end_from-sound}
use Rattle.sl_model.proofs.Writing.{write-sound}
use Rattle.sl_model.proofs.Locations.{below_more, below_one_more, below_set, below_take, apart_one_more, not_there}

-- which variables are in scope, and how high the stacks are
pub record Level : Type 0 where
  pub frame : Frame
  pub scalars : ℕ
  pub iters : ℕ
  pub conts : ℕ

-- a level of these
abbrev level_with : Frame → ℕ → ℕ → ℕ → Level
level_with f a b c = record { frame = f; scalars = a; iters = b; conts = c }

-- those of a state
abbrev pub level_of : State → Level
level_of s = record { frame = s.frame; scalars = length s.scalars; iters = length s.iters; conts = length s.memory.conts }

-- how many variables are in scope
abbrev pub counts_of : Frame → Counts
counts_of f = record { scalars = length f.scalars; conts = length f.conts; iters = length f.iters }

-- a state is good and at a level, and the stamps below n were used
pub record Now (L : Level) (n : ℕ) (s : State) : Type 0 where
  pub good : IsGood s
  pub level : level_of s ≡ L
  pub later : n ≤ s.memory.fresh

-- a state is good, its stacks are at least as high as at a level, and the stamps below n were used
pub record Above (L : Level) (n : ℕ) (s : State) : Type 0 where
  pub good : IsGood s
  pub scalars : L.scalars ≤ length s.scalars
  pub iters : L.iters ≤ length s.iters
  pub conts : L.conts ≤ length s.memory.conts
  pub later : n ≤ s.memory.fresh

-- what is held is below a number, with one more
held_one_more : (ps : List Pointer) (p : Pointer) (n : ℕ) → AreBelow (map mark_in ps) n → mark_in p < n → AreBelow (map mark_in (ps ++ p ∷ [])) n
held_one_more ps p n h low =
    subst (λ (l : List ℕ). AreBelow l n) (sym (map-append mark_in ps (p ∷ []))) (below_one_more (map mark_in ps) (mark_in p) n h low)

-- with one written
held_set : (ps : List Pointer) (at : ℕ) (p : Pointer) (n : ℕ) → AreBelow (map mark_in ps) n → mark_in p < n
    → AreBelow (map mark_in (slice_set ps at p)) n
held_set ps at p n h low = subst (λ (l : List ℕ). AreBelow l n) (sym (map_set mark_in ps at p)) (below_set (map mark_in ps) at (mark_in p) n h low)

-- with less
held_take : (k : ℕ) (ps : List Pointer) (n : ℕ) → AreBelow (map mark_in ps) n → AreBelow (map mark_in (take k ps)) n
held_take k ps n h = subst (λ (l : List ℕ). AreBelow l n) (take-map mark_in k ps) (below_take k (map mark_in ps) n h)

-- the number at a location that is there is among those that are held
pub held_there : (s : State) (at : ℕ) → at < length s.iters → slice_get (map mark_in s.iters) at ≡ Some (stamp_held s at)
held_there s at low = get_map mark_in s.iters at (pointer_at s at) (slice_get-get_or s.iters at (iterator_at 0) low)

-- what is held there was used
pub held_used : (s : State) (at : ℕ) → IsGood s → at < length s.iters → stamp_held s at < s.memory.fresh
held_used s at good low = good.held at (stamp_held s at) (held_there s at low)

-- two levels are one
levels : (f : Frame) (a b c x y z : ℕ) → a ≡ x → b ≡ y → c ≡ z → level_with f a b c ≡ level_with f x y z
levels f a b c x y z p q r = cc

-- what holds at a level holds from it on
pub now_above : (L : Level) (n : ℕ) (s : State) → Now L n s → Above L n s
now_above L n s h =
    subst (λ (l : Level). Above l n s) h.level
    (record { good = h.good; scalars = omega arith; iters = omega arith; conts = omega arith; later = h.later })

-- the stacks are as high as at a level, and the stamps below a lesser number were used
pub above_less : (L : Level) (n m : ℕ) (s : State) → n ≤ m → Above L m s → Above L n s
above_less L n m s less h = record {
  good = h.good;
  scalars = h.scalars;
  iters = h.iters;
  conts = h.conts;
  later = let r : m ≤ s.memory.fresh = h.later in omega arith;
}

-- what holds of a state holds with another input, other picks and steps, and something else written
pub apart_from_stacks : (L : Level) (n : ℕ) (s : State) (input : List ℤ) (picks : List ℕ) (steps : ℕ) (written : List ℕ) → Now L n s
    → Now L n (record s { input = input; picks = picks; steps = steps; written = written })
apart_from_stacks L n s input picks steps written h = record {
  good = record {
    sound = h.good.sound;
    scalars = h.good.scalars;
    iters = h.good.iters;
    conts = h.good.conts;
    apart = h.good.apart;
    held = h.good.held;
  };
  level = h.level;
  later = h.later;
}

-- a scalar takes a number
pub set_scalar-now : (L : Level) (n l : ℕ) (z : ℤ) (s : State) → Now L n s → Now L n (set_scalar_at l z s)
set_scalar-now L n l z s h =
    elim (slice_get s.scalars l) as (λ o. Now L n
    (elim o as (λ _. State) [ None ↦ s | Some x ↦ record s { scalars = slice_set s.scalars l (record x { value = Some z }) } ])) [
      | None ↦ h
      | Some x ↦ with_slot (record x { value = Some z })
    ]
  where
    with_slot : (x : Slot) → Now L n (record s { scalars = slice_set s.scalars l x })
    with_slot x = record {
      good = record {
        sound = h.good.sound;
        scalars = below_more s.frame.scalars (length s.scalars) (length (slice_set s.scalars l x)) (let e = length-set s.scalars l x in
            omega arith) h.good.scalars;
        iters = h.good.iters;
        conts = h.good.conts;
        apart = h.good.apart;
        held = h.good.held;
      };
      level = levels s.frame (length (slice_set s.scalars l x)) (length s.iters) (length s.memory.conts) (length s.scalars) (length s.iters)
          (length s.memory.conts) (length-set s.scalars l x) refl refl ∙ h.level;
      later = h.later;
    }

-- an iterator takes a stamp that was used
pub set_iterator-now : (L : Level) (n l stamp : ℕ) (s : State) → stamp < s.memory.fresh → Now L n s → Now L n (set_iterator_at l stamp s)
set_iterator-now L n l stamp s low h = record {
  good = record {
    sound = h.good.sound;
    scalars = h.good.scalars;
    iters = below_more s.frame.iters (length s.iters) (length (slice_set s.iters l (iterator_at stamp)))
        (let e = length-set s.iters l (iterator_at stamp) in omega arith) h.good.iters;
    conts = h.good.conts;
    apart = h.good.apart;
    held = held_set s.iters l (iterator_at stamp) s.memory.fresh h.good.held low;
  };
  level = levels s.frame (length s.scalars) (length (slice_set s.iters l (iterator_at stamp))) (length s.memory.conts) (length s.scalars)
      (length s.iters) (length s.memory.conts) refl (length-set s.iters l (iterator_at stamp)) refl ∙ h.level;
  later = h.later;
}

-- memory is another one that is sound, with as many containers, and no stamp is unused again
pub memory-now : (L : Level) (n : ℕ) (m : Memory) (s : State) → IsSound m → length m.conts ≡ length s.memory.conts → s.memory.fresh ≤ m.fresh
    → Now L n s → Now L n (record s { memory = m })
memory-now L n m s sound many more h = record {
  good = record {
    sound = sound;
    scalars = h.good.scalars;
    iters = h.good.iters;
    conts = below_more s.frame.conts (length s.memory.conts) (length m.conts) (omega arith) h.good.conts;
    apart = h.good.apart;
    held = below_more (map mark_in s.iters) s.memory.fresh m.fresh more h.good.held;
  };
  level = levels s.frame (length s.scalars) (length s.iters) (length m.conts) (length s.scalars) (length s.iters)
      (length s.memory.conts) refl refl many ∙ h.level;
  later = let low : n ≤ s.memory.fresh = h.later in omega arith;
}

-- a number written in an element leaves as many containers and the same unused stamps
written_as_many : (m : Memory) (j k : ℕ) (part : Part) (z : ℤ) → (length (write_element m j k part z).conts ≡ length m.conts)
    × ((write_element m j k part z).fresh ≡ m.fresh)
written_as_many m j k part z = elim (slice_get m.conts j)
    as (λ o. (length (elim o as (λ _. Memory) [
      | None ↦ m
      | Some c ↦ record m { conts = slice_set m.conts j (cont_with c k part z) }
    ]).conts ≡ length m.conts)
    × ((elim o as (λ _. Memory) [
      | None ↦ m
      | Some c ↦ record m { conts = slice_set m.conts j (cont_with c k part z) }
    ]).fresh ≡ m.fresh))
    [ None ↦ (refl, refl) | Some c ↦ (length-set m.conts j (cont_with c k part z), refl) ]

-- a number is written at a place
pub write-now : (L : Level) (n : ℕ) (v : Value) (z : ℤ) (s : State) → Now L n s → Now L n (write_at v z s)
write-now L n nothing z s h = h
write-now L n (number y) z s h = h
write-now L n (iterator x) z s h = h
write-now L n (pair x b) z s h = h
write-now L n (two x b) z s h = h
write-now L n (scalar_at l) z s h = set_scalar-now L n l z s h
write-now L n (container_at l) z s h = h
write-now L n (element_at j k part) z s h = let r = written_as_many s.memory j k part z in
    memory-now L n (write_element s.memory j k part z) s (write-sound s.memory j k part z h.good.sound) r.0 (more r.1) h
  where
    more : (write_element s.memory j k part z).fresh ≡ s.memory.fresh → s.memory.fresh ≤ (write_element s.memory j k part z).fresh
    more e = omega arith

-- the level with one scalar more
abbrev pub with_scalar : Level → Level
with_scalar L = record L { frame = record L.frame { scalars = L.frame.scalars ++ L.scalars ∷ [] }; scalars = L.scalars + 1 }

-- the level with one iterator or reference more
abbrev pub with_iterator : Level → Level
with_iterator L = record L { frame = record L.frame { iters = L.frame.iters ++ L.iters ∷ [] }; iters = L.iters + 1 }

-- the level with one container more
abbrev pub with_container : Level → Level
with_container L = record L { frame = record L.frame { conts = L.frame.conts ++ L.conts ∷ [] }; conts = L.conts + 1 }

-- a new scalar comes into scope
pub new_scalar-now : (L : Level) (n : ℕ) (ty : Scalar) (z : Option ℤ) (s : State) → Now L n s → Now (with_scalar L) n (new_scalar ty z s)
new_scalar-now L n ty z s h = subst (λ (l : Level). Now (with_scalar l) n (new_scalar ty z s)) h.level (record {
  good = record {
    sound = h.good.sound;
    scalars = below_one_more s.frame.scalars (length s.scalars) (length (s.scalars ++ record { ty = ty; value = z } ∷ []))
        (below_more s.frame.scalars (length s.scalars) (length (s.scalars ++ record { ty = ty; value = z } ∷ [])) (let e = more in
        omega arith) h.good.scalars) (let e = more in omega arith);
    iters = h.good.iters;
    conts = h.good.conts;
    apart = h.good.apart;
    held = h.good.held;
  };
  level = levels (new_scalar ty z s).frame (length (s.scalars ++ record { ty = ty; value = z } ∷ [])) (length s.iters) (length s.memory.conts)
      (length s.scalars + 1) (length s.iters) (length s.memory.conts) more refl refl;
  later = h.later;
})
  where
    more : length (s.scalars ++ record { ty = ty; value = z } ∷ []) ≡ length s.scalars + 1
    more = length-append s.scalars (record { ty = ty; value = z } ∷ [])

-- a new iterator or reference that holds a number that was used comes into scope
pub new_pointer-now : (L : Level) (n : ℕ) (p : Pointer) (s : State) → mark_in p < s.memory.fresh → Now L n s
    → Now (with_iterator L) n (new_pointer p s)
new_pointer-now L n p s low h = subst (λ (l : Level). Now (with_iterator l) n (new_pointer p s)) h.level (record {
  good = record {
    sound = h.good.sound;
    scalars = h.good.scalars;
    iters = below_one_more s.frame.iters (length s.iters) (length (s.iters ++ p ∷ []))
        (below_more s.frame.iters (length s.iters) (length (s.iters ++ p ∷ [])) (let e = more in omega arith) h.good.iters)
        (let e = more in omega arith);
    conts = h.good.conts;
    apart = h.good.apart;
    held = held_one_more s.iters p s.memory.fresh h.good.held low;
  };
  level = levels (new_pointer p s).frame (length s.scalars) (length (s.iters ++ p ∷ [])) (length s.memory.conts) (length s.scalars)
      (length s.iters + 1) (length s.memory.conts) refl more refl;
  later = h.later;
})
  where
    more : length (s.iters ++ p ∷ []) ≡ length s.iters + 1
    more = length-append s.iters (p ∷ [])

-- a new iterator with a stamp that was used comes into scope
pub new_iterator-now : (L : Level) (n stamp : ℕ) (s : State) → stamp < s.memory.fresh → Now L n s → Now (with_iterator L) n (new_iterator stamp s)
new_iterator-now L n stamp s low h = new_pointer-now L n (iterator_at stamp) s low h

-- stacks that are as high as with one scalar more are as high as before
pub scalar_above : (L : Level) (n : ℕ) (s : State) → Above (with_scalar L) n s → Above L n s
scalar_above L n s h = record {
  good = h.good;
  scalars = let r : L.scalars + 1 ≤ length s.scalars = h.scalars in omega arith;
  iters = h.iters;
  conts = h.conts;
  later = h.later;
}

-- and so are those with one iterator or reference more
pub iterator_above : (L : Level) (n : ℕ) (s : State) → Above (with_iterator L) n s → Above L n s
iterator_above L n s h = record {
  good = h.good;
  scalars = h.scalars;
  iters = let r : L.iters + 1 ≤ length s.iters = h.iters in omega arith;
  conts = h.conts;
  later = h.later;
}

-- the container that a call made comes into scope
pub new_container-now : (L : Level) (n : ℕ) (m : Memory) (picks : List ℕ) (s : State) → IsSound m → length m.conts ≡ length s.memory.conts + 1
    → s.memory.fresh ≤ m.fresh → Now L n s → Now (with_container L) n (new_container L.conts (record s { memory = m; picks = picks }))
new_container-now L n m picks s sound many more h =
    subst (λ (l : Level). Now (with_container l) n (new_container l.conts (record s { memory = m; picks = picks }))) h.level (record {
      good = record {
        sound = sound;
        scalars = h.good.scalars;
        iters = h.good.iters;
        conts = below_one_more s.frame.conts (length s.memory.conts) (length m.conts)
            (below_more s.frame.conts (length s.memory.conts) (length m.conts) (omega arith) h.good.conts) (omega arith);
        apart = apart_one_more s.frame.conts (length s.memory.conts) h.good.apart (not_there s.frame.conts (length s.memory.conts) h.good.conts);
        held = below_more (map mark_in s.iters) s.memory.fresh m.fresh more h.good.held;
      };
      level = levels (new_container (length s.memory.conts) s).frame (length s.scalars) (length s.iters) (length m.conts) (length s.scalars)
          (length s.iters) (length s.memory.conts + 1) refl refl many;
      later = let low : n ≤ s.memory.fresh = h.later in omega arith;
    })

-- a scope that began in the first state ends
leave-here : (n site : ℕ) (start s : State) → IsGood start → Above (level_of start) n s → Now (level_of start) n (leave site start s)
leave-here n site start s good h = record {
  good = record {
    sound = end_from-sound site (length start.memory.conts) s.memory h.good.sound;
    scalars = below_more start.frame.scalars (length start.scalars) (length (take (length start.scalars) s.scalars))
        (let e = scalars in omega arith) good.scalars;
    iters = below_more start.frame.iters (length start.iters) (length (take (length start.iters) s.iters)) (let e = iters in
        omega arith) good.iters;
    conts = below_more start.frame.conts (length start.memory.conts) (length (take (length start.memory.conts) s.memory.conts))
        (let e = conts in omega arith) good.conts;
    apart = good.apart;
    held = held_take (length start.iters) s.iters s.memory.fresh h.good.held;
  };
  level = levels start.frame (length (take (length start.scalars) s.scalars)) (length (take (length start.iters) s.iters))
      (length (take (length start.memory.conts) s.memory.conts)) (length start.scalars) (length start.iters)
      (length start.memory.conts) scalars iters conts;
  later = h.later;
}
  where
    scalars : length (take (length start.scalars) s.scalars) ≡ length start.scalars
    scalars = length-take-le (length start.scalars) s.scalars h.scalars

    iters : length (take (length start.iters) s.iters) ≡ length start.iters
    iters = length-take-le (length start.iters) s.iters h.iters

    conts : length (take (length start.memory.conts) s.memory.conts) ≡ length start.memory.conts
    conts = length-take-le (length start.memory.conts) s.memory.conts h.conts

-- a scope that began at a level ends there
pub leave-now : (L : Level) (n site : ℕ) (start s : State) → Now L n start → Above L n s → Now L n (leave site start s)
leave-now L n site start s h = subst (λ (l : Level). Above l n s → Now l n (leave site start s)) h.level (leave-here n site start s h.good)
