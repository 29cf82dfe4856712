-- What a library keeps of the memory, every call and every run keeps.
use Rattle.std.proofs.Common.{◌≡◌, ℕ, zero, suc, ◌==◌, Bool, true, false, List, [], ◌∷◌, Option, Some, None, refl, subst, sym}
use Rattle.std.specs.Prelude.{ℤ, length, slice_get}
use Rattle.sl_base.specs.declared.place.Place.{Place}
use Rattle.sl_syntax.specs.declared.typed.callee.Callee.{Callee}
use Rattle.sl_syntax.specs.declared.typed.parameter.ParameterKind.{ParameterKind}
use Rattle.sl_syntax.specs.declared.typed.parameter.ParameterKind.TheVariants as parameter
use Rattle.sl_syntax.specs.Typed.{Function, Typed}
use Rattle.sl_model.specs.Memory.Containers.{Memory, Part, write_element, end_from}
use Rattle.sl_model.specs.LibraryCalls.Values.{Value, nothing, number, iterator, pair, two, scalar_at, container_at, element_at, Args, Lib}
use Rattle.sl_model.specs.Runs.State.{State}
use Rattle.sl_model.specs.Runs.Binding.{bind_one, bind_all, bound, no_frame}
use Rattle.sl_model.specs.Runs.Eval.{Out, Gives, Stops, World, Oracle, come_back, call_own}
use Rattle.sl_model.specs.Runs.Exec.{Flow, Next, Broke, Continued, Returned, Over, exec}
use Rattle.sl_model.specs.Runs.Calls.{fell, body_gives, of_function, world_of, call_of}
use Rattle.sl_model.specs.Runs.Ends.{Language}
use Rattle.sl_model.proofs.Keeps.{InAnswer, InOut}
use Rattle.sl_model.proofs.KeepsRun.{InFlow, in_exec}

module _ (I : Memory → Type 0) where
  -- a parameter that takes its operand keeps it
  in_one : (k : ParameterKind) (v : Value) (s : State) → I s.memory → I (bind_one k v s).memory
  in_one (parameter.Value ty) nothing s h = h
  in_one (parameter.Value ty) (number z) s h = h
  in_one (parameter.Value ty) (iterator x) s h = h
  in_one (parameter.Value ty) (pair x b) s h = h
  in_one (parameter.Value ty) (two x b) s h = h
  in_one (parameter.Value ty) (scalar_at l) s h = h
  in_one (parameter.Value ty) (container_at l) s h = h
  in_one (parameter.Value ty) (element_at i j p) s h = h
  in_one (parameter.Reference ty) nothing s h = h
  in_one (parameter.Reference ty) (number z) s h = h
  in_one (parameter.Reference ty) (iterator x) s h = h
  in_one (parameter.Reference ty) (pair x b) s h = h
  in_one (parameter.Reference ty) (two x b) s h = h
  in_one (parameter.Reference ty) (scalar_at l) s h = h
  in_one (parameter.Reference ty) (container_at l) s h = h
  in_one (parameter.Reference ty) (element_at i j p) s h = h
  in_one (parameter.Container a f) nothing s h = h
  in_one (parameter.Container a f) (number z) s h = h
  in_one (parameter.Container a f) (iterator x) s h = h
  in_one (parameter.Container a f) (pair x b) s h = h
  in_one (parameter.Container a f) (two x b) s h = h
  in_one (parameter.Container a f) (scalar_at l) s h = h
  in_one (parameter.Container a f) (container_at l) s h = h
  in_one (parameter.Container a f) (element_at i j p) s h = h
  in_one (parameter.Iterator b f) nothing s h = h
  in_one (parameter.Iterator b f) (number z) s h = h
  in_one (parameter.Iterator b f) (iterator x) s h = h
  in_one (parameter.Iterator b f) (pair x c) s h = h
  in_one (parameter.Iterator b f) (two x c) s h = h
  in_one (parameter.Iterator b f) (scalar_at l) s h = h
  in_one (parameter.Iterator b f) (container_at l) s h = h
  in_one (parameter.Iterator b f) (element_at i j p) s h = h

  -- parameters that take their operands keep it
  in_bind : (ks : List ParameterKind) (vs : List Value) (s : State) → I s.memory → I (bind_all ks vs s).memory
  in_bind [] vs s h = h
  in_bind (k ∷ ks) [] s h = h
  in_bind (k ∷ ks) (v ∷ vs) s h = in_bind ks vs (bind_one k v s) (in_one k v s h)

  module _ (lib : Lib)
      (lib_keeps : (c : Callee) (a : Args) (m : Memory) (ps : List ℕ) → I m → InAnswer I (lib c a m ps))
      (write_keeps : (m : Memory) (i k : ℕ) (p : Part) (z : ℤ) → I m → I (write_element m i k p z))
      (end_keeps : (site n : ℕ) (m : Memory) → I m → I (end_from site n m)) where
    -- a body that reached its closing brace keeps it
    in_fell : (b : Bool) (f : Function) (s : State) → I s.memory → InOut I (fell b f s)
    in_fell true f s h = h
    in_fell false f s h =
        elim f.result as (λ r. InOut I (elim r as (λ _. Out) [ None ↦ Gives nothing s | Some k ↦ Stops (Language f.close 4) s ])) [ None ↦ h | Some k ↦ h ]

    -- what a body gives keeps it
    in_body : (b : Bool) (f : Function) (w : Flow) → InFlow I w → InOut I (body_gives b f w)
    in_body b f (Returned v s) h = h
    in_body b f (Next s) h = in_fell b f s h
    in_body b f (Broke s) h = in_fell b f s h
    in_body b f (Continued s) h = in_fell b f s h
    in_body b f (Over e s) h = h

    -- coming back keeps it
    in_back : (before : State) (o : Out) → InOut I o → InOut I (come_back before o)
    in_back before (Gives v s) h = end_keeps 0 (length before.memory.conts) s.memory h
    in_back before (Stops e s) h = h

    -- bodies keep it
    abbrev BodiesKeep : Oracle → Type 0
    BodiesKeep own = (f : ℕ) (at : Place) (s : State) → I s.memory → InOut I (own f at s)

    -- a call keeps it where the bodies do
    in_own : (w : World) → BodiesKeep w.own → (f : ℕ) (at : Place) (vs : List Value) (s : State) → I s.memory → InOut I (call_own w f at vs s)
    in_own w keeps f at vs s h = in_back s (w.own f at (bound (w.takes f) vs s))
        (keeps f at (bound (w.takes f) vs s) (in_bind (w.takes f) vs (record s { frame = no_frame }) h))

    -- a function that runs its body keeps it
    in_function : (b : Bool) (o : Option Function) (w : World) → w.lib ≡ lib → BodiesKeep w.own → (s : State) → I s.memory
        → InOut I (of_function b o w s)
    in_function b None w e k s h = h
    in_function b (Some g) w e k s h = in_body b g (exec w g.body s)
        (in_exec I w (λ c a m ps i. subst (λ (l : Lib). InAnswer I (l c a m ps)) (sym e) (lib_keeps c a m ps i)) (in_own w k) write_keeps end_keeps
        g.body s h)

    -- every body keeps it
    in_bodies : (n : ℕ) (p : Typed) → BodiesKeep (call_of lib n p)
    in_bodies zero p f at s h = h
    in_bodies (suc n) p f at s h = in_function (f == p.main) (slice_get p.functions f) (world_of lib p (call_of lib n p)) refl (in_bodies n p) s h

    -- every call keeps it
    pub in_call : (n : ℕ) (p : Typed) (f : ℕ) (at : Place) (vs : List Value) (s : State) → I s.memory
        → InOut I (call_own (world_of lib p (call_of lib n p)) f at vs s)
    in_call n p = in_own (world_of lib p (call_of lib n p)) (in_bodies n p)
