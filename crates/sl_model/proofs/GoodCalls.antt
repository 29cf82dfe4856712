-- Each call of a scoped text's own functions keeps a state good and at its level, and gives what the function says.
use Rattle.std.proofs.Common.{◌≡◌, ℕ, zero, suc, ◌≤◌, ◌==◌, Bool, true, false, List, Option, Some, None, length, refl, ap, sym, ◌∙◌, subst, arith}
use Rattle.std.specs.Prelude.{pos, slice_get}
use Rattle.std.proofs.lemmas.Bool.{eqb-true}
use Rattle.sl_base.specs.declared.place.Place.{Place}
use Rattle.sl_syntax.specs.declared.typed.callee.Callee.{Callee}
use Rattle.sl_syntax.specs.declared.typed.parameter.ParameterKind.{ParameterKind}
use Rattle.sl_syntax.specs.Typed.{Function, Typed}
use Rattle.sl_model.specs.LibraryCalls.Values.{nothing, number, Lib}
use Rattle.sl_model.specs.Runs.Ends.{Language}
use Rattle.sl_model.specs.Runs.State.{State}
use Rattle.sl_model.specs.Runs.Binding.{bound}
use Rattle.sl_model.specs.Runs.Eval.{Out, Gives, Stops, World, Oracle, come_back}
use Rattle.sl_model.specs.Runs.Exec.{Flow, Next, Broke, Continued, Returned, Over, exec}
use Rattle.sl_model.specs.Runs.Calls.{fell, body_gives, of_function, parameters_in, world_of, call_of}
use Rattle.sl_model.specs.Typing.Shapes.{Shape, a_number, a_value, Signature, HasShape, shape_of_result}
use Rattle.sl_model.specs.Typing.Shapes.{signature_of}
use Rattle.sl_model.specs.Typing.Scoped.{Counts, no_counts, with_parameters, InStmt, IsScopedFunction, IsScoped}
use Rattle.sl_model.proofs.Levels.{Level, level_of, counts_of, Now, Above, now_above, leave-now}
use Rattle.sl_model.proofs.Gifts.{IsUsed, KeepsGood, OwnKeepsGood, OutAt, now_again, out_less}
use Rattle.sl_model.proofs.GoodFlow.{FlowIn, widened}
use Rattle.sl_model.proofs.GoodExec.{level_after, after_above, at_exec}
use Rattle.sl_model.proofs.GoodBinding.{at_bound}

-- stacks that are as high as those of a higher state
above_state : (L : Level) (n : ℕ) (t s : State) → Above L n t → Above (level_of t) n s → Above L n s
above_state L n t s h i = record {
  good = i.good;
  scalars = let p : L.scalars ≤ length t.scalars = h.scalars in let q : length t.scalars ≤ length s.scalars = i.scalars in omega arith;
  iters = let p : L.iters ≤ length t.iters = h.iters in let q : length t.iters ≤ length s.iters = i.iters in omega arith;
  conts = let p : L.conts ≤ length t.memory.conts = h.conts in let q : length t.memory.conts ≤ length s.memory.conts = i.conts in omega arith;
  later = i.later;
}

-- what a body leaves: a value of a shape in a good state with stacks at least as high, or the end of the run in such a state
abbrev pub BodyAt : Level → ℕ → Shape → Out → Type 0
BodyAt L n shape (Gives v s) = Above L n s × (HasShape shape v × IsUsed s.memory.fresh v)
BodyAt L n shape (Stops e s) = Above L n s

-- a body that reached its closing brace
at_fell : (L : Level) (n : ℕ) (m : Bool) (f : Function) (s : State) → (m ≡ true → shape_of_result f.result ≡ a_number) → Above L n s
    → BodyAt L n (shape_of_result f.result) (fell m f s)
at_fell L n true f s main h = (h, (subst (λ (x : Shape). HasShape x (number (pos 0))) (sym (main refl)) tt, tt))
at_fell L n false f s main h = by_result f.result
  where
    by_result : (r : Option ParameterKind) → BodyAt L n (shape_of_result r)
        (elim r as (λ _. Out) [ None ↦ Gives nothing s | Some k ↦ Stops (Language f.close 4) s ])
    by_result None = (h, (tt, tt))
    by_result (Some k) = h

-- what a body gives
at_ended : (L : Level) (n : ℕ) (m : Bool) (f : Function) (w : Flow) → (m ≡ true → shape_of_result f.result ≡ a_number)
    → FlowIn (shape_of_result f.result) L n (Above L n) (Above L n) w → BodyAt L n (shape_of_result f.result) (body_gives m f w)
at_ended L n m f (Returned v s) main i = (i.0, (i.1.0, i.1.1))
at_ended L n m f (Next s) main i = at_fell L n m f s main i
at_ended L n m f (Broke s) main i = at_fell L n m f s main i
at_ended L n m f (Continued s) main i = at_fell L n m f s main i
at_ended L n m f (Over e s) main i = i

-- coming back from a body: the caller's variables are in scope again
at_back : (L : Level) (n : ℕ) (shape : Shape) (before : State) (o : Out) → Now L n before → BodyAt L n shape o
    → OutAt L n (a_value shape) (come_back before o)
at_back L n shape before (Gives v s) h i = record { now = leave-now L n 0 before s h i.0; given = i.1.0; used = i.1.1 }
at_back L n shape before (Stops e s) h i = i

-- the bodies of a text's functions keep what holds of all states of a run, where they start with their parameters alone in scope
abbrev pub BodiesKeepGood : Signature → Oracle → Type 0
BodiesKeepGood g own = (f : ℕ) (h : Function) (at : Place) (L : Level) (n : ℕ) (s : State) → slice_get g.functions f ≡ Some h → Above L n s
    → counts_of s.frame ≡ with_parameters h.parameters no_counts → BodyAt L n (shape_of_result h.result) (own f at s)

-- calls of the functions of a text take their parameters
abbrev pub TakesParameters : Signature → World → Type 0
TakesParameters g w = (f : ℕ) (h : Function) → slice_get g.functions f ≡ Some h → w.takes f ≡ h.parameters

-- then so does each call
pub own-keeps : (w : World) (g : Signature) → TakesParameters g w → BodiesKeepGood g w.own → OwnKeepsGood g w
own-keeps w g takes bodies f h at L n gifts vs s there suit apart given =
    subst (λ (ks : List ParameterKind). OutAt L n (a_value (shape_of_result h.result)) (come_back s (w.own f at (bound ks vs s))))
    (sym (takes f h there))
    (out_less L n s.memory.fresh (a_value (shape_of_result h.result)) (come_back s (w.own f at (bound h.parameters vs s))) given.now.later
    (at_back L s.memory.fresh (shape_of_result h.result) s (w.own f at (bound h.parameters vs s)) (now_again L n s given.now)
    (let start = at_bound L s.memory.fresh h.parameters gifts vs s suit given.given given.used apart (now_again L n s given.now) in
    bodies f h at L s.memory.fresh (bound h.parameters vs s) there start.0 start.1)))

-- a body that runs in the state in which it starts
at_body : (w : World) (g : Signature) → KeepsGood g.shape g.makes w.lib → OwnKeepsGood g w → (L : Level) (n : ℕ) (f : Function) (t : State)
    → IsScopedFunction g f → Above L n t → counts_of t.frame ≡ with_parameters f.parameters no_counts
    → FlowIn (shape_of_result f.result) L n (Above L n) (Above L n) (exec w f.body t)
at_body w g lib_keeps own_keeps L n f t scoped h e =
    widened (shape_of_result f.result) (level_of t) L n (Now (level_after f.body (level_of t)) n) (Now (level_of t) n) (Above L n) (Above L n)
    (exec w f.body t)
    (λ s j. above_state L n t s h (after_above f.body (level_of t) n s (now_above (level_after f.body (level_of t)) n s j)))
    (λ s j. above_state L n t s h (now_above (level_of t) n s j))
    (λ s j. above_state L n t s h j)
    (at_exec w g lib_keeps own_keeps (shape_of_result f.result) n f.body (level_of t) t
    (subst (λ (c : Counts). InStmt g (shape_of_result f.result) c f.body) (sym e) scoped) (record { good = h.good; level = refl; later = h.later }))

-- a function that runs its body
at_function : (w : World) (g : Signature) → KeepsGood g.shape g.makes w.lib → OwnKeepsGood g w → (m : Bool) (f : Function) (L : Level) (n : ℕ)
    (s : State) → IsScopedFunction g f → (m ≡ true → shape_of_result f.result ≡ a_number) → Above L n s
    → counts_of s.frame ≡ with_parameters f.parameters no_counts → BodyAt L n (shape_of_result f.result) (of_function m (Some f) w s)
at_function w g lib_keeps own_keeps m f L n s scoped main h e =
    at_ended L n m f (exec w f.body s) main (at_body w g lib_keeps own_keeps L n f s scoped h e)

-- the world of a text takes the parameters of its functions
takes-parameters : (shape : Callee → Shape) (makes_one : Callee → Bool) (l : Lib) (p : Typed) (own : Oracle)
    → TakesParameters (signature_of shape makes_one p) (world_of l p own)
takes-parameters shape makes_one l p own f h there = ap parameters_in there

-- over a library that keeps states good, each body of a scoped text's own functions does
at_bodies : (shape : Callee → Shape) (makes_one : Callee → Bool) (l : Lib) → KeepsGood shape makes_one l → (p : Typed)
    → IsScoped shape makes_one p → (k : ℕ) → BodiesKeepGood (signature_of shape makes_one p) (call_of l k p)
at_bodies shape makes_one l lib_keeps p scoped zero f h at L n s there above e = above
at_bodies shape makes_one l lib_keeps p scoped (suc k) f h at L n s there above e =
    subst (λ (o : Option Function). BodyAt L n (shape_of_result h.result) (of_function (f == p.main) o (world_of l p (call_of l k p)) s)) (sym there)
    (at_function (world_of l p (call_of l k p)) (signature_of shape makes_one p) lib_keeps
    (own-keeps (world_of l p (call_of l k p)) (signature_of shape makes_one p) (takes-parameters shape makes_one l p (call_of l k p))
    (at_bodies shape makes_one l lib_keeps p scoped k))
    (f == p.main) h L n s (scoped.bodies f h there) is_main above e)
  where
    is_main : (f == p.main) ≡ true → shape_of_result h.result ≡ a_number
    is_main q = let r : Some h ≡ Some scoped.main = sym there ∙ (ap (slice_get p.functions) (eqb-true f p.main q) ∙ scoped.main_there) in
        let t : h ≡ scoped.main = cc in ap (λ (x : Function). shape_of_result x.result) t ∙ scoped.main_result

-- and so does each call
pub at_call_of : (shape : Callee → Shape) (makes_one : Callee → Bool) (l : Lib) → KeepsGood shape makes_one l → (p : Typed)
    → IsScoped shape makes_one p → (k : ℕ) → OwnKeepsGood (signature_of shape makes_one p) (world_of l p (call_of l k p))
at_call_of shape makes_one l lib_keeps p scoped k =
    own-keeps (world_of l p (call_of l k p)) (signature_of shape makes_one p) (takes-parameters shape makes_one l p (call_of l k p))
    (at_bodies shape makes_one l lib_keeps p scoped k)
