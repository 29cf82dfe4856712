-- A run over a library that lacks calls which another one has is the same, but where it meets a call that is lacking. Here: expressions.
use Rattle.std.proofs.Common.{ℕ, List, Bool, true, false, not, ℤ, pos}
use Rattle.sl_base.specs.declared.place.Place.{Place}
use Rattle.sl_syntax.specs.declared.typed.callee.Callee.{Callee}
use Rattle.sl_syntax.specs.declared.typed.head.Head.{Head}
use Rattle.sl_syntax.specs.Typed.{Expr, literal, held, iterator as iterator_held, convert, negate, logical_not, logical_and, logical_or, arithmetic}
use Rattle.sl_syntax.specs.Typed.{comparison, increment, move, call, own_call, first, second, container, handed_scalar, Left, scalar, reference}
use Rattle.sl_syntax.specs.Typed.{element, Operands, none, with}
use Rattle.sl_syntax.specs.declared.operator.Arithmetic.TheVariants as o
use Rattle.sl_model.specs.Numbers.{is_zero, truth, converted, operated, compared}
use Rattle.sl_model.specs.Memory.Containers.{Memory}
use Rattle.sl_model.specs.LibraryCalls.Values.{Value, nothing, number, iterator, pair, two, scalar_at, container_at, element_at, Args, LibOut, unbuilt}
use Rattle.sl_model.specs.Runs.Ends.{NoMeaning}
use Rattle.sl_model.specs.Runs.State.{State}
use Rattle.sl_model.specs.Runs.Eval.{call_own}
use Rattle.sl_model.specs.Runs.Eval.{Out, Gives, Stops, Outs, AllGive, OneStops, World, then_eval, with_number, then_number, add_value, then_rest}
use Rattle.sl_model.specs.Runs.Eval.{then_call, branch, answered, settle_call, use_library, eval, reach, eval_all}

-- what a call gives, and what it gives in the other library: the same, or it is lacking
pub data LackingAnswer : LibOut → LibOut → Type 0 where
  same_answer : (o : LibOut) → LackingAnswer o o
  no_answer : (o : LibOut) → LackingAnswer unbuilt o

-- what an expression gives, and what it gives over the other library: the same, or the run ends at what has no meaning
pub data LackingOut : Out → Out → Type 0 where
  same : (x : Out) → LackingOut x x
  lacks : (at : Place) (s : State) (x : Out) → LackingOut (Stops (NoMeaning at) s) x

-- the same of operands
pub data LackingOuts : Outs → Outs → Type 0 where
  all_same : (x : Outs) → LackingOuts x x
  one_lacks : (at : Place) (s : State) (x : Outs) → LackingOuts (OneStops (NoMeaning at) s) x

-- a world has the library and the functions of another one, but for what is lacking
pub record Lacks (few many : World) : Type 0 where
  pub lib : (callee : Callee) (a : Args) (m : Memory) (picks : List ℕ) → LackingAnswer (few.lib callee a m picks) (many.lib callee a m picks)
  pub own : (f : ℕ) (at : Place) (vs : List Value) (s : State) → LackingOut (call_own few f at vs s) (call_own many f at vs s)

-- what follows a value
pub then_eval-lacking : (go other : Value → State → Out) {a b : Out} → LackingOut a b → ((v : Value) (s : State) → LackingOut (go v s) (other v s))
    → LackingOut (then_eval a go) (then_eval b other)
then_eval-lacking go other (same (Gives v s)) h = h v s
then_eval-lacking go other (same (Stops e s)) h = same _
then_eval-lacking go other (lacks at s x) h = lacks at s _

-- what follows a number, where that comes from a value
pub with_number-lacking : (go other : ℤ → State → Out) → ((z : ℤ) (s : State) → LackingOut (go z s) (other z s)) → (v : Value) (s : State)
    → LackingOut (with_number go v s) (with_number other v s)
with_number-lacking go other h nothing s = h (pos 0) s
with_number-lacking go other h (number z) s = h z s
with_number-lacking go other h (iterator x) s = h (pos 0) s
with_number-lacking go other h (pair x b) s = h (pos 0) s
with_number-lacking go other h (two x b) s = h (pos 0) s
with_number-lacking go other h (scalar_at l) s = h (pos 0) s
with_number-lacking go other h (container_at l) s = h (pos 0) s
with_number-lacking go other h (element_at i j p) s = h (pos 0) s

-- what follows a number
pub then_number-lacking : (go other : ℤ → State → Out) {a b : Out} → LackingOut a b → ((z : ℤ) (s : State) → LackingOut (go z s) (other z s))
    → LackingOut (then_number a go) (then_number b other)
then_number-lacking go other h also = then_eval-lacking (with_number go) (with_number other) h (with_number-lacking go other also)

-- the same, where it is the same in both
pub then_number-same : (go : ℤ → State → Out) {a b : Out} → LackingOut a b → LackingOut (then_number a go) (then_number b go)
then_number-same go h = then_number-lacking go go h (λ z s. same (go z s))

-- an operand before the others
add_value-lacking : (v : Value) {a b : Outs} → LackingOuts a b → LackingOuts (add_value v a) (add_value v b)
add_value-lacking v (all_same x) = all_same _
add_value-lacking v (one_lacks at s x) = one_lacks at s _

-- the operands behind the first one
then_rest-lacking : (go other : State → Outs) {a b : Out} → LackingOut a b → ((s : State) → LackingOuts (go s) (other s))
    → LackingOuts (then_rest a go) (then_rest b other)
then_rest-lacking go other (same (Gives v s)) h = add_value-lacking v (h s)
then_rest-lacking go other (same (Stops e s)) h = all_same _
then_rest-lacking go other (lacks at s x) h = one_lacks at s _

-- what follows all operands
pub then_call-lacking : (go other : List Value → State → Out) {a b : Outs} → LackingOuts a b
    → ((vs : List Value) (s : State) → LackingOut (go vs s) (other vs s)) → LackingOut (then_call a go) (then_call b other)
then_call-lacking go other (all_same (AllGive vs s)) h = h vs s
then_call-lacking go other (all_same (OneStops e s)) h = same _
then_call-lacking go other (one_lacks at s x) h = lacks at s _

-- one of two ways
branch-lacking : (b : Bool) (f g f' g' : State → Out) → ((s : State) → LackingOut (f s) (f' s)) → ((s : State) → LackingOut (g s) (g' s))
    → (s : State) → LackingOut (branch b f g s) (branch b f' g' s)
branch-lacking true f g f' g' h k s = h s
branch-lacking false f g f' g' h k s = k s

-- what a call of the library gives in a state
settle_call-lacking : (h : Head) (vs : List Value) {a b : LibOut} → LackingAnswer a b → (s : State)
    → LackingOut (settle_call h vs a s) (settle_call h vs b s)
settle_call-lacking h vs (same_answer o) s = same _
settle_call-lacking h vs (no_answer o) s = lacks h.place s _

-- a call of the library
pub use_library-lacking : (few many : World) → Lacks few many → (h : Head) (vs : List Value) (s : State)
    → LackingOut (use_library few.lib h vs s) (use_library many.lib h vs s)
use_library-lacking few many l h vs s = settle_call-lacking h vs (l.lib h.callee _ s.memory s.picks) s

mutual
  -- each expression
  pub eval-lacking : (few many : World) → Lacks few many → (a : Expr) (s : State) → LackingOut (eval few a s) (eval many a s)
  eval-lacking few many l (literal ty z) s = same _
  eval-lacking few many l (held x) s = then_eval-lacking _ _ (reach-lacking few many l x s) (λ v s. same _)
  eval-lacking few many l (iterator_held x) s = same _
  eval-lacking few many l (convert ty a) s = then_number-same (λ z s. Gives (number (converted ty z)) s) (eval-lacking few many l a s)
  eval-lacking few many l (negate ty at a) s =
      then_number-same (λ z s. answered at (operated o.Subtract ty (pos 0) z) s) (eval-lacking few many l a s)
  eval-lacking few many l (logical_not at a) s = then_number-same (λ z s. Gives (number (truth (is_zero z))) s) (eval-lacking few many l a s)
  eval-lacking few many l (logical_and at a b) s = then_number-lacking _ _ (eval-lacking few many l a s) (λ z s. branch-lacking (is_zero z)
      (Gives (number (pos 0))) _ (Gives (number (pos 0))) _ (λ s. same _)
      (λ s. then_number-same (λ z s. Gives (number (truth (not (is_zero z)))) s) (eval-lacking few many l b s)) s)
  eval-lacking few many l (logical_or at a b) s = then_number-lacking _ _ (eval-lacking few many l a s) (λ z s. branch-lacking (is_zero z)
      _ (Gives (number (pos 1))) _ (Gives (number (pos 1)))
      (λ s. then_number-same (λ z s. Gives (number (truth (not (is_zero z)))) s) (eval-lacking few many l b s)) (λ s. same _) s)
  eval-lacking few many l (arithmetic op ty at a b) s = then_number-lacking _ _ (eval-lacking few many l a s)
      (λ x s. then_number-same (λ y s. answered at (operated op ty x y) s) (eval-lacking few many l b s))
  eval-lacking few many l (comparison c at a b) s = then_number-lacking _ _ (eval-lacking few many l a s)
      (λ x s. then_number-same (λ y s. Gives (number (truth (compared c x y))) s) (eval-lacking few many l b s))
  eval-lacking few many l (increment d x ty at left) s = then_eval-lacking _ _ (reach-lacking few many l left s) (λ v s. same _)
  eval-lacking few many l (move x it h ops) s = then_call-lacking _ _ (eval_all-lacking few many l ops s)
      (λ vs s. then_eval-lacking _ _ (use_library-lacking few many l h _ s) (λ v s. same _))
  eval-lacking few many l (call h ops) s = then_call-lacking _ _ (eval_all-lacking few many l ops s) (use_library-lacking few many l h)
  eval-lacking few many l (own_call f at ops) s = then_call-lacking _ _ (eval_all-lacking few many l ops s) (l.own f at)
  eval-lacking few many l (first at a) s = then_eval-lacking _ _ (eval-lacking few many l a s) (λ v s. same _)
  eval-lacking few many l (second at a) s = then_eval-lacking _ _ (eval-lacking few many l a s) (λ v s. same _)
  eval-lacking few many l (container x) s = same _
  eval-lacking few many l (handed_scalar x) s = same _

  -- each left side
  pub reach-lacking : (few many : World) → Lacks few many → (x : Left) (s : State) → LackingOut (reach few x s) (reach many x s)
  reach-lacking few many l (scalar x at) s = same _
  reach-lacking few many l (reference x at name part) s = same _
  reach-lacking few many l (element h ops) s = then_call-lacking _ _ (eval_all-lacking few many l ops s) (use_library-lacking few many l h)

  -- operands
  pub eval_all-lacking : (few many : World) → Lacks few many → (ops : Operands) (s : State) → LackingOuts (eval_all few ops s) (eval_all many ops s)
  eval_all-lacking few many l none s = all_same _
  eval_all-lacking few many l (with a rest) s = then_rest-lacking _ _ (eval-lacking few many l a s) (eval_all-lacking few many l rest)
