-- What statements are made of keeps the stacks of their types, and no end is for want of a meaning, where each part does so.
use Rattle.std.proofs.Common.{◌≡◌, ℕ, zero, suc, Bool, true, false, List, [], ◌∷◌, Option, Some, None, length}
use Rattle.std.specs.Prelude.{ℤ, pos}
use Rattle.sl_base.specs.declared.form.Form.{Form}
use Rattle.sl_syntax.specs.declared.typed.parameter.ParameterKind.{ParameterKind}
use Rattle.sl_syntax.specs.declared.typed.parameter.ParameterKind.TheVariants as parameters
use Rattle.sl_model.specs.Memory.Containers.{Memory, end_from}
use Rattle.sl_model.specs.LibraryCalls.Values.{Value, number, iterator}
use Rattle.sl_model.specs.Runs.Ends.{OutOfSteps}
use Rattle.sl_model.specs.Runs.State.{State, scalar_of, set_scalar_at}
use Rattle.sl_model.specs.Runs.Eval.{Out, Gives, Stops}
use Rattle.sl_model.specs.Runs.Exec.{Flow, Next, Broke, Continued, Returned, Over, Meaning, tick, and_then, flow_of, on_number, on_stamp, either_way}
use Rattle.sl_model.specs.Runs.Exec.{scoped, read_all, after_body, counted, turns}
use Rattle.sl_model.specs.Typing.Shapes.{Shape, Gift}
use Rattle.sl_model.specs.Typing.WellTypedExpressions.{type_given}
use Rattle.sl_model.proofs.Fitting.{StampFits, IsIteratorOf, Fits}
use Rattle.sl_model.proofs.FormsAfter.{ended-fits}
use Rattle.sl_model.proofs.Levels.{Level, Now, apart_from_stacks, set_scalar-now}
use Rattle.sl_model.proofs.Gifts.{Gave, OutAt}
use Rattle.sl_model.proofs.GoodFlow.{FlowIn, counted-now}
use Rattle.sl_model.proofs.StackTypes.{Stack, StacksFit, HasMeaning, set_scalar-fits, end-fits}
use Rattle.sl_model.proofs.FitOuts.{OutHas}

-- What a statement leaves: stacks that fit what is known behind it where the next statement comes, and what was known before it on each other way
-- out, with a value of the type that is due where it returns, or an end that has a meaning.
abbrev pub FlowFits : Option ParameterKind → Stack → Stack → Flow → Type 0
FlowFits due d e (Next s) = StacksFit e s
FlowFits due d e (Broke s) = StacksFit d s
FlowFits due d e (Continued s) = StacksFit d s
FlowFits due d e (Returned v s) = Fits s.memory (type_given due) v × StacksFit d s
FlowFits due d e (Over x s) = HasMeaning x

-- an iterator goes on to be of its form where scopes end
iterator_ended : (site n : ℕ) (m : Memory) (form : Form) (v : Value) → IsIteratorOf m form v
    → IsIteratorOf (end_from site n m) form v
iterator_ended site n m form (iterator stamp) h = ended-fits site n m form stamp h
iterator_ended site n m form v h = h

-- what a function gives goes on to be of its type
pub given_ended : (due : Option ParameterKind) (site n : ℕ) (m : Memory) (v : Value) → Fits m (type_given due) v
    → Fits (end_from site n m) (type_given due) v
given_ended None site n m v h = h
given_ended (Some (parameters.Value s)) site n m v h = h
given_ended (Some (parameters.Reference s)) site n m v h = h
given_ended (Some (parameters.Container access x)) site n m v h = h
given_ended (Some (parameters.Iterator b x)) site n m v h = iterator_ended site n m x v h

module _ (due : Option ParameterKind) where
  -- other things that are known, where what is known before lets them be known
  pub flow_as : (d e p q : Stack) (w : Flow) → ((s : State) → StacksFit d s → StacksFit p s) → ((s : State) → StacksFit e s → StacksFit q s)
      → FlowFits due d e w → FlowFits due p q w
  flow_as d e p q (Next s) k l h = l s h
  flow_as d e p q (Broke s) k l h = k s h
  flow_as d e p q (Continued s) k l h = k s h
  flow_as d e p q (Returned v s) k l h = (h.0, k s h.1)
  flow_as d e p q (Over x s) k l h = h

  -- a scope ends on each way out of it
  pub fit_scope : (d : Stack) (site : ℕ) (start : State) (w : Flow) → length d.conts ≡ length start.memory.conts
      → length d.iters ≡ length start.iters → FlowFits due d d w → FlowFits due d d (scoped site start w)
  fit_scope d site start (Next s) c i h = end-fits d site (length start.memory.conts) (length start.iters) s.memory s.iters c i h
  fit_scope d site start (Broke s) c i h = end-fits d site (length start.memory.conts) (length start.iters) s.memory s.iters c i h
  fit_scope d site start (Continued s) c i h = end-fits d site (length start.memory.conts) (length start.iters) s.memory s.iters c i h
  fit_scope d site start (Returned v s) c i h = (
    given_ended due site (length start.memory.conts) s.memory v h.0,
    end-fits d site (length start.memory.conts) (length start.iters) s.memory s.iters c i h.1,
  )
  fit_scope d site start (Over x s) c i h = h

  module _ (L : Level) (d : Stack) where
    -- what comes after a statement
    pub fit_after : (e p : Stack) (shape : Shape) (M : Level) (P Q : State → Type 0) (w : Flow) (go : Meaning) → FlowIn shape M d.used P Q w
        → FlowFits due d e w → ((s : State) → P s → StacksFit e s → FlowFits due d p (go s)) → FlowFits due d p (and_then w go)
    fit_after e p shape M P Q (Next s) go h i k = k s h i
    fit_after e p shape M P Q (Broke s) go h i k = i
    fit_after e p shape M P Q (Continued s) go h i k = i
    fit_after e p shape M P Q (Returned v s) go h i k = i
    fit_after e p shape M P Q (Over x s) go h i k = i

    -- what comes after a loop's body
    fit_body : (shape : Shape) (w : Flow) (go : Meaning) → FlowIn shape L d.used (Now L d.used) (Now L d.used) w → FlowFits due d d w
        → ((s : State) → Now L d.used s → StacksFit d s → FlowFits due d d (go s)) → FlowFits due d d (after_body w go)
    fit_body shape (Next s) go h i k = k s h i
    fit_body shape (Broke s) go h i k = i
    fit_body shape (Continued s) go h i k = k s h i
    fit_body shape (Returned v s) go h i k = i
    fit_body shape (Over x s) go h i k = i

    -- a meaning leads from stacks that fit to what is known
    abbrev pub Fit : Stack → Meaning → Type 0
    Fit e go = (s : State) → Now L d.used s → StacksFit d s → FlowFits due d e (go s)

    -- what follows a value
    pub fit_value : (e : Stack) (gift : Gift) (P : Memory → Value → Type 0) (o : Out) (go : Value → Meaning) → OutAt L d.used gift o
        → OutHas P d o → ((v : Value) (s : State) → Gave L d.used gift v s → P s.memory v → StacksFit d s → FlowFits due d e (go v s))
        → FlowFits due d e (flow_of o go)
    fit_value e gift P (Gives v s) go h i k = k v s h i.0 i.1
    fit_value e gift P (Stops x s) go h i k = i

    -- what follows a number, where the number comes from a value
    pub fit_on_number : (e : Stack) (go : ℤ → Meaning) (v : Value) (s : State) → ((z : ℤ) → FlowFits due d e (go z s))
        → FlowFits due d e (on_number go v s)
    fit_on_number e go (number z) s k = k z
    fit_on_number e go v s k = k (pos 0)

    -- what follows a stamp of a form
    pub fit_on_stamp : (e : Stack) (form : Form) (go : ℕ → Meaning) (v : Value) (s : State) → IsIteratorOf s.memory form v
        → ((x : ℕ) → StampFits s.memory form x → FlowFits due d e (go x s)) → FlowFits due d e (on_stamp go v s)
    fit_on_stamp e form go (iterator x) s h k = k x h
    fit_on_stamp e form go v s h k = absurd h

    -- one of two ways
    pub fit_either : (e : Stack) (b : Bool) (f g : Meaning) → Fit e f → Fit e g → Fit e (either_way b f g)
    fit_either e true f g h k = h
    fit_either e false f g h k = k

    -- a step
    pub fit_tick : (e : Stack) (go : Meaning) → Fit e go → Fit e (tick go)
    fit_tick e go k s h f =
        elim s.steps as (λ k. FlowFits due d e (elim k as (λ _. Flow) [ zero ↦ Over OutOfSteps s | suc m ↦ go (record s { steps = m }) ]))
        [ zero ↦ tt | suc m ↦ k (record s { steps = m }) (apart_from_stacks L d.used s s.input s.picks m s.written h) f ]

    -- variables are read
    pub fit_reads : (xs : List ℕ) (go : Bool → Meaning) → ((b : Bool) → Fit d (go b)) → Fit d (λ s. read_all xs s go)
    fit_reads [] go k s h f = k true s h f
    fit_reads (x ∷ xs) go k s h f =
        elim s.input as (λ l. FlowFits due d d
        (elim l as (λ _. Flow) [ [] ↦ go false s | z ∷ rest ↦ read_all xs (set_scalar_at (scalar_of s x) z (record s { input = rest })) go ])) [
          | [] ↦ k false s h f
          | z ∷ rest ↦ fit_reads xs go k (set_scalar_at (scalar_of s x) z (record s { input = rest }))
              (set_scalar-now L d.used (scalar_of s x) z (record s { input = rest }) (apart_from_stacks L d.used s rest s.picks s.steps s.written h))
              (set_scalar-fits d (scalar_of s x) z (record s { input = rest }) f)
        ]

    -- a test that hands on stacks that fit
    abbrev pub FitTests : (State → (Bool → Meaning) → Flow) → Type 0
    FitTests check = (go : Bool → Meaning) → ((b : Bool) → Fit d (go b)) → Fit d (λ s. check s go)

    -- the turns of a loop
    pub fit_turns : (shape : Shape) (m : ℕ) (check : State → (Bool → Meaning) → Flow) (body last : Meaning)
        → ((s : State) → Now L d.used s → FlowIn shape L d.used (Now L d.used) (Now L d.used) (body s))
        → ((s : State) → Now L d.used s → FlowIn shape L d.used (Now L d.used) (Now L d.used) (last s)) → FitTests check → Fit d body → Fit d last
        → Fit d (turns m check body last)
    fit_turns shape zero check body last x y p q r s h f = tt
    fit_turns shape (suc m) check body last x y p q r s h f =
        fit_tick d (λ s. check (counted s)
        (λ b. either_way b (λ s. after_body (body s) (λ s. and_then (last s) (turns m check body last))) Next))
        (λ t j i. p (λ b. either_way b (λ s. after_body (body s) (λ s. and_then (last s) (turns m check body last))) Next)
        (λ b. fit_either d b (λ s. after_body (body s) (λ s. and_then (last s) (turns m check body last))) Next
        (λ s j i. fit_body shape (body s) (λ s. and_then (last s) (turns m check body last)) (x s j) (q s j i)
        (λ s j i. fit_after d d shape L (Now L d.used) (Now L d.used) (last s) (turns m check body last) (y s j) (r s j i)
        (λ s j i. fit_turns shape m check body last x y p q r s j i)))
        (λ s j i. i))
        (counted t) (counted-now shape L d.used t j) i)
        s h f
