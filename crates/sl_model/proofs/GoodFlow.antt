-- What statements are made of keeps a state good and at its level, where each part does.
use Rattle.std.proofs.Common.{ℕ, zero, suc, ◌<◌, Bool, true, false, List, [], ◌∷◌}
use Rattle.std.specs.Prelude.{ℤ, pos}
use Rattle.sl_model.specs.LibraryCalls.Values.{Value, nothing, number, iterator, pair, two, scalar_at, container_at, element_at}
use Rattle.sl_model.specs.Runs.Ends.{OutOfSteps}
use Rattle.sl_model.specs.Runs.State.{State, scalar_of, set_scalar_at}
use Rattle.sl_model.specs.Runs.Eval.{Out, Gives, Stops}
use Rattle.sl_model.specs.Runs.Exec.{Flow, Next, Broke, Continued, Returned, Over, Meaning, tick, and_then, flow_of, on_number, on_stamp, either_way}
use Rattle.sl_model.specs.Runs.Exec.{scoped, read_all, after_body, counted, turns}
use Rattle.sl_model.specs.Typing.Shapes.{Shape, a_stamp, Gift, a_value, HasShape}
use Rattle.sl_model.proofs.Levels.{Level, Now, Above, apart_from_stacks, set_scalar-now, leave-now, now_above}
use Rattle.sl_model.proofs.Gifts.{IsUsed, Gave, OutAt}

-- What a statement leaves: a state of the first sort where the next statement comes, one of the second sort on each other way
-- out, with a value of a shape where it returns, and at the end of the run a good state with stacks as high as at a level.
abbrev pub FlowIn : Shape → Level → ℕ → (State → Type 0) → (State → Type 0) → Flow → Type 0
FlowIn shape L n P Q (Next s) = P s
FlowIn shape L n P Q (Broke s) = Q s
FlowIn shape L n P Q (Continued s) = Q s
FlowIn shape L n P Q (Returned v s) = Q s × (HasShape shape v × IsUsed s.memory.fresh v)
FlowIn shape L n P Q (Over e s) = Above L n s

module _ (shape : Shape) where
  -- other sorts of states that take in the first ones
  pub widened : (L M : Level) (n : ℕ) (P Q R T : State → Type 0) (w : Flow) → ((s : State) → P s → R s) → ((s : State) → Q s → T s)
      → ((s : State) → Above L n s → Above M n s) → FlowIn shape L n P Q w → FlowIn shape M n R T w
  widened L M n P Q R T (Next s) p q r h = p s h
  widened L M n P Q R T (Broke s) p q r h = q s h
  widened L M n P Q R T (Continued s) p q r h = q s h
  widened L M n P Q R T (Returned v s) p q r h = (q s h.0, h.1)
  widened L M n P Q R T (Over e s) p q r h = r s h

  module _ (L : Level) (n : ℕ) where
    -- what comes after a statement
    pub flow_then : (P Q R : State → Type 0) (w : Flow) (go : Meaning) → FlowIn shape L n P Q w → ((s : State) → P s → FlowIn shape L n R Q (go s))
        → FlowIn shape L n R Q (and_then w go)
    flow_then P Q R (Next s) go h k = k s h
    flow_then P Q R (Broke s) go h k = h
    flow_then P Q R (Continued s) go h k = h
    flow_then P Q R (Returned v s) go h k = h
    flow_then P Q R (Over e s) go h k = h

    -- what comes after a loop's body
    pub flow_body : (P : State → Type 0) (w : Flow) (go : Meaning) → FlowIn shape L n P P w → ((s : State) → P s → FlowIn shape L n P P (go s))
        → FlowIn shape L n P P (after_body w go)
    flow_body P (Next s) go h k = k s h
    flow_body P (Broke s) go h k = h
    flow_body P (Continued s) go h k = k s h
    flow_body P (Returned v s) go h k = h
    flow_body P (Over e s) go h k = h

    -- a meaning leads from the level to states of these sorts
    abbrev pub Leads : (State → Type 0) → (State → Type 0) → Meaning → Type 0
    Leads P Q go = (s : State) → Now L n s → FlowIn shape L n P Q (go s)

    -- a meaning stays at the level
    abbrev pub Stays : Meaning → Type 0
    Stays go = (s : State) → Now L n s → FlowIn shape L n (Now L n) (Now L n) (go s)

    -- what follows a value
    pub flow_value : (P Q : State → Type 0) (gift : Gift) (o : Out) (go : Value → Meaning) → OutAt L n gift o
        → ((v : Value) (s : State) → Gave L n gift v s → FlowIn shape L n P Q (go v s)) → FlowIn shape L n P Q (flow_of o go)
    flow_value P Q gift (Gives v s) go h k = k v s h
    flow_value P Q gift (Stops e s) go h k = h

    -- what follows a number
    pub flow_number : (P Q : State → Type 0) (go : ℤ → Meaning) → ((z : ℤ) → Leads P Q (go z)) → (v : Value) → Leads P Q (on_number go v)
    flow_number P Q go k nothing s h = k (pos 0) s h
    flow_number P Q go k (number z) s h = k z s h
    flow_number P Q go k (iterator x) s h = k (pos 0) s h
    flow_number P Q go k (pair x b) s h = k (pos 0) s h
    flow_number P Q go k (two x b) s h = k (pos 0) s h
    flow_number P Q go k (scalar_at l) s h = k (pos 0) s h
    flow_number P Q go k (container_at l) s h = k (pos 0) s h
    flow_number P Q go k (element_at i j p) s h = k (pos 0) s h

    -- what follows a stamp
    pub flow_stamp : (P Q : State → Type 0) (go : ℕ → Meaning)
        → ((x : ℕ) (s : State) → x < s.memory.fresh → Now L n s → FlowIn shape L n P Q (go x s)) → (v : Value) (s : State)
        → Gave L n (a_value a_stamp) v s → FlowIn shape L n P Q (on_stamp go v s)
    flow_stamp P Q go k nothing s h = absurd h.given
    flow_stamp P Q go k (number z) s h = absurd h.given
    flow_stamp P Q go k (iterator x) s h = k x s h.used h.now
    flow_stamp P Q go k (pair x b) s h = absurd h.given
    flow_stamp P Q go k (two x b) s h = absurd h.given
    flow_stamp P Q go k (scalar_at l) s h = absurd h.given
    flow_stamp P Q go k (container_at l) s h = absurd h.given
    flow_stamp P Q go k (element_at i j p) s h = absurd h.given

    -- one of two ways
    pub flow_either : (P Q : State → Type 0) (b : Bool) (f g : Meaning) → Leads P Q f → Leads P Q g → Leads P Q (either_way b f g)
    flow_either P Q true f g h k = h
    flow_either P Q false f g h k = k

    -- a step
    pub flow_tick : (P Q : State → Type 0) (go : Meaning) → Leads P Q go → Leads P Q (tick go)
    flow_tick P Q go k s h =
        elim s.steps as (λ k. FlowIn shape L n P Q (elim k as (λ _. Flow) [ zero ↦ Over OutOfSteps s | suc m ↦ go (record s { steps = m }) ]))
        [ zero ↦ now_above L n s h | suc m ↦ k (record s { steps = m }) (apart_from_stacks L n s s.input s.picks m s.written h) ]

    -- variables are read
    pub flow_reads : (P Q : State → Type 0) (xs : List ℕ) (go : Bool → Meaning) → ((b : Bool) → Leads P Q (go b))
        → Leads P Q (λ s. read_all xs s go)
    flow_reads P Q [] go k s h = k true s h
    flow_reads P Q (x ∷ xs) go k s h =
        elim s.input as (λ l. FlowIn shape L n P Q
        (elim l as (λ _. Flow) [ [] ↦ go false s | z ∷ rest ↦ read_all xs (set_scalar_at (scalar_of s x) z (record s { input = rest })) go ])) [
          | [] ↦ k false s h
          | z ∷ rest ↦ flow_reads P Q xs go k (set_scalar_at (scalar_of s x) z (record s { input = rest }))
              (set_scalar-now L n (scalar_of s x) z (record s { input = rest }) (apart_from_stacks L n s rest s.picks s.steps s.written h))
        ]

    -- a test that hands on states at the level
    abbrev pub Tests : (State → (Bool → Meaning) → Flow) → Type 0
    Tests check = (go : Bool → Meaning) → ((b : Bool) → Stays (go b)) → Stays (λ s. check s go)

    -- a test is counted
    pub counted-now : (s : State) → Now L n s → Now L n (counted s)
    counted-now s h = record {
      good = record {
        sound = h.good.sound;
        scalars = h.good.scalars;
        iters = h.good.iters;
        conts = h.good.conts;
        apart = h.good.apart;
        held = h.good.held;
      };
      level = h.level;
      later = h.later;
    }

    -- the turns of a loop, where its test, its body and its last part stay at the level
    pub flow_turns : (m : ℕ) (check : State → (Bool → Meaning) → Flow) (body last : Meaning) → Tests check → Stays body → Stays last
        → Stays (turns m check body last)
    flow_turns zero check body last p q r s h = now_above L n s h
    flow_turns (suc m) check body last p q r s h =
        flow_tick (Now L n) (Now L n) (λ s. check (counted s)
        (λ b. either_way b (λ s. after_body (body s) (λ s. and_then (last s) (turns m check body last))) Next))
        (λ t j. p (λ b. either_way b (λ s. after_body (body s) (λ s. and_then (last s) (turns m check body last))) Next)
        (λ b. flow_either (Now L n) (Now L n) b (λ s. after_body (body s) (λ s. and_then (last s) (turns m check body last))) Next
        (λ s i. flow_body (Now L n) (body s) (λ s. and_then (last s) (turns m check body last)) (q s i)
        (λ s j. flow_then (Now L n) (Now L n) (Now L n) (last s) (turns m check body last) (r s j) (flow_turns m check body last p q r)))
        (λ s i. i))
        (counted t) (counted-now t j))
        s h

    -- a scope ends on each way out of it
    pub flow_scope : (site : ℕ) (start : State) (w : Flow) → Now L n start → FlowIn shape L n (Above L n) (Above L n) w
        → FlowIn shape L n (Now L n) (Now L n) (scoped site start w)
    flow_scope site start (Next s) h i = leave-now L n site start s h i
    flow_scope site start (Broke s) h i = leave-now L n site start s h i
    flow_scope site start (Continued s) h i = leave-now L n site start s h i
    flow_scope site start (Returned v s) h i = (leave-now L n site start s h i.0, i.1)
    flow_scope site start (Over e s) h i = i
