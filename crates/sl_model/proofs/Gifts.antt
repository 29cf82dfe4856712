-- What an expression, a library and a text's own functions keep of a state: it stays good and at its level, and what is given has
-- the shape that is said and holds stamps that were used.
use Rattle.std.proofs.Common.{◌≡◌, ℕ, ◌<◌, ◌≤◌, Bool, true, false, List, [], ◌∷◌, Option, Some, None, length, ap, ◌∙◌, subst, arith}
use Rattle.std.specs.Prelude.{ℤ, pos, slice_get}
use Rattle.std.proofs.lemmas.Option.{slice_get-get_or}
use Rattle.sl_base.specs.declared.place.Place.{Place}
use Rattle.sl_model.specs.Numbers.{Answer, value, fault}
use Rattle.sl_syntax.specs.declared.typed.callee.Callee.{Callee}
use Rattle.sl_syntax.specs.declared.typed.head.Head.{Head}
use Rattle.sl_syntax.specs.declared.typed.step.Fix.{Fix}
use Rattle.sl_syntax.specs.declared.typed.step.Fix.TheVariants.{Prefix, Postfix}
use Rattle.sl_syntax.specs.Typed.{Left, scalar, reference, element, Function}
use Rattle.sl_model.specs.Memory.Containers.{Memory}
use Rattle.sl_model.specs.LibraryCalls.Values.{Value, nothing, number, iterator, pair, two, scalar_at, container_at, element_at, Args, LibOut, trapped}
use Rattle.sl_model.specs.LibraryCalls.Values.{thrown, faulted}
use Rattle.sl_model.specs.LibraryCalls.Values.{gives, unbuilt, Lib}
use Rattle.sl_model.specs.Runs.State.{State, Frame, iter_of, stamp_of, set_iterator_at, scalar_value}
use Rattle.sl_model.specs.Runs.Eval.{Out, Gives, Stops, Outs, AllGive, OneStops, World, call_own, then_eval, with_number, then_number, add_value, then_rest}
use Rattle.sl_model.specs.Runs.Eval.{then_call, branch, answered, if_set, read_at, settle_call, site_of, use_library, moved_to, chosen, first_of}
use Rattle.sl_model.specs.Runs.Eval.{second_of}
use Rattle.sl_model.specs.Runs.Good.{IsSound, AreApart}
use Rattle.sl_model.specs.Typing.Shapes.{Shape, no_value, a_number, a_stamp, a_pair, two_stamps, an_element, Gift, a_value, the_scalar, the_container}
use Rattle.sl_model.specs.Typing.Shapes.{Signature}
use Rattle.sl_model.specs.Typing.Shapes.{HasShape, IsGiven, HasParts, shape_of_second}
use Rattle.sl_model.specs.Typing.Shapes.{shape_of_result, AllSuit, containers_in}
use Rattle.sl_model.proofs.After.{Leaves}
use Rattle.sl_model.proofs.Growing.{grown}
use Rattle.sl_model.proofs.Levels.{Level, Now, held_used, apart_from_stacks, memory-now, set_iterator-now, Above, now_above, above_less}

-- the stamps of a value are below n
abbrev pub IsUsed : ℕ → Value → Type 0
IsUsed n (iterator stamp) = stamp < n
IsUsed n (pair stamp b) = stamp < n
IsUsed n (two stamp other) = (stamp < n) × (other < n)
IsUsed n v = Unit {0}

-- the stamps of values are below n
abbrev pub AllUsed : ℕ → List Value → Type 0
AllUsed n [] = Unit {0}
AllUsed n (v ∷ vs) = IsUsed n v × AllUsed n vs

-- What a call gives: the memory is sound and nothing has vanished, it has as many containers, or one more where the call makes
-- one, no stamp is unused again, and the value has its shape and a stamp that was used.
pub record Answers (shape : Shape) (makes_one : Bool) (m : Memory) (site : ℕ) (v : Value) (t : Memory) : Type 0 where
  pub leaves : Leaves m site t
  pub many : length t.conts ≡ grown makes_one (length m.conts)
  pub later : m.fresh ≤ t.fresh
  pub shaped : HasShape shape v
  pub used : IsUsed t.fresh v

-- where a call gives something
abbrev pub IsAnswer : Shape → Bool → Memory → ℕ → LibOut → Type 0
IsAnswer shape makes_one m site (gives v t picks) = Answers shape makes_one m site v t
IsAnswer shape makes_one m site (trapped k a) = Unit {0}
IsAnswer shape makes_one m site thrown = Unit {0}
IsAnswer shape makes_one m site (faulted w) = Unit {0}
IsAnswer shape makes_one m site unbuilt = Unit {0}

-- a library gives these shapes and makes containers at these calls, and it keeps memory and what holds of all states of a run
abbrev pub KeepsGood : (Callee → Shape) → (Callee → Bool) → Lib → Type 0
KeepsGood shape makes_one l = (c : Callee) (a : Args) (m : Memory) (picks : List ℕ) → IsSound m → AllUsed m.fresh a.values
    → IsAnswer (shape c) (makes_one c) m a.site (l c a m picks)

-- a value is given in a good state at a level
pub record Gave (L : Level) (n : ℕ) (gift : Gift) (v : Value) (s : State) : Type 0 where
  pub now : Now L n s
  pub given : IsGiven L.frame gift v
  pub used : IsUsed s.memory.fresh v

-- what an expression leaves: a value in a good state at a level, or the end of the run in a good state with stacks as high
abbrev pub OutAt : Level → ℕ → Gift → Out → Type 0
OutAt L n gift (Gives v s) = Gave L n gift v s
OutAt L n gift (Stops e s) = Above L n s

-- each value is what was to be given
abbrev pub AllGiven : Frame → List Gift → List Value → Type 0
AllGiven f [] [] = Unit {0}
AllGiven f (gift ∷ gifts) (v ∷ vs) = IsGiven f gift v × AllGiven f gifts vs
AllGiven f gifts vs = ⊥

-- values are given in a good state at a level
pub record AllGave (L : Level) (n : ℕ) (gifts : List Gift) (vs : List Value) (s : State) : Type 0 where
  pub now : Now L n s
  pub given : AllGiven L.frame gifts vs
  pub used : AllUsed s.memory.fresh vs

-- what operands leave
abbrev pub OutsAt : Level → ℕ → List Gift → Outs → Type 0
OutsAt L n gifts (AllGive vs s) = AllGave L n gifts vs s
OutsAt L n gifts (OneStops e s) = Above L n s

-- a text's own functions keep what holds of all states of a run, where they get what suits them
abbrev pub OwnKeepsGood : Signature → World → Type 0
OwnKeepsGood g w = (f : ℕ) (h : Function) (at : Place) (L : Level) (n : ℕ) (gifts : List Gift) (vs : List Value) (s : State) →
    slice_get g.functions f ≡ Some h → AllSuit h.parameters gifts → AreApart (containers_in gifts) → AllGave L n gifts vs s →
    OutAt L n (a_value (shape_of_result h.result)) (call_own w f at vs s)

-- what a left side stands for
abbrev pub gift_of_left : Left → Gift
gift_of_left (scalar x at) = the_scalar x
gift_of_left (reference x at name part) = a_value an_element
gift_of_left (element h ops) = a_value an_element

-- a stamp that was used stays so
used_more : (n m : ℕ) (v : Value) → n ≤ m → IsUsed n v → IsUsed m v
used_more n m nothing more h = tt
used_more n m (number z) more h = tt
used_more n m (iterator x) more h = let r : x < n = h in omega arith
used_more n m (pair x b) more h = let r : x < n = h in omega arith
used_more n m (two x y) more h = let p : x < n = h.0 in let q : y < n = h.1 in (omega arith, omega arith)
used_more n m (scalar_at l) more h = tt
used_more n m (container_at l) more h = tt
used_more n m (element_at j k part) more h = tt

-- a state in which the stamps below a lesser number were used
now_less : (L : Level) (n m : ℕ) (s : State) → n ≤ m → Now L m s → Now L n s
now_less L n m s less h = record { good = h.good; level = h.level; later = let r : m ≤ s.memory.fresh = h.later in omega arith }

-- the stamps that were used in a state were used in it
pub now_again : (L : Level) (n : ℕ) (s : State) → Now L n s → Now L s.memory.fresh s
now_again L n s h = record { good = h.good; level = h.level; later = omega arith }

-- the stamp of an iterator that is in scope was used
pub stamp_used : (L : Level) (n : ℕ) (s : State) (x : ℕ) → x < length L.frame.iters → Now L n s → stamp_of s x < s.memory.fresh
stamp_used L n s x low h = subst (λ (l : Level). x < length l.frame.iters → stamp_of s x < s.memory.fresh) h.level
    (λ low. held_used s (iter_of s x) h.good (h.good.iters x (iter_of s x) (slice_get-get_or s.frame.iters x 0 low))) low

module _ (L : Level) where
  -- what follows a value
  pub at_then : (n : ℕ) (gift next : Gift) (o : Out) (go : Value → State → Out) → OutAt L n gift o
      → ((v : Value) (s : State) → Gave L n gift v s → OutAt L n next (go v s)) → OutAt L n next (then_eval o go)
  at_then n gift next (Gives v s) go h k = k v s h
  at_then n gift next (Stops e s) go h k = h

  -- what follows a number, where the number comes from a value
  at_number : (n : ℕ) (next : Gift) (go : ℤ → State → Out) (v : Value) (s : State) → Now L n s
      → ((z : ℤ) (s : State) → Now L n s → OutAt L n next (go z s)) → OutAt L n next (with_number go v s)
  at_number n next go nothing s h k = k (pos 0) s h
  at_number n next go (number z) s h k = k z s h
  at_number n next go (iterator x) s h k = k (pos 0) s h
  at_number n next go (pair x b) s h k = k (pos 0) s h
  at_number n next go (two x b) s h k = k (pos 0) s h
  at_number n next go (scalar_at l) s h k = k (pos 0) s h
  at_number n next go (container_at l) s h k = k (pos 0) s h
  at_number n next go (element_at i j p) s h k = k (pos 0) s h

  -- what follows a number
  pub at_then_number : (n : ℕ) (gift next : Gift) (o : Out) (go : ℤ → State → Out) → OutAt L n gift o
      → ((z : ℤ) (s : State) → Now L n s → OutAt L n next (go z s)) → OutAt L n next (then_number o go)
  at_then_number n gift next o go h k = at_then n gift next o (with_number go) h (λ v s i. at_number n next go v s i.now k)

  -- what follows all operands
  pub at_call : (n : ℕ) (gifts : List Gift) (next : Gift) (o : Outs) (go : List Value → State → Out) → OutsAt L n gifts o
      → ((vs : List Value) (s : State) → AllGave L n gifts vs s → OutAt L n next (go vs s)) → OutAt L n next (then_call o go)
  at_call n gifts next (AllGive vs s) go h k = k vs s h
  at_call n gifts next (OneStops e s) go h k = h

  -- an operand before the others
  at_add : (n : ℕ) (gift : Gift) (gifts : List Gift) (v : Value) (t : State) (o : Outs) → Gave L n gift v t → OutsAt L t.memory.fresh gifts o
      → OutsAt L n (gift ∷ gifts) (add_value v o)
  at_add n gift gifts v t (AllGive vs s) h k = record {
    now = now_less L n t.memory.fresh s h.now.later k.now;
    given = (h.given, k.given);
    used = (used_more t.memory.fresh s.memory.fresh v k.now.later h.used, k.used);
  }
  at_add n gift gifts v t (OneStops e s) h k = above_less L n t.memory.fresh s h.now.later k

  -- the operands behind the first one
  pub at_rest : (n : ℕ) (gift : Gift) (gifts : List Gift) (o : Out) (go : State → Outs) → OutAt L n gift o
      → ((s : State) → Now L s.memory.fresh s → OutsAt L s.memory.fresh gifts (go s)) → OutsAt L n (gift ∷ gifts) (then_rest o go)
  at_rest n gift gifts (Gives v s) go h k = at_add n gift gifts v s (go s) h (k s (now_again L n s h.now))
  at_rest n gift gifts (Stops e s) go h k = h

  -- a number is given
  pub gave_number : (n : ℕ) (z : ℤ) (s : State) → Now L n s → Gave L n (a_value a_number) (number z) s
  gave_number n z s h = record { now = h; given = tt; used = tt }

  -- an operator's answer
  pub at_answer : (n : ℕ) (at : Place) (a : Answer) (s : State) → Now L n s → OutAt L n (a_value a_number) (answered at a s)
  at_answer n at (value z) s h = gave_number n z s h
  at_answer n at (fault w) s h = now_above L n s h

  -- one of two ways
  pub at_branch : (n : ℕ) (next : Gift) (b : Bool) (f k : State → Out) (s : State) → OutAt L n next (f s) → OutAt L n next (k s)
      → OutAt L n next (branch b f k s)
  at_branch n next true f k s p q = p
  at_branch n next false f k s p q = q

  -- reading a variable
  at_if_set : (n : ℕ) (at : Place) (z : Option ℤ) (s : State) → Now L n s → OutAt L n (a_value a_number) (if_set at z s)
  at_if_set n at (Some z) s h = gave_number n z s h
  at_if_set n at None s h = now_above L n s h

  -- reading the place of an element
  pub at_element : (n : ℕ) (at : Place) (v : Value) (s : State) → Gave L n (a_value an_element) v s → OutAt L n (a_value a_number) (read_at at v s)
  at_element n at nothing s h = absurd h.given
  at_element n at (number z) s h = absurd h.given
  at_element n at (iterator x) s h = absurd h.given
  at_element n at (pair x b) s h = absurd h.given
  at_element n at (two x b) s h = absurd h.given
  at_element n at (scalar_at l) s h = absurd h.given
  at_element n at (container_at l) s h = absurd h.given
  at_element n at (element_at i j p) s h = record { now = h.now; given = tt; used = tt }

  -- reading the place of a left side
  pub at_read : (n : ℕ) (at : Place) (l : Left) (v : Value) (s : State) → Gave L n (gift_of_left l) v s
      → OutAt L n (a_value a_number) (read_at at v s)
  at_read n at (element hd ops) v s h = at_element n at v s h
  at_read n at (reference x p name part) v s h = at_element n at v s h
  at_read n at (scalar x p) nothing s h = absurd h.given
  at_read n at (scalar x p) (number z) s h = absurd h.given
  at_read n at (scalar x p) (iterator y) s h = absurd h.given
  at_read n at (scalar x p) (pair y b) s h = absurd h.given
  at_read n at (scalar x p) (two y b) s h = absurd h.given
  at_read n at (scalar x p) (scalar_at l) s h = at_if_set n at (scalar_value s l) s h.now
  at_read n at (scalar x p) (container_at l) s h = absurd h.given
  at_read n at (scalar x p) (element_at i j part) s h = absurd h.given

  -- one of two numbers is given
  pub gave_chosen : (n : ℕ) (x : Fix) (y z : ℤ) (s : State) → Now L n s → Gave L n (a_value a_number) (chosen x (number y) (number z)) s
  gave_chosen n Prefix y z s h = gave_number n z s h
  gave_chosen n Postfix y z s h = gave_number n y s h

  -- one of two iterators is given
  gave_iterator : (n : ℕ) (x : Fix) (y z : ℕ) (s : State) → y < s.memory.fresh → z < s.memory.fresh → Now L n s
      → Gave L n (a_value a_stamp) (chosen x (iterator y) (iterator z)) s
  gave_iterator n Prefix y z s p q h = record { now = h; given = tt; used = q }
  gave_iterator n Postfix y z s p q h = record { now = h; given = tt; used = p }

  -- an iterator variable takes the stamp that a call gave
  pub at_moved : (n : ℕ) (x : Fix) (at old : ℕ) (v : Value) (s : State) → old < s.memory.fresh → Gave L n (a_value a_stamp) v s
      → OutAt L n (a_value a_stamp) (moved_to x at old v s)
  at_moved n x at old nothing s low h = absurd h.given
  at_moved n x at old (number z) s low h = absurd h.given
  at_moved n x at old (iterator new) s low h =
      gave_iterator n x old new (set_iterator_at at new s) low h.used (set_iterator-now L n at new s h.used h.now)
  at_moved n x at old (pair y b) s low h = absurd h.given
  at_moved n x at old (two y b) s low h = absurd h.given
  at_moved n x at old (scalar_at l) s low h = absurd h.given
  at_moved n x at old (container_at l) s low h = absurd h.given
  at_moved n x at old (element_at i j p) s low h = absurd h.given

  -- the first part of an iterator and a bool
  first_of_pair : (n : ℕ) (v : Value) (s : State) → Gave L n (a_value a_pair) v s → Gave L n (a_value a_stamp) (first_of v) s
  first_of_pair n nothing s h = absurd h.given
  first_of_pair n (number z) s h = absurd h.given
  first_of_pair n (iterator x) s h = absurd h.given
  first_of_pair n (pair x b) s h = record { now = h.now; given = tt; used = h.used }
  first_of_pair n (two x y) s h = absurd h.given
  first_of_pair n (scalar_at l) s h = absurd h.given
  first_of_pair n (container_at l) s h = absurd h.given
  first_of_pair n (element_at i j p) s h = absurd h.given

  -- the first of two iterators
  first_of_two : (n : ℕ) (v : Value) (s : State) → Gave L n (a_value two_stamps) v s → Gave L n (a_value a_stamp) (first_of v) s
  first_of_two n nothing s h = absurd h.given
  first_of_two n (number z) s h = absurd h.given
  first_of_two n (iterator x) s h = absurd h.given
  first_of_two n (pair x b) s h = absurd h.given
  first_of_two n (two x y) s h = record { now = h.now; given = tt; used = h.used.0 }
  first_of_two n (scalar_at l) s h = absurd h.given
  first_of_two n (container_at l) s h = absurd h.given
  first_of_two n (element_at i j p) s h = absurd h.given

  -- the second part of an iterator and a bool
  second_of_pair : (n : ℕ) (v : Value) (s : State) → Gave L n (a_value a_pair) v s → Gave L n (a_value a_number) (second_of v) s
  second_of_pair n nothing s h = absurd h.given
  second_of_pair n (number z) s h = absurd h.given
  second_of_pair n (iterator x) s h = absurd h.given
  second_of_pair n (pair x b) s h = record { now = h.now; given = tt; used = tt }
  second_of_pair n (two x y) s h = absurd h.given
  second_of_pair n (scalar_at l) s h = absurd h.given
  second_of_pair n (container_at l) s h = absurd h.given
  second_of_pair n (element_at i j p) s h = absurd h.given

  -- the second of two iterators
  second_of_two : (n : ℕ) (v : Value) (s : State) → Gave L n (a_value two_stamps) v s → Gave L n (a_value a_stamp) (second_of v) s
  second_of_two n nothing s h = absurd h.given
  second_of_two n (number z) s h = absurd h.given
  second_of_two n (iterator x) s h = absurd h.given
  second_of_two n (pair x b) s h = absurd h.given
  second_of_two n (two x y) s h = record { now = h.now; given = tt; used = h.used.1 }
  second_of_two n (scalar_at l) s h = absurd h.given
  second_of_two n (container_at l) s h = absurd h.given
  second_of_two n (element_at i j p) s h = absurd h.given

  -- the first of two parts
  pub at_first : (n : ℕ) (gift : Gift) (v : Value) (s : State) → HasParts gift → Gave L n gift v s → Gave L n (a_value a_stamp) (first_of v) s
  at_first n (a_value no_value) v s parts h = absurd parts
  at_first n (a_value a_number) v s parts h = absurd parts
  at_first n (a_value a_stamp) v s parts h = absurd parts
  at_first n (a_value a_pair) v s parts h = first_of_pair n v s h
  at_first n (a_value two_stamps) v s parts h = first_of_two n v s h
  at_first n (a_value an_element) v s parts h = absurd parts
  at_first n (the_scalar x) v s parts h = absurd parts
  at_first n (the_container x) v s parts h = absurd parts

  -- the second of two parts
  pub at_second : (n : ℕ) (gift : Gift) (v : Value) (s : State) → HasParts gift → Gave L n gift v s → Gave L n (a_value (shape_of_second gift))
      (second_of v) s
  at_second n (a_value no_value) v s parts h = absurd parts
  at_second n (a_value a_number) v s parts h = absurd parts
  at_second n (a_value a_stamp) v s parts h = absurd parts
  at_second n (a_value a_pair) v s parts h = second_of_pair n v s h
  at_second n (a_value two_stamps) v s parts h = second_of_two n v s h
  at_second n (a_value an_element) v s parts h = absurd parts
  at_second n (the_scalar x) v s parts h = absurd parts
  at_second n (the_container x) v s parts h = absurd parts

  -- what is given stays so where a lesser number is asked for
  pub out_less : (n m : ℕ) (gift : Gift) (o : Out) → n ≤ m → OutAt L m gift o → OutAt L n gift o
  out_less n m gift (Gives v s) less h = record { now = now_less L n m s less h.now; given = h.given; used = h.used }
  out_less n m gift (Stops e s) less h = above_less L n m s less h

  -- what is given is another gift that is the same
  pub gave_as : (n : ℕ) (gift next : Gift) (v : Value) (s : State) → gift ≡ next → Gave L n gift v s → Gave L n next v s
  gave_as n gift next v s e h = subst (λ (x : Gift). Gave L n x v s) e h

  -- what a call of the library gives, where it makes no container
  at_settle : (n : ℕ) (shape : Shape) (makes_one : Bool) (hd : Head) (vs : List Value) (o : LibOut) (s : State) → makes_one ≡ false → Now L n s
      → IsAnswer shape makes_one s.memory (site_of hd) o → OutAt L n (a_value shape) (settle_call hd vs o s)
  at_settle n shape makes_one hd vs (trapped k a) s e h i = now_above L n s h
  at_settle n shape makes_one hd vs thrown s e h i = now_above L n s h
  at_settle n shape makes_one hd vs (faulted w) s e h i = now_above L n s h
  at_settle n shape makes_one hd vs (gives v m picks) s e h i = record {
    now = apart_from_stacks L n (record s { memory = m }) s.input picks s.steps s.written
        (memory-now L n m s i.leaves.sound (i.many ∙ ap (λ b. grown b (length s.memory.conts)) e) i.later h);
    given = i.shaped;
    used = i.used;
  }
  at_settle n shape makes_one hd vs unbuilt s e h i = now_above L n s h

  -- a call of the library, where it makes no container
  pub at_library : (n : ℕ) (shape : Callee → Shape) (makes_one : Callee → Bool) (l : Lib) → KeepsGood shape makes_one l
      → (hd : Head) (vs : List Value) (s : State) → makes_one hd.callee ≡ false → AllUsed s.memory.fresh vs → Now L n s
      → OutAt L n (a_value (shape hd.callee)) (use_library l hd vs s)
  at_library n shape makes_one l keeps hd vs s e used h =
      at_settle n (shape hd.callee) (makes_one hd.callee) hd vs _ s e h (keeps hd.callee _ s.memory s.picks h.good.sound used)
