-- A range-for over a container in scope keeps a state good and at its level.
use Rattle.std.proofs.Common.{◌≡◌, ℕ, suc, ◌<◌, false, not, List, [], ◌∷◌, None, length, ap, sym, ◌∙◌, subst, arith}
use Rattle.std.proofs.lemmas.Option.{slice_get-get_or}
use Rattle.sl_base.specs.declared.place.Place.{Place}
use Rattle.sl_base.specs.declared.scalar.Scalar.TheVariants as t
use Rattle.sl_syntax.specs.declared.operator.Comparison.TheVariants as c
use Rattle.sl_syntax.specs.declared.typed.callee.Callee.TheVariants as callees
use Rattle.sl_syntax.specs.declared.typed.element.Taken.{Taken}
use Rattle.sl_syntax.specs.declared.typed.element.Taken.TheVariants as taken
use Rattle.sl_syntax.specs.declared.typed.head.Head.{Head}
use Rattle.sl_syntax.specs.declared.typed.operator.Operator.TheVariants as operators
use Rattle.sl_model.specs.Numbers.{is_zero}
use Rattle.sl_model.specs.Memory.Containers.{Memory, begin_of, end_of}
use Rattle.sl_model.specs.LibraryCalls.Values.{Value}
use Rattle.sl_model.specs.Runs.State.{State, cont_of, set_scalar_at, set_iterator_at, stamp_held, new_scalar, new_iterator}
use Rattle.sl_model.specs.Runs.Eval.{World, read_at, use_library}
use Rattle.sl_model.specs.Runs.Exec.{Next, Meaning, and_then, flow_of, on_number, on_stamp, binds_to, asks, hidden_at, takes_number, takes_element}
use Rattle.sl_model.specs.Runs.Exec.{over_range, range_start}
use Rattle.sl_model.specs.Runs.Good.{IsSound}
use Rattle.sl_model.specs.Typing.Shapes.{Shape, a_number, a_stamp, an_element, a_value, Signature}
use Rattle.sl_model.specs.Typing.Scoped.{one_scalar, one_iterator, with_range, AsksWell}
use Rattle.sl_model.proofs.Placing.{place_used, end_used}
use Rattle.sl_model.proofs.Levels.{Level, counts_of, Now, Above, now_above, held_used, with_scalar, with_iterator, new_scalar-now, new_iterator-now}
use Rattle.sl_model.proofs.Levels.{set_scalar-now, set_iterator-now, scalar_above, iterator_above}
use Rattle.sl_model.proofs.Gifts.{AllUsed, KeepsGood, Gave, OutAt, at_element, gave_as, at_library}
use Rattle.sl_model.proofs.GoodEffects.{counts_scalar, counts_iterator, at_binds}
use Rattle.sl_model.proofs.GoodFlow.{FlowIn, widened, flow_then, flow_value, flow_number, flow_stamp, flow_turns, flow_scope, Stays}

-- the first place of a container that is there was used
begin_used : (m : Memory) (j : ℕ) → IsSound m → j < length m.conts → begin_of m j < m.fresh
begin_used m j sound low = place_used m j 0 sound (record { there = low; within = omega arith })

-- the level with the two hidden iterators of a range-for
abbrev pub level_hidden : Level → Level
level_hidden L = with_iterator (with_iterator L)

-- the level of its body: the element is in scope too, a number or a reference
abbrev pub level_range : Taken → Level → Level
level_range taken.Value L = with_scalar (level_hidden L)
level_range taken.Reference L = with_iterator (level_hidden L)

-- what is in scope with the hidden iterators
counts_hidden : (L : Level) → counts_of (level_hidden L).frame ≡ one_iterator (one_iterator (counts_of L.frame))
counts_hidden L = counts_iterator (with_iterator L) ∙ ap one_iterator (counts_iterator L)

-- what is in scope in the body
pub counts_range : (by : Taken) (L : Level) → counts_of (level_range by L).frame ≡ with_range by (counts_of L.frame)
counts_range taken.Value L = counts_scalar (level_hidden L) ∙ ap one_scalar (counts_hidden L)
counts_range taken.Reference L = counts_iterator (level_hidden L) ∙ ap one_iterator (counts_hidden L)

-- stacks that are as high as with the hidden iterators are as high as before
pub hidden_above : (L : Level) (n : ℕ) (s : State) → Above (level_hidden L) n s → Above L n s
hidden_above L n s h = iterator_above L n s (iterator_above (with_iterator L) n s h)

-- and so are those with a number more
pub numbered_above : (L : Level) (n : ℕ) (s : State) → Above (level_range taken.Value L) n s → Above L n s
numbered_above L n s h = hidden_above L n s (scalar_above (level_hidden L) n s h)

-- the state in which the hidden iterators have come into scope
pub range-now : (L : Level) (n x : ℕ) (s : State) → x < length L.frame.conts → Now L n s → Now (level_hidden L) n (range_start (cont_of s x) s)
range-now L n x s low h =
    let first = new_iterator-now L n (begin_of s.memory (cont_of s x)) s (begin_used s.memory (cont_of s x) h.good.sound there) h in
    new_iterator-now (with_iterator L) n (end_of s.memory (cont_of s x)) (new_iterator (begin_of s.memory (cont_of s x)) s)
    (end_used s.memory (cont_of s x) h.good.sound there) first
  where
    there : cont_of s x < length s.memory.conts
    there = h.good.conts x (cont_of s x) (slice_get-get_or s.frame.conts x 0 (subst (λ (l : Level). x < length l.frame.conts) (sym h.level) low))

-- and that in which the number of the element has, too
pub numbered-now : (L : Level) (n x : ℕ) (s : State) → x < length L.frame.conts → Now L n s
    → Now (level_range taken.Value L) n (new_scalar t.Int None (range_start (cont_of s x) s))
numbered-now L n x s low h = new_scalar-now (level_hidden L) n t.Int None (range_start (cont_of s x) s) (range-now L n x s low h)

-- a hidden iterator holds a stamp that was used
pub hidden_used : (L : Level) (n b : ℕ) (s : State) → b < L.iters → Now L n s → stamp_held s b < s.memory.fresh
hidden_used L n b s low h = held_used s b h.good (subst (λ (l : Level). b < l.iters) (sym h.level) low)

module _ (shape : Shape) (L : Level) (n : ℕ) where
  -- a range-for's variable takes the number of an element
  pub at_takes_number : (at : Place) (x : ℕ) (body : Meaning) → Stays shape L n body → (v : Value) (s : State) → Gave L n (a_value an_element) v s
      → FlowIn shape L n (Now L n) (Now L n) (takes_number at x body v s)
  at_takes_number at x body k v s h =
      flow_value shape L n (Now L n) (Now L n) (a_value a_number) (read_at at v s) (on_number (λ z s. body (set_scalar_at x z s)))
      (at_element L n at v s h)
      (λ u s j. flow_number shape L n (Now L n) (Now L n) (λ z s. body (set_scalar_at x z s))
      (λ z s l. k (set_scalar_at x z s) (set_scalar-now L n x z s l)) u s j.now)

  -- or its reference is bound to the element, for one turn
  pub at_takes_element : (at : Place) (body : Meaning) → Stays shape (with_iterator L) n body → (v : Value) (s : State)
      → Gave L n (a_value an_element) v s → FlowIn shape L n (Now L n) (Now L n) (takes_element at body v s)
  at_takes_element at body k v s h = flow_scope shape L n 0 s (and_then (binds_to at v s) body) h.now
      (flow_then shape L n (Now (with_iterator L) n) (Above L n) (Above L n) (binds_to at v s) body (at_binds shape L n (Above L n) at v s h)
      (λ t j. widened shape (with_iterator L) L n (Now (with_iterator L) n) (Now (with_iterator L) n) (Above L n) (Above L n) (body t)
      (λ u l. iterator_above L n u (now_above (with_iterator L) n u l)) (λ u l. iterator_above L n u (now_above (with_iterator L) n u l))
      (iterator_above L n) (k t j)))

module _ (w : World) (g : Signature) (lib_keeps : KeepsGood g.shape g.makes w.lib) (shape : Shape) (L : Level) (n : ℕ) where
  -- a call of the library, where it makes no container
  pub asked : (hd : Head) (vs : List Value) (s : State) → g.makes hd.callee ≡ false → AllUsed s.memory.fresh vs → Now L n s
      → OutAt L n (a_value (g.shape hd.callee)) (use_library w.lib hd vs s)
  asked hd vs s e used h = at_library L n g.shape g.makes w.lib lib_keeps hd vs s e used h

  -- a range-for
  pub at_range : (at : Place) (name b e : ℕ) (takes : Value → Meaning) → b < L.iters → e < L.iters → AsksWell g
      → ((v : Value) (s : State) → Gave L n (a_value an_element) v s → FlowIn shape L n (Now L n) (Now L n) (takes v s))
      → Stays shape L n (over_range w at name b e takes)
  at_range at name b e takes b_low e_low well k s h = flow_turns shape L n (suc s.steps)
      (λ s go. flow_of (use_library w.lib (asks (operators.Compare c.NotEqual) at name) (hidden_at s b ∷ hidden_at s e ∷ []) s)
      (on_number (λ z. go (not (is_zero z)))))
      (λ s. flow_of (use_library w.lib (asks operators.Dereference at name) (hidden_at s b ∷ []) s) takes)
      (λ s. flow_of (use_library w.lib (asks operators.Increment at name) (hidden_at s b ∷ []) s)
      (on_stamp (λ stamp s. Next (set_iterator_at b stamp s))))
      (λ go p s i. flow_value shape L n (Now L n) (Now L n) (a_value (g.shape (callees.Hidden (operators.Compare c.NotEqual))))
      (use_library w.lib (asks (operators.Compare c.NotEqual) at name) (hidden_at s b ∷ hidden_at s e ∷ []) s) (on_number (λ z. go (not (is_zero z))))
      (asked (asks (operators.Compare c.NotEqual) at name) (hidden_at s b ∷ hidden_at s e ∷ []) s well.tests
      (hidden_used L n b s b_low i, (hidden_used L n e s e_low i, tt)) i)
      (λ v s j. flow_number shape L n (Now L n) (Now L n) (λ z. go (not (is_zero z))) (λ z. p (not (is_zero z))) v s j.now))
      (λ s i. flow_value shape L n (Now L n) (Now L n) (a_value (g.shape (callees.Hidden operators.Dereference)))
      (use_library w.lib (asks operators.Dereference at name) (hidden_at s b ∷ []) s) takes
      (asked (asks operators.Dereference at name) (hidden_at s b ∷ []) s well.reads_one (hidden_used L n b s b_low i, tt) i)
      (λ v s j. k v s
      (gave_as L n (a_value (g.shape (callees.Hidden operators.Dereference))) (a_value an_element) v s (ap (λ y. a_value y) well.element_read) j)))
      (λ s i. flow_value shape L n (Now L n) (Now L n) (a_value (g.shape (callees.Hidden operators.Increment)))
      (use_library w.lib (asks operators.Increment at name) (hidden_at s b ∷ []) s)
      (on_stamp (λ stamp s. Next (set_iterator_at b stamp s)))
      (asked (asks operators.Increment at name) (hidden_at s b ∷ []) s well.steps (hidden_used L n b s b_low i, tt) i)
      (λ v s j. flow_stamp shape L n (Now L n) (Now L n) (λ stamp s. Next (set_iterator_at b stamp s))
      (λ stamp s low l. set_iterator-now L n b stamp s low l) v s
      (gave_as L n (a_value (g.shape (callees.Hidden operators.Increment))) (a_value a_stamp) v s (ap (λ y. a_value y) well.stamp_stepped) j)))
      s h
