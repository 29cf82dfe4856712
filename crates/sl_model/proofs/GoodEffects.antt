-- Each condition, effect and declaration that uses what is in scope keeps a state good, and it keeps the level, or a declaration
-- adds what it declares.
use Rattle.std.proofs.Common.{◌≡◌, ℕ, ◌+◌, ◌<◌, ◌≤◌, true, not, List, [], ◌∷◌, ◌++◌, Option, Some, None, length, length-append, refl, ap, sym}
use Rattle.std.proofs.Common.{◌∙◌, subst, unwrap_or, arith}
use Rattle.std.specs.Prelude.{ℤ, slice_get}
use Rattle.std.specs.Fmt.{signed_decimal}
use Rattle.std.proofs.lemmas.Option.{get_or_from_slice_get, unwrap_or-slice_get}
use Rattle.sl_base.specs.declared.place.Place.{Place}
use Rattle.sl_base.specs.declared.scalar.Scalar.{Scalar}
use Rattle.sl_base.specs.declared.form.Form.TheVariants as f
use Rattle.sl_syntax.specs.declared.operator.Arithmetic.{Arithmetic}
use Rattle.sl_model.specs.Numbers.{is_zero, converted, operated}
use Rattle.sl_syntax.specs.declared.typed.head.Head.{Head}
use Rattle.sl_syntax.specs.Typed.{Expr, Left, Cond, read, not_read, test, always, Printed, text, endline, number as printed_number, Effect, reads}
use Rattle.sl_syntax.specs.Typed.{prints, evaluates, assigns, updates, moves_to, Declaration, unset_scalar, set_scalar, set_iterator, binds_reference}
use Rattle.sl_syntax.specs.Typed.{makes, element, First, no_first, declares_first, does_first}
use Rattle.sl_model.specs.Memory.Containers.{Cont, Memory, Part, cont_at, refers}
use Rattle.sl_model.specs.LibraryCalls.Values.{Value, nothing, number, iterator, pair, two, scalar_at, container_at, element_at, LibOut, trapped, thrown}
use Rattle.sl_model.specs.LibraryCalls.Values.{faulted, gives, unbuilt}
use Rattle.sl_model.specs.Runs.State.{reference_to, State, iter_of, set_iterator_at, new_scalar, new_iterator, new_container}
use Rattle.sl_model.specs.Runs.Eval.{Outs, AllGive, OneStops, World, eval, reach, eval_all, then_number, then_call, read_at, write_at, answered}
use Rattle.sl_model.specs.Runs.Eval.{settle_call, site_of, use_library, name_place}
use Rattle.sl_model.specs.Runs.Exec.{Next, Meaning, flow_of, on_number, on_stamp, tested, printed, print_all, wrote, is_name, affect, bound_to, binds_to}
use Rattle.sl_model.specs.Runs.Exec.{declared, begun, ended}
use Rattle.sl_model.specs.Runs.Good.{IsSound}
use Rattle.sl_model.specs.Typing.Shapes.{Shape, a_number, a_stamp, an_element, Gift, a_value, Signature, gift_of, gifts_of}
use Rattle.sl_model.specs.Typing.Scoped.{one_scalar, one_container, one_iterator, InExpr, InLeft, InCond, InPrinted, InPrint, InEffect, InDeclaration}
use Rattle.sl_model.specs.Typing.Scoped.{with_declaration, InFirst, with_first, InLast}
use Rattle.sl_model.proofs.Getting.{get_map}
use Rattle.sl_model.proofs.Growing.{grown}
use Rattle.sl_model.proofs.Levels.{Level, counts_of, Now, Above, apart_from_stacks, set_iterator-now, write-now, with_scalar, with_iterator}
use Rattle.sl_model.proofs.Levels.{with_container, new_scalar-now, new_pointer-now, new_iterator-now, new_container-now, now_above, scalar_above}
use Rattle.sl_model.proofs.Levels.{iterator_above}
use Rattle.sl_model.proofs.Gifts.{KeepsGood, OwnKeepsGood, IsAnswer, Gave, OutAt, OutsAt, gift_of_left, at_then_number, at_answer, at_read}
use Rattle.sl_model.proofs.Gifts.{gave_as}
use Rattle.sl_model.proofs.GoodEval.{at_eval, at_reach, at_all}
use Rattle.sl_model.proofs.GoodFlow.{FlowIn, flow_then, flow_value, flow_number, flow_stamp, flow_either, flow_reads, Leads, Tests}

-- the level after a declaration
abbrev pub level_declared : Declaration → Level → Level
level_declared (unset_scalar ty) L = with_scalar L
level_declared (set_scalar ty a) L = with_scalar L
level_declared (set_iterator a) L = with_iterator L
level_declared (binds_reference hd ops) L = with_iterator L
level_declared (makes form hd ops) L = with_container L

-- the level after the first part of a `for`
abbrev pub level_begun : First → Level → Level
level_begun no_first L = L
level_begun (declares_first d) L = level_declared d L
level_begun (does_first e) L = L

-- one scalar more is in scope
pub counts_scalar : (L : Level) → counts_of (with_scalar L).frame ≡ one_scalar (counts_of L.frame)
counts_scalar L = ap (λ k. record (counts_of L.frame) { scalars = k }) (length-append L.frame.scalars (L.scalars ∷ []))

-- one iterator more is in scope
pub counts_iterator : (L : Level) → counts_of (with_iterator L).frame ≡ one_iterator (counts_of L.frame)
counts_iterator L = ap (λ k. record (counts_of L.frame) { iters = k }) (length-append L.frame.iters (L.iters ∷ []))

-- one container more is in scope
counts_container : (L : Level) → counts_of (with_container L).frame ≡ one_container (counts_of L.frame)
counts_container L = ap (λ k. record (counts_of L.frame) { conts = k }) (length-append L.frame.conts (L.conts ∷ []))

-- what is in scope after a declaration
pub counts_declared : (d : Declaration) (L : Level) → counts_of (level_declared d L).frame ≡ with_declaration d (counts_of L.frame)
counts_declared (unset_scalar ty) L = counts_scalar L
counts_declared (set_scalar ty a) L = counts_scalar L
counts_declared (set_iterator a) L = counts_iterator L
counts_declared (binds_reference hd ops) L = counts_iterator L
counts_declared (makes form hd ops) L = counts_container L

-- what is in scope after the first part of a `for`
pub counts_begun : (f : First) (L : Level) → counts_of (level_begun f L).frame ≡ with_first f (counts_of L.frame)
counts_begun no_first L = refl
counts_begun (declares_first d) L = counts_declared d L
counts_begun (does_first e) L = refl

-- stacks that are as high as after a declaration are as high as before it
pub declared_above : (d : Declaration) (L : Level) (n : ℕ) (s : State) → Above (level_declared d L) n s → Above L n s
declared_above (unset_scalar ty) L n s h = scalar_above L n s h
declared_above (set_scalar ty a) L n s h = scalar_above L n s h
declared_above (set_iterator a) L n s h = iterator_above L n s h
declared_above (binds_reference hd ops) L n s h = iterator_above L n s h
declared_above (makes form hd ops) L n s h = record {
  good = h.good;
  scalars = h.scalars;
  iters = h.iters;
  conts = let r : L.conts + 1 ≤ length s.memory.conts = h.conts in omega arith;
  later = h.later;
}

-- stacks that are as high as after the first part of a `for` are as high as before it
pub begun_above : (f : First) (L : Level) (n : ℕ) (s : State) → Above (level_begun f L) n s → Above L n s
begun_above no_first L n s h = h
begun_above (declares_first d) L n s h = declared_above d L n s h
begun_above (does_first e) L n s h = h

-- the container that stands for one that isn't there
abbrev pub not_one : Memory → Cont
not_one m = record { form = f.Vector; cells = []; end = m.fresh; room = 0 }

-- a refer that is found in a container was used
refer_used : (m : Memory) (j k r : ℕ) → IsSound m → slice_get (refers (cont_at m j)) k ≡ Some r → r < m.fresh
refer_used m j k r sound stands = by_place (slice_get m.conts j) refl
  where
    at_none : slice_get m.conts j ≡ None → cont_at m j ≡ not_one m
    at_none e = sym (unwrap_or-slice_get m.conts j (not_one m)) ∙ ap (λ o. unwrap_or o (not_one m)) e

    by_place : (o : Option Cont) → slice_get m.conts j ≡ o → r < m.fresh
    by_place (Some c) e = sound.refers_apart.used j k r (
      refers c,
      get_map refers m.conts j c e,
      subst (λ (x : Cont). slice_get (refers x) k ≡ Some r) (get_or_from_slice_get m.conts j c (not_one m) e) stands,
    )
    by_place None e = absurd (let q : None ≡ Some r = subst (λ (x : Cont). slice_get (refers x) k ≡ Some r) (at_none e) stands in cc)

module _ (shape : Shape) (L : Level) (n : ℕ) (Q : State → Type 0) where
  -- a reference comes into scope, where there is an element
  at_bound_to : (at : Place) (part : Part) (refer : Option ℕ) (s : State) → ((r : ℕ) → refer ≡ Some r → r < s.memory.fresh) → Now L n s
      → FlowIn shape L n (Now (with_iterator L) n) Q (bound_to at part refer s)
  at_bound_to at part None s used h = now_above L n s h
  at_bound_to at part (Some r) s used h = new_pointer-now L n (reference_to r part) s (used r refl) h

  -- a reference to what a call gave comes into scope
  pub at_binds : (at : Place) (v : Value) (s : State) → Gave L n (a_value an_element) v s
      → FlowIn shape L n (Now (with_iterator L) n) Q (binds_to at v s)
  at_binds at nothing s h = absurd h.given
  at_binds at (number z) s h = absurd h.given
  at_binds at (iterator x) s h = absurd h.given
  at_binds at (pair x b) s h = absurd h.given
  at_binds at (two x b) s h = absurd h.given
  at_binds at (scalar_at l) s h = absurd h.given
  at_binds at (container_at l) s h = absurd h.given
  at_binds at (element_at j k part) s h = at_bound_to at part (slice_get (refers (cont_at s.memory j)) k) s
      (λ r e. refer_used s.memory j k r h.now.good.sound e) h.now

module _ (w : World) (g : Signature) (lib_keeps : KeepsGood g.shape g.makes w.lib) (own_keeps : OwnKeepsGood g w) (shape : Shape) (L : Level)
    (n : ℕ) where
  -- an expression
  abbrev value_of : (a : Expr) (s : State) → InExpr g (counts_of L.frame) a → Now L n s → OutAt L n (gift_of g a) (eval w a s)
  value_of a s i h = at_eval w g lib_keeps own_keeps L a n s i h

  -- what follows an expression
  flow_of_value : (P Q : State → Type 0) (a : Expr) (go : Value → Meaning) (s : State) → InExpr g (counts_of L.frame) a
      → ((v : Value) (s : State) → Gave L n (gift_of g a) v s → FlowIn shape L n P Q (go v s)) → Now L n s
      → FlowIn shape L n P Q (flow_of (eval w a s) go)
  flow_of_value P Q a go s i k h = flow_value shape L n P Q (gift_of g a) (eval w a s) go (value_of a s i h) k

  -- what follows an expression that gives a number
  flow_of_number : (P Q : State → Type 0) (a : Expr) (go : ℤ → Meaning) (s : State) → InExpr g (counts_of L.frame) a
      → ((z : ℤ) → Leads shape L n P Q (go z)) → Now L n s → FlowIn shape L n P Q (flow_of (eval w a s) (on_number go))
  flow_of_number P Q a go s i k h = flow_of_value P Q a (on_number go) s i (λ v s j. flow_number shape L n P Q go k v s j.now) h

  -- what follows an expression that gives a stamp
  flow_of_stamp : (P Q : State → Type 0) (a : Expr) (go : ℕ → Meaning) (s : State) → gift_of g a ≡ a_value a_stamp → InExpr g (counts_of L.frame) a
      → ((x : ℕ) (s : State) → x < s.memory.fresh → Now L n s → FlowIn shape L n P Q (go x s)) → Now L n s
      → FlowIn shape L n P Q (flow_of (eval w a s) (on_stamp go))
  flow_of_stamp P Q a go s e i k h =
      flow_of_value P Q a (on_stamp go) s i (λ v s j. flow_stamp shape L n P Q go k v s (gave_as L n (gift_of g a) (a_value a_stamp) v s e j)) h

  -- each condition
  pub at_tested : (c : Cond) → InCond g (counts_of L.frame) c → Tests shape L n (tested w c)
  at_tested (read xs) i go k s h = flow_reads shape L n (Now L n) (Now L n) xs go k s h
  at_tested (not_read xs) i go k s h = flow_reads shape L n (Now L n) (Now L n) xs (λ b. go (not b)) (λ b. k (not b)) s h
  at_tested (test a) i go k s h = flow_of_number (Now L n) (Now L n) a (λ z. go (not (is_zero z))) s i (λ z. k (not (is_zero z))) h
  at_tested always i go k s h = k true s h

  -- bytes are written
  at_wrote : (bytes : List ℕ) (s : State) → Now L n s → Now L n (wrote bytes s)
  at_wrote bytes s h = apart_from_stacks L n s s.input s.picks s.steps (s.written ++ bytes) h

  -- an item of a print
  pub at_printed : (p : Printed) (s : State) → InPrinted g (counts_of L.frame) p → Now L n s → FlowIn shape L n (Now L n) (Now L n) (printed w p s)
  at_printed (text bytes) s i h = at_wrote bytes s h
  at_printed endline s i h = at_wrote (10 ∷ []) s h
  at_printed (printed_number a) s i h =
      flow_of_number (Now L n) (Now L n) a (λ z s. Next (wrote (signed_decimal z) s)) s i (λ z s j. at_wrote (signed_decimal z) s j) h

  -- a print
  at_print : (ps : List Printed) (s : State) → InPrint g (counts_of L.frame) ps → Now L n s
      → FlowIn shape L n (Now L n) (Now L n) (print_all w ps s)
  at_print [] s i h = h
  at_print (p ∷ ps) s i h =
      flow_then shape L n (Now L n) (Now L n) (Now L n) (printed w p s) (print_all w ps) (at_printed p s i.0 h) (λ s j. at_print ps s i.1 j)

  -- what follows the place of a left side
  flow_of_left : (l : Left) (go : Value → Meaning) (s : State) → InLeft g (counts_of L.frame) l
      → ((v : Value) (s : State) → Gave L n (gift_of_left l) v s → FlowIn shape L n (Now L n) (Now L n) (go v s)) → Now L n s
      → FlowIn shape L n (Now L n) (Now L n) (flow_of (reach w l s) go)
  flow_of_left l go s i k h =
      flow_value shape L n (Now L n) (Now L n) (gift_of_left l) (reach w l s) go (at_reach w g lib_keeps own_keeps L l n s i h) k

  -- the end of an assignment with an operator
  abbrev finish : Arithmetic → Scalar → Scalar → Place → Left → ℤ → Value → Meaning
  finish op ty left_ty at l y at_l s =
      flow_of (then_number (read_at (name_place l) at_l s) (λ x s. answered at (operated op ty (converted ty x) y) s))
      (on_number (λ z s. Next (write_at at_l (converted left_ty z) s)))

  -- it is at the level
  at_finish : (op : Arithmetic) (ty left_ty : Scalar) (at : Place) (l : Left) (y : ℤ) (v : Value) (s : State) → Gave L n (gift_of_left l) v s
      → FlowIn shape L n (Now L n) (Now L n) (finish op ty left_ty at l y v s)
  at_finish op ty left_ty at l y v s h = flow_value shape L n (Now L n) (Now L n) (a_value a_number)
      (then_number (read_at (name_place l) v s) (λ x s. answered at (operated op ty (converted ty x) y) s))
      (on_number (λ z s. Next (write_at v (converted left_ty z) s)))
      (at_then_number L n (a_value a_number) (a_value a_number) (read_at (name_place l) v s)
      (λ x s. answered at (operated op ty (converted ty x) y) s) (at_read L n (name_place l) l v s h)
      (λ x s i. at_answer L n at (operated op ty (converted ty x) y) s i))
      (λ u s i. flow_number shape L n (Now L n) (Now L n) (λ z s. Next (write_at v (converted left_ty z) s))
      (λ z s j. write-now L n v (converted left_ty z) s j) u s i.now)

  -- each effect
  pub at_affect : (e : Effect) (s : State) → InEffect g (counts_of L.frame) e → Now L n s → FlowIn shape L n (Now L n) (Now L n) (affect w e s)
  at_affect (reads xs) s i h = flow_reads shape L n (Now L n) (Now L n) xs (λ b. Next) (λ b s j. j) s h
  at_affect (prints ps) s i h = at_print ps s i h
  at_affect (evaluates a) s i h = flow_either shape L n (Now L n) (Now L n) (is_name a) Next (λ s. flow_of (eval w a s) (λ v. Next))
      (λ s j. j) (λ s j. flow_of_value (Now L n) (Now L n) a (λ v. Next) s i (λ v s k. k.now) j) s h
  at_affect (assigns l a) s i h = flow_of_number (Now L n) (Now L n) a (λ z s. flow_of (reach w l s) (λ at_l s. Next (write_at at_l z s))) s i.0
      (λ z s j. flow_of_left l (λ at_l s. Next (write_at at_l z s)) s i.1 (λ v s k. write-now L n v z s k.now) j) h
  at_affect (updates op ty left_ty at l a) s i h =
      flow_of_number (Now L n) (Now L n) a (λ y s. flow_of (reach w l s) (finish op ty left_ty at l y)) s i.0
      (λ y s j. flow_of_left l (finish op ty left_ty at l y) s i.1 (λ v s k. at_finish op ty left_ty at l y v s k) j) h
  at_affect (moves_to it a) s i h = flow_of_stamp (Now L n) (Now L n) a (λ stamp s. Next (set_iterator_at (iter_of s it) stamp s)) s i.1.0 i.1.1
      (λ x s low j. set_iterator-now L n (iter_of s it) x s low j) h

  -- the container that a call made
  at_made : (hd : Head) (vs : List Value) (o : LibOut) (s : State) → g.makes hd.callee ≡ true → Now L n s
      → IsAnswer (g.shape hd.callee) (g.makes hd.callee) s.memory (site_of hd) o →
      FlowIn shape L n (Now (with_container L) n) (Now L n) (flow_of (settle_call hd vs o s) (λ v t. Next (new_container L.conts t)))
  at_made hd vs (trapped k a) s e h i = now_above L n s h
  at_made hd vs thrown s e h i = now_above L n s h
  at_made hd vs (faulted f) s e h i = now_above L n s h
  at_made hd vs (gives v m picks) s e h i =
      new_container-now L n m picks s i.leaves.sound (i.many ∙ ap (λ b. grown b (length s.memory.conts)) e) i.later h
  at_made hd vs unbuilt s e h i = now_above L n s h

  -- a call that makes a container
  at_make : (gifts : List Gift) (hd : Head) (o : Outs) → g.makes hd.callee ≡ true → OutsAt L n gifts o →
      FlowIn shape L n (Now (with_container L) n) (Now L n) (flow_of (then_call o (use_library w.lib hd)) (λ v t. Next (new_container L.conts t)))
  at_make gifts hd (AllGive vs s) e h = at_made hd vs _ s e h.now (lib_keeps hd.callee _ s.memory s.picks h.now.good.sound h.used)
  at_make gifts hd (OneStops x s) e h = h

  -- each declaration
  pub at_declared : (d : Declaration) (s : State) → InDeclaration g (counts_of L.frame) d → Now L n s
      → FlowIn shape L n (Now (level_declared d L) n) (Now L n) (declared w d s)
  at_declared (unset_scalar ty) s i h = new_scalar-now L n ty None s h
  at_declared (set_scalar ty a) s i h = flow_of_number (Now (with_scalar L) n) (Now L n) a (λ z s. Next (new_scalar ty (Some z) s)) s i
      (λ z s j. new_scalar-now L n ty (Some z) s j) h
  at_declared (set_iterator a) s i h = flow_of_stamp (Now (with_iterator L) n) (Now L n) a (λ stamp s. Next (new_iterator stamp s)) s i.0 i.1
      (λ x s low j. new_iterator-now L n x s low j) h
  at_declared (binds_reference hd ops) s i h = flow_value shape L n (Now (with_iterator L) n) (Now L n) (a_value an_element)
      (then_call (eval_all w ops s) (use_library w.lib hd)) (binds_to hd.place) (at_reach w g lib_keeps own_keeps L (element hd ops) n s i h)
      (λ v s j. at_binds shape L n (Now L n) hd.place v s j)
  at_declared (makes form hd ops) s i h =
      subst (λ k. FlowIn shape L n (Now (with_container L) n) (Now L n)
      (flow_of (then_call (eval_all w ops s) (use_library w.lib hd)) (λ v t. Next (new_container k t)))) (ap (λ (l : Level). l.conts) (sym h.level))
      (at_make (gifts_of g ops) hd (eval_all w ops s) i.0.0 (at_all w g lib_keeps own_keeps L ops n s i.1 h))

  -- the first part of a `for`
  pub at_begun : (f : First) (s : State) → InFirst g (counts_of L.frame) f → Now L n s
      → FlowIn shape L n (Now (level_begun f L) n) (Now L n) (begun w f s)
  at_begun no_first s i h = h
  at_begun (declares_first d) s i h = at_declared d s i h
  at_begun (does_first e) s i h = at_affect e s i h

  -- the last part of a `for`
  pub at_ended : (e : Option Effect) (s : State) → InLast g (counts_of L.frame) e → Now L n s → FlowIn shape L n (Now L n) (Now L n) (ended w e s)
  at_ended None s i h = h
  at_ended (Some e) s i h = at_affect e s i h
