-- A function's parameters get what suits them: the state in which its body starts is good, and as many variables are in scope.
use Rattle.std.proofs.Common.{◌≡◌, ℕ, Bool, ◌+◌, ◌<◌, ◌≤◌, List, [], ◌∷◌, ◌++◌, Some, length, length-append, refl, ap, sym, ◌∙◌, subst, arith, ◌⊎◌}
use Rattle.std.proofs.Common.{inl, inr}
use Rattle.std.specs.Prelude.{ℤ, slice_get}
use Rattle.std.proofs.lemmas.List.{append_assoc, append-nil}
use Rattle.sl_base.specs.declared.scalar.Scalar.{Scalar}
use Rattle.sl_base.specs.declared.form.Form.{Form}
use Rattle.sl_syntax.specs.declared.operator.Access.{Access}
use Rattle.sl_syntax.specs.declared.typed.parameter.ParameterKind.{ParameterKind}
use Rattle.sl_syntax.specs.declared.typed.parameter.ParameterKind.TheVariants as parameter
use Rattle.sl_model.specs.LibraryCalls.Values.{Value, nothing, number, iterator, pair, two, scalar_at, container_at, element_at}
use Rattle.sl_model.specs.Runs.State.{Frame, State, new_scalar, new_iterator, new_container}
use Rattle.sl_model.specs.Runs.Binding.{no_frame, bind_one, bind_all, bound}
use Rattle.sl_model.specs.Runs.Good.{AreBelow, AreApart}
use Rattle.sl_model.specs.Typing.Shapes.{no_value, a_number, a_stamp, a_pair, two_stamps, an_element, Gift, a_value, the_scalar, the_container, IsGiven}
use Rattle.sl_model.specs.Typing.Shapes.{Suits, AllSuit}
use Rattle.sl_model.specs.Typing.Shapes.{container_in, containers_in}
use Rattle.sl_model.specs.Typing.Scoped.{Counts, no_counts, one_scalar, one_container, one_iterator, with_parameter, with_parameters}
use Rattle.sl_model.proofs.Getting.{get_left, get_within, get_behind}
use Rattle.sl_model.proofs.Locations.{in_one_more, below_none, below_one_more, apart_none, apart_left}
use Rattle.sl_model.proofs.Levels.{Level, level_of, counts_of, Now, Above, now_above, with_scalar, with_iterator, new_scalar-now, new_iterator-now}
use Rattle.sl_model.proofs.Gifts.{IsUsed, AllUsed, AllGiven}
use Rattle.sl_model.proofs.GoodEffects.{counts_scalar, counts_iterator}

-- each of these locations is where a frame has the container of the number beside it
abbrev pub AreNamed : Frame → List ℕ → List ℕ → Type 0
AreNamed f xs ls = (i l : ℕ) → slice_get ls i ≡ Some l → (x : ℕ) × ((slice_get xs i ≡ Some x) × (slice_get f.conts x ≡ Some l))

-- locations of different containers are apart
named_apart : (f : Frame) (xs ls : List ℕ) → AreNamed f xs ls → AreApart xs → AreApart f.conts → AreApart ls
named_apart f xs ls named apart frame i j l p q = by_numbers (named i l p) (named j l q)
  where
    by_numbers : (x : ℕ) × ((slice_get xs i ≡ Some x) × (slice_get f.conts x ≡ Some l))
        → (y : ℕ) × ((slice_get xs j ≡ Some y) × (slice_get f.conts y ≡ Some l)) → i ≡ j
    by_numbers a b = apart i j a.0 a.1.0 (b.1.0 ∙ ap (λ n. Some n) (sym (frame a.0 b.0 l a.1.1 b.1.1)))

-- with one more
named_one_more : (f : Frame) (xs ls : List ℕ) (x l : ℕ) → length ls ≡ length xs → AreNamed f xs ls → slice_get f.conts x ≡ Some l
    → AreNamed f (xs ++ x ∷ []) (ls ++ l ∷ [])
named_one_more f xs ls x l many named there i k e = by_place (in_one_more ls l i k e)
  where
    last : slice_get (xs ++ x ∷ []) (length xs + 0) ≡ Some x
    last = get_behind xs (x ∷ []) 0

    by_number : (y : ℕ) × ((slice_get xs i ≡ Some y) × (slice_get f.conts y ≡ Some k))
        → (y : ℕ) × ((slice_get (xs ++ x ∷ []) i ≡ Some y) × (slice_get f.conts y ≡ Some k))
    by_number r = (r.0, (get_left xs (x ∷ []) i (get_within xs i r.0 r.1.0) ∙ r.1.0, r.1.1))

    by_place : (slice_get ls i ≡ Some k) ⊎ ((i ≡ length ls) × (l ≡ k))
        → (y : ℕ) × ((slice_get (xs ++ x ∷ []) i ≡ Some y) × (slice_get f.conts y ≡ Some k))
    by_place (inl r) = by_number (named i k r)
    by_place (inr r) = let q : i ≡ length ls = r.0 in (x, (ap (slice_get (xs ++ x ∷ [])) (omega arith) ∙ last, there ∙ ap (λ n. Some n) r.1))

-- a state in which parameters have got their operands: these containers are the caller's with these numbers
pub record Binding (L : Level) (n : ℕ) (c : Counts) (xs : List ℕ) (s : State) : Type 0 where
  pub above : Above L n s
  pub counts : counts_of s.frame ≡ c
  pub named : AreNamed L.frame xs s.frame.conts
  pub many : length s.frame.conts ≡ length xs

-- a good state is at its own level
here : (L : Level) (n : ℕ) (s : State) → Above L n s → Now (level_of s) n s
here L n s h = record { good = h.good; level = refl; later = h.later }

-- no container more
none_more : (L : Level) (n : ℕ) (c : Counts) (xs : List ℕ) (s : State) → Binding L n c xs s → Binding L n c (xs ++ []) s
none_more L n c xs s h = subst (λ (l : List ℕ). Binding L n c l s) (sym (append-nil xs)) h

module _ (L : Level) (n : ℕ) (scalars_below : AreBelow L.frame.scalars L.scalars) (conts_below : AreBelow L.frame.conts L.conts)
    (conts_apart : AreApart L.frame.conts) where
  -- a number is copied
  bind_number : (ty : Scalar) (c : Counts) (xs : List ℕ) (s : State) (z : ℤ) → Binding L n c xs s
      → Binding L n (one_scalar c) (xs ++ []) (new_scalar ty (Some z) s)
  bind_number ty c xs s z h = none_more L n (one_scalar c) xs (new_scalar ty (Some z) s)
      (with_more (now_above (with_scalar (level_of s)) n (new_scalar ty (Some z) s)
      (new_scalar-now (level_of s) n ty (Some z) s (here L n s h.above))))
    where
      with_more : Above (with_scalar (level_of s)) n (new_scalar ty (Some z) s) → Binding L n (one_scalar c) xs (new_scalar ty (Some z) s)
      with_more a = record {
        above = record {
          good = a.good;
          scalars = let p : L.scalars ≤ length s.scalars = h.above.scalars in
              let q : length s.scalars + 1 ≤ length (new_scalar ty (Some z) s).scalars = a.scalars in omega arith;
          iters = h.above.iters;
          conts = h.above.conts;
          later = a.later;
        };
        counts = counts_scalar (level_of s) ∙ ap one_scalar h.counts;
        named = h.named;
        many = h.many;
      }

  -- an iterator is copied
  bind_iterator : (c : Counts) (xs : List ℕ) (s : State) (y : ℕ) → y < n → Binding L n c xs s
      → Binding L n (one_iterator c) (xs ++ []) (new_iterator y s)
  bind_iterator c xs s y low h = none_more L n (one_iterator c) xs (new_iterator y s)
      (with_more (now_above (with_iterator (level_of s)) n (new_iterator y s)
      (new_iterator-now (level_of s) n y s (let r : n ≤ s.memory.fresh = h.above.later in omega arith) (here L n s h.above))))
    where
      with_more : Above (with_iterator (level_of s)) n (new_iterator y s) → Binding L n (one_iterator c) xs (new_iterator y s)
      with_more a = record {
        above = record {
          good = a.good;
          scalars = h.above.scalars;
          iters = let p : L.iters ≤ length s.iters = h.above.iters in
              let q : length s.iters + 1 ≤ length (new_iterator y s).iters = a.iters in omega arith;
          conts = h.above.conts;
          later = a.later;
        };
        counts = counts_iterator (level_of s) ∙ ap one_iterator h.counts;
        named = h.named;
        many = h.many;
      }

  -- a reference has the location of a scalar
  bind_scalar : (ty : Scalar) (c : Counts) (xs : List ℕ) (s : State) (x l : ℕ) → slice_get L.frame.scalars x ≡ Some l → Binding L n c xs s
      → Binding L n (one_scalar c) (xs ++ []) (bind_one (parameter.Reference ty) (scalar_at l) s)
  bind_scalar ty c xs s x l there h = none_more L n (one_scalar c) xs (bind_one (parameter.Reference ty) (scalar_at l) s) (record {
    above = record {
      good = record {
        sound = h.above.good.sound;
        scalars = below_one_more s.frame.scalars l (length s.scalars) h.above.good.scalars
            (let p : L.scalars ≤ length s.scalars = h.above.scalars in let q : l < L.scalars = scalars_below x l there in omega arith);
        iters = h.above.good.iters;
        conts = h.above.good.conts;
        apart = h.above.good.apart;
        held = h.above.good.held;
      };
      scalars = h.above.scalars;
      iters = h.above.iters;
      conts = h.above.conts;
      later = h.above.later;
    };
    counts = ap (λ k. record (counts_of s.frame) { scalars = k }) (length-append s.frame.scalars (l ∷ [])) ∙ ap one_scalar h.counts;
    named = h.named;
    many = h.many;
  })

  -- a reference has the location of a container
  bind_container : (c : Counts) (xs : List ℕ) (s : State) (x l : ℕ) → slice_get L.frame.conts x ≡ Some l → AreApart (xs ++ x ∷ [])
      → Binding L n c xs s → Binding L n (one_container c) (xs ++ x ∷ []) (new_container l s)
  bind_container c xs s x l there apart h = record {
    above = record {
      good = record {
        sound = h.above.good.sound;
        scalars = h.above.good.scalars;
        iters = h.above.good.iters;
        conts = below_one_more s.frame.conts l (length s.memory.conts) h.above.good.conts
            (let p : L.conts ≤ length s.memory.conts = h.above.conts in let q : l < L.conts = conts_below x l there in omega arith);
        apart = named_apart L.frame (xs ++ x ∷ []) (s.frame.conts ++ l ∷ []) named apart conts_apart;
        held = h.above.good.held;
      };
      scalars = h.above.scalars;
      iters = h.above.iters;
      conts = h.above.conts;
      later = h.above.later;
    };
    counts = ap (λ k. record (counts_of s.frame) { conts = k }) (length-append s.frame.conts (l ∷ [])) ∙ ap one_container h.counts;
    named = named;
    many = length-append s.frame.conts (l ∷ []) ∙ (ap (λ k. k + 1) h.many ∙ sym (length-append xs (x ∷ [])));
  }
    where
      named : AreNamed L.frame (xs ++ x ∷ []) (s.frame.conts ++ l ∷ [])
      named = named_one_more L.frame xs s.frame.conts x l h.many h.named there

  -- what a parameter of a kind leaves
  abbrev Bound : ParameterKind → Gift → Value → Counts → List ℕ → State → Type 0
  Bound k gift v c xs s = Binding L n (with_parameter k c) (xs ++ container_in gift) (bind_one k v s)

  -- a parameter by value
  one_by_value : (ty : Scalar) (c : Counts) (xs : List ℕ) (s : State) (v : Value) → IsGiven L.frame (a_value a_number) v → IsUsed n v
      → Binding L n c xs s → Bound (parameter.Value ty) (a_value a_number) v c xs s
  one_by_value ty c xs s nothing given used h = absurd given
  one_by_value ty c xs s (number z) given used h = bind_number ty c xs s z h
  one_by_value ty c xs s (iterator y) given used h = absurd given
  one_by_value ty c xs s (pair y b) given used h = absurd given
  one_by_value ty c xs s (two y b) given used h = absurd given
  one_by_value ty c xs s (scalar_at l) given used h = absurd given
  one_by_value ty c xs s (container_at l) given used h = absurd given
  one_by_value ty c xs s (element_at i j p) given used h = absurd given

  -- a parameter by reference
  one_by_reference : (ty : Scalar) (x : ℕ) (c : Counts) (xs : List ℕ) (s : State) (v : Value) → IsGiven L.frame (the_scalar x) v → IsUsed n v
      → Binding L n c xs s → Bound (parameter.Reference ty) (the_scalar x) v c xs s
  one_by_reference ty x c xs s nothing given used h = absurd given
  one_by_reference ty x c xs s (number z) given used h = absurd given
  one_by_reference ty x c xs s (iterator y) given used h = absurd given
  one_by_reference ty x c xs s (pair y b) given used h = absurd given
  one_by_reference ty x c xs s (two y b) given used h = absurd given
  one_by_reference ty x c xs s (scalar_at l) given used h = bind_scalar ty c xs s x l given h
  one_by_reference ty x c xs s (container_at l) given used h = absurd given
  one_by_reference ty x c xs s (element_at i j p) given used h = absurd given

  -- a container
  one_container_in : (access : Access) (form : Form) (x : ℕ) (c : Counts) (xs : List ℕ) (s : State) → AreApart (xs ++ x ∷ []) → (v : Value)
      → IsGiven L.frame (the_container x) v → IsUsed n v → Binding L n c xs s → Bound (parameter.Container access form) (the_container x) v c xs s
  one_container_in access form x c xs s apart nothing given used h = absurd given
  one_container_in access form x c xs s apart (number z) given used h = absurd given
  one_container_in access form x c xs s apart (iterator y) given used h = absurd given
  one_container_in access form x c xs s apart (pair y b) given used h = absurd given
  one_container_in access form x c xs s apart (two y b) given used h = absurd given
  one_container_in access form x c xs s apart (scalar_at l) given used h = absurd given
  one_container_in access form x c xs s apart (container_at l) given used h = bind_container c xs s x l given apart h
  one_container_in access form x c xs s apart (element_at i j p) given used h = absurd given

  -- an iterator
  one_iterator_in : (of_const : Bool) (form : Form) (c : Counts) (xs : List ℕ) (s : State) (v : Value) → IsGiven L.frame (a_value a_stamp) v
      → IsUsed n v → Binding L n c xs s → Bound (parameter.Iterator of_const form) (a_value a_stamp) v c xs s
  one_iterator_in of_const form c xs s nothing given used h = absurd given
  one_iterator_in of_const form c xs s (number z) given used h = absurd given
  one_iterator_in of_const form c xs s (iterator y) given used h = bind_iterator c xs s y used h
  one_iterator_in of_const form c xs s (pair y b) given used h = absurd given
  one_iterator_in of_const form c xs s (two y b) given used h = absurd given
  one_iterator_in of_const form c xs s (scalar_at l) given used h = absurd given
  one_iterator_in of_const form c xs s (container_at l) given used h = absurd given
  one_iterator_in of_const form c xs s (element_at i j p) given used h = absurd given

  -- a parameter gets what suits it
  bind_kind : (k : ParameterKind) (gift : Gift) (v : Value) (c : Counts) (xs : List ℕ) (s : State) → Suits k gift → IsGiven L.frame gift v
      → IsUsed n v → AreApart (xs ++ container_in gift) → Binding L n c xs s → Bound k gift v c xs s
  bind_kind (parameter.Value ty) (a_value no_value) v c xs s suit given used apart h = absurd suit
  bind_kind (parameter.Value ty) (a_value a_number) v c xs s suit given used apart h = one_by_value ty c xs s v given used h
  bind_kind (parameter.Value ty) (a_value a_stamp) v c xs s suit given used apart h = absurd suit
  bind_kind (parameter.Value ty) (a_value a_pair) v c xs s suit given used apart h = absurd suit
  bind_kind (parameter.Value ty) (a_value two_stamps) v c xs s suit given used apart h = absurd suit
  bind_kind (parameter.Value ty) (a_value an_element) v c xs s suit given used apart h = absurd suit
  bind_kind (parameter.Value ty) (the_scalar x) v c xs s suit given used apart h = absurd suit
  bind_kind (parameter.Value ty) (the_container x) v c xs s suit given used apart h = absurd suit
  bind_kind (parameter.Reference ty) (a_value no_value) v c xs s suit given used apart h = absurd suit
  bind_kind (parameter.Reference ty) (a_value a_number) v c xs s suit given used apart h = absurd suit
  bind_kind (parameter.Reference ty) (a_value a_stamp) v c xs s suit given used apart h = absurd suit
  bind_kind (parameter.Reference ty) (a_value a_pair) v c xs s suit given used apart h = absurd suit
  bind_kind (parameter.Reference ty) (a_value two_stamps) v c xs s suit given used apart h = absurd suit
  bind_kind (parameter.Reference ty) (a_value an_element) v c xs s suit given used apart h = absurd suit
  bind_kind (parameter.Reference ty) (the_scalar x) v c xs s suit given used apart h = one_by_reference ty x c xs s v given used h
  bind_kind (parameter.Reference ty) (the_container x) v c xs s suit given used apart h = absurd suit
  bind_kind (parameter.Container access form) (a_value no_value) v c xs s suit given used apart h = absurd suit
  bind_kind (parameter.Container access form) (a_value a_number) v c xs s suit given used apart h = absurd suit
  bind_kind (parameter.Container access form) (a_value a_stamp) v c xs s suit given used apart h = absurd suit
  bind_kind (parameter.Container access form) (a_value a_pair) v c xs s suit given used apart h = absurd suit
  bind_kind (parameter.Container access form) (a_value two_stamps) v c xs s suit given used apart h = absurd suit
  bind_kind (parameter.Container access form) (a_value an_element) v c xs s suit given used apart h = absurd suit
  bind_kind (parameter.Container access form) (the_scalar x) v c xs s suit given used apart h = absurd suit
  bind_kind (parameter.Container access form) (the_container x) v c xs s suit given used apart h =
      one_container_in access form x c xs s apart v given used h
  bind_kind (parameter.Iterator of_const form) (a_value no_value) v c xs s suit given used apart h = absurd suit
  bind_kind (parameter.Iterator of_const form) (a_value a_number) v c xs s suit given used apart h = absurd suit
  bind_kind (parameter.Iterator of_const form) (a_value a_stamp) v c xs s suit given used apart h =
      one_iterator_in of_const form c xs s v given used h
  bind_kind (parameter.Iterator of_const form) (a_value a_pair) v c xs s suit given used apart h = absurd suit
  bind_kind (parameter.Iterator of_const form) (a_value two_stamps) v c xs s suit given used apart h = absurd suit
  bind_kind (parameter.Iterator of_const form) (a_value an_element) v c xs s suit given used apart h = absurd suit
  bind_kind (parameter.Iterator of_const form) (the_scalar x) v c xs s suit given used apart h = absurd suit
  bind_kind (parameter.Iterator of_const form) (the_container x) v c xs s suit given used apart h = absurd suit

  -- the parameters get what suits them
  bind_kinds : (ks : List ParameterKind) (gifts : List Gift) (vs : List Value) (c : Counts) (xs : List ℕ) (s : State) → AllSuit ks gifts
      → AllGiven L.frame gifts vs → AllUsed n vs → AreApart (xs ++ containers_in gifts) → Binding L n c xs s →
      Above L n (bind_all ks vs s) × (counts_of (bind_all ks vs s).frame ≡ with_parameters ks c)
  bind_kinds [] gifts vs c xs s suit given used apart h = (h.above, h.counts)
  bind_kinds (k ∷ ks) [] vs c xs s suit given used apart h = absurd suit
  bind_kinds (k ∷ ks) (gift ∷ gifts) [] c xs s suit given used apart h = absurd given
  bind_kinds (k ∷ ks) (gift ∷ gifts) (v ∷ vs) c xs s suit given used apart h =
      bind_kinds ks gifts vs (with_parameter k c) (xs ++ container_in gift) (bind_one k v s) suit.1 given.1 used.1 joined
      (bind_kind k gift v c xs s suit.0 given.0 used.0 (apart_left (xs ++ container_in gift) (containers_in gifts) joined) h)
    where
      joined : AreApart ((xs ++ container_in gift) ++ containers_in gifts)
      joined = subst (λ (l : List ℕ). AreApart l) (sym (append_assoc xs (container_in gift) (containers_in gifts))) apart

-- the state in which a function's body starts
pub at_bound : (L : Level) (n : ℕ) (ks : List ParameterKind) (gifts : List Gift) (vs : List Value) (s : State) → AllSuit ks gifts
    → AllGiven L.frame gifts vs → AllUsed n vs → AreApart (containers_in gifts) → Now L n s →
    Above L n (bound ks vs s) × (counts_of (bound ks vs s).frame ≡ with_parameters ks no_counts)
at_bound L n ks gifts vs s suit given used apart h =
    bind_kinds L n
    (subst (λ (l : Level). AreBelow l.frame.scalars l.scalars) h.level h.good.scalars)
    (subst (λ (l : Level). AreBelow l.frame.conts l.conts) h.level h.good.conts)
    (subst (λ (l : Level). AreApart l.frame.conts) h.level h.good.apart)
    ks gifts vs no_counts [] (record s { frame = no_frame }) suit given used apart
    (record { above = with_none (now_above L n s h); counts = refl; named = λ i l e. absurd (cc); many = refl })
  where
    with_none : Above L n s → Above L n (record s { frame = no_frame })
    with_none a = record {
      good = record {
        sound = a.good.sound;
        scalars = below_none (length s.scalars);
        iters = below_none (length s.iters);
        conts = below_none (length s.memory.conts);
        apart = apart_none;
        held = a.good.held;
      };
      scalars = a.scalars;
      iters = a.iters;
      conts = a.conts;
      later = a.later;
    }
