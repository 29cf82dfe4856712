-- Each call on a container is tidy: what it brings into a form with keys is put in key by key, or is a copy of a container of the form.
use Rattle.std.proofs.Common.{◌≡◌, ℕ, ◌+◌, ◌≤◌, ◌==◌, Bool, true, false, [], ◌∷◌, refl, ap, sym, ◌∙◌, arith}
use Rattle.std.proofs.Common.{inl, inr, if◌then◌else◌, pos, take, drop}
use Rattle.std.specs.Prelude.{nat_lt, slice_get}
use Rattle.sl_base.specs.declared.form.Form.{Form}
use Rattle.sl_specs.specs.Forms.{is_hash, is_keyed}
use Rattle.sl_specs.specs.ContainerLines.{container_lines}
use Rattle.sl_specs.specs.MultiLines.{multi_lines}
use Rattle.sl_model.specs.Memory.Containers.{size, items}
use Rattle.sl_model.specs.LibraryCalls.Operands.{an_iterator, is_of_form}
use Rattle.sl_model.specs.Memory.Orderly.{IsOrderlyCont, IsOrderly}
use Rattle.sl_model.specs.Memory.Rearrangements.{arranged, exchanged, received, given, moved_order}
use Rattle.sl_model.specs.Memory.Schedule.{pick, after_picks}
use Rattle.sl_model.specs.LibraryCalls.Situation.{Situation, own, own_size, index, container_of, their, their_size, int_of, count_of, number_in, argument}
use Rattle.sl_model.specs.LibraryCalls.Actions.{keeps, edits, changes, trades}
use Rattle.sl_model.specs.LibraryCalls.AccessActions.{untouched, rehashed, reserved, swap}
use Rattle.sl_model.specs.LibraryCalls.ListActions.{merged, merge, splices}
use Rattle.sl_model.specs.LibraryCalls.MakeActions.{refilled, copied}
use Rattle.sl_model.specs.LibraryCalls.Rows.{of_form}
use Rattle.sl_model.proofs.AsInts.{converted-fits}
use Rattle.sl_model.proofs.Called.{HasObject, own_form}
use Rattle.sl_model.proofs.OrderlyEffects.{IsTidy}
use Rattle.sl_model.proofs.Tells.{AllOf, all_parts}
use Rattle.sl_model.proofs.TidyRows.{LineIsTidy, range-ints, listed-ints, repeated-ints, filled-tidy, copied-order}
use Rattle.sl_model.proofs.OperandForms.{first_of_form, second_of_form, form_there, cont_there}

-- the object of a form without keys has none
free_own : (form : Form) (s : Situation) → HasObject (of_form form) s → is_keyed form ≡ false → is_keyed (own s).form ≡ false
free_own form s h free = ap is_keyed (own_form form s h) ∙ free

-- neither has another container of the form
free_their : (form : Form) (s : Situation) (a : ℕ) → is_of_form form (slice_get s.memory.conts (container_of s a)) ≡ true
    → is_keyed form ≡ false → is_keyed (their s a).form ≡ false
free_their form s a h free = ap is_keyed (form_there s.memory form (container_of s a) h) ∙ free

-- another container of the form is orderly
their_orderly : (form : Form) (s : Situation) (a : ℕ) → is_of_form form (slice_get s.memory.conts (container_of s a)) ≡ true
    → IsOrderly s.memory → IsOrderlyCont (their s a)
their_orderly form s a h orderly = orderly (container_of s a) (their s a) (cont_there s.memory form (container_of s a) h)

-- a copy of it
copied-tidy : (form : Form) (s : Situation) → is_of_form form (slice_get s.memory.conts (container_of s 1)) ≡ true
    → IsOrderly s.memory → IsTidy form s (copied form (items (their s 1)) s.picks)
copied-tidy form s h orderly =
    copied-order form (their s 1) s.picks (their_orderly form s 1 h orderly) (form_there s.memory form (container_of s 1) h)

-- all elements of the object are replaced by a copy
refilled-tidy : (form : Form) (s : Situation) → HasObject (of_form form) s
    → is_of_form form (slice_get s.memory.conts (container_of s 1)) ≡ true → IsOrderly s.memory
    → IsTidy form s (refilled (own s).form (size (own s)) (items (their s 1)) s.picks)
refilled-tidy form s own_is h orderly = inr (inr (
  refl,
  at_most (size (own s)),
  copied-order (own s).form (their s 1) s.picks (their_orderly form s 1 h orderly)
      (form_there s.memory form (container_of s 1) h ∙ sym (own_form form s own_is)),
))
  where
    at_most : (n : ℕ) → n ≤ n
    at_most n = omega arith

-- reserve
reserved-tidy : (form : Form) (s : Situation) (n : ℕ) → IsTidy form s (reserved s.object (own s) n s.picks)
reserved-tidy form s n = by_hash (is_hash (own s).form) refl (nat_lt (own s).room n)
  where
    by_hash : (h : Bool) → is_hash (own s).form ≡ h → (b : Bool) → IsTidy form s (if h
        then changes (size (own s) + 1) s.object (rehashed (own s) n s.picks)
        else if b then edits 1 (untouched (n + pick s.picks)) else edits 0 (untouched (own s).room))
    by_hash true e b = inr (e, (after_picks 1 s.picks, refl))
    by_hash false e true = inr (inl refl)
    by_hash false e false = inr (inl refl)

-- swap
swap-tidy : (form : Form) (s : Situation) → HasObject (of_form form) s
    → is_of_form form (slice_get s.memory.conts (container_of s 1)) ≡ true → IsTidy form s (swap.effect s)
swap-tidy form s own_is h = by_same (container_of s 1 == s.object)
  where
    by_same : (b : Bool) → IsTidy form s (if b
        then edits 0 (untouched (own s).room)
        else trades (container_of s 1) (exchanged (own s) (their s 1)) (exchanged (their s 1) (own s)))
    by_same true = inr (inl refl)
    by_same false = inr (own_form form s own_is ∙ sym (form_there s.memory form (container_of s 1) h), refl, refl)

-- merge
merge-tidy : (form : Form) (s : Situation) → is_keyed (own s).form ≡ false → is_keyed (their s 1).form ≡ false → IsTidy form s (merge.effect s)
merge-tidy form s free free' = by_same (container_of s 1 == s.object)
  where
    by_same : (b : Bool) → IsTidy form s (if b
        then keeps
        else trades (container_of s 1) (merged (own s) (their s 1)) (given 0 (their_size s 1) (their s 1)))
    by_same true = tt
    by_same false = inl (free, free')

-- splice
splices-tidy : (form : Form) (s : Situation) (from count : ℕ) → is_keyed (own s).form ≡ false → is_keyed (their s 2).form ≡ false
    → IsTidy form s (splices s from count)
splices-tidy form s from count free free' = by_same (container_of s 2 == s.object)
  where
    by_same : (b : Bool) → IsTidy form s (if b
        then changes 0 s.object (arranged (moved_order (own_size s) (index s 1) from count) (own s))
        else trades (container_of s 2) (received (index s 1) from count (own s)) (given from count (their s 2)))
    by_same true = inl free
    by_same false = inl (free, free')

-- each call on a container but a multiset or multimap
pub containers-tidy : AllOf LineIsTidy container_lines
containers-tidy = all_parts LineIsTidy 7 container_lines makings (all_parts LineIsTidy 10 (drop 7 container_lines) accesses
    (all_parts LineIsTidy 13 (drop 17 container_lines) changings (all_parts LineIsTidy 10 (drop 30 container_lines) others lists)))
  where
    makings : AllOf LineIsTidy (take 7 container_lines)
    makings = (
      (λ form class free s orderly h none go. filled-tidy form s [] tt),
      (
        (λ form class free s orderly h none go. filled-tidy form s _ (listed-ints s.values)),
        (
          (λ form class free s orderly h none go. copied-tidy form s (first_of_form s.memory form [] s.values h.operands) orderly),
          (
            (λ form class free s orderly h none go. filled-tidy form s _ (repeated-ints (count_of s 1) (pos 0) refl)),
            (
              (λ form class free s orderly h none go. filled-tidy form s _
                  (repeated-ints (count_of s 1) (int_of s 2) (converted-fits (number_in (argument s 2))))),
              (
                (λ form class free s orderly h none go. filled-tidy form s _ (range-ints s 1 orderly)),
                (
                  (λ form class free s orderly h none go. refilled-tidy form s h.object (first_of_form s.memory form [] s.values h.operands) orderly),
                  tt,
                ),
              ),
            ),
          ),
        ),
      ),
    )

    accesses : AllOf LineIsTidy (take 10 (drop 7 container_lines))
    accesses = (
      (λ form class free s orderly h none go. tt),
      (
        (λ form class free s orderly h none go. tt),
        (
          (λ form class free s orderly h none go. tt),
          (
            (λ form class free s orderly h none go. tt),
            (
              (λ form class free s orderly h none go. tt),
              (
                (λ form class free s orderly h none go. tt),
                (
                  (λ form class free s orderly h none go. tt),
                  (
                    (λ form class free s orderly h none go. tt),
                    (
                      (λ form class free s orderly h none go. tt),
                      (
                        (λ form class free s orderly h none go. (converted-fits (number_in (argument s 1)), tt)),
                        tt,
                      ),
                    ),
                  ),
                ),
              ),
            ),
          ),
        ),
      ),
    )

    changings : AllOf LineIsTidy (take 13 (drop 17 container_lines))
    changings = (
      (λ form class free s orderly h none go. inl (free_own form s h.object (free refl))),
      (
        (λ form class free s orderly h none go. inl (free_own form s h.object (free refl))),
        (
          (λ form class free s orderly h none go. inr (inl refl)),
          (
            (λ form class free s orderly h none go. inr (inl refl)),
            (
              (λ form class free s orderly h none go. inl (free_own form s h.object (free refl))),
              (
                (λ form class free s orderly h none go. inl (free_own form s h.object (free refl))),
                (
                  (λ form class free s orderly h none go. inl (free_own form s h.object (free refl))),
                  (
                    (λ form class free s orderly h none go. (converted-fits (number_in (argument s 1)), tt)),
                    (
                      (λ form class free s orderly h none go. range-ints s 1 orderly),
                      (
                        (λ form class free s orderly h none go. (converted-fits (number_in (argument s 1)), tt)),
                        (
                          (λ form class free s orderly h none go. inr (inl refl)),
                          (
                            (λ form class free s orderly h none go. inr (inl refl)),
                            (
                              (λ form class free s orderly h none go. inr (inl refl)),
                              tt,
                            ),
                          ),
                        ),
                      ),
                    ),
                  ),
                ),
              ),
            ),
          ),
        ),
      ),
    )

    others : AllOf LineIsTidy (take 10 (drop 30 container_lines))
    others = (
      (λ form class free s orderly h none go. inr (inl refl)),
      (
        (λ form class free s orderly h none go. inl (free_own form s h.object (free refl))),
        (
          (λ form class free s orderly h none go. inl (free_own form s h.object (free refl))),
          (
            (λ form class free s orderly h none go. inl (free_own form s h.object (free refl))),
            (
              (λ form class free s orderly h none go. reserved-tidy form s (count_of s 1)),
              (
                (λ form class free s orderly h none go. swap-tidy form s h.object (first_of_form s.memory form [] s.values h.operands)),
                (
                  (λ form class free s orderly h none go. tt),
                  (
                    (λ form class free s orderly h none go. tt),
                    (
                      (λ form class free s orderly h none go. tt),
                      (
                        (λ form class free s orderly h none go. tt),
                        tt,
                      ),
                    ),
                  ),
                ),
              ),
            ),
          ),
        ),
      ),
    )

    lists : AllOf LineIsTidy (drop 40 container_lines)
    lists = (
      (λ form class free s orderly h none go. inl (free_own form s h.object (free refl))),
      (
        (λ form class free s orderly h none go. inl (free_own form s h.object (free refl))),
        (
          (λ form class free s orderly h none go. inl (free_own form s h.object (free refl))),
          (
            (λ form class free s orderly h none go. inl (free_own form s h.object (free refl))),
            (
              (λ form class free s orderly h none go. merge-tidy form s (free_own form s h.object (free refl))
                  (free_their form s 1 (first_of_form s.memory form [] s.values h.operands) (free refl))),
              (
                (λ form class free s orderly h none go. splices-tidy form s 0 (their_size s 2) (free_own form s h.object (free refl))
                    (free_their form s 2 (second_of_form s.memory form [] s.values h.operands) (free refl))),
                (
                  (λ form class free s orderly h none go. splices-tidy form s (index s 3) 1 (free_own form s h.object (free refl))
                      (free_their form s 2 (second_of_form s.memory form (an_iterator ∷ []) s.values h.operands) (free refl))),
                  (
                    (λ form class free s orderly h none go. splices-tidy form s (index s 3) _ (free_own form s h.object (free refl))
                        (free_their form s 2 (second_of_form s.memory form (an_iterator ∷ an_iterator ∷ []) s.values h.operands)
                        (free refl))),
                    tt,
                  ),
                ),
              ),
            ),
          ),
        ),
      ),
    )

-- each call on a multiset or multimap
pub multis-tidy : AllOf LineIsTidy multi_lines
multis-tidy = all_parts LineIsTidy 9 multi_lines first (all_parts LineIsTidy 8 (drop 9 multi_lines) changings searches)
  where
    first : AllOf LineIsTidy (take 9 multi_lines)
    first = (
      (λ form class free s orderly h none go. filled-tidy form s [] tt),
      (
        (λ form class free s orderly h none go. copied-tidy form s (first_of_form s.memory form [] s.values h.operands) orderly),
        (
          (λ form class free s orderly h none go. filled-tidy form s _ (listed-ints s.values)),
          (
            (λ form class free s orderly h none go. filled-tidy form s _ (range-ints s 1 orderly)),
            (
              (λ form class free s orderly h none go. refilled-tidy form s h.object (first_of_form s.memory form [] s.values h.operands) orderly),
              (
                (λ form class free s orderly h none go. tt),
                (
                  (λ form class free s orderly h none go. tt),
                  (
                    (λ form class free s orderly h none go. tt),
                    (
                      (λ form class free s orderly h none go. tt),
                      tt,
                    ),
                  ),
                ),
              ),
            ),
          ),
        ),
      ),
    )

    changings : AllOf LineIsTidy (take 8 (drop 9 multi_lines))
    changings = (
      (λ form class free s orderly h none go. (converted-fits (number_in (argument s 1)), tt)),
      (
        (λ form class free s orderly h none go. range-ints s 1 orderly),
        (
          (λ form class free s orderly h none go. (converted-fits (number_in (argument s 1)), tt)),
          (
            (λ form class free s orderly h none go. inr (inl refl)),
            (
              (λ form class free s orderly h none go. inr (inl refl)),
              (
                (λ form class free s orderly h none go. inr (inl refl)),
                (
                  (λ form class free s orderly h none go. inr (inl refl)),
                  (
                    (λ form class free s orderly h none go. swap-tidy form s h.object (first_of_form s.memory form [] s.values h.operands)),
                    tt,
                  ),
                ),
              ),
            ),
          ),
        ),
      ),
    )

    searches : AllOf LineIsTidy (drop 17 multi_lines)
    searches = (
      (λ form class free s orderly h none go. tt),
      (
        (λ form class free s orderly h none go. tt),
        (
          (λ form class free s orderly h none go. tt),
          (
            (λ form class free s orderly h none go. tt),
            (
              (λ form class free s orderly h none go. tt),
              tt,
            ),
          ),
        ),
      ),
    )
