-- Each call on a container gives what is in its object, and an element that it gives is there.
use Rattle.std.proofs.Common.{◌≡◌, ℕ, ◌+◌, ◌-◌, ◌<◌, ◌≤◌, Bool, true, false, List, [], Option, Some, None, length, refl}
use Rattle.std.proofs.Common.{arith, if◌then◌else◌}
use Rattle.std.specs.Prelude.{ℤ, pos, nat_le, take, drop}
use Rattle.std.proofs.lemmas.Bool.{leb-false}
use Rattle.sl_base.specs.declared.failures.TheConstants.{OUT_OF_RANGE}
use Rattle.sl_base.specs.declared.form.Form.{Form}
use Rattle.sl_specs.specs.declared.class.Class.{Class}
use Rattle.sl_specs.specs.Rows.{Line, row_of as row_of_line}
use Rattle.sl_specs.specs.ContainerLines.{container_lines}
use Rattle.sl_specs.specs.MultiLines.{multi_lines}
use Rattle.sl_model.specs.Memory.Containers.{Memory, cont_at, size}
use Rattle.sl_model.specs.Memory.Edits.{after}
use Rattle.sl_model.specs.Memory.Forms.{holds_equal_keys}
use Rattle.sl_model.specs.Memory.Schedule.{after_picks}
use Rattle.sl_model.specs.LibraryCalls.Situation.{Situation, own, own_size, int_of, count_of}
use Rattle.sl_model.specs.LibraryCalls.Needs.{fails_if}
use Rattle.sl_model.specs.LibraryCalls.Actions.{gives_place, gives_place_and, never, exception_if}
use Rattle.sl_model.specs.LibraryCalls.Effects.{Left, key_place, key_change, key_picks, known_key, insert_key}
use Rattle.sl_model.specs.LibraryCalls.KeyActions.{key_index, is_missing, place_or, key_after, is_new, inserted}
use Rattle.sl_model.specs.LibraryCalls.Rows.{of_form, member_row}
use Rattle.sl_model.proofs.Called.{HasObject, own_within}
use Rattle.sl_model.proofs.Placing.{HasPlace, after-place}
use Rattle.sl_model.proofs.Tells.{AllOf, all_parts}
use Rattle.sl_model.proofs.ContainersTell.{key_index-low, known_key-low, key_sources}
use Rattle.sl_model.proofs.FineContainers.{filled_one, first_need}
use Rattle.sl_model.proofs.GivenIn.{AnswerIsIn, ElementIsThere, HasElement, is_output, given_in, RowGivesIn}
use Rattle.sl_model.proofs.FineRows.{no_fails}

-- so it is with a line of the table on each form
abbrev pub LineGivesIn : Line → Type 0
LineGivesIn x = (form : Form) (kills : Class) → RowGivesIn (is_output x.gives) (member_row form (row_of_line (Some form) x kills))

-- what the insertion of a key gives is in the object, and it is no element
inserted-in : (s : Situation) (z : ℤ) → AnswerIsIn s.object (inserted s z) × ((m : Memory) → ElementIsThere m (inserted s z))
inserted-in s z = by_equal (holds_equal_keys (own s).form)
  where
    by_equal : (b : Bool)
        → AnswerIsIn s.object (if b then gives_place s.object (key_after s z) else gives_place_and s.object (key_after s z) (is_new s z))
        × ((m : Memory) → ElementIsThere m
        (if b then gives_place s.object (key_after s z) else gives_place_and s.object (key_after s z) (is_new s z)))
    by_equal true = (refl, λ m. tt)
    by_equal false = (refl, λ m. tt)

-- an element of the object as it stands
own_element : (form : Form) (s : Situation) (k : ℕ) → HasObject (of_form form) s → k < own_size s → HasElement s.memory s.object k
own_element form s k there low = record { there = own_within form s there; within = low }

-- an index at which nothing is thrown
not_past : (n k : ℕ) → exception_if (nat_le n k) ≡ never → k < n
not_past n k e = by_test (nat_le n k) refl e
  where
    by_test : (b : Bool) → nat_le n k ≡ b → exception_if b ≡ never → k < n
    by_test true t h = absurd (cc)
    by_test false t h = leb-false n k t

-- an index at which no need fails
not_out : (n k : ℕ) → fails_if (nat_le n k) OUT_OF_RANGE 0 ≡ [] → k < n
not_out n k e = leb-false n k (no_fails (nat_le n k) OUT_OF_RANGE 0 e)

-- a key that is in the object
key_there : (s : Situation) (z : ℤ) → exception_if (is_missing (key_index s z)) ≡ never → place_or (own_size s) (key_index s z) < own_size s
key_there s z e = by_place (key_index s z) refl e
  where
    by_place : (o : Option ℕ) → key_index s z ≡ o → exception_if (is_missing o) ≡ never → place_or (own_size s) o < own_size s
    by_place None at h = absurd (cc)
    by_place (Some k) at h = key_index-low s z k at

-- a key that is put in has an element then
key_element : (class : Class) (s : Situation) (x : ℤ × ℤ) (picks : List ℕ) → s.object < length s.memory.conts
    → HasElement (insert_key class s.site s.object (own s) x (record { memory = s.memory; picks = picks })).memory s.object
    (place_or (key_place (own s) x.0 picks) (known_key (own s) x.0))
key_element class s x picks low = by_known (known_key (own s) x.0) refl
  where
    behind : HasPlace (after (key_change class (own s) x picks) s.memory s.object (own s) s.site) s.object (key_place (own s) x.0 picks + 1)
    behind = after-place (key_change class (own s) x picks) s.memory s.object (own s) s.site (key_place (own s) x.0 picks + 1) low
        (key_sources class s x picks)

    before : (k n : ℕ) → k + 1 ≤ n → k < n
    before k n h = omega arith

    by_known : (o : Option ℕ) → known_key (own s) x.0 ≡ o
        → HasElement (elim o as (λ _. Left) [
          | None ↦ record {
            memory = after (key_change class (own s) x picks) s.memory s.object (own s) s.site;
            picks = after_picks (key_picks (own s)) picks;
          }
          | Some k ↦ record { memory = s.memory; picks = picks }
        ]).memory s.object (place_or (key_place (own s) x.0 picks) o)
    by_known None e = record {
      there = behind.there;
      within = before (key_place (own s) x.0 picks)
          (size (cont_at (after (key_change class (own s) x picks) s.memory s.object (own s) s.site) s.object)) behind.within;
    }
    by_known (Some k) e = record { there = low; within = known_key-low (own s) x.0 k e }

-- each call on a container but a multiset or multimap
pub containers-give-in : AllOf LineGivesIn container_lines
containers-give-in = all_parts LineGivesIn 7 container_lines makings (all_parts LineGivesIn 10 (drop 7 container_lines) accesses
    (all_parts LineGivesIn 13 (drop 17 container_lines) edits (all_parts LineGivesIn 10 (drop 30 container_lines) others lists)))
  where
    makings : AllOf LineGivesIn (take 7 container_lines)
    makings = (
      (λ form kills s h none go. given_in tt tt tt),
      (
        (λ form kills s h none go. given_in tt tt tt),
        (
          (λ form kills s h none go. given_in tt tt tt),
          (
            (λ form kills s h none go. given_in tt tt tt),
            (
              (λ form kills s h none go. given_in tt tt tt),
              (
                (λ form kills s h none go. given_in tt tt tt),
                (
                  (λ form kills s h none go. given_in tt tt tt),
                  tt,
                ),
              ),
            ),
          ),
        ),
      ),
    )

    accesses : AllOf LineGivesIn (take 10 (drop 7 container_lines))
    accesses = (
      (λ form kills s h none go. given_in refl tt tt),
      (
        (λ form kills s h none go. given_in refl tt tt),
        (
          (λ form kills s h none go. given_in tt tt tt),
          (
            (λ form kills s h none go. given_in tt tt tt),
            (
              (λ form kills s h none go. given_in refl (own_element form s 0 h.object (filled_one s (first_need _ [] none))) tt),
              (
                (λ form kills s h none go. given_in refl (own_element form s (own_size s - 1) h.object (let r = filled_one s (first_need _ [] none) in omega arith)) tt),
                (
                  (λ form kills s h none go. given_in refl (own_element form s (count_of s 1) h.object (not_past (own_size s) (count_of s 1) go)) tt),
                  (
                    (λ form kills s h none go. given_in refl (own_element form s _ h.object (key_there s (int_of s 1) go)) tt),
                    (
                      (λ form kills s h none go. given_in refl (own_element form s (count_of s 1) h.object (not_out (own_size s) (count_of s 1) (first_need _ [] none))) tt),
                      (
                        (λ form kills s h none go. given_in refl (key_element kills s (int_of s 1, pos 0) s.picks (own_within form s h.object)) tt),
                        tt,
                      ),
                    ),
                  ),
                ),
              ),
            ),
          ),
        ),
      ),
    )

    edits : AllOf LineGivesIn (take 13 (drop 17 container_lines))
    edits = (
      (λ form kills s h none go. given_in tt tt tt),
      (
        (λ form kills s h none go. given_in tt tt tt),
        (
          (λ form kills s h none go. given_in tt tt tt),
          (
            (λ form kills s h none go. given_in tt tt tt),
            (
              (λ form kills s h none go. given_in refl tt tt),
              (
                (λ form kills s h none go. given_in refl tt tt),
                (
                  (λ form kills s h none go. given_in refl tt tt),
                  (
                    (λ form kills s h none go. let t = inserted-in s (int_of s 1) in given_in t.0 (t.1 _) tt),
                    (
                      (λ form kills s h none go. given_in tt tt tt),
                      (
                        (λ form kills s h none go. let t = inserted-in s (int_of s 1) in given_in t.0 (t.1 _) tt),
                        (
                          (λ form kills s h none go. given_in refl tt tt),
                          (
                            (λ form kills s h none go. given_in refl tt tt),
                            (
                              (λ form kills s h none go. given_in tt tt tt),
                              tt,
                            ),
                          ),
                        ),
                      ),
                    ),
                  ),
                ),
              ),
            ),
          ),
        ),
      ),
    )

    others : AllOf LineGivesIn (take 10 (drop 30 container_lines))
    others = (
      (λ form kills s h none go. given_in tt tt tt),
      (
        (λ form kills s h none go. given_in tt tt tt),
        (
          (λ form kills s h none go. given_in tt tt tt),
          (
            (λ form kills s h none go. given_in tt tt tt),
            (
              (λ form kills s h none go. given_in tt tt tt),
              (
                (λ form kills s h none go. given_in tt tt tt),
                (
                  (λ form kills s h none go. given_in refl tt tt),
                  (
                    (λ form kills s h none go. given_in tt tt tt),
                    (
                      (λ form kills s h none go. given_in refl tt tt),
                      (
                        (λ form kills s h none go. given_in refl tt tt),
                        tt,
                      ),
                    ),
                  ),
                ),
              ),
            ),
          ),
        ),
      ),
    )

    lists : AllOf LineGivesIn (drop 40 container_lines)
    lists = (
      (λ form kills s h none go. given_in tt tt tt),
      (
        (λ form kills s h none go. given_in tt tt tt),
        (
          (λ form kills s h none go. given_in tt tt tt),
          (
            (λ form kills s h none go. given_in tt tt tt),
            (
              (λ form kills s h none go. given_in tt tt tt),
              (
                (λ form kills s h none go. given_in tt tt tt),
                (
                  (λ form kills s h none go. given_in tt tt tt),
                  (
                    (λ form kills s h none go. given_in tt tt tt),
                    tt,
                  ),
                ),
              ),
            ),
          ),
        ),
      ),
    )

-- each call on a multiset or multimap
pub multis-give-in : AllOf LineGivesIn multi_lines
multis-give-in = all_parts LineGivesIn 9 multi_lines first (all_parts LineGivesIn 8 (drop 9 multi_lines) edits searches)
  where
    first : AllOf LineGivesIn (take 9 multi_lines)
    first = (
      (λ form kills s h none go. given_in tt tt tt),
      (
        (λ form kills s h none go. given_in tt tt tt),
        (
          (λ form kills s h none go. given_in tt tt tt),
          (
            (λ form kills s h none go. given_in tt tt tt),
            (
              (λ form kills s h none go. given_in tt tt tt),
              (
                (λ form kills s h none go. given_in refl tt tt),
                (
                  (λ form kills s h none go. given_in refl tt tt),
                  (
                    (λ form kills s h none go. given_in tt tt tt),
                    (
                      (λ form kills s h none go. given_in tt tt tt),
                      tt,
                    ),
                  ),
                ),
              ),
            ),
          ),
        ),
      ),
    )

    edits : AllOf LineGivesIn (take 8 (drop 9 multi_lines))
    edits = (
      (λ form kills s h none go. let t = inserted-in s (int_of s 1) in given_in t.0 (t.1 _) tt),
      (
        (λ form kills s h none go. given_in tt tt tt),
        (
          (λ form kills s h none go. let t = inserted-in s (int_of s 1) in given_in t.0 (t.1 _) tt),
          (
            (λ form kills s h none go. given_in refl tt tt),
            (
              (λ form kills s h none go. given_in refl tt tt),
              (
                (λ form kills s h none go. given_in tt tt tt),
                (
                  (λ form kills s h none go. given_in tt tt tt),
                  (
                    (λ form kills s h none go. given_in tt tt tt),
                    tt,
                  ),
                ),
              ),
            ),
          ),
        ),
      ),
    )

    searches : AllOf LineGivesIn (drop 17 multi_lines)
    searches = (
      (λ form kills s h none go. given_in refl tt tt),
      (
        (λ form kills s h none go. given_in tt tt tt),
        (
          (λ form kills s h none go. given_in refl tt tt),
          (
            (λ form kills s h none go. given_in refl tt tt),
            (
              (λ form kills s h none go. given_in refl tt tt),
              tt,
            ),
          ),
        ),
      ),
    )
