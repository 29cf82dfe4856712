-- Each effect of a call leaves as many containers, or one more where it makes one, and no number is unused again.
use Rattle.std.proofs.Common.{◌≡◌, ℕ, ◌+◌, ◌≤◌, Bool, true, false, List, [], ◌∷◌, Some, None, length, length-append, refl, ◌∙◌, arith}
use Rattle.std.specs.Prelude.{ℤ, slice_set}
use Rattle.std.proofs.Math.ListN.{length-set}
use Rattle.sl_base.specs.declared.form.Form.{Form}
use Rattle.sl_specs.specs.declared.class.Class.{Class}
use Rattle.sl_model.specs.Memory.Containers.{Cont, Memory, cont_at, size, made}
use Rattle.sl_model.specs.Memory.Edits.{Change, change_of, changed, rebuilt, next_of_two, after, after_two}
use Rattle.sl_model.specs.LibraryCalls.Situation.{Situation, own, item}
use Rattle.sl_model.specs.LibraryCalls.Actions.{Effect, keeps, edits, changes, trades, inserts, appends, makes, makes_by_keys}
use Rattle.sl_model.specs.LibraryCalls.Effects.{Left, insertion_class, insertion, append, append_all, known_key, key_change, key_picks, insert_key, insert_all}
use Rattle.sl_model.specs.LibraryCalls.Effects.{does}
use Rattle.sl_model.specs.Memory.Schedule.{after_picks}

-- as many, or one more
abbrev pub grown : Bool → ℕ → ℕ
grown true n = n + 1
grown false n = n

-- an effect makes a container
abbrev pub makes_one : Effect → Bool
makes_one (makes n room xs) = true
makes_one (makes_by_keys n room xs) = true
makes_one e = false

-- as many containers, or one more, and no number is unused again
pub record Grows (more : Bool) (m t : Memory) : Type 0 where
  pub many : length t.conts ≡ grown more (length m.conts)
  pub later : m.fresh ≤ t.fresh

-- a memory from itself
grows_none : (m : Memory) → Grows false m m
grows_none m = record { many = refl; later = omega arith }

-- as many containers again
grows_then : (b : Bool) (m t u : Memory) → Grows b m t → Grows false t u → Grows b m u
grows_then b m t u g h = record {
  many = h.many ∙ g.many;
  later = let p : m.fresh ≤ t.fresh = g.later in let q : t.fresh ≤ u.fresh = h.later in omega arith;
}

-- a change of one container
pub after-grows : (ch : Change) (m : Memory) (j : ℕ) (c : Cont) (site : ℕ) → Grows false m (after ch m j c site)
after-grows ch m j c site = record { many = length-set m.conts j (changed m.fresh ch c); later = omega arith }

-- changes of two containers
after_two-grows : (ch dh : Change) (m : Memory) (j : ℕ) (c : Cont) (i : ℕ) (d : Cont) (site : ℕ)
    → Grows false m (after_two ch dh m j c i d site)
after_two-grows ch dh m j c i d site = record {
  many = length-set (slice_set m.conts j (rebuilt m.fresh (next_of_two m.fresh c d) ch c d)) i
      (rebuilt (m.fresh + size c + 1) (next_of_two m.fresh c d + length ch.sources) dh d c)
      ∙ length-set m.conts j (rebuilt m.fresh (next_of_two m.fresh c d) ch c d);
  later = omega arith;
}

-- elements one by one at the end
append_all-grows : (site j : ℕ) (xs : List ℤ) (left : Left) → Grows false left.memory (append_all site j xs left).memory
append_all-grows site j [] left = grows_none left.memory
append_all-grows site j (x ∷ xs) left = grows_then false left.memory (append site j c x left).memory
    (append_all site j xs (append site j c x left)).memory
    (after-grows (change_of (insertion_class c.form) c (insertion c (size c) (item x ∷ []) left.picks)) left.memory j c site)
    (append_all-grows site j xs (append site j c x left))
  where
    c : Cont
    c = cont_at left.memory j

-- a key that comes
pub insert_key-grows : (class : Class) (site j : ℕ) (c : Cont) (x : ℤ × ℤ) (left : Left)
    → Grows false left.memory (insert_key class site j c x left).memory
insert_key-grows class site j c x left =
    elim (known_key c x.0) as (λ o. Grows false left.memory (elim o as (λ _. Left) [
      | None ↦ record {
        memory = after (key_change class c x left.picks) left.memory j c site;
        picks = after_picks (key_picks c) left.picks;
      }
      | Some k ↦ left
    ]).memory) [
      | None ↦ after-grows (key_change class c x left.picks) left.memory j c site
      | Some k ↦ grows_none left.memory
    ]

-- keys one by one
insert_all-grows : (class : Class) (site j : ℕ) (xs : List (ℤ × ℤ)) (left : Left)
    → Grows false left.memory (insert_all class site j xs left).memory
insert_all-grows class site j [] left = grows_none left.memory
insert_all-grows class site j (x ∷ xs) left = grows_then false left.memory (insert_key class site j (cont_at left.memory j) x left).memory
    (insert_all class site j xs (insert_key class site j (cont_at left.memory j) x left)).memory
    (insert_key-grows class site j (cont_at left.memory j) x left)
    (insert_all-grows class site j xs (insert_key class site j (cont_at left.memory j) x left))

-- a new container
made-grows : (form : Form) (room : ℕ) (xs : List (ℤ × ℤ)) (m : Memory) → Grows true m (made form room xs m)
made-grows form room xs m = record { many = length-append m.conts _; later = omega arith }

-- each effect
pub does-grows : (form : Form) (class : Class) (s : Situation) (e : Effect) → Grows (makes_one e) s.memory (does form class s e).memory
does-grows form class s keeps = grows_none s.memory
does-grows form class s (edits n e) = after-grows (change_of class (own s) e) s.memory s.object (own s) s.site
does-grows form class s (changes n j ch) = after-grows ch s.memory j (cont_at s.memory j) s.site
does-grows form class s (trades j ch dh) = after_two-grows ch dh s.memory s.object (own s) j (cont_at s.memory j) s.site
does-grows form class s (inserts xs) =
    insert_all-grows class s.site s.object xs (record { memory = s.memory; picks = after_picks 0 s.picks })
does-grows form class s (appends j xs) = append_all-grows s.site j xs (record { memory = s.memory; picks = after_picks 0 s.picks })
does-grows form class s (makes n room xs) = made-grows form room xs s.memory
does-grows form class s (makes_by_keys n room xs) = grows_then true s.memory (made form room [] s.memory)
    (insert_all class s.site s.object xs (record { memory = made form room [] s.memory; picks = after_picks n s.picks })).memory
    (made-grows form room [] s.memory)
    (insert_all-grows class s.site s.object xs (record { memory = made form room [] s.memory; picks = after_picks n s.picks }))
