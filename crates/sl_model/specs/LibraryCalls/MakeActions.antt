-- What constructors, `=` and `assign` do.
--
-- Restates ISO/IEC 14882:2017, [container.requirements.general] (`X()`, `X(a)`, `a = b`), [sequence.reqmts] (`X(n, t)`, `X(i, j)`,
-- `X(il)`, `a.assign(n, t)`), [associative.reqmts] and [unord.req] (constructors that insert what a range or a list holds).
-- Chosen here: a vector that is made or assigned has a room of its number of elements and a pick, and so has a hash form that is
-- copied, whose elements are put in again; one that is made empty, from a list or from a range has a room of a pick. `a = a` and
-- `a.assign(..)` replace every element.
use Rattle.std.specs.Prelude.{ℕ, ◌+◌, List, [], ◌∷◌, length, replicate, ℤ, pos}
use Rattle.sl_base.specs.declared.form.Form.{Form}
use Rattle.sl_base.specs.declared.form.Form.TheVariants as f
use Rattle.sl_specs.specs.declared.letter.Letter.{Letter}
use Rattle.sl_specs.specs.declared.letter.Letter.TheVariants as a
use Rattle.sl_model.specs.Memory.Containers.{size, items}
use Rattle.sl_model.specs.Memory.Schedule.{pick, after_picks, scattered}
use Rattle.sl_model.specs.LibraryCalls.Situation.{Situation, own, their, int_of, count_of, item, as_items, listed, range_keys}
use Rattle.sl_model.specs.LibraryCalls.Actions.{Effect, edits, makes, makes_by_keys, nothing, Action, never, too_many, Stop}

-- a new container of a form with these elements: a sequence has them at once, and the others put them in one by one
abbrev pub filled : Form → List (ℤ × ℤ) → List ℕ → Effect
filled f.Vector xs picks = makes 1 (length xs + pick picks) xs
filled f.Deque xs picks = makes 0 0 xs
filled f.List xs picks = makes 0 0 xs
filled f.HashSet xs picks = makes_by_keys 1 (pick picks) xs
filled f.HashMap xs picks = makes_by_keys 1 (pick picks) xs
filled form xs picks = makes_by_keys 0 0 xs

-- how many picks a copy of n elements takes
abbrev pub copy_picks : Form → ℕ → ℕ
copy_picks f.Vector n = 1
copy_picks f.HashSet n = n + 1
copy_picks f.HashMap n = n + 1
copy_picks form n = 0

-- the room of a copy of n elements
abbrev pub copy_room : Form → ℕ → List ℕ → ℕ
copy_room f.Vector n picks = n + pick picks
copy_room f.HashSet n picks = n + pick picks
copy_room f.HashMap n picks = n + pick picks
copy_room form n picks = 0

-- the elements of a copy: a hash form has them in a picked order
abbrev pub copy_items : Form → List (ℤ × ℤ) → List ℕ → List (ℤ × ℤ)
copy_items f.HashSet xs picks = scattered (after_picks 1 picks) xs
copy_items f.HashMap xs picks = scattered (after_picks 1 picks) xs
copy_items form xs picks = xs

-- a new container of a form that copies these elements
abbrev pub copied : Form → List (ℤ × ℤ) → List ℕ → Effect
copied form xs picks = makes (copy_picks form (length xs)) (copy_room form (length xs) picks) (copy_items form xs picks)

-- all elements of the object go and these come
abbrev pub refilled : Form → ℕ → List (ℤ × ℤ) → List ℕ → Effect
refilled form n xs picks = edits (copy_picks form (length xs)) (record {
  from = 0;
  gone = n;
  come = copy_items form xs picks;
  room = copy_room form (length xs) picks;
})

-- a new container with these elements, of which there may be too many
abbrev pub construction : Form → (Situation → Stop) → (Situation → List (ℤ × ℤ)) → Action
construction form stops xs = record { stops = stops; effect = λ s. filled form (xs s) s.picks; answer = λ s. nothing }

-- the elements of the object are replaced by these, of which there may be too many
abbrev pub replacement : (Situation → Stop) → (Situation → List (ℤ × ℤ)) → Action
replacement stops xs =
    record { stops = stops; effect = λ s. refilled (own s).form (size (own s)) (xs s) s.picks; answer = λ s. nothing }

-- what a constructor does, by its operands: (list), (c), (n), (n, x), (f, l) and ()
abbrev pub construct : Form → List Letter → Action
construct form (a.InitializerList ∷ rest) = construction form (λ s. too_many (length s.values)) (λ s. listed s.values)
construct form (a.Container ∷ rest) =
    record { stops = λ s. never; effect = λ s. copied form (items (their s 1)) s.picks; answer = λ s. nothing }
construct form (a.Count ∷ []) = construction form (λ s. too_many (count_of s 1)) (λ s. replicate (count_of s 1) (item (pos 0)))
construct form (a.Count ∷ x ∷ rest) = construction form (λ s. too_many (count_of s 1)) (λ s. replicate (count_of s 1) (item (int_of s 2)))
construct form (a.IntRange ∷ rest) = construction form (λ s. too_many (length (range_keys s 1))) (λ s. as_items (range_keys s 1))
construct form letters = construction form (λ s. never) (λ s. [])

-- =(c)
abbrev pub assign : Action
assign = replacement (λ s. never) (λ s. items (their s 1))

-- assign(n, x)
abbrev pub assign_fill : Action
assign_fill = replacement (λ s. too_many (count_of s 1)) (λ s. replicate (count_of s 1) (item (int_of s 2)))
