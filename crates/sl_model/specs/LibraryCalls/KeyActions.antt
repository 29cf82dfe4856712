-- What calls on keys do: insertion, erasure and look-up in sets, maps, hash forms and those with equal keys.
--
-- Restates ISO/IEC 14882:2017, [associative.reqmts] (`insert`, `emplace`, `erase(k)`, `find`, `count`, `lower_bound`, `upper_bound`,
-- `equal_range`), [unord.req], [map.access] and [unord.map.elem] (`m[k]`, `at`).
-- Chosen here: `find` gives the first of equal keys.
use Rattle.std.specs.Prelude.{ℕ, ◌+◌, Bool, true, false, List, [], ◌∷◌, length, ℤ, pos, int_lt, int_le, Option, Some, None, if◌then◌else◌}
use Rattle.sl_base.specs.declared.scalar.Scalar.TheVariants as t
use Rattle.sl_model.specs.Memory.Containers.{Cont, keys, value_part}
use Rattle.sl_model.specs.Memory.Forms.{holds_equal_keys}
use Rattle.sl_model.specs.Numbers.{converted}
use Rattle.sl_model.specs.Memory.Orders.{same, has, index_of_key, how_many}
use Rattle.sl_model.specs.LibraryCalls.Situation.{Situation, own, own_size, int_of, item, as_items, range_keys}
use Rattle.sl_model.specs.LibraryCalls.Actions.{inserts, Answer, nothing, gives_number, gives_place, gives_place_and, gives_places, gives_element, Action}
use Rattle.sl_model.specs.LibraryCalls.Actions.{exception_if, too_many, tells}
use Rattle.sl_model.specs.LibraryCalls.Effects.{key_place, known_key}
use Rattle.sl_model.specs.LibraryCalls.SequenceActions.{erasure}

-- the place of a key in the object, of the first where it is there more than once
abbrev pub key_index : Situation → ℤ → Option ℕ
key_index s k = index_of_key k (keys (own s))

-- there is none
abbrev pub is_missing : Option ℕ → Bool
is_missing None = true
is_missing (Some i) = false

-- a place, or another one where there is none
abbrev pub place_or : ℕ → Option ℕ → ℕ
place_or other None = other
place_or other (Some i) = i

-- the place at which a key stands after its insertion
abbrev pub key_after : Situation → ℤ → ℕ
key_after s k = place_or (key_place (own s) k s.picks) (known_key (own s) k)

-- a key that is put in is new
abbrev pub is_new : Situation → ℤ → Bool
is_new s k = is_missing (known_key (own s) k)

-- what the insertion of a key gives: where it stands, and with it whether it is new, where equal keys can't be
abbrev pub inserted : Situation → ℤ → Answer
inserted s k =
    if holds_equal_keys (own s).form then gives_place s.object (key_after s k) else gives_place_and s.object (key_after s k) (is_new s k)

-- how many of these come in one by one beside keys that are there, each once
abbrev pub count_new : List ℤ → List ℤ → ℕ
count_new there [] = 0
count_new there (x ∷ xs) = if has x there then count_new there xs else 1 + count_new (converted t.Int x ∷ there) xs

-- how many of these are put in
abbrev pub new_keys : Cont → List ℤ → ℕ
new_keys c xs = if holds_equal_keys c.form then length xs else count_new (keys c) xs

-- a key with a value is put in, unless it is one too many
abbrev pub key_insertion : (Situation → ℤ × ℤ) → (Situation → ℤ → Answer) → Action
key_insertion x answer = record {
  stops = λ s. too_many (own_size s + new_keys (own s) ((x s).0 ∷ []));
  effect = λ s. inserts (x s ∷ []);
  answer = λ s. answer s (x s).0;
}

-- insert(x)
abbrev pub insert_key : Action
insert_key = key_insertion (λ s. item (int_of s 1)) inserted

-- emplace(k, x)
abbrev pub emplace : Action
emplace = key_insertion (λ s. (int_of s 1, int_of s 2)) inserted

-- [](k), which puts the value 0 under a new key
abbrev pub key_subscript : Action
key_subscript = key_insertion (λ s. (int_of s 1, pos 0)) (λ s k. gives_element s.object (key_after s k) value_part)

-- insert(f, l), one by one
abbrev pub insert_keys : Action
insert_keys = record {
  stops = λ s. too_many (own_size s + new_keys (own s) (range_keys s 1));
  effect = λ s. inserts (as_items (range_keys s 1));
  answer = λ s. nothing;
}

-- how many elements of the object have a key
abbrev pub key_count : Situation → ℤ → ℕ
key_count s k = how_many (same k) (keys (own s))

-- erase(k): those with this key, which stand together
abbrev pub erase_key : Action
erase_key =
    erasure (λ s. place_or 0 (key_index s (int_of s 1))) (λ s. key_count s (int_of s 1)) (λ s. gives_number (pos (key_count s (int_of s 1))))

-- at(k), which throws where the key isn't there
abbrev pub at_key : Action
at_key = record (tells (λ s. gives_element s.object (place_or (own_size s) (key_index s (int_of s 1))) value_part)) {
  stops = λ s. exception_if (is_missing (key_index s (int_of s 1)));
}

-- find(k)
abbrev pub find : Action
find = tells (λ s. gives_place s.object (place_or (own_size s) (key_index s (int_of s 1))))

-- count(k)
abbrev pub count : Action
count = tells (λ s. gives_number (pos (key_count s (int_of s 1))))

-- how many keys of the object are less than a key
abbrev pub below : Situation → ℤ → ℕ
below s k = how_many (λ y. int_lt y k) (keys (own s))

-- how many keys of the object aren't greater than a key
abbrev pub up_to : Situation → ℤ → ℕ
up_to s k = how_many (λ y. int_le y k) (keys (own s))

-- lower_bound(k)
abbrev pub lower_bound : Action
lower_bound = tells (λ s. gives_place s.object (below s (int_of s 1)))

-- upper_bound(k)
abbrev pub upper_bound : Action
upper_bound = tells (λ s. gives_place s.object (up_to s (int_of s 1)))

-- equal_range(k)
abbrev pub equal_range : Action
equal_range = tells (λ s. gives_places s.object (below s (int_of s 1)) (up_to s (int_of s 1)))
