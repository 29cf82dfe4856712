-- The fact rules of containers: `declare`, `erase_at`, `insert_at`, `push`, `pop`, `front_or_back`, `clear`, `reserve_more`, `index`,
-- `sort`, `insert_key`, `append_copy`, `erase_tail` and `swap`. `x` is the container, `it` an iterator, and `lax` says that the node is
-- open.
--
-- Restates ISO/IEC 14882:2017, [container.requirements.general], [sequence.reqmts], [vector.capacity], [list.ops],
-- [associative.reqmts], [unord.req] and [map.access], as far as a rule's facts are true there.
-- Chosen here: the facts that are carried; what each rule leaves of the facts on its container stands in FactsLeft.
use Rattle.std.specs.Prelude.{ℕ, ◌==◌, Bool, true, false, ◌&&◌, ◌||◌, List, min, ℤ, pos, ◌+ℤ◌, int_le, if◌then◌else◌}
use Rattle.sl_base.specs.declared.form.Form.{Form}
use Rattle.sl_base.specs.declared.form.Form.TheVariants as f
use Rattle.sl_model.specs.Outlines.Facts.{Fact, Facts, inside, before, behind, size_at_least, spare_at_least, sorted, up_to_size}
use Rattle.sl_model.specs.Outlines.Facts.{below_size, alive, given_too, placed, no_container, forget_iterator, at_least_constant}
use Rattle.sl_model.specs.Outlines.FactsLeft.{remaining, when_written, when_one_goes, when_inserted, when_pushed, when_cleared, when_reserved, when_sorted}
use Rattle.sl_model.specs.Outlines.FactsLeft.{when_key_inserted, when_appended, when_tail_erased}
use Rattle.sl_model.specs.Outlines.FactRules.{FactRule, ElementRule, no_need, no_outline, freely, drop_container}

-- how many elements n listed ones make at least: sets hold equal ones once
abbrev pub listed_size : Form → ℕ → ℕ
listed_size f.Set n = min n 1
listed_size f.HashSet n = min n 1
listed_size f.MultiSet n = min n 1
listed_size form n = n

-- the facts on a new container that holds n elements at least, and ascends if none is listed
abbrev pub declared_with : List ℤ → ℕ → ℕ → Bool → Facts → Facts
declared_with constants x n ascends F (size_at_least d k) =
    if d == x then at_least_constant constants k (λ m. int_le m (pos n)) else F (size_at_least d k)
declared_with constants x n ascends F (sorted d) = if d == x then ascends else F (sorted d)
declared_with constants x n ascends F f = drop_container x F f

-- `declare`, container x with n elements listed
abbrev pub declare : List ℤ → ℕ → Form → ℕ → FactRule
declare constants x form n = freely (declared_with constants x (listed_size form n) (n == 0))

-- before(it, x) is given, or it is completed at an open node
abbrev pub may_erase : ℕ → ℕ → Bool → Facts → Bool
may_erase it x lax F = F (before it x) || (lax && F (inside it x))

-- `erase_at`, `x.erase(it)`: it is before the end
abbrev pub erase_at : List ℤ → ℕ → ℕ → FactRule
erase_at constants x it = record {
  has_rule = true;
  needs = λ F. F (before it x);
  gives = λ lax F. if may_erase it x lax F then remaining constants x when_one_goes (given_too lax (before it x) F) else drop_container x F;
}

-- `erase_at`, `it = x.erase(it)`: and then it is inside
abbrev pub erase_at_itself : List ℤ → ℕ → ℕ → FactRule
erase_at_itself constants x it = record {
  has_rule = true;
  needs = λ F. F (before it x);
  gives = λ lax F. placed it (λ d. d == x && may_erase it x lax F) no_container no_container ((erase_at constants x it).gives lax F);
}

-- `insert_at`, `it = x.insert(it, e)`: it is inside, and then before the end, so that there is an element
abbrev pub insert_at : List ℤ → ℕ → Form → ℕ → FactRule
insert_at constants x form it = record {
  has_rule = true;
  needs = λ F. F (inside it x);
  gives = λ lax F.
      if F (inside it x) then given_too true (before it x) (forget_iterator it (remaining constants x (when_inserted form) F))
      else forget_iterator it (drop_container x F);
}

-- `push`, `x.push_back(e)` and `x.push_front(e)`
abbrev pub push : List ℤ → ℕ → Form → FactRule
push constants x form = freely (remaining constants x (when_pushed form))

-- `pop`, `x.pop_back()` and `x.pop_front()`: size(x) is at least 1
abbrev pub pop : List ℤ → ℕ → FactRule
pop constants x = record {
  has_rule = true;
  needs = λ F. F (size_at_least x (pos 1));
  gives = λ lax F. remaining constants x when_one_goes (given_too lax (size_at_least x (pos 1)) F);
}

-- an element of x that is there where a fact is given, and completed at an open node
abbrev pub element_where : List ℤ → ℕ → Fact → ElementRule
element_where constants x fact = record {
  has_rule = true;
  needs = λ F. F fact;
  reads = λ lax F. given_too lax fact F;
  writes = λ lax F. remaining constants x when_written (given_too lax fact F);
  owners = λ lax F d. d == x;
}

-- `front_or_back`, `x.front()` and `x.back()`: size(x) is at least 1
abbrev pub front_or_back : List ℤ → ℕ → ElementRule
front_or_back constants x = element_where constants x (size_at_least x (pos 1))

-- `index`, `x[y]` of a scalar y: it is less than size(x)
abbrev pub index_by : List ℤ → ℕ → ℕ → ElementRule
index_by constants x y = element_where constants x (below_size y x)

-- `index`, `x[k]` of a literal: size(x) is at least k + 1
abbrev pub index_at : List ℤ → ℕ → ℤ → ElementRule
index_at constants x k = element_where constants x (size_at_least x (k +ℤ pos 1))

-- `x[e]` of anything else has no rule
abbrev pub index_elsewhere : ℕ → ElementRule
index_elsewhere x = record {
  has_rule = false;
  needs = no_outline;
  reads = λ lax F. F;
  writes = λ lax F. drop_container x F;
  owners = λ lax F. no_container;
}

-- `x.at(e)` has no rule, and no need either; a reference is bound to it
abbrev pub element_at : ℕ → ElementRule
element_at x = record { has_rule = true; needs = no_need; reads = λ lax F. F; writes = λ lax F. drop_container x F; owners = λ lax F d. d == x }

-- `clear`, `x.clear()`
abbrev pub clear : List ℤ → ℕ → FactRule
clear constants x = freely (remaining constants x when_cleared)

-- `reserve_more`, `x.reserve(x.size() + k)` of a vector
abbrev pub reserve_more : List ℤ → ℕ → ℤ → FactRule
reserve_more constants x k = freely (λ F. given_too true (spare_at_least x k) (remaining constants x when_reserved F))

-- `sort`, of all elements of x
abbrev pub sort : List ℤ → ℕ → Form → FactRule
sort constants x form = freely (remaining constants x (when_sorted form))

-- what a key that comes in, or is there, gives and leaves
abbrev pub key_inserted : List ℤ → ℕ → Form → Facts → Facts
key_inserted constants x form F = given_too true (size_at_least x (pos 1)) (remaining constants x (when_key_inserted form) F)

-- `insert_key`, `x.insert(e)` and `x.emplace(k, e)` of a form with keys
abbrev pub insert_key : List ℤ → ℕ → Form → FactRule
insert_key constants x form = freely (key_inserted constants x form)

-- `insert_key`, `x[e]` of a form with keys and values
abbrev pub value_of_key : List ℤ → ℕ → Form → ElementRule
value_of_key constants x form = record {
  has_rule = true;
  needs = no_need;
  reads = λ lax F. key_inserted constants x form F;
  writes = λ lax F. key_inserted constants x form F;
  owners = λ lax F d. d == x;
}

-- `append_copy`, a range of another container is appended to x; its iterators are inside that container
abbrev pub append_copy : List ℤ → (Facts → Bool) → ℕ → Form → FactRule
append_copy constants needs x form = record {
  has_rule = true;
  needs = needs;
  gives = λ lax F. if needs F then remaining constants x (when_appended form) F else drop_container x F;
}

-- `erase_tail`, `x.erase(std::unique(x.begin(), x.end()), x.end())`, and with `std::remove`
abbrev pub erase_tail : List ℤ → ℕ → FactRule
erase_tail constants x = freely (remaining constants x when_tail_erased)

-- it is one of the two
abbrev pub is_either : ℕ → ℕ → ℕ → Bool
is_either x y d = d == x || d == y

-- the other of the two
abbrev pub other_of : ℕ → ℕ → ℕ → ℕ
other_of x y d = if d == x then y else x

-- `swap`, `x.swap(y)`: facts change places; an iterator's only where it is before the end
abbrev pub swapped : ℕ → ℕ → Facts → Facts
swapped x y F (inside i d) = if is_either x y d then F (before i (other_of x y d)) else F (inside i d)
swapped x y F (before i d) = if is_either x y d then F (before i (other_of x y d)) else F (before i d)
swapped x y F (behind i d) = if is_either x y d then F (before i (other_of x y d)) && F (behind i (other_of x y d)) else F (behind i d)
swapped x y F (size_at_least d k) = if is_either x y d then F (size_at_least (other_of x y d) k) else F (size_at_least d k)
swapped x y F (spare_at_least d k) = if is_either x y d then F (spare_at_least (other_of x y d) k) else F (spare_at_least d k)
swapped x y F (sorted d) = if is_either x y d then F (sorted (other_of x y d)) else F (sorted d)
swapped x y F (up_to_size z d) = if is_either x y d then F (up_to_size z (other_of x y d)) else F (up_to_size z d)
swapped x y F (below_size z d) = if is_either x y d then F (below_size z (other_of x y d)) else F (below_size z d)
swapped x y F (alive r d) = if is_either x y d then F (alive r (other_of x y d)) else F (alive r d)
swapped x y F f = F f
