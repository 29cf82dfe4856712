-- What a fact rule is: what it needs where its node isn't open, and what it gives and leaves where the node is open or not. A form
-- that has no rule is read here too: it gives nothing and drops every fact on what it may change.
--
-- Restates no section of ISO/IEC 14882:2017: fact rules are this project's own.
-- Chosen here: at an open node a need that is missing is taken as given where it can be completed, since the walk goes on with the
-- runs in which it held; a fact that an iterator is before the end, or behind the beginning, of a container is completed by the
-- fact that it is inside. Where a missing need can't be completed, the node is read as a form that has no rule. A text in which a form
-- without a rule has a need of the library has no outline, wherever it stands, but one that is open there.
use Rattle.std.specs.Prelude.{ℕ, ◌==◌, Bool, true, false, not, ◌&&◌, ◌||◌, List, [], ◌∷◌, if◌then◌else◌}
use Rattle.std.specs.List.{list_any}
use Rattle.sl_model.specs.Outlines.Facts.{Fact, Facts, inside, before, behind, sorted}
use Rattle.sl_model.specs.Outlines.Facts.{alive, follows, is_on_container, without, some_below}

-- whether the form has a rule, or needs nothing of the library; what is needed, and what is given: at a node that is open or not
pub record FactRule : Type 0 where
  pub has_rule : Bool
  pub needs : Facts → Bool
  pub gives : Bool → Facts → Facts

-- nothing is needed
abbrev pub no_need : Facts → Bool
no_need F = true

-- something is needed that no fact gives
abbrev pub no_outline : Facts → Bool
no_outline F = false

-- what needs nothing
abbrev pub freely : (Facts → Facts) → FactRule
freely rule = record { has_rule = true; needs = no_need; gives = λ lax F. rule F }

-- a form that has no rule, and has a need of the library or none: what it may change
abbrev pub no_rule : Bool → (Facts → Facts) → FactRule
no_rule has_need drops =
    record { has_rule = not has_need; needs = if has_need then no_outline else no_need; gives = λ lax F. drops F }

-- one of these containers has the fact
abbrev pub of_some : ℕ → (ℕ → Fact) → Facts → Bool
of_some n fact F = some_below n (λ c. F (fact c))

-- the containers, of the first n, of which a need is given; at an open node, where none is, those of which another fact completes it
abbrev pub given_or_completed : ℕ → (need completion : ℕ → Fact) → Bool → Facts → ℕ → Bool
given_or_completed n need completion lax F c = F (need c) || (lax && (F (completion c) && not (of_some n need F)))

-- the containers before whose end an iterator is
abbrev pub stands_before : ℕ → ℕ → Bool → Facts → ℕ → Bool
stands_before n it = given_or_completed n (before it) (inside it)

-- the containers behind whose beginning an iterator is
abbrev pub stands_behind : ℕ → ℕ → Bool → Facts → ℕ → Bool
stands_behind n it = given_or_completed n (behind it) (inside it)

-- a need is given of these containers, of the first n
abbrev pub given_of : ℕ → (ℕ → Bool) → (ℕ → Fact) → Facts → Facts
given_of n these fact F f = F f || some_below n (λ c. these c && follows (fact c) f)

-- what was completed is given, at an open node
abbrev pub completed : ℕ → (need completion : ℕ → Fact) → Bool → Facts → Facts
completed n need completion lax F = if lax then given_of n (given_or_completed n need completion lax F) need F else F

-- one of these containers, of the first n, has an element written: it need not ascend any more
abbrev pub written_in : ℕ → (ℕ → Bool) → Facts → Facts
written_in n these F (sorted d) = F (sorted d) && some_below n (λ c. these c && not (c == d))
written_in n these F f = F f

-- every fact on a container is dropped
abbrev pub drop_container : ℕ → Facts → Facts
drop_container c F = without (is_on_container c) F

-- every fact on containers is dropped
abbrev pub drop_containers : List ℕ → Facts → Facts
drop_containers [] F = F
drop_containers (c ∷ cs) F = drop_containers cs (drop_container c F)

-- the fact is on one of these containers, of the first n
abbrev pub is_on_one_of : ℕ → (ℕ → Bool) → Fact → Bool
is_on_one_of n these f = some_below n (λ c. these c && is_on_container c f)

-- the fact says that elements ascend
abbrev pub is_on_order : Fact → Bool
is_on_order (sorted d) = true
is_on_order f = false

-- the containers that a fact names for one of these iterators
abbrev pub named_for : List ℕ → Facts → ℕ → Bool
named_for iterators F c = list_any (λ it. F (inside it c)) iterators

-- Elements are written through one of these iterators by a form that has no rule: what is on the containers that facts name for
-- them is dropped, and where none is named, that any container's elements ascend.
abbrev pub drop_written : ℕ → List ℕ → Facts → Facts
drop_written n iterators F =
    if some_below n (named_for iterators F) then without (is_on_one_of n (named_for iterators F)) F else without is_on_order F

-- a reference is to an element of these containers
abbrev pub bound : ℕ → (ℕ → Bool) → Facts → Facts
bound r these F (inside i d) = if i == r then false else F (inside i d)
bound r these F (before i d) = if i == r then false else F (before i d)
bound r these F (behind i d) = if i == r then false else F (behind i d)
bound r these F (alive i d) = if i == r then these d else F (alive i d)
bound r these F f = F f

-- an element that is read or written, or that a reference is bound to: whether the form has a rule, what it needs, what reading and
-- writing give, and the containers that the element is in
pub record ElementRule : Type 0 where
  pub has_rule : Bool
  pub needs : Facts → Bool
  pub reads : Bool → Facts → Facts
  pub writes : Bool → Facts → Facts
  pub owners : Bool → Facts → ℕ → Bool

-- the rule of a read
abbrev pub read_rule : ElementRule → FactRule
read_rule e = record { has_rule = e.has_rule; needs = e.needs; gives = e.reads }

-- the rule of a write, or of a read and a write
abbrev pub write_rule : ElementRule → FactRule
write_rule e = record { has_rule = e.has_rule; needs = e.needs; gives = e.writes }

-- `bind_reference`: a reference is bound to an element of c, which gives alive(r, c) and what reading the element gives
abbrev pub bind_reference : ℕ → ElementRule → FactRule
bind_reference r e =
    record { has_rule = e.has_rule; needs = e.needs; gives = λ lax F. bound r (e.owners lax F) (e.reads lax F) }
