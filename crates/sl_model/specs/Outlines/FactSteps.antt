-- What is given at a place, and what carries it through one step or one test.
--
-- Restates no section of ISO/IEC 14882:2017.
-- Chosen here: a place to which no way comes gives every fact, so nothing is missing there.
use Rattle.std.specs.Prelude.{ℕ, Bool, true, false, ◌&&◌, ◌||◌, List, Option, Some, None}
use Rattle.sl_base.specs.declared.place.Place.{Place}
use Rattle.sl_model.specs.Outlines.Facts.{Fact, Facts, given_by, each_given, common_facts}
use Rattle.sl_model.specs.Outlines.FactRules.{FactRule}
use Rattle.sl_model.specs.Outlines.FactsOfElements.{FactTest}

-- what is given at a place; None where no way comes to it
abbrev pub Given : Type 0
Given = Option Facts

-- the places at which an outline is open
abbrev pub Places : Type 0
Places = Place → Bool

-- an outline's lists of facts: at the heads of loops by their numbers, at the entries and exits of functions by theirs
pub record Heads : Type 0 where
  pub loops : ℕ → List Fact
  pub entries : ℕ → List Fact
  pub exits : ℕ → List Fact

-- what is given behind a rule
abbrev pub with_facts : (Facts → Facts) → Given → Given
with_facts rule None = None
with_facts rule (Some F) = Some (rule F)

-- what is needed is given
abbrev pub needs_facts : (Facts → Bool) → Given → Bool
needs_facts need None = true
needs_facts need (Some F) = need F

-- what two ways give where they meet
abbrev pub meet : Given → Given → Given
meet None G = G
meet (Some F) None = Some F
meet (Some F) (Some G) = Some (common_facts F G)

-- what a head's list says where a way comes to it
abbrev pub head_list : List Fact → Given → Option (List Fact)
head_list l None = None
head_list l (Some F) = Some l

-- what is given there
abbrev pub listed : Option (List Fact) → Given
listed None = None
listed (Some l) = Some (given_by l)

-- what is given gives each fact of a list; where a list is missing, no way may come
abbrev pub covers : Given → Option (List Fact) → Bool
covers None l = true
covers (Some F) None = false
covers (Some F) (Some l) = each_given F l

-- a step: whether each form in it has a rule, or the place is open; whether what it needs is given, and what is given behind it
pub record Step : Type 0 where
  pub allowed : Places → Bool
  pub needs : Places → Heads → Given → Bool
  pub gives : Places → Heads → Given → Given

-- a test: the same, and what is given on either side
pub record Fork : Type 0 where
  pub allowed : Places → Bool
  pub needs : Places → Heads → Given → Bool
  pub when_true : Places → Heads → Given → Given
  pub when_false : Places → Heads → Given → Given

-- nothing is done
abbrev pub no_step : Step
no_step = record { allowed = λ o. true; needs = λ o h G. true; gives = λ o h G. G }

-- facts change, and nothing is needed
abbrev pub changes : (Facts → Facts) → Step
changes rule = record { allowed = λ o. true; needs = λ o h G. true; gives = λ o h G. with_facts rule G }

-- a rule at a place
abbrev pub rule_step : Place → FactRule → Step
rule_step at r = record {
  allowed = λ o. o at || r.has_rule;
  needs = λ o h G. o at || needs_facts r.needs G;
  gives = λ o h G. with_facts (r.gives (o at)) G;
}

-- one step and then another
abbrev pub then_step : Step → Step → Step
then_step a b = record {
  allowed = λ o. a.allowed o && b.allowed o;
  needs = λ o h G. a.needs o h G && b.needs o h (a.gives o h G);
  gives = λ o h G. b.gives o h (a.gives o h G);
}

-- a test by a rule, behind a step
abbrev pub test_fork : Step → Place → FactTest → Fork
test_fork a at r = record {
  allowed = λ o. a.allowed o && (o at || r.has_rule);
  needs = λ o h G. a.needs o h G && (o at || needs_facts r.needs (a.gives o h G));
  when_true = λ o h G. with_facts r.when_true (a.gives o h G);
  when_false = λ o h G. with_facts r.when_false (a.gives o h G);
}

-- a step whose value is tested, which tells nothing
abbrev pub plain_fork : Step → Fork
plain_fork a = record { allowed = a.allowed; needs = a.needs; when_true = a.gives; when_false = a.gives }

-- `connective`, `!e`
abbrev pub not_fork : Fork → Fork
not_fork a = record { allowed = a.allowed; needs = a.needs; when_true = a.when_false; when_false = a.when_true }

-- `connective`, `e && g`
abbrev pub and_fork : Fork → Fork → Fork
and_fork a b = record {
  allowed = λ o. a.allowed o && b.allowed o;
  needs = λ o h G. a.needs o h G && b.needs o h (a.when_true o h G);
  when_true = λ o h G. b.when_true o h (a.when_true o h G);
  when_false = λ o h G. meet (a.when_false o h G) (b.when_false o h (a.when_true o h G));
}

-- `connective`, `e || g`
abbrev pub or_fork : Fork → Fork → Fork
or_fork a b = record {
  allowed = λ o. a.allowed o && b.allowed o;
  needs = λ o h G. a.needs o h G && b.needs o h (a.when_false o h G);
  when_true = λ o h G. meet (a.when_true o h G) (b.when_true o h (a.when_false o h G));
  when_false = λ o h G. b.when_false o h (a.when_false o h G);
}

-- a test whose answer is taken as a value
abbrev pub joined_step : Fork → Step
joined_step a = record { allowed = a.allowed; needs = a.needs; gives = λ o h G. meet (a.when_true o h G) (a.when_false o h G) }

-- what is given behind each side of a test changes
abbrev pub fork_behind : (Facts → Facts) → Fork → Fork
fork_behind rule a = record {
  allowed = a.allowed;
  needs = a.needs;
  when_true = λ o h G. with_facts rule (a.when_true o h G);
  when_false = λ o h G. with_facts rule (a.when_false o h G);
}
