-- The fact rules of iterators and of references: `begin`, `end`, `step_forward`, `step_back`, `access` and
-- `use_reference`. Where a need is given for several containers, a rule gives what it gives or leaves with one of them.
--
-- Restates ISO/IEC 14882:2017, [container.requirements.general] (`a.begin()`, `a.end()`), [input.iterators], [forward.iterators],
-- [bidirectional.iterators], [iterator.operations] (`next`, `prev`) and [dcl.ref].
-- Chosen here: the facts that they carry. `n` is how many containers are in scope, `it` an iterator, `to` the one that takes the
-- value, and `lax` says that the node is open.
use Rattle.std.specs.Prelude.{ℕ, ◌==◌, true, ◌&&◌, pos}
use Rattle.sl_model.specs.Outlines.Facts.{Facts, inside, before, behind, size_at_least, alive, placed, no_container}
use Rattle.sl_model.specs.Outlines.FactRules.{FactRule, ElementRule, freely, of_some, stands_before, stands_behind, completed, written_in}

-- `begin`, `it = c.begin()`: it is inside, and before the end if size(c) is at least 1
abbrev pub begin : ℕ → ℕ → FactRule
begin c to = freely (λ F. placed to (λ d. d == c) (λ d. d == c && F (size_at_least c (pos 1))) no_container F)

-- `end`, `it = c.end()`: it is inside, and behind the beginning if size(c) is at least 1
abbrev pub end : ℕ → ℕ → FactRule
end c to = freely (λ F. placed to (λ d. d == c) no_container (λ d. d == c && F (size_at_least c (pos 1))) F)

-- what gives an iterator that is inside c
abbrev pub found : ℕ → ℕ → Facts → Facts
found c to F = placed to (λ d. d == c) no_container no_container F

-- `step_forward`, `++it` and `jt = std::next(it)`: it is before the end, and the moved one is behind the beginning
abbrev pub step_forward : ℕ → ℕ → ℕ → FactRule
step_forward n it to = record {
  has_rule = true;
  needs = of_some n (before it);
  gives = λ lax F. let these = stands_before n it lax F in placed to these no_container these (completed n (before it) (inside it) lax F);
}

-- `step_back`, `--it` and `jt = std::prev(it)`: it is behind the beginning, and the moved one is before the end
abbrev pub step_back : ℕ → ℕ → ℕ → FactRule
step_back n it to = record {
  has_rule = true;
  needs = of_some n (behind it);
  gives = λ lax F. let these = stands_behind n it lax F in placed to these these no_container (completed n (behind it) (inside it) lax F);
}

-- `access`, `*it` and `it->`: it is before the end
abbrev pub access : ℕ → ℕ → ElementRule
access n it = record {
  has_rule = true;
  needs = of_some n (before it);
  reads = λ lax F. completed n (before it) (inside it) lax F;
  writes = λ lax F. written_in n (stands_before n it lax F) (completed n (before it) (inside it) lax F);
  owners = stands_before n it;
}

-- `use_reference`, r, `r.first` and `r.second`: it is alive
abbrev pub use_reference : ℕ → ℕ → ElementRule
use_reference n r = record {
  has_rule = true;
  needs = of_some n (alive r);
  reads = λ lax F. F;
  writes = λ lax F. written_in n (λ c. F (alive r c)) F;
  owners = λ lax F. no_container;
}
