-- What is read of an iterator's steps is what a situation has.
use Rattle.std.proofs.Common.{◌≡◌, ℕ, ℤ, Bool, ◌||◌, List, [], ◌∷◌, Option, Some, None, refl, ap, sym, ◌∙◌}
use Rattle.std.specs.Option.{is_none}
use Rattle.sl_base.specs.declared.form.Form.{Form}
use Rattle.sl_base.specs.declared.failures.TheConstants.{OUT_OF_RANGE}
use Rattle.sl_model.specs.Memory.Containers.{Memory, cont_at, size as size_of}
use Rattle.sl_model.specs.Memory.Forms.{step_of, is_moved_back}
use Rattle.sl_model.specs.LibraryCalls.Needs.{fails_if, movable_fails, dereference_fails}
use Rattle.sl_model.specs.LibraryCalls.Operators.{step_fails}
use Rattle.sl_model.specs.LibraryCalls.Situation.{container_in}
use Rattle.sl_needs.specs.Means.Steps.{step_fails_at, movable_fails_at, dereference_at}

by_step : (o : Option ℕ) → fails_if (is_none o) OUT_OF_RANGE 1 ≡ (elim o as (λ _. List (ℕ × ℕ)) [ None ↦ (OUT_OF_RANGE, 1) ∷ [] | Some k ↦ [] ])
by_step None = refl
by_step (Some k) = refl

by_move : (o : Option ℕ) (back : Bool) → fails_if (is_none o || back) OUT_OF_RANGE 1
    ≡ (elim o as (λ _. List (ℕ × ℕ)) [ None ↦ (OUT_OF_RANGE, 1) ∷ [] | Some k ↦ fails_if back OUT_OF_RANGE 1 ])
by_move None back = refl
by_move (Some k) back = refl

-- by an operator
pub step_read : (m : Memory) (p : Option (ℕ × ℕ)) (n : ℤ) → step_fails_at p (size_of (cont_at m (container_in p))) n ≡ step_fails m p n
step_read m None n = refl
step_read m (Some p) n = by_step (step_of (size_of (cont_at m p.0)) p.1 n)

-- by a call
pub movable_read : (m : Memory) (p : Option (ℕ × ℕ)) (n : ℤ)
    → movable_fails_at p (size_of (cont_at m (container_in p))) (cont_at m (container_in p)).form n ≡ movable_fails m p n
movable_read m None n = refl
movable_read m (Some p) n = by_move (step_of (size_of (cont_at m p.0)) p.1 n) (is_moved_back (cont_at m p.0).form n)

-- one that has to stand on an element
pub dereference_read : (m : Memory) (p : Option (ℕ × ℕ)) (a : ℕ) → dereference_at p (size_of (cont_at m (container_in p))) a ≡ dereference_fails m p a
dereference_read m None a = refl
dereference_read m (Some p) a = refl
