-- What a change invalidates is among what was dropped after it.
use Rattle.std.proofs.Common.{◌≡◌, ◌++◌, ℕ, Bool, List, IsTrue, Some, slice_get, zero-add, ap, ◌∙◌}
use Rattle.sl_model.specs.Memory.Containers.{Grave, IsGrave, stamps, refers}
use Rattle.sl_model.specs.Memory.Edits.{buried}
use Rattle.sl_model.proofs.Buried.{killer_is, killer_before, buried_killer}
use Rattle.sl_model.proofs.laws.dropped_has_its_site.Goals as goal

-- a mark at a place that is invalidated is buried, with the site, whatever was dropped before
buried_there : (kill : ℕ → Bool) (site : ℕ) (ss : List ℕ) (gs : List Grave) (k s : ℕ) → slice_get ss k ≡ Some s → IsTrue (kill k)
    → IsGrave (buried kill site 0 ss ++ gs) s site
buried_there kill site ss gs k s stands killed = killer_is s (buried kill site 0 ss ++ gs) site
    (killer_before s (buried kill site 0 ss) gs site (buried_killer kill site 0 ss k s stands (ap kill (zero-add k) ∙ killed)))

pub returns-clause-stamps : goal.returns-clause-stamps
returns-clause-stamps c = λ ch m j k s site cont there stands killed. buried_there ch.kill site (stamps cont) m.graves k s stands killed

pub returns-clause-refers : goal.returns-clause-refers
returns-clause-refers c = λ ch m j k r site cont there stands killed. buried_there ch.lose site (refers cont) m.lost k r stands killed
