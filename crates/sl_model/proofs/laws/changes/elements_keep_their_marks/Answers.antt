-- The changed container has the marks of what it took and kept, and none of those that it dropped.
use Rattle.std.proofs.Common.{◌≡◌, ◌∙◌, ℕ, ◌+◌, List, Bool, IsTrue, Some, slice_get, ap, ◌++◌, zero-add}
use Rattle.sl_model.specs.Memory.Containers.{Grave, IsGrave, size, stamps, refers}
use Rattle.sl_model.specs.Memory.Edits.{buried, changed}
use Rattle.sl_model.proofs.Buried.{killer_is, killer_before, buried_killer}
use Rattle.sl_model.proofs.After.{get-after-own}
use Rattle.sl_model.proofs.Moved.{in_cont, refer_in_cont, iterator-stays, reference-stays, end-stays, stamp-gone, refer-gone}
use Rattle.sl_model.proofs.Columns.{rebuilt-size}
use Rattle.sl_model.proofs.laws.changes.elements_keep_their_marks.Goals as goal

-- a mark at a place that is invalidated is buried, with the site, whatever was dropped before
buried_there : (kill : ℕ → Bool) (site : ℕ) (ss : List ℕ) (gs : List Grave) (k s : ℕ) → slice_get ss k ≡ Some s → IsTrue (kill k)
    → IsGrave (buried kill site 0 ss ++ gs) s site
buried_there kill site ss gs k s stands killed = killer_is s (buried kill site 0 ss ++ gs) site
    (killer_before s (buried kill site 0 ss) gs site (buried_killer kill site 0 ss k s stands (ap kill (zero-add k) ∙ killed)))

pub returns-clause-iterators : goal.returns-clause-iterators
returns-clause-iterators t = λ ch m j c site there h k s from within lives at. record {
  cont = changed m.fresh ch c;
  there = get-after-own ch m j c site there;
  stands = iterator-stays ch m.fresh (m.fresh + size c + 1) c c h k s from within lives (in_cont m j k s c there at);
}

pub returns-clause-references : goal.returns-clause-references
returns-clause-references t = λ ch m j c site there h k r from lives at. record {
  cont = changed m.fresh ch c;
  there = get-after-own ch m j c site there;
  stands = reference-stays ch m.fresh (m.fresh + size c + 1) c c h k r from lives (refer_in_cont m j k r c there at);
}

pub returns-clause-end : goal.returns-clause-end
returns-clause-end t = λ ch m j c site there s lives at. record {
  cont = changed m.fresh ch c;
  there = get-after-own ch m j c site there;
  stands = rw (← rebuilt-size ch m.fresh c c (m.fresh + size c + 1))
      (end-stays ch m.fresh (m.fresh + size c + 1) c c s lives (in_cont m j (size c) s c there at));
}

pub returns-clause-invalidated : goal.returns-clause-invalidated
returns-clause-invalidated t = λ ch m j c site sound there none k s dies at. (
  buried_there ch.kill site (stamps c) m.graves k s (in_cont m j k s c there at) dies,
  stamp-gone ch m j c site sound there none k s dies at,
)

pub returns-clause-lost : goal.returns-clause-lost
returns-clause-lost t = λ ch m j c site sound there none k r dies at. (
  buried_there ch.lose site (refers c) m.lost k r (refer_in_cont m j k r c there at) dies,
  refer-gone ch m j c site sound there none k r dies at,
)
