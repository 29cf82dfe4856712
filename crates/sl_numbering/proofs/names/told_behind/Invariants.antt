use Rattle.std.proofs.Common.{◌≡◌, ◌∷◌, map, take}
use Rattle.sl_syntax.specs.TreeView.{expr_of}
use Rattle.sl_typing.specs.Numbering.{told}
use Rattle.sl_numbering.proofs.names.told_behind.Given as goal

abbrev pub invariant-loop-x : goal.invariant-loop-x
invariant-loop-x l = l.names ≡ l.fn.first ∷ map (λ x. told l.scope (expr_of x)) (take l.x-index l.xs)
