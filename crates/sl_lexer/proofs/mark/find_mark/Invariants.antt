-- No row so far has these bytes: the answer is that of the rows that are left.
use Rattle.std.proofs.Common.{◌≡◌, drop, map}
use Rattle.sl_base.specs.Marks.{mark_in}
use Rattle.sl_lexer.proofs.mark.find_mark.Given as goal

abbrev pub invariant-loop-text : goal.invariant-loop-text
invariant-loop-text l = mark_in (map (λ m. (m.0.now, m.1)) (drop l.text-index l.rows)) l.fn.bytes ≡ mark_in
    (map (λ m. (m.0.now, m.1)) l.rows) l.fn.bytes
