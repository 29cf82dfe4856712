-- No row so far has these bytes: the answer is that of the rows that are left.
use Rattle.std.proofs.Common.{◌≡◌, drop, map}
use Rattle.sl_syntax.specs.TokenKinds.{kind_in}
use Rattle.sl_syntax.proofs.token_kind.find_kind.Given as goal

abbrev pub invariant-loop-text : goal.invariant-loop-text
invariant-loop-text l =
    kind_in (map (λ m. (m.0.now, m.1)) (drop l.text-index l.rows)) l.instead l.fn.bytes
    ≡ kind_in (map (λ m. (m.0.now, m.1)) l.rows) l.instead l.fn.bytes
