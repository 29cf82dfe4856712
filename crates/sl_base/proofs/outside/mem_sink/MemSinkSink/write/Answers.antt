use Rattle.std.proofs.Common.{inl, inr, refl, arith}
use Rattle.sl_base.proofs.Names.{listed}
use Rattle.sl_base.proofs.outside.mem_sink.MemSinkSink.write.Goals.{then-left-eq0-via-then-left-eq0, then-left-eq0-via-else-left-eq0+then-contains}
use Rattle.sl_base.proofs.outside.mem_sink.MemSinkSink.write.Goals as goal

pub returns-then-left-eq0-clause-fails : goal.returns-then-left-eq0-clause-fails
returns-then-left-eq0-clause-fails c = (
  λ _. elim c.then-left-eq0.branch [
    | then-left-eq0-via-then-left-eq0 w ↦ inr (omega (arith, c.args.self.now.has_room, w.if-left-eq0.true, c.len.ensures))
    | then-left-eq0-via-else-left-eq0+then-contains w ↦ inl
        ((listed _ _ _ (rw w.deref.ensures.value at w.contains.ensures.cases)).0 w.if-contains.true)
  ],
  λ _. refl,
)
