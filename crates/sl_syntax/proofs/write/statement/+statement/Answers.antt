use Rattle.std.proofs.Common.{◌≡◌, ◌∷◌, ◌++◌, [], append_assoc, codes, refl}
use Rattle.std.proofs.lemmas.Result.{IfOk-equal}
use Rattle.sl_base.specs.declared.mark.Mark.TheVariants as m
use Rattle.sl_base.specs.declared.word.Word.TheVariants as w
use Rattle.sl_syntax.specs.TreeView.{effect_of, stmt_of}
use Rattle.sl_syntax.specs.Written.{words_of, effect_written, stmt_written}
use Rattle.sl_syntax.proofs.StatementWords.{words-Effect}
use Rattle.sl_syntax.proofs.write.statement.+statement.Goals as goal

pub write_stmt-returns-in-Continue : goal.write_stmt-returns-in-Continue
write_stmt-returns-in-Continue t c =
    let e : words_of (stmt_written (stmt_of c.args.x.now)) ≡ w.Key (codes "continue") ∷ w.Mark m.Semicolon ∷ [] = rw c.in-Continue.is refl in
    rw e (IfOk-equal c.write_ended-in-Continue.result _ _ _ c.write_ended-in-Continue.ensures (rw c.key-in-Continue.ensures refl))

pub write_stmt-returns-in_ok-write_effect-in-Effect : goal.write_stmt-returns-in_ok-write_effect-in-Effect
write_stmt-returns-in_ok-write_effect-in-Effect t c =
    let x = c.in-Effect.effect in
    let e : words_of (stmt_written (stmt_of c.args.x.now)) ≡ words_of (effect_written (effect_of x)) ++ w.Mark m.Semicolon ∷ [] =
    rw c.in-Effect.is (words-Effect c.in-Effect.place x) in
    let k = c.in_ok-write_effect-in-Effect.ensures in
    rw e (IfOk-equal c.write_mark-in-Effect.result _ _ _ c.write_mark-in-Effect.ensures (rw k (simp append_assoc)))
