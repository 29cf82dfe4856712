use Rattle.std.proofs.Common.{◌≡◌, ◌∷◌, ◌++◌, append_assoc, arith, refl}
use Rattle.std.proofs.lemmas.Result.{IfOk-equal}
use Rattle.sl_base.specs.declared.mark.Mark.TheVariants as m
use Rattle.sl_base.specs.declared.word.Word.TheVariants as w
use Rattle.sl_syntax.specs.TreeView.{expr_of}
use Rattle.sl_syntax.specs.Written.{words_of, written}
use Rattle.sl_syntax.proofs.ExprWords.{words-Call, words-LibraryCall, words-MemberCall, list_words, expr_words_of, arguments_words}
use Rattle.sl_syntax.proofs.WrittenLaws.{none_left_separated}
use Rattle.sl_syntax.proofs.write.expr.+expression.Goals as goal

pub write_expr-returns-in-Call : goal.write_expr-returns-in-Call
write_expr-returns-in-Call t c =
    let f = c.in-Call.function in
    let v = c.in-Call.arguments in
    let e : words_of (written (expr_of c.args.x.now)) ≡ w.Name f.name ∷ arguments_words v.items = rw c.in-Call.is (words-Call f v) in
    rw e (IfOk-equal c.write_call.result _ _ _ c.write_call.ensures (rw (c.name_word.ensures, c.deref.ensures.value) refl))

pub write_expr-returns-in-LibraryCall : goal.write_expr-returns-in-LibraryCall
write_expr-returns-in-LibraryCall t c =
    let f = c.in-LibraryCall.function in
    let v = c.in-LibraryCall.arguments in
    let e : words_of (written (expr_of c.args.x.now)) ≡ w.Lib f.name ∷ arguments_words v.items = rw c.in-LibraryCall.is (words-LibraryCall f v) in
    rw e
    (IfOk-equal c.write_call-in-LibraryCall.result _ _ _ c.write_call-in-LibraryCall.ensures
    (rw (c.lib.ensures, c.as_slice.ensures.value, c.deref-in-LibraryCall.ensures.value) refl))

pub write_expr-returns-in_ok-write_mark-in-MemberCall : goal.write_expr-returns-in_ok-write_mark-in-MemberCall
write_expr-returns-in_ok-write_mark-in-MemberCall t c =
    let x = c.in-MemberCall.object in
    let f = c.in-MemberCall.function in
    let v = c.in-MemberCall.arguments in
    let e : words_of (written (expr_of c.args.x.now)) ≡ expr_words_of x.value ++ w.Mark m.Dot ∷ w.Name f.name ∷ arguments_words v.items =
    rw c.in-MemberCall.is (words-MemberCall x f v) in
    let object = c.in_ok-write_expr-in-MemberCall.ensures in
    let dot = c.in_ok-write_mark-in-MemberCall.ensures in
    rw e
    (IfOk-equal c.write_call-in-MemberCall.result _ _ _ c.write_call-in-MemberCall.ensures
    (rw (dot, object, c.deref-in-MemberCall.ensures, c.name_word-in-MemberCall.ensures, c.deref-in-MemberCall-2.ensures.value) (simp append_assoc)))

pub write_list-returns : goal.write_list-returns
write_list-returns t c =
    let xs = c.args.xs.now in
    rw (list_words xs) (none_left_separated expr_words_of xs c.loop-i.i c.loop-i.out _ (omega arith) c.loop-i.invariant)
