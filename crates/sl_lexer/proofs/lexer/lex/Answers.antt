-- The loop of the lexer: one piece more, and the answers.
use Rattle.std.proofs.Common.{◌≡◌, ◌+◌, ◌-◌, ◌<◌, ◌≤◌, ◌==◌, ◌&&◌, length, take, drop, Ok, Err, inl, sym, ap, ◌∙◌, subst, arith}
use Rattle.std.proofs.lemmas.List.{length-take, length-drop}
use Rattle.std.proofs.lemmas.Result.{err_from_is_err_and}
use Rattle.sl_base.specs.Places.{IsAfter}
use Rattle.sl_lexer.proofs.lexer.lex.Goals as goal
use Rattle.sl_lexer.proofs.lexer.lex.Goals.{in-Some+in_ok-push, in_default, In_ok-word, After-drop-tokens-inside}
use Rattle.sl_lexer.specs.declared.error.LexErr.{LexErr}
use Rattle.sl_lexer.proofs.CutLaws.{one_tokens, not_both}
use Rattle.sl_lexer.proofs.LexLaws.{Answers, IsTold, answers_at, next-within, next_blank_piece, next_token, take_more_bytes, place-small, whole_text}
use Rattle.sl_lexer.proofs.LexLaws.{told_fault, err_fault, err_tokens, err_only_fault}

-- the error of a piece tells the fault
told : (c : After-drop-tokens-inside) → (e : LexErr) × (c.from_residual.result ≡ Err e) × IsTold c.args.text.now e
told c =
    let text = c.args.text.now in
    let l = c.loop-done in
    let e = c.in_err-word.field-0.0 in
    let p = err_from_is_err_and c.from_residual.result c.from_residual.ensures.1 in
    let opens = c.opens_directive-opens.ensures ∙ ap (λ n. (n == 0) && l.blank_line) c.len.ensures in
    let answers = subst (λ o. Answers text o l.done (Err e)) opens
    (answers_at text c.opens_directive-opens.result l.done (Err e) c.in_err-word.ensures) in
    let here = told_fault text l.tokens l.done l.place l.blank_line e l.invariant (omega arith) answers in
    (p.0, p.1, subst (IsTold text) (sym p.2) here)

pub returns-in_err-word-clause-fault : goal.returns-in_err-word-clause-fault
returns-in_err-word-clause-fault c = let t = told c in rw t.1 (err_fault c.args.text.now t.0 t.2)

pub returns-in_err-word-clause-only_tokens : goal.returns-in_err-word-clause-only_tokens
returns-in_err-word-clause-only_tokens c = let t = told c in rw t.1 (err_tokens c.args.text.now t.0 t.2)

pub returns-in_err-word-clause-only_fault : goal.returns-in_err-word-clause-only_fault
returns-in_err-word-clause-only_fault c = let t = told c in rw t.1 (err_only_fault c.args.text.now t.0 t.2)

next_front : (c : In_ok-word) → (c.loop-done.done < length c.args.text.now)
    × Answers c.args.text.now ((length c.loop-done.tokens == 0) && c.loop-done.blank_line) c.loop-done.done (Ok c.in_ok-word.field-0)
next_front c =
    let text = c.args.text.now in
    let l = c.loop-done in
    let f = c.in_ok-word.field-0 in
    let opens = c.opens_directive-opens.ensures ∙ ap (λ n. (n == 0) && l.blank_line) c.len.ensures in
    (omega arith, subst (λ o. Answers text o l.done (Ok f)) opens (answers_at text c.opens_directive-opens.result l.done (Ok f) c.in_ok-word.ensures))

within : (c : In_ok-word) → (0 < c.in_ok-word.field-0.len) × (c.loop-done.done + c.in_ok-word.field-0.len ≤ length c.args.text.now)
within c =
    let l = c.loop-done in
    let n = next_front c in
    next-within c.args.text.now l.tokens l.done l.place l.blank_line c.in_ok-word.field-0 l.invariant n.0 n.1

pub overflow_add-end : goal.overflow_add-end
overflow_add-end c = omega (arith, within (goal.at.overflow_add-end c).In_ok-word)

pub slice_bounds-after-end : goal.slice_bounds-after-end
slice_bounds-after-end c = (within (goal.at.slice_bounds-after-end c).In_ok-word).1

pub after-place-requires-clause-lines : goal.after-place-requires-clause-lines
after-place-requires-clause-lines c =
    let text = c.args.text.now in
    let l = c.loop-done in
    omega (
      arith,
      place-small (take l.done text) l.place l.invariant.after,
      length-take l.done text,
      length-drop l.done text,
      length-take (l.done + c.in_ok-word.field-0.len - l.done) (drop l.done text),
      within (goal.at.after-place-requires-clause-lines c).In_ok-word,
    )

pub after-place-requires-clause-cols : goal.after-place-requires-clause-cols
after-place-requires-clause-cols c =
    let text = c.args.text.now in
    let l = c.loop-done in
    omega (
      arith,
      place-small (take l.done text) l.place l.invariant.after,
      length-take l.done text,
      length-drop l.done text,
      length-take (l.done + c.in_ok-word.field-0.len - l.done) (drop l.done text),
      within (goal.at.after-place-requires-clause-cols c).In_ok-word,
    )

pub loop-done-smaller : goal.loop-done-smaller
loop-done-smaller c = omega (arith, within (goal.at.loop-done-smaller c).In_ok-word)

pub loop-done-preserved : goal.loop-done-preserved
loop-done-preserved c =
    let text = c.args.text.now in
    let l = c.loop-done in
    let f = c.in_ok-word.field-0 in
    let n = next_front (goal.at.loop-done-preserved c).In_ok-word in
    let place = c.after-place.result in
    let blank_line = c.blank_line_after-blank_line.result in
    let after : IsAfter (take (l.done + f.len) text) place =
    subst (λ front. IsAfter front place) (take_more_bytes text l.done f.len) (c.after-place.ensures (take l.done text) l.invariant.after) in
    elim c.match-word.branch [
      | in-Some+in_ok-push w ↦
          rw (w.tokens-is, w.in_ok-push.ensures.pushed)
          (next_token text l.tokens l.done l.place l.blank_line f l.invariant n.0 n.1 place blank_line after c.blank_line_after-blank_line.ensures
          w.in-Some.word w.in-Some.is)
      | in_default w ↦
          rw w.tokens-is
          (next_blank_piece text l.tokens l.done l.place l.blank_line f l.invariant n.0 n.1 place blank_line after
          c.blank_line_after-blank_line.ensures w.in_default.is)
    ]

pub returns-clause-only_tokens : goal.returns-clause-only_tokens
returns-clause-only_tokens c =
    let text = c.args.text.now in
    let l = c.loop-done in
    let whole = whole_text text l.tokens l.done l.place l.blank_line l.invariant (omega arith) in
    λ tokens t. inl (ap (λ ts. Ok ts) (one_tokens text l.tokens tokens whole t))

pub returns-clause-only_fault : goal.returns-clause-only_fault
returns-clause-only_fault c =
    let text = c.args.text.now in
    let l = c.loop-done in
    let whole = whole_text text l.tokens l.done l.place l.blank_line l.invariant (omega arith) in
    λ rule at f. absurd (not_both text l.tokens rule at whole f)
