use Rattle.std.proofs.Common.{◌≡◌, ◌∙◌, arith, subst}
use Rattle.sl_syntax.specs.Begins.{words_in}
use Rattle.sl_tool.specs.Means.Reading.{scope_of}
use Rattle.sl_tool.specs.Means.Slots.{IsPossible}
use Rattle.sl_tool.proofs.ItemLaws.{front}
use Rattle.sl_tool.proofs.KindLaws.{one_kind}
use Rattle.sl_tool.proofs.StopHereLaws.{in_none, in_brace, in_other, in_item}
use Rattle.sl_tool.proofs.reading.stopping.stop_in_body.Goals as goal

pub returns-in-empty : goal.returns-in-empty
returns-in-empty c = in_none _ _ (omega arith)

pub returns-in-len1-up : goal.returns-in-len1-up
returns-in-len1-up c = in_brace _ _ _ _ (front c.args.tokens.now 0 c.brace-item.result (omega arith) c.brace-item.is)
    (c.is_mark.ensures.0 c.if-is_mark.true)

pub returns-in-Some : goal.returns-in-Some
returns-in-Some c =
    in_item (scope_of c.args.reader.now) (words_in c.args.tokens.now) c.first-item.result.word _ c.in-Some.kind c.fitting.result
    (front c.args.tokens.now 0 c.first-item.result (omega arith) c.first-item.is)
    c.in-Some.ensures
    (c.is_possible.ensures.0 c.if-is_possible.true)
    (rw c.slots_of.ensures at c.fitting.ensures)

pub returns-in_default : goal.returns-in_default
returns-in_default c =
    let at_brace = front c.args.tokens.now 0 c.brace-item.result (omega arith) c.brace-item.is in
    let at_first = front c.args.tokens.now 0 c.first-item.result (omega arith) c.first-item.is in
    let same_first : c.brace-item.result.word ≡ c.first-item.result.word = cc in
    in_other (scope_of c.args.reader.now) (words_in c.args.tokens.now) c.first-item.result.word _
    at_first
    (λ e. let is = c.is_mark.ensures.1 (same_first ∙ e) in absurd cc)
    (λ kind begins possible.
    let same = one_kind c.first-item.result.word kind c.in-Some.kind begins c.in-Some.ensures in
    let is = c.is_possible.ensures.1 (subst (IsPossible (scope_of c.args.reader.now)) same possible) in
    absurd cc)

pub returns-in_default-2 : goal.returns-in_default-2
returns-in_default-2 c =
    let at_brace = front c.args.tokens.now 0 c.brace-item.result (omega arith) c.brace-item.is in
    let at_first = front c.args.tokens.now 0 c.first-item.result (omega arith) c.first-item.is in
    let same_first : c.brace-item.result.word ≡ c.first-item.result.word = cc in
    in_other (scope_of c.args.reader.now) (words_in c.args.tokens.now) c.first-item.result.word _
    at_first
    (λ e. let is = c.is_mark.ensures.1 (same_first ∙ e) in absurd cc)
    (λ kind begins possible. c.in_default.ensures kind begins)
