-- The line of the code's end is that of each end that it tells; and the text of an output by cases.
use Rattle.std.proofs.Common.{◌≡◌, ℕ, List, [], ◌∷◌, ◌++◌, ap, ap₂, sym, ◌∙◌, append_assoc}
use Rattle.std.proofs.Common.{codes, decimal, ◌==◌}
use Rattle.std.proofs.lemmas.Bool.{cond-false, ne_eqb}
use Rattle.sl_base.specs.declared.place.Place.{Place}
use Rattle.sl_syntax.specs.Typed.{Typed}
use Rattle.sl_model.specs.declared.end.End.{End as EndCode}
use Rattle.sl_model.specs.declared.end.End.TheVariants as e
use Rattle.sl_model.specs.declared.finish.Finish.{Finish as FinishCode}
use Rattle.sl_model.specs.Runs.Ends.{Trap, End, Finish, Output}
use Rattle.sl_model.specs.Runs.EndView.{IsEnd, IsTrap, IsFinish}
use Rattle.sl_model.specs.Reports.EndText.{end_line, end_text, run_line, trap_text, with_line_end, lost_line}
use Rattle.sl_model.specs.declared.trap_info.TrapInfo.{TrapInfo}
use Rattle.sl_model.proofs.EndViews.{info_of-only}
use Rattle.sl_end_text.specs.Means.Lines.{info_text, code_line}

-- the text of a failed need is that of the trap that it tells
info_told : (p : Typed) (i : TrapInfo) (t : Trap) → IsTrap p.names i t → info_text p.sites i ≡ trap_text p t
info_told p i t h = ap (info_text p.sites) (info_of-only p.names i t h)

line_told : (p : Typed) (a : EndCode) (end : End) → IsEnd p.names a end → code_line p.sites a ≡ end_line p end
line_told p (e.Done z) end h = sym (ap (end_line p) h)
line_told p (e.Trap i) end (t, same, h) = ap (λ x. run_line (codes "trap at " ++ x)) (info_told p i t h) ∙ sym (ap (end_line p) same)
line_told p e.OutOfSteps end h = sym (ap (end_line p) h)
line_told p (e.Language place why) end h = sym (ap (end_line p) h)
line_told p (e.Thrown place) end h = sym (ap (end_line p) h)

-- the text of the code's end and output is that of each run that they tell
pub text_told : (p : Typed) (sites : List Place) (c : FinishCode) (f : Finish) → p.sites ≡ sites → IsFinish p.names c f
    → (with_line_end c.output.bytes ++ lost_line c.output.lost) ++ code_line sites c.end ≡ end_text p f
text_told p sites c f same h =
    append_assoc (with_line_end c.output.bytes) (lost_line c.output.lost) (code_line sites c.end)
    ∙ ap₂ (λ (o : Output) line. with_line_end o.bytes ++ (lost_line o.lost ++ line)) h.output
    (ap (λ s. code_line s c.end) (sym same) ∙ line_told p c.end f.end h.end)

-- parts in one row
pub grouped : (out head text end : List ℕ) → ((out ++ head) ++ text) ++ end ≡ out ++ (head ++ (text ++ end))
grouped out head text end = simp append_assoc

-- the line of bytes that are lost, where some are
pub lost_line-some : (out : List ℕ) (lost : ℕ) → (lost ≡ 0 → ⊥)
    → ((out ++ codes "run: output cut, ") ++ decimal lost) ++ (codes " bytes lost" ++ 10 ∷ []) ≡ out ++ lost_line lost
lost_line-some out lost h =
    grouped out (codes "run: output cut, ") (decimal lost) (codes " bytes lost" ++ 10 ∷ [])
    ∙ ap (λ l. out ++ l) (ap (λ l. codes "run: output cut, " ++ l) (sym (append_assoc (decimal lost) (codes " bytes lost") (10 ∷ [])))
    ∙ sym (cond-false (lost == 0) [] (run_line (codes "output cut, " ++ (decimal lost ++ codes " bytes lost"))) (ne_eqb lost 0 h)))

-- the parts of a failed need in one row
pub regrouped : (out place a kind b call c who sites : List ℕ)
    → (((((((out ++ place) ++ a) ++ kind) ++ b) ++ call) ++ c) ++ who) ++ sites
    ≡ out ++ (place ++ (a ++ (kind ++ (b ++ (call ++ (c ++ (who ++ sites)))))))
regrouped out place a kind b call c who sites = simp append_assoc
