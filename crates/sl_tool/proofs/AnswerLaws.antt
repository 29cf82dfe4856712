-- Answers to a text that was read are those to all that was left of the file.
use Rattle.std.proofs.Common.{◌≡◌, ◌≤◌, ◌++◌, ℕ, List, length, Option, Some, None, sym, ap, ◌∙◌, arith, length-append, append-nil, Result, Ok, Err}
use Rattle.std.proofs.Common.{IfOk}
use Rattle.std.specs.declared.alloc.AllocError.{AllocError}
use Rattle.sl_base.specs.declared.limits.TheConstants.{TEXT_BYTES}
use Rattle.sl_base.specs.declared.token.Token.{Token}
use Rattle.sl_base.specs.Outside.{IsRead}
use Rattle.sl_syntax.specs.declared.subset.Text.{Text}
use Rattle.sl_syntax.specs.Tree.{Program}
use Rattle.sl_model.specs.Reports.Covers.{Warning}
use Rattle.sl_model.specs.Reports.Texts.{report_text}
use Rattle.sl_tool.specs.declared.status.Status.{Status}
use Rattle.sl_tool.specs.Answers.{AnswerTo, refused, not_built, reported, IsReport, status_of}
use Rattle.sl_tool.specs.Subset.{ReadsAs}
use Rattle.sl_model.specs.Reports.Refusals.{IsParsed, by_length, by_token, by_grammar}

-- the report on a text of the subset is its answer
pub AnswerTo-report : (file text : List ℕ) (tokens : List Token) (program : Program) (p : Text) (result : Result (Status × List ℕ) AllocError)
    → IsParsed text tokens program → ReadsAs tokens p
    → IfOk result (λ a. (r : List Warning) × IsReport p r × (a.0 ≡ status_of r) × (a.1 ≡ report_text file p.sites r))
    → IfOk result (λ a. AnswerTo file text a.0 a.1)
AnswerTo-report file text tokens program p (Ok a) parsed reads h = rw (h.2, h.3) (reported tokens program parsed p reads h.0 h.1)
AnswerTo-report file text tokens program p (Err e) parsed reads h = tt

-- a text that isn't too long was read whole
read_whole : (text all rest : List ℕ) → IsRead TEXT_BYTES text (Some all) (Some rest) → length text ≤ TEXT_BYTES → text ≡ all
read_whole text all rest read short = sym (read.consumed ∙ ap (λ l. text ++ l) (read.whole short) ∙ append-nil text)

same_text : (file text all : List ℕ) (status : Status) (bytes : List ℕ) → text ≡ all → AnswerTo file text status bytes
    → AnswerTo file all status bytes
same_text file text all status bytes e h = rw e at h

-- the answer to what was read is the answer to all that was left
told_at : (file text all rest : List ℕ) (status : Status) (bytes : List ℕ) → IsRead TEXT_BYTES text (Some all) (Some rest)
    → AnswerTo file text status bytes → AnswerTo file all status bytes
told_at file text all rest _ _ read (refused _ (by_length long)) =
    refused _ (by_length (omega (arith, length-append text rest, ap length read.consumed)))
told_at file text all rest _ _ read (refused _ (by_token short rule at fault)) = same_text file text all _ _ (read_whole text all rest read short)
    (refused _ (by_token short rule at fault))
told_at file text all rest _ _ read (refused _ (by_grammar short ts t k stops)) = same_text file text all _ _ (read_whole text all rest read short)
    (refused _ (by_grammar short ts t k stops))
told_at file text all rest _ _ read (not_built ts q parsed k stops) = same_text file text all _ _ (read_whole text all rest read parsed.short)
    (not_built ts q parsed k stops)
told_at file text all rest _ _ read (reported ts q parsed p reads r report) = same_text file text all _ _ (read_whole text all rest read parsed.short)
    (reported ts q parsed p reads r report)

same_all : (file x all : List ℕ) (status : Status) (bytes : List ℕ) → Some x ≡ Some all → AnswerTo file x status bytes
    → AnswerTo file all status bytes
same_all file x all status bytes e h = let q : x ≡ all = cc in rw q at h

pub told : (file text all : List ℕ) (left left' : Option (List ℕ)) (status : Status) (bytes : List ℕ) → IsRead TEXT_BYTES text left left'
    → AnswerTo file text status bytes → left ≡ Some all → AnswerTo file all status bytes
told file text all (Some x) (Some rest) status bytes read h e = same_all file x all status bytes e (told_at file text x rest status bytes read h)
told file text all (Some x) None status bytes read h e = absurd read.consumed
told file text all None left' status bytes read h e = absurd cc
