-- The answer to a text that was read: a status and the bytes that go with it.
use Rattle.std.specs.Prelude.{◌≡◌, ℕ, List, [], ◌∷◌, Some, slice_get, codes}
use Rattle.sl_base.specs.declared.token.Token.{Token}
use Rattle.sl_syntax.specs.declared.subset.Text.{Text}
use Rattle.sl_syntax.specs.Begins.{Stops, words_in}
use Rattle.sl_syntax.specs.Tree.{Program}
use Rattle.sl_syntax.specs.SubsetView.{typed_of}
use Rattle.sl_model.specs.Reports.Covers.{Warning, Reports, HasMeaning}
use Rattle.sl_model.specs.Reports.Texts.{report_text, refusal_line}
use Rattle.sl_warnings.specs.Reports.{IsAscending}
use Rattle.sl_tool.specs.declared.status.Status.{Status}
use Rattle.sl_tool.specs.declared.status.Status.TheVariants.{Passed, Warned, Refused}
use Rattle.sl_tool.specs.Exactness.{IsExact, IsFounded}
use Rattle.sl_tool.specs.Subset.{IsInSubset, ReadsAs}
use Rattle.sl_model.specs.Reports.Refusals.{IsParsed, IsRefusal, stop_place}

-- A report on a text covers the trap of every run, and no run meets what has no meaning yet. It is empty exactly where no run traps;
-- where it isn't, the plainest run ends in the trap of its first warning. Its warnings are in order, and each is founded in the text.
pub record IsReport (p : Text) (r : List Warning) : Type 0 where
  pub reports : Reports (typed_of p) r
  pub meaning : HasMeaning (typed_of p)
  pub exact : IsExact (typed_of p) r
  pub in_order : IsAscending r
  pub founded : (i : ℕ) (w : Warning) → slice_get r i ≡ Some w → IsFounded p w

-- a text is passed exactly where its report is empty
abbrev pub status_of : List Warning → Status
status_of [] = Passed
status_of (w ∷ ws) = Warned

-- A text that is no program is refused by its line. The tokens of a program that isn't of the subset are refused as not built, where they stop
-- beginning one that is. To a text of the subset the answer is the text of a report on it.
pub data AnswerTo (file text : List ℕ) : Status → List ℕ → Type 0 where
  refused : (line : List ℕ) → IsRefusal file text line → AnswerTo file text Refused line
  not_built : (tokens : List Token) (program : Program) → IsParsed text tokens program → (k : ℕ) → Stops IsInSubset (words_in tokens) k
      → AnswerTo file text Refused (refusal_line file (stop_place text tokens k) (codes "not built"))
  reported : (tokens : List Token) (program : Program) → IsParsed text tokens program → (p : Text) → ReadsAs tokens p
      → (r : List Warning) → IsReport p r → AnswerTo file text (status_of r) (report_text file p.sites r)
