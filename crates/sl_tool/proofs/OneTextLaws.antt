-- A text has one answer alone.
use Rattle.std.proofs.Common.{◌≡◌, ◌≤◌, ℕ, List, [], ◌∷◌, ◌++◌, length, drop, refl, sym, ap, ◌∙◌, subst, arith, append_assoc}
use Rattle.std.proofs.Math.Seq.{drop-append_seam}
use Rattle.std.specs.List.{flat_map}
use Rattle.std.specs.Prelude.{codes}
use Rattle.sl_base.specs.declared.limits.TheConstants.{TEXT_BYTES}
use Rattle.sl_base.specs.declared.mark.Mark.TheVariants.{RightBrace}
use Rattle.sl_base.specs.declared.place.Place.{Place}
use Rattle.sl_base.specs.declared.token.Token.{Token}
use Rattle.sl_base.specs.declared.word.Word.{Word}
use Rattle.sl_base.specs.declared.word.Word.TheVariants.{Mark}
use Rattle.sl_lexer.proofs.CutLaws.{one_tokens, not_both, one_fault}
use Rattle.sl_grammar.proofs.ProgramLaws as grammar
use Rattle.sl_syntax.specs.Begins.{IsProgram, Stops, words_in}
use Rattle.sl_syntax.specs.declared.subset.Text.{Text}
use Rattle.sl_syntax.specs.Tree.{Program}
use Rattle.sl_syntax.proofs.BeginsLaws.{stops_once, not_whole}
use Rattle.sl_model.specs.Reports.Covers.{Warning}
use Rattle.sl_model.specs.Reports.Texts.{report_text, refusal_line}
use Rattle.sl_tool.specs.declared.status.Status.{Status}
use Rattle.sl_tool.specs.declared.status.Status.TheVariants.{Refused}
use Rattle.sl_tool.specs.Answers.{AnswerTo, refused, not_built, reported, IsReport, status_of}
use Rattle.sl_tool.specs.Subset.{IsInSubset}
use Rattle.sl_tool.specs.Subset.{Item, item_words, head_words, typed_text, ReadsAs, IsBuilt}
use Rattle.sl_model.specs.Reports.Refusals.{IsParsed, IsRefusal, by_length, by_token, by_grammar, stop_place}
use Rattle.sl_tool.proofs.SubsetProgram.{text_is_program}
use Rattle.sl_tool.proofs.ItemLaws.{begins_with, same_item, no_item_at_end}

-- the words of a body are those of no other statements
one_body : (is js : List Item) → flat_map item_words is ++ Mark RightBrace ∷ [] ≡ flat_map item_words js ++ Mark RightBrace ∷ [] → is ≡ js
one_body [] [] e = refl
one_body [] (j ∷ js) e =
    absurd (no_item_at_end _ j refl (begins_with _ _ j (e ∙ append_assoc (item_words j) (flat_map item_words js) (Mark RightBrace ∷ []))))
one_body (i ∷ is) [] e =
    absurd (no_item_at_end _ i refl (begins_with _ _ i (sym e ∙ append_assoc (item_words i) (flat_map item_words is) (Mark RightBrace ∷ []))))
one_body (i ∷ is) (j ∷ js) e =
    let left = append_assoc (item_words i) (flat_map item_words is) (Mark RightBrace ∷ []) in
    let right = e ∙ append_assoc (item_words j) (flat_map item_words js) (Mark RightBrace ∷ []) in
    let same : i ≡ j = same_item _ i j (begins_with _ _ i left) (begins_with _ _ j right) in
    let whole = subst (λ k. item_words i ++ (flat_map item_words is ++ Mark RightBrace ∷ []) ≡ item_words k
    ++ (flat_map item_words js ++ Mark RightBrace ∷ [])) (sym same) (sym left ∙ right) in
    let rest = sym (drop-append_seam (item_words i) (flat_map item_words is ++ Mark RightBrace ∷ [])) ∙ ap (λ l. drop (length (item_words i)) l) whole
    ∙ drop-append_seam (item_words i) (flat_map item_words js ++ Mark RightBrace ∷ []) in
    let others : is ≡ js = one_body is js rest in
    cc

one_reading : (tokens : List Token) (p q : Text) → ReadsAs tokens p → ReadsAs tokens q → p ≡ q
one_reading tokens p q a b =
    let body : flat_map item_words a.items ++ Mark RightBrace ∷ [] ≡ flat_map item_words b.items ++ Mark RightBrace ∷ [] =
    ap (λ l. drop (length head_words) l) (sym a.words ∙ b.words) in
    a.typed ∙ ap (typed_text tokens) (one_body a.items b.items body) ∙ sym b.typed

is_text : (tokens : List Token) (p : Text) → ReadsAs tokens p → IsInSubset (words_in tokens)
is_text tokens p reads = record { items = reads.items; are_items = reads.words; allowed = reads.allowed; few = reads.few }

-- tokens that are read don't stop
reads_or_stops : (tokens others : List Token) (p : Text) (k : ℕ) → tokens ≡ others → ReadsAs tokens p → Stops IsInSubset (words_in others) k → ⊥
reads_or_stops tokens others p k e reads stops = not_whole IsInSubset (words_in others) k stops
    (subst (λ ts. IsInSubset (words_in ts)) e (is_text tokens p reads))

one_stop : (P : List Word → Type 0) (text : List ℕ) (tokens others : List Token) (j k : ℕ) → tokens ≡ others → Stops P (words_in tokens) j
    → Stops P (words_in others) k
    → stop_place text tokens j ≡ stop_place text others k
one_stop P text tokens others j k e a b =
    let same : j ≡ k = stops_once P (words_in others) j k (subst (λ ts. Stops P (words_in ts) j) e a) b in
    ap (λ ts. stop_place text ts j) e ∙ ap (stop_place text others) same

-- the words of a program don't stop beginning one
program_or_stops : (tokens others : List Token) (k : ℕ) → tokens ≡ others → Stops IsProgram (words_in tokens) k → IsProgram (words_in others) → ⊥
program_or_stops tokens others k e stops whole = not_whole IsProgram (words_in others) k (subst (λ ts. Stops IsProgram (words_in ts) k) e stops) whole

-- a text has one program
pub one_program : (text : List ℕ) (ts us : List Token) (p q : Program) → IsParsed text ts p → IsParsed text us q → (ts ≡ us) × (p ≡ q)
one_program text ts us p q a b =
    let same : ts ≡ us = one_tokens text ts us a.cut b.cut in
    (same, grammar.one_program us p q a.shaped b.shaped (rw same at a.placed) b.placed)

-- a text has one line that refuses it
pub one_line : (file text x y : List ℕ) → IsRefusal file text x → IsRefusal file text y → x ≡ y
one_line file text _ _ (by_length long) (by_length also) = refl
one_line file text _ _ (by_length long) (by_token short rule at fault) = absurd (omega arith)
one_line file text _ _ (by_length long) (by_grammar short ts t k stops) = absurd (omega arith)
one_line file text _ _ (by_token short rule at fault) (by_length long) = absurd (omega arith)
one_line file text _ _ (by_token short rule at fault) (by_token also other there fault_too) =
    let same = one_fault text rule other at there fault fault_too in
    rw (same.0, same.1) refl
one_line file text _ _ (by_token short rule at fault) (by_grammar also ts t k stops) = absurd (not_both text ts rule at t fault)
one_line file text _ _ (by_grammar short ts t k stops) (by_length long) = absurd (omega arith)
one_line file text _ _ (by_grammar short ts t k stops) (by_token also rule at fault) = absurd (not_both text ts rule at t fault)
one_line file text _ _ (by_grammar short ts t j stops) (by_grammar also us u k others) =
    ap (λ (p : Place). refusal_line file p (codes "grammar")) (one_stop IsProgram text ts us j k (one_tokens text ts us t u) stops others)

-- a text that has a program isn't refused
pub parsed_or_refused : (file text line : List ℕ) (ts : List Token) (p : Program) → IsParsed text ts p → IsRefusal file text line → ⊥
parsed_or_refused file text _ ts p parsed (by_length long) = let short = parsed.short in omega arith
parsed_or_refused file text _ ts p parsed (by_token short rule at fault) = not_both text ts rule at parsed.cut fault
parsed_or_refused file text _ ts p parsed (by_grammar short us u k stops) =
    program_or_stops us ts k (one_tokens text us ts u parsed.cut) stops (grammar.is_program ts p parsed.shaped parsed.placed)

-- a text with a report isn't refused
status_or_refused : (r : List Warning) → status_of r ≡ Refused → ⊥
status_or_refused [] e = absurd cc
status_or_refused (w ∷ ws) e = absurd cc

one_answer : (file text line bytes : List ℕ) (first status : Status) → first ≡ Refused → AnswerTo file text first line
    → AnswerTo file text status bytes → (status ≡ Refused) × (bytes ≡ line)
one_answer file text _ _ _ _ e (refused x a) (refused y b) = (refl, one_line file text y x b a)
one_answer file text _ _ _ _ e (refused x a) (not_built ts p parsed k stops) = absurd (parsed_or_refused file text x ts p parsed a)
one_answer file text _ _ _ _ e (refused x a) (reported ts p parsed t reads r is) = absurd (parsed_or_refused file text x ts p parsed a)
one_answer file text _ _ _ _ e (not_built ts p parsed k stops) (refused y b) = absurd (parsed_or_refused file text y ts p parsed b)
one_answer file text _ _ _ _ e (not_built ts p parsed k stops) (not_built us q also j others) = (
  refl,
  ap (λ (at : Place). refusal_line file at (codes "not built"))
      (one_stop IsInSubset text us ts j k (one_tokens text us ts also.cut parsed.cut) others stops),
)
one_answer file text _ _ _ _ e (not_built ts p parsed k stops) (reported us q also t reads r is) =
    absurd (reads_or_stops us ts t k (one_tokens text us ts also.cut parsed.cut) reads stops)
one_answer file text _ _ _ _ e (reported ts p parsed t reads r is) other = absurd (status_or_refused r e)

-- a text that is refused has no other answer
pub one_refusal : (file text line bytes : List ℕ) (status : Status) → AnswerTo file text Refused line → AnswerTo file text status bytes
    → (status ≡ Refused) × (bytes ≡ line)
one_refusal file text line bytes status a b = one_answer file text line bytes Refused status refl a b

-- a text of the subset isn't refused by its line
built_or_refused : (file text line : List ℕ) (p : Text) → length text ≤ TEXT_BYTES → IsBuilt text p → IsRefusal file text line → ⊥
built_or_refused file text _ p short built (by_length long) = omega arith
built_or_refused file text _ p short (ts, t, reads) (by_token also rule at fault) = not_both text ts rule at t fault
built_or_refused file text _ p short (ts, t, reads) (by_grammar also us u k stops) =
    program_or_stops us ts k (one_tokens text us ts u t) stops (text_is_program (words_in ts) (is_text ts p reads))

-- the answer to a text of the subset is a report on it
pub is_reported : (file text bytes : List ℕ) (status : Status) (p : Text) → length text ≤ TEXT_BYTES → IsBuilt text p
    → AnswerTo file text status bytes
    → (r : List Warning) × IsReport p r × (status ≡ status_of r) × (bytes ≡ report_text file p.sites r)
is_reported file text _ _ p short built (refused x a) = absurd (built_or_refused file text x p short built a)
is_reported file text _ _ p short (ts, t, reads) (not_built us q parsed k stops) =
    absurd (reads_or_stops ts us p k (one_tokens text ts us t parsed.cut) reads stops)
is_reported file text _ _ p short (ts, t, reads) (reported us q parsed other also r is) =
    let same : other ≡ p = one_reading us other p also (subst (λ l. ReadsAs l p) (one_tokens text ts us t parsed.cut) reads) in
    (r, rw same at is, refl, ap (λ (x : Text). report_text file x.sites r) same)
