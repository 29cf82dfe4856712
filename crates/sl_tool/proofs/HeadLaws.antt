-- Where the words of a text stop, before its body and in it.
use Rattle.std.proofs.Common.{◌≡◌, ℕ, ◌+◌, ◌<◌, ◌≤◌, ◌⊎◌, inl, inr, List, [], ◌∷◌, ◌++◌, length, drop, refl, sym, ap, ◌∙◌, subst, append-nil, arith}
use Rattle.std.proofs.lemmas.Bool.{cases_lt}
use Rattle.std.proofs.Math.ListN.{drop_of_length-le}
use Rattle.std.proofs.Math.Seq.{drop-append_seam}
use Rattle.std.specs.List.{flat_map}
use Rattle.sl_base.specs.declared.limits.TheConstants.{STATEMENTS}
use Rattle.sl_base.specs.declared.mark.Mark.TheVariants.{RightBrace}
use Rattle.sl_base.specs.declared.word.Word.{Word}
use Rattle.sl_base.specs.declared.word.Word.TheVariants.{Mark}
use Rattle.sl_syntax.specs.Begins.{Begins, Stops}
use Rattle.sl_tool.specs.Subset.{IsInSubset}
use Rattle.sl_tool.specs.Subset.{item_words, head_words, no_scope, Scope}
use Rattle.sl_tool.specs.Means.Reading.{IsBody, StopsInHead}
use Rattle.sl_tool.specs.Means.Slots.{Fit, head_slots}
use Rattle.sl_tool.proofs.SlotLaws.{FitAll, HaveWords, fit_whole, fit_inside, fit_all_length, stops_in_slots}
use Rattle.sl_tool.proofs.StopHereLaws.{empty_body}
use Rattle.sl_syntax.proofs.BeginsLaws.{behind_front, stops_at_end}

-- words that fit the head begin with it
head_of_fit : (s : Scope) (ws : List Word) → FitAll s head_slots ws → ws ≡ head_words ++ drop (length head_words) ws
head_of_fit s (a ∷ b ∷ c ∷ d ∷ e ∷ ws) (p, (q, (r, (t, (u, rest))))) = cc
head_of_fit s ws h = absurd (omega (arith, fit_all_length s head_slots ws h))

head_fits : (s : Scope) (rest : List Word) → FitAll s head_slots (head_words ++ rest)
head_fits s rest = (refl, (refl, (refl, (refl, (refl, tt)))))

have_head : (s : Scope) → HaveWords s head_slots
have_head s = ((_, refl), ((_, refl), ((_, refl), ((_, refl), ((_, refl), tt)))))

-- a body behind the head is a text
text_of_body : (ws : List Word) → IsBody no_scope STATEMENTS ws → IsInSubset (head_words ++ ws)
text_of_body ws body = record { items = body.items; are_items = ap (λ l. head_words ++ l) body.are_items; allowed = body.allowed; few = body.few }

body_of_text : (ws : List Word) → IsInSubset (head_words ++ ws) → IsBody no_scope STATEMENTS ws
body_of_text ws text = record {
  items = text.items;
  are_items = sym (drop-append_seam head_words ws) ∙ ap (λ l. drop (length head_words) l) text.are_items
      ∙ drop-append_seam head_words (flat_map item_words text.items ++ Mark RightBrace ∷ []);
  allowed = text.allowed;
  few = text.few;
}

text_begins : Begins IsInSubset []
text_begins = (head_words ++ Mark RightBrace ∷ [], text_of_body (Mark RightBrace ∷ []) (empty_body no_scope STATEMENTS))

-- what stops in the body stops in the text
pub stops_behind_head : (ws : List Word) (k : ℕ) → Stops (IsBody no_scope STATEMENTS) ws k → Stops IsInSubset (head_words ++ ws)
    (length head_words + k)
stops_behind_head ws k stops = behind_front IsInSubset (IsBody no_scope STATEMENTS) head_words ws k text_of_body body_of_text stops

-- a head alone begins a text
closes_head : (front : List Word) → FitAll no_scope head_slots front → length front ≡ length head_slots → Begins IsInSubset front
closes_head front all long =
    let nothing : drop (length head_words) front ≡ [] = drop_of_length-le front {i = length head_words} (omega arith) in
    let is : head_words ≡ front = sym (append-nil head_words) ∙ ap (λ l. head_words ++ l) (sym nothing) ∙ sym (head_of_fit no_scope front all) in (
      Mark RightBrace ∷ [],
      subst (λ l. IsInSubset (l ++ Mark RightBrace ∷ [])) is
          (text_of_body (Mark RightBrace ∷ []) (empty_body no_scope STATEMENTS)),
    )

pub stops_in_head : (ws : List Word) (k : ℕ) → Fit no_scope head_slots ws k → StopsInHead ws k
stops_in_head [] k fit none =
    let e : 0 ≡ k = omega (arith, fit_inside no_scope head_slots [] k fit) in
    subst (λ n. Stops IsInSubset [] n) e (stops_at_end IsInSubset text_begins (λ text. let e = text.are_items in absurd cc))
stops_in_head (w ∷ ws) k fit none =
    stops_in_slots IsInSubset no_scope head_slots w ws k (have_head no_scope) closes_head
    (λ rest text. subst (FitAll no_scope head_slots) (sym text.are_items)
    (head_fits no_scope (flat_map item_words text.items ++ Mark RightBrace ∷ []))) fit (by_test (cases_lt k (length head_slots)))
  where
    by_test : (k < length head_slots) ⊎ (length head_slots ≤ k) → k < length head_slots
    by_test (inl h) = h
    by_test (inr h) =
        absurd (none (drop (length head_words) (w ∷ ws)) (head_of_fit no_scope (w ∷ ws) (fit_whole no_scope head_slots (w ∷ ws) k fit h)))
