-- The words of tokens, one by one, and statements that begin them.
use Rattle.std.proofs.Common.{◌≡◌, ℕ, suc, ◌+◌, ◌<◌, List, [], ◌∷◌, ◌++◌, length, get_or, drop, Option, Some, None, MatchOption, Result, Ok, Err}
use Rattle.std.proofs.Common.{IfOk, subst, add-one, sym, ap, ◌∙◌}
use Rattle.std.proofs.Math.ListN.{get_or-map, length-map}
use Rattle.std.proofs.Math.Seq.{drop-cons, drop-append_seam}
use Rattle.std.specs.declared.alloc.AllocError.{AllocError}
use Rattle.sl_base.specs.declared.mark.Mark.TheVariants.{RightBrace}
use Rattle.sl_base.specs.declared.token.Token.{Token}
use Rattle.sl_base.specs.declared.word.Word.{Word}
use Rattle.sl_base.specs.declared.word.Word.TheVariants.{Mark}
use Rattle.sl_tool.specs.declared.reading.reader.Reader.{Reader}
use Rattle.sl_syntax.specs.Begins.{words_in}
use Rattle.sl_tool.specs.Subset.{Item, vector_item, push_back_item, begin_item, dereference_item, item_words, IsAllowed}
use Rattle.sl_tool.specs.Means.Reading.{BeginsWith, IsTaken, TakesItem, scope_of}

-- the words from the token k on
pub front : (ts : List Token) (k : ℕ) (t : Token) → k < length ts → t ≡ get_or ts k t → drop k (words_in ts) ≡ t.word ∷ drop (k + 1) (words_in ts)
front ts k t h e = rw add-one (
    drop-cons (words_in ts) k t.word (rw length-map h)
    ∙ ap (λ w. w ∷ drop (suc k) (words_in ts)) (get_or-map (λ (t : Token). t.word) ts k t ∙ ap (λ (t : Token). t.word) (sym e))
    )

-- what follows in each of the two cases of an answer
pub carried : {T N M : Type 0} {P Q : T → Type 0} (r : Option T) → MatchOption r N P → (N → M) → ((x : T) → P x → Q x) → MatchOption r M Q
carried None h none some = none h
carried (Some x) h none some = some x h

-- words that are a statement's and others begin with it
pub begins_with : (words ws : List Word) (i : Item) → words ≡ item_words i ++ ws → BeginsWith words i
begins_with words ws i e = e ∙ ap (λ l. item_words i ++ l) (sym (ap (λ l. drop (length (item_words i)) l) e ∙ drop-append_seam (item_words i) ws))

-- no words begin with two statements
pub same_item : (words : List Word) (i j : Item) → BeginsWith words i → BeginsWith words j → i ≡ j
same_item words (vector_item a) (vector_item b) p q = cc
same_item words (vector_item a) (push_back_item b n) p q = cc
same_item words (vector_item a) (begin_item b c) p q = cc
same_item words (vector_item a) (dereference_item b c) p q = cc
same_item words (push_back_item a m) (vector_item b) p q = cc
same_item words (push_back_item a m) (push_back_item b n) p q = cc
same_item words (push_back_item a m) (begin_item b c) p q = cc
same_item words (push_back_item a m) (dereference_item b c) p q = cc
same_item words (begin_item a b) (vector_item c) p q = cc
same_item words (begin_item a b) (push_back_item c n) p q = cc
same_item words (begin_item a b) (begin_item c d) p q = cc
same_item words (begin_item a b) (dereference_item c d) p q = cc
same_item words (dereference_item a b) (vector_item c) p q = cc
same_item words (dereference_item a b) (push_back_item c n) p q = cc
same_item words (dereference_item a b) (begin_item c d) p q = cc
same_item words (dereference_item a b) (dereference_item c d) p q = cc

-- a closing brace begins no statement
pub no_item_at_end : (words : List Word) (i : Item) → words ≡ Mark RightBrace ∷ [] → BeginsWith words i → ⊥
no_item_at_end words (vector_item a) e h = cc
no_item_at_end words (push_back_item a n) e h = cc
no_item_at_end words (begin_item a b) e h = cc
no_item_at_end words (dereference_item a b) e h = cc

-- no statement of any kind begins the words
pub no_item : (words : List Word)
    → ((name : List ℕ) → BeginsWith words (vector_item name) → ⊥)
    → ((vector : List ℕ) (number : ℕ) → BeginsWith words (push_back_item vector number) → ⊥)
    → ((name vector : List ℕ) → BeginsWith words (begin_item name vector) → ⊥)
    → ((name iterator : List ℕ) → BeginsWith words (dereference_item name iterator) → ⊥)
    → (i : Item) → BeginsWith words i → ⊥
no_item words v p b d (vector_item name) h = v name h
no_item words v p b d (push_back_item vector number) h = p vector number h
no_item words v p b d (begin_item name vector) h = b name vector h
no_item words v p b d (dereference_item name iterator) h = d name iterator h

-- where a statement begins the tokens, what is said of it is said of the tokens
pub taken : (old new : Reader) (tokens : List Token) (i : Item) (r : Result (Option ℕ) AllocError) → BeginsWith (words_in tokens) i
    → IfOk r (IsTaken old new tokens i) → IfOk r (TakesItem old new tokens)
taken old new tokens i (Ok None) begins h =
    ((λ j other allowed. h.0 (subst (λ k. IsAllowed (scope_of old) k) (sym (same_item (words_in tokens) i j begins other)) allowed)), h.1)
taken old new tokens i (Ok (Some n)) begins h = (i, begins, h.0, h.1)
taken old new tokens i (Err e) begins h = tt
