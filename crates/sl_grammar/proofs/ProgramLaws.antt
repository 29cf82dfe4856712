-- The laws of the reader of programs, put together: what it reads and where it stops, against the definitions of the grammar.
use Rattle.std.proofs.Common.{◌≡◌, ℕ, zero, suc, ◌+◌, ◌-◌, ◌<◌, ◌≤◌, List, [], ◌∷◌, ◌++◌, length, take, map, Ok, Err, refl, sym, ap, ◌∙◌, subst}
use Rattle.std.proofs.Common.{arith, length-append}
use Rattle.std.proofs.lemmas.List.{length-map, map-append}
use Rattle.std.proofs.Math.Seq.{take-append_seam}
use Rattle.sl_base.specs.declared.token.Token.{Token}
use Rattle.sl_base.specs.declared.word.Word.{Word}
use Rattle.sl_syntax.specs.Begins.{IsProgram, Begins, Stops, words_in}
use Rattle.sl_syntax.specs.Blank.{blank, blank_token}
use Rattle.sl_syntax.specs.Depth.{depth}
use Rattle.sl_syntax.specs.Placed.{Placed}
use Rattle.sl_syntax.specs.Shaped.{Shaped}
use Rattle.sl_syntax.specs.Tree.{Program}
use Rattle.sl_syntax.specs.Written.{words, program_written}
use Rattle.sl_syntax.proofs.BlankLaws.{blank-placed_alone, placed-words}
use Rattle.sl_syntax.proofs.BlankShape.{blank-shaped}
use Rattle.sl_grammar.specs.declared.fault.Fault.TheVariants.{Grammar}
use Rattle.sl_grammar.specs.Means.Statements.{program}
use Rattle.sl_grammar.specs.Means.Steps.{Outcome, Tall}
use Rattle.sl_grammar.proofs.CompletePrograms.{reads_program}
use Rattle.sl_grammar.proofs.NearStatements.{near_program, program-shrinks}
use Rattle.sl_grammar.proofs.NearSteps.{Same, step, end, cut, Agree, in_step, at_fault, past, left_over, Level}
use Rattle.sl_grammar.proofs.SoundSteps.{ok_one}
use Rattle.sl_grammar.proofs.ViablePrograms.{viable_program}
use Rattle.sl_grammar.proofs.ViableSteps.{Viable}

-- a program's words as tokens whose places are all the same are read as the program with all its places set to that
pub reads_blank : (p : Program) → Shaped p → program (map blank_token (words p)) ≡ Ok ((blank p, depth (blank p)), [])
reads_blank p shaped = reads_program (map blank_token (words p)) (blank p) (blank-shaped p shaped) (blank-placed_alone p)

-- where one run stops at a fault that isn't behind the cut, the other doesn't read
no_reading : {A : Type 0} (b n : ℕ) (R : A → A → Type 0) (o o' : Outcome A) (y : A × List Token) → Agree b R o o'
    → o ≡ Err (Grammar n) → b ≤ n → o' ≡ Ok y → ⊥
no_reading b n R _ _ y (in_step x x' s s' r same) e le q = cc
no_reading b n R _ _ y (at_fault s s' same) e le q = cc
no_reading b n R o o' y (past _ _ l) e le q = omega (arith, ap left_over e)

-- tokens of the same words
same_words : (ts us : List Token) → words_in ts ≡ words_in us → Same 0 ts us
same_words [] [] e = end
same_words [] (u ∷ us) e = absurd cc
same_words (t ∷ ts) [] e = absurd cc
same_words (t ∷ ts) (u ∷ us) e =
    let first : t.word ≡ u.word = cc in
    let rest : words_in ts ≡ words_in us = cc in
    step t u ts us first (same_words ts us rest)

words_of_blank : (ws : List Word) → words_in (map blank_token ws) ≡ ws
words_of_blank [] = refl
words_of_blank (w ∷ ws) = ap (λ (l : List Word). w ∷ l) (words_of_blank ws)

-- tokens of the same words up to the one behind which fewer than b are left
same_front : (b m : ℕ) (ts us : List Token) (more : List Word) → 0 < b → length ts < m + b → words_in us ≡ take m (words_in ts) ++ more → Same b ts us
same_front b zero ts us more some long e = cut ts us (omega arith)
same_front b (suc m) [] us more some long e = cut [] us some
same_front b (suc m) (t ∷ ts) [] more some long e = absurd cc
same_front b (suc m) (t ∷ ts) (u ∷ us) more some long e =
    let first : t.word ≡ u.word = cc in
    let rest : words_in us ≡ take m (words_in ts) ++ more = cc in
    step t u ts us first (same_front b m ts us more some (omega arith) rest)

-- Where the reader stops, a token further nothing begins a program, and all the words aren't one's.
module _ (ts : List Token) (n : ℕ) (fault : program ts ≡ Err (Grammar n)) where
  pub within : n ≤ length ts
  within = subst (λ k. k ≤ length ts) (ap left_over fault) (program-shrinks ts)

  pub no_program : IsProgram (words_in ts) → ⊥
  no_program (p, shaped, is) =
      let us : List Token = map blank_token (words p) in
      no_reading 0 n Level (program ts) (program us) _
      (near_program 0 ts us (same_words ts us (sym is ∙ sym (words_of_blank (words p))))) fault (omega arith) (reads_blank p shaped)

  pub nothing_begins : length ts - n < length ts → Begins IsProgram (take (length ts - n + 1) (words_in ts)) → ⊥
  nothing_begins some (more, whole) =
      let p = whole.0 in
      let us : List Token = map blank_token (words p) in
      no_reading n n Level (program ts) (program us) _
      (near_program n ts us (same_front n (length ts - n + 1) ts us more (omega (arith, within)) (omega (arith, within))
      (words_of_blank (words p) ∙ whole.2))) fault (omega arith) (reads_blank p whole.1)

same_read : (a b : Program) (h k : ℕ) → ◌≡◌ {A = Outcome (Tall Program)} (Ok ((a, h), [])) (Ok ((b, k), [])) → a ≡ b
same_read a b h k e = ap (λ (y : Tall Program × List Token). y.0.0) (ok_one e)

-- the words before the last of two lists, where the first has all the others
words_before : (ts front rest : List Token) → ts ≡ front ++ rest → take (length ts - length rest) (words_in ts) ≡ words_in front
words_before ts front rest e =
    let n : length ts - length rest ≡ length (words_in front) =
    omega (arith, ap length e, length-append front rest, length-map front (λ (t : Token). t.word)) in
    let ws : words_in ts ≡ words_in front ++ words_in rest = ap words_in e ∙ map-append (λ (t : Token). t.word) front rest in
    rw (n, ws) (take-append_seam (words_in front) (words_in rest))

-- Where the reader of programs stops, the words stop beginning a program.
pub stops : (ts : List Token) (n : ℕ) → program ts ≡ Err (Grammar n) → Stops IsProgram (words_in ts) (length ts - n)
stops ts n fault =
    let v : Viable Shaped program_written ts n = viable_program ts n fault in
    let n_is : length ts - length v.rest ≡ length ts - n = rw v.left refl in
    let words_are : take (length ts - n) (words_in ts) ≡ words_in v.front = rw n_is at (words_before ts v.front v.rest v.whole) in
    let long : length (words_in ts) ≡ length ts = length-map ts (λ (t : Token). t.word) in
    record {
      inside = omega (arith, long);
      before = (v.more, (v.tree, v.fits, v.words ∙ ap (λ (l : List Word). l ++ v.more) (sym words_are)));
      behind = λ h. nothing_begins ts n fault (omega (arith, h, long));
      ends = λ e. no_program ts n fault;
    }

-- tokens write one program alone
pub one_program : (ts : List Token) (p q : Program) → Shaped p → Shaped q → Placed p ts → Placed q ts → p ≡ q
one_program ts p q shaped other placed also =
    same_read p q (depth p) (depth q) (sym (reads_program ts p shaped placed) ∙ reads_program ts q other also)

-- programs of the same words are the same but for their places
pub one_shape : (p q : Program) → Shaped p → Shaped q → words p ≡ words q → blank p ≡ blank q
one_shape p q shaped other e =
    same_read (blank p) (blank q) (depth (blank p)) (depth (blank q))
    (sym (reads_blank p shaped) ∙ ap (λ (ws : List Word). program (map blank_token ws)) e ∙ reads_blank q other)

-- tokens that a program is placed by are the words of one
pub is_program : (ts : List Token) (p : Program) → Shaped p → Placed p ts → IsProgram (words_in ts)
is_program ts p shaped placed = (p, shaped, sym (placed-words p ts placed))
