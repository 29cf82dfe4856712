-- A turn of a repetition.
use Rattle.std.proofs.Common.{◌≡◌, refl, ◌∙◌, ◌≤◌, ℕ, zero, suc, ◌+◌, ◌-◌, ◌<◌, max, Bool, true, false, List, [], ◌∷◌, ◌++◌, Ok, Err, cond}
use Rattle.std.proofs.Common.{append_assoc, arith}
use Rattle.sl_base.specs.declared.token.Token.{Token}
use Rattle.sl_syntax.specs.declared.token_kind.TokenKind.{TokenKind}
use Rattle.sl_grammar.specs.declared.fault.Fault.{Fault}
use Rattle.sl_grammar.specs.Means.Steps.{Outcome, Reader, Tall, kind_at, refusal, repeat, and_then}
use Rattle.sl_expressions.proofs.Fuel.{next_turn}

-- a step after a test
both : {A B : Type 0} (o q : Outcome A) (o' q' : Outcome B) (f : A → Reader B) (t : Bool) → o' ≡ and_then o f → q' ≡ and_then q f
    → cond t o' q' ≡ and_then (cond t o q) f
both o q o' q' f true e h = e
both o q o' q' f false e h = h

module _ {A : Type 0} (goes : TokenKind → Bool) (item : Reader (Tall A)) where
  -- What a loop has read when it doesn't go on, where so many turns were made of a number of them.
  pub loop-stops : (o : Outcome (Tall (List A))) (total made : ℕ) (done : Tall (List A)) (ts : List Token)
      → o ≡ repeat goes item (total - made) done ts
      → goes (kind_at ts) ≡ false → o ≡ Ok (done, ts)
  unfolding repeat
  loop-stops o total made done ts e h = e ∙ stops (total - made)
    where
      stops : (n : ℕ) → repeat goes item n done ts ≡ Ok (done, ts)
      stops zero = rw h refl
      stops (suc n) = rw h refl

  -- the turn that ends in a fault
  pub loop-fault : (o : Outcome (Tall (List A))) (total made : ℕ) (done : Tall (List A)) (ts : List Token) (e : Fault) → made < total
      → o ≡ repeat goes item (total - made) done ts
      → goes (kind_at ts) ≡ true → item ts ≡ Err e → o ≡ Err e
  unfolding repeat
  loop-fault o total made done ts e lt is h f = next_turn (λ n. repeat goes item n done ts) total made lt is ∙ rw (h, f) refl

  -- one more turn
  pub loop-turn : (o : Outcome (Tall (List A))) (total made : ℕ) (done more : Tall (List A)) (x : Tall A) (ts us : List Token) → made < total
      → o ≡ repeat goes item (total - made) done ts
      → goes (kind_at ts) ≡ true → item ts ≡ Ok (x, us) → more ≡ (done.0 ++ x.0 ∷ [], max done.1 x.1)
      → o ≡ repeat goes item (total - (made + 1)) more us
  unfolding repeat
  loop-turn o total made done more x ts us lt is h f m = next_turn (λ n. repeat goes item n done ts) total made lt is ∙ rw (h, f, m) refl

  -- no turn is left
  pub loop-spent : (o : Outcome (Tall (List A))) (total made : ℕ) (done : Tall (List A)) (ts : List Token) → total ≤ made
      → o ≡ repeat goes item (total - made) done ts
      → goes (kind_at ts) ≡ true → o ≡ Err (refusal ts)
  unfolding repeat
  loop-spent o total made done ts le is h = is ∙ spent (total - made) (omega arith)
    where
      spent : (n : ℕ) → n ≡ 0 → repeat goes item n done ts ≡ Err (refusal ts)
      spent zero z = rw h refl
      spent (suc n) z = absurd (omega arith)

  front_turn : (front : List A) (n : ℕ) (done : Tall (List A)) (o : Outcome (Tall A))
      → ((x : Tall A) (us : List Token) → repeat goes item n (front ++ (done.0 ++ x.0 ∷ []), max done.1 x.1) us
      ≡ and_then (repeat goes item n (done.0 ++ x.0 ∷ [], max done.1 x.1) us) (λ xs vs. Ok ((front ++ xs.0, xs.1), vs)))
      → and_then o (λ x. repeat goes item n (front ++ done.0 ++ x.0 ∷ [], max done.1 x.1))
      ≡ and_then (and_then o (λ x. repeat goes item n (done.0 ++ x.0 ∷ [], max done.1 x.1))) (λ xs us. Ok ((front ++ xs.0, xs.1), us))
  front_turn front n done (Ok (x, us)) h = rw (append_assoc front done.0 (x.0 ∷ [])) (h x us)
  front_turn front n done (Err e) h = refl

  -- what stands before is kept
  pub repeat-front : (front : List A) (n : ℕ) (done : Tall (List A)) (ts : List Token)
      → repeat goes item n (front ++ done.0, done.1) ts ≡ and_then (repeat goes item n done ts) (λ xs us. Ok ((front ++ xs.0, xs.1), us))
  unfolding repeat
  repeat-front front zero done ts = both _ _ _ _ _ (goes (kind_at ts)) refl refl
  repeat-front front (suc n) done ts =
      both _ _ _ _ _ (goes (kind_at ts))
      (front_turn front n done (item ts) (λ x us. repeat-front front n (done.0 ++ x.0 ∷ [], max done.1 x.1) us)) refl
