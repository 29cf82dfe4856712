-- A text is typed as one text, or it has one line that refuses it; and what the phases answer is that.
use Rattle.std.proofs.Common.{◌≡◌, ◌⊎◌, inl, inr, ℕ, List, [], Some, refl, sym, ap, subst, Result, Ok, Err, IfOk, IfErr, IsErrAnd}
use Rattle.std.proofs.Common.{MatchResult}
use Rattle.std.proofs.lemmas.Result.{IfOk-weaker, IfErr-weaker}
use Rattle.sl_base.specs.declared.place.Place.{Place}
use Rattle.sl_base.specs.declared.token.Token.{Token}
use Rattle.sl_syntax.specs.Tree.{Program}
use Rattle.sl_syntax.specs.Typed as t
use Rattle.sl_syntax.specs.TypedView.{typed_of}
use Rattle.sl_syntax.specs.declared.typed.Typed.{Typed as TypedCode}
use Rattle.sl_typing.specs.declared.fault.Fault.{Fault}
use Rattle.sl_typing.specs.Typing.{Typed, FirstBroken}
use Rattle.sl_typing.proofs.OneAnswer as typing
use Rattle.sl_model.specs.Reports.Refusals.{IsParsed, IsTyped, IsRefusal, Leaves, no_program, not_typed, typing_words}
use Rattle.sl_model.specs.Reports.Texts.{refusal_line}
use Rattle.sl_tool.specs.Stopping.{line_of}
use Rattle.sl_tool.specs.declared.phases.stop.Stop.{Stop}
use Rattle.sl_tool.specs.declared.phases.stop.Stop.TheVariants.{Memory, TooLong, Refused}
use Rattle.sl_tool.proofs.RefusalLaws.{is_line}
use Rattle.sl_tool.proofs.OneTextLaws.{one_program, one_line, parsed_or_refused}

-- the line of a program that breaks a rule
abbrev fault_line : List ℕ → Fault → List ℕ
fault_line file x = refusal_line file x.place (typing_words x.rule)

-- the line of the first rule that a program breaks
abbrev pub IsFault : Program → List ℕ → List ℕ → Type 0
IsFault p file line = (x : Fault) × FirstBroken p x × (line ≡ refusal_line file x.place (typing_words x.rule))

same_fault : (file : List ℕ) (p q : Program) (x y : Fault) → p ≡ q → FirstBroken p x → FirstBroken q y → fault_line file x ≡ fault_line file y
same_fault file p q x y e a b = ap (fault_line file) (typing.one_fault q x y (subst (λ r. FirstBroken r x) e a) b)

-- a text that isn't typed has one line that refuses it
pub one_leaving : (file text x y : List ℕ) → Leaves file text x → Leaves file text y → x ≡ y
one_leaving file text _ _ (no_program x a) (no_program y b) = one_line file text x y a b
one_leaving file text _ _ (no_program x a) (not_typed us q b y broken) = absurd (parsed_or_refused file text x us q b a)
one_leaving file text _ _ (not_typed ts p a x broken) (no_program y b) = absurd (parsed_or_refused file text y ts p a b)
one_leaving file text _ _ (not_typed ts p a x broken) (not_typed us q b y other) =
    same_fault file p q x y (one_program text ts us p q a b).1 broken other

same_typed : (p q : Program) (u v : t.Typed) → p ≡ q → Typed p u → Typed q v → u ≡ v
same_typed p q u v e a b = typing.one_typed q u v (subst (λ r. Typed r u) e a) b

-- a text is typed as one text
pub one_typed : (text : List ℕ) (ts us : List Token) (p q : Program) (u v : t.Typed) → IsTyped text ts p u → IsTyped text us q v → u ≡ v
one_typed text ts us p q u v a b = same_typed p q u v (one_program text ts us p q a.parsed b.parsed).1 a.typed_so b.typed_so

typed_or_broken : (p q : Program) (u : t.Typed) (x : Fault) → p ≡ q → Typed p u → FirstBroken q x → ⊥
typed_or_broken p q u x e a b = typing.not_both q u x (subst (λ r. Typed r u) e a) b

-- a text that is typed has no line that refuses it
pub typed_or_leaves : (file text line : List ℕ) (ts : List Token) (p : Program) (u : t.Typed) → IsTyped text ts p u → Leaves file text line → ⊥
typed_or_leaves file text _ ts p u typed (no_program line is) = parsed_or_refused file text line ts p typed.parsed is
typed_or_leaves file text _ ts p u typed (not_typed us q parsed x broken) =
    typed_or_broken p q u x (one_program text ts us p q typed.parsed parsed).1 typed.typed_so broken

-- the line of a stop in each file, if it has one, is one of these
abbrev pub Tells : (List ℕ → List ℕ → Type 0) → Stop → Type 0
Tells P stop = (file line : List ℕ) → line_of file stop ≡ Some line → P file line

stop_tells : (P : List ℕ → List ℕ → Type 0) → ((file x y : List ℕ) → P file x → P file y → x ≡ y) → (stop : Stop) → Tells P stop
    → (file line : List ℕ) → P file line → (stop ≡ Memory) ⊎ (line_of file stop ≡ Some line)
stop_tells P one Memory tells file line is = inl refl
stop_tells P one TooLong tells file line is = inr (ap Some (one file _ line (tells file _ refl) is))
stop_tells P one (Refused at words) tells file line is = inr (ap Some (one file _ line (tells file _ refl) is))

stop_is : (P : List ℕ → List ℕ → Type 0) → ((file line : List ℕ) → P file line → ⊥) → (stop : Stop) → Tells P stop → stop ≡ Memory
stop_is P none Memory tells = refl
stop_is P none TooLong tells = absurd (none [] _ (tells [] _ refl))
stop_is P none (Refused at words) tells = absurd (none [] _ (tells [] _ refl))

-- a stop of a text that has a program is want of memory
pub parsed_stop : (text : List ℕ) (stop : Stop) → Tells (λ file line. IsRefusal file text line) stop → (ts : List Token) (p : Program)
    → IsParsed text ts p → stop ≡ Memory
parsed_stop text stop tells ts p is = stop_is (λ file line. IsRefusal file text line) (λ file line. parsed_or_refused file text line ts p is) stop tells

-- a stop of a text that has a line of refusal is want of memory or has that line
pub refused_line : (text : List ℕ) (stop : Stop) → Tells (λ file line. IsRefusal file text line) stop → (file line : List ℕ)
    → IsRefusal file text line → (stop ≡ Memory) ⊎ (line_of file stop ≡ Some line)
refused_line text stop tells = stop_tells (λ file line. IsRefusal file text line) (λ file. one_line file text) stop tells

-- a text that is no program isn't typed
pub refused_leaves : (text : List ℕ) (stop : Stop) → Tells (λ file line. IsRefusal file text line) stop → Tells (λ file line. Leaves file text line) stop
refused_leaves text stop tells = λ file line e. no_program line (tells file line e)

-- a stop of a text that is typed is want of memory
pub typed_stop : (text : List ℕ) (stop : Stop) → Tells (λ file line. Leaves file text line) stop → (ts : List Token) (p : Program) (u : t.Typed)
    → IsTyped text ts p u → stop ≡ Memory
typed_stop text stop tells ts p u is = stop_is (λ file line. Leaves file text line) (λ file line. typed_or_leaves file text line ts p u is) stop tells

-- a stop of a text that isn't typed is want of memory or has the line that refuses it
pub leaving_line : (text : List ℕ) (stop : Stop) → Tells (λ file line. Leaves file text line) stop → (file line : List ℕ) → Leaves file text line
    → (stop ≡ Memory) ⊎ (line_of file stop ≡ Some line)
leaving_line text stop tells = stop_tells (λ file line. Leaves file text line) (λ file. one_leaving file text) stop tells

-- the line of a stop at a rule is that of the fault
pub told_fault : (file line : List ℕ) (p : Program) (place : Place) (rule : ℕ) (words : List ℕ)
    → FirstBroken p (record { place = place; rule = rule }) → words ≡ typing_words rule → Some (refusal_line file place words) ≡ Some line
    → IsFault p file line
told_fault file line p place rule words broken is e = is_line (IsFault p file) _ line e (record { place = place; rule = rule }, broken, rw is refl)

typed_by : (text : List ℕ) (ts : List Token) (p : Program) → IsParsed text ts p → (result : Result TypedCode Stop)
    → IfOk result (λ u. Typed p (typed_of u)) → IfErr result (Tells (λ file line. Leaves file text line))
    → (us : List Token) (q : Program) (u : t.Typed) → IsTyped text us q u → MatchResult result (λ answer. typed_of answer ≡ u) (λ stop. stop ≡ Memory)
typed_by text ts p parsed (Ok a) typed tells us q u is =
    one_typed text ts us p q (typed_of a) u (record { parsed = parsed; typed_so = typed }) is
typed_by text ts p parsed (Err stop) typed tells us q u is = typed_stop text stop tells us q u is

leaving_by : (text : List ℕ) (ts : List Token) (p : Program) → IsParsed text ts p → (result : Result TypedCode Stop)
    → IfOk result (λ u. Typed p (typed_of u)) → IfErr result (Tells (λ file line. Leaves file text line))
    → (file line : List ℕ) → Leaves file text line → IsErrAnd result (λ stop. (stop ≡ Memory) ⊎ (line_of file stop ≡ Some line))
leaving_by text ts p parsed (Ok a) typed tells file line is =
    absurd (typed_or_leaves file text line ts p (typed_of a) (record { parsed = parsed; typed_so = typed }) is)
leaving_by text ts p parsed (Err stop) typed tells file line is = leaving_line text stop tells file line is

module _ (text : List ℕ) (ts : List Token) (p : Program) (result : Result TypedCode Stop) (parsed : IsParsed text ts p) where
  -- what is answered is the text's typed text
  pub is_typed : IfOk result (λ u. Typed p (typed_of u)) → IfOk result (λ u. (ts : List Token) × (p : Program) × IsTyped text ts p (typed_of u))
  is_typed so = IfOk-weaker result _ _ (λ u typed. (ts, p, record { parsed = parsed; typed_so = typed })) so

  leaves_so : (file line : List ℕ) → IsFault p file line → Leaves file text line
  leaves_so file line x = subst (Leaves file text) (sym x.2) (not_typed ts p parsed x.0 x.1)

  -- a stop has the line of the first rule that is broken
  pub leaves : IfErr result (Tells (IsFault p)) → IfErr result (Tells (λ file line. Leaves file text line))
  leaves told = IfErr-weaker result _ _ (λ stop tells file line e. leaves_so file line (tells file line e)) told

  -- the typed text is the one that is answered
  pub only_typed : IfOk result (λ u. Typed p (typed_of u)) → IfErr result (Tells (IsFault p)) → (us : List Token) (q : Program) (u : t.Typed)
      → IsTyped text us q u → MatchResult result (λ answer. typed_of answer ≡ u) (λ stop. stop ≡ Memory)
  only_typed so told us q u is = typed_by text ts p parsed result so (leaves told) us q u is

  -- the line that refuses the text is the one of the stop
  pub only_leaving : IfOk result (λ u. Typed p (typed_of u)) → IfErr result (Tells (IsFault p)) → (file line : List ℕ) → Leaves file text line
      → IsErrAnd result (λ stop. (stop ≡ Memory) ⊎ (line_of file stop ≡ Some line))
  only_leaving so told file line is = leaving_by text ts p parsed result so (leaves told) file line is
