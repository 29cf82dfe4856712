-- What is read as an effect or a condition is the words of one that follows the grammar.
use Rattle.std.proofs.Common.{◌≡◌, ℕ, ◌+◌, ◌-◌, ◌<◌, true, List, [], ◌∷◌, Option, Some, None, Ok, refl, sym, ap, ◌∙◌, arith, drop}
use Rattle.std.specs.Prelude.{nat_lt, ◌&&◌, codes}
use Rattle.std.proofs.lemmas.Bool.{ltb-true, false≢true}
use Rattle.sl_base.specs.declared.mark.Mark.TheVariants as m
use Rattle.sl_base.specs.declared.place.Place.{Place}
use Rattle.sl_base.specs.declared.token.Token.{Token}
use Rattle.sl_base.specs.declared.word.Word.TheVariants as w
use Rattle.sl_syntax.specs.declared.token_kind.TokenKind.{TokenKind}
use Rattle.sl_syntax.specs.declared.token_kind.TokenKind.TheVariants as k
use Rattle.sl_syntax.specs.declared.operator.Assignment.{Assignment}
use Rattle.sl_syntax.specs.declared.tree.effect.Read.{Read}
use Rattle.sl_syntax.specs.declared.tree.identifier.Identifier.{Identifier}
use Rattle.sl_syntax.specs.Depth.{height, out_height, effect_height, cond_height}
use Rattle.sl_syntax.specs.Shaped.{IsExpr, IsRead, IsOut, IsEffect, IsCond}
use Rattle.sl_syntax.specs.Tree.{Expr, Out, Effect, Cond}
use Rattle.sl_syntax.specs.Written.{assignment_mark, written, out_written, read_written, effect_written, cond_written}
use Rattle.sl_grammar.specs.Means.Effects.{shifted_name, read, is_input, out_by, shifted_out, print, assignment_of, assigned_by, assigned, effect_by}
use Rattle.sl_grammar.specs.Means.Effects.{effect, begins_no_read, no_read, cond_by}
use Rattle.sl_grammar.specs.Means.Effects as effects
use Rattle.sl_grammar.specs.Means.Expressions.{expr}
use Rattle.sl_grammar.specs.Means.Steps.{Tall, kind_at, is_mark, mark, identifier, all_behind}
use Rattle.sl_grammar.proofs.KindLaws.{is_mark_kind, some_one, both}
use Rattle.sl_grammar.proofs.Rows.{Anything, name_written, flat, shifted_written}
use Rattle.sl_grammar.proofs.SoundExpressions.{sound, whole-part}
use Rattle.sl_grammar.proofs.SoundSteps.{Took, bound, chosen, guarded, answered, one_word, one_text, mark_plain, mark_rest, identifier_took, Part}
use Rattle.sl_grammar.proofs.SoundSteps.{Parts, behind}
use Rattle.sl_grammar.proofs.Spelling.{◌⨾◌}

pub shifted_name-part : Parts name_written Anything flat 0 shifted_name
unfolding shifted_name
shifted_name-part ts y h =
    let P : Took Identifier → Type 0 = λ z. Part name_written Anything flat 0 ts z.0 z.1 in
    bound (mark m.ShiftRight ts) _ y P h (λ u shift h1.
    bound (identifier u.1) _ y P h1 (λ x name h2.
    answered _ y P h2 (record {
      spelled = mark_plain m.ShiftRight ts u shift ⨾ identifier_took u.1 x name;
      fits = tt;
      size = refl;
      low = omega arith;
    })))

-- a read is a node
abbrev pub read_height : Read → ℕ
read_height r = 1

-- what is read from these tokens
abbrev pub ReadAt : ℕ → List Token → Took Read → Type 0
ReadAt depth_left ts y = Part read_written IsRead read_height depth_left ts y.0 y.1

abbrev pub OutAt : ℕ → List Token → Took Out → Type 0
OutAt depth_left ts y = Part out_written IsOut out_height depth_left ts y.0 y.1

abbrev pub EffectAt : ℕ → List Token → Took Effect → Type 0
EffectAt depth_left ts y = Part effect_written IsEffect effect_height depth_left ts y.0 y.1

abbrev pub CondAt : ℕ → List Token → Took Cond → Type 0
CondAt depth_left ts y = Part cond_written IsCond cond_height depth_left ts y.0 y.1

pub read-part : (depth_left : ℕ) (ts : List Token) (y : Took Read) → kind_at ts ≡ k.Input → read depth_left ts ≡ Ok y → ReadAt depth_left ts y
unfolding read
read-part depth_left ts y e h =
    let P : Took Read → Type 0 = ReadAt depth_left ts in
    guarded (nat_lt 0 depth_left) _ _ y P h (λ high h1.
    bound (shifted_name (drop 1 ts)) _ y P h1 (λ x one h2.
    bound (all_behind (is_mark m.ShiftRight) shifted_name (x.0.0 ∷ [], 0) x.1) _ y P h2 (λ xs more h3.
    let first = shifted_name-part (drop 1 ts) x one in
    let others = behind name_written Anything flat 0 (is_mark m.ShiftRight) shifted_name shifted_name-part (x.0.0 ∷ [], 0) x.1 xs more in
    let above : 0 < depth_left = ltb-true 0 depth_left high in
    answered _ y P h3 (record {
      spelled = rw others.all (one_word ts k.Input (w.Lib (codes "cin")) e refl ⨾ (first.spelled ⨾ others.spelled));
      fits = rw others.all (omega arith);
      size = refl;
      low = omega arith;
    }))))

is_input_kind : (kind : TokenKind) → is_input kind ≡ true → kind ≡ k.Input
is_input_kind k.Input h = refl
is_input_kind _ h = absurd (false≢true h)

drop_twice : (ts : List Token) → drop 2 ts ≡ drop 1 (drop 1 ts)
drop_twice [] = refl
drop_twice (x ∷ ts) = refl

-- `!(std::cin`, where there is depth enough for it
pub no_read-begins : (depth_left : ℕ) (ts : List Token) → nat_lt 1 depth_left && begins_no_read depth_left ts ≡ true
    → (1 < depth_left) × (is_mark m.Not (kind_at ts) ≡ true) × (is_input (kind_at (drop 2 ts)) ≡ true)
no_read-begins depth_left ts begins =
    let high = both (nat_lt 1 depth_left) (begins_no_read depth_left ts) begins in
    let input = both (is_mark m.Not (kind_at ts) && is_mark m.LeftParenthesis (kind_at (drop 1 ts))) (is_input (kind_at (drop 2 ts))) high.1 in
    (ltb-true 1 depth_left high.0, (both (is_mark m.Not (kind_at ts)) (is_mark m.LeftParenthesis (kind_at (drop 1 ts))) input.0).0, input.1)

-- what stands behind its `(`
pub input-behind : (ts : List Token) (u : Place × List Token) → mark m.LeftParenthesis (drop 1 ts) ≡ Ok u → is_input (kind_at (drop 2 ts)) ≡ true
    → kind_at u.1 ≡ k.Input
input-behind ts u opened input =
    ap kind_at (mark_rest m.LeftParenthesis (drop 1 ts) u opened ∙ sym (drop_twice ts)) ∙ is_input_kind (kind_at (drop 2 ts)) input

module _ (depth_left : ℕ) where
  value-part : (ts : List Token) (y : Took Out) → out_by depth_left k.End ts ≡ Ok y → OutAt (depth_left - 1) ts y
  value-part ts y h =
      let P : Took Out → Type 0 = OutAt (depth_left - 1) ts in
      bound (expr depth_left 5 ts) _ y P h (λ x read h1.
      let found = (sound depth_left 5 ts x (omega arith) (omega arith) read).1 in
      answered _ y P h1
      (record { spelled = found.part.spelled; fits = (found.tight, found.part.fits); size = found.part.size; low = found.part.low }))

  out-by : (kind : TokenKind) (ts : List Token) (y : Took Out) → kind_at ts ≡ kind → out_by depth_left kind ts ≡ Ok y → OutAt (depth_left - 1) ts y
  out-by k.Text ts y e h = answered _ y (OutAt (depth_left - 1) ts) h
      (record { spelled = one_text ts e; fits = tt; size = refl; low = omega arith })
  out-by k.EndLine ts y e h = answered _ y (OutAt (depth_left - 1) ts) h
      (record { spelled = one_word ts k.EndLine (w.Lib (codes "endl")) e refl; fits = tt; size = refl; low = omega arith })
  out-by _ ts y e h = value-part ts y h

  pub shifted-part : Parts shifted_written IsOut out_height (depth_left - 1) (shifted_out depth_left)
  unfolding shifted_out
  shifted-part ts y h =
      let P : Took Out → Type 0 = λ z. Part shifted_written IsOut out_height (depth_left - 1) ts z.0 z.1 in
      bound (mark m.ShiftLeft ts) _ y P h (λ u shift h1.
      let found = out-by (kind_at u.1) u.1 y refl h1 in
      record { spelled = mark_plain m.ShiftLeft ts u shift ⨾ found.spelled; fits = found.fits; size = found.size; low = found.low })

  print-part : (ts : List Token) (y : Took Effect) → kind_at ts ≡ k.Output → print depth_left ts ≡ Ok y → EffectAt depth_left ts y
  unfolding print
  print-part ts y e h =
      let P : Took Effect → Type 0 = EffectAt depth_left ts in
      guarded (nat_lt 0 depth_left) _ _ y P h (λ high h1.
      bound (shifted_out depth_left (drop 1 ts)) _ y P h1 (λ x one h2.
      bound (all_behind (is_mark m.ShiftLeft) (shifted_out depth_left) (x.0.0 ∷ [], x.0.1) x.1) _ y P h2 (λ xs more h3.
      let first = shifted-part (drop 1 ts) x one in
      let others = behind shifted_written IsOut out_height (depth_left - 1) (is_mark m.ShiftLeft) (shifted_out depth_left) shifted-part
      (x.0.0 ∷ [], x.0.1) x.1 xs more in
      let above : 0 < depth_left = ltb-true 0 depth_left high in
      answered _ y P h3 (record {
        spelled = rw others.all (one_word ts k.Output (w.Lib (codes "cout")) e refl ⨾ (first.spelled ⨾ others.spelled));
        fits = rw others.all (omega arith, (first.fits, others.each));
        size = rw others.all (omega (arith, first.size, others.size));
        low = omega (arith, above, first.size, first.low, others.size, others.low);
      }))))

  pub assignment-mark : (kind : TokenKind) (op : Assignment) → assignment_of depth_left kind ≡ Some op → kind ≡ k.Mark (assignment_mark op)
  assignment-mark (k.Mark m.Equal) op h = ap (λ (o : Assignment). k.Mark (assignment_mark o)) (some_one h)
  assignment-mark (k.Mark m.PlusEqual) op h = ap (λ (o : Assignment). k.Mark (assignment_mark o)) (some_one h)
  assignment-mark (k.Mark m.MinusEqual) op h = ap (λ (o : Assignment). k.Mark (assignment_mark o)) (some_one h)
  assignment-mark (k.Mark m.StarEqual) op h = ap (λ (o : Assignment). k.Mark (assignment_mark o)) (some_one h)
  assignment-mark (k.Mark m.SlashEqual) op h = ap (λ (o : Assignment). k.Mark (assignment_mark o)) (some_one h)
  assignment-mark (k.Mark m.PercentEqual) op h = ap (λ (o : Assignment). k.Mark (assignment_mark o)) (some_one h)
  assignment-mark _ op h = absurd cc

  assigned-by : (op : Option Assignment) (ts us : List Token) (left : Tall Expr) (y : Took Effect) → Part written IsExpr height depth_left ts left us
      → assignment_of depth_left (kind_at us) ≡ op → assigned_by depth_left left op us ≡ Ok y → EffectAt depth_left ts y
  assigned-by (Some op) ts us left y first e h =
      let P : Took Effect → Type 0 = EffectAt depth_left ts in
      guarded (nat_lt left.1 depth_left) _ _ y P h (λ below h1.
      bound (expr depth_left 1 (drop 1 us)) _ y P h1 (λ x read h2.
      let found = sound depth_left 1 (drop 1 us) x (omega arith) (omega arith) read in
      let lower : left.1 < depth_left = ltb-true left.1 depth_left below in
      answered _ y P h2 (record {
        spelled = first.spelled
            ⨾ (one_word us (k.Mark (assignment_mark op)) (w.Mark (assignment_mark op)) (assignment-mark (kind_at us) op e) refl
            ⨾ found.1.part.spelled);
        fits = (first.fits, found.1.part.fits);
        size = omega (arith, first.size, found.1.part.size);
        low = omega (arith, lower, found.0, found.1.part.low);
      })))
  assigned-by None ts us left y first e h =
      answered _ y (EffectAt depth_left ts) h
      (record { spelled = first.spelled; fits = first.fits; size = first.size; low = first.low })

  value-effect : (ts : List Token) (y : Took Effect) → effect_by depth_left k.End ts ≡ Ok y → EffectAt depth_left ts y
  unfolding assigned
  value-effect ts y h =
      let P : Took Effect → Type 0 = EffectAt depth_left ts in
      bound (expr (depth_left + 1) 1 ts) _ y P h (λ x read h1.
      assigned-by (assignment_of depth_left (kind_at x.1)) ts x.1 x.0 y (whole-part depth_left ts x read) refl h1)

  effect-by : (kind : TokenKind) (ts : List Token) (y : Took Effect) → kind_at ts ≡ kind → effect_by depth_left kind ts ≡ Ok y
      → EffectAt depth_left ts y
  effect-by k.Input ts y e h =
      let P : Took Effect → Type 0 = EffectAt depth_left ts in
      bound (read depth_left ts) _ y P h (λ r reads h1.
      let found = read-part depth_left ts r e reads in
      answered _ y P h1 (record { spelled = found.spelled; fits = found.fits; size = found.size; low = found.low }))
  effect-by k.Output ts y e h = print-part ts y e h
  effect-by _ ts y e h = value-effect ts y h

  pub effect-part : Parts effect_written IsEffect effect_height depth_left (effect depth_left)
  unfolding effect
  effect-part ts y h = effect-by (kind_at ts) ts y refl h

  no_read-part : (ts : List Token) (y : Took Cond) → 1 < depth_left → is_mark m.Not (kind_at ts) ≡ true → is_input (kind_at (drop 2 ts)) ≡ true
      → no_read depth_left ts ≡ Ok y
      → CondAt depth_left ts y
  unfolding no_read
  no_read-part ts y high sees input h =
      let P : Took Cond → Type 0 = CondAt depth_left ts in
      bound (mark m.LeftParenthesis (drop 1 ts)) _ y P h (λ u opened h1.
      bound (read depth_left u.1) _ y P h1 (λ r reads h2.
      bound (mark m.RightParenthesis r.1) _ y P h2 (λ v closed h3.
      let kind = input-behind ts u opened input in
      let found = read-part depth_left u.1 r kind reads in
      answered _ y P h3 (record {
        spelled = one_word ts (k.Mark m.Not) (w.Mark m.Not) (is_mark_kind m.Not (kind_at ts) sees) refl
            ⨾ (mark_plain m.LeftParenthesis (drop 1 ts) u opened ⨾ (found.spelled ⨾ mark_plain m.RightParenthesis r.1 v closed));
        fits = found.fits;
        size = refl;
        low = omega arith;
      }))))

  value-cond : (ts : List Token) (y : Took Cond) → cond_by depth_left k.End ts ≡ Ok y → CondAt depth_left ts y
  value-cond ts y h =
      let P : Took Cond → Type 0 = CondAt depth_left ts in
      chosen (nat_lt 1 depth_left && begins_no_read depth_left ts) _ _ _ (P y) h
      (λ begins h1.
      let of = no_read-begins depth_left ts begins in
      no_read-part ts y of.0 of.1 of.2 h1)
      (λ other h1.
      bound (expr (depth_left + 1) 1 ts) _ y P h1 (λ x read h2.
      let found = whole-part depth_left ts x read in
      answered _ y P h2 (record { spelled = found.spelled; fits = found.fits; size = found.size; low = found.low })))

  cond-by : (kind : TokenKind) (ts : List Token) (y : Took Cond) → kind_at ts ≡ kind → cond_by depth_left kind ts ≡ Ok y → CondAt depth_left ts y
  cond-by k.Input ts y e h =
      let P : Took Cond → Type 0 = CondAt depth_left ts in
      bound (read depth_left ts) _ y P h (λ r reads h1.
      let found = read-part depth_left ts r e reads in
      answered _ y P h1 (record { spelled = found.spelled; fits = found.fits; size = found.size; low = found.low }))
  cond-by _ ts y e h = value-cond ts y h

  pub cond-part : Parts cond_written IsCond cond_height depth_left (effects.cond depth_left)
  unfolding effects.cond
  cond-part ts y h = cond-by (kind_at ts) ts y refl h
