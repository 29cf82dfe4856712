-- The words of a statement are read as that statement.
use Rattle.std.proofs.Common.{◌≡◌, ℕ, zero, suc, ◌+◌, ◌<◌, ◌≤◌, max, true, false, List, [], ◌∷◌, ◌++◌, drop, Option, Some, None, Ok, refl, sym, ◌∙◌, arith}
use Rattle.std.proofs.lemmas.Bool.{lt-ltb, false≢true}
use Rattle.sl_base.specs.declared.mark.Mark.TheVariants as m
use Rattle.sl_base.specs.declared.place.Place.{Place}
use Rattle.sl_base.specs.declared.scalar.Scalar.{Scalar}
use Rattle.sl_base.specs.declared.token.Token.{Token}
use Rattle.sl_syntax.specs.declared.token_kind.TokenKind.TheVariants as k
use Rattle.sl_syntax.specs.declared.tree.element.Element.{Element}
use Rattle.sl_syntax.specs.declared.tree.element.Element.TheVariants as l
use Rattle.sl_syntax.specs.declared.tree.element.ElementType.TheVariants as q
use Rattle.sl_syntax.specs.declared.tree.identifier.Identifier.{Identifier}
use Rattle.sl_syntax.specs.Depth.{height, option_height, effect_height, cond_height, element_height, stmt_height}
use Rattle.sl_syntax.specs.Shaped.{IfThere, ends_open, IsExpr, IsEffect, IsCond, IsFirst, IsStmt}
use Rattle.sl_syntax.specs.Tree as t
use Rattle.sl_syntax.specs.Tree.{Expr, Effect, Cond, First, Stmt}
use Rattle.sl_syntax.specs.Written.{Written, written, option_written, effect_written, cond_written, first_written, value_written, tested}
use Rattle.sl_syntax.specs.Written.{element_written, reference_written, stmt_written}
use Rattle.sl_syntax.specs.Written as v
use Rattle.sl_grammar.specs.Means.Statements.{first_of, is_else, condition, otherwise, choice, loop, optional_cond, optional_effect, for_behind}
use Rattle.sl_grammar.specs.Means.Statements.{range_behind, valued_first, variable_behind, declared_first, for_head, for_loop, return_stmt, effect_stmt}
use Rattle.sl_grammar.specs.Means.Statements.{reference_range}
use Rattle.sl_grammar.specs.Means.Statements.{word_stmt, stmt_by, stmt}
use Rattle.sl_grammar.specs.Means.Steps.{here, Reader, Tall, kind_at, mark, identifier}
use Rattle.sl_grammar.proofs.CompleteBegins.{semicolon-ends, parenthesis-ends, effect-not_semicolon, effect-not_parenthesis, cond-begins, does-some}
use Rattle.sl_grammar.proofs.CompleteBegins.{stmt-height_some, for-kind, does-kind, begins-stmt, stmt-no_reference, scalar-no_reference}
use Rattle.sl_grammar.proofs.CompleteBlocks.{ReadsStmts, block-reads}
use Rattle.sl_grammar.proofs.CompleteDeclarations.{head-begins, head-reads}
use Rattle.sl_grammar.proofs.CompleteEffects.{and-false, begins_effect, effect-complete, effect-begins, cond-complete}
use Rattle.sl_grammar.proofs.CompleteExpressions.{whole-complete}
use Rattle.sl_grammar.proofs.CompleteKinds.{scalar-kind, expr-begins}
use Rattle.sl_grammar.proofs.CompleteLists.{semicolon-close}
use Rattle.sl_grammar.proofs.Spelling.{Spelled, split, at_word, plain_word, from_word}

-- the words of a `for` behind its first part
abbrev for_written : Option Cond → Option Effect → Stmt → List Written
for_written c step x = v.mark m.Semicolon ∷ (option_written cond_written c ++ v.mark m.Semicolon ∷
    (option_written effect_written step ++ v.mark m.RightParenthesis ∷ stmt_written x))

module _ (inner : Reader (Tall Stmt)) (depth_left : ℕ) (i : ReadsStmts depth_left inner) where
  condition-reads : {C : Type 0} (c : Cond) (xs : List Written) (ts rest : List Token) → IsCond c → cond_height c ≤ depth_left
      → Spelled (tested c xs) ts rest
      → ((us : List Token) → condition inner depth_left ts ≡ Ok ((c, cond_height c), us) → Spelled xs us rest → C) → C
  unfolding condition mark
  condition-reads c xs ts rest g l s go =
      plain_word s (λ o place us e a.
      split (cond_written c) a (λ mid b d.
      plain_word d (λ o2 place2 vs e2 z.
      go vs (rw (e, cond-complete depth_left c us mid g l (rw e2 parenthesis-ends) b, e2) refl) z)))

  optional_cond-reads : (c : Option Cond) (ts rest : List Token) → IfThere IsCond c → option_height cond_height c ≤ depth_left
      → kind_at rest ≡ k.Mark m.Semicolon → Spelled (option_written cond_written c) ts rest
      → optional_cond inner depth_left ts ≡ Ok ((c, option_height cond_height c), rest)
  unfolding optional_cond
  optional_cond-reads None ts rest g l f s = let e : ts ≡ rest = s.spells in rw (e, f) refl
  optional_cond-reads (Some c) ts rest g l f s =
      rw (effect-not_semicolon (kind_at ts) (cond-begins c ts rest g s), cond-complete depth_left c ts rest g l (rw f semicolon-ends) s) refl

  optional_effect-reads : (e : Option Effect) (ts rest : List Token) → IfThere IsEffect e → option_height effect_height e ≤ depth_left
      → kind_at rest ≡ k.Mark m.RightParenthesis
      → Spelled (option_written effect_written e) ts rest → optional_effect inner depth_left ts ≡ Ok ((e, option_height effect_height e), rest)
  unfolding optional_effect
  optional_effect-reads None ts rest g l f s = let e : ts ≡ rest = s.spells in rw (e, f) refl
  optional_effect-reads (Some x) ts rest g l f s =
      rw (effect-not_parenthesis (kind_at ts) (effect-begins x ts rest g s), effect-complete depth_left x ts rest g l (rw f parenthesis-ends) s) refl

  for_behind-reads : (place : Place) (first : Tall (Option First)) (c : Option Cond) (step : Option Effect) (x : Stmt) (ts rest : List Token)
      → IfThere IsCond c → IfThere IsEffect step → IsStmt x → option_height cond_height c ≤ depth_left → option_height effect_height step ≤ depth_left
      → stmt_height x ≤ depth_left
      → (ends_open x ≡ true → is_else (kind_at rest) ≡ false) → Spelled (for_written c step x) ts rest
      → for_behind inner depth_left place first ts ≡ Ok (
        (
          t.for place first.0 c step x,
          max first.1
              (max (option_height cond_height c) (max (option_height effect_height step) (stmt_height x))) + 1,
        ),
        rest,
      )
  unfolding for_behind mark
  for_behind-reads place first c step x ts rest g1 g2 g3 l1 l2 l3 open_end s =
      plain_word s (λ o1 p1 t1 e1 s1.
      split (option_written cond_written c) s1 (λ t2 a2 s2.
      plain_word s2 (λ o3 p3 t3 e3 s3.
      split (option_written effect_written step) s3 (λ t4 a4 s4.
      plain_word s4 (λ o5 p5 t5 e5 s5.
      rw (
        e1,
        optional_cond-reads c t1 t2 g1 l1 (rw e3 refl) a2,
        e3,
        optional_effect-reads step t3 t4 g2 l2 (rw e5 refl) a4,
        e5,
        i.reads x t5 rest g3 l3 open_end s5,
      ) refl)))))

  -- behind the variable that the head of a `for` declares
  valued-reads : (place at : Place) (type : Option Scalar) (x : Identifier) (y : Expr) (xs : List Written) (result : Tall Stmt) (ts rest : List Token)
      → IsExpr y → height y < depth_left
      → Spelled (value_written y ++ v.mark m.Semicolon ∷ xs) ts rest
      → ((us : List Token) → Spelled (v.mark m.Semicolon ∷ xs) us rest → for_behind inner depth_left place
      (Some (first_of type at x y), height y + 1) us ≡ Ok (result, rest))
      → variable_behind inner depth_left place at type x ts ≡ Ok (result, rest)
  unfolding variable_behind valued_first mark
  valued-reads place at type x y xs result ts rest g l s go =
      plain_word s (λ o place2 us e a.
      split (written y) a (λ mid b d.
      let stop : kind_at mid ≡ k.Mark m.Semicolon = plain_word d (λ o2 place3 vs e2 z. rw e2 refl) in
      rw (e, and-false, (whole-complete depth_left).reads y us mid g l (rw stop semicolon-ends.ends) b) (go mid d)))

  first-reads : (place : Place) (first : Option First) (c : Option Cond) (step : Option Effect) (x : Stmt) (ts rest : List Token)
      → IfThere IsFirst first → IfThere IsCond c → IfThere IsEffect step → IsStmt x → stmt_height (t.for place first c step x) ≤ suc depth_left
      → (ends_open x ≡ true → is_else (kind_at rest) ≡ false) → Spelled (option_written first_written first ++ for_written c step x) ts rest
      → for_head inner depth_left place ts ≡ Ok ((t.for place first c step x, stmt_height (t.for place first c step x)), rest)
  unfolding for_head declared_first identifier
  first-reads place None c step x ts rest g0 g1 g2 g3 l open_end s =
      let stop : kind_at ts ≡ k.Mark m.Semicolon = plain_word s (λ o place2 us e z. rw e refl) in
      rw stop (for_behind-reads place (None, 0) c step x ts rest g1 g2 g3 (omega arith) (omega arith) (omega arith) open_end s)
  first-reads place (Some (t.first_scalar at scalar y value)) c step x ts rest g0 g1 g2 g3 l open_end s =
      at_word s (λ o1 t1 e1 s1. at_word s1 (λ o2 t2 e2 s2.
      rw (e1, e2, scalar-kind scalar, scalar-no_reference scalar) (valued-reads place at (Some scalar) y value _ _ t2 rest g0 (omega arith) s2
      (λ us d. for_behind-reads place (Some (t.first_scalar at scalar y value), height value + 1) c step x us rest g1 g2 g3 (omega arith)
      (omega arith) (omega arith) open_end d))))
  first-reads place (Some (t.first_auto at y value)) c step x ts rest g0 g1 g2 g3 l open_end s =
      at_word s (λ o1 t1 e1 s1. at_word s1 (λ o2 t2 e2 s2.
      rw (e1, e2) (valued-reads place at None y value _ _ t2 rest g0 (omega arith) s2
      (λ us d. for_behind-reads place (Some (t.first_auto at y value), height value + 1) c step x us rest g1 g2 g3 (omega arith) (omega arith)
      (omega arith) open_end d))))
  first-reads place (Some (t.first_effect e)) c step x ts rest g0 g1 g2 g3 l open_end s =
      split (effect_written e) s (λ mid a b.
      let stop : kind_at mid ≡ k.Mark m.Semicolon = plain_word b (λ o2 place3 vs e2 z. rw e2 refl) in
      let begins : begins_effect (kind_at ts) ≡ true = effect-begins e ts mid g0 a in
      rw (
        stmt-no_reference (kind_at ts) (kind_at (drop 1 ts)) (begins-stmt (kind_at ts) begins),
        for-kind inner depth_left place (kind_at ts) begins,
        effect-complete depth_left e ts mid g0 (omega arith) (rw stop semicolon-ends) a,
      )
      (for_behind-reads place (Some (t.first_effect e), effect_height e) c step x mid rest g1 g2 g3 (omega arith) (omega arith)
      (omega arith) open_end b))

  -- behind the parenthesis of a range-for
  range-reads : (place : Place) (e : Element) (x y : Identifier) (body : Stmt) (ts rest : List Token) → IsStmt body → stmt_height body ≤ depth_left
      → (ends_open body ≡ true → is_else (kind_at rest) ≡ false)
      → Spelled (element_written e ++ v.named x ∷ v.mark m.Colon ∷ v.named y ∷ v.mark m.RightParenthesis ∷ stmt_written body) ts rest
      → for_head inner depth_left place ts ≡ Ok ((t.range_for place e x y body, max (element_height e) (stmt_height body) + 1), rest)
  unfolding for_head declared_first variable_behind range_behind reference_range mark identifier
  range-reads place (l.Value q.Int) x y body ts rest g low f s =
      plain_word s (λ o3 p3 t3 e3 s3.
      at_word s3 (λ o4 t4 e4 s4. plain_word s4 (λ o5 p5 t5 e5 s5. at_word s5 (λ o6 t6 e6 s6. plain_word s6 (λ o7 p7 t7 e7 s7.
      rw (e3, e4, e5, e6, e7, i.reads body t7 rest g low f s7) refl)))))
  range-reads place (l.Value q.Auto) x y body ts rest g low f s =
      plain_word s (λ o3 p3 t3 e3 s3.
      at_word s3 (λ o4 t4 e4 s4. plain_word s4 (λ o5 p5 t5 e5 s5. at_word s5 (λ o6 t6 e6 s6. plain_word s6 (λ o7 p7 t7 e7 s7.
      rw (e3, e4, e5, e6, e7, i.reads body t7 rest g low f s7) refl)))))
  range-reads place (l.Reference head) x y body ts rest g low f s =
      split (reference_written head) s (λ t3 a3 s3.
      at_word s3 (λ o4 t4 e4 s4. plain_word s4 (λ o5 p5 t5 e5 s5. at_word s5 (λ o6 t6 e6 s6. plain_word s6 (λ o7 p7 t7 e7 s7.
      rw (head-begins head _ ts rest s, head-reads head ts t3 a3, e4, e5, e6, e7, i.reads body t7 rest g low f s7) refl)))))

  does-reads : (e : Effect) (ts rest : List Token) → IsEffect e → effect_height e ≤ depth_left
      → Spelled (effect_written e ++ v.mark m.Semicolon ∷ []) ts rest
      → stmt_by inner depth_left (kind_at ts) ts ≡ Ok ((t.does (here ts) e, effect_height e + 1), rest)
  unfolding effect_stmt mark
  does-reads e ts rest g l s =
      split (effect_written e) s (λ mid a b.
      plain_word b (λ o place us e2 z.
      let e3 : us ≡ rest = z.spells in
      rw (
        does-kind inner depth_left (kind_at ts) (effect-begins e ts mid g a),
        effect-complete depth_left e ts mid g l (rw e2 semicolon-ends) a,
        e2,
        e3,
      ) refl))

  body-reads : (x : Stmt) (ts rest : List Token) → IsStmt x → stmt_height x ≤ suc depth_left → (ends_open x ≡ true → is_else (kind_at rest) ≡ false)
      → Spelled (stmt_written x) ts rest
      → stmt_by inner depth_left (kind_at ts) ts ≡ Ok ((x, stmt_height x), rest)
  unfolding choice otherwise loop for_loop return_stmt word_stmt mark identifier
  body-reads (t.block opens items closes) ts rest g l f s =
      let brace : kind_at ts ≡ k.Mark m.LeftBrace = at_word s (λ o us e a. rw e refl) in
      rw (brace, block-reads inner depth_left i opens closes items ts rest g (omega arith) s) refl
  body-reads (t.choice place c x) ts rest g l f s =
      at_word s (λ o us e a.
      condition-reads c (stmt_written x) us rest g.0 (omega arith) a (λ mid h b.
      let room_left : 0 < depth_left = omega (arith, stmt-height_some x) in
      rw (e, lt-ltb 0 depth_left room_left, h, i.reads x mid rest g.1 (omega arith) (λ _. f refl) b, f refl) refl))
  body-reads (t.choice_else place c x y) ts rest g l f s =
      at_word s (λ o us e a.
      condition-reads c _ us rest g.0 (omega arith) a (λ mid h b.
      let room_left : 0 < depth_left = omega (arith, stmt-height_some x) in
      split (stmt_written x) b (λ mid2 d z.
      plain_word z (λ o2 place2 vs e2 w2.
      rw (
        e,
        lt-ltb 0 depth_left room_left,
        h,
        i.reads x mid mid2 g.1 (omega arith) (λ is_open. absurd (false≢true (sym g.2 ∙ is_open))) d,
        e2,
        i.reads y vs rest g.3 (omega arith) f w2,
      ) refl))))
  body-reads (t.while place c x) ts rest g l f s =
      at_word s (λ o us e a.
      condition-reads c (stmt_written x) us rest g.0 (omega arith) a (λ mid h b.
      let room_left : 0 < depth_left = omega (arith, stmt-height_some x) in
      rw (e, lt-ltb 0 depth_left room_left, h, i.reads x mid rest g.1 (omega arith) f b) refl))
  body-reads (t.for place first c step x) ts rest g l f s =
      at_word s (λ o us e a.
      plain_word a (λ o2 place2 vs e2 b.
      let room_left : 0 < depth_left = omega (arith, stmt-height_some x) in
      rw (e, lt-ltb 0 depth_left room_left, e2) (first-reads place first c step x vs rest g.0 g.1 g.2 g.3 l f b)))
  body-reads (t.range_for place e x y body) ts rest g l f s =
      at_word s (λ o1 t1 e1 s1. plain_word s1 (λ o2 p2 t2 e2 s2.
      let room_left : 0 < depth_left = omega (arith, stmt-height_some body) in
      rw (e1, lt-ltb 0 depth_left room_left, e2) (range-reads place e x y body t2 rest g (omega arith) f s2)))
  body-reads (t.break place) ts rest g l f s =
      at_word s (λ o us e a. plain_word a (λ o2 p2 vs e2 b. let e3 : vs ≡ rest = b.spells in rw (e, e2, e3) refl))
  body-reads (t.continue place) ts rest g l f s =
      at_word s (λ o us e a. plain_word a (λ o2 p2 vs e2 b. let e3 : vs ≡ rest = b.spells in rw (e, e2, e3) refl))
  body-reads (t.gives_back place None) ts rest g l f s =
      at_word s (λ o us e a. plain_word a (λ o2 p2 vs e2 b. let e3 : vs ≡ rest = b.spells in rw (e, e2, e3) refl))
  body-reads (t.gives_back place (Some x)) ts rest g l f s =
      at_word s (λ o us e a.
      split (written x) a (λ mid b d.
      plain_word d (λ o2 p2 vs e2 z.
      let e3 : vs ≡ rest = z.spells in
      rw (
        e,
        semicolon-close.begins (kind_at us) (expr-begins x us mid g b),
        (whole-complete (depth_left + 1)).reads x us mid g (omega arith) (rw e2 semicolon-ends.ends) b,
        e2,
        e3,
      ) refl)))
  body-reads (t.does place e) ts rest g l f s =
      let h = from_word place (effect_written e ++ v.mark m.Semicolon ∷ []) (does-some e) s in
      let at : place ≡ here ts = h.1 in
      rw at (does-reads e ts rest g (omega arith) h.0)

-- The words of a statement, where no `else` follows that it would take, are read as that statement.
pub stmt-complete : (depth_left : ℕ) → ReadsStmts depth_left (stmt depth_left)
unfolding stmt
stmt-complete zero = record { reads = λ x ts rest g l f s. absurd (omega (arith, stmt-height_some x)) }
stmt-complete (suc depth_left) =
    record { reads = λ x ts rest g l f s. body-reads (stmt depth_left) depth_left (stmt-complete depth_left) x ts rest g l f s }
