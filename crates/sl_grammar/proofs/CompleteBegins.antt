-- Which words begin effects, statements and items, and what is read where one of them stands.
use Rattle.std.proofs.Common.{◌≡◌, ℕ, ◌-◌, ◌<◌, ◌≤◌, Bool, true, false, List, [], ◌∷◌, ◌++◌, length, drop, None, Some, refl, arith, length-append}
use Rattle.std.specs.Prelude.{nat_lt}
use Rattle.std.proofs.lemmas.Bool.{false≢true, lt-ltb}
use Rattle.sl_base.specs.declared.mark.Mark.TheVariants as m
use Rattle.sl_base.specs.declared.place.Place.{Place}
use Rattle.sl_base.specs.declared.scalar.Scalar.{Scalar}
use Rattle.sl_base.specs.declared.scalar.Scalar.TheVariants as c
use Rattle.sl_base.specs.declared.token.Token.{Token}
use Rattle.sl_syntax.specs.declared.token_kind.TokenKind.{TokenKind}
use Rattle.sl_syntax.specs.declared.token_kind.TokenKind.TheVariants as k
use Rattle.sl_syntax.specs.declared.tree.element.ElementType.{ElementType}
use Rattle.sl_syntax.specs.declared.tree.element.ElementType.TheVariants as y
use Rattle.sl_syntax.specs.declared.tree.element.ReferenceHead.{ReferenceHead}
use Rattle.sl_syntax.specs.Depth.{declaration_height, stmt_height}
use Rattle.sl_syntax.specs.Shaped.{IsCond, IsStmt, IsItem}
use Rattle.sl_syntax.specs.Tree as t
use Rattle.sl_syntax.specs.Tree.{Cond, Declaration, Stmt, Item}
use Rattle.sl_syntax.specs.Written.{Written, cond_written, declaration_written, container_written, effect_written, stmt_written, item_written}
use Rattle.sl_syntax.specs.Written.{from_place, reference_words, reference_written}
use Rattle.sl_syntax.specs.Written as v
use Rattle.sl_grammar.specs.Means.Declarations.{begins_head}
use Rattle.sl_grammar.specs.Means.Effects.{effect}
use Rattle.sl_grammar.specs.Means.Statements.{is_else, is_item, declared, item, item_by, for_behind, for_by, effect_stmt, stmt_by}
use Rattle.sl_grammar.specs.Means.Steps.{Reader, Tall, ◌>>=◌, pure, only, kind_at, is_mark}
use Rattle.sl_grammar.proofs.CompleteDeclarations.{reader_of, type-kind, head-begins}
use Rattle.sl_grammar.proofs.CompleteEffects.{and-false, EndsEffect, begins_effect, begins-effect, effect-begins, effect-some}
use Rattle.sl_grammar.proofs.CompleteKinds.{expr-begins, scalar-kind}
use Rattle.sl_grammar.proofs.KindLaws.{not_mark}
use Rattle.sl_grammar.proofs.Spelling.{Spelled, split, at_word, from_word}

pub semicolon-ends : EndsEffect (k.Mark m.Semicolon)
semicolon-ends =
    record { ends = record { stops = omega arith; not_call = refl }; no_read = refl; no_print = refl; no_assignment = λ depth_left. refl }

pub parenthesis-ends : EndsEffect (k.Mark m.RightParenthesis)
parenthesis-ends =
    record { ends = record { stops = omega arith; not_call = refl }; no_read = refl; no_print = refl; no_assignment = λ depth_left. refl }

pub effect-not_semicolon : (kind : TokenKind) → begins_effect kind ≡ true → is_mark m.Semicolon kind ≡ false
effect-not_semicolon kind h = not_mark begins_effect m.Semicolon kind refl h

pub effect-not_parenthesis : (kind : TokenKind) → begins_effect kind ≡ true → is_mark m.RightParenthesis kind ≡ false
effect-not_parenthesis kind h = not_mark begins_effect m.RightParenthesis kind refl h

pub cond-begins : (c : Cond) (ts rest : List Token) → IsCond c → Spelled (cond_written c) ts rest → begins_effect (kind_at ts) ≡ true
cond-begins (t.tests_read r) ts rest g s = at_word s (λ o us e a. rw e refl)
cond-begins (t.tests_no_read place r) ts rest g s = at_word s (λ o us e a. rw e refl)
cond-begins (t.tests x) ts rest g s = begins-effect (kind_at ts) (expr-begins x ts rest g s)

-- the word begins a statement
abbrev pub begins_stmt : TokenKind → Bool
begins_stmt (k.Mark m.LeftBrace) = true
begins_stmt k.If = true
begins_stmt k.While = true
begins_stmt k.For = true
begins_stmt k.Break = true
begins_stmt k.Continue = true
begins_stmt k.Return = true
begins_stmt kind = begins_effect kind

pub begins-stmt : (kind : TokenKind) → begins_effect kind ≡ true → begins_stmt kind ≡ true
begins-stmt (k.Mark m.LeftBrace) h = refl
begins-stmt (k.Mark _) h = h
begins-stmt k.If h = refl
begins-stmt k.While h = refl
begins-stmt k.For h = refl
begins-stmt k.Break h = refl
begins-stmt k.Continue h = refl
begins-stmt k.Return h = refl
begins-stmt _ h = h

pub does-some : (e : _) → 1 ≤ length (effect_written e ++ v.mark m.Semicolon ∷ [])
does-some e = rw length-append (omega (arith, effect-some e))

pub stmt-begins : (x : Stmt) (ts rest : List Token) → IsStmt x → Spelled (stmt_written x) ts rest → begins_stmt (kind_at ts) ≡ true
stmt-begins (t.does place e) ts rest g s =
    split (effect_written e) (from_word place (effect_written e ++ v.mark m.Semicolon ∷ []) (does-some e) s).0
    (λ mid a b. begins-stmt (kind_at ts) (effect-begins e ts mid g a))
stmt-begins _ ts rest g s = at_word s (λ o us e a. rw e refl)

-- the word begins an item
abbrev pub begins_item : TokenKind → Bool
begins_item (k.Scalar s) = true
begins_item k.Auto = true
begins_item k.Const = true
begins_item (k.Container f) = true
begins_item kind = begins_stmt kind

begins-item : (kind : TokenKind) → begins_stmt kind ≡ true → begins_item kind ≡ true
begins-item (k.Scalar s) h = refl
begins-item k.Auto h = refl
begins-item k.Const h = refl
begins-item (k.Container f) h = refl
begins-item _ h = h

-- the type of a reference begins an item
head-begins_item : (h : ReferenceHead) (ts rest : List Token) → Spelled (reference_written h) ts rest → begins_item (kind_at ts) ≡ true
head-begins_item h ts rest s = by-parts h.place h.is_const h.element s
  where
    by-parts : (place : Place) (is_const : Bool) (x : ElementType) → Spelled (from_place place (reference_words is_const x)) ts rest
        → begins_item (kind_at ts) ≡ true
    by-parts place true x s = at_word s (λ o us e a. rw e refl)
    by-parts place false y.Int s = at_word s (λ o us e a. rw e refl)
    by-parts place false y.Auto s = at_word s (λ o us e a. rw e refl)

-- no statement begins with the type of a reference
pub stmt-no_reference : (kind second : TokenKind) → begins_stmt kind ≡ true → begins_head kind second ≡ false
stmt-no_reference (k.Scalar s) second h = absurd (false≢true h)
stmt-no_reference k.Auto second h = absurd (false≢true h)
stmt-no_reference k.Const second h = absurd (false≢true h)
stmt-no_reference _ second h = refl

-- a number's type before a name isn't that of a reference
pub scalar-no_reference : (s : Scalar) → begins_head (k.Scalar s) k.Name ≡ false
scalar-no_reference c.Int = refl
scalar-no_reference _ = refl

-- A declaration begins an item, and is read as one where there is depth for it.
pub record Opens (d : Declaration) (ts : List Token) : Type 0 where
  pub begins : begins_item (kind_at ts) ≡ true
  pub reads : (inner : Reader (Tall Stmt)) (depth_left : ℕ) → declaration_height d < depth_left
      → item depth_left inner ts ≡ declared depth_left (reader_of (depth_left - 2) d) ts

-- one that is no reference, by the kind of its first word
opens : (d : Declaration) (kind : TokenKind) (ts : List Token) → kind_at ts ≡ kind → begins_item kind ≡ true → 1 ≤ declaration_height d
    → begins_head kind (kind_at (drop 1 ts)) ≡ false
    → ((inner : Reader (Tall Stmt)) (depth_left : ℕ)
    → item_by depth_left inner kind ≡ only (nat_lt 1 depth_left) (declared depth_left (reader_of (depth_left - 2) d)))
    → Opens d ts
unfolding item
opens d kind ts e begins high no_head by = record {
  begins = rw e begins;
  reads = λ inner depth_left low. rw (e, no_head, and-false, by inner depth_left, lt-ltb 1 depth_left (omega (arith, high, low))) refl;
}

pub declaration-opens : (d : Declaration) (ts rest : List Token) → Spelled (declaration_written d) ts rest → Opens d ts
unfolding item
declaration-opens (t.declares_scalar place s x None) ts rest h =
    at_word h (λ o1 t1 e1 s1. at_word s1 (λ o2 t2 e2 s2.
    opens (t.declares_scalar place s x None) (k.Scalar s) ts (rw e1 (scalar-kind s)) refl (omega arith) (rw (e1, e2) (scalar-no_reference s))
    (λ inner depth_left. refl)))
declaration-opens (t.declares_scalar place s x (Some y)) ts rest h =
    at_word h (λ o1 t1 e1 s1. at_word s1 (λ o2 t2 e2 s2.
    opens (t.declares_scalar place s x (Some y)) (k.Scalar s) ts (rw e1 (scalar-kind s)) refl (omega arith) (rw (e1, e2) (scalar-no_reference s))
    (λ inner depth_left. refl)))
declaration-opens (t.declares_auto place x y) ts rest h =
    at_word h (λ o1 t1 e1 s1. at_word s1 (λ o2 t2 e2 s2.
    opens (t.declares_auto place x y) k.Auto ts (rw e1 refl) refl (omega arith) (rw (e1, e2) refl) (λ inner depth_left. refl)))
declaration-opens (t.declares_reference head x y) ts rest h = record {
  begins = split (reference_written head) h (λ mid a b. head-begins_item head ts mid a);
  reads = λ inner depth_left low. rw (lt-ltb 2 depth_left (omega (arith, low)), head-begins head _ ts rest h) refl;
}
declaration-opens (t.declares_container c x i) ts rest h =
    split (container_written c) h (λ mid a b.
    opens (t.declares_container c x i) (k.Container c.form) ts (type-kind c ts mid a) refl (omega arith) refl (λ inner depth_left. refl))

pub item-begins : (x : Item) (ts rest : List Token) → IsItem x → Spelled (item_written x) ts rest → begins_item (kind_at ts) ≡ true
item-begins (t.declares d) ts rest g s = split (declaration_written d) s (λ mid a b. (declaration-opens d ts mid a).begins)
item-begins (t.states x) ts rest g s = begins-item (kind_at ts) (stmt-begins x ts rest g s)

pub item-not_else : (kind : TokenKind) → begins_item kind ≡ true → is_else kind ≡ false
item-not_else k.Else h = absurd (false≢true h)
item-not_else _ h = refl

pub item-goes_on : (kind : TokenKind) → begins_item kind ≡ true → is_item kind ≡ true
item-goes_on (k.Mark m.RightBrace) h = absurd (false≢true h)
item-goes_on (k.Mark _) h = refl
item-goes_on _ h = refl

pub declaration-height_some : (d : Declaration) → 1 ≤ declaration_height d
declaration-height_some (t.declares_scalar place s x y) = omega arith
declaration-height_some _ = omega arith

pub stmt-height_some : (x : Stmt) → 1 ≤ stmt_height x
stmt-height_some (t.block opens items closes) = omega arith
stmt-height_some _ = omega arith

-- an item has a word at least
from-length : (place : Place) (xs : List Written) → length (from_place place xs) ≡ length xs
from-length place [] = refl
from-length place (x ∷ xs) = refl

stmt-some : (x : Stmt) → 1 ≤ length (stmt_written x)
stmt-some (t.does place e) = omega (arith, from-length place (effect_written e ++ v.mark m.Semicolon ∷ []), does-some e)
stmt-some _ = omega arith

declaration-some : (d : Declaration) → 1 ≤ length (declaration_written d)
declaration-some (t.declares_scalar place s x None) = omega arith
declaration-some (t.declares_scalar place s x (Some y)) = omega arith
declaration-some (t.declares_auto place x y) = omega arith
declaration-some (t.declares_reference head x y) = rw length-append (omega arith)
declaration-some (t.declares_container c x i) = omega arith

pub item-some : (x : Item) → 1 ≤ length (item_written x)
item-some (t.declares d) = rw length-append (omega (arith, declaration-some d))
item-some (t.states x) = stmt-some x

module _ (inner : Reader (Tall Stmt)) (depth_left : ℕ) where
  pub stated-kind : (kind : TokenKind) → begins_stmt kind ≡ true → item_by depth_left inner kind ≡ (inner >>= (λ s. pure (t.states s.0, s.1)))
  stated-kind (k.Scalar s) h = absurd (false≢true h)
  stated-kind k.Auto h = absurd (false≢true h)
  stated-kind (k.Container f) h = absurd (false≢true h)
  stated-kind _ h = refl

  pub for-kind : (place : Place) (kind : TokenKind) → begins_effect kind ≡ true
      → for_by inner depth_left place kind ≡ (effect depth_left >>= (λ e. for_behind inner depth_left place (Some (t.first_effect e.0), e.1)))
  for-kind place (k.Scalar s) h = absurd (false≢true h)
  for-kind place k.Auto h = absurd (false≢true h)
  for-kind place (k.Mark m.Semicolon) h = absurd (false≢true h)
  for-kind place (k.Mark _) h = refl
  for-kind place _ h = refl

  pub does-kind : (kind : TokenKind) → begins_effect kind ≡ true → stmt_by inner depth_left kind ≡ effect_stmt inner depth_left
  does-kind (k.Mark m.LeftBrace) h = absurd (false≢true h)
  does-kind (k.Mark _) h = refl
  does-kind k.If h = absurd (false≢true h)
  does-kind k.While h = absurd (false≢true h)
  does-kind k.For h = absurd (false≢true h)
  does-kind k.Break h = absurd (false≢true h)
  does-kind k.Continue h = absurd (false≢true h)
  does-kind k.Return h = absurd (false≢true h)
  does-kind _ h = refl
