-- The readers of the types of references, iterators and results do the same up to a point, and so does a choice by whether a reference begins.
use Rattle.std.proofs.Common.{◌≡◌, ℕ, ◌+◌, ◌<◌, ◌≤◌, max, ◌&&◌, Bool, true, false, if◌then◌else◌, List, [], ◌∷◌, length, refl, sym, ◌∙◌, ap, subst}
use Rattle.std.proofs.Common.{arith}
use Rattle.std.proofs.lemmas.Bool.{false≢true}
use Rattle.sl_base.specs.declared.mark.Mark.TheVariants as m
use Rattle.sl_base.specs.declared.place.Place.{Place}
use Rattle.sl_base.specs.declared.scalar.Scalar.TheVariants as c
use Rattle.sl_base.specs.declared.token.Token.{Token}
use Rattle.sl_syntax.specs.declared.token_kind.TokenKind.{TokenKind}
use Rattle.sl_syntax.specs.declared.token_kind.TokenKind.TheVariants as k
use Rattle.sl_syntax.specs.declared.tree.declaration.ContainerType.{ContainerType}
use Rattle.sl_syntax.specs.declared.tree.element.ElementType.{ElementType}
use Rattle.sl_syntax.specs.declared.tree.element.ElementType.TheVariants as y
use Rattle.sl_syntax.specs.declared.tree.element.ReferenceHead.{ReferenceHead}
use Rattle.sl_syntax.specs.TokenKinds.{kind_of}
use Rattle.sl_syntax.specs.Tree as t
use Rattle.sl_syntax.specs.Tree.{Declaration}
use Rattle.sl_grammar.specs.Means.Declarations.{iterator_behind, element_by, open_head, head_by, reference_head, begins_head, begins_reference}
use Rattle.sl_grammar.specs.Means.Declarations.{reference_declaration, result_by, result}
use Rattle.sl_grammar.specs.Means.Expressions.{expr}
use Rattle.sl_grammar.specs.Means.Steps.{Outcome, Reader, Tall, ◌>>=◌, ◌>>◌, pure, kind_at, here, mark, identifier}
use Rattle.sl_grammar.proofs.NearDeclarations.{container_type-near}
use Rattle.sl_grammar.proofs.NearExpressions.{expr-near}
use Rattle.sl_grammar.proofs.NearSteps.{Same, step, end, cut, Agree, past, left_over, left-within, bind-left, Near, Twins, Level, Any, plain, tall}
use Rattle.sl_grammar.proofs.NearSteps.{yields, refuses, skipped, known, taken, choose, either, mark-near, identifier-near}

-- what is read behind the type of an element
abbrev head_behind : Bool → Place → ElementType → Reader ReferenceHead
head_behind is_const place element = do
  mark m.And
  pure (record { place = place; is_const = is_const; element = element })

-- what is read behind the type of a reference
abbrev reference_behind : ℕ → ReferenceHead → Reader (Tall Declaration)
reference_behind depth_left head = do
  x ← identifier
  mark m.Equal
  v ← expr (depth_left + 1) 1
  pure (t.declares_reference head x v.0, max 1 v.1 + 1)

module _ {b : ℕ} where
  pub iterator_behind-near : (type type' : ContainerType) → Twins b 1 Any (iterator_behind type) (iterator_behind type')
  unfolding iterator_behind
  iterator_behind-near type type' s s' = plain (mark-near m.ColonColon s s') (λ _ _ s s'. plain (identifier-near s s') (λ _ _ _ _. yields tt))

  element_at-near : (kind : TokenKind) (s s' : List Token) → 1 ≤ length s → 1 ≤ length s' → Near b 1 Any s s' (element_by kind s) (element_by kind s')
  element_at-near (k.Scalar c.Int) s s' l l' = taken l l' tt
  element_at-near k.Auto s s' l l' = taken l l' tt
  element_at-near _ s s' l l' = refuses

  element-near : Twins b 1 Any (λ s. element_by (kind_at s) s) (λ s. element_by (kind_at s) s)
  element-near s s' = known element_by element_by (λ _ _. refuses) element_at-near s s'

  head_behind-near : (is_const : Bool) (place place' : Place) (x x' : ElementType)
      → Twins b 1 Any (head_behind is_const place x) (head_behind is_const place' x')
  head_behind-near is_const place place' x x' s s' = plain (mark-near m.And s s') (λ _ _ _ _. yields tt)

  open_head-near : (is_const : Bool) (place place' : Place) → Twins b 1 Any (open_head is_const place) (open_head is_const place')
  open_head-near is_const place place' s s' = plain (element-near s s') (head_behind-near is_const place place')

  head_by-near : (kind : TokenKind) (place place' : Place) → Twins b 1 Any (head_by kind place) (head_by kind place')
  head_by-near k.Const place place' s s' = skipped (open_head-near true place place' _ _)
  head_by-near _ place place' s s' = open_head-near false place place' s s'

  pub reference_head-near : Twins b 1 Any reference_head reference_head
  unfolding reference_head
  reference_head-near s s' =
      choose (λ kind. head_by kind (here s) s) (λ kind. head_by kind (here s') s') (λ kind. head_by-near kind (here s) (here s') s s')

  reference_behind-near : (depth_left : ℕ) (head head' : ReferenceHead)
      → Twins b 1 Level (reference_behind depth_left head) (reference_behind depth_left head')
  reference_behind-near depth_left head head' s s' = plain (identifier-near s s') (λ _ _ s s'. plain (mark-near m.Equal s s')
      (λ _ _ s s'. tall _ _ (expr-near (depth_left + 1) 1 s s') (λ _ _ _ _ _. yields refl)))

  pub reference_declaration-near : (depth_left : ℕ) → Twins b 1 Level (reference_declaration depth_left) (reference_declaration depth_left)
  unfolding reference_declaration
  reference_declaration-near depth_left s s' = plain (reference_head-near s s') (reference_behind-near depth_left)

  result_at-near : (kind : TokenKind) (s s' : List Token) → 1 ≤ length s → 1 ≤ length s' → Near b 1 Level s s' (result_by kind s) (result_by kind s')
  result_at-near k.Void s s' l l' = taken l l' refl
  result_at-near (k.Scalar scalar) s s' l l' = taken l l' refl
  result_at-near (k.Container form) s s' l l' = plain (container_type-near form s s')
      (λ _ _ s s'. plain (iterator_behind-near _ _ s s') (λ _ _ _ _. yields refl))
  result_at-near _ s s' l l' = refuses

  pub result-near : Twins b 1 Level result result
  unfolding result
  result-near s s' = known result_by result_by (λ _ _. refuses) result_at-near s s'

-- a word that may begin a type that is no reference's, too
abbrev pub begins_element : TokenKind → Bool
begins_element (k.Scalar c.Int) = true
begins_element k.Auto = true
begins_element _ = false

-- of any other the next word isn't looked at
first-tells : (kind second second' : TokenKind) → begins_element kind ≡ false → begins_head kind second ≡ begins_head kind second'
first-tells (k.Scalar c.Int) second second' h = absurd (false≢true (sym h))
first-tells (k.Scalar _) second second' h = refl
first-tells k.Auto second second' h = absurd (false≢true (sym h))
first-tells _ second second' h = refl

-- Where such a word begins the type of a reference, it is taken.
pub head-left : (x : Token) (ts : List Token) → begins_element (kind_of x.word) ≡ true → left_over (reference_head (x ∷ ts)) ≤ length ts
unfolding reference_head
head-left x ts h = by-kind (kind_of x.word) refl h
  where
    behind-left : (y : ElementType) → left_over (head_behind false x.place y ts) ≤ length ts
    behind-left y = left-within 1 (length ts) (head_behind false x.place y ts) (head_behind-near {b = 0} false x.place x.place y y ts ts).within

    by-kind : (kind : TokenKind) → kind_of x.word ≡ kind → begins_element kind ≡ true → left_over (head_by kind x.place (x ∷ ts)) ≤ length ts
    by-kind (k.Scalar c.Int) e h = rw e (behind-left y.Int)
    by-kind (k.Scalar _) e h = absurd (false≢true h)
    by-kind k.Auto e h = rw e (behind-left y.Auto)
    by-kind _ e h = absurd (false≢true h)

pub reference-left : (depth_left : ℕ) (x : Token) (ts : List Token) → begins_element (kind_of x.word) ≡ true
    → left_over (reference_declaration depth_left (x ∷ ts)) ≤ length ts
unfolding reference_declaration
reference-left depth_left x ts h =
    omega (
      arith,
      head-left x ts h,
      bind-left 1 (reference_head (x ∷ ts)) (reference_behind depth_left)
          (λ head u. (reference_behind-near {b = 0} depth_left head head u u).within),
    )

-- A choice by whether a reference begins, under a test: both readings take a word that may begin other types.
module _ {A : Type 0} {b d : ℕ} {R : A → A → Type 0} (test : Bool) (F F' G G' : Reader A) (f : Twins b d R F F') (g : Twins b d R G G')
    (both_take : (x : Token) (ts : List Token) → test ≡ true → begins_element (kind_of x.word) ≡ true
    → (left_over (F (x ∷ ts)) ≤ length ts) × (left_over (G (x ∷ ts)) ≤ length ts)) where
  abbrev pub by_reference : Bool → Reader A → Reader A → Reader A
  by_reference t F G = λ s. if t && begins_reference s then F s else G s

  abbrev first_by : Bool → List Token → Outcome A
  first_by t s = if t then F s else G s

  abbrev second_by : Bool → List Token → Outcome A
  second_by t s = if t then F' s else G' s

  same-test : (t t' : Bool) (s s' : List Token) → t ≡ t' → Same b s s' → Agree b R (first_by t s) (second_by t' s')
  same-test t t' s s' e q = subst (λ z. Agree b R (first_by t s) (second_by z s')) e ((either t (f s s') (g s s')).agrees q)

  takes : (t : Bool) (x : Token) (ts : List Token) → test ≡ true → begins_element (kind_of x.word) ≡ true → left_over (first_by t (x ∷ ts)) ≤ length ts
  takes true x ts on h = (both_take x ts on h).0
  takes false x ts on h = (both_take x ts on h).1

  -- a word of which both readings have the same, and nothing behind it
  one-word : (x x' : Token) (ts ts' : List Token) (t : Bool) → x.word ≡ x'.word → length ts < b → begins_element (kind_of x.word) ≡ t
      → (on : Bool) → test ≡ on → Agree b R (first_by (on && begins_reference (x ∷ ts)) (x ∷ ts)) (second_by (on && begins_reference (x' ∷ ts')) (x' ∷ ts'))
  one-word x x' ts ts' t q l e false o = same-test false false (x ∷ ts) (x' ∷ ts') refl (step x x' ts ts' q (cut ts ts' l))
  one-word x x' ts ts' true q l e true o =
      past (first_by (begins_reference (x ∷ ts)) (x ∷ ts)) (second_by (begins_reference (x' ∷ ts')) (x' ∷ ts'))
      (omega (arith, l, takes (begins_reference (x ∷ ts)) x ts o e))
  one-word x x' ts ts' false q l e true o =
      same-test (begins_reference (x ∷ ts)) (begins_reference (x' ∷ ts')) (x ∷ ts) (x' ∷ ts')
      (first-tells (kind_of x.word) (kind_at ts) (kind_at ts') e ∙ ap (λ z. begins_head (kind_of z) (kind_at ts')) q)
      (step x x' ts ts' q (cut ts ts' l))

  agrees-here : (s s' : List Token) → Same b s s' → Agree b R (by_reference test F G s) (by_reference test F' G' s')
  agrees-here _ _ end = same-test (test && begins_reference []) (test && begins_reference []) [] [] refl end
  agrees-here _ _ (cut s s' l) =
      past (first_by (test && begins_reference s) s) (second_by (test && begins_reference s') s')
      (omega (arith, l, left-within d (length s) (first_by (test && begins_reference s) s) (either {b = b} (test && begins_reference s) (f s s) (g s s)).within))
  agrees-here _ _ (step x x' _ _ q end) =
      same-test (test && begins_reference (x ∷ [])) (test && begins_reference (x' ∷ [])) (x ∷ []) (x' ∷ [])
      (ap (λ z. test && begins_head (kind_of z) k.End) q) (step x x' [] [] q end)
  agrees-here _ _ (step x x' _ _ q (cut ts ts' l)) = one-word x x' ts ts' (begins_element (kind_of x.word)) q l refl test refl
  agrees-here _ _ (step x x' _ _ q (step z z' ts ts' p same)) =
      same-test (test && begins_reference (x ∷ z ∷ ts)) (test && begins_reference (x' ∷ z' ∷ ts')) (x ∷ z ∷ ts) (x' ∷ z' ∷ ts')
      (ap (λ v. test && begins_head (kind_of v) (kind_of z.word)) q ∙ ap (λ v. test && begins_head (kind_of x'.word) (kind_of v)) p)
      (step x x' (z ∷ ts) (z' ∷ ts') q (step z z' ts ts' p same))

  pub by_reference-near : Twins b d R (by_reference test F G) (by_reference test F' G')
  by_reference-near s s' = record {
    agrees = agrees-here s s';
    within = (either {b = b} (test && begins_reference s) (f s s) (g s s)).within;
    within' = (either {b = b} (test && begins_reference s') (f s' s') (g s' s')).within';
  }
