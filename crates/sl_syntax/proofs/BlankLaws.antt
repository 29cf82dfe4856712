-- A blank tree has the words of the tree, and is written by any tokens of those words that all stand at the one place.
use Rattle.std.proofs.Common.{◌≡◌, refl, ap, subst, sym, ◌∙◌, Bool, true, false, List, [], ◌∷◌, ◌++◌, map, flat_map, Option, Some, None, option_map}
use Rattle.std.proofs.Common.{codes}
use Rattle.std.proofs.lemmas.List.{map-append, append-nil}
use Rattle.sl_base.specs.declared.mark.Mark.TheVariants as m
use Rattle.sl_base.specs.declared.place.Place.{Place}
use Rattle.sl_base.specs.declared.token.Token.{Token}
use Rattle.sl_base.specs.declared.word.Word.TheVariants as w
use Rattle.sl_syntax.specs.declared.tree.declaration.ContainerType.{ContainerType}
use Rattle.sl_syntax.specs.declared.tree.effect.Read.{Read}
use Rattle.sl_syntax.specs.declared.tree.element.Element.{Element}
use Rattle.sl_syntax.specs.declared.tree.element.Element.TheVariants as l
use Rattle.sl_syntax.specs.declared.tree.element.ElementType.{ElementType}
use Rattle.sl_syntax.specs.declared.tree.element.ReferenceHead.{ReferenceHead}
use Rattle.sl_syntax.specs.declared.tree.function.IteratorType.{IteratorType}
use Rattle.sl_syntax.specs.declared.tree.function.Param.{Param}
use Rattle.sl_syntax.specs.declared.tree.function.Param.TheVariants as r
use Rattle.sl_syntax.specs.declared.tree.function.ResultType.{ResultType}
use Rattle.sl_syntax.specs.declared.tree.function.ResultType.TheVariants as z
use Rattle.sl_syntax.specs.declared.tree.identifier.Identifier.{Identifier}
use Rattle.sl_syntax.specs.Tree as t
use Rattle.sl_syntax.specs.Tree.{Expr, Exprs, Initializer, Declaration, Out, Effect, Cond, First, Stmt, Item, Items, Function, Program}
use Rattle.sl_syntax.specs.Blank.{nowhere, blank_token, blank_identifier, blank_container, blank_expr, blank_exprs, blank_initializer}
use Rattle.sl_syntax.specs.Blank.{blank_declaration, blank_read, blank_out, blank_effect, blank_cond, blank_first, blank_stmt, blank_item}
use Rattle.sl_syntax.specs.Blank.{blank_items, blank_param, blank_function, blank, blank_iterator, blank_reference, blank_element, blank_result}
use Rattle.sl_syntax.specs.Placed.{Spells, Placed}
use Rattle.sl_syntax.specs.Shaped.{Each}
use Rattle.sl_syntax.specs.Written.{Written, at, plain, mark, named, from_place, form_word, is_map, elements_written, container_written}
use Rattle.sl_syntax.specs.Written.{iterator_written, reference_words, reference_written, element_written, result_written}
use Rattle.sl_syntax.specs.Written.{written, list_written, rest_written, initializer_written, declaration_written, out_written, read_written}
use Rattle.sl_syntax.specs.Written.{effect_written, cond_written, first_written, option_written, tested, stmt_written, item_written, items_written}
use Rattle.sl_syntax.specs.Written.{param_written, params_written, function_written, program_written, words_of, words}

-- the same word, each place that is told of it the one place
abbrev pub blank_written : Written → Written
blank_written x = record { word = x.word; told = map (λ _. nowhere) x.told }

-- Words beside words.
beside : (xs ys us vs : List Written) → us ≡ map blank_written xs → vs ≡ map blank_written ys → us ++ vs ≡ map blank_written (xs ++ ys)
beside xs ys us vs e h = rw (e, h) (sym (map-append blank_written xs ys))

mutual
  pub blank-written : (x : Expr) → written (blank_expr x) ≡ map blank_written (written x)
  blank-written (t.number place n) = refl
  blank-written (t.truth place v) = refl
  blank-written (t.name x) = refl
  blank-written (t.call f xs) = rw (map-append blank_written, blank-list_written xs) refl
  blank-written (t.library_call f xs) = rw (map-append blank_written, blank-list_written xs) refl
  blank-written (t.parentheses place x) = rw (map-append blank_written, blank-written x) refl
  blank-written (t.prefix op place x) = rw (blank-written x) refl
  blank-written (t.binary x op place y) = rw (map-append blank_written, blank-written x, blank-written y) refl
  blank-written (t.postfix x op place) = rw (map-append blank_written, blank-written x) refl
  blank-written (t.index x place y) = simp (map-append blank_written, blank-written x, blank-written y) refl
  blank-written (t.member_call x f xs) = simp (map-append blank_written, blank-written x, blank-list_written xs) refl
  blank-written (t.member x s place f) = rw (map-append blank_written, blank-written x) refl

  pub blank-list_written : (xs : Exprs) → list_written (blank_exprs xs) ≡ map blank_written (list_written xs)
  blank-list_written t.none = refl
  blank-list_written (t.with x xs) = rw (map-append blank_written, blank-written x, blank-rest_written xs) refl

  pub blank-rest_written : (xs : Exprs) → rest_written (blank_exprs xs) ≡ map blank_written (rest_written xs)
  blank-rest_written t.none = refl
  blank-rest_written (t.with x xs) = rw (map-append blank_written, blank-written x, blank-rest_written xs) refl

pub blank-initializer_written : (x : Initializer) → initializer_written (blank_initializer x) ≡ map blank_written (initializer_written x)
blank-initializer_written t.absent = refl
blank-initializer_written (t.copies x) = refl
blank-initializer_written (t.braces true xs) = rw (map-append blank_written, blank-list_written xs) refl
blank-initializer_written (t.braces false xs) = rw (map-append blank_written, blank-list_written xs) refl
blank-initializer_written (t.arguments xs) = rw (map-append blank_written, blank-list_written xs) refl

blank-elements_written : (b : Bool) → elements_written b ≡ map blank_written (elements_written b)
blank-elements_written true = refl
blank-elements_written false = refl

blank-container_written : (x : ContainerType) → container_written (blank_container x) ≡ map blank_written (container_written x)
blank-container_written x = ap (λ (l : List Written). at nowhere (form_word x.form) ∷ l) (blank-elements_written (is_map x.form))

-- a container's type, and what follows
after_container : (c : ContainerType) (ys vs : List Written) → vs ≡ map blank_written ys
    → container_written (blank_container c) ++ vs ≡ map blank_written (container_written c ++ ys)
after_container c ys vs h = beside (container_written c) ys (container_written (blank_container c)) vs (blank-container_written c) h

blank-from_place : (place : Place) (xs : List Written) → from_place nowhere (map blank_written xs) ≡ map blank_written (from_place place xs)
blank-from_place place [] = refl
blank-from_place place (x ∷ xs) = refl

blank-iterator_written : (x : IteratorType) → iterator_written (blank_iterator x) ≡ map blank_written (iterator_written x)
blank-iterator_written x = after_container x.container (mark m.ColonColon ∷ named x.name ∷ []) (mark m.ColonColon ∷ named (blank_identifier x.name) ∷ [])
    refl

blank-reference_words : (is_const : Bool) (x : ElementType) → reference_words is_const x ≡ map blank_written (reference_words is_const x)
blank-reference_words false x = refl
blank-reference_words true x = refl

blank-reference_written : (x : ReferenceHead) → reference_written (blank_reference x) ≡ map blank_written (reference_written x)
blank-reference_written x =
    ap (from_place nowhere) (blank-reference_words x.is_const x.element) ∙ blank-from_place x.place (reference_words x.is_const x.element)

blank-element_written : (x : Element) → element_written (blank_element x) ≡ map blank_written (element_written x)
blank-element_written (l.Value x) = refl
blank-element_written (l.Reference x) = blank-reference_written x

pub blank-declaration_written : (x : Declaration) → declaration_written (blank_declaration x) ≡ map blank_written (declaration_written x)
blank-declaration_written (t.declares_scalar place s x None) = refl
blank-declaration_written (t.declares_scalar place s x (Some v)) = rw (blank-written v) refl
blank-declaration_written (t.declares_auto place x v) = rw (blank-written v) refl
blank-declaration_written (t.declares_reference head x v) =
    beside (reference_written head) (named x ∷ mark m.Equal ∷ written v) (reference_written (blank_reference head))
    (named (blank_identifier x) ∷ mark m.Equal ∷ written (blank_expr v)) (blank-reference_written head) (rw (blank-written v) refl)
blank-declaration_written (t.declares_container c x i) =
    after_container c (named x ∷ initializer_written i) (named (blank_identifier x) ∷ initializer_written (blank_initializer i))
    (rw (blank-initializer_written i) refl)

pub blank-out_written : (x : Out) → out_written (blank_out x) ≡ map blank_written (out_written x)
blank-out_written (t.text place bytes) = refl
blank-out_written (t.end_line place) = refl
blank-out_written (t.value x) = blank-written x

read_from : (xs : List Identifier)
    → flat_map (λ x. mark m.ShiftRight ∷ named x ∷ []) (map blank_identifier xs)
    ≡ map blank_written (flat_map (λ x. mark m.ShiftRight ∷ named x ∷ []) xs)
read_from [] = refl
read_from (x ∷ xs) = rw (read_from xs) refl

pub blank-read_written : (x : Read) → read_written (blank_read x) ≡ map blank_written (read_written x)
blank-read_written x = rw (read_from x.variables) refl

print_from : (xs : List Out)
    → flat_map (λ x. mark m.ShiftLeft ∷ out_written x) (map blank_out xs) ≡ map blank_written (flat_map (λ x. mark m.ShiftLeft ∷ out_written x) xs)
print_from [] = refl
print_from (x ∷ xs) = rw (map-append blank_written, blank-out_written x, print_from xs) refl

pub blank-effect_written : (x : Effect) → effect_written (blank_effect x) ≡ map blank_written (effect_written x)
blank-effect_written (t.reads x) = blank-read_written x
blank-effect_written (t.prints place outs) = rw (print_from outs) refl
blank-effect_written (t.evaluates x) = blank-written x
blank-effect_written (t.assigns x op place y) = rw (map-append blank_written, blank-written x, blank-written y) refl

pub blank-cond_written : (x : Cond) → cond_written (blank_cond x) ≡ map blank_written (cond_written x)
blank-cond_written (t.tests_read x) = blank-read_written x
blank-cond_written (t.tests_no_read place x) = ap (λ (l : List Written). at nowhere (w.Mark m.Not) ∷ mark m.LeftParenthesis ∷ l)
    (beside (read_written x) (mark m.RightParenthesis ∷ []) (read_written (blank_read x)) (mark m.RightParenthesis ∷ []) (blank-read_written x) refl)
blank-cond_written (t.tests x) = blank-written x

pub blank-first_written : (x : First) → first_written (blank_first x) ≡ map blank_written (first_written x)
blank-first_written (t.first_scalar place s x v) = rw (blank-written v) refl
blank-first_written (t.first_auto place x v) = rw (blank-written v) refl
blank-first_written (t.first_effect e) = blank-effect_written e

blank-option : {A : Type 0} (write : A → List Written) (clear : A → A) → ((x : A) → write (clear x) ≡ map blank_written (write x))
    → (x : Option A) → option_written write (option_map clear x) ≡ map blank_written (option_written write x)
blank-option write clear each None = refl
blank-option write clear each (Some x) = each x

blank-tested : (c : Cond) (xs ys : List Written) → xs ≡ map blank_written ys → tested (blank_cond c) xs ≡ map blank_written (tested c ys)
blank-tested c xs ys h = rw (map-append blank_written, blank-cond_written c, h) refl

mutual
  pub blank-stmt_written : (x : Stmt) → stmt_written (blank_stmt x) ≡ map blank_written (stmt_written x)
  blank-stmt_written (t.block opens items closes) = rw (map-append blank_written, blank-items_written items) refl
  blank-stmt_written (t.choice place c x) = ap (λ (l : List Written). at nowhere (w.Key (codes "if")) ∷ l) (blank-tested c _ _ (blank-stmt_written x))
  blank-stmt_written (t.choice_else place c x y) = ap (λ (l : List Written). at nowhere (w.Key (codes "if")) ∷ l)
      (blank-tested c _ (stmt_written x ++ plain (w.Key (codes "else")) ∷ stmt_written y)
      (rw (map-append blank_written, blank-stmt_written x, blank-stmt_written y) refl))
  blank-stmt_written (t.while place c x) =
      ap (λ (l : List Written). at nowhere (w.Key (codes "while")) ∷ l) (blank-tested c _ _ (blank-stmt_written x))
  blank-stmt_written (t.for place first c step x) =
      simp (
        map-append blank_written,
        blank-option first_written blank_first blank-first_written first,
        blank-option cond_written blank_cond blank-cond_written c,
        blank-option effect_written blank_effect blank-effect_written step,
        blank-stmt_written x,
      ) refl
  blank-stmt_written (t.range_for place e x v body) = ap (λ (l : List Written). at nowhere (w.Key (codes "for")) ∷ mark m.LeftParenthesis ∷ l)
      (beside (element_written e) (named x ∷ mark m.Colon ∷ named v ∷ mark m.RightParenthesis ∷ stmt_written body)
      (element_written (blank_element e))
      (named (blank_identifier x) ∷ mark m.Colon ∷ named (blank_identifier v) ∷ mark m.RightParenthesis ∷ stmt_written (blank_stmt body))
      (blank-element_written e) (rw (blank-stmt_written body) refl))
  blank-stmt_written (t.break place) = refl
  blank-stmt_written (t.continue place) = refl
  blank-stmt_written (t.gives_back place v) = rw (map-append blank_written, blank-option written blank_expr blank-written v) refl
  blank-stmt_written (t.does place e) =
      ap (from_place nowhere) (beside (effect_written e) (mark m.Semicolon ∷ []) (effect_written (blank_effect e)) (mark m.Semicolon ∷ [])
      (blank-effect_written e) refl)
      ∙ blank-from_place place (effect_written e ++ mark m.Semicolon ∷ [])

  pub blank-item_written : (x : Item) → item_written (blank_item x) ≡ map blank_written (item_written x)
  blank-item_written (t.declares d) = rw (map-append blank_written, blank-declaration_written d) refl
  blank-item_written (t.states s) = blank-stmt_written s

  pub blank-items_written : (xs : Items) → items_written (blank_items xs) ≡ map blank_written (items_written xs)
  blank-items_written t.no_more = refl
  blank-items_written (t.followed x xs) = rw (map-append blank_written, blank-item_written x, blank-items_written xs) refl

pub blank-param_written : (x : Param) → param_written (blank_param x) ≡ map blank_written (param_written x)
blank-param_written (r.Value place s x) = refl
blank-param_written (r.Reference place s x) = refl
blank-param_written (r.Container c x) = after_container c (mark m.And ∷ named x ∷ []) (mark m.And ∷ named (blank_identifier x) ∷ []) refl
blank-param_written (r.ConstContainer place c x) = ap (λ (l : List Written). at nowhere (w.Key (codes "const")) ∷ l)
    (after_container c (mark m.And ∷ named x ∷ []) (mark m.And ∷ named (blank_identifier x) ∷ []) refl)
blank-param_written (r.Iterator i x) =
    beside (iterator_written i) (named x ∷ []) (iterator_written (blank_iterator i)) (named (blank_identifier x) ∷ []) (blank-iterator_written i) refl

blank-result_written : (x : ResultType) → result_written (blank_result x) ≡ map blank_written (result_written x)
blank-result_written z.Void = refl
blank-result_written (z.Scalar s) = refl
blank-result_written (z.Iterator i) = blank-iterator_written i

params_from : (xs : List Param)
    → flat_map (λ y. mark m.Comma ∷ param_written y) (map blank_param xs) ≡ map blank_written (flat_map (λ y. mark m.Comma ∷ param_written y) xs)
params_from [] = refl
params_from (x ∷ xs) = rw (map-append blank_written, blank-param_written x, params_from xs) refl

pub blank-params_written : (xs : List Param) → params_written (map blank_param xs) ≡ map blank_written (params_written xs)
blank-params_written [] = refl
blank-params_written (x ∷ xs) = rw (map-append blank_written, blank-param_written x, params_from xs) refl

pub blank-function_written : (f : Function) → function_written (blank_function f) ≡ map blank_written (function_written f)
blank-function_written f =
    let body : List Written = stmt_written (t.block f.opens f.items f.closes) in
    let params : List Written = params_written f.params ++ mark m.RightParenthesis ∷ body in
    beside (from_place f.place (result_written f.result)) (named f.name ∷ mark m.LeftParenthesis ∷ params)
    (from_place nowhere (result_written (blank_result f.result))) _
    (ap (from_place nowhere) (blank-result_written f.result) ∙ blank-from_place f.place (result_written f.result))
    (ap (λ (l : List Written). named (blank_identifier f.name) ∷ mark m.LeftParenthesis ∷ l)
    (beside (params_written f.params) (mark m.RightParenthesis ∷ body) (params_written (map blank_param f.params))
    (mark m.RightParenthesis ∷ stmt_written (t.block nowhere (blank_items f.items) nowhere))
    (blank-params_written f.params) (ap (λ (l : List Written). mark m.RightParenthesis ∷ l) (blank-stmt_written (t.block f.opens f.items f.closes)))))

pub blank-program_written : (p : Program) → program_written (blank p) ≡ map blank_written (program_written p)
blank-program_written [] = refl
blank-program_written (f ∷ fs) =
    beside (function_written f) (program_written fs) (function_written (blank_function f)) (program_written (blank fs))
    (blank-function_written f) (blank-program_written fs)

-- Places are no part of words.
words_of-blank : (xs : List Written) → words_of (map blank_written xs) ≡ words_of xs
words_of-blank [] = refl
words_of-blank (x ∷ xs) = rw (words_of-blank xs) refl

pub blank-words : (p : Program) → words (blank p) ≡ words p
blank-words p = ap words_of (blank-program_written p) ∙ words_of-blank (program_written p)

all_nowhere : (places : List Place) → Each (λ (p : Place). p ≡ nowhere) (map (λ _. nowhere) places)
all_nowhere [] = tt
all_nowhere (p ∷ ps) = (refl, all_nowhere ps)

spells-blank : (xs : List Written) (more : List Token) → Spells (map blank_written xs) (map blank_token (words_of xs) ++ more) more
spells-blank [] more = refl
spells-blank (x ∷ xs) more = ((refl, all_nowhere x.told), spells-blank xs more)

-- The blank of a program is written by its words, each at the one place.
pub blank-placed : (p : Program) (more : List Token) → Spells (program_written (blank p)) (map blank_token (words p) ++ more) more
blank-placed p more =
    subst (λ (xs : List Written). Spells xs (map blank_token (words p) ++ more) more) (sym (blank-program_written p))
    (spells-blank (program_written p) more)

pub blank-placed_alone : (p : Program) → Placed (blank p) (map blank_token (words p))
blank-placed_alone p = subst (λ (tokens : List Token). Placed (blank p) tokens) (append-nil (map blank_token (words p))) (blank-placed p [])

all_at : (places : List Place) (place : Place) → place ≡ nowhere → Each (λ (p : Place). p ≡ place) (map (λ _. nowhere) places)
all_at [] place h = tt
all_at (p ∷ ps) place h = (sym h, all_at ps place h)

spelled_by : (xs : List Written) (tokens : List Token) → map (λ (token : Token). token.word) tokens ≡ words_of xs
    → Each (λ (token : Token). token.place ≡ nowhere) tokens → Spells (map blank_written xs) tokens []
spelled_by [] [] e h = refl
spelled_by [] (token ∷ tokens) e h = absurd cc
spelled_by (x ∷ xs) [] e h = absurd cc
spelled_by (x ∷ xs) (token ∷ tokens) e h =
    let word : token.word ≡ x.word = cc in
    let others : map (λ (token : Token). token.word) tokens ≡ words_of xs = cc in
    ((word, all_at x.told token.place h.0), spelled_by xs tokens others h.1)

-- The blank of a program is written by any tokens of its words at the one place.
pub blank_of : (p : Program) (tokens : List Token) → map (λ (token : Token). token.word) tokens ≡ words p
    → Each (λ (token : Token). token.place ≡ nowhere) tokens → Placed (blank p) tokens
blank_of p tokens e h = subst (λ (xs : List Written). Spells xs tokens []) (sym (blank-program_written p)) (spelled_by (program_written p) tokens e h)

-- What is spelled are the words, whatever the places.
pub spelled-words : (xs : List Written) (tokens rest : List Token) → Spells xs tokens rest
    → map (λ (token : Token). token.word) tokens ≡ words_of xs ++ map (λ (token : Token). token.word) rest
spelled-words [] tokens rest h = ap (map (λ (token : Token). token.word)) h
spelled-words (x ∷ xs) [] rest h = absurd h
spelled-words (x ∷ xs) (token ∷ tokens) rest h = rw (h.0.0, spelled-words xs tokens rest h.1) refl

pub placed-words : (p : Program) (tokens : List Token) → Placed p tokens → map (λ (token : Token). token.word) tokens ≡ words p
placed-words p tokens h = spelled-words (program_written p) tokens [] h ∙ append-nil (words p)
