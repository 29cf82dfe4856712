-- A blank tree is as high as the tree, and follows the grammar where the tree does.
use Rattle.std.proofs.Common.{◌≡◌, refl, ◌∙◌, ℕ, List, [], ◌∷◌, map, Option, Some, None, option_map}
use Rattle.std.proofs.lemmas.List.{length-map}
use Rattle.sl_syntax.specs.declared.tree.effect.Read.{Read}
use Rattle.sl_syntax.specs.declared.tree.element.Element.{Element}
use Rattle.sl_syntax.specs.declared.tree.element.Element.TheVariants as l
use Rattle.sl_syntax.specs.declared.tree.function.Param.{Param}
use Rattle.sl_syntax.specs.declared.tree.function.Param.TheVariants as r
use Rattle.sl_syntax.specs.declared.tree.function.ResultType.{ResultType}
use Rattle.sl_syntax.specs.declared.tree.function.ResultType.TheVariants as z
use Rattle.sl_syntax.specs.Tree as t
use Rattle.sl_syntax.specs.Tree.{Expr, Exprs, Initializer, Declaration, Out, Effect, Cond, First, Stmt, Item, Items, Function, Program}
use Rattle.sl_syntax.specs.Blank.{blank_identifier, blank_expr, blank_exprs, blank_initializer, blank_declaration, blank_read, blank_out}
use Rattle.sl_syntax.specs.Blank.{blank_effect, blank_cond, blank_first, blank_stmt, blank_item, blank_items, blank_param, blank_function, blank}
use Rattle.sl_syntax.specs.Blank.{blank_element, blank_result}
use Rattle.sl_syntax.specs.Depth.{height, list_height, rest_height, highest, option_height, initializer_height, declaration_height, out_height}
use Rattle.sl_syntax.specs.Depth.{effect_height, cond_height, first_height, stmt_height, item_height, items_height, param_height, function_height}
use Rattle.sl_syntax.specs.Depth.{element_height, result_height, depth}
use Rattle.sl_syntax.specs.Shaped.{level, IsExpr, AreExprs, IfThere, Each, AreSome, IsSomeList, IsInitializer, IsDeclaration, IsRead, IsOut, IsEffect}
use Rattle.sl_syntax.specs.Shaped.{IsCond, IsFirst, ends_open, IsStmt, IsItem, AreItems, IsFunction, Shaped}

mutual
  pub blank-height : (x : Expr) → height (blank_expr x) ≡ height x
  blank-height (t.number place n) = refl
  blank-height (t.truth place v) = refl
  blank-height (t.name x) = refl
  blank-height (t.call f xs) = rw (blank-list_height xs) refl
  blank-height (t.library_call f xs) = rw (blank-list_height xs) refl
  blank-height (t.parentheses place x) = rw (blank-height x) refl
  blank-height (t.prefix op place x) = rw (blank-height x) refl
  blank-height (t.binary x op place y) = rw (blank-height x, blank-height y) refl
  blank-height (t.postfix x op place) = rw (blank-height x) refl
  blank-height (t.index x place y) = rw (blank-height x, blank-height y) refl
  blank-height (t.member_call x f xs) = rw (blank-height x, blank-list_height xs) refl
  blank-height (t.member x s place f) = rw (blank-height x) refl

  pub blank-list_height : (xs : Exprs) → list_height (blank_exprs xs) ≡ list_height xs
  blank-list_height t.none = refl
  blank-list_height (t.with x t.none) = blank-height x
  blank-list_height (t.with x (t.with y ys)) = rw (blank-height x, blank-height y, blank-rest_height ys) refl

  pub blank-rest_height : (xs : Exprs) → rest_height (blank_exprs xs) ≡ rest_height xs
  blank-rest_height t.none = refl
  blank-rest_height (t.with x xs) = rw (blank-height x, blank-rest_height xs) refl

-- the greatest height of a list, and that of what may be left out
blank-highest : {A : Type 0} (h : A → ℕ) (clear : A → A) → ((x : A) → h (clear x) ≡ h x) → (xs : List A) → highest h (map clear xs) ≡ highest h xs
blank-highest h clear each [] = refl
blank-highest h clear each (x ∷ xs) = rw (each x, blank-highest h clear each xs) refl

blank-option_height : {A : Type 0} (h : A → ℕ) (clear : A → A) → ((x : A) → h (clear x) ≡ h x) → (x : Option A)
    → option_height h (option_map clear x) ≡ option_height h x
blank-option_height h clear each None = refl
blank-option_height h clear each (Some x) = each x

pub blank-initializer_height : (x : Initializer) → initializer_height (blank_initializer x) ≡ initializer_height x
blank-initializer_height t.absent = refl
blank-initializer_height (t.copies x) = refl
blank-initializer_height (t.braces equal xs) = blank-list_height xs
blank-initializer_height (t.arguments xs) = blank-list_height xs

pub blank-declaration_height : (x : Declaration) → declaration_height (blank_declaration x) ≡ declaration_height x
blank-declaration_height (t.declares_scalar place s x v) = rw (blank-option_height height blank_expr blank-height v) refl
blank-declaration_height (t.declares_auto place x v) = rw (blank-height v) refl
blank-declaration_height (t.declares_reference head x v) = rw (blank-height v) refl
blank-declaration_height (t.declares_container c x i) = rw (blank-initializer_height i) refl

pub blank-out_height : (x : Out) → out_height (blank_out x) ≡ out_height x
blank-out_height (t.text place bytes) = refl
blank-out_height (t.end_line place) = refl
blank-out_height (t.value x) = blank-height x

pub blank-effect_height : (x : Effect) → effect_height (blank_effect x) ≡ effect_height x
blank-effect_height (t.reads x) = refl
blank-effect_height (t.prints place outs) = rw (blank-highest out_height blank_out blank-out_height outs) refl
blank-effect_height (t.evaluates x) = blank-height x
blank-effect_height (t.assigns x op place y) = rw (blank-height x, blank-height y) refl

pub blank-cond_height : (x : Cond) → cond_height (blank_cond x) ≡ cond_height x
blank-cond_height (t.tests_read x) = refl
blank-cond_height (t.tests_no_read place x) = refl
blank-cond_height (t.tests x) = blank-height x

pub blank-first_height : (x : First) → first_height (blank_first x) ≡ first_height x
blank-first_height (t.first_scalar place s x v) = rw (blank-height v) refl
blank-first_height (t.first_auto place x v) = rw (blank-height v) refl
blank-first_height (t.first_effect e) = blank-effect_height e

pub blank-element_height : (x : Element) → element_height (blank_element x) ≡ element_height x
blank-element_height (l.Value x) = refl
blank-element_height (l.Reference x) = refl

mutual
  pub blank-stmt_height : (x : Stmt) → stmt_height (blank_stmt x) ≡ stmt_height x
  blank-stmt_height (t.block opens items closes) = rw (blank-items_height items) refl
  blank-stmt_height (t.choice place c x) = rw (blank-cond_height c, blank-stmt_height x) refl
  blank-stmt_height (t.choice_else place c x y) = rw (blank-cond_height c, blank-stmt_height x, blank-stmt_height y) refl
  blank-stmt_height (t.while place c x) = rw (blank-cond_height c, blank-stmt_height x) refl
  blank-stmt_height (t.for place first c step x) =
      rw (
        blank-option_height first_height blank_first blank-first_height first,
        blank-option_height cond_height blank_cond blank-cond_height c,
        blank-option_height effect_height blank_effect blank-effect_height step,
        blank-stmt_height x,
      ) refl
  blank-stmt_height (t.range_for place e x v body) = rw (blank-element_height e, blank-stmt_height body) refl
  blank-stmt_height (t.break place) = refl
  blank-stmt_height (t.continue place) = refl
  blank-stmt_height (t.gives_back place v) = rw (blank-option_height height blank_expr blank-height v) refl
  blank-stmt_height (t.does place e) = rw (blank-effect_height e) refl

  pub blank-item_height : (x : Item) → item_height (blank_item x) ≡ item_height x
  blank-item_height (t.declares d) = rw (blank-declaration_height d) refl
  blank-item_height (t.states s) = blank-stmt_height s

  pub blank-items_height : (xs : Items) → items_height (blank_items xs) ≡ items_height xs
  blank-items_height t.no_more = refl
  blank-items_height (t.followed x xs) = rw (blank-item_height x, blank-items_height xs) refl

pub blank-param_height : (x : Param) → param_height (blank_param x) ≡ param_height x
blank-param_height (r.Value place s x) = refl
blank-param_height (r.Reference place s x) = refl
blank-param_height (r.Container c x) = refl
blank-param_height (r.ConstContainer place c x) = refl
blank-param_height (r.Iterator i x) = refl

pub blank-result_height : (x : ResultType) → result_height (blank_result x) ≡ result_height x
blank-result_height z.Void = refl
blank-result_height (z.Scalar s) = refl
blank-result_height (z.Iterator i) = refl

pub blank-function_height : (f : Function) → function_height (blank_function f) ≡ function_height f
blank-function_height f =
    rw (blank-result_height f.result, blank-highest param_height blank_param blank-param_height f.params, blank-items_height f.items) refl

pub blank-depth : (p : Program) → depth (blank p) ≡ depth p
blank-depth p = blank-highest function_height blank_function blank-function_height p

pub blank-level : (x : Expr) → level (blank_expr x) ≡ level x
blank-level (t.number place n) = refl
blank-level (t.truth place v) = refl
blank-level (t.name x) = refl
blank-level (t.call f xs) = refl
blank-level (t.library_call f xs) = refl
blank-level (t.parentheses place x) = refl
blank-level (t.prefix op place x) = refl
blank-level (t.binary x op place y) = refl
blank-level (t.postfix x op place) = refl
blank-level (t.index x place y) = refl
blank-level (t.member_call x f xs) = refl
blank-level (t.member x s place f) = refl

mutual
  pub blank-is_expr : (x : Expr) → IsExpr x → IsExpr (blank_expr x)
  blank-is_expr (t.number place n) h = tt
  blank-is_expr (t.truth place v) h = tt
  blank-is_expr (t.name x) h = tt
  blank-is_expr (t.call f xs) h = blank-are_exprs xs h
  blank-is_expr (t.library_call f xs) h = (h.0, blank-are_exprs xs h.1)
  blank-is_expr (t.parentheses place x) h = blank-is_expr x h
  blank-is_expr (t.prefix op place x) h = (rw (blank-level x) h.0, blank-is_expr x h.1)
  blank-is_expr (t.binary x op place y) h = (rw (blank-level x) h.0, rw (blank-level y) h.1, blank-is_expr x h.2, blank-is_expr y h.3)
  blank-is_expr (t.postfix x op place) h = (rw (blank-level x) h.0, blank-is_expr x h.1)
  blank-is_expr (t.index x place y) h = (rw (blank-level x) h.0, blank-is_expr x h.1, blank-is_expr y h.2)
  blank-is_expr (t.member_call x f xs) h = (rw (blank-level x) h.0, blank-is_expr x h.1, blank-are_exprs xs h.2)
  blank-is_expr (t.member x s place f) h = (rw (blank-level x) h.0, blank-is_expr x h.1)

  pub blank-are_exprs : (xs : Exprs) → AreExprs xs → AreExprs (blank_exprs xs)
  blank-are_exprs t.none h = tt
  blank-are_exprs (t.with x xs) h = (blank-is_expr x h.0, blank-are_exprs xs h.1)

-- what may be left out, and each of a list
blank-if_there : {A : Type 0} (P : A → Type 0) (clear : A → A) → ((x : A) → P x → P (clear x))
    → (x : Option A) → IfThere P x → IfThere P (option_map clear x)
blank-if_there P clear each None h = tt
blank-if_there P clear each (Some x) h = each x h

blank-each : {A : Type 0} (P : A → Type 0) (clear : A → A) → ((x : A) → P x → P (clear x)) → (xs : List A) → Each P xs → Each P (map clear xs)
blank-each P clear each [] h = tt
blank-each P clear each (x ∷ xs) h = (each x h.0, blank-each P clear each xs h.1)

blank-are_some : {A : Type 0} (clear : A → A) (xs : List A) → AreSome xs → AreSome (map clear xs)
blank-are_some clear xs h = rw (length-map xs clear) h

blank-is_some_list : (xs : Exprs) → IsSomeList xs → IsSomeList (blank_exprs xs)
blank-is_some_list t.none h = h
blank-is_some_list (t.with x xs) h = tt

pub blank-is_initializer : (x : Initializer) → IsInitializer x → IsInitializer (blank_initializer x)
blank-is_initializer t.absent h = tt
blank-is_initializer (t.copies x) h = tt
blank-is_initializer (t.braces equal xs) h = blank-are_exprs xs h
blank-is_initializer (t.arguments xs) h = (blank-is_some_list xs h.0, blank-are_exprs xs h.1)

pub blank-is_declaration : (x : Declaration) → IsDeclaration x → IsDeclaration (blank_declaration x)
blank-is_declaration (t.declares_scalar place s x v) h = blank-if_there IsExpr blank_expr blank-is_expr v h
blank-is_declaration (t.declares_auto place x v) h = blank-is_expr v h
blank-is_declaration (t.declares_reference head x v) h = blank-is_expr v h
blank-is_declaration (t.declares_container c x i) h = blank-is_initializer i h

pub blank-is_read : (x : Read) → IsRead x → IsRead (blank_read x)
blank-is_read x h = blank-are_some blank_identifier x.variables h

pub blank-is_out : (x : Out) → IsOut x → IsOut (blank_out x)
blank-is_out (t.text place bytes) h = tt
blank-is_out (t.end_line place) h = tt
blank-is_out (t.value x) h = (rw (blank-level x) h.0, blank-is_expr x h.1)

pub blank-is_effect : (x : Effect) → IsEffect x → IsEffect (blank_effect x)
blank-is_effect (t.reads x) h = blank-is_read x h
blank-is_effect (t.prints place outs) h = (blank-are_some blank_out outs h.0, blank-each IsOut blank_out blank-is_out outs h.1)
blank-is_effect (t.evaluates x) h = blank-is_expr x h
blank-is_effect (t.assigns x op place y) h = (blank-is_expr x h.0, blank-is_expr y h.1)

pub blank-is_cond : (x : Cond) → IsCond x → IsCond (blank_cond x)
blank-is_cond (t.tests_read x) h = blank-is_read x h
blank-is_cond (t.tests_no_read place x) h = blank-is_read x h
blank-is_cond (t.tests x) h = blank-is_expr x h

pub blank-is_first : (x : First) → IsFirst x → IsFirst (blank_first x)
blank-is_first (t.first_scalar place s x v) h = blank-is_expr v h
blank-is_first (t.first_auto place x v) h = blank-is_expr v h
blank-is_first (t.first_effect e) h = blank-is_effect e h

pub blank-ends_open : (x : Stmt) → ends_open (blank_stmt x) ≡ ends_open x
blank-ends_open (t.block opens items closes) = refl
blank-ends_open (t.choice place c x) = refl
blank-ends_open (t.choice_else place c x y) = blank-ends_open y
blank-ends_open (t.while place c x) = blank-ends_open x
blank-ends_open (t.for place first c step x) = blank-ends_open x
blank-ends_open (t.range_for place e x v body) = blank-ends_open body
blank-ends_open (t.break place) = refl
blank-ends_open (t.continue place) = refl
blank-ends_open (t.gives_back place v) = refl
blank-ends_open (t.does place e) = refl

mutual
  pub blank-is_stmt : (x : Stmt) → IsStmt x → IsStmt (blank_stmt x)
  blank-is_stmt (t.block opens items closes) h = blank-are_items items h
  blank-is_stmt (t.choice place c x) h = (blank-is_cond c h.0, blank-is_stmt x h.1)
  blank-is_stmt (t.choice_else place c x y) h = (blank-is_cond c h.0, blank-is_stmt x h.1, blank-ends_open x ∙ h.2, blank-is_stmt y h.3)
  blank-is_stmt (t.while place c x) h = (blank-is_cond c h.0, blank-is_stmt x h.1)
  blank-is_stmt (t.for place first c step x) h = (
    blank-if_there IsFirst blank_first blank-is_first first h.0,
    blank-if_there IsCond blank_cond blank-is_cond c h.1,
    blank-if_there IsEffect blank_effect blank-is_effect step h.2,
    blank-is_stmt x h.3,
  )
  blank-is_stmt (t.range_for place e x v body) h = blank-is_stmt body h
  blank-is_stmt (t.break place) h = tt
  blank-is_stmt (t.continue place) h = tt
  blank-is_stmt (t.gives_back place v) h = blank-if_there IsExpr blank_expr blank-is_expr v h
  blank-is_stmt (t.does place e) h = blank-is_effect e h

  pub blank-is_item : (x : Item) → IsItem x → IsItem (blank_item x)
  blank-is_item (t.declares d) h = blank-is_declaration d h
  blank-is_item (t.states s) h = blank-is_stmt s h

  pub blank-are_items : (xs : Items) → AreItems xs → AreItems (blank_items xs)
  blank-are_items t.no_more h = tt
  blank-are_items (t.followed x xs) h = (blank-is_item x h.0, blank-are_items xs h.1)

pub blank-is_function : (f : Function) → IsFunction f → IsFunction (blank_function f)
blank-is_function f h = blank-are_items f.items h

-- The blank of a program that follows the grammar follows it.
pub blank-shaped : (p : Program) → Shaped p → Shaped (blank p)
blank-shaped p h = record {
  some = blank-are_some blank_function p h.some;
  each = blank-each IsFunction blank_function blank-is_function p h.each;
  depth = rw (blank-depth p) h.depth;
}
