-- What stands before a place, and what a function gives of the nodes of a statement: where each part adds what the function gives of its nodes, so do
-- statements, items and functions.
use Rattle.std.proofs.Common.{◌≡◌, Bool, true, false, List, [], ◌∷◌, ◌++◌, length, append_assoc, Option, Some, None, refl, sym, subst, ◌∙◌, ap}
use Rattle.std.proofs.Common.{option_map}
use Rattle.std.specs.Prelude.{not}
use Rattle.std.specs.List.{filter_map}
use Rattle.std.proofs.lemmas.List.{append-nil}
use Rattle.std.proofs.lemmas.List.Elements.{filter_map-append}
use Rattle.sl_base.specs.declared.place.Place.{Place}
use Rattle.sl_syntax.specs.declared.tree.element.Element.{Element}
use Rattle.sl_syntax.specs.declared.tree.identifier.Identifier.{Identifier}
use Rattle.sl_syntax.specs.Tree as s
use Rattle.sl_syntax.specs.Tree.{Expr, Declaration, Effect, Cond, First, Stmt, Item, Items, Function}
use Rattle.sl_typing.specs.declared.rules.TheConstants as rule
use Rattle.sl_typing.specs.declared.scope.FunctionHead.{FunctionHead}
use Rattle.sl_typing.specs.Contexts.{Context, enter, leave, looping, started, started_loop, with_sites}
use Rattle.sl_typing.specs.Faults.{broken}
use Rattle.sl_typing.specs.Ranges.{may_go_over}
use Rattle.sl_typing.specs.Scopes.{type_of_name, label_of_name}
use Rattle.sl_typing.specs.Sites.{brace_site}
use Rattle.sl_typing.specs.Flow.{behind_value, behind_declaration, behind_effect, behind_cond, behind_first, behind_test, behind_last, at_test}
use Rattle.sl_typing.specs.Flow.{at_last, in_for, in_range, in_while, in_function, at_brace, after_function, after, after_item, after_items}
use Rattle.sl_typing.specs.StatementFaults.{value_faults, declaration_faults, effect_faults, cond_faults, first_faults, test_faults, last_faults}
use Rattle.sl_typing.specs.StatementFaults.{stmt_faults, item_faults, items_faults}
use Rattle.sl_typing.specs.ProgramFaults.{function_faults}
use Rattle.sl_typing.specs.Numbering.{label_in}
use Rattle.sl_typing.specs.StatementNumbering.{typed_effect, typed_cond, typed_declaration, typed_first, typed_test, typed_value, taken_as}
use Rattle.sl_typing.specs.StatementNumbering.{brace_number, typed_stmt, typed_item, typed_items}
use Rattle.sl_typing.specs.Typing.{typed_function}
use Rattle.sl_model.specs.Typing.WellTypedNodes.{Node, a_loop, a_range, a_variable, a_brace, has_container, element_variable}
use Rattle.sl_model.specs.Typing.WellTypedNodes.{nodes_in_value, nodes_in_cond, nodes_in_effect, nodes_in_last, nodes_in_declaration}
use Rattle.sl_model.specs.Typing.WellTypedNodes.{nodes_in_first, nodes_in_stmt, nodes_in_stmts}
use Rattle.sl_number_limits.proofs.Growth.{Grows}
use Rattle.sl_number_limits.proofs.Lists.{parts, not_broken}
use Rattle.sl_number_limits.proofs.PartFaults as part
use Rattle.sl_number_limits.proofs.StatementGrowth.{condition_grows, while_grows, at_test_grows, at_last_grows, for_grows, range_grows}
use Rattle.sl_number_limits.proofs.StatementGrowth.{after_grows, after_item_grows}

-- behind nodes there is what a function gives of them, behind what was there before
abbrev pub Adds : (X : Type 0) → (Node → Option X) → List X → List X → List Node → Type 0
Adds X f a b nodes = b ≡ a ++ filter_map f nodes

-- nothing is added behind no nodes
pub adds_none : (X : Type 0) (f : Node → Option X) (a : List X) → Adds X f a a []
adds_none X f a = sym (append-nil a)

-- one list of nodes behind another
pub adds_both : (X : Type 0) (f : Node → Option X) (a b c : List X) (xs ys : List Node) → Adds X f a b xs → Adds X f b c ys → Adds X f a c (xs ++ ys)
adds_both X f a b c xs ys h k =
    k ∙ ap (λ (l : List X). l ++ filter_map f ys) h ∙ append_assoc a (filter_map f xs) (filter_map f ys)
    ∙ ap (λ (l : List X). a ++ l) (sym (filter_map-append f xs ys))

-- from what is the same, and to what is the same
pub adds_from : (X : Type 0) (f : Node → Option X) (a b c : List X) (xs : List Node) → b ≡ a → Adds X f b c xs → Adds X f a c xs
adds_from X f a b c xs h k = k ∙ ap (λ (l : List X). l ++ filter_map f xs) h

pub adds_to : (X : Type 0) (f : Node → Option X) (a b c : List X) (xs : List Node) → c ≡ b → Adds X f a b xs → Adds X f a c xs
adds_to X f a b c xs h k = h ∙ k

-- where a function gives nothing
pub adds_nothing : (X : Type 0) (f : Node → Option X) (a : List X) (xs : List Node) → filter_map f xs ≡ [] → Adds X f a a xs
adds_nothing X f a xs h = sym (append-nil a) ∙ ap (λ (l : List X). a ++ l) (sym h)

-- nothing is known of the functions in scope
abbrev pub NoneKnown : List FunctionHead → Type 0
NoneKnown hs = Unit {0}

-- what is known of them is known behind
known : (K : List FunctionHead → Type 0) (g h : Context) → Grows g h → K g.scope.functions → K h.scope.functions
known K g h w k = subst K (sym w.functions) k

-- what each part adds, where so much is known of the functions in scope
pub record Counts (X : Type 0) (f : Node → Option X) (m : Context → List X) (K : List FunctionHead → Type 0) : Type 0 where
  pub conditions : (g : Context) (k : Cond) → K g.scope.functions → cond_faults g k ≡ []
      → Adds X f (m g) (m (behind_cond g k)) (nodes_in_cond (typed_cond g k))
  pub effects : (g : Context) (w : Effect) → K g.scope.functions → effect_faults g w ≡ []
      → Adds X f (m g) (m (behind_effect g w)) (nodes_in_effect (typed_effect g w))
  pub declarations : (g : Context) (d : Declaration) → K g.scope.functions → declaration_faults g d ≡ []
      → Adds X f (m g) (m (behind_declaration g d)) (nodes_in_declaration (typed_declaration g d))
  pub returns : (g : Context) (v : Option Expr) → K g.scope.functions → value_faults g v ≡ []
      → Adds X f (m g) (m (behind_value g v)) (nodes_in_value (typed_value g v))
  pub begins : (g : Context) → m (started g) ≡ m g
  pub enters : (g : Context) → m (enter g) ≡ m g
  pub leaves : (g h : Context) → m (leave g h) ≡ m h
  pub stays : (g : Context) → m (looping g) ≡ m g
  pub loops : (at : Place) (g : Context) → Adds X f (m g) (m (started_loop at g)) (a_loop (length g.loops) ∷ [])
  pub braces : (g : Context) (items : Items) (close : Place) → Adds X f (m (after_items g items))
      (m (with_sites (brace_site items close) (after_items g items)))
      (a_brace (brace_number g items) (has_container (typed_items g items)) ∷ [])
  pub ranges : (g : Context) (at : Place) (how : Element) (x over : Identifier) → may_go_over how (type_of_name g.scope over.name) ≡ true
      → Adds X f (m (started_loop at g)) (m (in_range g at how x over))
      (a_range at (label_in (label_of_name g.scope over.name)) ∷ a_variable (element_variable (taken_as how)) ∷ [])

pub not_not : (b : Bool) → not b ≡ false → b ≡ true
not_not true h = refl
not_not false h = absurd cc

-- the parts of a `for`
head_adds : (X : Type 0) (f : Node → Option X) (m : Context → List X) (K : List FunctionHead → Type 0) → Counts X f m K
    → (g : Context) (first : Option First)
    → K g.scope.functions → first_faults g first ≡ [] → Adds X f (m g) (m (behind_first g first)) (nodes_in_first (typed_first g first))
head_adds X f m K c g None k none = adds_none X f (m g)
head_adds X f m K c g (Some (s.first_scalar at type x e)) k none = c.declarations g (s.declares_scalar at type x (Some e)) k none
head_adds X f m K c g (Some (s.first_auto at x e)) k none = c.declarations g (s.declares_auto at x e) k none
head_adds X f m K c g (Some (s.first_effect w)) k none = c.effects g w k none

test_adds : (X : Type 0) (f : Node → Option X) (m : Context → List X) (K : List FunctionHead → Type 0) → Counts X f m K
    → (g : Context) (k : Option Cond)
    → K g.scope.functions → test_faults g k ≡ [] → Adds X f (m g) (m (behind_test g k)) (nodes_in_cond (typed_test g k))
test_adds X f m K c g None known none = adds_none X f (m g)
test_adds X f m K c g (Some k) known none = c.conditions g k known none

last_adds : (X : Type 0) (f : Node → Option X) (m : Context → List X) (K : List FunctionHead → Type 0) → Counts X f m K
    → (g : Context) (w : Option Effect)
    → K g.scope.functions → last_faults g w ≡ [] → Adds X f (m g) (m (behind_last g w)) (nodes_in_last (option_map (typed_effect g) w))
last_adds X f m K c g None k none = adds_none X f (m g)
last_adds X f m K c g (Some w) k none = c.effects g w k none

mutual
  unfolding typed_stmt typed_item typed_items stmt_faults item_faults items_faults nodes_in_stmt nodes_in_stmts after after_item after_items

  -- a statement
  pub stmt_adds : (X : Type 0) (f : Node → Option X) (m : Context → List X) (K : List FunctionHead → Type 0)
      → Counts X f m K → (g : Context) (a : Stmt) → K g.scope.functions → stmt_faults g a ≡ []
      → Adds X f (m g) (m (after g a)) (nodes_in_stmt (typed_stmt g a))
  stmt_adds X f m K c g (s.block at items close) w none =
      let inner = after_items (enter g) items in
      let closed = with_sites (brace_site items close) inner in
      adds_to X f (m g) (m closed) (m (leave g closed)) _ (c.leaves g closed)
      (adds_both X f (m g) (m inner) (m closed) (nodes_in_stmts (typed_items (enter g) items)) _
      (adds_from X f (m g) (m (enter g)) (m inner) _ (c.enters g) (items_add X f m K c (enter g) items w (part.block_items g at items close none)))
      (c.braces (enter g) items close))
  stmt_adds X f m K c g (s.choice at k a) w none =
      let h = behind_cond (started g) k in
      adds_both X f (m g) (m h) (m (after h a)) (nodes_in_cond (typed_cond (started g) k)) (nodes_in_stmt (typed_stmt h a))
      (adds_from X f (m g) (m (started g)) (m h) _ (c.begins g) (c.conditions (started g) k w (part.choice_condition g at k a none)))
      (stmt_adds X f m K c h a (known K g h (condition_grows g k) w) (part.choice_body g at k a none))
  stmt_adds X f m K c g (s.choice_else at k a b) w none =
      let h = behind_cond (started g) k in
      let i = after h a in
      let wh = known K g h (condition_grows g k) w in
      adds_both X f (m g) (m h) (m (after i b)) (nodes_in_cond (typed_cond (started g) k))
      (nodes_in_stmt (typed_stmt h a) ++ nodes_in_stmt (typed_stmt i b))
      (adds_from X f (m g) (m (started g)) (m h) _ (c.begins g) (c.conditions (started g) k w (part.choice_else_condition g at k a b none)))
      (adds_both X f (m h) (m i) (m (after i b)) (nodes_in_stmt (typed_stmt h a)) (nodes_in_stmt (typed_stmt i b))
      (stmt_adds X f m K c h a wh (part.choice_else_body g at k a b none))
      (stmt_adds X f m K c i b (known K h i (after_grows h a) wh) (part.else_body g at k a b none)))
  stmt_adds X f m K c g (s.while at k a) w none =
      let start = started_loop at g in
      let h = behind_cond start k in
      let i = in_while g at k in
      let j = after i a in
      let condition = nodes_in_cond (typed_cond start k) in
      let body = nodes_in_stmt (typed_stmt i a) in
      adds_to X f (m g) (m j) (m (leave g j)) (a_loop (length g.loops) ∷ (condition ++ body)) (c.leaves g j)
      (adds_both X f (m g) (m start) (m j) (a_loop (length g.loops) ∷ []) (condition ++ body) (c.loops at g)
      (adds_both X f (m start) (m h) (m j) condition body (c.conditions start k w (part.while_condition g at k a none))
      (adds_from X f (m h) (m i) (m j) body (c.stays h)
      (stmt_adds X f m K c i a (known K g i (while_grows g at k) w) (part.while_body g at k a none)))))
  stmt_adds X f m K c g (s.for at first k last a) w none =
      let start = started_loop at g in
      let h0 = enter start in
      let h1 = at_test g at first in
      let h2 = at_last g at first k in
      let h3 = behind_last h2 last in
      let i = in_for g at first k last in
      let j = after i a in
      let n1 = nodes_in_first (typed_first h0 first) in
      let n2 = nodes_in_cond (typed_test h1 k) in
      let n3 = nodes_in_last (option_map (typed_effect h2) last) in
      let n4 = nodes_in_stmt (typed_stmt i a) in
      adds_to X f (m g) (m j) (m (leave g j)) (a_loop (length g.loops) ∷ (n1 ++ (n2 ++ (n3 ++ n4)))) (c.leaves g j)
      (adds_both X f (m g) (m start) (m j) (a_loop (length g.loops) ∷ []) (n1 ++ (n2 ++ (n3 ++ n4))) (c.loops at g)
      (adds_both X f (m start) (m h1) (m j) n1 (n2 ++ (n3 ++ n4))
      (adds_from X f (m start) (m h0) (m h1) n1 (c.enters start) (head_adds X f m K c h0 first w (part.for_first g at first k last a none)))
      (adds_both X f (m h1) (m h2) (m j) n2 (n3 ++ n4)
      (test_adds X f m K c h1 k (known K g h1 (at_test_grows g at first) w) (part.for_test g at first k last a none))
      (adds_both X f (m h2) (m h3) (m j) n3 n4
      (last_adds X f m K c h2 last (known K g h2 (at_last_grows g at first k) w) (part.for_last g at first k last a none))
      (adds_from X f (m h3) (m i) (m j) n4 (c.stays h3)
      (stmt_adds X f m K c i a (known K g i (for_grows g at first k last) w) (part.for_body g at first k last a none)))))))
  stmt_adds X f m K c g (s.range_for at how x over a) w none =
      let start = started_loop at g in
      let i = in_range g at how x over in
      let j = after i a in
      let range = a_range at (label_in (label_of_name g.scope over.name)) ∷ a_variable (element_variable (taken_as how)) ∷ [] in
      let body = nodes_in_stmt (typed_stmt i a) in
      let wrong : broken (not (may_go_over how (type_of_name g.scope over.name))) at rule.WRONG_TYPE ≡ [] = search parts in
      let may = not_not (may_go_over how (type_of_name g.scope over.name))
      (not_broken (not (may_go_over how (type_of_name g.scope over.name))) at rule.WRONG_TYPE wrong) in
      adds_to X f (m g) (m j) (m (leave g j)) (a_loop (length g.loops) ∷ (range ++ body)) (c.leaves g j)
      (adds_both X f (m g) (m start) (m j) (a_loop (length g.loops) ∷ []) (range ++ body) (c.loops at g)
      (adds_both X f (m start) (m i) (m j) range body (c.ranges g at how x over may)
      (stmt_adds X f m K c i a (known K g i (range_grows g at how x over) w) (part.range_body g at how x over a none))))
  stmt_adds X f m K c g (s.break at) w none = adds_to X f (m g) (m g) (m (started g)) [] (c.begins g) (adds_none X f (m g))
  stmt_adds X f m K c g (s.continue at) w none = adds_to X f (m g) (m g) (m (started g)) [] (c.begins g) (adds_none X f (m g))
  stmt_adds X f m K c g (s.gives_back at v) w none =
      adds_from X f (m g) (m (started g)) _ _ (c.begins g) (c.returns (started g) v w (part.given_value g at v none))
  stmt_adds X f m K c g (s.does at e) w none =
      adds_from X f (m g) (m (started g)) _ _ (c.begins g) (c.effects (started g) e w (part.done_effect g at e none))

  -- an item of a block
  pub item_adds : (X : Type 0) (f : Node → Option X) (m : Context → List X) (K : List FunctionHead → Type 0)
      → Counts X f m K → (g : Context) (i : Item) → K g.scope.functions → item_faults g i ≡ []
      → Adds X f (m g) (m (after_item g i)) (nodes_in_stmt (typed_item g i))
  item_adds X f m K c g (s.declares d) w none =
      adds_from X f (m g) (m (started g)) _ _ (c.begins g) (c.declarations (started g) d w (part.declared g d none))
  item_adds X f m K c g (s.states a) w none = stmt_adds X f m K c g a w (part.stated g a none)

  -- items
  pub items_add : (X : Type 0) (f : Node → Option X) (m : Context → List X) (K : List FunctionHead → Type 0)
      → Counts X f m K → (g : Context) (items : Items) → K g.scope.functions → items_faults g items ≡ []
      → Adds X f (m g) (m (after_items g items)) (nodes_in_stmts (typed_items g items))
  items_add X f m K c g s.no_more w none = adds_none X f (m g)
  items_add X f m K c g (s.followed i rest) w none =
      let h = after_item g i in
      adds_both X f (m g) (m h) (m (after_items h rest)) (nodes_in_stmt (typed_item g i)) (nodes_in_stmts (typed_items h rest))
      (item_adds X f m K c g i w (part.first_item g i rest none))
      (items_add X f m K c h rest (known K g h (after_item_grows g i) w) (part.other_items g i rest none))

-- a function, from the start of its body
pub function_adds : (X : Type 0) (f : Node → Option X) (m : Context → List X) (K : List FunctionHead → Type 0)
    → Counts X f m K → (g : Context) (w : Function) → K (in_function g w).scope.functions → function_faults g w ≡ []
    → Adds X f (m (in_function g w)) (m (after_function g w)) (nodes_in_stmt (typed_function g w).body)
unfolding nodes_in_stmt nodes_in_stmts
function_adds X f m K c g w k none =
    adds_both X f (m (in_function g w)) (m (at_brace g w)) (m (after_function g w)) (nodes_in_stmts (typed_items (in_function g w) w.items)) _
    (items_add X f m K c (in_function g w) w.items k (part.function_items g w none)) (c.braces (in_function g w) w.items w.closes)
