-- What a well typed text numbers is there, and within the limits.
use Rattle.std.proofs.Common.{◌≡◌, ℕ, Bool, zero, suc, ◌<◌, ◌≤◌, true, ◌&&◌, List, [], ◌∷◌, length, Option, Some, arith}
use Rattle.std.specs.Prelude.{nat_le, nat_lt, slice_get, filter_map}
use Rattle.std.specs.List.{list_all}
use Rattle.std.proofs.lemmas.Bool.{leb-true, ltb-true}
use Rattle.sl_base.specs.declared.limits.TheConstants.{CONTAINERS, FUNCTIONS, ITERATORS, SCALARS, SITES}
use Rattle.sl_syntax.specs.Typed.{Function, Typed}
use Rattle.sl_typing.specs.declared.expr_type.ExprType.{ExprType}
use Rattle.sl_typing.specs.Types.{has_type}
use Rattle.sl_model.specs.Typing.WellTypedScopes.{Scope, is_within, variable_type}
use Rattle.sl_model.specs.Typing.WellTypedNodes.{Node, nodes_in_stmt, nodes_of}
use Rattle.sl_model.specs.Typing.WellTypedNumbers.{site_in, loop_in, go_up, are_numbers_of, is_numbered}
use Rattle.sl_model.specs.Typing.WellTypedNumbers.{has_due_site, tells_names, are_constants, literal_is_held, asked_by, agree, agrees_with_all}
use Rattle.sl_model.specs.Typing.WellTypedOrder.{binds_apart, is_ordered}
use Rattle.sl_model.specs.Typing.WellTyped.{has_numbers, has_sites, has_no_alias, has_order, has_names, has_constants, has_one_asker, WellTyped}
use Rattle.sl_model.proofs.Passing.{first_of_both, second_of_both, passes_at, given_passes, flat_map_each}

-- the sites and the loops of a function of a well typed text are numbered
numbered : (p : Typed) → WellTyped p → (n : ℕ) (h : Function) → slice_get p.functions n ≡ Some h → is_numbered p h ≡ true
unfolding has_numbers
numbered p w n h e = passes_at (is_numbered p) p.functions n h w.numbers e

-- a number that a node gives is below the count of what is numbered
below_count : (gives : Node → Option ℕ) (count : ℕ) (nodes : List Node) (i : ℕ) (node : Node) (s : ℕ)
    → are_numbers_of count (filter_map gives nodes) ≡ true → slice_get nodes i ≡ Some node → gives node ≡ Some s → s < count
below_count gives count nodes i node s h e g =
    let all = second_of_both (go_up (filter_map gives nodes)) (list_all (λ x. nat_lt x count) (filter_map gives nodes)) h in
    ltb-true s count (given_passes (λ x. nat_lt x count) gives nodes i node s all e g)

-- a node of a function of a text, by its place among the function's nodes
pub record IsNode (p : Typed) (node : Node) : Type 0 where
  pub number : ℕ
  pub function : Function
  pub function_there : slice_get p.functions number ≡ Some function
  pub place : ℕ
  pub there : slice_get (nodes_in_stmt function.body) place ≡ Some node

-- what all nodes of a text pass is passed by all of each function
pub passes_in_function : (p : Typed) (n : ℕ) (h : Function) (test : Node → Bool) → list_all test (nodes_of p) ≡ true
    → slice_get p.functions n ≡ Some h
    → list_all test (nodes_in_stmt h.body) ≡ true
passes_in_function p n h test all e = flat_map_each test (λ (f : Function). nodes_in_stmt f.body) p.functions n h all e

-- it is passed by each node
pub passes_in : (p : Typed) (node : Node) → IsNode p node → (test : Node → Bool) → list_all test (nodes_of p) ≡ true → test node ≡ true
passes_in p node at test h = passes_at test (nodes_in_stmt at.function.body) at.place node
    (passes_in_function p at.number at.function test h at.function_there) at.there

-- a call or a brace is a site exactly where it can invalidate
pub site_is_due : (p : Typed) → WellTyped p → (node : Node) → IsNode p node → has_due_site node ≡ true
unfolding has_sites
site_is_due p w node at = passes_in p node at has_due_site w.sites

-- a call of a function binds no variable twice
pub node_binds_apart : (p : Typed) → WellTyped p → (node : Node) → IsNode p node → binds_apart node ≡ true
unfolding has_no_alias
node_binds_apart p w node at = passes_in p node at binds_apart w.no_alias

-- at a node no open order of effects matters
pub node_is_ordered : (p : Typed) → WellTyped p → (node : Node) → IsNode p node → is_ordered p.functions node ≡ true
unfolding has_order
node_is_ordered p w node at = passes_in p node at (is_ordered p.functions) w.order

-- the names that a node tells are names of the text
pub names_are_there : (p : Typed) → WellTyped p → (node : Node) → IsNode p node → tells_names (length p.names) node ≡ true
unfolding has_names
names_are_there p w node at = passes_in p node at (tells_names (length p.names)) w.names

-- the number of a literal is a constant, and so are its two neighbours
pub literal_is_constant : (p : Typed) → WellTyped p → (node : Node) → IsNode p node → literal_is_held p.constants node ≡ true
unfolding has_constants
literal_is_constant p w node at =
    let all = second_of_both (are_constants p.constants) (list_all (literal_is_held p.constants) (nodes_of p)) w.constants in
    passes_in p node at (literal_is_held p.constants) all

-- two nodes that have needs and stand at one place are calls of one name, with the same names of arguments
pub nodes_agree : (p : Typed) → WellTyped p → (x y : Node) → IsNode p x → IsNode p y → agree (asked_by x) (asked_by y) ≡ true
unfolding has_one_asker
nodes_agree p w x y at_x at_y =
    let with_all = passes_in p x at_x (agrees_with_all (nodes_of p)) w.one_asker in
    passes_in p y at_y (λ other. agree (asked_by x) (asked_by other)) with_all

-- a site that a node names is one of the text
pub site_is_there : (p : Typed) → WellTyped p → (node : Node) → IsNode p node → (s : ℕ) → site_in node ≡ Some s → s < length p.sites
site_is_there p w node at s g =
    let all = first_of_both (are_numbers_of (length p.sites) (filter_map site_in (nodes_in_stmt at.function.body)))
    (are_numbers_of (length p.loops) (filter_map loop_in (nodes_in_stmt at.function.body))) (numbered p w at.number at.function at.function_there) in
    below_count site_in (length p.sites) (nodes_in_stmt at.function.body) at.place node s all at.there g

-- it is below the limit of sites
pub site_is_below : (p : Typed) → WellTyped p → (node : Node) → IsNode p node → (s : ℕ) → site_in node ≡ Some s → s < SITES
site_is_below p w node at s g =
    let few = leb-true (length p.sites) SITES (second_of_both (nat_le (length p.functions) FUNCTIONS) (nat_le (length p.sites) SITES) w.few) in
    let there = site_is_there p w node at s g in
    omega (arith, few, there)

-- a loop is one of the text
pub loop_is_there : (p : Typed) → WellTyped p → (node : Node) → IsNode p node → (n : ℕ) → loop_in node ≡ Some n → n < length p.loops
loop_is_there p w node at n g =
    let all = second_of_both (are_numbers_of (length p.sites) (filter_map site_in (nodes_in_stmt at.function.body)))
    (are_numbers_of (length p.loops) (filter_map loop_in (nodes_in_stmt at.function.body))) (numbered p w at.number at.function at.function_there) in
    below_count loop_in (length p.loops) (nodes_in_stmt at.function.body) at.place node n all at.there g

-- a variable that has a type is there
pub variable_is_there : (us : List ExprType) (x : ℕ) → has_type (variable_type us x) ≡ true → x < length us
variable_is_there [] x h = absurd cc
variable_is_there (u ∷ us) zero h = omega arith
variable_is_there (u ∷ us) (suc x) h = let there = variable_is_there us x h in omega (arith, there)

-- the limit of iterators in a scope
few_iterators : (g : Scope) → is_within g ≡ true → length g.iterators ≤ ITERATORS
few_iterators g w = leb-true (length g.iterators) ITERATORS (second_of_both
    (nat_le (length g.scalars) SCALARS && nat_le (length g.containers) CONTAINERS) (nat_le (length g.iterators) ITERATORS) w)

-- the other two limits
few_others : (g : Scope) → is_within g ≡ true → (nat_le (length g.scalars) SCALARS && nat_le (length g.containers) CONTAINERS) ≡ true
few_others g w = first_of_both
    (nat_le (length g.scalars) SCALARS && nat_le (length g.containers) CONTAINERS) (nat_le (length g.iterators) ITERATORS) w

-- that of scalars
few_scalars : (g : Scope) → is_within g ≡ true → length g.scalars ≤ SCALARS
few_scalars g w = leb-true (length g.scalars) SCALARS
    (first_of_both (nat_le (length g.scalars) SCALARS) (nat_le (length g.containers) CONTAINERS) (few_others g w))

-- that of containers
few_containers : (g : Scope) → is_within g ≡ true → length g.containers ≤ CONTAINERS
few_containers g w = leb-true (length g.containers) CONTAINERS
    (second_of_both (nat_le (length g.scalars) SCALARS) (nat_le (length g.containers) CONTAINERS) (few_others g w))

-- in a scope within the limits, a scalar that has a type has a number below the limit of its sort
pub scalar_is_below : (g : Scope) (x : ℕ) → is_within g ≡ true → has_type (variable_type g.scalars x) ≡ true → x < SCALARS
scalar_is_below g x w h = let few = few_scalars g w in let there = variable_is_there g.scalars x h in omega (arith, few, there)

-- a container has
pub container_is_below : (g : Scope) (x : ℕ) → is_within g ≡ true → has_type (variable_type g.containers x) ≡ true → x < CONTAINERS
container_is_below g x w h = let few = few_containers g w in let there = variable_is_there g.containers x h in omega (arith, few, there)

-- an iterator or reference has
pub iterator_is_below : (g : Scope) (x : ℕ) → is_within g ≡ true → has_type (variable_type g.iterators x) ≡ true → x < ITERATORS
iterator_is_below g x w h = let few = few_iterators g w in let there = variable_is_there g.iterators x h in omega (arith, few, there)
