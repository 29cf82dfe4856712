-- What a look at a node with an object or with arguments finds, from the looks at its parts.
use Rattle.std.proofs.Common.{◌≡◌, refl, ℕ, ◌+◌, Bool, ◌&&◌, List, ◌++◌, length, Option, ap, sym, ◌∙◌, not, ◌||◌, add_comm}
use Rattle.std.specs.Option.{option_or}
use Rattle.std.proofs.lemmas.List.{length-append}
use Rattle.sl_base.specs.declared.place.Place.{Place}
use Rattle.sl_expr_types.specs.Capped.{capped}
use Rattle.sl_expr_types.specs.Few.{few, listed}
use Rattle.sl_expr_types.specs.Means.Counts.{one_if}
use Rattle.sl_expr_types.proofs.CountLaws.{length-own_site}
use Rattle.sl_expr_types.proofs.SiteLaws.{capped-+, capped-left, capped-right}
use Rattle.sl_expr_types.proofs.TypeLaws.{member_type-few, algorithm_type-few}
use Rattle.sl_rules.specs.declared.look.Look.{Look}
use Rattle.sl_rules.specs.declared.look.LookAll.{LookAll}
use Rattle.sl_rules.specs.Looks.{IsLook, AreLooks}
use Rattle.sl_rules.proofs.FaultLaws.{own_fault, fault-call, fault-library_call}
use Rattle.sl_rules.proofs.FaultLaws.{fault-index, fault-member_call}
use Rattle.sl_syntax.specs.declared.tree.identifier.Identifier.{Identifier}
use Rattle.sl_syntax.specs.Tree as s
use Rattle.sl_syntax.specs.Tree.{Expr, Exprs}
use Rattle.sl_typing.specs.declared.expr_type.ExprType.{ExprType}
use Rattle.sl_typing.specs.declared.fault.Fault.{Fault}
use Rattle.sl_typing.specs.declared.rules.TheConstants as rule
use Rattle.sl_typing.specs.declared.scope.Scope.{Scope}
use Rattle.sl_typing.specs.declared.standing.Standing.{Standing}
use Rattle.sl_typing.specs.declared.standing.Standing.TheVariants as standing
use Rattle.sl_typing.specs.Faults.{broken, last_standing}
use Rattle.sl_typing.specs.Rules.{is_unknown_function}
use Rattle.sl_typing.specs.Scopes.{function_named}
use Rattle.sl_typing.specs.Sites.{is_site, own_site, sites_in, sites_in_all, site_count, at_word, inside, is_subscript_site}
use Rattle.sl_typing.specs.TypeOf.{appends, type_of, types_of, own_type, algorithm_type}
use Rattle.sl_typing.specs.TypeOf.{subscript_type, member_type}
use Rattle.sl_typing.specs.WrongType.{wrong_type, fits_member, is_iterator_pair, is_before_part}
use Rattle.sl_typing.specs.Typing.{first_of}
use Rattle.sl_rules.proofs.LookLaws.{behind_two, moved, moved_all}

-- ## Nodes with an object

at_word-index : (g : Scope) (n : ℕ) (x : Expr) (at : Place) (y : Expr) → at_word g n (s.index x at y) ≡ n + site_count g x
unfolding at_word
at_word-index g n x at y = refl

at_word-member_call : (g : Scope) (n : ℕ) (x : Expr) (f : Identifier) (xs : Exprs) → at_word g n (s.member_call x f xs) ≡ n + site_count g x
unfolding at_word
at_word-member_call g n x f xs = refl

is_site-index : (g : Scope) (x : Expr) (at : Place) (y : Expr) → is_site g (s.index x at y) ≡ is_subscript_site (type_of g x)
unfolding is_site
is_site-index g x at y = refl

is_site-library_call : (g : Scope) (f : Identifier) (xs : Exprs) → is_site g (s.library_call f xs) ≡ appends f.name xs
unfolding is_site
is_site-library_call g f xs = refl

-- the number of sites before what follows a node's own word, from those of its object
inside_object : (g : Scope) (n : ℕ) (e x : Expr) (k : ℕ) (b : Bool) → at_word g n e ≡ n + site_count g x → k ≡ capped (site_count g x)
    → b ≡ is_site g e
    → capped (capped (n + k) + one_if b) ≡ capped (inside g n e)
unfolding inside
inside_object g n e x k b word sites is =
    ap (λ i. capped (capped (n + i) + one_if b)) sites
    ∙ ap (λ i. capped (i + one_if b)) (capped-right n (site_count g x))
    ∙ capped-left (n + site_count g x) (one_if b)
    ∙ ap (λ i. capped (i + one_if b)) (sym word)
    ∙ ap (λ i. capped (at_word g n e + i)) (ap one_if is ∙ sym (length-own_site g e))

pub inside-index : (g : Scope) (n : ℕ) (x : Expr) (at : Place) (y : Expr) (object : Look) → IsLook g n standing.Plain x object
    → capped (capped (n + object.sites) + one_if (is_subscript_site object.expr_type)) ≡ capped (inside g n (s.index x at y))
inside-index g n x at y object l =
    inside_object g n (s.index x at y) x object.sites (is_subscript_site object.expr_type) (at_word-index g n x at y) l.sites
    (ap is_subscript_site l.expr_type ∙ sym (is_site-index g x at y))

pub inside-member_call : (g : Scope) (n : ℕ) (x : Expr) (f : Identifier) (xs : Exprs) (object : Look) (b : Bool) → IsLook g n standing.Plain x object
    → b ≡ is_site g (s.member_call x f xs)
    → capped (capped (n + object.sites) + one_if b) ≡ capped (inside g n (s.member_call x f xs))
inside-member_call g n x f xs object b l is =
    inside_object g n (s.member_call x f xs) x object.sites b (at_word-member_call g n x f xs) l.sites is

pub inside-library_call : (g : Scope) (n : ℕ) (f : Identifier) (xs : Exprs) (b : Bool) → b ≡ appends f.name xs
    → capped (n + one_if b) ≡ capped (inside g n (s.library_call f xs))
unfolding inside at_word
inside-library_call g n f xs b is =
    ap (λ i. capped (n + i)) (ap one_if (is ∙ sym (is_site-library_call g f xs)) ∙ sym (length-own_site g (s.library_call f xs)))

-- the number of sites of a node, from those of its object, its own and those behind it
count_object : (g : Scope) (e x : Expr) (rest : List Place) (k r : ℕ) (b : Bool) → sites_in g e ≡ (sites_in g x ++ own_site g e) ++ rest
    → k ≡ capped (site_count g x)
    → b ≡ is_site g e
    → r ≡ capped (length rest)
    → capped (capped (k + one_if b) + r) ≡ capped (site_count g e)
unfolding site_count
count_object g e x rest k r b whole sites is others =
    let a : ℕ = length (sites_in g x) in
    ap (λ i. capped (capped (i + one_if b) + r)) sites
    ∙ ap (λ i. capped (i + r)) (capped-left a (one_if b))
    ∙ ap (λ i. capped (capped (a + one_if b) + i)) others
    ∙ sym (capped-+ (a + one_if b) (length rest))
    ∙ ap (λ i. capped ((a + i) + length rest)) (ap one_if is ∙ sym (length-own_site g e))
    ∙ ap (λ i. capped (i + length rest)) (sym (length-append (sites_in g x) (own_site g e)))
    ∙ ap capped (sym (length-append (sites_in g x ++ own_site g e) rest))
    ∙ ap (λ ps. capped (length ps)) (sym whole)

sites-index : (g : Scope) (x : Expr) (at : Place) (y : Expr)
    → sites_in g (s.index x at y) ≡ (sites_in g x ++ own_site g (s.index x at y)) ++ sites_in g y
unfolding sites_in
sites-index g x at y = refl

sites-member_call : (g : Scope) (x : Expr) (f : Identifier) (xs : Exprs)
    → sites_in g (s.member_call x f xs) ≡ (sites_in g x ++ own_site g (s.member_call x f xs)) ++ sites_in_all g xs
unfolding sites_in
sites-member_call g x f xs = refl

site_count-length : (g : Scope) (x : Expr) → capped (site_count g x) ≡ capped (length (sites_in g x))
unfolding site_count
site_count-length g x = refl

type-index : (g : Scope) (x : Expr) (at : Place) (y : Expr) → type_of g (s.index x at y) ≡ subscript_type (type_of g x)
unfolding type_of
type-index g x at y = refl

pub look-index : (g : Scope) (n m : ℕ) (how : Standing) (x : Expr) (at : Place) (y : Expr) (object index : Look) (fault : Option Fault) (u : ExprType)
    (k : ℕ)
    → IsLook g n standing.Plain x object
    → capped m ≡ capped (inside g n (s.index x at y))
    → IsLook g m standing.Plain y index
    → fault ≡ option_or (option_or object.fault index.fault) (own_fault g n how (s.index x at y))
    → u ≡ subscript_type object.expr_type
    → k ≡ capped (capped (object.sites + one_if (is_subscript_site object.expr_type)) + index.sites)
    → IsLook g n how (s.index x at y) (record { fault = fault; expr_type = u; sites = k })
look-index g n m how x at y object index fault u k l e r f t c = record {
  fault =
      f
      ∙ behind_two object.fault index.fault _ _ (own_fault g n how (s.index x at y)) l.fault
      (r.fault ∙ moved g m (inside g n (s.index x at y)) standing.Plain y e)
      ∙ sym (fault-index g n how x at y);
  expr_type = t ∙ ap subscript_type l.expr_type ∙ sym (type-index g x at y);
  sites =
      c
      ∙ count_object g (s.index x at y) x (sites_in g y) object.sites index.sites (is_subscript_site object.expr_type) (sites-index g x at y) l.sites
      (ap is_subscript_site l.expr_type ∙ sym (is_site-index g x at y))
      (r.sites ∙ site_count-length g y);
}

type-member_call : (g : Scope) (x : Expr) (f : Identifier) (xs : Exprs) (own : ExprType) (kept : Option (List ExprType)) → own ≡ type_of g x
    → kept ≡ few (types_of g xs)
    → member_type own f.name (listed kept) ≡ type_of g (s.member_call x f xs)
unfolding type_of
type-member_call g x f xs own kept e h =
    ap (λ o. member_type own f.name (listed o)) h
    ∙ member_type-few own f.name (types_of g xs)
    ∙ ap (λ v. member_type v f.name (types_of g xs)) e

pub look-member_call : (g : Scope) (n m : ℕ) (how : Standing) (x : Expr) (f : Identifier) (xs : Exprs) (own : Look) (looks : LookAll)
    (fault : Option Fault) (u : ExprType) (k : ℕ) (b : Bool)
    → IsLook g n standing.Plain x own
    → capped m ≡ capped (inside g n (s.member_call x f xs))
    → AreLooks g m standing.Plain xs looks
    → fault ≡ option_or (option_or own.fault looks.fault) (own_fault g n how (s.member_call x f xs))
    → u ≡ member_type own.expr_type f.name (listed looks.types)
    → k ≡ capped (capped (own.sites + one_if b) + looks.sites)
    → b ≡ is_site g (s.member_call x f xs)
    → IsLook g n how (s.member_call x f xs) (record { fault = fault; expr_type = u; sites = k })
look-member_call g n m how x f xs own looks fault u k b l e r faulty t c is = record {
  fault =
      faulty
      ∙ behind_two own.fault looks.fault _ _ (own_fault g n how (s.member_call x f xs)) l.fault
      (r.fault ∙ moved_all g m (inside g n (s.member_call x f xs)) standing.Plain xs e)
      ∙ sym (fault-member_call g n how x f xs);
  expr_type = t ∙ type-member_call g x f xs own.expr_type looks.types l.expr_type r.types;
  sites =
      c
      ∙ count_object g (s.member_call x f xs) x (sites_in_all g xs) own.sites looks.sites b (sites-member_call g x f xs) l.sites is r.sites;
}

-- the rule on types at a member call
pub wrong-member_call : (g : Scope) (how : Standing) (x : Expr) (f : Identifier) (xs : Exprs) (own gives : ExprType) (kept : Option (List ExprType))
    (fits : Bool)
    → own ≡ type_of g x
    → kept ≡ few (types_of g xs)
    → gives ≡ member_type own f.name (listed kept)
    → fits ≡ fits_member g own x f.name xs
    → (not fits || (is_iterator_pair gives && not (is_before_part how))) ≡ wrong_type g how (s.member_call x f xs)
unfolding wrong_type
wrong-member_call g how x f xs own gives kept fits e h t is =
    ap (λ b. not b || (is_iterator_pair gives && not (is_before_part how))) (is ∙ ap (λ v. fits_member g v x f.name xs) e)
    ∙ ap (λ v. not (fits_member g (type_of g x) x f.name xs) || (is_iterator_pair v && not (is_before_part how)))
    (t ∙ type-member_call g x f xs own kept e h)

-- ## Calls

type-library_call : (g : Scope) (f : Identifier) (xs : Exprs) (b : Bool) (kept : Option (List ExprType)) → b ≡ appends f.name xs
    → kept ≡ few (types_of g xs)
    → algorithm_type b f.name (listed kept) ≡ type_of g (s.library_call f xs)
unfolding type_of
type-library_call g f xs b kept e h =
    ap (λ o. algorithm_type b f.name (listed o)) h
    ∙ algorithm_type-few b f.name (types_of g xs)
    ∙ ap (λ c. algorithm_type c f.name (types_of g xs)) e

count-library_call : (g : Scope) (f : Identifier) (xs : Exprs) (b : Bool) (r : ℕ) → b ≡ appends f.name xs → r ≡ capped (length (sites_in_all g xs))
    → capped (r + one_if b) ≡ capped (site_count g (s.library_call f xs))
unfolding site_count sites_in
count-library_call g f xs b r is others =
    let own : List Place = own_site g (s.library_call f xs) in
    let rest : List Place = sites_in_all g xs in
    let a : ℕ = length rest in
    ap (λ i. capped (i + one_if b)) others
    ∙ capped-left a (one_if b)
    ∙ ap (λ i. capped (a + i)) (ap one_if (is ∙ sym (is_site-library_call g f xs)) ∙ sym (length-own_site g (s.library_call f xs)))
    ∙ ap capped (add_comm a (length own) ∙ sym (length-append own rest))

pub look-library_call : (g : Scope) (n m : ℕ) (how : Standing) (f : Identifier) (xs : Exprs) (looks : LookAll) (fault : Option Fault) (u : ExprType)
    (k : ℕ) (b : Bool)
    → b ≡ appends f.name xs
    → capped m ≡ capped (inside g n (s.library_call f xs))
    → AreLooks g m (last_standing f.name xs) xs looks
    → fault ≡ option_or looks.fault (own_fault g n how (s.library_call f xs))
    → u ≡ algorithm_type b f.name (listed looks.types)
    → k ≡ capped (looks.sites + one_if b)
    → IsLook g n how (s.library_call f xs) (record { fault = fault; expr_type = u; sites = k })
look-library_call g n m how f xs looks fault u k b is e r faulty t c = record {
  fault =
      faulty
      ∙ ap (λ (o : Option Fault). option_or o (own_fault g n how (s.library_call f xs)))
      (r.fault ∙ moved_all g m (inside g n (s.library_call f xs)) (last_standing f.name xs) xs e)
      ∙ sym (fault-library_call g n how f xs);
  expr_type = t ∙ type-library_call g f xs b looks.types is r.types;
  sites = c ∙ count-library_call g f xs b looks.sites is r.sites;
}

type-call : (g : Scope) (f : Identifier) (xs : Exprs) → type_of g (s.call f xs) ≡ own_type (function_named g f.name)
unfolding type_of
type-call g f xs = refl

count-call : (g : Scope) (f : Identifier) (xs : Exprs) → capped (site_count g (s.call f xs)) ≡ capped (length (sites_in_all g xs))
unfolding site_count sites_in
count-call g f xs = refl

pub look-call : (g : Scope) (n : ℕ) (how : Standing) (f : Identifier) (xs : Exprs) (looks : LookAll) (unknown fault : Option Fault) (u : ExprType)
    → AreLooks g n standing.Plain xs looks
    → unknown ≡ first_of (broken (is_unknown_function g f.name) f.place rule.UNKNOWN_NAME)
    → fault ≡ option_or (option_or unknown looks.fault) (own_fault g n how (s.call f xs))
    → u ≡ own_type (function_named g f.name)
    → IsLook g n how (s.call f xs) (record { fault = fault; expr_type = u; sites = looks.sites })
look-call g n how f xs looks unknown fault u r e faulty t = record {
  fault = faulty ∙ behind_two unknown looks.fault _ _ (own_fault g n how (s.call f xs)) e r.fault ∙ sym (fault-call g n how f xs);
  expr_type = t ∙ sym (type-call g f xs);
  sites = r.sites ∙ sym (count-call g f xs);
}

-- the number of sites before the word of a node behind its object
pub sites_before : (g : Scope) (n : ℕ) (x : Expr) (object : Look) → IsLook g n standing.Plain x object
    → capped (n + object.sites) ≡ capped (n + site_count g x)
sites_before g n x object l = ap (λ i. capped (n + i)) l.sites ∙ capped-right n (site_count g x)
