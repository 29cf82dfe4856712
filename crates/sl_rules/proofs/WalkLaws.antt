-- A walk over an expression of the code, and a loop over arguments.
use Rattle.std.proofs.Common.{◌≡◌, refl, ℕ, ◌+◌, ◌-◌, ◌<◌, ◌≤◌, ◌==◌, List, [], ◌∷◌, map, take, drop, length, flat_map, get_or, suc}
use Rattle.std.proofs.Common.{Option, Some, None, ap, sym, ◌∙◌, subst, arith, add_assoc}
use Rattle.std.specs.Prelude.{if◌then◌else◌}
use Rattle.std.specs.Option.{option_or}
use Rattle.std.proofs.Math.Seq.{drop-length, drop-cons}
use Rattle.std.proofs.lemmas.Bool.Decides.{nat_tests}
use Rattle.std.proofs.lemmas.List.{length-drop}
use Rattle.sl_expr_types.specs.Capped.{capped}
use Rattle.sl_expr_types.specs.Few.{few, pushed_to}
use Rattle.sl_expr_types.proofs.CountLaws.{sites_at, count-none, count-more, count-all, two}
use Rattle.sl_expr_types.proofs.SiteLaws.{capped-right}
use Rattle.sl_expr_types.proofs.TypeLaws.{type_at, types-more, types-all}
use Rattle.sl_rules.specs.declared.look.Look.{Look}
use Rattle.sl_rules.specs.declared.look.LookAll.{LookAll}
use Rattle.sl_rules.specs.Looks.{IsLook, AreLooks}
use Rattle.sl_rules.proofs.CappedLaws.{capped-twice, faults-same, all-same}
use Rattle.sl_rules.proofs.FaultLaws.{first_fault, first_of_all, fault-none, fault-with}
use Rattle.sl_syntax.specs.declared.tree.expr.Expr.{Expr as ExprCode}
use Rattle.sl_syntax.specs.Tree.{Expr, Exprs}
use Rattle.sl_syntax.specs.TreeView.{expr_of, exprs_of}
use Rattle.sl_typing.specs.declared.expr_type.ExprType.{ExprType}
use Rattle.sl_typing.specs.declared.fault.Fault.{Fault}
use Rattle.sl_typing.specs.declared.scope.Scope.{Scope}
use Rattle.sl_typing.specs.declared.standing.Standing.{Standing}
use Rattle.sl_typing.specs.declared.standing.Standing.TheVariants as standing
use Rattle.sl_typing.specs.Faults.{standing_before}
use Rattle.sl_typing.specs.Sites.{site_count}
use Rattle.sl_typing.specs.TypeOf.{are_none}
use Rattle.sl_typing.specs.Typing.{first_of}

-- ## An expression of the code

-- a look at what an expression of the code is as data
pub as_code : (g : Scope) (n : ℕ) (how : Standing) (e : ExprCode) (y : Expr) (look : Look) → expr_of e ≡ y → IsLook g n how y look
    → IsLook g n how (expr_of e) look
as_code g n how e y look same l = let P : Expr → Type 0 = λ z. IsLook g n how z look in subst P (sym same) l

-- a look at one place is one at the same code elsewhere
pub same_code : (g : Scope) (n : ℕ) (how : Standing) (x y : ExprCode) (look : Look) → x ≡ y → IsLook g n how (expr_of x) look
    → IsLook g n how (expr_of y) look
same_code g n how x y look same l = let P : ExprCode → Type 0 = λ z. IsLook g n how (expr_of z) look in subst P same l

pub same_row : (g : Scope) (n : ℕ) (last : Standing) (xs ys : List ExprCode) (looks : LookAll) → xs ≡ ys → AreLooks g n last (exprs_of xs) looks
    → AreLooks g n last (exprs_of ys) looks
same_row g n last xs ys looks same l = let P : List ExprCode → Type 0 = λ zs. AreLooks g n last (exprs_of zs) looks in subst P same l

pub same_standing : (g : Scope) (n : ℕ) (how other : Standing) (x : Expr) (look : Look) → how ≡ other → IsLook g n how x look
    → IsLook g n other x look
same_standing g n how other x look same l = let P : Standing → Type 0 = λ h. IsLook g n h x look in subst P same l

pub same_last : (g : Scope) (n : ℕ) (last other : Standing) (xs : Exprs) (looks : LookAll) → last ≡ other → AreLooks g n last xs looks
    → AreLooks g n other xs looks
same_last g n last other xs looks same l = let P : Standing → Type 0 = λ h. AreLooks g n h xs looks in subst P same l

-- a number that is another one as far as it counts counts alike
pub counts_alike : (m n : ℕ) → m ≡ capped n → capped m ≡ capped n
counts_alike m n h = ap capped h ∙ capped-twice n

-- ## A loop

-- what is found at the first i of these: a fault, else those of the others stand; their types, and the number of their sites
pub record LooksSoFar (g : Scope) (n : ℕ) (last : Standing) (xs : List ExprCode) (i : ℕ) (found : Option Fault) (kept : Option (List ExprType))
    (count : ℕ) : Type 0 where
  pub fault : option_or found (first_of_all g (n + count) last (exprs_of (drop i xs))) ≡ first_of_all g n last (exprs_of xs)
  pub types : kept ≡ few (map (type_at g) (take i xs))
  pub sites : count ≡ capped (length (flat_map (sites_at g) (take i xs)))

pub looks_init : (g : Scope) (n : ℕ) (last : Standing) (xs : List ExprCode) (kept : Option (List ExprType)) → kept ≡ few []
    → LooksSoFar g n last xs 0 None kept 0
looks_init g n last xs kept e =
    let same : n + 0 ≡ n = omega arith in
    record { fault = ap (λ m. first_of_all g m last (exprs_of xs)) same; types = e; sites = sym count-none }

or_none : (a : Option Fault) → option_or a None ≡ a
or_none None = refl
or_none (Some x) = refl

or_assoc : (a b c : Option Fault) → option_or (option_or a b) c ≡ option_or a (option_or b c)
or_assoc None b c = refl
or_assoc (Some x) b c = refl

none_exprs : (xs : List ExprCode) → are_none (exprs_of xs) ≡ (length xs == 0)
none_exprs [] = refl
none_exprs (x ∷ xs) = grind (arith, nat_tests)

-- how an argument stands, by how many follow
stands_so : (last : Standing) (xs : List ExprCode) (i : ℕ) → i < length xs
    → (if (length xs - 1) - i == 0 then last else standing.Plain) ≡ standing_before (exprs_of (drop (i + 1) xs)) last
stands_so last xs i within =
    let left : (length xs - 1) - i ≡ length (drop (i + 1) xs) = omega (arith, length-drop (i + 1) xs) in
    ap (λ k. if k == 0 then last else standing.Plain) left
    ∙ ap (λ b. if b then last else standing.Plain) (sym (none_exprs (drop (i + 1) xs)))

-- the numbers of sites before what follows an argument
count_alike : (n count k l count' : ℕ) → l ≡ capped k → count' ≡ capped (count + l) → capped (n + count') ≡ capped ((n + count) + k)
count_alike n count k l count' e c =
    ap (λ i. capped (n + i)) (c ∙ ap (λ i. capped (count + i)) e ∙ capped-right count k)
    ∙ capped-right n (count + k)
    ∙ ap capped (sym (add_assoc n count k))

pub looks_turn : (g : Scope) (n m : ℕ) (last how : Standing) (xs : List ExprCode) (i : ℕ) (x : ExprCode) (look : Look) (found found' : Option Fault)
    (kept kept' : Option (List ExprType)) (count count' : ℕ)
    → i < length xs
    → x ≡ get_or xs i x
    → LooksSoFar g n last xs i found kept count
    → m ≡ capped (n + count)
    → how ≡ (if (length xs - 1) - i == 0 then last else standing.Plain)
    → IsLook g m how (expr_of x) look
    → found' ≡ option_or found look.fault
    → kept' ≡ pushed_to kept look.expr_type
    → count' ≡ capped (count + look.sites)
    → LooksSoFar g n last xs (i + 1) found' kept' count'
looks_turn g n m last how xs i x look found found' kept kept' count count' within is so_far number stands l f t c =
    let rest : Exprs = exprs_of (drop (i + 1) xs) in
    let next : i + 1 ≡ suc i = omega arith in
    let front : drop i xs ≡ x ∷ drop (i + 1) xs =
    drop-cons xs i x within ∙ ap (λ y. y ∷ drop (suc i) xs) (sym is) ∙ ap (λ j. x ∷ drop j xs) (sym next) in
    let here : look.fault ≡ first_fault g (n + count) (standing_before rest last) (expr_of x) =
    l.fault
    ∙ ap first_of (faults-same g m (n + count) how (expr_of x) (counts_alike m (n + count) number))
    ∙ ap (λ h. first_fault g (n + count) h (expr_of x)) (stands ∙ stands_so last xs i within) in
    let behind : first_of_all g (n + count') last rest ≡ first_of_all g ((n + count) + site_count g (expr_of x)) last rest =
    ap first_of
    (all-same g (n + count') ((n + count) + site_count g (expr_of x)) last rest (count_alike n count (site_count g (expr_of x)) look.sites count' l.sites c)) in
    record {
      fault =
          ap (λ (o : Option Fault). option_or o (first_of_all g (n + count') last rest)) f
          ∙ or_assoc found look.fault (first_of_all g (n + count') last rest)
          ∙ ap (λ (o : Option Fault). option_or found (option_or o (first_of_all g (n + count') last rest))) here
          ∙ ap (λ (o : Option Fault). option_or found (option_or (first_fault g (n + count) (standing_before rest last) (expr_of x)) o)) behind
          ∙ ap (option_or found) (sym (fault-with g (n + count) last (expr_of x) rest))
          ∙ ap (λ ys. option_or found (first_of_all g (n + count) last (exprs_of ys))) (sym front)
          ∙ so_far.fault;
      types =
          t
          ∙ ap (λ (o : Option (List ExprType)). pushed_to o look.expr_type) so_far.types
          ∙ ap (pushed_to (few (map (type_at g) (take i xs)))) l.expr_type
          ∙ types-more g xs i x within is;
      sites = c ∙ two count _ look.sites _ so_far.sites l.sites ∙ count-more g xs i x within is;
    }

pub looks_end : (g : Scope) (n : ℕ) (last : Standing) (xs : List ExprCode) (i : ℕ) (found : Option Fault) (kept : Option (List ExprType)) (count : ℕ)
    → i ≡ length xs
    → LooksSoFar g n last xs i found kept count
    → AreLooks g n last (exprs_of xs) (record { fault = found; types = kept; sites = count })
looks_end g n last xs i found kept count e so_far =
    let left : drop i xs ≡ [] = rw e (drop-length xs) in
    let all : length xs ≤ i = omega arith in
    record {
      fault =
          sym (or_none found)
          ∙ ap (option_or found) (sym (fault-none g (n + count) last))
          ∙ ap (λ ys. option_or found (first_of_all g (n + count) last (exprs_of ys))) (sym left)
          ∙ so_far.fault;
      types = so_far.types ∙ types-all g xs i all;
      sites = so_far.sites ∙ count-all g xs i all;
    }
