-- What a node does by itself, from what is found of its parts.
use Rattle.std.proofs.Common.{◌≡◌, ℕ, zero, suc, ◌-◌, Vec, length, refl, sym, ap, ◌∙◌, arith}
use Rattle.std.proofs.lemmas.List.Folds.{list_all-append}
use Rattle.std.specs.declared.alloc.Global.{Global}
use Rattle.std.specs.Prelude.{Bool, ◌&&◌, List, [], ◌∷◌, ◌++◌, Option, Some, slice_get, codes, if◌then◌else◌}
use Rattle.std.specs.List.{list_all, zip}
use Rattle.std.specs.Str.{bytes_eq}
use Rattle.sl_syntax.specs.declared.tree.expr.Expr.{Expr as ExprCode}
use Rattle.sl_syntax.specs.declared.tree.expr.Expr.TheVariants as e
use Rattle.sl_syntax.specs.declared.tree.identifier.Identifier.{Identifier}
use Rattle.sl_syntax.specs.declared.typed.parameter.ParameterKind.{ParameterKind}
use Rattle.sl_syntax.specs.Tree as s
use Rattle.sl_syntax.specs.Tree.{Expr, Exprs}
use Rattle.sl_syntax.specs.TreeView.{expr_of, exprs_of}
use Rattle.sl_syntax.proofs.TreeViews.{expr_of-LibraryCall}
use Rattle.sl_typing.specs.declared.expr_type.ExprType.{ExprType}
use Rattle.sl_typing.specs.declared.scope.FunctionHead.{FunctionHead}
use Rattle.sl_typing.specs.declared.scope.Scope.{Scope}
use Rattle.sl_typing.specs.TypeOf.{type_of, size, appends}
use Rattle.sl_typing.specs.Looks.{bare_name}
use Rattle.sl_typing.specs.Order.{Deeds, changing, writing, nothing_done, container_names, handed_names, parameters_of, last_arguments, member_changes}
use Rattle.sl_typing.specs.Order.{member_deeds, subscript_changes, subscript_deeds, algorithm_deeds, first_name, writes_elements}
use Rattle.sl_effect_order.specs.declared.seen_deeds.SeenDeeds.{SeenDeeds}
use Rattle.sl_effect_order.specs.Means.Seen.{seen, change_seen, spares_argument, spares_container}
use Rattle.sl_effect_order.proofs.SeenLaws.{seen-changing, handed-each, containers-each}

-- a change of the variables that were found
pub change-found : (test : List ℕ → Bool) (d : SeenDeeds) (b : Bool) (ns names : List (List ℕ))
    → d ≡ change_seen b → b ≡ list_all test ns → ns ≡ names → d ≡ seen test (changing names)
change-found test d b ns names k l m = k ∙ ap change_seen (l ∙ ap (list_all test) m) ∙ seen-changing test names

-- how many arguments there are
pub size-exprs_of : (xs : List ExprCode) → size (exprs_of xs) ≡ length xs
size-exprs_of [] = refl
size-exprs_of (x ∷ xs) = rw (size-exprs_of xs) (omega arith)

-- the arguments of the call that stands last
pub last-LibraryCall : (f : Identifier) (v : Vec ExprCode Global) (xs : List ExprCode) → xs ≡ v.items
    → exprs_of xs ≡ last_arguments (s.with (expr_of (e.LibraryCall f v)) s.none)
last-LibraryCall f v xs k = ap exprs_of k ∙ sym (ap (λ (z : Expr). last_arguments (s.with z s.none)) (expr_of-LibraryCall f v))

last-skip : (x z : Expr) (zs : Exprs) → last_arguments (s.with x (s.with z zs)) ≡ last_arguments (s.with z zs)
last-skip (s.library_call f ys) z zs = refl
last-skip x z zs = refl

last-there : (xs : List ExprCode) (n : ℕ) (x : ExprCode) → suc n ≡ length xs → slice_get xs n ≡ Some x
    → last_arguments (s.with (expr_of x) s.none) ≡ last_arguments (exprs_of xs)
last-there [] n x k e = absurd cc
last-there (y ∷ []) zero x k e = let same : x ≡ y = cc in ap (λ (z : ExprCode). last_arguments (s.with (expr_of z) s.none)) same
last-there (y ∷ []) (suc n) x k e = absurd (omega arith)
last-there (y ∷ z ∷ xs) zero x k e = absurd (omega arith)
last-there (y ∷ z ∷ xs) (suc n) x k e = last-there (z ∷ xs) n x (omega arith) e ∙ sym (last-skip (expr_of y) (expr_of z) (exprs_of xs))

pub last-found : (xs : List ExprCode) (x : ExprCode) → Some x ≡ slice_get xs (length xs - 1)
    → last_arguments (s.with (expr_of x) s.none) ≡ last_arguments (exprs_of xs)
last-found [] x h = absurd cc
last-found (y ∷ xs) x h =
    let e : length (y ∷ xs) - 1 ≡ length xs = omega arith in last-there (y ∷ xs) (length xs) x refl (sym (h ∙ ap (slice_get (y ∷ xs)) e))

-- the arguments that a function which was found binds to references
pub handed-found : (test : List ℕ → Bool) (h : FunctionHead) (found : Option FunctionHead) (ks : List ParameterKind) (xs : List ExprCode)
    → ks ≡ h.parameters → Some h ≡ found
    → list_all (λ (p : ParameterKind × ExprCode). spares_argument test p.0 (expr_of p.1)) (zip ks xs)
    ≡ list_all test (handed_names (parameters_of found) (exprs_of xs))
handed-found test h found ks xs k l =
    handed-each test ks xs
    ∙ ap (λ (js : List ParameterKind). list_all test (handed_names js (exprs_of xs))) k
    ∙ ap (λ (o : Option FunctionHead). list_all test (handed_names (parameters_of o) (exprs_of xs))) l

-- `[ ]`, by what was found
pub subscript-is : (test : List ℕ → Bool) (g : Scope) (x : Expr) (u : ExprType) (found there : Bool) → found ≡ subscript_changes u → u ≡ type_of g x
    → found ≡ there → seen test (if there then changing (bare_name x) else nothing_done) ≡ seen test (subscript_deeds g x)
subscript-is test g x u found there k l m =
    ap (λ (b : Bool). seen test (if b then changing (bare_name x) else nothing_done)) (sym m ∙ k ∙ ap subscript_changes l)

-- a member call
pub member-is : (test : List ℕ → Bool) (g : Scope) (x : Expr) (name : List ℕ) (xs : List ExprCode) (u : ExprType) (found there : Bool)
    → found ≡ member_changes u name (length xs) → u ≡ type_of g x → found ≡ there
    → seen test (if there then changing (bare_name x ++ container_names g (exprs_of xs)) else nothing_done)
    ≡ seen test (member_deeds g x name (exprs_of xs))
member-is test g x name xs u found there k l m =
    ap (λ (b : Bool). seen test (if b then changing (bare_name x ++ container_names g (exprs_of xs)) else nothing_done))
    (sym m ∙ k ∙ ap (λ (v : ExprType). member_changes v name (length xs)) l ∙ ap (member_changes (type_of g x) name) (sym (size-exprs_of xs)))

pub member-change : (test : List ℕ → Bool) (g : Scope) (x : Expr) (xs : List ExprCode) (d : SeenDeeds) (a b : Bool) (ns : List (List ℕ))
    → d ≡ change_seen (a && b) → a ≡ list_all test ns → ns ≡ bare_name x
    → b ≡ list_all (λ (y : ExprCode). spares_container test g (expr_of y)) xs
    → d ≡ seen test (changing (bare_name x ++ container_names g (exprs_of xs)))
member-change test g x xs d a b ns k l m n =
    k
    ∙ ap (λ (c : Bool). change_seen (c && b)) (l ∙ ap (list_all test) m)
    ∙ ap (λ (c : Bool). change_seen (list_all test (bare_name x) && c)) (n ∙ containers-each test g xs)
    ∙ ap change_seen (sym (list_all-append test (bare_name x) (container_names g (exprs_of xs))))
    ∙ seen-changing test (bare_name x ++ container_names g (exprs_of xs))

-- an algorithm
abbrev pub algorithm_choice : Bool → Bool → Bool → List (List ℕ) → List (List ℕ) → Deeds
algorithm_choice advances appends writes first last =
    if advances then changing first else if appends then changing last else if writes then writing else nothing_done

pub algorithm-is : (test : List ℕ → Bool) (name : List ℕ) (xs : List ExprCode) (advances appending writes : Bool)
    → advances ≡ bytes_eq name (codes "advance") → appending ≡ appends name (exprs_of xs) → writes ≡ writes_elements name (length xs)
    → seen test (algorithm_choice advances appending writes (first_name (exprs_of xs)) (first_name (last_arguments (exprs_of xs))))
    ≡ seen test (algorithm_deeds name (exprs_of xs))
algorithm-is test name xs advances appending writes k l m =
    let first = first_name (exprs_of xs) in
    let last = first_name (last_arguments (exprs_of xs)) in
    ap (λ (b : Bool). seen test (algorithm_choice b appending writes first last)) k
    ∙ ap (λ (b : Bool). seen test (algorithm_choice (bytes_eq name (codes "advance")) b writes first last)) l
    ∙ ap (λ (b : Bool). seen test (algorithm_choice (bytes_eq name (codes "advance")) (appends name (exprs_of xs)) b first last))
    (m ∙ ap (writes_elements name) (sym (size-exprs_of xs)))
