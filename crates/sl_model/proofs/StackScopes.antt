-- What is in scope is where its type says: each container, iterator and reference of a scope, and with each one more.
use Rattle.std.proofs.Common.{◌≡◌, ℕ, zero, suc, ◌+◌, ◌<◌, true, List, [], ◌∷◌, ◌++◌, Option, Some, None, length, refl, sym, ap, ◌∙◌, subst, arith}
use Rattle.std.specs.Prelude.{slice_get, slice_index, slice_index_or}
use Rattle.std.proofs.lemmas.Option.{get_or_from_slice_get}
use Rattle.sl_base.specs.declared.form.Form.{Form}
use Rattle.sl_base.specs.declared.scalar.Scalar.{Scalar}
use Rattle.sl_typing.specs.declared.expr_type.ExprType.{ExprType}
use Rattle.sl_typing.specs.declared.expr_type.ExprType.TheVariants as types
use Rattle.sl_typing.specs.Types.{has_type}
use Rattle.sl_model.specs.Memory.Containers.{Memory}
use Rattle.sl_model.specs.Runs.State.{Pointer, iterator_at, reference_to, mark_in}
use Rattle.sl_model.specs.Typing.WellTypedScopes.{variable_type}
use Rattle.sl_model.proofs.Getting.{get_left, get_within, get_behind}
use Rattle.sl_model.proofs.Fitting.{StampFits}
use Rattle.sl_model.proofs.StackTypes.{Kind, iterator_of, a_reference, Stack, Holds, Lies, AreNumbers, ContFits, ContsFit, IterFits, ItersFit}

-- a container in scope is of its form
pub conts_at : (fs : List Form) (us : List ExprType) (ls : List ℕ) (x : ℕ) → ContsFit fs us ls → x < length ls
    → ContFits fs (variable_type us x) (slice_index ls x)
conts_at fs [] [] x h low = absurd (omega arith)
conts_at fs [] (l ∷ ls) x h low = absurd h
conts_at fs (u ∷ us) [] x h low = absurd h
conts_at fs (u ∷ us) (l ∷ ls) zero h low = h.0
conts_at fs (u ∷ us) (l ∷ ls) (suc x) h low = conts_at fs us ls x h.1 (omega arith)

-- an iterator or a reference in scope is of its kind
pub iters_at : (ks : List Kind) (us : List ExprType) (ls : List ℕ) (x : ℕ) → ItersFit ks us ls → x < length ls
    → IterFits ks (variable_type us x) (slice_index ls x)
iters_at ks [] [] x h low = absurd (omega arith)
iters_at ks [] (l ∷ ls) x h low = absurd h
iters_at ks (u ∷ us) [] x h low = absurd h
iters_at ks (u ∷ us) (l ∷ ls) zero h low = h.0
iters_at ks (u ∷ us) (l ∷ ls) (suc x) h low = iters_at ks us ls x h.1 (omega arith)

-- a type is that of a number
abbrev pub IsNumberType : ExprType → Type 0
IsNumberType (types.Scalar s) = Unit {0}
IsNumberType (types.Element w) = Unit {0}
IsNumberType u = ⊥

-- the type of a scalar that is there is
pub scalars_at : (us : List ExprType) (x : ℕ) → AreNumbers us → has_type (variable_type us x) ≡ true → IsNumberType (variable_type us x)
scalars_at [] x h t = absurd (cc)
scalars_at (types.Scalar s ∷ us) zero h t = tt
scalars_at (types.Scalar s ∷ us) (suc x) h t = scalars_at us x h t
scalars_at (u ∷ us) x h t = absurd h

-- a container of a form goes on to be so where there are more
cont_more : (fs more : List Form) (u : ExprType) (l : ℕ) → ContFits fs u l → ContFits (fs ++ more) u l
cont_more fs more (types.Container access form) l h = get_left fs more l (get_within fs l form h) ∙ h
cont_more fs more u l h = h

-- and so do all of these
conts_more : (fs more : List Form) (us : List ExprType) (ls : List ℕ) → ContsFit fs us ls → ContsFit (fs ++ more) us ls
conts_more fs more [] [] h = tt
conts_more fs more [] (l ∷ ls) h = h
conts_more fs more (u ∷ us) [] h = h
conts_more fs more (u ∷ us) (l ∷ ls) h = (cont_more fs more u l h.0, conts_more fs more us ls h.1)

-- a container comes into scope
pub conts_with : (fs : List Form) (us : List ExprType) (ls : List ℕ) (u : ExprType) (l : ℕ) → ContFits fs u l → ContsFit fs us ls
    → ContsFit fs (us ++ u ∷ []) (ls ++ l ∷ [])
conts_with fs [] [] u l new h = (new, tt)
conts_with fs [] (k ∷ ls) u l new h = absurd h
conts_with fs (v ∷ us) [] u l new h = absurd h
conts_with fs (v ∷ us) (k ∷ ls) u l new h = (h.0, conts_with fs us ls u l new h.1)

-- a new container does
pub conts_new : (fs : List Form) (us : List ExprType) (ls : List ℕ) (form : Form) (u : ExprType) (l : ℕ) → ContFits (fs ++ form ∷ []) u l
    → ContsFit fs us ls → ContsFit (fs ++ form ∷ []) (us ++ u ∷ []) (ls ++ l ∷ [])
conts_new fs us ls form u l new h = conts_with (fs ++ form ∷ []) us ls u l new (conts_more fs (form ∷ []) us ls h)

-- an iterator or a reference goes on to be of its kind where there are more
iter_more : (ks more : List Kind) (u : ExprType) (l : ℕ) → IterFits ks u l → IterFits (ks ++ more) u l
iter_more ks more (types.Iterator b form) l h = get_left ks more l (get_within ks l (iterator_of form) h) ∙ h
iter_more ks more (types.IntReference w) l h = get_left ks more l (get_within ks l a_reference h) ∙ h
iter_more ks more (types.EntryReference w) l h = get_left ks more l (get_within ks l a_reference h) ∙ h
iter_more ks more u l h = h

-- a new iterator or reference comes into scope
pub iters_new : (ks : List Kind) (us : List ExprType) (ls : List ℕ) (k : Kind) (u : ExprType) (l : ℕ) → IterFits (ks ++ k ∷ []) u l
    → ItersFit ks us ls → ItersFit (ks ++ k ∷ []) (us ++ u ∷ []) (ls ++ l ∷ [])
iters_new ks [] [] k u l new h = (new, tt)
iters_new ks [] (j ∷ ls) k u l new h = absurd h
iters_new ks (v ∷ us) [] k u l new h = absurd h
iters_new ks (v ∷ us) (j ∷ ls) k u l new h = (iter_more ks (k ∷ []) v j h.0, iters_new ks us ls k u l new h.1)

-- a scalar comes into scope
pub numbers_with : (us : List ExprType) (s : Scalar) → AreNumbers us → AreNumbers (us ++ types.Scalar s ∷ [])
numbers_with [] s h = tt
numbers_with (types.Scalar r ∷ us) s h = numbers_with us s h
numbers_with (u ∷ us) s h = absurd h

-- the last of a list with one more is what was added
pub last_there : {A : Type 0} (xs : List A) (x : A) (n : ℕ) → length xs ≡ n → slice_get (xs ++ x ∷ []) n ≡ Some x
last_there xs x n e = ap (slice_get (xs ++ x ∷ [])) (let r : length xs ≡ n = e in let t : n ≡ length xs + 0 = omega arith in t)
    ∙ get_behind xs (x ∷ []) 0

-- an iterator in scope holds a stamp that fits
pub iterator-held : (d : Stack) (m : Memory) (held : List Pointer) (l : ℕ) (form : Form) → slice_get d.iters l ≡ Some (iterator_of form)
    → Lies d m held → StampFits m form (mark_in (slice_index_or held l (iterator_at 0)))
iterator-held d m held l form there h = by_pointer (slice_get held l) refl (h.iters l (iterator_of form) there)
  where
    by_pointer : (o : Option Pointer) → slice_get held l ≡ o → Holds m (iterator_of form) o
        → StampFits m form (mark_in (slice_index_or held l (iterator_at 0)))
    by_pointer None e i = absurd i
    by_pointer (Some (reference_to refer part)) e i = absurd i
    by_pointer (Some (iterator_at stamp)) e i = subst (λ (p : Pointer). StampFits m form (mark_in p))
        (sym (get_or_from_slice_get held l (iterator_at stamp) (iterator_at 0) e)) i

-- what is held is a reference
abbrev pub IsReference : Pointer → Type 0
IsReference (reference_to refer part) = Unit {0}
IsReference (iterator_at stamp) = ⊥

-- a reference in scope holds one
pub reference-held : (d : Stack) (m : Memory) (held : List Pointer) (l : ℕ) → slice_get d.iters l ≡ Some a_reference → Lies d m held
    → IsReference (slice_index_or held l (iterator_at 0))
reference-held d m held l there h = by_pointer (slice_get held l) refl (h.iters l a_reference there)
  where
    by_pointer : (o : Option Pointer) → slice_get held l ≡ o → Holds m a_reference o → IsReference (slice_index_or held l (iterator_at 0))
    by_pointer None e i = absurd i
    by_pointer (Some (iterator_at stamp)) e i = absurd i
    by_pointer (Some (reference_to refer part)) e i = subst (λ (p : Pointer). IsReference p)
        (sym (get_or_from_slice_get held l (reference_to refer part) (iterator_at 0) e)) tt
