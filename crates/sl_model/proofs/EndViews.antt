-- What a view of a run's end needs: an end is told by at most one value of the code, a value tells all that the text of the end says, and
-- in a text whose names are apart it tells one end alone.
use Rattle.std.proofs.Common.{◌≡◌, ◌≢◌, ℕ, ◌<◌, List, Option, Some, None, length, refl, sym, ap, ap₂, option_to_list, codes, ◌++◌, ◌∙◌}
use Rattle.std.specs.List.{slice_get}
use Rattle.sl_base.specs.declared.place.Place.{Place}
use Rattle.sl_syntax.specs.Typed.{Typed}
use Rattle.sl_model.specs.declared.end.End.{End as EndCode}
use Rattle.sl_model.specs.declared.end.End.TheVariants as e
use Rattle.sl_model.specs.declared.finish.Finish.{Finish as FinishCode}
use Rattle.sl_model.specs.declared.output.Output.{Output as OutputCode}
use Rattle.sl_model.specs.declared.trap_info.TrapInfo.{TrapInfo}
use Rattle.sl_model.specs.Reports.Covers.{named}
use Rattle.sl_model.specs.Runs.Ends.{Trap, End, Done, Trapped, OutOfSteps, Language, Thrown, NoMeaning, Finish, Output}
use Rattle.sl_model.specs.Reports.EndText.{end_text, end_line, trap_text, run_line, lost_line, with_line_end}
use Rattle.sl_model.specs.Reports.Texts.{kind_text, place_text, who_text, sites_text}
use Rattle.sl_model.specs.Runs.EndView.{IsTrap, IsEnd, IsFinish, output_of}
use Rattle.sl_model.proofs.Getting.{get_some}

-- a value by its parts
abbrev info : Place → ℕ → List ℕ → ℕ → Option (List ℕ) → Option ℕ → TrapInfo
info place kind call argument name killer =
    record { place = place; kind = kind; call = call; argument = argument; name = name; killer = killer }

-- values with equal parts are one
same_info : (a b : TrapInfo) → a.place ≡ b.place → a.kind ≡ b.kind → a.call ≡ b.call → a.argument ≡ b.argument → a.name ≡ b.name
    → a.killer ≡ b.killer → a ≡ b
same_info a b place kind call argument name killer =
    ap (λ x. info x a.kind a.call a.argument a.name a.killer) place ∙ (ap (λ x. info b.place x a.call a.argument a.name a.killer) kind
    ∙ (ap (λ x. info b.place b.kind x a.argument a.name a.killer) call ∙ (ap (λ x. info b.place b.kind b.call x a.name a.killer) argument
    ∙ (ap (λ x. info b.place b.kind b.call b.argument x a.killer) name ∙ ap (λ x. info b.place b.kind b.call b.argument b.name x) killer))))

-- the value that tells a trap
abbrev pub info_of : List (List ℕ) → Trap → TrapInfo
info_of names t = info t.place t.kind t.call t.argument (named names t.name) t.killer

-- it tells it
pub trap_told : (names : List (List ℕ)) (t : Trap) → IsTrap names (info_of names t) t
trap_told names t = record { place = refl; kind = refl; call = refl; argument = refl; name = refl; killer = refl }

-- no other does
pub info_of-only : (names : List (List ℕ)) (a : TrapInfo) (t : Trap) → IsTrap names a t → a ≡ info_of names t
info_of-only names a t h = same_info a (info_of names t) h.place h.kind h.call h.argument h.name h.killer

-- two values that tell one trap are one
pub one_info : (names : List (List ℕ)) (a b : TrapInfo) (t : Trap) → IsTrap names a t → IsTrap names b t → a ≡ b
one_info names a b t h k = info_of-only names a t h ∙ sym (info_of-only names b t k)

-- the value that tells an end, where one does
abbrev pub code_of : List (List ℕ) → End → Option EndCode
code_of names (Done z) = Some (e.Done z)
code_of names (Trapped t) = Some (e.Trap (info_of names t))
code_of names OutOfSteps = Some e.OutOfSteps
code_of names (Language place why) = Some (e.Language place why)
code_of names (Thrown place) = Some (e.Thrown place)
code_of names (NoMeaning place) = None

-- each end that has a meaning is told by a value
pub end_told : (names : List (List ℕ)) (end : End) → ((place : Place) → end ≢ NoMeaning place) → (a : EndCode) × IsEnd names a end
end_told names (Done z) h = (e.Done z, refl)
end_told names (Trapped t) h = (e.Trap (info_of names t), (t, refl, trap_told names t))
end_told names OutOfSteps h = (e.OutOfSteps, refl)
end_told names (Language place why) h = (e.Language place why, refl)
end_told names (Thrown place) h = (e.Thrown place, refl)
end_told names (NoMeaning place) h = absurd (h place refl)

-- no other tells it
pub code_of-only : (names : List (List ℕ)) (a : EndCode) (end : End) → IsEnd names a end → code_of names end ≡ Some a
code_of-only names (e.Done z) end h = ap (code_of names) h
code_of-only names (e.Trap i) end (t, same, h) = ap (code_of names) same ∙ ap (λ x. Some (e.Trap x)) (sym (info_of-only names i t h))
code_of-only names e.OutOfSteps end h = ap (code_of names) h
code_of-only names (e.Language place why) end h = ap (code_of names) h
code_of-only names (e.Thrown place) end h = ap (code_of names) h

-- one value is in two equal options
one_in : {A : Type 0} (a b : A) (o : Option A) → o ≡ Some a → o ≡ Some b → a ≡ b
one_in a b o h k = cc

-- two values that tell one end are one
pub one_end : (names : List (List ℕ)) (a b : EndCode) (end : End) → IsEnd names a end → IsEnd names b end → a ≡ b
one_end names a b end h k = one_in a b (code_of names end) (code_of-only names a end h) (code_of-only names b end k)

-- no value tells an end that has no meaning
pub none_without_meaning : (names : List (List ℕ)) (a : EndCode) (place : Place) → IsEnd names a (NoMeaning place) → ⊥
none_without_meaning names a place h = not_some a (code_of-only names a (NoMeaning place) h)
  where
    not_some : (a : EndCode) → code_of names (NoMeaning place) ≡ Some a → ⊥
    not_some a h = absurd (cc)

-- the code's output by its parts
abbrev output : List ℕ → ℕ → OutputCode
output bytes lost = record { bytes = bytes; lost = lost }

-- two values that tell one output are one
pub one_output : (a b : OutputCode) → output_of a ≡ output_of b → a ≡ b
one_output a b h = ap (λ (x : Output). output x.bytes x.lost) h

-- the code's finish by its parts
abbrev finish : EndCode → OutputCode → FinishCode
finish end output = record { end = end; output = output }

-- two values that tell one finish are one
pub one_finish : (names : List (List ℕ)) (a b : FinishCode) (f : Finish) → IsFinish names a f → IsFinish names b f → a ≡ b
one_finish names a b f h k =
    ap₂ (λ x y. finish x y) (one_end names a.end b.end f.end h.end k.end) (one_output a.output b.output (h.output ∙ sym k.output))

-- the text of a trap, from the value that tells it
abbrev info_text : Typed → TrapInfo → List ℕ
info_text p i = place_text i.place ++ (codes ": " ++ (kind_text i.kind ++ (codes " in " ++ (i.call ++ (codes ": " ++
    (who_text i.call i.argument i.name ++ sites_text p.sites (option_to_list i.killer)))))))

-- two traps that one value tells have one text
one_trap_text : (p : Typed) (i : TrapInfo) (s t : Trap) → IsTrap p.names i s → IsTrap p.names i t → trap_text p s ≡ trap_text p t
one_trap_text p i s t h k = ap (info_text p) (sym (info_of-only p.names i s h) ∙ info_of-only p.names i t k)

-- two ends that one value tells have one line
pub one_line : (p : Typed) (a : EndCode) (end other : End) → IsEnd p.names a end → IsEnd p.names a other → end_line p end ≡ end_line p other
one_line p (e.Done z) end other h k = ap (end_line p) (h ∙ sym k)
one_line p (e.Trap i) end other (s, same, h) (t, too, k) =
    ap (end_line p) same ∙ (ap (λ x. run_line (codes "trap at " ++ x)) (one_trap_text p i s t h k) ∙ sym (ap (end_line p) too))
one_line p e.OutOfSteps end other h k = ap (end_line p) (h ∙ sym k)
one_line p (e.Language place why) end other h k = ap (end_line p) (h ∙ sym k)
one_line p (e.Thrown place) end other h k = ap (end_line p) (h ∙ sym k)

-- two finishes that one value tells have one text
pub one_text : (p : Typed) (a : FinishCode) (f g : Finish) → IsFinish p.names a f → IsFinish p.names a g → end_text p f ≡ end_text p g
one_text p a f g h k =
    ap₂ (λ (o : Output) line. with_line_end o.bytes ++ (lost_line o.lost ++ line)) (sym h.output ∙ k.output)
    (one_line p a.end f.end g.end h.end k.end)

-- each name of a list stands once in it
abbrev pub AreApart : List (List ℕ) → Type 0
AreApart names = (i j : ℕ) (x : List ℕ) → slice_get names i ≡ Some x → slice_get names j ≡ Some x → i ≡ j

-- a number of a name is one of the list
abbrev pub IsNumber : List (List ℕ) → Option ℕ → Type 0
IsNumber names None = Unit
IsNumber names (Some n) = n < length names

-- in a list whose names are apart two numbers of a name are one
one_number : (names : List (List ℕ)) (m n : Option ℕ) → AreApart names → IsNumber names m → IsNumber names n → named names m ≡ named names n
    → m ≡ n
one_number names None None apart h k same = refl
one_number names None (Some n) apart h k same = let there = get_some names n k in let found = there.1 in absurd (cc)
one_number names (Some m) None apart h k same = let there = get_some names m h in let found = there.1 in absurd (cc)
one_number names (Some m) (Some n) apart h k same =
    let there = get_some names n k in ap (λ x. Some x) (apart m n there.0 (same ∙ there.1) there.1)

-- a trap by its parts
abbrev trap : Place → ℕ → List ℕ → ℕ → Option ℕ → Option ℕ → Trap
trap place kind call argument name killer =
    record { place = place; kind = kind; call = call; argument = argument; name = name; killer = killer }

-- in a text whose names are apart, two traps that one value tells are one
pub one_trap : (names : List (List ℕ)) (i : TrapInfo) (s t : Trap) → AreApart names → IsNumber names s.name → IsNumber names t.name
    → IsTrap names i s → IsTrap names i t → s ≡ t
one_trap names i s t apart m n h k =
    ap₂ (λ (x : TrapInfo) name. trap x.place x.kind x.call x.argument name x.killer)
    (sym (info_of-only names i s h) ∙ info_of-only names i t k)
    (one_number names s.name t.name apart m n (sym h.name ∙ k.name))
