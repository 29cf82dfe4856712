-- The report on a text that is built of tokens: it is exact and in order, and each warning is founded in the text.
use Rattle.std.proofs.Common.{arith, ◌≡◌, ℕ, ◌+◌, ◌<◌, ◌≤◌, List, length, drop, Some, ◌⊎◌, inl, inr, refl, ap, sym, subst, ◌∙◌}
use Rattle.std.specs.Prelude.{slice_get, Contains}
use Rattle.std.proofs.lemmas.List.{drop-map}
use Rattle.std.proofs.Math.Seq.{drop-append_seam}
use Rattle.sl_base.specs.declared.limits.TheConstants.{STATEMENTS}
use Rattle.sl_base.specs.declared.place.Place.{Place}
use Rattle.sl_base.specs.declared.token.Token.{Token}
use Rattle.sl_base.specs.Tokens.{Tokens}
use Rattle.sl_syntax.specs.declared.subset.Stmt.{Stmt}
use Rattle.sl_syntax.specs.declared.subset.Stmt.TheVariants.{PushBack}
use Rattle.sl_syntax.specs.declared.subset.Text.{Text}
use Rattle.sl_syntax.specs.SubsetView.{typed_of}
use Rattle.sl_model.specs.Reports.Covers.{Warning as WarningValue}
use Rattle.sl_tool.specs.declared.analysis.Warning.{Warning}
use Rattle.sl_tool.specs.declared.analysis.Fault.{Fault}
use Rattle.sl_tool.specs.declared.analysis.Fault.TheVariants.{InvalidIterator, EndIterator}
use Rattle.sl_tool.specs.Means.Analysis.{nothing_known, warnings_of}
use Rattle.sl_tool.specs.Means.Told.{kind_of, killers_in, warning_of, report_of}
use Rattle.sl_tool.specs.Subset.{head_words, no_scope, typed_items, push_places, ReadsAs, IsBuilt}
use Rattle.sl_tool.proofs.Uses.{UsesDeclared}
use Rattle.sl_tool.specs.Means.Reading.{AreItems}
use Rattle.sl_tool.specs.Exactness.{IsExact, IsPushBefore, IsFounded, Ascend}
use Rattle.sl_tool.proofs.Nodes.{HasCause, IsOfNode, PlacesAscend}
use Rattle.sl_warnings.specs.Reports.{IsAscending}
use Rattle.sl_tool.proofs.Goes.{get-left}
use Rattle.sl_tool.proofs.Exactness.{is_exact}
use Rattle.sl_tool.proofs.Causes.{has-node}
use Rattle.sl_tool.proofs.KillersAscend.{killers-ascend}
use Rattle.sl_tool.proofs.InOrder.{told_one, in-order}
use Rattle.sl_base.specs.Tokens.{TokensAscend}
use Rattle.sl_lexer.proofs.TokenOrder.{tokens-ascend}
use Rattle.sl_tool.proofs.Built.{places-ascend, count_items, uses_items, site_in}
use Rattle.sl_model.proofs.Getting.{get_drop}

-- the tokens of the body
abbrev body_of : List Token → List Token
body_of tokens = drop (length head_words) tokens

-- they are the items
are_items : (tokens : List Token) (p : Text) (r : ReadsAs tokens p) → AreItems no_scope (body_of tokens) STATEMENTS r.items
are_items tokens p r = record {
  words = sym (drop-map (λ (t : Token). t.word) (length head_words) tokens) ∙ ap (λ l. drop (length head_words) l) r.words
      ∙ drop-append_seam head_words _;
  allowed = r.allowed;
  few = r.few;
}

-- the statements of the text are those of the items
stmts_are : (tokens : List Token) (p : Text) (r : ReadsAs tokens p) → p.stmts ≡ typed_items no_scope (body_of tokens) r.items
stmts_are tokens p r = ap (λ (q : Text). q.stmts) r.typed

-- the places of tokens further on come in their order
ascend_behind : (tokens : List Token) (n : ℕ) → TokensAscend tokens → TokensAscend (drop n tokens)
ascend_behind tokens n ascend i j s t lt a b = ascend (n + i) (n + j) s t (omega arith) (sym (get_drop n tokens i) ∙ a)
    (sym (get_drop n tokens j) ∙ b)

pub uses-declared : (tokens : List Token) (p : Text) → ReadsAs tokens p → UsesDeclared 0 0 p.stmts
uses-declared tokens p r = subst (λ l. UsesDeclared 0 0 l) (sym (stmts_are tokens p r)) (uses_items no_scope (body_of tokens) r.items r.allowed)

few-statements : (tokens : List Token) (p : Text) → ReadsAs tokens p → length p.stmts ≤ STATEMENTS
few-statements tokens p r = let few = r.few in let e : length p.stmts ≡ length r.items = ap length (stmts_are tokens p r)
    ∙ count_items no_scope (body_of tokens) r.items in omega arith

stars-ascend : (text : List ℕ) (tokens : List Token) (p : Text) → Tokens text tokens → ReadsAs tokens p → PlacesAscend p.stmts
stars-ascend text tokens p cut r = subst PlacesAscend (sym (stmts_are tokens p r))
    (places-ascend no_scope (body_of tokens) STATEMENTS r.items (are_items tokens p r)
    (ascend_behind tokens (length head_words) (tokens-ascend text tokens cut)))

-- the place of the site of a `push_back` is in the text's list
site_listed : (tokens : List Token) (p : Text) → ReadsAs tokens p → (m : ℕ) (place : Place) (v name site z : ℕ)
    → slice_get p.stmts m ≡ Some (PushBack place v name site z) → slice_get p.sites site ≡ Some place
site_listed tokens p r m place v name site z h =
    let d = site_in no_scope (body_of tokens) r.items m place v name site z
    (sym (ap (λ (l : List Stmt). slice_get l m) (stmts_are tokens p r)) ∙ h) in
    let e : site ≡ d.0 = let q = d.1 in omega arith in
    ap (λ (q : Text). slice_get q.sites site) r.typed
    ∙ get-left (push_places (body_of tokens) r.items) _ place site (ap (slice_get (push_places (body_of tokens) r.items)) e ∙ d.2)

-- The report on a built text is exact.
pub exact-built : (text : List ℕ) (p : Text) → IsBuilt text p → IsExact (typed_of p) (report_of p.names (warnings_of nothing_known p.stmts))
exact-built text p (tokens, cut, r) = is_exact p (uses-declared tokens p r) (few-statements tokens p r)

-- It is in order.
pub order-built : (text : List ℕ) (p : Text) → IsBuilt text p → IsAscending (report_of p.names (warnings_of nothing_known p.stmts))
order-built text p (tokens, cut, r) = in-order p.stmts p.names (stars-ascend text tokens p cut r)

-- a fault is of one of two kinds
two_kinds : (fault : Fault) → (kind_of fault ≡ 1) ⊎ (kind_of fault ≡ 4)
two_kinds (InvalidIterator killers) = inl refl
two_kinds EndIterator = inr refl

-- an invalid iterator has killers
some_killers : (stmts : List Stmt) (index : ℕ) (fault : Fault) → HasCause stmts index fault → kind_of fault ≡ 1 → 0 < length (killers_in fault)
some_killers stmts index (InvalidIterator killers) h e = h.0
some_killers stmts index EndIterator h e = absurd (let q : 4 ≡ 1 = e in omega arith)

-- each of them is the site of a `push_back` before
killer_site : (stmts : List Stmt) (index site : ℕ) (fault : Fault) → HasCause stmts index fault → Contains (killers_in fault) site
    → IsPushBefore stmts index site
killer_site stmts index site (InvalidIterator killers) h c = h.1 site c
killer_site stmts index site EndIterator h c = absurd (let lt = c.1 in omega arith)

-- killers ascend
ascending : (tokens : List Token) (p : Text) → ReadsAs tokens p → (i : ℕ) (w : Warning) → slice_get (warnings_of nothing_known p.stmts) i ≡ Some w
    → Ascend (killers_in w.fault)
ascending tokens p r i w h = killers-ascend (body_of tokens) r.items i w
    (subst (λ (l : List Stmt). slice_get (warnings_of nothing_known l) i ≡ Some w) (stmts_are tokens p r) h)

-- a warning of a node is founded
founded : (tokens : List Token) (p : Text) → ReadsAs tokens p → (m : ℕ) (w : Warning) → IsOfNode p.stmts m w → Ascend (killers_in w.fault)
    → IsFounded p (warning_of p.names w)
founded tokens p r m w h ascend = record {
  index = m;
  iterator = h.iterator;
  name = w.name;
  variable = h.variable;
  there = h.there;
  named = refl;
  call = refl;
  argument = refl;
  kind = two_kinds w.fault;
  killed = some_killers p.stmts m w.fault h.cause;
  ascend = ascend;
  killers = λ site c. let push : IsPushBefore p.stmts m site = killer_site p.stmts m site w.fault h.cause c in
      record { push = push; listed = site_listed tokens p r push.at push.place push.vector push.name site push.number push.there };
}

-- Each of its warnings is founded in the text.
pub founded-built : (text : List ℕ) (p : Text) → IsBuilt text p → (i : ℕ) (w : WarningValue)
    → slice_get (report_of p.names (warnings_of nothing_known p.stmts)) i ≡ Some w → IsFounded p w
founded-built text p (tokens, cut, r) i w h =
    let v = told_one p.names (warnings_of nothing_known p.stmts) i w h in
    let node = has-node p.stmts i v.0 v.1 in
    rw v.2 (founded tokens p r node.0 v.0 node.1 (ascending tokens p r i v.0 v.1))
