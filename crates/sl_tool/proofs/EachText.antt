-- Each text is typed, or has a line that refuses it: each has tokens or a first fault of tokens, and tokens write a program or stop beginning one.
use Rattle.std.proofs.Common.{◌≡◌, ℕ, zero, suc, ◌+◌, ◌-◌, ◌<◌, ◌≤◌, ◌⊎◌, inl, inr, false, List, [], ◌∷◌, ◌++◌, length, Result, Ok, Err, refl, subst, arith}
use Rattle.std.specs.List.{filter_map}
use Rattle.std.proofs.lemmas.Bool.{cases_lt}
use Rattle.sl_base.specs.declared.limits.TheConstants.{TEXT_BYTES}
use Rattle.sl_base.specs.declared.token.Token.{Token}
use Rattle.sl_base.specs.Pieces.{PieceKind, TokenRule}
use Rattle.sl_base.specs.Tokens.{Piece, Cut, token_of, seen_after, Tokens, TokenFault}
use Rattle.sl_lexer.proofs.CutLaws.{piece-some, piece-within, follow-push, fault_behind}
use Rattle.sl_lexer.proofs.FrontLaws.{front_at, front-ok}
use Rattle.sl_syntax.specs.Begins.{IsProgram, Stops, words_in}
use Rattle.sl_syntax.specs.Placed.{Placed}
use Rattle.sl_syntax.specs.Shaped.{Shaped}
use Rattle.sl_syntax.specs.Tree.{Program}
use Rattle.sl_syntax.specs.Typed as t
use Rattle.sl_grammar.specs.declared.fault.Fault.{Fault}
use Rattle.sl_grammar.specs.declared.fault.Fault.TheVariants.{Memory, Grammar}
use Rattle.sl_grammar.specs.Means.Statements.{program}
use Rattle.sl_grammar.proofs.NearStatements.{never_memory}
use Rattle.sl_grammar.proofs.ProgramLaws as grammar
use Rattle.sl_grammar.proofs.SoundPrograms.{read_program}
use Rattle.sl_typing.specs.declared.fault.Fault.{Fault as Broken}
use Rattle.sl_typing.specs.Typing.{Typed, FirstBroken, typed_program}
use Rattle.sl_typing.proofs.OneAnswer.{one_or_other}
use Rattle.sl_model.specs.Reports.Refusals.{IsParsed, IsTyped, IsRefusal, Leaves, by_length, by_token, by_grammar, no_program, not_typed}

-- the text has tokens
abbrev HasTokens : List ℕ → Type 0
HasTokens text = (ts : List Token) × Tokens text ts

-- the text breaks a rule of tokens
abbrev HasFault : List ℕ → Type 0
HasFault text = (rule : TokenRule) × (at : ℕ) × TokenFault text rule at

-- a cut that ends behind an offset
record CutPast (text : List ℕ) (from : ℕ) : Type 0 where
  pieces : List Piece
  to : ℕ
  cut : Cut text pieces to
  longer : from < to
  within : to ≤ length text

-- what begins behind a cut that ends before the text makes it longer, or breaks a rule
one_piece_more : (text : List ℕ) (ps : List Piece) (to : ℕ) → Cut text ps to → to < length text → (r : Result (PieceKind × ℕ) (TokenRule × ℕ))
    → front_at text (seen_after text false ps) to ≡ r → CutPast text to ⊎ HasFault text
one_piece_more text ps to cut some (Err b) e = inr (b.0, to + b.1, fault_behind text ps to b.0 b.1 cut some e)
one_piece_more text ps to cut some (Ok p) e =
    let seen = seen_after text false ps in
    let piece : Piece = record { kind = p.0; from = to; len = p.1 } in
    let stands = front-ok text seen to p.0 p.1 some e in
    inl (record {
      pieces = ps ++ piece ∷ [];
      to = to + p.1;
      cut = follow-push text false 0 ps to piece cut refl stands;
      longer = omega (arith, piece-some text seen to p.0 p.1 stands.longest.piece);
      within = piece-within text seen to p.0 p.1 stands.longest.piece;
    })

-- the tokens of a cut that covers the text
tokens_of_cut : (text : List ℕ) (ps : List Piece) (to : ℕ) → Cut text ps to → to ≤ length text → length text ≤ to → HasTokens text
tokens_of_cut text ps to cut within all = (filter_map (token_of text) ps, (ps, subst (Cut text ps) (omega (arith, within, all)) cut, refl))

-- behind a cut, and with at most so many bytes left, the text is cut to its end or breaks a rule
tokens_behind : (text : List ℕ) (n : ℕ) (ps : List Piece) (to : ℕ) → Cut text ps to → to ≤ length text → length text ≤ to + n
    → HasTokens text ⊎ HasFault text
tokens_behind text zero ps to cut within few = inl (tokens_of_cut text ps to cut within (omega (arith, few)))
tokens_behind text (suc n) ps to cut within few =
    elim (cases_lt to (length text)) [
      | inr all ↦ inl (tokens_of_cut text ps to cut within all)
      | inl some ↦ elim (one_piece_more text ps to cut some (front_at text (seen_after text false ps) to) refl) [
        | inr fault ↦ inr fault
        | inl past ↦ tokens_behind text n past.pieces past.to past.cut past.within (omega (arith, few, past.longer))
      ]
    ]

-- a text has tokens, or breaks a rule of tokens first
pub tokens_or_fault : (text : List ℕ) → HasTokens text ⊎ HasFault text
tokens_or_fault text = tokens_behind text (length text) [] 0 refl (omega arith) (omega arith)

-- the tokens write a program
abbrev Writes : List Token → Type 0
Writes ts = (p : Program) × Shaped p × Placed p ts

-- the tokens stop beginning a program
abbrev HasStop : List Token → Type 0
HasStop ts = (k : ℕ) × Stops IsProgram (words_in ts) k

stops_so : (ts : List Token) (f : Fault) → program ts ≡ Err f → Writes ts ⊎ HasStop ts
stops_so ts Memory e = absurd (never_memory ts e)
stops_so ts (Grammar n) e = inr (length ts - n, grammar.stops ts n e)

-- tokens write a program, or stop beginning one
pub writes_or_stops : (ts : List Token) → Writes ts ⊎ HasStop ts
writes_or_stops ts = elim (program ts) as (λ o. program ts ≡ o → Writes ts ⊎ HasStop ts) [
  | Ok y ↦ λ e. let read = read_program ts y.0.0 y.0.1 y.1 e in inl (y.0.0, read.1, read.2)
  | Err f ↦ λ e. stops_so ts f e
] refl

-- the text has a program
abbrev HasProgram : List ℕ → Type 0
HasProgram text = (ts : List Token) × (p : Program) × IsParsed text ts p

-- the text has a line that refuses it as no program
abbrev HasRefusal : List ℕ → List ℕ → Type 0
HasRefusal file text = (line : List ℕ) × IsRefusal file text line

parsed_by : (file text : List ℕ) → length text ≤ TEXT_BYTES → (ts : List Token) → Tokens text ts → Writes ts ⊎ HasStop ts
    → HasProgram text ⊎ HasRefusal file text
parsed_by file text short ts tokens (inl w) =
    inl (ts, w.0, record { short = short; cut = tokens; shaped = w.1; placed = w.2 })
parsed_by file text short ts tokens (inr s) = inr (_, by_grammar short ts tokens s.0 s.1)

-- a text has a program, or a line that refuses it as none
pub program_or_refusal : (file text : List ℕ) → HasProgram text ⊎ HasRefusal file text
program_or_refusal file text = elim (cases_lt TEXT_BYTES (length text)) [
  | inl long ↦ inr (_, by_length long)
  | inr short ↦ elim (tokens_or_fault text) [
    | inl ts ↦ parsed_by file text short ts.0 ts.1 (writes_or_stops ts.0)
    | inr f ↦ inr (_, by_token short f.0 f.1 f.2)
  ]
]

-- the text is typed
abbrev HasTyped : List ℕ → Type 0
HasTyped text = (ts : List Token) × (p : Program) × (u : t.Typed) × IsTyped text ts p u

-- the text has a line that refuses it
abbrev HasLine : List ℕ → List ℕ → Type 0
HasLine file text = (line : List ℕ) × Leaves file text line

typed_by : (file text : List ℕ) (ts : List Token) (p : Program) → IsParsed text ts p → Typed p (typed_program p) ⊎ ((x : Broken) × FirstBroken p x)
    → HasTyped text ⊎ HasLine file text
typed_by file text ts p parsed (inl typed) = inl (ts, p, typed_program p, record { parsed = parsed; typed_so = typed })
typed_by file text ts p parsed (inr x) = inr (_, not_typed ts p parsed x.0 x.1)

-- a text is typed, or has a line that refuses it
pub typed_or_refused : (file text : List ℕ) → HasTyped text ⊎ HasLine file text
typed_or_refused file text = elim (program_or_refusal file text) [
  | inl has ↦ typed_by file text has.0 has.1 has.2 (one_or_other has.1)
  | inr has ↦ inr (has.0, no_program has.0 has.1)
]
