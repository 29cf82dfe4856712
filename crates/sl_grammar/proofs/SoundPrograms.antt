-- What is read as a program is the words of one that follows the grammar, with their places, and no token is left.
use Rattle.std.proofs.Common.{◌≡◌, ℕ, false, List, [], ◌∷◌, Ok, refl, sym, subst, arith}
use Rattle.std.proofs.lemmas.Bool.{false≢true}
use Rattle.sl_base.specs.declared.limits.TheConstants.{TREE_DEPTH}
use Rattle.sl_base.specs.declared.token.Token.{Token}
use Rattle.sl_syntax.specs.declared.token_kind.TokenKind.{TokenKind}
use Rattle.sl_syntax.specs.declared.token_kind.TokenKind.TheVariants as k
use Rattle.sl_syntax.specs.Depth.{function_height}
use Rattle.sl_syntax.specs.TokenKinds.{kind_of}
use Rattle.sl_syntax.specs.Placed.{Spells, Placed}
use Rattle.sl_syntax.specs.Shaped.{IsFunction, Shaped}
use Rattle.sl_syntax.specs.Tree.{Program}
use Rattle.sl_syntax.specs.Written.{function_written, program_written}
use Rattle.sl_grammar.specs.Means.Statements.{is_more, function, program}
use Rattle.sl_grammar.specs.Means.Steps.{kind_at}
use Rattle.sl_grammar.proofs.KindLaws.{not_end}
use Rattle.sl_grammar.proofs.MeetFunctions.{function-part}
use Rattle.sl_grammar.proofs.SoundSteps.{Took, bound, behind}
use Rattle.sl_grammar.proofs.Spelling.{Spelled, ◌⨾◌}

-- where no function follows, no token does
is_end_kind : (kind : TokenKind) → is_more kind ≡ false → kind ≡ k.End
is_end_kind k.End h = refl
is_end_kind _ h = absurd (false≢true (sym h))

no_token : (ts : List Token) → is_more (kind_at ts) ≡ false → ts ≡ []
no_token [] h = refl
no_token (t ∷ ts) h = absurd (not_end t.word (is_end_kind (kind_of t.word) h))

-- What is read as a program is one that follows the grammar, its words are all the tokens, and each place that it tells is theirs.
pub read_program : (ts : List Token) (p : Program) (h : ℕ) (rest : List Token) → program ts ≡ Ok ((p, h), rest) → (rest ≡ []) × Shaped p × Placed p ts
unfolding program
read_program ts p h rest read =
    let P : Took Program → Type 0 = λ y. (y.1 ≡ []) × Shaped y.0.0 × Placed y.0.0 ts in
    bound (function ts) _ ((p, h), rest) P read (λ x one h1.
    let first = function-part ts x one in
    let others = behind function_written IsFunction function_height TREE_DEPTH is_more function function-part (x.0.0 ∷ [], x.0.1) x.1
    ((p, h), rest) h1 in
    let ends : rest ≡ [] = no_token rest others.stops in
    let all : Spelled (program_written (x.0.0 ∷ others.items)) ts rest = first.spelled ⨾ others.spelled in (
      ends,
      rw others.all (record { some = omega arith; each = (first.fits, others.each); depth = omega (arith, first.size, first.low, others.low) }),
      rw others.all (subst (λ (us : List Token). Spells (program_written (x.0.0 ∷ others.items)) ts us) ends all.spells),
    ))
