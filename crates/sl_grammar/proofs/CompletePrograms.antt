-- The tokens of a program that follows the grammar are read as that program.
use Rattle.std.proofs.Common.{◌≡◌, ◌-◌, ◌≤◌, List, [], ◌∷◌, length, Ok, refl, sym, arith, length-append}
use Rattle.std.specs.Prelude.{⊤}
use Rattle.sl_base.specs.declared.limits.TheConstants.{TREE_DEPTH}
use Rattle.sl_base.specs.declared.token.Token.{Token}
use Rattle.sl_syntax.specs.Depth.{function_height, depth}
use Rattle.sl_syntax.specs.Placed.{Placed}
use Rattle.sl_syntax.specs.Shaped.{Each, IsFunction, AreSome, Shaped}
use Rattle.sl_syntax.specs.Tree.{Function, Program}
use Rattle.sl_syntax.specs.Written.{from_place, result_written, params_written, function_written, program_written}
use Rattle.sl_grammar.specs.Means.Statements.{is_more, stmt, function, program}
use Rattle.sl_grammar.specs.Means.Steps.{here, mark, identifier}
use Rattle.sl_grammar.proofs.CompleteBlocks.{block-reads}
use Rattle.sl_grammar.proofs.CompleteDeclarations.{params-complete, result-reads, result-more, result-some}
use Rattle.sl_grammar.proofs.CompleteStatements.{stmt-complete}
use Rattle.sl_grammar.proofs.CompleteSteps.{Turn, row, all-row}
use Rattle.sl_grammar.proofs.Spelling.{Spelled, split, at_word, plain_word, from_word}

abbrev LowFunction : Function → Type 0
LowFunction f = IsFunction f × (function_height f ≤ TREE_DEPTH)

pub function-complete : (f : Function) (ts rest : List Token) → LowFunction f → Spelled (function_written f) ts rest
    → function ts ≡ Ok ((f, function_height f), rest)
unfolding function mark identifier
function-complete f ts rest p s =
    split (from_place f.place (result_written f.result)) s (λ t1 a1 s1.
    let given = from_word f.place (result_written f.result) (result-some f.result) a1 in
    let place : here ts ≡ f.place = sym given.1 in
    at_word s1 (λ o2 t2 e2 s2.
    plain_word s2 (λ o3 p3 t3 e3 s3.
    split (params_written f.params) s3 (λ t4 a4 s4.
    plain_word s4 (λ o5 p5 t5 e5 s5.
    let body = block-reads (stmt (TREE_DEPTH - 2)) (TREE_DEPTH - 2) (stmt-complete (TREE_DEPTH - 2)) f.opens f.closes f.items t5 rest p.0
    (omega (arith, p.1)) s5 in
    rw (result-reads f.result ts t1 given.0, e2, e3, params-complete f.params t3 t4 (rw e5 refl) a4, e5, body, place) refl)))))

function-turn : (f : Function) (ts mid : List Token) → LowFunction f → ⊤ → Spelled (function_written f) ts mid
    → Turn is_more function function_height f ts mid
function-turn f ts mid p q s = record {
  goes_on = split (from_place f.place (result_written f.result)) s (λ t1 a b.
      result-more f.result ts t1 (from_word f.place (result_written f.result) (result-some f.result) a).0);
  reads = function-complete f ts mid p s;
}

function-some : (f : Function) → 1 ≤ length (function_written f)
function-some f = rw length-append (omega arith)

low-functions : (fs : List Function) → Each IsFunction fs → depth fs ≤ TREE_DEPTH → Each LowFunction fs
low-functions [] a l = tt
low-functions (f ∷ fs) a l = ((a.0, omega arith), low-functions fs a.1 (omega arith))

functions-read : (p : Program) (ts : List Token) → AreSome p → Each IsFunction p → depth p ≤ TREE_DEPTH → Spelled (program_written p) ts []
    → program ts ≡ Ok ((p, depth p), [])
unfolding program
functions-read [] ts n a l s = absurd (omega arith)
functions-read (f ∷ fs) ts n a l s =
    split (function_written f) s (λ mid b c.
    let low : Each LowFunction (f ∷ fs) = low-functions (f ∷ fs) a l in
    let r = row is_more function function_height function_written LowFunction (λ kind. ⊤) function-turn (λ x us vs p q. tt)
    function-some fs mid [] low.1 tt refl c in
    let others = all-row is_more function function_height fs (f ∷ []) (function_height f) mid [] r in
    rw (function-complete f ts mid low.0 b, others) refl)

-- The tokens that spell a program that follows the grammar are read as that program, with its depth, to the last.
pub reads_program : (ts : List Token) (p : Program) → Shaped p → Placed p ts → program ts ≡ Ok ((p, depth p), [])
reads_program ts p shaped placed = functions-read p ts shaped.some shaped.each shaped.depth (record { spells = placed })
