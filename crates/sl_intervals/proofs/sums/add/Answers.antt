use Rattle.std.proofs.Common.{inl, inr, ◌+ℤ◌, ℤ, arith}
use Rattle.std.proofs.lemmas.Int.{ints}
use Rattle.sl_syntax.specs.declared.operator.Arithmetic.TheVariants as operator
use Rattle.sl_model.specs.Numbers.{operated}
use Rattle.sl_intervals.proofs.Verdicts.{limited_of}
use Rattle.sl_intervals.proofs.Spanning.{sum_span, span_outcome, span_tight, no_members, no_ends}
use Rattle.sl_intervals.proofs.sums.add.Goals as goal

pub exact_sums-requires-clause-first : goal.exact_sums-requires-clause-first
exact_sums-requires-clause-first c = limited_of c.args.ty c.args.a (omega (arith, ints)) c.requires.first

pub exact_sums-requires-clause-second : goal.exact_sums-requires-clause-second
exact_sums-requires-clause-second c = limited_of c.args.ty c.args.b (omega (arith, ints)) c.requires.second

pub returns-then-a : goal.returns-then-a
returns-then-a c = record {
  outcome = no_members (operated operator.Add c.args.ty) c.args.ty c.args.a c.args.b c.no_outcome.result (inl (grind (arith, ints)))
      c.no_outcome.ensures.value c.no_outcome.ensures.fault;
  ends = no_ends (operated operator.Add c.args.ty) c.args.a c.args.b c.no_outcome.result.value c.no_outcome.ensures.value;
}

pub returns-then-b : goal.returns-then-b
returns-then-b c = record {
  outcome = no_members (operated operator.Add c.args.ty) c.args.ty c.args.a c.args.b c.no_outcome-then-b.result (inr (grind (arith, ints)))
      c.no_outcome-then-b.ensures.value c.no_outcome-then-b.ensures.fault;
  ends = no_ends (operated operator.Add c.args.ty) c.args.a c.args.b c.no_outcome-then-b.result.value c.no_outcome-then-b.ensures.value;
}

pub returns : goal.returns
returns c =
    let span = sum_span c.args.a c.args.b c.exact_sums.result (omega (arith, ints)) (omega (arith, ints))
    c.exact_sums.ensures.low c.exact_sums.ensures.high in
    record {
      outcome = span_outcome (λ (x y : ℤ). x +ℤ y) c.args.ty c.args.a c.args.b c.exact_sums.result c.results.result span c.results.ensures;
      ends = span_tight (λ (x y : ℤ). x +ℤ y) c.args.ty c.args.a c.args.b c.exact_sums.result c.results.result span c.results.ensures;
    }
