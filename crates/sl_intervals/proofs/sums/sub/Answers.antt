use Rattle.std.proofs.Common.{inl, inr, ◌-ℤ◌, ℤ, arith}
use Rattle.std.proofs.lemmas.Int.{ints}
use Rattle.sl_syntax.specs.declared.operator.Arithmetic.TheVariants as operator
use Rattle.sl_model.specs.Numbers.{operated}
use Rattle.sl_intervals.proofs.Verdicts.{limited_of}
use Rattle.sl_intervals.proofs.Spanning.{difference_span, span_outcome, span_tight, no_members, no_ends}
use Rattle.sl_intervals.proofs.sums.sub.Goals as goal

pub exact_differences-requires-clause-first : goal.exact_differences-requires-clause-first
exact_differences-requires-clause-first c = limited_of c.args.ty c.args.a (omega (arith, ints)) c.requires.first

pub exact_differences-requires-clause-second : goal.exact_differences-requires-clause-second
exact_differences-requires-clause-second c = limited_of c.args.ty c.args.b (omega (arith, ints)) c.requires.second

pub returns-then-a : goal.returns-then-a
returns-then-a c = record {
  outcome = no_members (operated operator.Subtract c.args.ty) c.args.ty c.args.a c.args.b c.no_outcome.result (inl (grind (arith, ints)))
      c.no_outcome.ensures.value c.no_outcome.ensures.fault;
  ends = no_ends (operated operator.Subtract c.args.ty) c.args.a c.args.b c.no_outcome.result.value c.no_outcome.ensures.value;
}

pub returns-then-b : goal.returns-then-b
returns-then-b c = record {
  outcome = no_members (operated operator.Subtract c.args.ty) c.args.ty c.args.a c.args.b c.no_outcome-then-b.result
      (inr (grind (arith, ints))) c.no_outcome-then-b.ensures.value c.no_outcome-then-b.ensures.fault;
  ends = no_ends (operated operator.Subtract c.args.ty) c.args.a c.args.b c.no_outcome-then-b.result.value c.no_outcome-then-b.ensures.value;
}

pub returns : goal.returns
returns c =
    let span = difference_span c.args.a c.args.b c.exact_differences.result (omega (arith, ints)) (omega (arith, ints))
    c.exact_differences.ensures.low c.exact_differences.ensures.high in
    record {
      outcome = span_outcome (λ (x y : ℤ). x -ℤ y) c.args.ty c.args.a c.args.b c.exact_differences.result c.results.result span c.results.ensures;
      ends = span_tight (λ (x y : ℤ). x -ℤ y) c.args.ty c.args.a c.args.b c.exact_differences.result c.results.result span c.results.ensures;
    }
