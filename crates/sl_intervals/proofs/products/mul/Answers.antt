use Rattle.std.proofs.Common.{inl, inr, ap, sym, subst, ◌∙◌, arith}
use Rattle.std.proofs.lemmas.Int.{ints}
use Rattle.std.specs.Int.{int_min, int_max}
use Rattle.sl_base.specs.declared.scalar.Scalar.{Scalar}
use Rattle.sl_syntax.specs.declared.operator.Arithmetic.TheVariants as operator
use Rattle.sl_model.specs.Numbers.{operated, lowest, highest}
use Rattle.sl_intervals.specs.Intervals.{IsEmpty, IsWithin}
use Rattle.sl_intervals.specs.Products.{least_product, greatest_product, IsPlain}
use Rattle.sl_intervals.proofs.Joined.{within_of, no_filled}
use Rattle.sl_intervals.proofs.Spanning.{no_members}
use Rattle.sl_intervals.proofs.products.mul.Goals as goal

pub returns-then-a : goal.returns-then-a
returns-then-a c =
    let none : IsEmpty c.args.a = grind (arith, ints) in
    record {
      outcome = no_members (operated operator.Multiply c.args.ty) c.args.ty c.args.a c.args.b c.no_outcome.result (inl none)
          c.no_outcome.ensures.value c.no_outcome.ensures.fault;
      low = λ p f g. absurd (no_filled c.args.a none f);
      high = λ p f g. absurd (no_filled c.args.a none f);
    }

pub returns-then-b : goal.returns-then-b
returns-then-b c =
    let none : IsEmpty c.args.b = grind (arith, ints) in
    record {
      outcome = no_members (operated operator.Multiply c.args.ty) c.args.ty c.args.a c.args.b c.no_outcome-then-b.result (inr none)
          c.no_outcome-then-b.ensures.value c.no_outcome-then-b.ensures.fault;
      low = λ p f g. absurd (no_filled c.args.b none g);
      high = λ p f g. absurd (no_filled c.args.b none g);
    }

pub size_products-requires : goal.size_products-requires
size_products-requires c = record {
  first = subst (λ (ty : Scalar). IsWithin ty c.args.a) c.in-Size.is (within_of c.args.ty c.args.a (omega (arith, ints)) c.requires.first);
  second = subst (λ (ty : Scalar). IsWithin ty c.args.b) c.in-Size.is (within_of c.args.ty c.args.b (omega (arith, ints)) c.requires.second);
  first_filled = omega (arith, ints);
  second_filled = omega (arith, ints);
}

pub plain_products-requires : goal.plain_products-requires
plain_products-requires c = record {
  number = c.requires.number;
  plain = inl c.in_default.not-Size;
  first = within_of c.args.ty c.args.a (omega (arith, ints)) c.requires.first;
  second = within_of c.args.ty c.args.b (omega (arith, ints)) c.requires.second;
  first_filled = omega (arith, ints);
  second_filled = omega (arith, ints);
}

pub returns-in_default : goal.returns-in_default
returns-in_default c = record {
  outcome = c.plain_products.ensures.outcome;
  low = λ p f g. c.plain_products.ensures.low;
  high = λ p f g. c.plain_products.ensures.high;
}

pub returns-in-Size-clause-low : goal.returns-in-Size-clause-low
returns-in-Size-clause-low c = λ p f g.
    let q = subst (λ (ty : Scalar). IsPlain ty c.args.a c.args.b) c.in-Size.is p in
    c.size_products.ensures.low q ∙ ap (λ (ty : Scalar). int_max (least_product c.args.a c.args.b) (lowest ty)) (sym c.in-Size.is)

pub returns-in-Size-clause-high : goal.returns-in-Size-clause-high
returns-in-Size-clause-high c = λ p f g.
    let q = subst (λ (ty : Scalar). IsPlain ty c.args.a c.args.b) c.in-Size.is p in
    c.size_products.ensures.high q ∙ ap (λ (ty : Scalar). int_min (greatest_product c.args.a c.args.b) (highest ty)) (sym c.in-Size.is)
