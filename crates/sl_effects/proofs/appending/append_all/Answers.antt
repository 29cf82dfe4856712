use Rattle.std.proofs.Common.{◌≡◌, FitsSigned, get_or, w32, rules, ℕ, ℤ, pos, List, length, ◌≤◌, arith, ap, sym, refl, map, subst}
use Rattle.std.proofs.lemmas.Int.{to_z-of_z}
use Rattle.std.proofs.lemmas.List.{length-map}
use Rattle.sl_base.specs.declared.scalar.Scalar.TheVariants.{Int}
use Rattle.sl_model.specs.Numbers.{converted}
use Rattle.sl_model.specs.LibraryCalls.Effects.{append_all, left_after}
use Rattle.sl_effects.specs.Carried.{Carries}
use Rattle.sl_effects.proofs.AppendLaws.{append_next, append_end}
use Rattle.sl_effects.proofs.Stores.{grew_none, grew_then}
use Rattle.sl_effects.proofs.appending.append_all.Goals as goal

pub returns : goal.returns
returns c = record {
  grew = c.loop-number.invariant.grew;
  shows = λ form class s ps vs xs all fine h.
      let l : length xs ≤ c.loop-number.number-index =
      (let a : length (map (converted Int) xs) ≡ length c.args.numbers.now = ap (λ (l : List ℤ). length l) all in
      let b : length (map (converted Int) xs) ≡ length xs = length-map xs (converted Int) in
      let e = c.loop-number-test.false in omega arith) in
      subst (λ (site : ℕ). Carries c.loop-number.store c.loop-number.picks
      (append_all site c.args.container xs (left_after s 0 s.memory)) ps vs) (sym h.at)
      (append_end c.args.site c.args.container xs (left_after s 0 s.memory) c.loop-number.number-index c.loop-number.store c.loop-number.picks ps vs l
      (c.loop-number.invariant.runs (left_after s 0 s.memory) ps vs xs all fine.1 h.carries));
}

pub append-requires : goal.append-requires
append-requires c =
    let a = c.loop-number.invariant.grew.containers in
    let b = c.loop-number.invariant.long in
    let d = c.requires.there in
    let e = c.requires.few in
    let t = c.loop-number-test.true in record { there = omega arith; few = omega arith }

pub loop-number-init : goal.loop-number-init
loop-number-init c = record {
  grew = grew_none c.args.store.now;
  long = omega arith;
  runs = λ left ps vs xs all few h. record { mid = left; carried = h; rest = refl; few = few };
}

pub loop-number-preserved : goal.loop-number-preserved
loop-number-preserved c = record {
  grew = grew_then c.args.store.now c.loop-number.store c.append.new.store 0 0 c.loop-number.invariant.grew c.in_ok-append.ensures.grew;
  long = let a = c.in_ok-append.ensures.size in let b = c.loop-number.invariant.long in omega arith;
  runs = λ left ps vs xs all few h.
      let fits : FitsSigned w32 (get_or c.args.numbers.now c.loop-number.number-index (pos 0)) = search rules in
      append_next c.args.site c.args.container xs c.args.numbers.now left c.loop-number.number-index c.loop-number.store c.append.new.store
      c.loop-number.picks c.append.new.picks _ (pos 0) ps vs c.in_ok-append.ensures.shows all c.loop-number-test.true (to_z-of_z w32 _ fits)
      (let a = c.loop-number.invariant.grew.containers in let d = c.requires.there in omega arith)
      (c.loop-number.invariant.runs left ps vs xs all few h);
}
