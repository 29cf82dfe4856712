use Rattle.std.proofs.Common.{◌≡◌, ◌-◌, length}
use Rattle.sl_model.specs.Memory.Edits.{numbers}
use Rattle.sl_model.specs.Memory.Schedule.{after_picks, put_all, scattered}
use Rattle.sl_effects.specs.Carried.{left_in}
use Rattle.sl_effects.proofs.scattering.scatter.Given as goal

abbrev pub invariant-loop-place : goal.invariant-loop-place
invariant-loop-place l = record {
  long : length l.order.items ≡ l.place;
  rest : put_all l.order.items (after_picks l.place (after_picks l.after (left_in l.picks))) (numbers l.place (l.count - l.place))
      ≡ scattered (after_picks l.after (left_in l.picks)) (numbers 0 l.count);
}
