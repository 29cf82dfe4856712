-- A trap that a text can end in, a report that tells of it, and the text of that report.
use Rattle.std.proofs.Common.{refl, arith}
use Rattle.std.specs.Prelude.{◌≡◌, List, [], ◌∷◌, Some, None, codes}
use Rattle.std.specs.Fmt.{digits}
use Rattle.sl_specs.specs.Table.{table}
use Rattle.sl_model.specs.Runs.Ends.{Trap}
use Rattle.sl_model.specs.Reports.Covers.{Warning, CanTrap, Covers}
use Rattle.sl_model.specs.Reports.Texts.{report_text}
use Rattle.sl_model.proofs.Examples.Short.{at, trap}
use Rattle.sl_model.proofs.Examples.Runs.{growth}
use Rattle.sl_model.proofs.Examples.References.{read_behind_clear}

abbrev growth_trap : Trap
growth_trap = trap (at 6 11) 1 (codes "*") 1 (Some 1) (Some 1)

growth_can_trap : CanTrap growth growth_trap
unfolding table
growth_can_trap = record {
  input = [];
  picks = [];
  steps = 100;
  is_input = λ k d h. absurd (omega (arith, h));
  is_schedule = λ k d h. absurd (omega (arith, h));
  traps = refl;
}

abbrev warning : Warning
warning = record { place = at 6 11; kind = 1; call = codes "*"; argument = 1; name = Some (codes "it"); killers = 1 ∷ [] }

growth_is_told : Covers growth.names (warning ∷ []) growth_trap
growth_is_told = record {
  index = 0;
  warning = warning;
  there = refl;
  tells = record { place = refl; kind = refl; call = refl; argument = refl; name = refl; killer = λ site e. (0, omega arith, cc) };
}

growth_text : report_text (codes "a.cpp") growth.sites (warning ∷ [])
    ≡ codes "a.cpp:6:11: invalid iterator in *: it, invalidated at 5:5\na.cpp: warnings: 1\n"
unfolding digits
growth_text = refl

passed_text : report_text (codes "a.cpp") growth.sites [] ≡ codes "a.cpp: passed\n"
passed_text = refl

-- a use of a reference behind `clear`
abbrev use_behind_clear : Trap
use_behind_clear = trap (at 6 16) 12 (codes "use") 1 (Some 1) (Some 1)

read_can_trap : CanTrap read_behind_clear use_behind_clear
unfolding table
read_can_trap = record {
  input = [];
  picks = [];
  steps = 100;
  is_input = λ k d h. absurd (omega (arith, h));
  is_schedule = λ k d h. absurd (omega (arith, h));
  traps = refl;
}

abbrev use_warning : Warning
use_warning = record { place = at 6 16; kind = 12; call = codes "use"; argument = 1; name = Some (codes "r"); killers = 1 ∷ [] }

use_is_told : Covers read_behind_clear.names (use_warning ∷ []) use_behind_clear
use_is_told = record {
  index = 0;
  warning = use_warning;
  there = refl;
  tells = record { place = refl; kind = refl; call = refl; argument = refl; name = refl; killer = λ site e. (0, omega arith, cc) };
}

use_text : report_text (codes "a.cpp") read_behind_clear.sites (use_warning ∷ [])
    ≡ codes "a.cpp:6:16: invalid reference in use: r, invalidated at 5:5\na.cpp: warnings: 1\n"
unfolding digits
use_text = refl

-- the end of a container in a range-for, dropped at one of two sites, and an operand without a name
abbrev two_warnings : List Warning
two_warnings =
    record { place = at 16 7; kind = 1; call = codes "for"; argument = 2; name = Some (codes "v"); killers = 0 ∷ 2 ∷ [] } ∷
    record { place = at 20 3; kind = 4; call = codes "*"; argument = 1; name = None; killers = [] } ∷ []

two_texts : report_text (codes "a.cpp") growth.sites two_warnings
    ≡ codes "a.cpp:16:7: invalid iterator in for: end of v, invalidated at 3:5, 7:1\na.cpp:20:3: end iterator in *: argument 1\na.cpp: warnings: 2\n"
unfolding digits
two_texts = refl
