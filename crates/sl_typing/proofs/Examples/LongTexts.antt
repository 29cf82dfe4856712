-- Functions behind as many sites or statements as a text may have, and the first place that is one too many.
use Rattle.sl_base.specs.declared.scalar.Scalar.TheVariants as t
use Rattle.sl_base.specs.declared.form.Form.TheVariants as f
use Rattle.sl_syntax.specs.declared.operator.Assignment.TheVariants as assignment
use Rattle.sl_syntax.specs.declared.operator.PrefixOperator.TheVariants as before
use Rattle.sl_syntax.specs.declared.tree.element.ElementType.TheVariants as type
use Rattle.sl_typing.specs.declared.rules.TheConstants as rule
use Rattle.std.specs.Prelude.{◌≡◌, refl, false, [], ◌∷◌, Some, None, ℕ, replicate}
use Rattle.sl_syntax.specs.Tree.{number, name, library_call, prefix, index, member_call, none, absent, declares_scalar, declares_reference}
use Rattle.sl_syntax.specs.Tree.{declares_container, evaluates, assigns, tests, first_scalar, block, choice, for, does, declares, states}
use Rattle.sl_syntax.specs.Tree.{Program}
use Rattle.sl_typing.specs.Contexts.{Context}
use Rattle.sl_typing.specs.ProgramFaults.{functions_faults, program_faults, start}
use Rattle.sl_typing.specs.Typing.{first_of}
use Rattle.sl_typing.proofs.Examples.Words.{at, id, all, items, container_type, reference_head, main_alone, fault}

-- what is known at the start of a text, and so many sites and statements
abbrev behind : ℕ → ℕ → Context
behind sites statements = record start { sites = replicate sites (at 0 0); statements = statements }

-- sites that fit: behind 4094 sites
-- int main() {
--   std::vector<int> v;
--   v.clear();
-- }
abbrev pub sites_that_fit : Program
sites_that_fit = main_alone (
    declares (declares_container (container_type (at 2 3) f.Vector) (id "v" 2 20) absent) ∷
    states (does (at 3 3) (evaluates (member_call (name (id "v" 3 3)) (id "clear" 3 5) none))) ∷
    []) (at 4 1)

sites_that_fit_breaks_none : functions_faults (behind 4094 0) sites_that_fit ≡ []
unfolding program_faults
sites_that_fit_breaks_none = refl

-- brace past the sites: behind 4096 sites
-- int main() {
--   std::vector<int> v;
-- }
abbrev pub brace_past_the_sites : Program
brace_past_the_sites = main_alone (declares (declares_container (container_type (at 2 3) f.Vector) (id "v" 2 20) absent) ∷ []) (at 3 1)

brace_past_the_sites_breaks : first_of (functions_faults (behind 4096 0) brace_past_the_sites)
    ≡ Some (fault (at 3 1) rule.TOO_MANY_SITES)
unfolding program_faults
brace_past_the_sites_breaks = refl

-- inner brace past the sites: behind 4096 sites
-- int main() {
--   {
--     std::list<int> v;
--   }
-- }
abbrev pub inner_brace_past_the_sites : Program
inner_brace_past_the_sites = main_alone
    (states (block (at 2 3) (items (declares (declares_container (container_type (at 3 5) f.List) (id "v" 3 20) absent) ∷ [])) (at 4 3)) ∷ [])
    (at 5 1)

inner_brace_past_the_sites_breaks : first_of (functions_faults (behind 4096 0) inner_brace_past_the_sites)
    ≡ Some (fault (at 4 3) rule.TOO_MANY_SITES)
unfolding program_faults
inner_brace_past_the_sites_breaks = refl

-- call past the sites: behind 4096 sites
-- int main() {
--   std::vector<int> v;
--   v.clear();
-- }
abbrev pub call_past_the_sites : Program
call_past_the_sites = main_alone (
    declares (declares_container (container_type (at 2 3) f.Vector) (id "v" 2 20) absent) ∷
    states (does (at 3 3) (evaluates (member_call (name (id "v" 3 3)) (id "clear" 3 5) none))) ∷
    []) (at 4 1)

call_past_the_sites_breaks : first_of (functions_faults (behind 4096 0) call_past_the_sites) ≡ Some (fault (at 3 5) rule.TOO_MANY_SITES)
unfolding program_faults
call_past_the_sites_breaks = refl

-- inner call past the sites: behind 4095 sites
-- int main() {
--   std::vector<int> v;
--   v.push_back(*v.erase(v.begin()));
-- }
abbrev pub inner_call_past_the_sites : Program
inner_call_past_the_sites = main_alone (
    declares (declares_container (container_type (at 2 3) f.Vector) (id "v" 2 20) absent) ∷
    states (does (at 3 3) (evaluates (member_call (name (id "v" 3 3)) (id "push_back" 3 5) (all (
    prefix before.Dereference (at 3 15)
    (member_call (name (id "v" 3 16)) (id "erase" 3 18) (all (member_call (name (id "v" 3 24)) (id "begin" 3 26) none ∷ []))) ∷
    []))))) ∷
    []) (at 4 1)

inner_call_past_the_sites_breaks : first_of (functions_faults (behind 4095 0) inner_call_past_the_sites)
    ≡ Some (fault (at 3 18) rule.TOO_MANY_SITES)
unfolding program_faults
inner_call_past_the_sites_breaks = refl

-- subscript past the sites: behind 4096 sites
-- int main() {
--   std::unordered_map<int, int> v;
--   v[1] = 2;
-- }
abbrev pub subscript_past_the_sites : Program
subscript_past_the_sites = main_alone (
    declares (declares_container (container_type (at 2 3) f.HashMap) (id "v" 2 32) absent) ∷
    states (does (at 3 3) (assigns (index (name (id "v" 3 3)) (at 3 4) (number (at 3 5) 1)) assignment.Set (at 3 8) (number (at 3 10) 2))) ∷
    []) (at 4 1)

subscript_past_the_sites_breaks : first_of (functions_faults (behind 4096 0) subscript_past_the_sites)
    ≡ Some (fault (at 3 4) rule.TOO_MANY_SITES)
unfolding program_faults
subscript_past_the_sites_breaks = refl

-- assignment past the sites: behind 4096 sites
-- int main() {
--   std::set<int> v;
--   v = v;
-- }
abbrev pub assignment_past_the_sites : Program
assignment_past_the_sites = main_alone (
    declares (declares_container (container_type (at 2 3) f.Set) (id "v" 2 17) absent) ∷
    states (does (at 3 3) (assigns (name (id "v" 3 3)) assignment.Set (at 3 5) (name (id "v" 3 7)))) ∷
    []) (at 4 1)

assignment_past_the_sites_breaks : first_of (functions_faults (behind 4096 0) assignment_past_the_sites)
    ≡ Some (fault (at 3 5) rule.TOO_MANY_SITES)
unfolding program_faults
assignment_past_the_sites_breaks = refl

-- append past the sites: behind 4096 sites
-- int main() {
--   std::deque<int> v;
--   std::copy(v.begin(), v.end(), std::back_inserter(v));
-- }
abbrev pub append_past_the_sites : Program
append_past_the_sites = main_alone (
    declares (declares_container (container_type (at 2 3) f.Deque) (id "v" 2 19) absent) ∷
    states (does (at 3 3) (evaluates (library_call (id "copy" 3 3) (all (
    member_call (name (id "v" 3 13)) (id "begin" 3 15) none ∷
    member_call (name (id "v" 3 24)) (id "end" 3 26) none ∷
    library_call (id "back_inserter" 3 33) (all (name (id "v" 3 52) ∷ [])) ∷
    []))))) ∷
    []) (at 4 1)

append_past_the_sites_breaks : first_of (functions_faults (behind 4096 0) append_past_the_sites)
    ≡ Some (fault (at 3 3) rule.TOO_MANY_SITES)
unfolding program_faults
append_past_the_sites_breaks = refl

-- statement that fits: behind 19999 statements
-- int main() {
--   1;
-- }
abbrev pub statement_that_fits : Program
statement_that_fits = main_alone (states (does (at 2 3) (evaluates (number (at 2 3) 1))) ∷ []) (at 3 1)

statement_that_fits_breaks_none : functions_faults (behind 0 19999) statement_that_fits ≡ []
unfolding program_faults
statement_that_fits_breaks_none = refl

-- statement past the limit: behind 20000 statements
-- int main() {
--   1;
-- }
abbrev pub statement_past_the_limit : Program
statement_past_the_limit = main_alone (states (does (at 2 3) (evaluates (number (at 2 3) 1))) ∷ []) (at 3 1)

statement_past_the_limit_breaks : first_of (functions_faults (behind 0 20000) statement_past_the_limit)
    ≡ Some (fault (at 2 3) rule.TOO_MANY_STATEMENTS)
unfolding program_faults
statement_past_the_limit_breaks = refl

-- declaration past the limit: behind 20000 statements
-- int main() {
--   int x = 1;
-- }
abbrev pub declaration_past_the_limit : Program
declaration_past_the_limit = main_alone (declares (declares_scalar (at 2 3) t.Int (id "x" 2 7) (Some (number (at 2 11) 1))) ∷ []) (at 3 1)

declaration_past_the_limit_breaks : first_of (functions_faults (behind 0 20000) declaration_past_the_limit)
    ≡ Some (fault (at 2 3) rule.TOO_MANY_STATEMENTS)
unfolding program_faults
declaration_past_the_limit_breaks = refl

-- reference past the limit: behind 19999 statements
-- int main() {
--   std::vector<int> v;
--   int& x = v[0];
-- }
abbrev pub reference_past_the_limit : Program
reference_past_the_limit = main_alone (
    declares (declares_container (container_type (at 2 3) f.Vector) (id "v" 2 20) absent) ∷
    declares
    (declares_reference (reference_head (at 3 3) false type.Int) (id "x" 3 8) (index (name (id "v" 3 12)) (at 3 13) (number (at 3 14) 0))) ∷
    []) (at 4 1)

reference_past_the_limit_breaks : first_of (functions_faults (behind 0 19999) reference_past_the_limit)
    ≡ Some (fault (at 3 3) rule.TOO_MANY_STATEMENTS)
unfolding program_faults
reference_past_the_limit_breaks = refl

-- inner statement past the limit: behind 19999 statements
-- int main() {
--   if (1) 2;
-- }
abbrev pub inner_statement_past_the_limit : Program
inner_statement_past_the_limit = main_alone
    (states (choice (at 2 3) (tests (number (at 2 7) 1)) (does (at 2 10) (evaluates (number (at 2 10) 2)))) ∷ []) (at 3 1)

inner_statement_past_the_limit_breaks : first_of (functions_faults (behind 0 19999) inner_statement_past_the_limit)
    ≡ Some (fault (at 2 10) rule.TOO_MANY_STATEMENTS)
unfolding program_faults
inner_statement_past_the_limit_breaks = refl

-- blocks are no statements: behind 19998 statements
-- int main() {
--   { { } }
--   if (1) { 1; }
--   for (int i = 0;;) {}
-- }
abbrev pub blocks_are_no_statements : Program
blocks_are_no_statements = main_alone (
    states (block (at 2 3) (items (states (block (at 2 5) (items []) (at 2 7)) ∷ [])) (at 2 9)) ∷
    states (choice (at 3 3) (tests (number (at 3 7) 1))
    (block (at 3 10) (items (states (does (at 3 12) (evaluates (number (at 3 12) 1))) ∷ [])) (at 3 15))) ∷
    states (for (at 4 3) (Some (first_scalar (at 4 8) t.Int (id "i" 4 12) (number (at 4 16) 0))) None None
    (block (at 4 21) (items []) (at 4 22))) ∷
    []) (at 5 1)

blocks_are_no_statements_breaks : first_of (functions_faults (behind 0 19998) blocks_are_no_statements)
    ≡ Some (fault (at 4 3) rule.TOO_MANY_STATEMENTS)
unfolding program_faults
blocks_are_no_statements_breaks = refl
