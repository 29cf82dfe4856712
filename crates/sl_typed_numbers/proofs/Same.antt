-- Tests that are answered alike.
use Rattle.std.proofs.Common.{◌≡◌, ℕ, Bool, true, false, List, refl, sym}
use Rattle.std.specs.Prelude.{not, ◌||◌}
use Rattle.std.specs.Str.{bytes_eq}
use Rattle.std.proofs.lemmas.Slice.Eq.{bytes_eq-Decides}
use Rattle.sl_base.specs.declared.form.Form.{Form}
use Rattle.sl_base.specs.declared.form.Form.TheVariants as f
use Rattle.sl_specs.specs.Forms.{same_form}

-- two answers of which each is yes where the other is
pub same_bool : (x y : Bool) → (x ≡ true → y ≡ true) → (y ≡ true → x ≡ true) → x ≡ y
same_bool true y h k = sym (h refl)
same_bool false true h k = k refl
same_bool false false h k = refl

-- what holds where a test does
pub where_true : (x y : Bool) → (not x || y) ≡ true → x ≡ true → y ≡ true
where_true true y h k = h
where_true false y h k = absurd cc

-- one form
pub same_form_is : (x y : Form) → same_form x y ≡ true → x ≡ y
same_form_is f.Vector f.Vector h = refl
same_form_is f.Deque f.Deque h = refl
same_form_is f.List f.List h = refl
same_form_is f.Set f.Set h = refl
same_form_is f.Map f.Map h = refl
same_form_is f.HashSet f.HashSet h = refl
same_form_is f.HashMap f.HashMap h = refl
same_form_is f.MultiSet f.MultiSet h = refl
same_form_is f.MultiMap f.MultiMap h = refl
same_form_is x y h = absurd cc

-- one text
pub same_text : (x y : List ℕ) → bytes_eq x y ≡ true → x ≡ y
same_text x y h = (bytes_eq-Decides x y).0 h
