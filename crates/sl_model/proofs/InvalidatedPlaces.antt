-- Which places an edit of a class invalidates.
use Rattle.std.proofs.Common.{◌<◌, IsTrue, ℕ, arith}
use Rattle.std.proofs.lemmas.Bool.Decides.{nat_tests}
use Rattle.sl_specs.specs.declared.class.Class.{Class}
use Rattle.sl_specs.specs.declared.class.Class.TheVariants as classes
use Rattle.sl_model.specs.Memory.Classes.{Edit, kills, loses}

-- the iterators at an element go where the references to it do
pub kills-loses : (class : Class) (n room k : ℕ) (e : Edit) → k < n → IsTrue (loses class n room e k) → IsTrue (kills class n room e k)
kills-loses classes.Nothing n room k e low h = h
kills-loses classes.VectorInsert n room k e low h = h
kills-loses classes.VectorErase n room k e low h = h
kills-loses classes.VectorReserve n room k e low h = h
kills-loses classes.VectorResize n room k e low h = h
kills-loses classes.DequeResize n room k e low h = grind (arith, nat_tests)
kills-loses classes.DequeInsert n room k e low h = grind (arith, nat_tests)
kills-loses classes.DequeErase n room k e low h = grind (arith, nat_tests)
kills-loses classes.ErasedOnly n room k e low h = h
kills-loses classes.HashInsert n room k e low h = absurd (cc)
kills-loses classes.HashReserve n room k e low h = absurd (cc)
kills-loses classes.AllAndEnd n room k e low h = h
kills-loses classes.Swap n room k e low h = absurd (cc)
