-- What the object of a call is, in the words of the model.
use Rattle.sl_model.specs.LibraryCalls.Rows.{Object as ObjectData, of_form, new_one, of_first}
use Rattle.sl_arguments.specs.declared.object.Object.{Object}
use Rattle.sl_arguments.specs.declared.object.Object.TheVariants.{OfForm, NewOne, OfFirst}

abbrev pub object_of : Object → ObjectData
object_of (OfForm form) = of_form form
object_of (NewOne form) = new_one form
object_of OfFirst = of_first
