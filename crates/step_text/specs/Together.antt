-- Further members that are read together, each by what was read of those before it.
use Rattle.sexp_core.specs.Items.{Items}
use Rattle.text_reading.specs.Reading.{Read, ◌<*>◌, Parts}

abbrev pub together : {A B : Type 0} → (Items → Read A) → Parts (A → B) B
together read at r xs = r <*> read xs
