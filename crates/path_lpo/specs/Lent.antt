-- A lent filter as contracts see it.
use Rattle.order_theory.specs.ArgumentFilter as argument
use Rattle.path_lpo.specs.declared.precedence.LentFilter.{LentFilter}
use Rattle.path_lpo.specs.declared.precedence.LentFilter.TheVariants.{To, Keep}

abbrev pub lent_filter : LentFilter → argument.ArgumentFilter
lent_filter (To place) = argument.To place
lent_filter (Keep places) = argument.Keep places.now
