-- An entry and its filter as contracts see them.
use Rattle.order_theory.specs.ArgumentFilter as argument
use Rattle.path_lpo.specs.declared.entries.Filter.{Filter}
use Rattle.path_lpo.specs.declared.entries.Filter.TheVariants.{To, Keep}
use Rattle.path_lpo.specs.declared.entries.LpoEntry.{LpoEntry}
use Rattle.path_lpo.specs.Table.{PathEntry}

abbrev pub plain_filter : Filter → argument.ArgumentFilter
plain_filter (To place) = argument.To place
plain_filter (Keep places) = argument.Keep places.items

abbrev pub plain : LpoEntry → PathEntry
plain e = record { symbol = e.symbol; rank = e.rank; filter = plain_filter e.filter }
