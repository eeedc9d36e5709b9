-- All filters for so many arguments, in the order of their numbers.
use Rattle.std.specs.Prelude.{ℕ, List, map}
use Rattle.std.proofs.Common.{Vec, Global}
use Rattle.order_theory.specs.ArgumentFilter.{ArgumentFilter}
use Rattle.path_lpo.specs.declared.entries.Filter.{Filter}
use Rattle.path_lpo.specs.Plain.{plain_filter}
use Rattle.order_theory.specs.Keeping.{places_from}
use Rattle.lpo_find.specs.LpoSpace.{filter_count, filter_number}

abbrev pub plain_filters : Vec Filter Global → List ArgumentFilter
plain_filters filters = map plain_filter filters.items

abbrev pub filters_of : ℕ → List ArgumentFilter
filters_of arity = map (filter_number arity) (places_from 0 (filter_count arity))
