-- What is known of the filters that a text gives.
use Rattle.std.specs.Prelude.{◌≤◌}
use Rattle.std.specs.List.{AllByRecursion}
use Rattle.order_theory.specs.ArgumentFilter.{ArgumentFilter, To, Keep}
use Rattle.path_lpo.specs.Table.{PathEntry}

-- no symbol has more than 255 arguments
abbrev pub HasBytes : ArgumentFilter → Type 0
HasBytes (To place) = place ≤ 255
HasBytes (Keep places) = AllByRecursion (λ place. place ≤ 255) places

abbrev pub HasPlaces : PathEntry → Type 0
HasPlaces e = HasBytes e.filter
