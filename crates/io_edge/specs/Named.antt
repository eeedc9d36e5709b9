-- Entries under names, as bytes. Of several entries under one name the first counts.
use Rattle.std.specs.Prelude.{ℕ, List, map, Option, Some, None, String, string_bytes}
use Rattle.std.specs.declared.alloc.Global.{Global}
use Rattle.std.specs.Map.{lookup}
use Rattle.std.specs.Str.{bytes_eq}
use Rattle.io_edge.specs.Telling.{Telling}
use Rattle.io_edge.specs.Shelf.{ShelfMeaning}
use Rattle.io_edge.specs.declared.counts.Tally.{Tally}

-- the entries, with the bytes of each name
abbrev pub by_name : {X : Type 0} → List (String Global × X) → List (List ℕ × X)
by_name es = map (λ e. (string_bytes e.0, e.1)) es

-- what stands under a name
abbrev pub first_under : {X : Type 0} → List (List ℕ × X) → List ℕ → Option X
first_under es name = lookup (bytes_eq name) es

-- the count of faults under a name; one that was never asked for has none
abbrev pub faults_of : Option Tally → ℕ
faults_of None = 0
faults_of (Some t) = t.faults

abbrev pub faults_under : List (List ℕ × Tally) → List ℕ → ℕ
faults_under tallies name = faults_of (first_under tallies name)

-- the count of bytes that were read under a name
abbrev pub bytes_of : Option Tally → ℕ
bytes_of None = 0
bytes_of (Some t) = t.bytes

abbrev pub bytes_under : List (List ℕ × Tally) → List ℕ → ℕ
bytes_under tallies name = bytes_of (first_under tallies name)

-- what a shelf means that tells so, and counts so
abbrev pub shelf_with : (List ℕ → Telling) → List (List ℕ × Tally) → ShelfMeaning
shelf_with tells tallies = record { tells = tells; faults = faults_under tallies; bytes = bytes_under tallies }
