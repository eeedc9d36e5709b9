-- The parts at each variable, as the code keeps them.
use Rattle.std.specs.Prelude.{ℕ, List, [], Option, Some, None, map}
use Rattle.std.proofs.Common.{Vec, Global}
use Rattle.std.specs.Borrow.{Bor}
use Rattle.std.specs.Ordering.{nat_cmp}
use Rattle.std.specs.BTreeMap.{BTreeMap, get}
use Rattle.trs_caps.specs.HoledTree.{HoledTree}
use Rattle.trs_caps.specs.declared.holed.Cap.{Cap}
use Rattle.trs_caps.specs.View.{holed}

abbrev pub caps_of : List (Bor Cap) → List HoledTree
caps_of caps = map (λ c. holed c.now) caps

-- what stands in an entry, or nothing
abbrev pub entry_parts : Option (Vec (Bor Cap) Global) → List HoledTree
entry_parts None = []
entry_parts (Some caps) = caps_of caps.items

-- the parts at a variable
abbrev pub parts_at : BTreeMap ℕ (Vec (Bor Cap) Global) → ℕ → List HoledTree
parts_at parts v = entry_parts (get nat_cmp parts v)
