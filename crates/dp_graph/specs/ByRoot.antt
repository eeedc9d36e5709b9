-- Lists by roots.
use Rattle.std.specs.Prelude.{ℕ, List, [], Option, Some, None, Vec}
use Rattle.std.specs.declared.alloc.Global.{Global}
use Rattle.std.specs.Ordering.{nat_cmp}
use Rattle.std.specs.BTreeMap.{BTreeMap, get}

abbrev pub entry_items : {T : Type 0} → Option (Vec T Global) → List T
entry_items None = []
entry_items (Some items) = items.items

-- the items at a root
abbrev pub items_at : {T : Type 0} → BTreeMap ℕ (Vec T Global) → ℕ → List T
items_at by_root f = entry_items (get nat_cmp by_root f)
