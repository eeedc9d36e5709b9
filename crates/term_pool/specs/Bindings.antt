-- Ids for variables, and the substitution that they are.
use Rattle.std.specs.Prelude.{◌≡◌, ◌≢◌, ◌<◌, ◌+◌, ◌-◌, ℕ, ◌&&◌, nat_lt, nat_le, cond, List, length, slice_get, Option, Some, None}
use Rattle.std.specs.Ordering.{nat_cmp}
use Rattle.std.specs.BTreeMap.{get}
use Rattle.std.specs.Option.{option_or}
use Rattle.term_pool.specs.declared.bindings.Bindings.{Bindings}
use Rattle.trs_defs.specs.Tree.{Tree, var}
use Rattle.trs_defs.specs.Substitution.{apply}
use Rattle.term_pool.specs.Pooled.{tree_at}

-- the variables behind the 65,536 that rules may have stand for so many ids, in order
abbrev pub part_id : ℕ → ℕ → Option ℕ
part_id parts v = cond (nat_le 65536 v && nat_lt (v - 65536) parts) (Some (v - 65536)) None

-- the substitution gives these variables the terms of all ids
abbrev pub NamesParts : List Tree → (ℕ → Tree) → Type 0
NamesParts pool s = (id : ℕ) → id < length pool → s (65536 + id) ≡ tree_at pool id

-- the id of a variable: it is listed, or else in the map, or else that of a part
abbrev pub bound : Bindings → ℕ → Option ℕ
bound m v = option_or (slice_get m.listed.items v) (option_or (get nat_cmp m.others v) (part_id m.parts v))

-- the variable has this id, and the others have theirs
abbrev pub IsBoundTo : ℕ → ℕ → Bindings → Bindings → Type 0
IsBoundTo v id old new = (bound new v ≡ Some id) × ((w : ℕ) → v ≢ w → bound new w ≡ bound old w)

abbrev pub term_or_self : List Tree → ℕ → Option ℕ → Tree
term_or_self pool v None = var v
term_or_self pool v (Some id) = tree_at pool id

-- the substitution of variables by the terms of their ids: a variable with no id stays
abbrev pub bound_terms : List Tree → Bindings → ℕ → Tree
bound_terms pool m v = term_or_self pool v (bound m v)

-- the instance of a term by that substitution
abbrev pub instance_of : List Tree → Bindings → Tree → Tree
instance_of pool m t = apply (bound_terms pool m) t

-- the ids are there
pub record HasIds (pool : List Tree) (m : Bindings) : Type 0 where
  pub within : (v id : ℕ) → bound m v ≡ Some id → id < length pool
