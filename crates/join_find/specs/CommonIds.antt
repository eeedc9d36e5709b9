-- The same of ids of a pool.
use Rattle.std.specs.Prelude.{◌≡◌, ℕ, List, [], ◌∷◌}
use Rattle.std.specs.Global.{Vec}
use Rattle.trs_defs.specs.Member.{In}
use Rattle.trs_defs.specs.Tree.{Tree}
use Rattle.trs_defs.specs.Path.{PlacedRule}
use Rattle.term_pool.specs.Pooled.{StandsFor}
use Rattle.term_pool.specs.Listed.{Listed}
use Rattle.term_pool.specs.ListedIds.{ids_of}
use Rattle.rewrite_core.specs.PathsOfJoin.{PathsOfJoin}
use Rattle.join_find.specs.First.{First, None_in}

-- an id with a path to its term
abbrev pub Reached : Type 0
Reached = ℕ × Vec PlacedRule

-- the first id of the left list that the right list has, with its first path in each list
pub record IsFirstCommonId (lefts rights : List Reached) (join : PathsOfJoin) : Type 0 where
  pub left : Reached
  pub right : Reached
  pub first_left : First (λ (e : Reached). In e.0 (ids_of rights)) lefts left
  pub first_right : First (λ (e : Reached). e.0 ≡ left.0) rights right
  pub left_path : join.left ≡ left.1.items
  pub right_path : join.right ≡ right.1.items

-- no id is in both lists
pub record HasNoCommonId (lefts rights : List Reached) : Type 0 where
  pub none : None_in (λ (e : Reached). In e.0 (ids_of rights)) lefts

-- the path to the first entry with the id
pub record IsPathOf (entries : List Reached) (id : ℕ) (path : List PlacedRule) : Type 0 where
  pub entry : Reached
  pub first : First (λ (e : Reached). e.0 ≡ id) entries entry
  pub is : path ≡ entry.1.items

-- the ids are those of the entries whose terms the pool has
pub data IsSifted (pool : List Tree) : List Listed → List Reached → Type 0 where
  sifted_none : IsSifted pool [] []
  sifted_there : {e : Listed} {k : Reached} {es : List Listed} {ks : List Reached} → StandsFor pool k.0 e.term → k.1.items ≡ e.path
      → IsSifted pool es ks → IsSifted pool (e ∷ es) (k ∷ ks)
  sifted_out : {e : Listed} {es : List Listed} {ks : List Reached} → ((i : ℕ) → StandsFor pool i e.term → ⊥)
      → IsSifted pool es ks → IsSifted pool (e ∷ es) ks
