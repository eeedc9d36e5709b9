-- A term with an instance at a position, which is made in a pool that has grown.
use Rattle.std.proofs.Common.{◌≡◌, ℕ, ◌+◌, ◌<◌, ◌≤◌, List, [], ◌∷◌, length, Some, false, IsTrue, ap, sym, ◌∙◌, zero, suc, arith}
use Rattle.std.proofs.lemmas.Option.{same_Some}
use Rattle.trs_defs.specs.Tree.{Tree, var, app}
use Rattle.trs_defs.specs.Size.{size_of, within_limits}
use Rattle.trs_defs.specs.Position.{argument_at, subterm_at, replaced_at}
use Rattle.trs_defs.proofs.ArgumentLists.{item_size}
use Rattle.trs_defs.proofs.Contexts.{replaced_somehow}
use Rattle.trs_defs.proofs.Positions.{replaced_inside}
use Rattle.term_pool.specs.Pooled.{StandsFor, Extends, tree_at}
use Rattle.term_pool.specs.Placing.{HasPut, IsPlaced, IsTooLargePut}
use Rattle.term_pool.proofs.PoolTrees.{stands_at}
use Rattle.term_pool.proofs.PoolPlaces.{argument_set}
use Rattle.term_pool.proofs.Extending.{same_tree_at}

argument_below : (t : Tree) (place : ℕ) (a : Tree) → argument_at t place ≡ Some a → 1 + size_of a ≤ size_of t
argument_below (var n) place a e = absurd cc
argument_below (app f ts) zero a e = absurd cc
argument_below (app f ts) (suc i) a e = omega (arith, item_size ts i a e)

-- a term has the nodes of the way to what was put, and those of what was put
size_way : (p : List ℕ) (t new u : Tree) → replaced_at p t new ≡ Some u → length p + size_of new ≤ size_of u
size_way [] t new u e = let same : size_of new ≡ size_of u = ap size_of (same_Some new u e) in omega (arith, same)
size_way (place ∷ p) t new u e =
    let r = replaced_inside place p t new u e in
    let rest = size_way p r.argument new r.changed r.below in
    let there : argument_at u place ≡ Some r.changed = ap (λ z. argument_at z place) (sym r.whole) ∙ argument_set t place r.argument r.changed r.there in
    omega (arith, rest, argument_below u place r.changed there)

-- a term with what was put, within the limits
pub placed_within : (p : List ℕ) (t by : Tree) (old new : List Tree) (id : ℕ) → replaced_at p t by ≡ Some (tree_at new id) → IsTrue (within_limits (tree_at new id)) → id < length new
    → length new ≤ length old + length p → IsPlaced p t by old new id
placed_within p t by old new id put limits there few =
    let way = size_way p t by (tree_at new id) put in
    record { put = put; there = there; limits = limits; few = omega (arith, few, way) }

-- the instance has an id in a pool that has grown
module _ (pool next : List Tree) (p : List ℕ) (id by : ℕ) (part value : Tree) (within : id < length pool) (extends : Extends pool next) (stand : StandsFor next by value)
    (there : subterm_at p (tree_at pool id) ≡ Some part) where
  whole : (u : Tree) × (replaced_at p (tree_at pool id) value ≡ Some u)
  whole = replaced_somehow p (tree_at pool id) part value there

  next_put : replaced_at p (tree_at next id) (tree_at next by) ≡ Some whole.0
  next_put =
      let old : tree_at next id ≡ tree_at pool id = same_tree_at pool next extends id within in
      let new : tree_at next by ≡ value = stands_at next by value stand in
      rw (old, new) whole.1

  pub has_put : HasPut next p id by
  has_put = record { result = whole.0; put = next_put }

  module _ (last : List Tree) (new : ℕ) (made : replaced_at p (tree_at next id) (tree_at next by) ≡ Some (tree_at last new)) where
    made_put : replaced_at p (tree_at pool id) value ≡ Some (tree_at last new)
    made_put =
        let same : tree_at last new ≡ whole.0 = same_Some (tree_at last new) whole.0 (sym made ∙ next_put) in
        whole.1 ∙ ap (λ z. Some z) (sym same)

    pub is_placed : IsTrue (within_limits (tree_at last new)) → new < length last → length next ≤ length pool + size_of value → length last ≤ length next + length p
        → IsPlaced p (tree_at pool id) value pool last new
    is_placed limits there h l =
        let way = size_way p (tree_at pool id) value (tree_at last new) made_put in
        record {
          put = made_put;
          there = there;
          limits = limits;
          few = omega (arith, h, l, way);
        }

    pub is_too_large : within_limits (tree_at last new) ≡ false → IsTooLargePut p (tree_at pool id) value
    is_too_large large = record { result = tree_at last new; put = made_put; large = large }
