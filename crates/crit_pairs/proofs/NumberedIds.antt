-- The ids of arguments that get new numbers for their variables.
use Rattle.std.proofs.Common.{◌≡◌, All, ℕ, ◌<◌, ◌≤◌, List, [], ◌∷◌, ◌++◌, map, take, drop, length, length-append, Result, Ok, Err, IfOk, ap, sym, ◌∙◌, subst, arith}
use Rattle.std.proofs.lemmas.List.{map-append, take-append-le, drop-append-le}
use Rattle.std.proofs.lemmas.List.Elements.{All-push}
use Rattle.trs_defs.specs.Tree.{Tree}
use Rattle.term_pool.specs.Pooled.{StandsFor, Extends, tree_at}
use Rattle.term_pool.proofs.PoolTrees.{same_trees_at, stands_at, stands_within}
use Rattle.term_pool.proofs.Adding.{each_below}
use Rattle.term_pool.proofs.Extending.{same_tree_at}
use Rattle.trs_unify.specs.Renamed.{IsRenamed}

-- one id more, behind those that stood from a place on
pub record IsIdBehind (start : ℕ) (old new : List ℕ) (id : ℕ) : Type 0 where
  pub behind : start ≤ length new
  pub before : take start new ≡ take start old
  pub last : drop start new ≡ drop start old ++ id ∷ []

pub id_behind : (start : ℕ) (old same new : List ℕ) (id : ℕ) → start ≤ length old → same ≡ old → new ≡ same ++ id ∷ [] → IsIdBehind start old new id
id_behind start old same new id h is pushed =
    let more : new ≡ old ++ id ∷ [] = pushed ∙ ap (λ xs. xs ++ id ∷ []) is in
    record {
      behind = omega (arith, h, ap length more, length-append old (id ∷ []));
      before = ap (take start) more ∙ take-append-le start old (id ∷ []) h;
      last = ap (drop start) more ∙ drop-append-le start old (id ∷ []) h;
    }

-- one id more, in a pool that has grown
module _ (now next : List Tree) (ids more : List ℕ) (id : ℕ) (kept : Extends now next) (below : All (λ i. i < length now) ids) (there : id < length next) (is : more ≡ ids ++ id ∷ []) where
  pub all_below : All (λ i. i < length next) more
  all_below = rw is (All-push (λ i. i < length next) ids id (each_below (length now) (length next) ids kept.longer below) there)

  pub ids_more : map (tree_at next) more ≡ map (tree_at now) ids ++ tree_at next id ∷ []
  ids_more =
      ap (map (tree_at next)) is
      ∙ (map-append (tree_at next) ids (id ∷ []) ∙ ap (λ ts. ts ++ tree_at next id ∷ []) (same_trees_at now next (length now) ids below (same_tree_at now next kept)))

-- the id of what is renamed
pub renamed_id : {E : Type 0} (r : Result ℕ E) (old new : List ℕ) (pool : List Tree) (t u : Tree) → IfOk r (λ id. StandsFor pool id u) → IsRenamed old new t u
    → IfOk r (λ id. IsRenamed old new t (tree_at pool id))
renamed_id (Ok id) old new pool t u stands renamed = subst (IsRenamed old new t) (sym (stands_at pool id u stands)) renamed
renamed_id (Err e) old new pool t u stands renamed = tt

pub id_there : {E : Type 0} (r : Result ℕ E) (pool : List Tree) (u : Tree) → IfOk r (λ id. StandsFor pool id u) → IfOk r (λ id. id < length pool)
id_there (Ok id) pool u stands = stands_within pool id u stands
id_there (Err e) pool u stands = tt
