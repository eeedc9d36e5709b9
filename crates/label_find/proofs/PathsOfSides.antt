-- Paths that are kept of the sides of peaks.
use Rattle.std.proofs.Common.{◌≡◌, ◌<◌, ℕ, List, All, length, Some, None, sym, subst, arith}
use Rattle.std.proofs.lemmas.List.Elements.{All-weaker}
use Rattle.trs_defs.specs.Tree.{Tree}
use Rattle.trs_defs.specs.System.{RewriteRule}
use Rattle.term_pool.specs.Pooled.{Extends, StandsFor, tree_at}
use Rattle.term_pool.specs.Listed.{Listed}
use Rattle.term_pool.specs.ListedIds.{listed_at}
use Rattle.term_pool.proofs.ReachedIds.{same_listed}
use Rattle.term_pool.proofs.Extending.{extends_itself, same_tree_at}
use Rattle.term_pool.proofs.PoolTrees.{stands_at, stands_within}
use Rattle.join_find.specs.KeptLists.{list_of, IsPut, AreOf}
use Rattle.join_find.proofs.KeptOfSides.{none_kept, one_more_kept, of_weaker_kind}
use Rattle.path_lists.specs.PathList.{IsPathList}
use Rattle.path_lists.specs.KnownEnds.{AreKnownEnds}
use Rattle.path_lists.specs.declared.known_ends.KnownEnds.{KnownEnds}
use Rattle.path_lists.specs.Adding.{Entry}
use Rattle.label_find.specs.ListedSides.{IsPathsOf, AreListed, HasSameLists}
use Rattle.label_find.specs.declared.listed_sides.ListedSides.{ListedSides}
use Rattle.term_pool.specs.Crossing.{AreKnownIds}
use Rattle.term_pool.specs.declared.crossing.KnownIds.{KnownIds}

paths_still : (rules : List RewriteRule) (a b : List Tree) (id : ℕ) (found : List Entry) → Extends a b → IsPathsOf rules a id found → IsPathsOf rules b id found
paths_still rules a b id found extends h =
    let P : List Listed → Type 0 = λ xs. IsPathList rules (tree_at b id) xs in
    let Q : Tree → Type 0 = λ t. IsPathList rules t (listed_at a found) in
    record {
      there = (let n = h.there in omega (arith, extends.longer, n));
      list = subst P (sym (same_listed a b extends found h.below)) (subst Q (sym (same_tree_at a b extends id h.there)) h.list);
      below = All-weaker (λ e. e.0 < length a) (λ e. e.0 < length b) (λ x k. omega (arith, k, extends.longer)) found h.below;
    }

-- no sides
pub none_listed : (rules : List RewriteRule) (from : List Tree) (sides : ListedSides) → ((id : ℕ) → list_of sides.lists id ≡ None) → AreKnownIds from sides.pool sides.known → AreKnownEnds rules sides.pool sides.ends → AreListed rules from sides
none_listed rules from sides none known ends = record { lists = none_kept (IsPathsOf rules sides.pool) sides.lists none; known = known; ends = ends }

module _ (rules : List RewriteRule) (from : List Tree) (old new : ListedSides) (sides : AreListed rules from old) (extends : Extends old.pool new.pool) (known : AreKnownIds from new.pool new.known)
    (ends : AreKnownEnds rules new.pool new.ends) where
  still_of_kind : AreOf (IsPathsOf rules new.pool) old.lists
  still_of_kind = of_weaker_kind (IsPathsOf rules old.pool) (IsPathsOf rules new.pool) old.lists (λ id found. paths_still rules old.pool new.pool id found extends) sides.lists

  -- the pool has grown
  pub listed_still : new.lists ≡ old.lists → AreListed rules from new
  listed_still same = record { lists = subst (AreOf (IsPathsOf rules new.pool)) (sym same) still_of_kind; known = known; ends = ends }

  -- the paths from one more side are listed
  pub one_more_listed : (id : ℕ) (found : List Entry) (t : Tree) → IsPut id found old.lists new.lists → StandsFor new.pool id t → IsPathList rules t (listed_at new.pool found)
      → All (λ e. e.0 < length new.pool) found → AreListed rules from new
  one_more_listed id found t put is list below =
      let Q : Tree → Type 0 = λ u. IsPathList rules u (listed_at new.pool found) in
      let paths : IsPathsOf rules new.pool id found = record { there = stands_within new.pool id t is; list = subst Q (sym (stands_at new.pool id t is)) list; below = below } in
      record { lists = one_more_kept (IsPathsOf rules new.pool) old.lists new.lists id found still_of_kind put paths; known = known; ends = ends }

-- the pool and the lists are the same
pub listed_same : (rules : List RewriteRule) (from : List Tree) (old new : ListedSides) → HasSameLists old new → AreListed rules from old → AreListed rules from new
listed_same rules from old new same sides =
    let A : List Tree → Type 0 = λ pool. AreKnownIds from pool new.known in
    let I : KnownIds → Type 0 = λ known. AreKnownIds from old.pool known in
    let K : List Tree → Type 0 = λ pool. AreKnownEnds rules pool new.ends in
    let E : KnownEnds → Type 0 = λ ends. AreKnownEnds rules old.pool ends in
    listed_still rules from old new sides (subst (λ (pool : List Tree). Extends old.pool pool) (sym same.pool) (extends_itself old.pool))
    (subst A (sym same.pool) (subst I (sym same.known) sides.known)) (subst K (sym same.pool) (subst E (sym same.ends) sides.ends)) same.lists

-- the paths from the side of an id that has a list
module _ (rules : List RewriteRule) (from : List Tree) (sides : ListedSides) (listed : AreListed rules from sides) (id : ℕ) (t : Tree) (found : List Entry) (at : list_of sides.lists id ≡ Some found) where
  pub list_from : StandsFor sides.pool id t → IsPathList rules t (listed_at sides.pool found)
  list_from is =
      let Q : Tree → Type 0 = λ u. IsPathList rules u (listed_at sides.pool found) in
      subst Q (stands_at sides.pool id t is) (listed.lists id found at).list

  pub ends_below : All (λ e. e.0 < length sides.pool) found
  ends_below = (listed.lists id found at).below
