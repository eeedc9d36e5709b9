-- The first two paths that close a peak, by the ids of their ends and by their ends.
use Rattle.std.specs.Prelude.{◌≡◌, ◌≢◌, ◌<◌, ◌↔◌, ℕ, List, All, Some, length, map}
use Rattle.std.proofs.Common.{ap, sym, ◌∙◌, subst}
use Rattle.trs_defs.specs.Member.{In}
use Rattle.trs_defs.specs.Tree.{Tree}
use Rattle.trs_defs.specs.System.{RewriteRule}
use Rattle.trs_defs.proofs.Members.{in_map, of_map}
use Rattle.confluence_theory.specs.RanksFit.{RanksFit}
use Rattle.confluence_theory.specs.RuleRanks.{rank_of}
use Rattle.term_pool.specs.Pooled.{AreDistinct, Extends, tree_at}
use Rattle.term_pool.specs.Listed.{Listed}
use Rattle.term_pool.specs.ListedIds.{listed, listed_at}
use Rattle.term_pool.proofs.PoolTrees.{stands}
use Rattle.rewrite_core.specs.PlacedPeak.{PlacedPeak}
use Rattle.rewrite_core.specs.PathsOfJoin.{PathsOfJoin}
use Rattle.rule_label.specs.Labelled.{ranks_along}
use Rattle.join_find.specs.First.{First, first_here, first_later, Some_in}
use Rattle.path_lists.specs.PathList.{IsPathList}
use Rattle.path_lists.specs.Adding.{Entry}
use Rattle.label_find.specs.LabelRow.{PeakPaths, Closes, CanCloseFrom, CanClose, IsFirstClosing}
use Rattle.label_find.specs.Closing.{ClosesFrom, CanCloseIds, IsFirstClosingIds, CanBeClosed, IsJoinBy}
use Rattle.label_find.proofs.ConstraintLaws.{paths_of}

-- the first item of an image
first_image : {A B : Type 0} (f : A → B) (fact : B → Type 0) {xs : List A} {a : A} → First (λ x. fact (f x)) xs a → First fact (map f xs) (f a)
first_image f fact (first_here is) = first_here is
first_image f fact (first_later passed rest) = first_later passed (first_image f fact rest)

-- facts that are equivalent have the same first item
first_by : {A : Type 0} {fact other : A → Type 0} {xs : List A} {a : A} → ((x : A) → fact x ↔ other x) → First fact xs a → First other xs a
first_by same (first_here is) = first_here ((same _).0 is)
first_by same (first_later passed rest) = first_later (λ o. passed ((same _).1 o)) (first_by same rest)

some_image : {A B : Type 0} (f : A → B) (fact : B → Type 0) (xs : List A) → Some_in (λ x. fact (f x)) xs ↔ Some_in fact (map f xs)
some_image f fact xs = (λ (x, i, h). (f x, in_map f i, h), λ (y, i, h). (let (x, j, is) = of_map f xs i in (x, j, subst fact is h)))

module _ (ranks : List ℕ) (inner outer : ℕ) (pool : List Tree) (lefts rights : List Entry) where
  abbrev pub ids_paths : PlacedPeak → PeakPaths
  ids_paths peak = record { peak = peak; lefts = listed_at pool lefts; rights = listed_at pool rights }

  module _ (peak : PlacedPeak) (inner_is : inner ≡ peak.inner) (outer_is : outer ≡ peak.outer) where
    same_closes : (t u : Listed) → Closes ranks inner outer t u ↔ Closes ranks peak.inner peak.outer t u
    same_closes t u =
        let P : ℕ → ℕ → Type 0 = λ i o. Closes ranks i o t u in (
          λ c. subst (λ (o : ℕ). P peak.inner o) outer_is (subst (λ (i : ℕ). P i outer) inner_is c),
          λ c. subst (λ (i : ℕ). P i outer) (sym inner_is) (subst (λ (o : ℕ). P peak.inner o) (sym outer_is) c),
        )

    from_same : (e : Entry) → Some_in (ClosesFrom ranks inner outer pool e) rights ↔ CanCloseFrom ranks (ids_paths peak) (listed pool e)
    from_same e =
        let image = some_image (listed pool) (Closes ranks peak.inner peak.outer (listed pool e)) rights in (
          λ (f, i, c). image.0 (f, i, (same_closes (listed pool e) (listed pool f)).0 c),
          λ h. (let (f, i, c) = image.1 h in (f, i, (same_closes (listed pool e) (listed pool f)).1 c)),
        )

    pub can_close_ids : CanClose ranks (ids_paths peak) → CanCloseIds ranks inner outer pool lefts rights
    can_close_ids h =
        let (e, i, c) = (some_image (listed pool) (CanCloseFrom ranks (ids_paths peak)) lefts).1 h in
        (e, i, (from_same e).1 c)

    pub first_closing_of : (join : PathsOfJoin) → IsFirstClosingIds ranks inner outer pool lefts rights join → IsFirstClosing ranks (ids_paths peak) join
    first_closing_of join h = record {
      left = listed pool h.left;
      right = listed pool h.right;
      first_left = first_image (listed pool) (CanCloseFrom ranks (ids_paths peak)) (first_by from_same h.first_left);
      first_right = first_image (listed pool) (Closes ranks peak.inner peak.outer (listed pool h.left)) (first_by (λ f. same_closes (listed pool h.left) (listed pool f)) h.first_right);
      left_path = h.left_path;
      right_path = h.right_path;
    }

-- a left path that does not fit closes nothing
pub no_fit_no_closing : (ranks : List ℕ) (inner outer : ℕ) (pool : List Tree) (left : Entry) (rights : List Entry)
    → (RanksFit (rank_of ranks inner) (rank_of ranks outer) (ranks_along ranks left.1.items) → ⊥) → (f : Entry) → In f rights → ClosesFrom ranks inner outer pool left f → ⊥
no_fit_no_closing ranks inner outer pool left rights none f i c = none c.left_fits

-- paths to different ids close nothing
pub other_ids : (ranks : List ℕ) (inner outer : ℕ) (pool : List Tree) (left right : Entry) → AreDistinct pool → left.0 < length pool → right.0 < length pool → left.0 ≢ right.0
    → ClosesFrom ranks inner outer pool left right → ⊥
other_ids ranks inner outer pool left right distinct left_below right_below other c =
    other (distinct.same left.0 right.0 (tree_at pool right.0) (stands pool left.0 left_below ∙ ap (λ (x : Tree). Some x) c.meet) (stands pool right.0 right_below))

pub same_ids : (ranks : List ℕ) (inner outer : ℕ) (pool : List Tree) (left right : Entry) → left.0 ≡ right.0 → RanksFit (rank_of ranks inner) (rank_of ranks outer) (ranks_along ranks left.1.items)
    → RanksFit (rank_of ranks outer) (rank_of ranks inner) (ranks_along ranks right.1.items) → ClosesFrom ranks inner outer pool left right
same_ids ranks inner outer pool left right same left_fits right_fits = record { meet = ap (tree_at pool) same; left_fits = left_fits; right_fits = right_fits }

-- the join of a peak, of paths that were listed in a pool one side after the other
module _ (rules : List RewriteRule) (ranks : List ℕ) (a b : List Tree) (lefts rights : List Entry) (peak : PlacedPeak) (left right : Tree) (inner outer : ℕ) (extends : Extends a b)
    (below : All (λ e. e.0 < length a) lefts) (left_is : left ≡ peak.left) (right_is : right ≡ peak.right) (inner_is : inner ≡ peak.inner) (outer_is : outer ≡ peak.outer)
    (from_left : IsPathList rules left (listed_at a lefts)) (from_right : IsPathList rules right (listed_at b rights)) (some others : List Entry) (lefts_are : some ≡ lefts) (rights_are : others ≡ rights) where
  pub can_close_read : CanBeClosed rules ranks peak → CanCloseIds ranks inner outer b some others
  can_close_read can =
      let are = paths_of rules a b lefts rights peak left right extends below left_is right_is from_left from_right in
      let closes = can_close_ids ranks inner outer b lefts rights peak inner_is outer_is (can.by_paths (ids_paths ranks inner outer b lefts rights peak) are) in
      subst (λ (es : List Entry). CanCloseIds ranks inner outer b es others) (sym lefts_are) (subst (λ (es : List Entry). CanCloseIds ranks inner outer b lefts es) (sym rights_are) closes)

  pub join_by : (join : PathsOfJoin) → IsFirstClosingIds ranks inner outer b some others join → IsJoinBy rules ranks peak join
  join_by join h = record {
    paths = ids_paths ranks inner outer b lefts rights peak;
    are_paths = paths_of rules a b lefts rights peak left right extends below left_is right_is from_left from_right;
    closing = first_closing_of ranks inner outer b lefts rights peak inner_is outer_is join
        (subst (λ (es : List Entry). IsFirstClosingIds ranks inner outer b lefts es join) rights_are (subst (λ (es : List Entry). IsFirstClosingIds ranks inner outer b es others join) lefts_are h));
  }
