-- A peak that is closed by a parallel step, or by none.
use Rattle.std.specs.Prelude.{◌≡◌, ◌≢◌, ◌<◌, ◌≤◌, ℕ, ◌+◌, length, take, List, [], ◌∷◌, ◌++◌}
use Rattle.std.proofs.Common.{ap, sym, subst, ◌∙◌, get_or}
use Rattle.std.specs.Global.{Vec}
use Rattle.std.proofs.lemmas.List.{map-append}
use Rattle.trs_defs.specs.Tree.{Tree}
use Rattle.trs_defs.specs.Size.{size_of}
use Rattle.trs_defs.specs.System.{RewriteRule}
use Rattle.trs_defs.specs.Path.{PlacedRule, Follows}
use Rattle.term_pool.specs.Pooled.{AreDistinct, StandsFor, tree_at}
use Rattle.term_pool.specs.Redexes.{Grows, below}
use Rattle.term_pool.specs.declared.paths.PathFault.{PathFault}
use Rattle.term_pool.specs.declared.paths.PathFault.TheVariants as fault
use Rattle.term_pool.proofs.PoolTrees.{stands_at, stands_within}
use Rattle.term_pool.proofs.RedexLists.{below_nothing}
use Rattle.rewrite_core.specs.PlacedPeak.{PlacedPeak}
use Rattle.closed_pairs.specs.ParallelClosed.{paths_of}
use Rattle.join_find.specs.First.{Along}
use Rattle.join_find.specs.ParallelRow.{IsParallelStep, IsParallelClosing, HasNoClosing, no_step}
use Rattle.join_find.specs.Sides.{IsSideAt}
use Rattle.join_find.specs.LastSteps.{CloseSides, NoneClose}
use Rattle.join_find.proofs.Firsts.{along_one_more}
use Rattle.join_find.proofs.ParallelSteps.{one_parallel_step}
use Rattle.join_find.proofs.ParallelFollowed.{parallel_step_followed}

-- what was added to no steps, at the root
pub all_steps : (rules : List RewriteRule) (s t : Tree) (old steps : List PlacedRule) (place : List ℕ) → place ≡ [] → old ≡ [] → Grows place (IsParallelStep rules s t) old steps → IsParallelStep rules s t steps
all_steps rules s t old steps place root none g =
    let e : steps ≡ g.0 = g.2 ∙ rw (none, root) (below_nothing g.0) in
    subst (λ xs. IsParallelStep rules s t xs) (sym e) g.1

module _ (rules : List RewriteRule) (pool : List Tree) (ids : ℕ × ℕ) where
  -- sides with one id are closed with no step
  pub one_id_closes : (steps : List PlacedRule) → ids.0 < length pool → ids.1 < length pool → ids.0 ≡ ids.1 → steps ≡ [] → CloseSides rules pool ids steps
  one_id_closes steps left right same none =
      let terms : tree_at pool ids.0 ≡ tree_at pool ids.1 = ap (tree_at pool) same in
      let here : IsParallelStep rules (tree_at pool ids.0) (tree_at pool ids.1) [] = subst (λ t. IsParallelStep rules (tree_at pool ids.0) t []) terms no_step in
      subst (CloseSides rules pool ids) (sym none) (record { left = left; right = right; parallel = here; follows = terms })

  pub no_parallel_step : ((ss : List PlacedRule) → IsParallelStep rules (tree_at pool ids.0) (tree_at pool ids.1) ss → ⊥) → NoneClose rules pool ids
  no_parallel_step none ss h = none ss h.parallel

  module _ (steps : List PlacedRule) (is : IsParallelStep rules (tree_at pool ids.0) (tree_at pool ids.1) steps) where
    -- between sides that have few nodes the steps that were found are followed
    pub few_nodes_close : IsSideAt pool ids.0 → IsSideAt pool ids.1 → size_of (tree_at pool ids.0) + size_of (tree_at pool ids.1) ≤ 65536 → CloseSides rules pool ids steps
    few_nodes_close left right few =
        record { left = left.there; right = right.there; parallel = is; follows = parallel_step_followed rules is left.side.small right.side.small (λ _. few) }

    -- the steps that were found are the only ones; they are not followed
    pub not_followed : (Follows rules steps (tree_at pool ids.0) (tree_at pool ids.1) → ⊥) → NoneClose rules pool ids
    not_followed not ss h = not (subst (λ xs. Follows rules xs (tree_at pool ids.0) (tree_at pool ids.1)) (one_parallel_step rules h.parallel is) h.follows)

-- the sides of a peak
module _ (rules : List RewriteRule) (pool : List Tree) (ids : ℕ × ℕ) (peak : PlacedPeak) (left : StandsFor pool ids.0 peak.left) (right : StandsFor pool ids.1 peak.right) where
  pub closes_peak : (steps : List PlacedRule) → CloseSides rules pool ids steps → IsParallelClosing rules peak steps
  closes_peak steps h =
      let P : Tree → Tree → Type 0 = λ s t. IsParallelStep rules s t steps in
      let F : Tree → Tree → Type 0 = λ s t. Follows rules steps s t in
      let same_left = stands_at pool ids.0 peak.left left in
      let same_right = stands_at pool ids.1 peak.right right in
      record {
        parallel = subst (P peak.left) same_right (subst (λ s. P s (tree_at pool ids.1)) same_left h.parallel);
        follows = subst (F peak.left) same_right (subst (λ s. F s (tree_at pool ids.1)) same_left h.follows);
      }

  pub none_closes_peak : NoneClose rules pool ids → HasNoClosing rules peak
  none_closes_peak none = record {
    none = λ steps h.
        (let P : Tree → Tree → Type 0 = λ s t. IsParallelStep rules s t steps in
        let F : Tree → Tree → Type 0 = λ s t. Follows rules steps s t in
        let same_left = sym (stands_at pool ids.0 peak.left left) in
        let same_right = sym (stands_at pool ids.1 peak.right right) in
        none steps (record {
          left = stands_within pool ids.0 peak.left left;
          right = stands_within pool ids.1 peak.right right;
          parallel = subst (P (tree_at pool ids.0)) same_right (subst (λ s. P s peak.right) same_left h.parallel);
          follows = subst (F (tree_at pool ids.0)) same_right (subst (λ s. F s peak.right) same_left h.follows);
        }));
  }

-- the end of a path that is followed is the term that it leads to
pub leads_to_end : (rules : List RewriteRule) (steps : List PlacedRule) (old new : List Tree) (start end wanted : ℕ) (s t : Tree) → AreDistinct new → StandsFor old start s → StandsFor new wanted t
    → ((u : Tree) → Follows rules steps (tree_at old start) u → StandsFor new end u) → end ≢ wanted → Follows rules steps s t → ⊥
leads_to_end rules steps old new start end wanted s t distinct is_start is_wanted only other follows =
    let from_start : Follows rules steps (tree_at old start) t = subst (λ u. Follows rules steps u t) (sym (stands_at old start s is_start)) follows in
    other (distinct.same end wanted t (only t from_start) is_wanted)

pub end_is_there : (rules : List RewriteRule) (steps : List PlacedRule) (old new : List Tree) (start end wanted : ℕ) (s t : Tree) → StandsFor old start s → StandsFor new wanted t
    → end ≡ wanted → Follows rules steps (tree_at old start) (tree_at new end) → Follows rules steps s t
end_is_there rules steps old new start end wanted s t is_start is_wanted same follows =
    let e : tree_at new end ≡ t = ap (tree_at new) same ∙ stands_at new wanted t is_wanted in
    subst (λ u. Follows rules steps s u) e (subst (λ u. Follows rules steps u (tree_at new end)) (stands_at old start s is_start) follows)

-- a path with a fault is not followed
pub fault_stops : (rules : List RewriteRule) (steps : List PlacedRule) (old new : List Tree) (start k : ℕ) (why : PathFault) (s t : Tree) → StandsFor old start s
    → ((u : Tree) → Follows rules steps (tree_at old start) u → why ≡ fault.OutOfMemory) → why ≢ fault.OutOfMemory → Follows rules steps s t → ⊥
fault_stops rules steps old new start k why s t is_start only other follows =
    other (only t (subst (λ u. Follows rules steps u t) (sym (stands_at old start s is_start)) follows))

pub one_more_closing : (rules : List RewriteRule) (peaks : List PlacedPeak) (old new : List (Vec PlacedRule)) (i : ℕ) (peak : PlacedPeak) (steps : Vec PlacedRule) → i < length peaks → peak ≡ get_or peaks i peak
    → Along (IsParallelClosing rules) (take i peaks) (paths_of old) → IsParallelClosing rules peak steps.items → new ≡ old ++ steps ∷ []
    → Along (IsParallelClosing rules) (take (i + 1) peaks) (paths_of new)
one_more_closing rules peaks old new i peak steps below is along h made =
    along_one_more (IsParallelClosing rules) peaks (paths_of old) (paths_of new) i peak steps.items below is along h
    (ap paths_of made ∙ map-append (λ (p : Vec PlacedRule). p.items) old (steps ∷ []))
