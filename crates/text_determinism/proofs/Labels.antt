-- The ranks and paths that the strategy label finds on a list of peaks are one, and at most one of its answers is true.
use Rattle.std.specs.Prelude.{◌≡◌, ◌<◌, ℕ, Bool, true, false, List, Some, None, IsTrue, length, refl, Option}
use Rattle.std.proofs.Common.{ap, ap₂, sym, ◌∙◌, subst, arith}
use Rattle.trs_defs.specs.System.{RewriteRule, System, IsSystem}
use Rattle.trs_defs.proofs.ListItems.{item_there}
use Rattle.term_pool.specs.Listed.{Listed}
use Rattle.rewrite_core.specs.PlacedPeak.{PlacedPeak}
use Rattle.rewrite_core.specs.PathsOfJoin.{PathsOfJoin}
use Rattle.assign_search.specs.Puzzle.{Puzzle, solution_of, count_of}
use Rattle.path_lists.proofs.PathsOnce.{path_lists_once}
use Rattle.conclusion.specs.report_text.strategies.join_find.First.{First, Along}
use Rattle.conclusion.specs.report_text.strategies.label_find.LabelRow.{PeakPaths, ArePathsOf, Closes, CanCloseFrom, IsLabelSearch, HasSearch, IsFirstClosing}
use Rattle.conclusion.specs.report_text.strategies.label_find.LabelRow.{FindsLabel, FailsLabel, not_linear, no_ranks, SpendsLabel}
use Rattle.text_determinism.proofs.Firsts.{first_once, along_once}
use Rattle.text_determinism.proofs.Puzzles.{AreAlike, same_solution, same_count}
use Rattle.text_determinism.proofs.Commons.{join_of}

abbrev paths_by : PlacedPeak → List Listed → List Listed → PeakPaths
paths_by peak lefts rights = record { peak = peak; lefts = lefts; rights = rights }

same_truth : (a b : Bool) → (IsTrue a → IsTrue b) → (IsTrue b → IsTrue a) → a ≡ b
same_truth true true to back = refl
same_truth false false to back = refl
same_truth true false to back = sym (to refl)
same_truth false true to back = back refl

-- two searches over the same paths are alike
searches_alike : (rules : List RewriteRule) (paths : List PeakPaths) (z w : Puzzle) → IsLabelSearch rules paths z
    → IsLabelSearch rules paths w → AreAlike z w
searches_alike rules paths z w h k = record {
  slots = h.slots ∙ sym k.slots;
  domain = λ s. h.ranks s ∙ sym (k.ranks s);
  constraints = h.constraints ∙ sym k.constraints;
  uses = λ c s l. let (p, at) = item_there paths c (within c l) in h.uses c s p at ∙ sym (k.uses c s p at);
  truth = λ c ranks l. let (p, at) = item_there paths c (within c l) in
      same_truth (z.truth c ranks) (w.truth c ranks)
      (λ t. (k.truth c ranks p at).1 ((h.truth c ranks p at).0 t)) (λ t. (h.truth c ranks p at).1 ((k.truth c ranks p at).0 t));
}
  where
    within : (c : ℕ) → c < z.constraints → c < length paths
    within c l = subst (λ n. c < n) h.constraints l

closing_once : (ranks : List ℕ) (paths : PeakPaths) (a b : PathsOfJoin) → IsFirstClosing ranks paths a → IsFirstClosing ranks paths b → a ≡ b
closing_once ranks paths a b h k =
    let left : h.left ≡ k.left = first_once (CanCloseFrom ranks paths) h.first_left k.first_left in
    let first = subst (λ (e : Listed). First (Closes ranks paths.peak.inner paths.peak.outer e) paths.rights h.right) left h.first_right in
    let right : h.right ≡ k.right = first_once (Closes ranks paths.peak.inner paths.peak.outer k.left) first k.first_right in
    ap₂ join_of (h.left_path ∙ (ap (λ (e : Listed). e.path) left ∙ sym k.left_path))
    (h.right_path ∙ (ap (λ (e : Listed). e.path) right ∙ sym k.right_path))

module _ (system : System) (valid : IsSystem system) where
  one_paths : (peak : PlacedPeak) (a b : PeakPaths) → ArePathsOf system.rules peak a → ArePathsOf system.rules peak b → a ≡ b
  one_paths peak a b h k =
      let lefts : a.lefts ≡ b.lefts = path_lists_once system valid peak.left a.lefts b.lefts h.from_left k.from_left in
      let rights : a.rights ≡ b.rights = path_lists_once system valid peak.right a.rights b.rights h.from_right k.from_right in
      ap (λ (p : PlacedPeak). paths_by p a.lefts a.rights) (h.is ∙ sym k.is) ∙ ap₂ (paths_by b.peak) lefts rights

  module _ (peaks : List PlacedPeak) where
    all_paths : (a b : HasSearch system.rules peaks) → a.paths ≡ b.paths
    all_paths a b = along_once (ArePathsOf system.rules) one_paths a.are_paths b.are_paths

    alike : (a b : HasSearch system.rules peaks) → AreAlike a.search b.search
    alike a b =
        searches_alike system.rules b.paths a.search b.search
        (subst (λ (ps : List PeakPaths). IsLabelSearch system.rules ps a.search) (all_paths a b) a.is_search) b.is_search

    one_solution : (a b : HasSearch system.rules peaks) → solution_of a.search ≡ solution_of b.search
    one_solution a b = same_solution a.search b.search (alike a b)

    one_count : (a b : HasSearch system.rules peaks) → count_of a.search ≡ count_of b.search
    one_count a b = same_count a.search b.search (alike a b)

    module _ (budget : ℕ) where
      pub ranks_once : (ranks others : List ℕ) (joins more : List PathsOfJoin) → FindsLabel system.rules peaks budget ranks joins
          → FindsLabel system.rules peaks budget others more → ranks ≡ others
      ranks_once ranks others joins more h k =
          let same : ◌≡◌ {A = Option (List ℕ)} (Some ranks) (Some others) = sym h.first ∙ (one_solution h.over k.over ∙ k.first) in
          cc (same)

      pub joins_once : (ranks others : List ℕ) (joins more : List PathsOfJoin) → FindsLabel system.rules peaks budget ranks joins
          → FindsLabel system.rules peaks budget others more → joins ≡ more
      joins_once ranks others joins more h k =
          let by_ranks : Along (IsFirstClosing others) h.over.paths joins =
          subst (λ (rs : List ℕ). Along (IsFirstClosing rs) h.over.paths joins) (ranks_once ranks others joins more h k) h.closings in
          let by_paths : Along (IsFirstClosing others) k.over.paths joins =
          subst (λ (ps : List PeakPaths). Along (IsFirstClosing others) ps joins) (all_paths h.over k.over) by_ranks in
          along_once (IsFirstClosing others) (closing_once others) by_paths k.closings

      pub label_not_failed : (ranks : List ℕ) (joins : List PathsOfJoin) → FindsLabel system.rules peaks budget ranks joins
          → FailsLabel system.rules peaks budget → ⊥
      label_not_failed ranks joins h (not_linear bent) = bent h.over.linear
      label_not_failed ranks joins h (no_ranks over none few) =
          let same : ◌≡◌ {A = Option (List ℕ)} (Some ranks) None = sym h.first ∙ (one_solution h.over over ∙ none) in
          absurd (cc (same))

      pub label_not_spent : (ranks : List ℕ) (joins : List PathsOfJoin) → FindsLabel system.rules peaks budget ranks joins
          → SpendsLabel system.rules peaks budget → ⊥
      label_not_spent ranks joins h k =
          let same = one_count h.over k.over in
          let few = h.few in
          let many = k.many in
          absurd (omega (arith, same, few, many))

      pub spent_not_failed : SpendsLabel system.rules peaks budget → FailsLabel system.rules peaks budget → ⊥
      spent_not_failed h (not_linear bent) = bent h.over.linear
      spent_not_failed h (no_ranks over none few) =
          let same = one_count h.over over in
          let many = h.many in
          absurd (omega (arith, same, few, many))
