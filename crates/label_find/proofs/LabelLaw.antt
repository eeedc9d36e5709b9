-- The ranks and paths that are found meet the conditions on decreasing peaks.
use Rattle.std.specs.Prelude.{◌≡◌, ◌<◌, ◌^◌, ℕ, List, [], ◌∷◌, All, Ok, refl}
use Rattle.std.proofs.Common.{zero, suc, sym, ◌∙◌, subst, arith}
use Rattle.trs_defs.specs.System.{System, RewriteRule}
use Rattle.trs_defs.specs.Path.{PlacedRule, Follows}
use Rattle.trs_defs.specs.Tree.{Tree}
use Rattle.confluence_theory.specs.RanksFit.{RanksFit}
use Rattle.confluence_theory.specs.RuleRanks.{rank_of}
use Rattle.assign_search.specs.Puzzle.{Puzzle}
use Rattle.assign_search.proofs.Laws.{found_solves, InDomainFrom}
use Rattle.rewrite_core.specs.Check.{goes_on, holds}
use Rattle.rewrite_core.specs.PathCheck.{followed}
use Rattle.rewrite_core.specs.PlacedPeak.{PlacedPeak}
use Rattle.rewrite_core.specs.PathsOfJoin.{PathsOfJoin}
use Rattle.join_find.specs.crit_pairs.PeakList.{ListsPeaks}
use Rattle.join_find.specs.crit_pairs.PeaksCheck.{listed}
use Rattle.rule_label.specs.Labelled.{ranks_along, joins_decreasing}
use Rattle.join_find.specs.First.{Along, along_end, along_item}
use Rattle.join_find.proofs.Firsts.{first_in_list, holds_now}
use Rattle.join_find.proofs.LinearRules.{linear_rules_pass}
use Rattle.join_find.proofs.NewmanLaw.{along_length, along_each}
use Rattle.path_lists.proofs.PathLaws.{paths_lead}
use Rattle.label_find.specs.LabelRow.{PeakPaths, ArePathsOf, Closes, IsFirstClosing, FindsLabel}
use Rattle.label_find.specs.Laws.{IsLabelStep}
use Rattle.label_find.proofs.Searching.{solution_parts}

-- a peak with the paths from its sides, of which two close it
record IsClosed (rules : List RewriteRule) (ranks : List ℕ) (peak : PlacedPeak) (join : PathsOfJoin) : Type 0 where
  paths : PeakPaths
  are_paths : ArePathsOf rules peak paths
  closing : IsFirstClosing ranks paths join

closed_along : (rules : List RewriteRule) (ranks : List ℕ) {peaks : List PlacedPeak} {paths : List PeakPaths} {joins : List PathsOfJoin} → Along (ArePathsOf rules) peaks paths
    → Along (IsFirstClosing ranks) paths joins → Along (IsClosed rules ranks) peaks joins
closed_along rules ranks along_end along_end = along_end
closed_along rules ranks (along_item {b = b} h rest) (along_item k later) = along_item (record { paths = b; are_paths = h; closing = k }) (closed_along rules ranks rest later)

closed_passes : (rules : List RewriteRule) (ranks : List ℕ) (n : ℕ) (peak : PlacedPeak) (join : PathsOfJoin) → IsClosed rules ranks peak join → joins_decreasing rules ranks n peak join (Ok tt)
closed_passes rules ranks n peak join h =
    let k = h.closing in
    let closes : Closes ranks peak.inner peak.outer k.left k.right =
    subst (λ (p : PlacedPeak). Closes ranks p.inner p.outer k.left k.right) h.are_paths.is (holds_now k.first_right) in
    let end = k.right.term in
    let L : List PlacedRule → Type 0 = λ p. Follows rules p peak.left end in
    let R : List PlacedRule → Type 0 = λ p. Follows rules p peak.right end in
    let left : Follows rules join.left peak.left end = subst L (sym k.left_path)
    (subst (λ (t : Tree). Follows rules k.left.path peak.left t) closes.meet (paths_lead rules peak.left h.paths.lefts h.are_paths.from_left k.left (first_in_list k.first_left))) in
    let right : Follows rules join.right peak.right end = subst R (sym k.right_path) (paths_lead rules peak.right h.paths.rights h.are_paths.from_right k.right (first_in_list k.first_right)) in
    let left_fits = subst (λ (p : List PlacedRule). RanksFit (rank_of ranks peak.inner) (rank_of ranks peak.outer) (ranks_along ranks p)) (sym k.left_path) closes.left_fits in
    let right_fits = subst (λ (p : List PlacedRule). RanksFit (rank_of ranks peak.outer) (rank_of ranks peak.inner) (ranks_along ranks p)) (sym k.right_path) closes.right_fits in
    goes_on tt (Ok tt) (goes_on end (Ok tt) (followed end left) (goes_on end (Ok tt) (followed end right) (holds refl)))
    (goes_on tt (Ok tt) (holds left_fits) (holds right_fits))

small_values : (z : Puzzle) (n : ℕ) (p : List ℕ) → ((k : ℕ) → z.domain k ≡ 4) → InDomainFrom z n p → All (λ r. r < 2 ^ 63) p
small_values z n [] four inside k d below = absurd (omega (arith, below))
small_values z n (v ∷ p) four inside zero d below = let first = inside.0 in let domain = four n in omega (arith, first, domain)
small_values z n (v ∷ p) four inside (suc k) d below = small_values z (suc n) p four inside.1 k d (omega (arith, below))

pub found_labels_fit : (system : System) (peaks : List PlacedPeak) (budget : ℕ) (ranks : List ℕ) (joins : List PathsOfJoin) → ListsPeaks system.rules (Ok peaks)
    → FindsLabel system.rules peaks budget ranks joins → IsLabelStep system ranks joins
found_labels_fit system peaks budget ranks joins critical found =
    let over = found.over in
    let closed = closed_along system.rules ranks over.are_paths found.closings in
    let solves = found_solves over.search ranks found.first in
    record {
      well_made = small_values over.search 0 ranks over.is_search.ranks solves.2;
      conditions =
          goes_on tt (Ok tt) (linear_rules_pass system.rules over.linear) (goes_on peaks (Ok tt) (listed peaks critical)
          (goes_on tt (Ok tt) (holds ((solution_parts over.search ranks solves.0).0 ∙ over.is_search.slots))
          (goes_on tt (Ok tt) (holds (along_length closed)) (along_each (λ n item. joins_decreasing system.rules ranks n item.0 item.1) (λ n peak join h. closed_passes system.rules ranks n peak join h) 0 closed))));
    }
