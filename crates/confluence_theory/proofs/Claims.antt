-- The theorems on rules by their numbers as claims on systems.
use Rattle.std.specs.Prelude.{ℕ, List, [], ◌∷◌, map}
use Rattle.std.proofs.Common.{refl}
use Rattle.trs_defs.specs.Member.{In}
use Rattle.trs_defs.specs.Tree.{Tree, Trees}
use Rattle.trs_defs.specs.System.{RewriteRule, System, IsSystem, Numbered, Among}
use Rattle.trs_defs.specs.Joinable.{IsJoinable}
use Rattle.confluence_theory.specs.Confluence.{JoinsStrongly}
use Rattle.confluence_theory.specs.LabelledPath.{LabelledPath}
use Rattle.confluence_theory.specs.Linear.{AreLeftLinear, AreRightLinear}
use Rattle.confluence_theory.specs.ParallelStep.{ParallelStep, ParallelSteps, at_variable, at_root, below_root, no_more, one_more, ParallelStepBy}
use Rattle.confluence_theory.specs.Peak.{Peak, Covers}
use Rattle.confluence_theory.specs.RuleRanks.{NumberedStep, rank_of, IsDecreasing}
use Rattle.trs_defs.specs.Step.{RootStep, Step}
use Rattle.trs_defs.specs.Claims.{IsTerminating, IsConfluent}
use Rattle.trs_defs.proofs.Derivations.{run_of_reaches}
use Rattle.trs_defs.proofs.BoundLaws.{bound_of_fewer}
use Rattle.confluence_theory.proofs.Joins.{MeetsStrongly}
use Rattle.trs_defs.proofs.Runs.{once_along, each}
use Rattle.confluence_theory.proofs.Sides.{side_of_path}
use Rattle.confluence_theory.proofs.Free.{IsSeparate, separate_linear}
use Rattle.confluence_theory.proofs.Families.{AnyRule, AnyRoot}
use Rattle.confluence_theory.proofs.Systems.{step_of_any, Listed, family_of, covers_by, numbered_root, any_of_step, joins_any, joinable_any, confluent_system}
use Rattle.confluence_theory.proofs.JoinedPeaks.{newman_system}
use Rattle.confluence_theory.proofs.StrongPeaks.{strong_system}
use Rattle.confluence_theory.proofs.RankedPeaks.{Ranked, Sides, ranks_confluent}
use Rattle.confluence_theory.proofs.ParallelPeaks.{parallel_system}

pub joined : (system : System) (peaks : List Peak) → IsSystem system → Covers system.rules peaks
    → ((peak : Peak) → In peak peaks → IsJoinable (Step system.rules) peak.left peak.right) → IsTerminating system → IsConfluent system
joined system peaks is_system covers close terminating s t u well p q =
    let (n, b) = terminating s well in
    joinable_any system.rules t u
    (newman_system (Numbered system.rules) (Listed system.rules peaks) (family_of system is_system) (covers_by system.rules peaks covers)
    (λ i j top left right h. joins_any system.rules left right (close (record { inner = i; outer = j; top = top; left = left; right = right }) h))
    s t u n (bound_of_fewer (Step system.rules) (AnyRule (Numbered system.rules)) (step_of_any system.rules) n s b)
    (each (any_of_step system.rules) (run_of_reaches (Step system.rules) s t p))
    (each (any_of_step system.rules) (run_of_reaches (Step system.rules) s u q)))

left_separate : (rules : List RewriteRule) → AreLeftLinear rules → (i : ℕ) (l r : Tree) → Numbered rules i l r → IsSeparate l
left_separate rules linear i l r h = separate_linear l (linear i (record { left = l; right = r }) h)

both_separate : (rules : List RewriteRule) → AreLeftLinear rules → AreRightLinear rules → (i : ℕ) (l r : Tree) → Numbered rules i l r → IsSeparate l × IsSeparate r
both_separate rules left_linear right_linear i l r h =
    (left_separate rules left_linear i l r h, separate_linear r (right_linear i (record { left = l; right = r }) h))

module _ (rules : List RewriteRule) where
  mutual
    numbered_parallel : {s t : Tree} → ParallelStep (RootStep (Among rules)) s t → ParallelStep (AnyRoot (Numbered rules)) s t
    numbered_parallel at_variable = at_variable
    numbered_parallel (at_root r) = at_root (numbered_root rules r)
    numbered_parallel (below_root d) = below_root (numbered_parallels d)

    numbered_parallels : {ss ts : Trees} → ParallelSteps (RootStep (Among rules)) ss ts → ParallelSteps (AnyRoot (Numbered rules)) ss ts
    numbered_parallels no_more = no_more
    numbered_parallels (one_more d e) = one_more (numbered_parallel d) (numbered_parallels e)

pub parallel_closed : (system : System) (peaks : List Peak) → IsSystem system → AreLeftLinear system.rules → Covers system.rules peaks
    → ((peak : Peak) → In peak peaks → ParallelStepBy system.rules peak.left peak.right) → IsConfluent system
parallel_closed system peaks is_system linear covers close =
    confluent_system system
    (parallel_system (Numbered system.rules) (Listed system.rules peaks) (family_of system is_system) (left_separate system.rules linear)
    (covers_by system.rules peaks covers)
    (λ i j top left right h. numbered_parallel system.rules (close (record { inner = i; outer = j; top = top; left = left; right = right }) h)))

meets_any : (rules : List RewriteRule) (t u : Tree) → JoinsStrongly (Step rules) t u → MeetsStrongly (AnyRule (Numbered rules)) t u
meets_any rules t u (v, tv, uv) =
    (v, each (any_of_step rules) (run_of_reaches (Step rules) t v tv), once_along (λ x. x) (any_of_step rules) uv)

pub strongly_closed : (system : System) (peaks : List Peak) → IsSystem system → AreLeftLinear system.rules → AreRightLinear system.rules
    → Covers system.rules peaks
    → ((peak : Peak) → In peak peaks → JoinsStrongly (Step system.rules) peak.left peak.right × JoinsStrongly (Step system.rules) peak.right peak.left)
    → IsConfluent system
strongly_closed system peaks is_system left_linear right_linear covers close =
    confluent_system system
    (strong_system (Numbered system.rules) (Listed system.rules peaks) (family_of system is_system)
    (both_separate system.rules left_linear right_linear) (covers_by system.rules peaks covers)
    (λ i j top left right h.
    let (p, q) = close (record { inner = i; outer = j; top = top; left = left; right = right }) h in
    (meets_any system.rules left right p, meets_any system.rules right left q)))

ranked_path : (rules : List RewriteRule) (ranks numbers : List ℕ) (s t : Tree) → LabelledPath (NumberedStep rules) numbers s t
    → LabelledPath (Ranked (Numbered rules) (rank_of ranks)) (map (rank_of ranks) numbers) s t
ranked_path rules ranks [] s t e = e
ranked_path rules ranks (k ∷ numbers) s t (m, step, p) = (m, (k, refl, step), ranked_path rules ranks numbers m t p)

sides_of : (rules : List RewriteRule) (ranks : List ℕ) (peak : Peak) → IsDecreasing rules ranks peak
    → Sides (Numbered rules) (rank_of ranks) peak.inner peak.outer peak.left peak.right
sides_of rules ranks peak d =
    let step : ℕ → Tree → Tree → Type 0 = Ranked (Numbered rules) (rank_of ranks) in (
      d.end,
      side_of_path step (rank_of ranks peak.inner) (rank_of ranks peak.outer) (map (rank_of ranks) d.left_path) peak.left d.end d.left_fits
          (ranked_path rules ranks d.left_path peak.left d.end d.left_steps),
      side_of_path step (rank_of ranks peak.outer) (rank_of ranks peak.inner) (map (rank_of ranks) d.right_path) peak.right d.end d.right_fits
          (ranked_path rules ranks d.right_path peak.right d.end d.right_steps),
    )

pub decreasing : (system : System) (ranks : List ℕ) (peaks : List Peak) → IsSystem system → AreLeftLinear system.rules → AreRightLinear system.rules
    → Covers system.rules peaks → ((peak : Peak) → In peak peaks → IsDecreasing system.rules ranks peak) → IsConfluent system
decreasing system ranks peaks is_system left_linear right_linear covers close =
    confluent_system system
    (ranks_confluent (Numbered system.rules) (rank_of ranks) (Listed system.rules peaks) (family_of system is_system)
    (both_separate system.rules left_linear right_linear) (covers_by system.rules peaks covers)
    (λ i j top left right h.
    let peak : Peak = record { inner = i; outer = j; top = top; left = left; right = right } in
    sides_of system.rules ranks peak (close peak h)))
