-- What the strategy strong finds meets the conditions on strongly joined peaks.
use Rattle.std.specs.Prelude.{◌≡◌, ◌≤◌, ℕ, List, ◌∷◌, Ok, length, refl}
use Rattle.std.proofs.Common.{arith, inl, inr, ap, sym, subst}
use Rattle.trs_defs.specs.Member.{In}
use Rattle.trs_defs.specs.Tree.{Tree}
use Rattle.trs_defs.specs.System.{System, RewriteRule}
use Rattle.trs_defs.specs.Path.{PlacedRule, Follows}
use Rattle.trs_defs.proofs.Members.{in_or, no_in}
use Rattle.term_pool.specs.Listed.{Listed}
use Rattle.term_pool.specs.Reach.{AreReducts, no_step, kept, left_out}
use Rattle.term_pool.proofs.FollowLaws.{reducts_follow}
use Rattle.term_pool.proofs.ReachLaws.{paths_lead}
use Rattle.rewrite_core.specs.Check.{goes_on, holds}
use Rattle.rewrite_core.specs.PathCheck.{followed}
use Rattle.rewrite_core.specs.PlacedPeak.{PlacedPeak}
use Rattle.rewrite_core.specs.PathsOfJoin.{PathsOfJoin}
use Rattle.closed_pairs.specs.crit_pairs.PeakList.{ListsPeaks}
use Rattle.closed_pairs.specs.crit_pairs.PeaksCheck.{listed}
use Rattle.closed_pairs.specs.StronglyClosed.{FourPaths, half_joins, joins_strongly, strong_conditions}
use Rattle.join_find.specs.StrongRow.{IsNearList, itself, IsFirstHalf, IsFirstFour, FindsStrong}
use Rattle.join_find.proofs.Firsts.{first_in_list}
use Rattle.join_find.proofs.LinearRules.{linear_rules_pass}
use Rattle.join_find.proofs.NewmanLaw.{along_length, along_each}

reducts_short : (rules : List RewriteRule) (size : ℕ) (t : Tree) {ss : List PlacedRule} {cs : List Listed} → AreReducts rules size (itself t) ss cs → (e : Listed) → In e cs → length e.path ≤ 1
reducts_short rules size t no_step e i = absurd (no_in i)
reducts_short rules size t (kept step small rest) e i = elim (in_or i) [
  | inl same ↦ (let one : length e.path ≡ 1 = ap (λ (x : Listed). length x.path) same in omega (arith, one))
  | inr later ↦ reducts_short rules size t rest e later
]
reducts_short rules size t (left_out step large rest) e i = reducts_short rules size t rest e i

-- the path to a near term has at most one step, and is followed
near_leads : (rules : List RewriteRule) (t : Tree) (es : List Listed) → IsNearList rules t es → (e : Listed) → In e es → (length e.path ≤ 1) × Follows rules e.path t e.term
near_leads rules t es h e i =
    let there : In e (itself t ∷ h.reducts) = subst (λ xs. In e xs) h.listed i in
    elim (in_or there) [
      | inl same ↦
          let P : Listed → Type 0 = λ x. (length x.path ≤ 1) × Follows rules x.path t x.term in
          subst P (sym same) (omega arith, refl)
      | inr later ↦ (reducts_short rules 65536 t h.are_reducts e later, reducts_follow rules 65536 t (itself t) h.are_reducts refl e later)
    ]

half_passes : (rules : List RewriteRule) (n i j : ℕ) (from to : Tree) (paths : PathsOfJoin) → IsFirstHalf rules from to paths → half_joins rules n from paths.left i to paths.right j (Ok tt)
half_passes rules n i j from to paths h =
    let end = h.common.term in
    let long : Follows rules paths.left from end = paths_lead rules from 16 256 4096 h.reached h.from_there (record { term = end; path = paths.left }) (first_in_list h.common.first_left) in
    let short = near_leads rules to h.near h.to_there (record { term = end; path = paths.right }) (first_in_list h.common.first_right) in
    goes_on tt (Ok tt) (holds short.0) (goes_on end (Ok tt) (followed end long) (goes_on end (Ok tt) (followed end short.1) (holds refl)))

four_passes : (rules : List RewriteRule) (n : ℕ) (peak : PlacedPeak) (four : FourPaths) → IsFirstFour rules peak four → joins_strongly rules n peak four (Ok tt)
four_passes rules n peak four h =
    goes_on tt (Ok tt) (half_passes rules n 0 1 peak.left peak.right (record { left = four.left_u; right = four.right_u }) h.from_left)
    (half_passes rules n 2 3 peak.right peak.left (record { left = four.right_v; right = four.left_v }) h.from_right)

pub found_fours_meet : (system : System) (peaks : List PlacedPeak) (items : List FourPaths) → ListsPeaks system.rules (Ok peaks) → FindsStrong system.rules peaks items
    → strong_conditions system items (Ok tt)
found_fours_meet system peaks items critical found =
    goes_on tt (Ok tt) (linear_rules_pass system.rules found.linear) (goes_on peaks (Ok tt) (listed peaks critical)
    (goes_on tt (Ok tt) (holds (along_length found.joined)) (along_each (λ n item. joins_strongly system.rules n item.0 item.1) (λ n peak four h. four_passes system.rules n peak four h) 0 found.joined)))
