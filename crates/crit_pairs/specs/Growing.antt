-- Lists of pairs that grow, site by site.
use Rattle.std.specs.Prelude.{◌≡◌, ◌≤◌, ℕ, ◌+◌, ◌⊎◌, List, [], ◌∷◌, ◌++◌, Some, map, take, length, slice_get, slice_set}
use Rattle.std.specs.Global.{Vec}
use Rattle.trs_defs.specs.Tree.{Tree}
use Rattle.trs_defs.specs.System.{RewriteRule}
use Rattle.rewrite_core.specs.PlacedPeak.{PlacedPeak}
use Rattle.crit_pairs.specs.PeakList.{Spot, symbol_places, spots_at, nodes_of_peak}
use Rattle.crit_pairs.specs.Table.{Site, site, sites_of, sites, PeaksAt, nodes_of_peaks, IsPair, ArePairs, HoldPairs}
use Rattle.crit_pairs.specs.declared.table.PeakPair.{PeakPair}
use Rattle.crit_pairs.specs.declared.growing.Growth.{Growth}

-- there are no inner rules so far, and no lists
abbrev pub IsNotBegun : List RewriteRule → List (Vec PeakPair) → List PlacedPeak → Type 0
IsNotBegun inner lists peaks = (inner ≡ []) × (lists ≡ []) × (peaks ≡ [])

-- the sites have lists for these inner rules; or there are neither
abbrev pub Await : List RewriteRule → List Tree → List RewriteRule → List Site → List (Vec PeakPair) → List PlacedPeak → Type 0
Await rules pool inner left lists peaks = HoldPairs rules pool inner left lists peaks ⊎ IsNotBegun inner lists peaks

-- of all sites those that are done have the pairs of all inner rules, and those that are left the pairs of the first ones, so
-- many; there are others after these
pub record IsGrown (rules : List RewriteRule) (from : ℕ) (pool : List Tree) (growth : Growth) (left after : List Site) : Type 0 where
  pub done : List Site
  pub before : List (Vec PeakPair)
  pub behind : List (Vec PeakPair)
  pub made : List PlacedPeak
  pub later : List PlacedPeak
  pub whole : done ++ (left ++ after) ≡ sites rules
  pub lists : growth.lists.items ≡ before ++ behind
  pub held : HoldPairs rules pool rules done before made
  pub awaited : Await rules pool (take from rules) left behind later
  pub count : growth.done ≡ length before
  pub nodes : growth.nodes ≡ nodes_of_peaks made + nodes_of_peaks later
  pub few : growth.nodes ≤ 4194304

-- the same, and the first site that is left has the pairs of so many inner rules
pub record IsAtSite (rules : List RewriteRule) (inner from : ℕ) (pool : List Tree) (growth : Growth) (s : Site) (left after : List Site) : Type 0 where
  pub done : List Site
  pub before : List (Vec PeakPair)
  pub list : Vec PeakPair
  pub behind : List (Vec PeakPair)
  pub made : List PlacedPeak
  pub here : List PlacedPeak
  pub later : List PlacedPeak
  pub whole : done ++ s ∷ (left ++ after) ≡ sites rules
  pub lists : growth.lists.items ≡ before ++ list ∷ behind
  pub held : HoldPairs rules pool rules done before made
  pub peaks : PeaksAt rules (spots_at s.outer s.place 0 (take inner rules)) here
  pub pairs : ArePairs pool list.items here
  pub awaited : Await rules pool (take from rules) left behind later
  pub count : growth.done ≡ length before
  pub nodes : growth.nodes ≡ nodes_of_peaks made + (nodes_of_peaks here + nodes_of_peaks later)
  pub few : growth.nodes ≤ 4194304

-- the list of the site at hand gets the pair of a peak at the spots
pub record AddsOne (rules : List RewriteRule) (spots : List Spot) (pool : List Tree) (growth : Growth) (next : List Tree) (grown : Growth) : Type 0 where
  pub peak : PlacedPeak
  pub pair : PeakPair
  pub old : Vec PeakPair
  pub new : Vec PeakPair
  pub at : PeaksAt rules spots (peak ∷ [])
  pub stands : IsPair next pair peak
  pub there : slice_get growth.lists.items growth.done ≡ Some old
  pub put : new.items ≡ old.items ++ pair ∷ []
  pub lists : grown.lists.items ≡ slice_set growth.lists.items growth.done new
  pub nodes : grown.nodes ≡ growth.nodes + nodes_of_peak peak
  pub few : grown.nodes ≤ 4194304

-- no peak is at the spots, and the pool and the lists stay as they are
abbrev pub AddsNone : List RewriteRule → List Spot → List Tree → Growth → List Tree → Growth → Type 0
AddsNone rules spots pool growth next grown = PeaksAt rules spots [] × (next ≡ pool) × (grown.lists.items ≡ growth.lists.items) × (grown.nodes ≡ growth.nodes)

abbrev pub AddsPeaks : List RewriteRule → List Spot → List Tree → Growth → List Tree → Growth → Type 0
AddsPeaks rules spots pool growth next grown = AddsNone rules spots pool growth next grown ⊎ AddsOne rules spots pool growth next grown

-- the site is done
abbrev pub GrowsAt : List RewriteRule → ℕ → ℕ → List ℕ → List Tree → Growth → List Tree → Growth → Type 0
GrowsAt rules from j p pool growth next grown =
    (left after : List Site) → IsGrown rules from pool growth (site j p ∷ left) after → IsGrown rules from next grown left after

-- the sites of rule number j at the position and below it, where the part stands
abbrev pub sites_in : ℕ → List ℕ → Tree → List Site
sites_in j p part = sites_of j (map (λ q. p ++ q) (symbol_places part))

-- some sites are done
abbrev pub GrowsBy : List RewriteRule → ℕ → List Site → List Tree → Growth → List Tree → Growth → Type 0
GrowsBy rules from some pool growth next grown =
    (left after : List Site) → IsGrown rules from pool growth (some ++ left) after → IsGrown rules from next grown left after
