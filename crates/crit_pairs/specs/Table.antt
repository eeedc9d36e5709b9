-- The critical peaks of some rules as pairs of ids, with a list for each position of a symbol in a left side.
use Rattle.std.specs.Prelude.{◌≡◌, ◌≤◌, ℕ, ◌+◌, List, [], ◌∷◌, ◌++◌, Ok, IsTrue, flat_map}
use Rattle.std.specs.Global.{Vec}
use Rattle.trs_defs.specs.Tree.{Tree}
use Rattle.trs_defs.specs.System.{RewriteRule}
use Rattle.term_pool.specs.Pooled.{StandsFor}
use Rattle.rewrite_core.specs.PlacedPeak.{PlacedPeak}
use Rattle.crit_pairs.specs.PeakList.{Spot, symbol_places, spots_at, OverlapsAt, IsPeakAt, is_small, nodes_of_peak, ListsPeaks}
use Rattle.crit_pairs.specs.Prepared.{ArePrepared}
use Rattle.crit_pairs.specs.GroundSides.{AreGroundRights}
use Rattle.crit_pairs.specs.declared.table.PeakPair.{PeakPair}
use Rattle.crit_pairs.specs.declared.table.PeakTable.{PeakTable}

-- a position in the left side of the outer rule
pub record Site : Type 0 where
  pub outer : ℕ
  pub place : List ℕ

abbrev pub site : ℕ → List ℕ → Site
site j p = record { outer = j; place = p }

abbrev pub sites_of : ℕ → List (List ℕ) → List Site
sites_of j [] = []
sites_of j (p ∷ places) = site j p ∷ sites_of j places

abbrev pub sites_from : ℕ → List RewriteRule → List Site
sites_from j [] = []
sites_from j (rule ∷ rest) = sites_of j (symbol_places rule.left) ++ sites_from (j + 1) rest

-- all of them: by outer rule, then by position in preorder
abbrev pub sites : List RewriteRule → List Site
sites rules = sites_from 0 rules

-- the critical peaks at the spots, in order; each keeps the limits on computed terms
pub data PeaksAt (rules : List RewriteRule) : List Spot → List PlacedPeak → Type 0 where
  no_spot : PeaksAt rules [] []
  no_peak : {s : Spot} {rest : List Spot} {ps : List PlacedPeak} → (OverlapsAt rules s → ⊥) → PeaksAt rules rest ps → PeaksAt rules (s ∷ rest) ps
  a_peak : {s : Spot} {p : PlacedPeak} {rest : List Spot} {ps : List PlacedPeak} → IsPeakAt rules s p → IsTrue (is_small p)
      → PeaksAt rules rest ps → PeaksAt rules (s ∷ rest) (p ∷ ps)

abbrev pub nodes_of_peaks : List PlacedPeak → ℕ
nodes_of_peaks [] = 0
nodes_of_peaks (p ∷ ps) = nodes_of_peak p + nodes_of_peaks ps

-- the ids stand for the two results of the peak
abbrev pub IsPair : List Tree → PeakPair → PlacedPeak → Type 0
IsPair pool pair p = StandsFor pool pair.left p.left × StandsFor pool pair.right p.right

pub data ArePairs (pool : List Tree) : List PeakPair → List PlacedPeak → Type 0 where
  no_pair : ArePairs pool [] []
  one_pair : {x : PeakPair} {xs : List PeakPair} {p : PlacedPeak} {ps : List PlacedPeak} → IsPair pool x p → ArePairs pool xs ps
      → ArePairs pool (x ∷ xs) (p ∷ ps)

-- each site has a list of the pairs of its peaks with these inner rules, which are the first ones; these are all the peaks
pub data HoldPairs (rules : List RewriteRule) (pool : List Tree) (inner : List RewriteRule) : List Site → List (Vec PeakPair) → List PlacedPeak → Type 0 where
  no_site : HoldPairs rules pool inner [] [] []
  one_site : {s : Site} {rest : List Site} {list : Vec PeakPair} {lists : List (Vec PeakPair)} {ps qs : List PlacedPeak}
      → PeaksAt rules (spots_at s.outer s.place 0 inner) ps → ArePairs pool list.items ps → HoldPairs rules pool inner rest lists qs
      → HoldPairs rules pool inner (s ∷ rest) (list ∷ lists) (ps ++ qs)

-- the pairs in the order of the peaks
abbrev pub pairs_of : List (Vec PeakPair) → List PeakPair
pairs_of lists = flat_map (λ (list : Vec PeakPair). list.items) lists

-- the table has the critical peaks of these rules
pub record HasPeaks (rules : List RewriteRule) (pool : List Tree) (table : PeakTable) : Type 0 where
  pub prepared : ArePrepared rules table.prepared
  pub rights : AreGroundRights rules pool table.rights.items
  pub peaks : List PlacedPeak
  pub held : HoldPairs rules pool rules (sites rules) table.lists.items peaks
  pub nodes : table.nodes ≡ nodes_of_peaks peaks
  pub few : table.nodes ≤ 4194304

-- the table has the critical peaks of the first of these rules
pub record HasFirstPeaks (rules : List RewriteRule) (pool : List Tree) (table : PeakTable) : Type 0 where
  pub first : List RewriteRule
  pub more : List RewriteRule
  pub are : rules ≡ first ++ more
  pub has : HasPeaks first pool table

-- the pairs are those of all critical peaks, in the order of their list
pub record AreAllPairs (rules : List RewriteRule) (pool : List Tree) (pairs : List PeakPair) : Type 0 where
  pub peaks : List PlacedPeak
  pub lists : ListsPeaks rules (Ok peaks)
  pub stand : ArePairs pool pairs peaks
