-- The test of an edge by a cap that is at hand.
use Rattle.std.proofs.Common.{◌≡◌, ◌↔◌, Bool, false, List, IsTrue, sym, subst}
use Rattle.trs_defs.specs.Tree.{Tree}
use Rattle.trs_defs.specs.System.{RewriteRule, System}
use Rattle.trs_caps.specs.HoledTree.{HoledTree}
use Rattle.trs_caps.specs.HoledCap.{MeetsLeft, IsHoledCap}
use Rattle.pair_theory.specs.Marked.{mark}
use Rattle.pair_theory.specs.DependencyPair.{DependencyPair}
use Rattle.dp_graph.specs.Edge.{IsEdge}
use Rattle.trs_caps.proofs.Fitting.{one_cap}

module _ (c : HoledTree) (l : Tree) (rules : List RewriteRule) (p q : DependencyPair) (cap : IsHoledCap rules false (mark p.to) c) (left : l ≡ mark q.from) where
  edge_of : MeetsLeft c l → IsEdge rules p q
  edge_of meets = (c, cap, subst (MeetsLeft c) left meets)

  meets_of : IsEdge rules p q → MeetsLeft c l
  meets_of (d, cap', meets) = subst (λ z. MeetsLeft z l) (one_cap rules false cap' cap) (subst (MeetsLeft d) (sym left) meets)

  pub edge_if_meets : (b : Bool) → IsTrue b ↔ MeetsLeft c l → IsTrue b ↔ IsEdge rules p q
  edge_if_meets b (there, back) = (λ h. edge_of (there h), λ e. back (meets_of e))

-- the cap that the table of rules gives is that of the system's rules
pub same_cap : (table system : System) (t m : Tree) (c : HoledTree) → table ≡ system → t ≡ m → IsHoledCap table.rules false t c → IsHoledCap system.rules false m c
same_cap table system t m c e is cap = subst (λ z. IsHoledCap system.rules false z c) is (subst (λ z. IsHoledCap z.rules false t c) e cap)
