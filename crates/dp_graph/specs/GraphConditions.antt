-- The conditions of a step by the estimated dependency graph. (Arts and Giesl, 2000; Giesl, Thiemann and
-- Schneider-Kamp, 2005.)
use Rattle.std.specs.Prelude.{◌≡◌, ℕ, List, [], Some, map, Vec, slice_get}
use Rattle.std.specs.declared.alloc.Global.{Global}
use Rattle.trs_defs.specs.Member.{In}
use Rattle.trs_defs.specs.System.{RewriteRule}
use Rattle.pair_theory.specs.DependencyPair.{DependencyPair}
use Rattle.rewrite_core.specs.declared.checks.refusals.StepRefused.TheVariants.{Member, Missing, EdgeBack, SelfEdge}
use Rattle.rewrite_core.specs.Check.{Check, Returns, Needs, Forbids, ForbidsAny, each, each_after, ◌>>◌}
use Rattle.dp_graph.specs.Edge.{IsEdge}
use Rattle.dp_graph.specs.GroupOrSingle.{GroupOrSingle, members_of, all_members, groups_of, singles_of}

-- an edge leads from pair number m to pair number n
pub record HasEdge (rules : List RewriteRule) (all : List DependencyPair) (m n : ℕ) : Type 0 where
  pub from : DependencyPair
  pub to : DependencyPair
  pub from_numbered : slice_get all m ≡ Some from
  pub to_numbered : slice_get all n ≡ Some to
  pub edge : IsEdge rules from to

-- each of these members is a pair of the problem, and is not named before
abbrev pub are_new : List ℕ → List ℕ → List ℕ → Check (Unit {0})
are_new numbers before members = each_after (λ before n. Needs (In n numbers × (In n before → ⊥)) (Member n)) before members

abbrev pub are_members : List ℕ → List ℕ → Check (Unit {0})
are_members numbers members = are_new numbers [] members

-- each pair of the problem is a member; the least that is not is named
abbrev pub none_is_missing : List ℕ → List ℕ → Check (Unit {0})
none_is_missing numbers members = ForbidsAny (λ n. In n numbers × (In n members → ⊥)) Missing

-- no edge leads from pair number m to one of these pairs
abbrev pub leads_to_none : List RewriteRule → List DependencyPair → ℕ → List ℕ → Check (Unit {0})
leads_to_none rules all m ns = each (λ _ n. Forbids (HasEdge rules all m n) (EdgeBack m n)) 0 ns

-- no edge leads from one of these pairs to one of those
abbrev pub lead_to_none : List RewriteRule → List DependencyPair → List ℕ → List ℕ → Check (Unit {0})
lead_to_none rules all ms ns = each (λ _ m. leads_to_none rules all m ns) 0 ms

-- no edge leads from an item to an earlier one
abbrev pub lead_onward : List RewriteRule → List DependencyPair → List GroupOrSingle → Check (Unit {0})
lead_onward rules all items =
    each_after (λ before item. lead_to_none rules all (members_of item) (all_members before)) [] items

-- no edge leads from one of these pairs to itself
abbrev pub have_no_self_edge : List RewriteRule → List DependencyPair → List ℕ → Check (Unit {0})
have_no_self_edge rules all members = each (λ _ n. Forbids (HasEdge rules all n n) (SelfEdge n)) 0 members

-- each pair of the problem is in one item, no edge leads back or from a single pair to itself; the value is the groups
abbrev pub graph_conditions : List RewriteRule → List DependencyPair → List ℕ → List GroupOrSingle → Check (List (List ℕ))
graph_conditions rules all numbers items = do
  are_members numbers (all_members items)
  none_is_missing numbers (all_members items)
  lead_onward rules all items
  have_no_self_edge rules all (singles_of items)
  Returns (groups_of items)

-- groups as the code has them
abbrev pub lists_of : List (Vec ℕ Global) → List (List ℕ)
lists_of groups = map (λ g. g.items) groups
