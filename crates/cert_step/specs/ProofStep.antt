-- The steps of a proof, and the kind of each.
use Rattle.std.specs.Prelude.{ℕ, List}
use Rattle.trs_defs.specs.Tree.{Tree}
use Rattle.trs_defs.specs.System.{System}
use Rattle.trs_defs.specs.Path.{PlacedRule}
use Rattle.trs_core.specs.View.{tree}
use Rattle.rewrite_core.specs.declared.checks.forks.ForkTest.{ForkTest}
use Rattle.rewrite_core.specs.PathsOfJoin.{PathsOfJoin}
use Rattle.rule_label.specs.closed_pairs.ParallelClosed.{paths_of}
use Rattle.rule_label.specs.closed_pairs.StronglyClosed.{FourPaths}
use Rattle.dp_graph.specs.GroupOrSingle.{GroupOrSingle, items_of}
use Rattle.path_lpo.specs.Table.{PathEntry}
use Rattle.kbo_order.specs.declared.entries.KboEntry.{KboEntry}
use Rattle.dp_graph.specs.dp_core.PairConditions.{Comparing}
use Rattle.cert_step.specs.declared.any_order.AnyOrder.{AnyOrder}
use Rattle.cert_step.specs.declared.any_order.AnyOrder.TheVariants as order
use Rattle.cert_step.specs.declared.step.Step.{Step}
use Rattle.cert_step.specs.declared.step.Step.TheVariants as code
use Rattle.cert_step.specs.declared.step.NodeStep.{NodeStep}
use Rattle.cert_step.specs.Kind.{Kind}
use Rattle.cert_step.specs.DpKind.{dp_kind}
use Rattle.cert_step.specs.GraphKind.{graph_kind}
use Rattle.cert_step.specs.SubtermKind.{subterm_kind}
use Rattle.cert_step.specs.PolyKind.{poly_comparing, poly_kind}
use Rattle.cert_step.specs.LpoKind.{lpo_comparing, lpo_kind}
use Rattle.cert_step.specs.KboKind.{kbo_comparing, kbo_kind}
use Rattle.cert_step.specs.UsableKind.{usable_kind}
use Rattle.cert_step.specs.LoopKind.{loop_kind}
use Rattle.cert_step.specs.NewmanKind.{newman_kind}
use Rattle.cert_step.specs.ParallelKind.{parallel_kind}
use Rattle.cert_step.specs.StrongKind.{strong_kind}
use Rattle.cert_step.specs.LabelKind.{label_kind}
use Rattle.cert_step.specs.ForkKind.{fork_kind}
use Rattle.cert_step.specs.ConfluenceKind.{confluence_kind}

pub data ProofStep : Type 0 where
  dp : ProofStep
  graph : (items : List GroupOrSingle) → ProofStep
  subterm : (projection : List (ℕ × ℕ)) → ProofStep
  poly : (entries : List (ℕ × List ℕ)) → ProofStep
  lpo : (entries : List PathEntry) → ProofStep
  kbo : (entries : List KboEntry) → ProofStep
  usable_poly : (entries : List (ℕ × List ℕ)) → ProofStep
  loop : (start : Tree) (path : List PlacedRule) (place : List ℕ) → ProofStep
  newman : (items : List PathsOfJoin) → ProofStep
  parallel : (items : List (List PlacedRule)) → ProofStep
  strong : (items : List FourPaths) → ProofStep
  label : (ranks : List ℕ) (items : List PathsOfJoin) → ProofStep
  fork : (start : Tree) (left right : List PlacedRule) (test : ForkTest) → ProofStep
  confluence : ProofStep

abbrev pub order_step : AnyOrder → ProofStep
order_step (order.Poly table) = poly table
order_step (order.Lpo path) = lpo path
order_step (order.Kbo knuth) = kbo knuth.entries.items

-- how the order compares
abbrev pub comparing_of : AnyOrder → Comparing
comparing_of (order.Poly table) = poly_comparing table
comparing_of (order.Lpo path) = lpo_comparing path
comparing_of (order.Kbo knuth) = kbo_comparing knuth.entries.items

abbrev pub step_of : Step → ProofStep
step_of code.Dp = dp
step_of (code.Graph items) = graph (items_of items.items)
step_of (code.Subterm projection) = subterm projection.items
step_of (code.Order any) = order_step any
step_of (code.UsablePoly table) = usable_poly table
step_of (code.Loop start path place) = loop (tree start) path.items place
step_of (code.Newman joins) = newman joins.items
step_of (code.Parallel paths) = parallel (paths_of paths.items)
step_of (code.Strong fours) = strong fours.items
step_of (code.Label ranks joins) = label ranks.items joins.items
step_of (code.Fork start left right test) = fork (tree start) left.items right.items test
step_of code.Confluence = confluence

abbrev pub kind_of : ProofStep → Kind
kind_of dp = dp_kind
kind_of (graph items) = graph_kind items
kind_of (subterm projection) = subterm_kind projection
kind_of (poly entries) = poly_kind entries
kind_of (lpo entries) = lpo_kind entries
kind_of (kbo entries) = kbo_kind entries
kind_of (usable_poly entries) = usable_kind entries
kind_of (loop start path place) = loop_kind start path place
kind_of (newman items) = newman_kind items
kind_of (parallel items) = parallel_kind items
kind_of (strong items) = strong_kind items
kind_of (label ranks items) = label_kind ranks items
kind_of (fork start left right test) = fork_kind start left right test
kind_of confluence = confluence_kind

-- a step for the problem of a node
pub record ProofNodeStep : Type 0 where
  pub node : ℕ
  pub step : ProofStep

abbrev pub node_step_of : NodeStep → ProofNodeStep
node_step_of s = record { node = s.node; step = step_of s.step }

abbrev pub IsWellMade : System → ProofStep → Type 0
IsWellMade system s = (kind_of s).is_well_made system
