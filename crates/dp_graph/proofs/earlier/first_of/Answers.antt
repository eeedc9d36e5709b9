use Rattle.std.proofs.Common.{ℕ, get_or}
use Rattle.std.proofs.lemmas.List.{drop_all}
use Rattle.std.proofs.lemmas.Option.{slice_get-get_or}
use Rattle.pair_theory.specs.DependencyPair.{dependency_pairs}
use Rattle.rewrite_core.specs.Check.{Check, Forbids, present, absent}
use Rattle.rewrite_core.specs.declared.checks.refusals.CheckFault.TheVariants.{Refused}
use Rattle.rewrite_core.specs.declared.checks.refusals.StepRefused.TheVariants.{EdgeBack}
use Rattle.rewrite_core.proofs.Items.{one_more_passed, item_refused, all_passed}
use Rattle.trs_defs.specs.System.{System}
use Rattle.dp_graph.specs.GraphConditions.{HasEdge}
use Rattle.dp_graph.proofs.Sets.{true_is_not_false}
use Rattle.dp_graph.proofs.earlier.first_of.Goals as goal

abbrev to_one : System → ℕ → ℕ → ℕ → Check (Unit {0})
to_one system m _ n = Forbids (HasEdge system.rules (dependency_pairs system.rules) m n) (EdgeBack m n)

pub returns-then-leads : goal.returns-then-leads
returns-then-leads c =
    let i = c.loop-n.n-index in
    let n = get_or c.args.pairs.now i 0 in
    item_refused (to_one c.args.graph.now c.args.from) c.args.pairs.now i n (Refused (EdgeBack c.args.from n)) (slice_get-get_or c.args.pairs.now i 0 c.loop-n-test.true)
    (present (c.leads.ensures.0 c.if-leads.true)) c.loop-n.invariant

pub loop-n-preserved : goal.loop-n-preserved
loop-n-preserved c =
    let i = c.loop-n.n-index in
    let n = get_or c.args.pairs.now i 0 in
    one_more_passed (to_one c.args.graph.now c.args.from) c.args.pairs.now i n (slice_get-get_or c.args.pairs.now i 0 c.loop-n-test.true)
    (absent (λ e. true_is_not_false c.leads.result (c.leads.ensures.1 e) c.if-leads.false)) c.loop-n.invariant

pub returns : goal.returns
returns c = all_passed (to_one c.args.graph.now c.args.from) c.args.pairs.now c.loop-n.n-index (drop_all c.loop-n.n-index c.args.pairs.now c.loop-n-test.false) c.loop-n.invariant
