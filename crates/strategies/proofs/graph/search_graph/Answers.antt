use Rattle.std.specs.Prelude.{◌≡◌, [], ◌∷◌}
use Rattle.std.proofs.Common.{refl, sym, ap, subst, ◌∙◌}
use Rattle.pair_theory.specs.DependencyPair.{dependency_pairs}
use Rattle.cert_step.specs.dp_graph.GroupOrSingle.{group, items_of}
use Rattle.cert_step.specs.ProofProblem as problem
use Rattle.cert_step.specs.ProofProblem.{problem_of}
use Rattle.cert_step.specs.ProofStep as step
use Rattle.strategies.specs.declared.strategy.Strategy.TheVariants as strategy
use Rattle.strategies.specs.Rows.{AreComponentsOf}
use Rattle.strategies.specs.Conditions.{graph_is_found, graph_is_not_there}
use Rattle.strategies.proofs.GraphMade.{items_made, split_by}
use Rattle.strategies.proofs.Applying.{graph_applies, finds_for, found_always, failed_for}
use Rattle.strategies.proofs.graph.search_graph.Goals as goal

pub returns-then-is_all-clause-answer : goal.returns-then-is_all-clause-answer
returns-then-is_all-clause-answer c = λ budget.
    (let all = ap items_of (sym c.deref-2.ensures.value) ∙ (c.is_all.ensures.0 c.if-is_all.true ∙ ap (λ l. group l ∷ []) (c.deref-3.ensures.value ∙ sym c.deref.ensures.value)) in
    failed_for c.args.trs.now budget strategy.Graph (problem_of c.args.problem.now) (problem.dp c.deref.result.now) _ (ap problem_of c.in-Dp.is ∙ ap (λ l. problem.dp l) (sym c.deref.ensures.value))
    (graph_is_not_there (subst (AreComponentsOf c.args.trs.now c.deref.result.now) all (subst (λ s. AreComponentsOf s c.deref.result.now (items_of c.in_ok-items.items.items)) (c.get.ensures ∙ (c.in_ok-graph.ensures.graph ∙ c.requires.prepared)) c.in_ok-items.ensures))))

pub leaving-requires-clause-step : goal.leaving-requires-clause-step
leaving-requires-clause-step c =
    let same = c.put_graph.ensures ∙ (c.take_graph.ensures.system ∙ c.requires.prepared) in
    let are = subst (λ s. AreComponentsOf s c.deref.result.now (items_of c.in_ok-items.items.items)) (c.get.ensures ∙ (c.in_ok-graph.ensures.graph ∙ c.requires.prepared)) c.in_ok-items.ensures in
    let split : (items_of c.in_ok-items.items.items) ≡ group c.deref.result.now ∷ [] → ⊥ = λ e.
    split_by c.is_all.result c.if-is_all.false
    (c.is_all.ensures.1 (ap items_of c.deref-2.ensures.value ∙ (e ∙ ap (λ l. group l ∷ []) (c.deref.ensures.value ∙ sym c.deref-3.ensures.value)))) in
    (finds_for c.put_graph.new.self c.args.trs.now 0 strategy.Graph (problem_of c.args.problem.now) (problem.dp c.deref.result.now) (step.graph (items_of c.in_ok-items.items.items))
    (step.graph (items_of c.in_ok-items.items.items)) same (ap problem_of c.in-Dp.is ∙ ap (λ l. problem.dp l) (sym c.deref.ensures.value)) refl (record {
      finds = graph_is_found (record { components = are; split = split });
      made = items_made c.args.trs.now.rules (dependency_pairs c.args.trs.now.rules) c.deref.result.now (items_of c.in_ok-items.items.items) are.components;
      applies = graph_applies c.args.trs.now c.deref.result.now (items_of c.in_ok-items.items.items) c.components_pass.ensures are;
    })).made

pub leaving-requires-clause-applies : goal.leaving-requires-clause-applies
leaving-requires-clause-applies c =
    let same = c.put_graph.ensures ∙ (c.take_graph.ensures.system ∙ c.requires.prepared) in
    let are = subst (λ s. AreComponentsOf s c.deref.result.now (items_of c.in_ok-items.items.items)) (c.get.ensures ∙ (c.in_ok-graph.ensures.graph ∙ c.requires.prepared)) c.in_ok-items.ensures in
    let split : (items_of c.in_ok-items.items.items) ≡ group c.deref.result.now ∷ [] → ⊥ = λ e.
    split_by c.is_all.result c.if-is_all.false
    (c.is_all.ensures.1 (ap items_of c.deref-2.ensures.value ∙ (e ∙ ap (λ l. group l ∷ []) (c.deref.ensures.value ∙ sym c.deref-3.ensures.value)))) in
    (finds_for c.put_graph.new.self c.args.trs.now 0 strategy.Graph (problem_of c.args.problem.now) (problem.dp c.deref.result.now) (step.graph (items_of c.in_ok-items.items.items))
    (step.graph (items_of c.in_ok-items.items.items)) same (ap problem_of c.in-Dp.is ∙ ap (λ l. problem.dp l) (sym c.deref.ensures.value)) refl (record {
      finds = graph_is_found (record { components = are; split = split });
      made = items_made c.args.trs.now.rules (dependency_pairs c.args.trs.now.rules) c.deref.result.now (items_of c.in_ok-items.items.items) are.components;
      applies = graph_applies c.args.trs.now c.deref.result.now (items_of c.in_ok-items.items.items) c.components_pass.ensures are;
    })).applies

pub returns-clause-answer : goal.returns-clause-answer
returns-clause-answer c =
    let same = c.put_graph.ensures ∙ (c.take_graph.ensures.system ∙ c.requires.prepared) in
    let are = subst (λ s. AreComponentsOf s c.deref.result.now (items_of c.in_ok-items.items.items)) (c.get.ensures ∙ (c.in_ok-graph.ensures.graph ∙ c.requires.prepared)) c.in_ok-items.ensures in
    let split : (items_of c.in_ok-items.items.items) ≡ group c.deref.result.now ∷ [] → ⊥ = λ e.
    split_by c.is_all.result c.if-is_all.false
    (c.is_all.ensures.1 (ap items_of c.deref-2.ensures.value ∙ (e ∙ ap (λ l. group l ∷ []) (c.deref.ensures.value ∙ sym c.deref-3.ensures.value)))) in
    found_always c.put_graph.new.self c.args.trs.now strategy.Graph (problem_of c.args.problem.now) (step.graph (items_of c.in_ok-items.items.items)) c.leaving.result
    same (λ budget. (finds_for c.args.trs.now c.args.trs.now budget strategy.Graph (problem_of c.args.problem.now) (problem.dp c.deref.result.now) (step.graph (items_of c.in_ok-items.items.items))
    (step.graph (items_of c.in_ok-items.items.items)) refl (ap problem_of c.in-Dp.is ∙ ap (λ l. problem.dp l) (sym c.deref.ensures.value)) refl (record {
      finds = graph_is_found (record { components = are; split = split });
      made = items_made c.args.trs.now.rules (dependency_pairs c.args.trs.now.rules) c.deref.result.now (items_of c.in_ok-items.items.items) are.components;
      applies = graph_applies c.args.trs.now c.deref.result.now (items_of c.in_ok-items.items.items) c.components_pass.ensures are;
    })).finds) c.leaving.ensures.is_true
