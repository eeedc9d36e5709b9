-- Where an entry leads from a state to a later one, the renumbered entry leads from the renumbered state to the renumbered later one.
use Rattle.std.proofs.Common.{◌≡◌, inl, inr, ℕ, zero, suc, List, [], ◌∷◌, ◌++◌, map, length, set, Some, refl, sym, ap, ◌∙◌, subst}
use Rattle.std.proofs.lemmas.List.{length-map, map-append}
use Rattle.trs_defs.specs.System.{System}
use Rattle.conclusion.specs.report_text.strategies.cert_step.ProofProblem.{ProofProblem}
use Rattle.conclusion.specs.report_text.strategies.cert_step.ProofStep as step
use Rattle.conclusion.specs.report_text.strategies.cert_step.ProofStep.{ProofStep}
use Rattle.conclusion.specs.report_text.strategies.cert_step.Applies.{Applies}
use Rattle.conclusion.specs.report_text.strategies.declared.strategy.Strategy.{Strategy}
use Rattle.conclusion.specs.report_text.strategies.Runs as strategy
use Rattle.conclusion.specs.report_text.strategies.Runs.{Found}
use Rattle.conclusion.specs.tree_definitions.declared.mark.Mark.{Mark}
use Rattle.conclusion.specs.tree_definitions.declared.mark.Mark.TheVariants.{Idle}
use Rattle.conclusion.specs.tree_definitions.declared.ticket.Ticket.{Ticket}
use Rattle.conclusion.specs.tree_definitions.History.{Event, claimed, found, failed, cancelled, aborted}
use Rattle.conclusion.specs.tree_definitions.States.{TreeNode, State, Decided, new_node, marked}
use Rattle.conclusion.specs.tree_definitions.Verdicts.{IsFirstWinner}
use Rattle.conclusion.specs.tree_definitions.Events.{Claims, RunsAt, IsOver, Decides, EndsLate, Follows, with_claim, without, ended, nodes_with}
use Rattle.conclusion.specs.tree_definitions.Replies.{event_of_found}
use Rattle.conclusion.specs.worker_pool.Serial.{entry_of}
use Rattle.conclusion.proofs.InOrder.{applies_in_order}
use Rattle.text_determinism.specs.AnswerLaws.{renumbered}
use Rattle.text_determinism.proofs.Renumbering.{renumbered_decided, renumbered_node, renumbered_nodes, renumbered_state, there_again, done_before, over_again, over_before, first_again, free_again, some_free_before}

abbrev pub renumbered_event : Event → Event
renumbered_event (claimed problem strategy) = claimed problem strategy
renumbered_event (found step) = found (renumbered step)
renumbered_event (failed failure) = failed failure
renumbered_event cancelled = cancelled
renumbered_event aborted = aborted

-- ---- a step that applies does so renumbered

pub applies_again : (system : System) (p : ProofProblem) (s : ProofStep) (left : List ProofProblem) → Applies system p s left
    → Applies system p (renumbered s) left
applies_again system p (step.loop start path place) left h = applies_in_order system p (step.loop start path place) left tt h
applies_again system p step.dp left h = h
applies_again system p (step.graph items) left h = h
applies_again system p (step.subterm projection) left h = h
applies_again system p (step.poly entries) left h = h
applies_again system p (step.lpo entries) left h = h
applies_again system p (step.kbo entries) left h = h
applies_again system p (step.usable_poly entries) left h = h
applies_again system p (step.newman items) left h = h
applies_again system p (step.parallel items) left h = h
applies_again system p (step.strong items) left h = h
applies_again system p (step.label ranks items) left h = h
applies_again system p (step.fork start l r test) left h = h
applies_again system p step.confluence left h = h

-- ---- nodes that are written

map_set : (nodes : List TreeNode) (n : ℕ) (x : TreeNode) → renumbered_nodes (set nodes n x) ≡ set (renumbered_nodes nodes) n (renumbered_node x)
map_set [] n x = refl
map_set (y ∷ nodes) zero x = refl
map_set (y ∷ nodes) (suc n) x = ap (λ ys. renumbered_node y ∷ ys) (map_set nodes n x)

new_again : (goal : ℕ) (left : List ProofProblem) → renumbered_nodes (map (new_node goal) left) ≡ map (new_node goal) left
new_again goal [] = refl
new_again goal (p ∷ left) = ap (λ ys. new_node goal p ∷ ys) (new_again goal left)

claim_again : (s : State) (seat n place : ℕ) (node : TreeNode)
    → renumbered_state (with_claim s seat n place node) ≡ with_claim (renumbered_state s) seat n place (renumbered_node node)
claim_again s seat n place node =
    ap (λ (ns : List TreeNode). record (with_claim (renumbered_state s) seat n place (renumbered_node node)) { nodes = ns }) (map_set s.nodes n _)

ended_again : (s : State) (number : ℕ) (t : Ticket) (node : TreeNode) (mark : Mark)
    → renumbered_state (ended s number t node mark) ≡ ended (renumbered_state s) number t (renumbered_node node) mark
ended_again s number t node mark =
    ap (λ (ns : List TreeNode). record (ended (renumbered_state s) number t (renumbered_node node) mark) { nodes = ns })
    (map_set s.nodes t.node (marked node t.place mark))

with_again : (s : State) (t : Ticket) (node : TreeNode) (step : ProofStep) (left : List ProofProblem)
    → renumbered_nodes (nodes_with s t node step left) ≡ nodes_with (renumbered_state s) t (renumbered_node node) (renumbered step) left
with_again s t node step left =
    let d : ℕ → Decided = λ first. record { step = step; first = first; count = length left } in
    let x : TreeNode = record (marked node t.place Idle) { decision = Some (d (length s.nodes)) } in
    let shut : ℕ → TreeNode = λ first. record (marked (renumbered_node node) t.place Idle) { decision = Some (renumbered_decided (d first)) } in
    map-append renumbered_node (set s.nodes t.node x) (map (new_node node.goal) left)
    ∙ ap (λ ys. renumbered_nodes (set s.nodes t.node x) ++ ys) (new_again node.goal left)
    ∙ ap (λ xs. xs ++ map (new_node node.goal) left) (map_set s.nodes t.node x)
    ∙ ap (λ (first : ℕ). set (renumbered_nodes s.nodes) t.node (shut first) ++ map (new_node node.goal) left)
    (sym (length-map s.nodes renumbered_node))

-- ---- what follows

module _ (goals : ℕ) (s : State) where
  pub claims_again : (ticket : ℕ) (problem : ProofProblem) (strategy : Strategy) (later : State)
      → Claims goals s (entry_of ticket (claimed problem strategy)) problem strategy later
      → Claims goals (renumbered_state s) (entry_of ticket (claimed problem strategy)) problem strategy (renumbered_state later)
  claims_again ticket problem strategy later c = record {
    going = λ d. c.going (done_before goals s d);
    n = c.n;
    place = c.place;
    node = renumbered_node c.node;
    free = free_again s c.n c.place c.node c.free;
    least = λ k j other lt free. let x = some_free_before s k j other free in c.least k j x.0 lt x.1;
    ticket = c.ticket;
    problem_is = c.problem_is;
    strategy_is = c.strategy_is;
    after = ap renumbered_state c.after ∙ claim_again s 0 c.n c.place c.node;
  }

  module _ (ticket : ℕ) (event : Event) where
    abbrev pub runs_again : RunsAt s (entry_of ticket event) → RunsAt (renumbered_state s) (entry_of ticket (renumbered_event event))
    runs_again r = record {
      ticket = r.ticket;
      there = r.there;
      runs = r.runs;
      seat = r.seat;
      node = renumbered_node r.node;
      made = there_again s.nodes r.ticket.node r.node r.made;
    }

    pub late_again : (later : State) (r : RunsAt s (entry_of ticket event)) → EndsLate goals s (entry_of ticket event) r later
        → EndsLate goals (renumbered_state s) (entry_of ticket (renumbered_event event)) (runs_again r) (renumbered_state later)
    late_again later r (over, after) = (over_again goals s r.node over, ap renumbered_state after ∙ ended_again s ticket r.ticket r.node Idle)

  pub decides_again : (system : System) (number : ℕ) (t : Ticket) (node : TreeNode) (step : ProofStep) (later : State)
      → Decides goals system s number t node step later
      → Decides goals system (renumbered_state s) number t (renumbered_node node) (renumbered step) (renumbered_state later)
  decides_again system number t node step later d = record {
    left = d.left;
    applies = applies_again system node.problem step d.left d.applies;
    winner = d.winner;
    first = subst (λ (ns : List TreeNode). IsFirstWinner goals ns d.winner) (with_again s t node step d.left)
        (first_again goals (nodes_with s t node step d.left) d.winner d.first);
    after =
        ap renumbered_state d.after
        ∙ ap (λ (ns : List TreeNode). record s { nodes = ns; tickets = without s.tickets number t; winner = d.winner })
        (with_again s t node step d.left);
  }

  pub post_again : (system : System) (ticket : ℕ) (answer : Found) (later : State)
      → Follows goals system s (entry_of ticket (event_of_found answer)) later
      → Follows goals system (renumbered_state s) (entry_of ticket (renumbered_event (event_of_found answer))) (renumbered_state later)
  post_again system ticket (strategy.found step left) later (r, inl late) =
      (runs_again ticket (found step) r, inl (late_again ticket (found step) later r late))
  post_again system ticket (strategy.found step left) later (r, inr (still, decides)) =
      let wanted : IsOver goals (renumbered_state s) (renumbered_node r.node) → ⊥ = λ over. still (over_before goals s r.node over) in
      (runs_again ticket (found step) r, inr (wanted, decides_again system ticket r.ticket r.node step later decides))
  post_again system ticket (strategy.failed failure) later (r, inl late) =
      (runs_again ticket (failed failure) r, inl (late_again ticket (failed failure) later r late))
  post_again system ticket (strategy.failed failure) later (r, inr (still, after)) =
      let wanted : IsOver goals (renumbered_state s) (renumbered_node r.node) → ⊥ = λ over. still (over_before goals s r.node over) in
      (runs_again ticket (failed failure) r, inr (wanted, ap renumbered_state after ∙ ended_again s ticket r.ticket r.node _))
