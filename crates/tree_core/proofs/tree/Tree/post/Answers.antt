use Rattle.std.proofs.Common.{◌≡◌, ◌∙◌, refl, sym, ap, subst, true, false, map}
use Rattle.tree_state.specs.cert_step.ProofProblem.{problem_of}
use Rattle.tree_state.specs.cert_step.ProofStep.{step_of}
use Rattle.tree_state.specs.strategies.declared.failure.Failure.TheVariants.{NotThere, Spent}
use Rattle.tree_state.specs.strategies.Runs.{Found}
use Rattle.tree_state.specs.strategies.Truth.{IsTrueFound}
use Rattle.tree_state.specs.tree_definitions.declared.mark.Mark.TheVariants.{Idle}
use Rattle.tree_state.specs.tree_definitions.History.{HistoryEntry, Runs}
use Rattle.tree_state.specs.tree_definitions.History as history
use Rattle.tree_state.specs.Parts.{Parts, HasTicket, ended_parts, failed_parts, decided_parts, is_over_by}
use Rattle.tree_state.specs.tree_definitions.Trees.{ProofTree}
use Rattle.tree_state.specs.tree_definitions.Replies.{IsUnwanted, Notes, IsTaskOf, event_of_found}
use Rattle.tree_core.specs.Invariant.{IsTree}
use Rattle.tree_core.proofs.Tasks.{node_roomy_tree}
use Rattle.tree_core.proofs.Trees.{tree_of, has_ticket, running_ok, room_ok, late_tree, unwanted, owner, notes_left}
use Rattle.tree_core.proofs.Trees as trees
use Rattle.tree_core.proofs.Posting.{no_claim, truth, late_post, fail_tree, fail_follows, decide_tree, decide_follows, open_few}
use Rattle.tree_core.proofs.tree.Tree.post.Goals as goal
use Rattle.tree_core.proofs.tree.Tree.post.Goals.{in-Found, in-NotThere, in-Spent}

pub is_over-requires : goal.is_over-requires
is_over-requires c =
    let i = c.self.inside in
    let runs : Runs c.args.ticket i.board.history = subst (λ (t : ProofTree). Runs c.args.ticket t.history) (sym c.self.view_is) c.requires.running in
    let h = has_ticket i.question i.system.now i.limits.budget i.board c.self.invariant c.args.ticket runs in
    h

pub end-requires-clause-has : goal.end-requires-clause-has
end-requires-clause-has c =
    let i = c.self.inside in
    let runs : Runs c.args.ticket i.board.history = subst (λ (t : ProofTree). Runs c.args.ticket t.history) (sym c.self.view_is) c.requires.running in
    let h = has_ticket i.question i.system.now i.limits.budget i.board c.self.invariant c.args.ticket runs in
    h

pub end-requires-clause-room : goal.end-requires-clause-room
end-requires-clause-room c =
    let i = c.self.inside in
    let runs : Runs c.args.ticket i.board.history = subst (λ (t : ProofTree). Runs c.args.ticket t.history) (sym c.self.view_is) c.requires.running in
    let h = has_ticket i.question i.system.now i.limits.budget i.board c.self.invariant c.args.ticket runs in
    room_ok i.question i.system.now i.limits.budget i.board c.self.invariant c.args.ticket h

pub end-requires-clause-running : goal.end-requires-clause-running
end-requires-clause-running c =
    let i = c.self.inside in
    let runs : Runs c.args.ticket i.board.history = subst (λ (t : ProofTree). Runs c.args.ticket t.history) (sym c.self.view_is) c.requires.running in
    let h = has_ticket i.question i.system.now i.limits.budget i.board c.self.invariant c.args.ticket runs in
    running_ok i.question i.system.now i.limits.budget i.board c.self.invariant c.args.ticket h

pub invariant_of-self : goal.invariant_of-self
invariant_of-self c =
    let i = c.self.inside in
    let runs : Runs c.args.ticket i.board.history = subst (λ (t : ProofTree). Runs c.args.ticket t.history) (sym c.self.view_is) c.requires.running in
    let h = has_ticket i.question i.system.now i.limits.budget i.board c.self.invariant c.args.ticket runs in
    let over : is_over_by i.board h.node ≡ true = sym (c.is_over.ensures h) ∙ c.if-is_over.true in
    let follows = late_post i.question i.system.now i.limits.budget i.board c.self.invariant c.args.ticket h c.args.outcome.found over in
    let parts : c.end.new.self ≡ ended_parts i.board c.args.ticket h.ticket h.node (event_of_found c.args.outcome.found) Idle =
    c.end.ensures h ∙ ap (λ (e : history.Event). ended_parts i.board c.args.ticket h.ticket h.node e Idle) (c.event_of.ensures ∙ ap event_of_found c.into_findings.ensures.found) in
    rw parts (late_tree i.question i.system.now i.limits.budget i.board c.self.invariant c.args.ticket h (event_of_found c.args.outcome.found) (no_claim c.args.outcome.found) over follows)

pub returns-then-is_over-clause-post : goal.returns-then-is_over-clause-post
returns-then-is_over-clause-post c =
    let i = c.self.inside in
    let runs : Runs c.args.ticket i.board.history = subst (λ (t : ProofTree). Runs c.args.ticket t.history) (sym c.self.view_is) c.requires.running in
    let h = has_ticket i.question i.system.now i.limits.budget i.board c.self.invariant c.args.ticket runs in
    let over : is_over_by i.board h.node ≡ true = sym (c.is_over.ensures h) ∙ c.if-is_over.true in
    let follows = late_post i.question i.system.now i.limits.budget i.board c.self.invariant c.args.ticket h c.args.outcome.found over in
    let parts : c.end.new.self ≡ ended_parts i.board c.args.ticket h.ticket h.node (event_of_found c.args.outcome.found) Idle =
    c.end.ensures h ∙ ap (λ (e : history.Event). ended_parts i.board c.args.ticket h.ticket h.node e Idle) (c.event_of.ensures ∙ ap event_of_found c.into_findings.ensures.found) in (
      subst (λ (t : ProofTree). IsUnwanted t c.args.ticket) c.self.view_is (unwanted i.question i.system.now i.limits.budget i.board c.self.invariant c.args.ticket h over),
      notes_left i.question i.system.now i.limits.budget i.board c.end.new.self (ended_parts i.board c.args.ticket h.ticket h.node (event_of_found c.args.outcome.found) Idle) c.args.self.now c.args.ticket
          (event_of_found c.args.outcome.found) c.self.view_is parts (record { seat = h.ticket.seat; owner = owner i.question i.system.now i.limits.budget i.board c.self.invariant c.args.ticket h; adds = record { follows = follows; tree = refl } }),
    )

pub invariant_of-self-then-is_err : goal.invariant_of-self-then-is_err
invariant_of-self-then-is_err c =
    let i = c.self.inside in
    let runs : Runs c.args.ticket i.board.history = subst (λ (t : ProofTree). Runs c.args.ticket t.history) (sym c.self.view_is) c.requires.running in
    let board : Parts = record i.board { node_room = c.reserve_nodes.new.self.node_room } in
    let tree : IsTree i.question i.system.now i.limits.budget board = node_roomy_tree i.question i.system.now i.limits.budget i.board c.self.invariant c.reserve_nodes.new.self.node_room in
    let h : HasTicket board c.args.ticket = has_ticket i.question i.system.now i.limits.budget board tree c.args.ticket runs in
    rw c.reserve_nodes.ensures.parts tree

pub decide-requires-clause-has : goal.decide-requires-clause-has
decide-requires-clause-has c =
    let i = c.self.inside in
    let runs : Runs c.args.ticket i.board.history = subst (λ (t : ProofTree). Runs c.args.ticket t.history) (sym c.self.view_is) c.requires.running in
    let board : Parts = record i.board { node_room = c.reserve_nodes.new.self.node_room } in
    let tree : IsTree i.question i.system.now i.limits.budget board = node_roomy_tree i.question i.system.now i.limits.budget i.board c.self.invariant c.reserve_nodes.new.self.node_room in
    let h : HasTicket board c.args.ticket = has_ticket i.question i.system.now i.limits.budget board tree c.args.ticket runs in
    rw c.reserve_nodes.ensures.parts h

pub decide-requires-clause-room : goal.decide-requires-clause-room
decide-requires-clause-room c =
    let i = c.self.inside in
    let runs : Runs c.args.ticket i.board.history = subst (λ (t : ProofTree). Runs c.args.ticket t.history) (sym c.self.view_is) c.requires.running in
    let board : Parts = record i.board { node_room = c.reserve_nodes.new.self.node_room } in
    let tree : IsTree i.question i.system.now i.limits.budget board = node_roomy_tree i.question i.system.now i.limits.budget i.board c.self.invariant c.reserve_nodes.new.self.node_room in
    let h : HasTicket board c.args.ticket = has_ticket i.question i.system.now i.limits.budget board tree c.args.ticket runs in
    rw c.reserve_nodes.ensures.parts (room_ok i.question i.system.now i.limits.budget board tree c.args.ticket h)

pub decide-requires-clause-running : goal.decide-requires-clause-running
decide-requires-clause-running c =
    let i = c.self.inside in
    let runs : Runs c.args.ticket i.board.history = subst (λ (t : ProofTree). Runs c.args.ticket t.history) (sym c.self.view_is) c.requires.running in
    let board : Parts = record i.board { node_room = c.reserve_nodes.new.self.node_room } in
    let tree : IsTree i.question i.system.now i.limits.budget board = node_roomy_tree i.question i.system.now i.limits.budget i.board c.self.invariant c.reserve_nodes.new.self.node_room in
    let h : HasTicket board c.args.ticket = has_ticket i.question i.system.now i.limits.budget board tree c.args.ticket runs in
    rw c.reserve_nodes.ensures.parts (running_ok i.question i.system.now i.limits.budget board tree c.args.ticket h)

pub fail-requires-clause-has : goal.fail-requires-clause-has
fail-requires-clause-has c =
    let i = c.self.inside in
    let runs : Runs c.args.ticket i.board.history = subst (λ (t : ProofTree). Runs c.args.ticket t.history) (sym c.self.view_is) c.requires.running in
    let board : Parts = record i.board { node_room = c.reserve_nodes.new.self.node_room } in
    let tree : IsTree i.question i.system.now i.limits.budget board = node_roomy_tree i.question i.system.now i.limits.budget i.board c.self.invariant c.reserve_nodes.new.self.node_room in
    let h : HasTicket board c.args.ticket = has_ticket i.question i.system.now i.limits.budget board tree c.args.ticket runs in
    rw c.reserve_nodes.ensures.parts h

pub fail-requires-clause-room : goal.fail-requires-clause-room
fail-requires-clause-room c =
    let i = c.self.inside in
    let runs : Runs c.args.ticket i.board.history = subst (λ (t : ProofTree). Runs c.args.ticket t.history) (sym c.self.view_is) c.requires.running in
    let board : Parts = record i.board { node_room = c.reserve_nodes.new.self.node_room } in
    let tree : IsTree i.question i.system.now i.limits.budget board = node_roomy_tree i.question i.system.now i.limits.budget i.board c.self.invariant c.reserve_nodes.new.self.node_room in
    let h : HasTicket board c.args.ticket = has_ticket i.question i.system.now i.limits.budget board tree c.args.ticket runs in
    rw c.reserve_nodes.ensures.parts (room_ok i.question i.system.now i.limits.budget board tree c.args.ticket h)

pub fail-requires-clause-running : goal.fail-requires-clause-running
fail-requires-clause-running c =
    let i = c.self.inside in
    let runs : Runs c.args.ticket i.board.history = subst (λ (t : ProofTree). Runs c.args.ticket t.history) (sym c.self.view_is) c.requires.running in
    let board : Parts = record i.board { node_room = c.reserve_nodes.new.self.node_room } in
    let tree : IsTree i.question i.system.now i.limits.budget board = node_roomy_tree i.question i.system.now i.limits.budget i.board c.self.invariant c.reserve_nodes.new.self.node_room in
    let h : HasTicket board c.args.ticket = has_ticket i.question i.system.now i.limits.budget board tree c.args.ticket runs in
    rw c.reserve_nodes.ensures.parts (running_ok i.question i.system.now i.limits.budget board tree c.args.ticket h)

pub fail-requires-in-Spent-clause-has : goal.fail-requires-in-Spent-clause-has
fail-requires-in-Spent-clause-has c =
    let i = c.self.inside in
    let runs : Runs c.args.ticket i.board.history = subst (λ (t : ProofTree). Runs c.args.ticket t.history) (sym c.self.view_is) c.requires.running in
    let board : Parts = record i.board { node_room = c.reserve_nodes.new.self.node_room } in
    let tree : IsTree i.question i.system.now i.limits.budget board = node_roomy_tree i.question i.system.now i.limits.budget i.board c.self.invariant c.reserve_nodes.new.self.node_room in
    let h : HasTicket board c.args.ticket = has_ticket i.question i.system.now i.limits.budget board tree c.args.ticket runs in
    rw c.reserve_nodes.ensures.parts h

pub fail-requires-in-Spent-clause-room : goal.fail-requires-in-Spent-clause-room
fail-requires-in-Spent-clause-room c =
    let i = c.self.inside in
    let runs : Runs c.args.ticket i.board.history = subst (λ (t : ProofTree). Runs c.args.ticket t.history) (sym c.self.view_is) c.requires.running in
    let board : Parts = record i.board { node_room = c.reserve_nodes.new.self.node_room } in
    let tree : IsTree i.question i.system.now i.limits.budget board = node_roomy_tree i.question i.system.now i.limits.budget i.board c.self.invariant c.reserve_nodes.new.self.node_room in
    let h : HasTicket board c.args.ticket = has_ticket i.question i.system.now i.limits.budget board tree c.args.ticket runs in
    rw c.reserve_nodes.ensures.parts (room_ok i.question i.system.now i.limits.budget board tree c.args.ticket h)

pub fail-requires-in-Spent-clause-running : goal.fail-requires-in-Spent-clause-running
fail-requires-in-Spent-clause-running c =
    let i = c.self.inside in
    let runs : Runs c.args.ticket i.board.history = subst (λ (t : ProofTree). Runs c.args.ticket t.history) (sym c.self.view_is) c.requires.running in
    let board : Parts = record i.board { node_room = c.reserve_nodes.new.self.node_room } in
    let tree : IsTree i.question i.system.now i.limits.budget board = node_roomy_tree i.question i.system.now i.limits.budget i.board c.self.invariant c.reserve_nodes.new.self.node_room in
    let h : HasTicket board c.args.ticket = has_ticket i.question i.system.now i.limits.budget board tree c.args.ticket runs in
    rw c.reserve_nodes.ensures.parts (running_ok i.question i.system.now i.limits.budget board tree c.args.ticket h)

pub decide-requires-clause-open_nodes : goal.decide-requires-clause-open_nodes
decide-requires-clause-open_nodes c =
    let i = c.self.inside in
    let runs : Runs c.args.ticket i.board.history = subst (λ (t : ProofTree). Runs c.args.ticket t.history) (sym c.self.view_is) c.requires.running in
    let board : Parts = record i.board { node_room = c.reserve_nodes.new.self.node_room } in
    let tree : IsTree i.question i.system.now i.limits.budget board = node_roomy_tree i.question i.system.now i.limits.budget i.board c.self.invariant c.reserve_nodes.new.self.node_room in
    let h : HasTicket board c.args.ticket = has_ticket i.question i.system.now i.limits.budget board tree c.args.ticket runs in
    rw c.reserve_nodes.ensures.parts (λ k g there. open_few i.question i.system.now i.limits.budget board tree k.node.goal g there)

pub invariant_of-self-in-Found : goal.invariant_of-self-in-Found
invariant_of-self-in-Found c =
    let i = c.self.inside in
    let runs : Runs c.args.ticket i.board.history = subst (λ (t : ProofTree). Runs c.args.ticket t.history) (sym c.self.view_is) c.requires.running in
    let board : Parts = record i.board { node_room = c.reserve_nodes.new.self.node_room } in
    let tree : IsTree i.question i.system.now i.limits.budget board = node_roomy_tree i.question i.system.now i.limits.budget i.board c.self.invariant c.reserve_nodes.new.self.node_room in
    let h : HasTicket board c.args.ticket = has_ticket i.question i.system.now i.limits.budget board tree c.args.ticket runs in
    let h_0 : HasTicket i.board c.args.ticket = record { ticket = h.ticket; there = h.there; runs = h.runs; node = h.node; made = h.made; place = h.place } in
    let wanted : is_over_by board h.node ≡ false = sym (c.is_over.ensures h_0) ∙ c.if-is_over.false in
    let task : IsTaskOf (tree_of i.question i.system.now i.limits.budget board) c.args.ticket c.args.outcome = subst (λ (t : ProofTree). IsTaskOf t c.args.ticket c.args.outcome) (sym c.self.view_is) c.requires.outcome in
    let true_of = truth i.question i.system.now i.limits.budget board tree c.args.ticket h c.args.outcome task c.into_findings-2.ensures.is_true in
    let step = step_of c.in-Found.step in
    let left = map problem_of c.in-Found.left.items in
    let is = subst (λ (f : Found). IsTrueFound i.system.now i.limits.budget c.args.outcome.strategy h.node.problem f) (sym (c.in-Found.ensures.found)) true_of.holds in
    let parts = subst (λ (x : Parts). (y : HasTicket x c.args.ticket) → c.decide.new.self ≡ record (decided_parts x c.args.ticket y.ticket y.node step left) { node_room = c.decide.new.self.node_room })
    c.reserve_nodes.ensures.parts c.decide.ensures.parts in
    rw (parts h) (decide_tree i.question i.system.now i.limits.budget board tree c.args.ticket h wanted step left c.args.outcome.strategy true_of.strategy_at is c.decide.new.self.node_room)

pub invariant_of-self-in-NotThere : goal.invariant_of-self-in-NotThere
invariant_of-self-in-NotThere c =
    let i = c.self.inside in
    let runs : Runs c.args.ticket i.board.history = subst (λ (t : ProofTree). Runs c.args.ticket t.history) (sym c.self.view_is) c.requires.running in
    let board : Parts = record i.board { node_room = c.reserve_nodes.new.self.node_room } in
    let tree : IsTree i.question i.system.now i.limits.budget board = node_roomy_tree i.question i.system.now i.limits.budget i.board c.self.invariant c.reserve_nodes.new.self.node_room in
    let h : HasTicket board c.args.ticket = has_ticket i.question i.system.now i.limits.budget board tree c.args.ticket runs in
    let h_0 : HasTicket i.board c.args.ticket = record { ticket = h.ticket; there = h.there; runs = h.runs; node = h.node; made = h.made; place = h.place } in
    let wanted : is_over_by board h.node ≡ false = sym (c.is_over.ensures h_0) ∙ c.if-is_over.false in
    let task : IsTaskOf (tree_of i.question i.system.now i.limits.budget board) c.args.ticket c.args.outcome = subst (λ (t : ProofTree). IsTaskOf t c.args.ticket c.args.outcome) (sym c.self.view_is) c.requires.outcome in
    let true_of = truth i.question i.system.now i.limits.budget board tree c.args.ticket h c.args.outcome task c.into_findings-2.ensures.is_true in
    let fails = subst (λ (f : Found). IsTrueFound i.system.now i.limits.budget c.args.outcome.strategy h.node.problem f) (sym (c.in-NotThere.ensures.found)) true_of.holds in
    let parts = subst (λ (x : Parts). (y : HasTicket x c.args.ticket) → c.fail.new.self ≡ failed_parts x c.args.ticket y.ticket y.node NotThere) c.reserve_nodes.ensures.parts c.fail.ensures in
    rw (parts h) (fail_tree i.question i.system.now i.limits.budget board tree c.args.ticket h wanted NotThere (c.args.outcome.strategy, true_of.strategy_at, fails))

pub invariant_of-self-in-Spent : goal.invariant_of-self-in-Spent
invariant_of-self-in-Spent c =
    let i = c.self.inside in
    let runs : Runs c.args.ticket i.board.history = subst (λ (t : ProofTree). Runs c.args.ticket t.history) (sym c.self.view_is) c.requires.running in
    let board : Parts = record i.board { node_room = c.reserve_nodes.new.self.node_room } in
    let tree : IsTree i.question i.system.now i.limits.budget board = node_roomy_tree i.question i.system.now i.limits.budget i.board c.self.invariant c.reserve_nodes.new.self.node_room in
    let h : HasTicket board c.args.ticket = has_ticket i.question i.system.now i.limits.budget board tree c.args.ticket runs in
    let h_0 : HasTicket i.board c.args.ticket = record { ticket = h.ticket; there = h.there; runs = h.runs; node = h.node; made = h.made; place = h.place } in
    let wanted : is_over_by board h.node ≡ false = sym (c.is_over.ensures h_0) ∙ c.if-is_over.false in
    let task : IsTaskOf (tree_of i.question i.system.now i.limits.budget board) c.args.ticket c.args.outcome = subst (λ (t : ProofTree). IsTaskOf t c.args.ticket c.args.outcome) (sym c.self.view_is) c.requires.outcome in
    let true_of = truth i.question i.system.now i.limits.budget board tree c.args.ticket h c.args.outcome task c.into_findings-2.ensures.is_true in
    let fails = subst (λ (f : Found). IsTrueFound i.system.now i.limits.budget c.args.outcome.strategy h.node.problem f) (sym (c.in-Spent.ensures.found)) true_of.holds in
    let parts = subst (λ (x : Parts). (y : HasTicket x c.args.ticket) → c.fail-in-Spent.new.self ≡ failed_parts x c.args.ticket y.ticket y.node Spent) c.reserve_nodes.ensures.parts c.fail-in-Spent.ensures in
    rw (parts h) (fail_tree i.question i.system.now i.limits.budget board tree c.args.ticket h wanted Spent (c.args.outcome.strategy, true_of.strategy_at, fails))

pub returns-clause-post : goal.returns-clause-post
returns-clause-post c =
    let i = c.self.inside in
    let runs : Runs c.args.ticket i.board.history = subst (λ (t : ProofTree). Runs c.args.ticket t.history) (sym c.self.view_is) c.requires.running in
    let board : Parts = record i.board { node_room = c.reserve_nodes.new.self.node_room } in
    let tree : IsTree i.question i.system.now i.limits.budget board = node_roomy_tree i.question i.system.now i.limits.budget i.board c.self.invariant c.reserve_nodes.new.self.node_room in
    let h : HasTicket board c.args.ticket = has_ticket i.question i.system.now i.limits.budget board tree c.args.ticket runs in
    let h_0 : HasTicket i.board c.args.ticket = record { ticket = h.ticket; there = h.there; runs = h.runs; node = h.node; made = h.made; place = h.place } in
    let wanted : is_over_by board h.node ≡ false = sym (c.is_over.ensures h_0) ∙ c.if-is_over.false in
    let task : IsTaskOf (tree_of i.question i.system.now i.limits.budget board) c.args.ticket c.args.outcome = subst (λ (t : ProofTree). IsTaskOf t c.args.ticket c.args.outcome) (sym c.self.view_is) c.requires.outcome in
    let true_of = truth i.question i.system.now i.limits.budget board tree c.args.ticket h c.args.outcome task c.into_findings-2.ensures.is_true in
    let not : IsUnwanted c.args.self.now c.args.ticket → ⊥ = subst (λ (t : ProofTree). IsUnwanted t c.args.ticket → ⊥) c.self.view_is (trees.wanted i.question i.system.now i.limits.budget board tree c.args.ticket h wanted) in
    elim c.match-into_findings.branch [
      | in-Found w ↦
          let step = step_of w.in-Found.step in
          let left = map problem_of w.in-Found.left.items in
          let is = subst (λ (f : Found). IsTrueFound i.system.now i.limits.budget c.args.outcome.strategy h.node.problem f) (sym (w.in-Found.ensures.found)) true_of.holds in
          let parts = subst (λ (x : Parts). (y : HasTicket x c.args.ticket) → w.decide.new.self ≡ record (decided_parts x c.args.ticket y.ticket y.node step left) { node_room = w.decide.new.self.node_room })
          c.reserve_nodes.ensures.parts w.decide.ensures.parts in
          rw w.self-is (
            not,
            subst (λ (f : Found). Notes c.args.self.now c.args.ticket (event_of_found f) (tree_of i.question i.system.now i.limits.budget w.decide.new.self)) w.in-Found.ensures.found
                (notes_left i.question i.system.now i.limits.budget board w.decide.new.self (record (decided_parts board c.args.ticket h.ticket h.node step left) { node_room = w.decide.new.self.node_room }) c.args.self.now c.args.ticket (history.found step)
                c.self.view_is (parts h) (record { seat = h.ticket.seat; owner = owner i.question i.system.now i.limits.budget board tree c.args.ticket h; adds = record { follows = decide_follows i.question i.system.now i.limits.budget board tree c.args.ticket h wanted step left c.args.outcome.strategy true_of.strategy_at is w.decide.new.self.node_room; tree = refl } })),
          )
      | in-NotThere w ↦
          let fails = subst (λ (f : Found). IsTrueFound i.system.now i.limits.budget c.args.outcome.strategy h.node.problem f) (sym (w.in-NotThere.ensures.found)) true_of.holds in
          let parts = subst (λ (x : Parts). (y : HasTicket x c.args.ticket) → w.fail.new.self ≡ failed_parts x c.args.ticket y.ticket y.node NotThere) c.reserve_nodes.ensures.parts w.fail.ensures in
          rw w.self-is (
            not,
            subst (λ (f : Found). Notes c.args.self.now c.args.ticket (event_of_found f) (tree_of i.question i.system.now i.limits.budget w.fail.new.self)) w.in-NotThere.ensures.found
                (notes_left i.question i.system.now i.limits.budget board w.fail.new.self (failed_parts board c.args.ticket h.ticket h.node NotThere) c.args.self.now c.args.ticket (history.failed NotThere)
                c.self.view_is (parts h) (record { seat = h.ticket.seat; owner = owner i.question i.system.now i.limits.budget board tree c.args.ticket h; adds = record { follows = fail_follows i.question i.system.now i.limits.budget board tree c.args.ticket h wanted NotThere; tree = refl } })),
          )
      | in-Spent w ↦
          let fails = subst (λ (f : Found). IsTrueFound i.system.now i.limits.budget c.args.outcome.strategy h.node.problem f) (sym (w.in-Spent.ensures.found)) true_of.holds in
          let parts = subst (λ (x : Parts). (y : HasTicket x c.args.ticket) → w.fail-in-Spent.new.self ≡ failed_parts x c.args.ticket y.ticket y.node Spent) c.reserve_nodes.ensures.parts w.fail-in-Spent.ensures in
          rw w.self-is (
            not,
            subst (λ (f : Found). Notes c.args.self.now c.args.ticket (event_of_found f) (tree_of i.question i.system.now i.limits.budget w.fail-in-Spent.new.self)) w.in-Spent.ensures.found
                (notes_left i.question i.system.now i.limits.budget board w.fail-in-Spent.new.self (failed_parts board c.args.ticket h.ticket h.node Spent) c.args.self.now c.args.ticket (history.failed Spent)
                c.self.view_is (parts h) (record { seat = h.ticket.seat; owner = owner i.question i.system.now i.limits.budget board tree c.args.ticket h; adds = record { follows = fail_follows i.question i.system.now i.limits.budget board tree c.args.ticket h wanted Spent; tree = refl } })),
          )
    ]
