-- Each call leaves a tree.
use Rattle.std.proofs.Common.{◌≡◌, inl, inr, ℕ, ◌<◌, Bool, true, false, ◌||◌, not, List, [], ◌∷◌, ◌++◌, set, Some, slice_get, refl, sym, ap, ◌∙◌, subst}
use Rattle.std.proofs.lemmas.Bool.{or_right}
use Rattle.std.proofs.lemmas.Option.{slice_get_within}
use Rattle.trs_defs.specs.System.{System}
use Rattle.tree_state.specs.cert_step.ProofProblem.{ProofProblem}
use Rattle.tree_state.specs.strategies.declared.failure.Failure.{Failure}
use Rattle.tree_state.specs.strategies.declared.strategy.Strategy.{Strategy}
use Rattle.tree_state.specs.tree_definitions.declared.question.Question.{Question}
use Rattle.tree_state.specs.tree_definitions.declared.mark.Mark.TheVariants.{Idle, Running, Failed}
use Rattle.tree_state.specs.tree_definitions.declared.ticket.Ticket.{Ticket}
use Rattle.tree_state.specs.tree_definitions.Questions.{goal_count}
use Rattle.tree_state.specs.tree_definitions.History.{HistoryEntry, Event, claimed, cancelled, aborted, of_seat, Runs}
use Rattle.tree_state.specs.tree_definitions.States.{State, opening, marked}
use Rattle.tree_core.proofs.Marking.{carries_same, same_later, problems_marked}
use Rattle.tree_state.specs.tree_definitions.Verdicts.{HasFailed}
use Rattle.tree_state.specs.tree_definitions.Events.{Follows, Replays, RunsAt, IsOver, ended}
use Rattle.tree_state.specs.Parts.{Parts, HasTicket, ended_parts, aborted_parts, is_over_by, has_verdict_by}
use Rattle.tree_state.specs.tree_definitions.Trees.{ProofTree}
use Rattle.tree_state.specs.tree_definitions.Replies.{Notes, IsUnwanted}
use Rattle.tree_core.specs.Invariant.{IsTree}
use Rattle.tree_state.proofs.tree_definitions.Lookups.{one_value}
use Rattle.tree_core.proofs.Told.{runs_there, told_ending, runs_of_seat}
use Rattle.tree_core.proofs.Given.{given_ending, places_ended}
use Rattle.tree_core.proofs.Flags.{over_is, is_over, verdict_is, has_verdict, true_false}
use Rattle.tree_core.proofs.Endings.{was_running, shape_ended, legal_ended, well_made_ended}
use Rattle.tree_state.specs.strategies.TaskBounds.{pairs_in}
use Rattle.tree_core.proofs.Counting.{some_run, some_room, counted_late, counted_aborted}
use Rattle.tree_core.proofs.Bounding.{bounded_late, bounded_abort}

pub replays_more : (goals : ℕ) (system : System) (first : State) (es : List HistoryEntry) (s : State) (e : HistoryEntry) (last : State)
    → Replays goals system first es s → Follows goals system s e last → Replays goals system first (es ++ e ∷ []) last
replays_more goals system first [] s e last r f = rw r (last, f, refl)
replays_more goals system first (x ∷ es) s e last r f = (r.0, r.1, replays_more goals system r.0 es s e last r.2 f)

pub no_failed_running : HasFailed Running → ⊥
no_failed_running h = let e = h.1 in absurd cc

pub not_running_idle : Idle ≡ Running → ⊥
not_running_idle e = absurd cc

pub not_failed_idle : (failure : Failure) → Idle ≡ Failed failure → ⊥
not_failed_idle failure e = absurd cc

or_none : (b : Bool) → (b || false) ≡ b
or_none true = refl
or_none false = refl

abbrev pub tree_of : Question → System → ℕ → Parts → ProofTree
tree_of question system budget p = record { question = question; system = system; budget = budget; history = p.history; state = p.state }

module _ (question : Question) (system : System) (budget : ℕ) (p : Parts) (tree : IsTree question system budget p) (number : ℕ) where
  -- a ticket that runs by the history runs in the state
  pub has_ticket : Runs number p.history → HasTicket p number
  has_ticket runs =
      let t = runs_there p.history p.state.tickets tree.is_told number runs in
      let h = tree.shaped.runs number t.0 t.1 t.2 in
      record { ticket = t.0; there = t.1; runs = t.2; node = h.node; made = h.there; place = slice_get_within h.node.marks t.0.place Running h.mark }

  module _ (h : HasTicket p number) where
    pub was : slice_get h.node.marks h.ticket.place ≡ Some Running
    was = was_running (goal_count question) system budget p.state tree.shaped tree.legal number h.ticket h.there h.runs h.node h.made Idle

    pub running_ok : 0 < p.running
    running_ok = some_run (goal_count question) p tree.counted number h.ticket h.there h.runs h.node h.made Running was no_failed_running

    pub room_ok : 0 < p.room
    room_ok = some_room (goal_count question) p tree.counted number h.ticket h.there h.runs h.node h.made Running was no_failed_running

    -- the ticket's node, by what is seen of the tree
    pub unwanted : is_over_by p h.node ≡ true → IsUnwanted (tree_of question system budget p) number
    unwanted over = (record { ticket = h.ticket; there = h.there; node = h.node; made = h.made }, over_is (goal_count question) p tree.counted h.node over)

    pub wanted : is_over_by p h.node ≡ false → IsUnwanted (tree_of question system budget p) number → ⊥
    wanted goes u =
        let t = one_value (slice_get p.state.tickets number) u.0.ticket h.ticket u.0.there h.there in
        let made_h = subst (λ (x : Ticket). slice_get p.state.nodes x.node ≡ Some u.0.node) t u.0.made in
        let n = one_value (slice_get p.state.nodes h.ticket.node) u.0.node h.node made_h h.made in
        let over = is_over (goal_count question) p tree.counted h.node (tree.shaped.range h.ticket.node h.node h.made) (subst (IsOver (goal_count question) p.state) n u.1) in
        absurd cc

    abbrev pub runs_at : (event : Event) → RunsAt p.state (record { seat = h.ticket.seat; ticket = number; event = event })
    runs_at event = record { ticket = h.ticket; there = h.there; runs = h.runs; seat = refl; node = h.node; made = h.made }

    -- an ending that comes late, in each of its ways
    pub late_tree : (event : Event) → ((problem : ProofProblem) (strategy : Strategy) → event ≡ claimed problem strategy → ⊥) → is_over_by p h.node ≡ true
        → Follows (goal_count question) system p.state (record { seat = h.ticket.seat; ticket = number; event = event }) (ended p.state number h.ticket h.node Idle)
        → IsTree question system budget (ended_parts p number h.ticket h.node event Idle)
    late_tree event ends over follows = record {
      valid = tree.valid;
      replays = replays_more (goal_count question) system (opening question) p.history p.state (record { seat = h.ticket.seat; ticket = number; event = event })
          (ended p.state number h.ticket h.node Idle) tree.replays follows;
      legal = legal_ended (goal_count question) system budget p.state tree.shaped tree.legal number h.ticket h.there h.runs h.node h.made Idle not_running_idle p.state.winner p.state.is_aborted
          (λ failure e. absurd (not_failed_idle failure e));
      well_made = well_made_ended system p.state.nodes h.ticket.node h.ticket.place h.node Idle h.made tree.well_made;
      rooted = λ g q at. carries_same p.state.nodes (set p.state.nodes h.ticket.node (marked h.node h.ticket.place Idle)) (same_later p.state.nodes h.ticket.node h.ticket.place h.node Idle h.made) g g q (tree.rooted g q at);
      shaped = shape_ended (goal_count question) system budget p.state tree.shaped tree.legal number h.ticket h.there h.runs h.node h.made Idle not_running_idle p.state.winner p.state.is_aborted;
      counted = counted_late (goal_count question) p tree.counted number h.ticket h.there h.runs h.node h.made Running was no_failed_running event over;
      is_told = told_ending p.history p.state.tickets tree.is_told (record { seat = h.ticket.seat; ticket = number; event = event }) h.ticket h.there refl h.runs;
      given = given_ending p.history p.state (ended p.state number h.ticket h.node Idle) tree.given (record { seat = h.ticket.seat; ticket = number; event = event })
          (problems_marked p.state.nodes h.ticket.node h.ticket.place h.node Idle h.made) (places_ended p.state.tickets number h.ticket h.there) ends;
      bounded = bounded_late question (pairs_in system) p tree.bounded number h.ticket h.node h.made running_ok event over;
    }

    -- the ticket is its seat's
    pub owner : Runs number (of_seat h.ticket.seat p.history)
    owner = runs_of_seat p.history p.state.tickets tree.is_told number h.ticket h.there h.runs

    pub adds_late : (event : Event) → Follows (goal_count question) system p.state (record { seat = h.ticket.seat; ticket = number; event = event }) (ended p.state number h.ticket h.node Idle)
        → Notes (tree_of question system budget p) number event (tree_of question system budget (ended_parts p number h.ticket h.node event Idle))
    adds_late event follows = record { seat = h.ticket.seat; owner = owner; adds = record { follows = follows; tree = refl } }

    pub cancels : is_over_by p h.node ≡ true
        → Follows (goal_count question) system p.state (record { seat = h.ticket.seat; ticket = number; event = cancelled }) (ended p.state number h.ticket h.node Idle)
    cancels over = (runs_at cancelled, (over_is (goal_count question) p tree.counted h.node over, refl))

    -- an abort
    pub aborts : Follows (goal_count question) system p.state (record { seat = h.ticket.seat; ticket = number; event = aborted }) (aborted_parts p number h.ticket h.node).state
    aborts = go (has_verdict_by p) refl
      where
        go : (b : Bool) → has_verdict_by p ≡ b
            → Follows (goal_count question) system p.state (record { seat = h.ticket.seat; ticket = number; event = aborted }) (aborted_parts p number h.ticket h.node).state
        go true e = (
          runs_at aborted,
          inl (
            verdict_is (goal_count question) p tree.counted e,
            ap (λ (b : Bool). record (ended p.state number h.ticket h.node Idle) { is_aborted = b }) (ap (λ (v : Bool). p.state.is_aborted || not v) e ∙ or_none p.state.is_aborted),
          ),
        )
        go false e = (
          runs_at aborted,
          inr (
            (λ v. true_false (has_verdict_by p) (has_verdict (goal_count question) p tree.counted v) e),
            ap (λ (b : Bool). record (ended p.state number h.ticket h.node Idle) { is_aborted = b }) (ap (λ (v : Bool). p.state.is_aborted || not v) e ∙ or_right p.state.is_aborted true refl),
          ),
        )

    pub abort_tree : IsTree question system budget (aborted_parts p number h.ticket h.node)
    abort_tree = record {
      valid = tree.valid;
      replays = replays_more (goal_count question) system (opening question) p.history p.state (record { seat = h.ticket.seat; ticket = number; event = aborted })
          (aborted_parts p number h.ticket h.node).state tree.replays aborts;
      legal = legal_ended (goal_count question) system budget p.state tree.shaped tree.legal number h.ticket h.there h.runs h.node h.made Idle not_running_idle p.state.winner
          (p.state.is_aborted || not (has_verdict_by p)) (λ failure e. absurd (not_failed_idle failure e));
      well_made = well_made_ended system p.state.nodes h.ticket.node h.ticket.place h.node Idle h.made tree.well_made;
      rooted = λ g q at. carries_same p.state.nodes (set p.state.nodes h.ticket.node (marked h.node h.ticket.place Idle)) (same_later p.state.nodes h.ticket.node h.ticket.place h.node Idle h.made) g g q (tree.rooted g q at);
      shaped = shape_ended (goal_count question) system budget p.state tree.shaped tree.legal number h.ticket h.there h.runs h.node h.made Idle not_running_idle p.state.winner
          (p.state.is_aborted || not (has_verdict_by p));
      counted = counted_aborted (goal_count question) p tree.counted number h.ticket h.there h.runs h.node h.made Running was no_failed_running;
      is_told = told_ending p.history p.state.tickets tree.is_told (record { seat = h.ticket.seat; ticket = number; event = aborted }) h.ticket h.there refl h.runs;
      given = given_ending p.history p.state (aborted_parts p number h.ticket h.node).state tree.given (record { seat = h.ticket.seat; ticket = number; event = aborted })
          (problems_marked p.state.nodes h.ticket.node h.ticket.place h.node Idle h.made) (places_ended p.state.tickets number h.ticket h.there) (λ q st e. cc);
      bounded = bounded_abort question (pairs_in system) p tree.bounded number h.ticket h.node h.made running_ok;
    }

-- what a call answers, from the tree before to the parts that it left
pub notes_left : (question : Question) (system : System) (budget : ℕ) (p q after : Parts) (now : ProofTree) (number : ℕ) (event : Event)
    → tree_of question system budget p ≡ now → q ≡ after
    → Notes (tree_of question system budget p) number event (tree_of question system budget after) → Notes now number event (tree_of question system budget q)
notes_left question system budget p q after now number event is left notes =
    subst (λ (t : ProofTree). Notes t number event (tree_of question system budget q)) is
    (subst (λ (x : Parts). Notes (tree_of question system budget p) number event (tree_of question system budget x)) (sym left) notes)
