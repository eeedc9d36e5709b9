-- A history leads to one state.
use Rattle.std.specs.Prelude.{◌≡◌, ℕ, List, [], ◌∷◌}
use Rattle.std.proofs.Common.{sym, ◌∙◌, subst}
use Rattle.trs_defs.specs.System.{System}
use Rattle.tree_state.specs.tree_definitions.Questions.{goal_count}
use Rattle.tree_state.specs.tree_definitions.History.{HistoryEntry}
use Rattle.tree_state.specs.tree_definitions.States.{State, opening}
use Rattle.tree_state.specs.tree_definitions.Events.{Replays}
use Rattle.tree_core.specs.Laws.{ReplaysAreOne}
use Rattle.tree_core.proofs.Winners.{IsGrown, grown_opening, grown_later}
use Rattle.tree_core.proofs.OneFollower.{one_follower}

module _ (goals : ℕ) (system : System) where
  one_last : (s : State) → IsGrown goals s → (history : List HistoryEntry) (last other : State)
      → Replays goals system s history last → Replays goals system s history other → last ≡ other
  one_last s grown [] last other a b = sym a ∙ b
  one_last s grown (e ∷ es) last other (m, f, a) (o, g, b) =
      let same : o ≡ m = one_follower goals system s e.seat e.ticket grown e.event o m g f in
      one_last m (grown_later goals system s grown e.seat e.ticket e.event m f) es last other a
      (subst (λ (x : State). Replays goals system x es other) same b)

pub one_replay : ReplaysAreOne
one_replay question system history last other = one_last (goal_count question) system (opening question) (grown_opening question) history last other
