-- Two serial histories that lead to states in which a verdict stands lead to the same state, but for the numbers of variables.
use Rattle.std.proofs.Common.{◌≡◌, inl, ℕ, ◌+◌, List, [], ◌∷◌, refl, sym, ap, ◌∙◌, subst}
use Rattle.trs_defs.specs.System.{System}
use Rattle.trs_core.specs.Valid.{IsValid}
use Rattle.conclusion.specs.report_text.strategies.cert_step.ProofProblem.{ProofProblem}
use Rattle.conclusion.specs.report_text.strategies.declared.strategy.Strategy.{Strategy}
use Rattle.conclusion.specs.report_text.strategies.Runs.{Found, found, failed}
use Rattle.conclusion.specs.report_text.strategies.Truth.{IsTrueFound}
use Rattle.conclusion.specs.tree_definitions.declared.question.Question.{Question}
use Rattle.conclusion.specs.tree_definitions.Questions.{roots, goal_count}
use Rattle.conclusion.specs.tree_definitions.History as event
use Rattle.conclusion.specs.tree_definitions.History.{HistoryEntry, claimed}
use Rattle.conclusion.specs.tree_definitions.States.{TreeNode, State, new_node, roots_from, opening}
use Rattle.conclusion.specs.tree_definitions.Verdicts.{HasVerdict}
use Rattle.conclusion.specs.tree_definitions.Events.{Claims, Follows, Replays}
use Rattle.conclusion.specs.tree_definitions.Replies.{event_of_found}
use Rattle.conclusion.specs.worker_pool.Serial.{IsSerialEnd, entry_of}
use Rattle.text_determinism.specs.AnswerLaws.{AreSameAnswers, AnswersAreOne}
use Rattle.text_determinism.proofs.Renumbering.{renumbered_nodes, renumbered_state, verdict_again, verdict_before}
use Rattle.text_determinism.proofs.Following.{renumbered_event, claims_again, post_again}
use Rattle.conclusion.proofs.tree_core.Winners.{IsGrown, grown_opening, grown_claim, grown_found, grown_failed}
use Rattle.conclusion.proofs.tree_core.OneFollower.{same_ticket, same_problem, same_strategy, same_claim, one_found, one_failed}
use Rattle.text_determinism.proofs.Turns.{AreTurns, rest, turn, turns_of}

-- the opening has no step
roots_again : (goal : ℕ) (ps : List ProofProblem) → renumbered_nodes (roots_from goal ps) ≡ roots_from goal ps
roots_again goal [] = refl
roots_again goal (p ∷ ps) = ap (λ ns. new_node goal p ∷ ns) (roots_again (goal + 1) ps)

pub opening_again : (question : Question) → renumbered_state (opening question) ≡ opening question
opening_again question = ap (λ (ns : List TreeNode). record (opening question) { nodes = ns }) (roots_again 0 (roots question))

-- what two answers leave is the same, where they are
module _ (goals : ℕ) (system : System) (s : State) (ticket : ℕ) where
  abbrev Posts : Found → State → Type 0
  Posts answer later = Follows goals system s (entry_of ticket (renumbered_event (event_of_found answer))) later

  one_post : IsGrown goals s → (a b : Found) (m o : State) → AreSameAnswers a b → Posts a m → Posts b o → m ≡ o
  one_post grown (found step left) (found other others) m o (same, _) f g =
      one_found goals system s 0 ticket grown _ m o f (subst (λ z. Follows goals system s (entry_of ticket (event.found z)) o) (sym same) g)
  one_post grown (failed failure) (failed other) m o same f g =
      one_failed goals system s 0 ticket failure m o f (subst (λ z. Follows goals system s (entry_of ticket (event.failed z)) o) (sym same) g)
  one_post grown (found step left) (failed other) m o same f g = absurd same
  one_post grown (failed failure) (found other others) m o same f g = absurd same

  grown_post : IsGrown goals s → (a : Found) (m : State) → Posts a m → IsGrown goals m
  grown_post grown (found step left) m f = grown_found goals system s grown 0 ticket _ m f
  grown_post grown (failed failure) m f = grown_failed goals system s grown 0 ticket failure m f

module _ (answers : AnswersAreOne) (goals : ℕ) (system : System) (valid : IsValid system) (budget : ℕ) where
  -- two states that are the same but for the numbers of variables, and of which each leads to a verdict by turns
  pub one_end : (s x y u v : State) (xs ys : List HistoryEntry) → IsGrown goals s → renumbered_state x ≡ s → renumbered_state y ≡ s
      → AreTurns system budget xs → AreTurns system budget ys → Replays goals system x xs u → Replays goals system y ys v
      → HasVerdict goals u → HasVerdict goals v → renumbered_state u ≡ renumbered_state v
  one_end s x y u v _ _ grown is_x is_y rest rest f g done_u done_v =
      ap renumbered_state (sym f) ∙ is_x ∙ sym is_y ∙ ap renumbered_state g
  one_end s x y u v _ _ grown is_x is_y rest (turn t p a answer more is_true turns) f g done_u done_v =
      let at_x : HasVerdict goals x = subst (HasVerdict goals) (sym f) done_u in
      let at_y : HasVerdict goals y = verdict_before goals y (subst (HasVerdict goals) (is_x ∙ sym is_y) (verdict_again goals x at_x)) in
      absurd (g.1.going (inl at_y))
  one_end s x y u v _ _ grown is_x is_y (turn t p a answer more is_true turns) rest f g done_u done_v =
      let at_y : HasVerdict goals y = subst (HasVerdict goals) (sym g) done_v in
      let at_x : HasVerdict goals x = verdict_before goals x (subst (HasVerdict goals) (is_y ∙ sym is_x) (verdict_again goals y at_y)) in
      absurd (f.1.going (inl at_x))
  one_end s x y u v _ _ grown is_x is_y (turn t p a answer more is_true turns) (turn t' p' a' answer' more' is_true' turns') f g done_u done_v =
      let (m, claim, (l, post, after)) = f in
      let (m', claim', (l', post', after')) = g in
      let c = subst (λ (z : State). Claims goals z (entry_of t (claimed p a)) p a (renumbered_state m)) is_x (claims_again goals x t p a m claim) in
      let c' = subst (λ (z : State). Claims goals z (entry_of t' (claimed p' a')) p' a' (renumbered_state m')) is_y
      (claims_again goals y t' p' a' m' claim') in
      let e = entry_of t (claimed p a) in
      let e' = entry_of t' (claimed p' a') in
      let e_t : t ≡ t' = same_ticket goals s e e' p p' a a' (renumbered_state m) (renumbered_state m') c c' in
      let e_p : p ≡ p' = same_problem goals s e e' p p' a a' (renumbered_state m) (renumbered_state m') c c' in
      let e_a : a ≡ a' = same_strategy goals s e e' p p' a a' (renumbered_state m) (renumbered_state m') c c' in
      let e_m : renumbered_state m ≡ renumbered_state m' = same_claim goals s e e' p p' a a' (renumbered_state m) (renumbered_state m') c c' refl in
      let same : AreSameAnswers answer answer' = answers system budget a p answer answer' valid is_true
      (subst (λ (z : Strategy). IsTrueFound system budget z p answer') (sym e_a)
      (subst (λ (z : ProofProblem). IsTrueFound system budget a' z answer') (sym e_p) is_true')) in
      let grown_m : IsGrown goals (renumbered_state m) = grown_claim goals system s grown 0 t p a (renumbered_state m) c in
      let q : Posts goals system (renumbered_state m) t answer (renumbered_state l) = post_again goals m system t answer l post in
      let q_m = post_again goals m' system t' answer' l' post' in
      let event' = renumbered_event (event_of_found answer') in
      let q_t = subst (λ (k : ℕ). Follows goals system (renumbered_state m') (entry_of k event') (renumbered_state l')) (sym e_t) q_m in
      let q' : Posts goals system (renumbered_state m) t answer' (renumbered_state l') =
      subst (λ (z : State). Follows goals system z (entry_of t (renumbered_event (event_of_found answer'))) (renumbered_state l')) (sym e_m) q_t in
      let e_l : renumbered_state l ≡ renumbered_state l' =
      one_post goals system (renumbered_state m) t grown_m answer answer' (renumbered_state l) (renumbered_state l') same q q' in
      let grown_l = grown_post goals system (renumbered_state m) t grown_m answer (renumbered_state l) q in
      one_end (renumbered_state l) l l' u v more more' grown_l refl (sym e_l) turns turns' after after' done_u done_v

-- the state to which a serial history leads is one, but for the numbers of variables
pub one_serial_end : AnswersAreOne → (system : System) → IsValid system → (question : Question) (budget : ℕ) (u v : State)
    → IsSerialEnd system question budget u
    → IsSerialEnd system question budget v → renumbered_state u ≡ renumbered_state v
one_serial_end answers system valid question budget u v a b =
    one_end answers (goal_count question) system valid budget (opening question) (opening question) (opening question) u v a.history b.history
    (grown_opening question) (opening_again question) (opening_again question)
    (turns_of system budget a.history a.serial) (turns_of system budget b.history b.serial)
    a.replays b.replays a.verdict b.verdict
