-- What is judged where a goal was won, and the line of a sample.
use Rattle.std.proofs.Common.{◌≡◌, ◌⊎◌, ◌∙◌, inl, inr, ℕ, zero, suc, Some, slice_get, refl, sym, subst, ap, List}
use Rattle.trs_defs.specs.System.{System}
use Rattle.worker_pool.specs.cert_step.ProofProblem.{Says}
use Rattle.worker_pool.specs.cert_step.ProofStep.{ProofNodeStep}
use Rattle.worker_pool.specs.cert_step.declared.claim.Claim.{Claim}
use Rattle.worker_pool.specs.cert_step.declared.claim.Claim.TheVariants.{Terminating, Nonterminating}
use Rattle.worker_pool.specs.cert_step.Nodes.{IsAccepted}
use Rattle.worker_pool.specs.tree_definitions.declared.question.Question.{Question}
use Rattle.worker_pool.specs.tree_definitions.declared.question.Question.TheVariants.{Termination}
use Rattle.worker_pool.specs.tree_definitions.Questions.{claims}
use Rattle.worker_pool.specs.tree_definitions.Trees.{ProofTree}
use Rattle.sampling.specs.Family.{sample}
use Rattle.sampling.specs.declared.judgement.Judgement.{Judgement}
use Rattle.sampling.specs.declared.judgement.Judgement.TheVariants.{Proved, Refuted}
use Rattle.sampling.specs.Judged.{IsTrueJudgement, IsSerialJudgement, IsJudgementOf, proved, refuted}
use Rattle.sampling.specs.Line.{IsSampleLine, IsSerialLine, judged, judged_alone, line_of}

-- ---- what a goal claims

first_goal : (g : ℕ) → slice_get (claims Termination) g ≡ Some Terminating → g ≡ 0
first_goal zero e = refl
first_goal (suc zero) e = absurd cc
first_goal (suc (suc g)) e = absurd cc

second_goal : (g : ℕ) → slice_get (claims Termination) g ≡ Some Nonterminating → g ≡ 1
second_goal zero e = absurd cc
second_goal (suc zero) e = refl
second_goal (suc (suc g)) e = absurd cc

one_of_two : (g : ℕ) (claim : Claim) → slice_get (claims Termination) g ≡ Some claim → (claim ≡ Terminating) ⊎ (claim ≡ Nonterminating)
one_of_two zero claim e = inl cc
one_of_two (suc zero) claim e = inr cc
one_of_two (suc (suc g)) claim e = absurd cc

-- what the goal that was won claims
pub record IsWonClaim (tree : ProofTree) (claim : Claim) : Type 0 where
  pub g : ℕ
  pub won : tree.state.winner ≡ Some g
  pub claims_it : slice_get (claims tree.question) g ≡ Some claim

module _ (tree : ProofTree) (asks : tree.question ≡ Termination) (claim : Claim) (w : IsWonClaim tree claim) where
  claims_it : slice_get (claims Termination) w.g ≡ Some claim
  claims_it = subst (λ (q : Question). slice_get (claims q) w.g ≡ Some claim) asks w.claims_it

  pub no_other : (claim ≡ Terminating → ⊥) → (claim ≡ Nonterminating → ⊥) → ⊥
  no_other not_first not_second = go (one_of_two w.g claim claims_it)
    where
      go : (claim ≡ Terminating) ⊎ (claim ≡ Nonterminating) → ⊥
      go (inl e) = not_first e
      go (inr e) = not_second e

  pub won_proved : claim ≡ Terminating → IsJudgementOf tree.state Proved
  won_proved is = w.won ∙ ap Some (first_goal w.g (claims_it ∙ ap Some is))

  pub won_refuted : claim ≡ Nonterminating → IsJudgementOf tree.state Refuted
  won_refuted is = w.won ∙ ap Some (second_goal w.g (claims_it ∙ ap Some is))

module _ (system : System) (budget : ℕ) (claim : Claim) (steps : List ProofNodeStep) (accepted : IsAccepted system claim steps) (says : Says system claim) where
  pub true_proved : claim ≡ Terminating → IsTrueJudgement system budget Proved
  true_proved is = proved steps (subst (λ (k : Claim). IsAccepted system k steps) is accepted) (subst (λ (k : Claim). Says system k) is says)

  pub true_refuted : claim ≡ Nonterminating → IsTrueJudgement system budget Refuted
  true_refuted is = refuted steps (subst (λ (k : Claim). IsAccepted system k steps) is accepted) (subst (λ (k : Claim). Says system k) is says)

-- what is judged of a tree on this system is judged of the system
pub judged_in : (system : System) (budget : ℕ) (tree : ProofTree) (judgement : Judgement) → tree.system ≡ system → tree.budget ≡ budget
    → IsTrueJudgement tree.system tree.budget judgement → IsTrueJudgement system budget judgement
judged_in system budget tree judgement of within h =
    subst (λ (s : System). IsTrueJudgement s budget judgement) of (subst (λ b. IsTrueJudgement tree.system b judgement) within h)

-- ---- the line of a sample

module _ (size budget : ℕ) (system : System) (judgement : Judgement) (line : List ℕ) (same : system ≡ (sample size).system) (is : line ≡ line_of system judgement) where
  is_line : line ≡ line_of (sample size).system judgement
  is_line = is ∙ ap (λ (s : System). line_of s judgement) same

  pub line_judged : IsTrueJudgement system budget judgement → IsSampleLine size budget line
  line_judged is_true =
      subst (IsSampleLine size budget) (sym is_line) (judged judgement (subst (λ (s : System). IsTrueJudgement s budget judgement) same is_true))

  pub line_serial : IsSerialJudgement system budget judgement → IsSerialLine size budget line
  line_serial serial =
      subst (IsSerialLine size budget) (sym is_line) (judged_alone judgement (subst (λ (s : System). IsSerialJudgement s budget judgement) same serial))
