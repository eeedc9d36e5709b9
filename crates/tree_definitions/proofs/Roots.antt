-- The goals of a question, and the problems with which they begin.
use Rattle.std.proofs.Common.{◌≡◌, ℕ, zero, suc, ◌+◌, ◌<◌, ◌≤◌, List, [], ◌∷◌, length, Some, slice_get, refl, ap, ◌∙◌, arith}
use Rattle.std.proofs.lemmas.List.{length-map}
use Rattle.std.proofs.lemmas.Option.{slice_get_within}
use Rattle.trs_defs.specs.System.{System}
use Rattle.trs_defs.proofs.ListItems.{item_there, image_item}
use Rattle.strategies.specs.cert_step.ProofProblem.{ProofProblem, root_of, IsWellMadeProblem}
use Rattle.strategies.specs.cert_step.PlainProblem.{plain}
use Rattle.strategies.specs.cert_step.declared.claim.Claim.{Claim}
use Rattle.tree_definitions.specs.declared.goal.Goal.{Goal}
use Rattle.tree_definitions.specs.declared.goal.Goal.TheVariants as goal
use Rattle.tree_definitions.specs.declared.question.Question.{Question}
use Rattle.tree_definitions.specs.declared.question.Question.TheVariants.{Termination, Confluence, Unique}
use Rattle.tree_definitions.specs.Goals.{goal_root, goal_claim}
use Rattle.tree_definitions.specs.Questions.{goals_for, goal_count, roots, claims}
use Rattle.tree_definitions.specs.States.{new_node, roots_from}
use Rattle.tree_definitions.proofs.Lookups.{map_cases, one_value}

pub few_goals : (question : Question) → goal_count question ≤ 3
few_goals Termination = omega arith
few_goals Confluence = omega arith
few_goals Unique = omega arith

pub root_count : (question : Question) → length (roots question) ≡ goal_count question
root_count question = length-map (goals_for question) goal_root

pub root_below : (question : Question) (g : ℕ) → g < goal_count question → (p : ProofProblem) × (slice_get (roots question) g ≡ Some p)
root_below question g low =
    let at = item_there (goals_for question) g low in (goal_root at.0, image_item goal_root (goals_for question) g at.0 at.1)

-- the root of a problem among those from goal h on
pub root_there : (h : ℕ) (ps : List ProofProblem) (k : ℕ) (p : ProofProblem) → slice_get ps k ≡ Some p → slice_get (roots_from h ps) k ≡ Some (new_node (h + k) p)
root_there h [] k p there = absurd cc
root_there h (q ∷ ps) zero p there = let same : q ≡ p = cc in let e : h ≡ h + 0 = omega arith in λ i. Some (new_node (e i) (same i))
root_there h (q ∷ ps) (suc k) p there = root_there (h + 1) ps k p there ∙ (let e : h + 1 + k ≡ h + suc k = omega arith in ap (λ n. Some (new_node n p)) e)

pub root_within : (question : Question) (g : ℕ) (p : ProofProblem) → slice_get (roots question) g ≡ Some p → g < goal_count question
root_within question g p there =
    let at = map_cases goal_root (goals_for question) g p there in slice_get_within (goals_for question) g at.0 at.1

goal_well_made : (system : System) (g : Goal) → IsWellMadeProblem system (goal_root g)
goal_well_made system goal.Terminating = tt
goal_well_made system goal.Nonterminating = tt
goal_well_made system goal.Confluent = tt
goal_well_made system goal.ConfluentNewman = tt
goal_well_made system goal.Nonconfluent = tt
goal_well_made system goal.Unique = tt
goal_well_made system goal.UniqueNewman = tt
goal_well_made system goal.Nonunique = tt

pub roots_well_made : (system : System) (question : Question) (g : ℕ) (p : ProofProblem) → slice_get (roots question) g ≡ Some p → IsWellMadeProblem system p
roots_well_made system question g p there =
    let at = map_cases goal_root (goals_for question) g p there in rw at.2 (goal_well_made system at.0)

goal_fits : (g : Goal) → plain (goal_root g) ≡ root_of (goal_claim g)
goal_fits goal.Terminating = refl
goal_fits goal.Nonterminating = refl
goal_fits goal.Confluent = refl
goal_fits goal.ConfluentNewman = refl
goal_fits goal.Nonconfluent = refl
goal_fits goal.Unique = refl
goal_fits goal.UniqueNewman = refl
goal_fits goal.Nonunique = refl

-- the root's problem is that of the claim, but for its way
pub claims_fit : (question : Question) (g : ℕ) (p : ProofProblem) (claim : Claim) → slice_get (roots question) g ≡ Some p
    → slice_get (claims question) g ≡ Some claim → plain p ≡ root_of claim
claims_fit question g p claim a b =
    let x = map_cases goal_root (goals_for question) g p a in
    let y = map_cases goal_claim (goals_for question) g claim b in
    let same : y.0 ≡ x.0 = one_value (slice_get (goals_for question) g) y.0 x.0 y.1 x.1 in
    rw (x.2, y.2, same) (goal_fits x.0)
