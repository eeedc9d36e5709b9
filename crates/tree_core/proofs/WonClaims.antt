-- What the goal claims that was won is true.
use Rattle.std.proofs.Common.{◌≡◌, ℕ, suc, ◌+◌, List, [], ◌∷◌, Some, slice_get, refl, ap, ◌∙◌, subst, arith}
use Rattle.std.proofs.lemmas.Option.{slice_get_within}
use Rattle.trs_defs.specs.System.{System, IsSystem}
use Rattle.tree_state.specs.cert_step.ProofProblem as problem
use Rattle.tree_state.specs.cert_step.ProofProblem.{ProofProblem, Holds, Says}
use Rattle.tree_state.specs.cert_step.PlainProblem.{plain}
use Rattle.tree_state.specs.cert_step.Subproblems.{AllHold}
use Rattle.tree_state.specs.cert_step.declared.claim.Claim.{Claim}
use Rattle.tree_state.specs.cert_step.declared.claim.Claim.TheVariants as claim
use Rattle.tree_state.proofs.cert_step.Soundness.{sound_step}
use Rattle.tree_state.proofs.cert_step.NodeSoundness.{root_says}
use Rattle.tree_state.specs.tree_definitions.declared.question.Question.{Question}
use Rattle.tree_state.specs.tree_definitions.Questions.{claims}
use Rattle.tree_state.specs.tree_definitions.States.{TreeNode, Decided}
use Rattle.tree_state.specs.tree_definitions.Verdicts.{IsClosed, closed}
use Rattle.tree_state.specs.tree_definitions.Legal.{IsLegallyDecided}
use Rattle.tree_state.specs.Parts.{Parts}
use Rattle.tree_state.proofs.tree_definitions.Lookups.{one_value}
use Rattle.tree_core.specs.Invariant.{IsTree}
use Rattle.tree_state.proofs.tree_definitions.Roots.{root_below, claims_fit}

each_holds : (system : System) (ps : List ProofProblem) → ((k : ℕ) (q : ProofProblem) → slice_get ps k ≡ Some q → Holds system q) → AllHold system ps
each_holds system [] h = tt
each_holds system (p ∷ ps) h = (h 0 p refl, each_holds system ps (λ k q there. h (suc k) q there))

-- the way in which a problem is to be shown does not change what it says
plain_holds : (system : System) (p : ProofProblem) → Holds system p → Holds system (plain p)
plain_holds system problem.sn h = h
plain_holds system (problem.dp numbers) h = h
plain_holds system problem.loop h = h
plain_holds system problem.cr h = h
plain_holds system problem.cr_newman h = h
plain_holds system problem.fork h = h
plain_holds system problem.unr h = h
plain_holds system problem.unr_newman h = h
plain_holds system problem.split h = h

-- the problem of a closed node holds
module _ (system : System) (valid : IsSystem system) (budget : ℕ) (nodes : List TreeNode)
    (legal : (n : ℕ) (node : TreeNode) (d : Decided) → slice_get nodes n ≡ Some node → node.decision ≡ Some d → IsLegallyDecided system budget nodes node d) where
  pub closed_holds : (n : ℕ) → IsClosed nodes n → (node : TreeNode) → slice_get nodes n ≡ Some node → Holds system node.problem
  closed_holds _ (closed n x d there dec children) node here =
      let l = legal n x d there dec in
      let same = one_value (slice_get nodes n) x node there here in
      let below : (k : ℕ) (q : ProofProblem) → slice_get l.left k ≡ Some q → Holds system q = λ k q at.
      let c = l.children k q at in
      let lt = slice_get_within l.left k q at in
      let h = closed_holds (d.first + k) (children (d.first + k) (omega arith, omega (arith, lt, l.count))) c.node c.there in
      subst (Holds system) c.problem_is h in
      subst (λ (y : TreeNode). Holds system y.problem) same (sound_step system x.problem d.step l.left valid l.well_made l.applies (each_holds system l.left below))

module _ (question : Question) (system : System) (budget : ℕ) (p : Parts) (tree : IsTree question system budget p) where
  pub won_says : (g : ℕ) → p.state.winner ≡ Some g → (c : Claim) → slice_get (claims question) g ≡ Some c → Says system c
  won_says g e c is =
      let won = tree.counted.winner g e in
      let q = root_below question g won.0 in
      let r = tree.rooted g q.0 q.1 in
      let h = closed_holds system tree.valid.is_system budget p.state.nodes tree.legal.decided g won.1 r.node r.there in
      let fits = ap plain r.problem_is ∙ claims_fit question g q.0 c q.1 is in
      root_says system c (subst (Holds system) fits (plain_holds system r.node.problem h))
