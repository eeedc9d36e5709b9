-- Confluence, as what shows unique normal forms.
use Rattle.std.specs.Prelude.{Bool, true, false, List, [], ◌∷◌}
use Rattle.rewrite_core.specs.Check.{Check, Returns}
use Rattle.cert_step.specs.ProofProblem as problem
use Rattle.cert_step.specs.ProofProblem.{ProofProblem}
use Rattle.cert_step.specs.Kind.{Kind}

abbrev pub for_confluence : ProofProblem → Bool
for_confluence problem.unr = true
for_confluence problem.unr_newman = true
for_confluence _ = false

-- the problem of confluence that is left; no other problems are asked
abbrev pub confluence_conditions : ProofProblem → Check (List ProofProblem)
confluence_conditions problem.unr = Returns (problem.cr ∷ [])
confluence_conditions problem.unr_newman = Returns (problem.cr_newman ∷ [])
confluence_conditions _ = λ _. ⊥

abbrev pub confluence_kind : Kind
confluence_kind = record {
  is_for = for_confluence;
  is_well_made = λ system. Unit {0};
  conditions = λ system p. confluence_conditions p;
}
