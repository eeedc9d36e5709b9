-- Terms that have no redex, since no rule fits.
use Rattle.std.proofs.Common.{false, List, refl}
use Rattle.trs_defs.specs.Tree.{Tree}
use Rattle.trs_defs.specs.System.{RewriteRule}
use Rattle.trs_defs.specs.Step.{Step}
use Rattle.trs_defs.specs.NormalForm.{IsNormalForm}
use Rattle.term_pool.specs.Redex.{HasRedex}
use Rattle.term_pool.proofs.NormalForms.{normal_found}

pub normal_without_redex : (rules : List RewriteRule) (t : Tree) → (HasRedex rules t → ⊥) → IsNormalForm (Step rules) t
normal_without_redex rules t none = normal_found rules t false (λ e. absurd cc, λ h. absurd (none h)) refl
