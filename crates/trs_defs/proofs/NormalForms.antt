-- Two different normal forms are not joinable.
use Rattle.std.specs.Prelude.{◌≡◌, ◌≢◌, ℕ}
use Rattle.std.proofs.Common.{zero, suc, sym, ◌∙◌}
use Rattle.trs_defs.specs.Derivation.{Derivation, Reaches}
use Rattle.trs_defs.specs.Joinable.{IsJoinable}
use Rattle.trs_defs.specs.NormalForm.{IsNormalForm}
use Rattle.trs_defs.specs.Tree.{Tree}
use Rattle.trs_defs.specs.WellFormed.{IsWellFormed}
use Rattle.trs_defs.specs.Claims.{IsForked}
use Rattle.trs_defs.specs.System.{System}
use Rattle.trs_defs.specs.Step.{Step}

-- A normal form reaches only itself.
pub normal_stays : {T : Type 0} (R : T → T → Type 0) (t : T) → IsNormalForm R t → (n : ℕ) (v : T) → Derivation R n t v → t ≡ v
normal_stays R t normal zero v e = e
normal_stays R t normal (suc n) v (m, step, d) = absurd (normal m step)

pub joinable_equal : {T : Type 0} (R : T → T → Type 0) (t u : T) → IsNormalForm R t → IsNormalForm R u → IsJoinable R t u → t ≡ u
joinable_equal R t u normal normal' (v, (n, d), (n', d')) = normal_stays R t normal n v d ∙ sym (normal_stays R u normal' n' v d')

-- A system is forked where a well-formed term reaches two different normal forms.
pub forked_by_normal_forms : (system : System) (s t u : Tree) → IsWellFormed system.arities s
    → Reaches (Step system.rules) s t → Reaches (Step system.rules) s u
    → IsNormalForm (Step system.rules) t → IsNormalForm (Step system.rules) u → t ≢ u → IsForked system
forked_by_normal_forms system s t u well st su normal normal' different =
    (s, t, u, well, st, su, λ j. different (joinable_equal (Step system.rules) t u normal normal' j))
