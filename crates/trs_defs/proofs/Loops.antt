-- Loops give derivations of each length.
use Rattle.std.specs.Prelude.{◌≡◌, ℕ, List, [], ◌∷◌, Some, length, refl}
use Rattle.std.proofs.Common.{zero, suc, subst}
use Rattle.trs_defs.specs.Derivation.{Derivation}
use Rattle.trs_defs.specs.Tree.{Tree}
use Rattle.trs_defs.specs.WellFormed.{IsWellFormed}
use Rattle.trs_defs.specs.Substitution.{apply}
use Rattle.trs_defs.specs.Position.{subterm_at}
use Rattle.trs_defs.specs.System.{System, Among}
use Rattle.trs_defs.specs.Step.{Inside, RootStep, Step}
use Rattle.trs_defs.specs.Path.{PlacedRule}
use Rattle.trs_defs.specs.Loop.{IsLoop}
use Rattle.trs_defs.specs.Claims.{IsEndless}
use Rattle.trs_defs.proofs.Derivations.{derivation_carried, derivation_joined, derivation_begun}
use Rattle.trs_defs.proofs.Substitutions.{IsClosedUnderSubstitutions, inside_closed, root_step_closed}
use Rattle.trs_defs.proofs.Contexts.{context_at}
use Rattle.trs_defs.proofs.Places.{derivation_of_follows}

-- A term that reaches, in one step or more, a term that holds an instance of it starts a derivation of each length.
pub endless_from_loop : (R : Tree → Tree → Type 0) → IsClosedUnderSubstitutions R → (k : ℕ) (p : List ℕ) (t u : Tree) (s : ℕ → Tree)
    → Derivation (Inside R) (suc k) t u → subterm_at p u ≡ Some (apply s t) → (n : ℕ) → (v : Tree) × Derivation (Inside R) n t v
endless_from_loop R closed k p t u s d at zero = (t, refl)
endless_from_loop R closed k p t u s d at (suc n) =
    let shorter = endless_from_loop R closed k p t u s d at n in
    let steps = inside_closed R closed in
    let instance : Derivation (Inside R) n (apply s t) (apply s shorter.0) =
    derivation_carried (Inside R) (Inside R) (apply s) (λ a b. steps.instance s a b) n t shorter.0 shorter.1 in
    let around = context_at R p u (apply s t) at in
    let whole = derivation_carried (Inside R) (Inside R) around.0 around.1.keeps.step n (apply s t) (apply s shorter.0) instance in
    let from : Derivation (Inside R) n u (around.0 (apply s shorter.0)) =
    subst (λ x. Derivation (Inside R) n x (around.0 (apply s shorter.0))) around.1.filled whole in
    let joined = derivation_joined (Inside R) k n d.0 u (around.0 (apply s shorter.0)) d.2 from in
    let rest = derivation_begun (Inside R) k n d.0 (around.0 (apply s shorter.0)) joined in
    (rest.0, (d.0, d.1, rest.1))

-- A loop makes the system endless.
pub endless_of_loop : (system : System) (start : Tree) (path : List PlacedRule) (place : List ℕ)
    → IsWellFormed system.arities start → IsLoop system.rules start path place → IsEndless system
endless_of_loop system start [] place well_formed loop = absurd (loop.steps refl)
endless_of_loop system start (s ∷ path) place well_formed loop =
    let d : Derivation (Step system.rules) (suc (length path)) start loop.end =
    derivation_of_follows system.rules (s ∷ path) start loop.end loop.follows in
    let at : subterm_at place loop.end ≡ Some (apply loop.instance.0 start) = cc (loop.there, loop.instance.1) in (
      start,
      well_formed,
      endless_from_loop (RootStep (Among system.rules)) (root_step_closed (Among system.rules)) (length path) place start loop.end loop.instance.0 d at,
    )
