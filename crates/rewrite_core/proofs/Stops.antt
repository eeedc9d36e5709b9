-- A path is followed or stopped, and stopped at one step for one fault.
use Rattle.std.specs.Prelude.{◌≡◌, ◌≢◌, ℕ, List, [], ◌∷◌, Some, None, IsSome, take, slice_get, refl}
use Rattle.std.proofs.Common.{zero, suc, ap, sym, subst}
use Rattle.trs_defs.specs.Tree.{Tree}
use Rattle.trs_defs.specs.System.{RewriteRule, System, IsSystem}
use Rattle.trs_defs.specs.Path.{PlacedRule, StepsAt, Follows}
use Rattle.trs_defs.proofs.Places.{steps_at_once}
use Rattle.term_pool.specs.declared.steps.StepFault.{StepFault}
use Rattle.term_pool.specs.declared.steps.StepFault.TheVariants as fault
use Rattle.term_pool.specs.Steps.{IsStepFault, HasNoMatch}
use Rattle.term_pool.specs.Paths.{PathStops}
use Rattle.rewrite_core.specs.PathCheck.{IsStopped, number_of_fault}
use Rattle.term_pool.proofs.StepLemmas.{fault_excludes}

no_match_excludes : (rules : List RewriteRule) (p : List ℕ) (k : ℕ) (t u : Tree) → HasNoMatch rules p k t → StepsAt rules p k t u → ⊥
no_match_excludes rules p k t u h s =
    let same : h.rule ≡ s.rule = cc in
    h.none (s.substitution, rw same cc)

some_rule : (rules : List RewriteRule) (k : ℕ) → slice_get rules k ≡ None → IsSome (slice_get rules k) → ⊥
some_rule rules k e h = let wrong = rw e at h in absurd cc

module _ (rules : List RewriteRule) (p : List ℕ) (k : ℕ) (t : Tree) where
  -- a step has at most one fault
  faults_once : (f g : StepFault) → IsStepFault rules p k t f → f ≢ fault.OutOfMemory → IsStepFault rules p k t g → g ≢ fault.OutOfMemory → f ≡ g
  faults_once fault.OutOfMemory g a n b m = absurd (n refl)
  faults_once f fault.OutOfMemory a n b m = absurd (m refl)
  faults_once fault.NoRule fault.NoRule a n b m = refl
  faults_once fault.NoRule fault.NoPosition a n b m = absurd (some_rule rules k a b.0)
  faults_once fault.NoRule fault.NoMatch a n b m = absurd cc
  faults_once fault.NoRule fault.TooLarge a n b m = let s = b.steps in absurd cc
  faults_once fault.NoPosition fault.NoRule a n b m = absurd (some_rule rules k b a.0)
  faults_once fault.NoPosition fault.NoPosition a n b m = refl
  faults_once fault.NoPosition fault.NoMatch a n b m = let none = a.1 in absurd cc
  faults_once fault.NoPosition fault.TooLarge a n b m = let none = a.1 in let s = b.steps in absurd cc
  faults_once fault.NoMatch fault.NoRule a n b m = absurd cc
  faults_once fault.NoMatch fault.NoPosition a n b m = let none = b.1 in absurd cc
  faults_once fault.NoMatch fault.NoMatch a n b m = refl
  faults_once fault.NoMatch fault.TooLarge a n b m = absurd (no_match_excludes rules p k t b.result a b.steps)
  faults_once fault.TooLarge fault.NoRule a n b m = let s = a.steps in absurd cc
  faults_once fault.TooLarge fault.NoPosition a n b m = let none = b.1 in let s = a.steps in absurd cc
  faults_once fault.TooLarge fault.NoMatch a n b m = absurd (no_match_excludes rules p k t a.result b a.steps)
  faults_once fault.TooLarge fault.TooLarge a n b m = refl

-- the path from t is followed to `made` by its first k steps, and the next one has this fault
record IsStop (rules : List RewriteRule) (path : List PlacedRule) (t : Tree) (k : ℕ) (f : StepFault) (made : Tree) (step : PlacedRule) : Type 0 where
  follows : Follows rules (take k path) t made
  there : slice_get path k ≡ Some step
  cause : IsStepFault rules step.place step.rule made f
  no_memory : f ≢ fault.OutOfMemory

stop_of : (rules : List RewriteRule) (path : List PlacedRule) (t : Tree) (k : ℕ) (f : StepFault) → (s : PathStops rules path t k f)
    → IsStop rules path t k f s.made s.step
stop_of rules path t k f s = record { follows = s.follows; there = s.there; cause = s.fault; no_memory = s.no_memory }

module _ (system : System) (valid : IsSystem system) where
  -- the fault of a path's first step
  first_fault : (s : PlacedRule) (path : List PlacedRule) (t : Tree) (f : StepFault) (made : Tree) (step : PlacedRule)
      → IsStop system.rules (s ∷ path) t 0 f made step → IsStepFault system.rules s.place s.rule t f
  first_fault s path t f made step h =
      let same : step ≡ s = cc (h.there) in
      subst (λ x. IsStepFault system.rules x.place x.rule t f) same
      (subst (λ x. IsStepFault system.rules step.place step.rule x f) (sym h.follows) h.cause)

  -- the rest of a path that is stopped later
  later_stop : (s : PlacedRule) (path : List PlacedRule) (t u : Tree) (k : ℕ) (f : StepFault) (made : Tree) (step : PlacedRule)
      → StepsAt system.rules s.place s.rule t u
      → IsStop system.rules (s ∷ path) t (suc k) f made step → IsStop system.rules path u k f made step
  later_stop s path t u k f made step first h =
      let same : h.follows.0 ≡ u = steps_at_once system s.place s.rule t h.follows.0 u valid h.follows.1 first in
      record {
        follows = subst (λ x. Follows system.rules (take k path) x made) same h.follows.3;
        there = h.there;
        cause = h.cause;
        no_memory = h.no_memory;
      }

  not_followed : (path : List PlacedRule) (t u : Tree) (k : ℕ) (f : StepFault) (made : Tree) (step : PlacedRule)
      → IsStop system.rules path t k f made step → Follows system.rules path t u → ⊥
  not_followed [] t u k f made step h follows = let e = h.there in absurd cc
  not_followed (s ∷ path) t u zero f made step h follows =
      fault_excludes system s.place s.rule t follows.0 f valid (first_fault s path t f made step h) h.no_memory follows.1 follows.2
  not_followed (s ∷ path) t u (suc k) f made step h follows =
      not_followed path follows.0 u k f made step (later_stop s path t follows.0 k f made step follows.1 h) follows.3

  -- A path that is followed is not stopped.
  pub stop_excludes : (path : List PlacedRule) (t u : Tree) (k n : ℕ) → IsStopped system.rules path t k n → Follows system.rules path t u → ⊥
  stop_excludes path t u k n h follows =
      not_followed path t u k h.cause h.stops.made h.stops.step (stop_of system.rules path t k h.cause h.stops) follows

  same_stop : (path : List PlacedRule) (t : Tree) (k : ℕ) (f : StepFault) (made : Tree) (step : PlacedRule) (k' : ℕ) (f' : StepFault) (made' : Tree) (step' : PlacedRule)
      → IsStop system.rules path t k f made step → IsStop system.rules path t k' f' made' step' → (k ≡ k') × (f ≡ f')
  same_stop [] t k f made step k' f' made' step' a b = let e = a.there in absurd cc
  same_stop (s ∷ path) t zero f made step zero f' made' step' a b = (
    refl,
    faults_once system.rules s.place s.rule t f f' (first_fault s path t f made step a) a.no_memory (first_fault s path t f' made' step' b) b.no_memory,
  )
  same_stop (s ∷ path) t zero f made step (suc k') f' made' step' a b =
      absurd (fault_excludes system s.place s.rule t b.follows.0 f valid (first_fault s path t f made step a) a.no_memory b.follows.1 b.follows.2)
  same_stop (s ∷ path) t (suc k) f made step zero f' made' step' a b =
      absurd (fault_excludes system s.place s.rule t a.follows.0 f' valid (first_fault s path t f' made' step' b) b.no_memory a.follows.1 a.follows.2)
  same_stop (s ∷ path) t (suc k) f made step (suc k') f' made' step' a b =
      let rest = same_stop path a.follows.0 k f made step k' f' made' step' (later_stop s path t a.follows.0 k f made step a.follows.1 a)
      (later_stop s path t a.follows.0 k' f' made' step' a.follows.1 b) in
      (ap suc rest.0, rest.1)

  -- A path is stopped at one step, for one fault.
  pub stops_once : (path : List PlacedRule) (t : Tree) (k n k' n' : ℕ) → IsStopped system.rules path t k n → IsStopped system.rules path t k' n' → (k ≡ k') × (n ≡ n')
  stops_once path t k n k' n' a b =
      let same = same_stop path t k a.cause a.stops.made a.stops.step k' b.cause b.stops.made b.stops.step
      (stop_of system.rules path t k a.cause a.stops) (stop_of system.rules path t k' b.cause b.stops) in
      let numbers = ap number_of_fault same.1 in
      (same.0, cc (a.number, b.number, numbers))
