-- The steps of a proof lead to one answer.
use Rattle.std.proofs.Common.{◌≡◌, ◌≢◌, ◌⊎◌, inl, inr, ℕ, zero, suc, ◌<◌, Bool, true, false, nat_lt, List, [], ◌∷◌, Some, take, slice_get, refl, sym, ap, subst, ◌∙◌, arith}
use Rattle.std.proofs.lemmas.Bool.{ltb-true, ltb-false}
use Rattle.trs_defs.specs.System.{System, IsSystem}
use Rattle.cert_text.specs.cert_step.declared.claim.Claim.{Claim}
use Rattle.cert_text.specs.cert_step.ProofProblem.{ProofProblem}
use Rattle.cert_text.specs.cert_step.ProofStep.{ProofNodeStep}
use Rattle.cert_text.specs.cert_step.Applies.{Applies}
use Rattle.cert_text.specs.cert_step.Refused.{IsStepRefused}
use Rattle.cert_text.proofs.cert_step.Once.{applies_once, not_both, refused_once}
use Rattle.certifier.specs.declared.rejected.Rejected.{Rejected}
use Rattle.certifier.specs.declared.rejected.Rejected.TheVariants.{Problem, Text, Version, Headline, NoNode, Decided, Step, Open, OutOfMemory}
use Rattle.cert_text.specs.cert_step.Nodes.{Node, open_node, nodes_after, Makes, first_nodes, IsAccepted, IsLeftOpen}
use Rattle.certifier.specs.Checked.{IsStuck, AreRejected}
use Rattle.cert_text.proofs.cert_step.NodeSoundness.{same_problem}

-- ---- steps that are made

pub same_after : (system : System) (nodes : List Node) (s : ProofNodeStep) (p q : ProofProblem) (subproblems others : List ProofProblem)
    → slice_get nodes s.node ≡ Some (open_node p) → slice_get nodes s.node ≡ Some (open_node q) → Applies system p s.step subproblems → Applies system q s.step others
    → nodes_after nodes s.node p subproblems ≡ nodes_after nodes s.node q others
same_after system nodes s p q subproblems others here there a b =
    let problems : p ≡ q = same_problem nodes s.node p q here there in
    let lists : subproblems ≡ others = applies_once system q s.step subproblems others (subst (λ x. Applies system x s.step subproblems) problems a) b in
    cc

pub made_once : (system : System) (steps : List ProofNodeStep) (nodes a b : List Node) → Makes system nodes steps a → Makes system nodes steps b → a ≡ b
made_once system [] nodes a b h k = sym h ∙ k
made_once system (s ∷ steps) nodes a b h k =
    let same = same_after system nodes s h.0 k.0 h.1 k.1 h.2 k.2 h.3 k.3 in
    made_once system steps (nodes_after nodes s.node k.0 k.1) a b (subst (λ x. Makes system x steps a) same h.4) k.4

-- ---- a step that can't be made

abbrev IsHalted : System → List Node → ProofNodeStep → Type 0
IsHalted system nodes s = (p : ProofProblem) (subproblems : List ProofProblem) → slice_get nodes s.node ≡ Some (open_node p) → Applies system p s.step subproblems → ⊥

-- the steps before number i are made and lead to these nodes, and step i stands there and can't be made
record Halts (system : System) (nodes : List Node) (steps : List ProofNodeStep) (i : ℕ) (mid : List Node) (s : ProofNodeStep) : Type 0 where
  makes : Makes system nodes (take i steps) mid
  there : slice_get steps i ≡ Some s
  halted : IsHalted system mid s

halts_here : (system : System) (nodes mid : List Node) (t s : ProofNodeStep) (steps : List ProofNodeStep) → Halts system nodes (t ∷ steps) 0 mid s → IsHalted system nodes t
halts_here system nodes mid t s steps h p subproblems e a =
    let step : t ≡ s = cc (h.there) in
    let here : nodes ≡ mid = h.makes in
    h.halted p subproblems
    (subst (λ (x : ProofNodeStep). slice_get mid x.node ≡ Some (open_node p)) step (subst (λ (x : List Node). slice_get x t.node ≡ Some (open_node p)) here e))
    (subst (λ (x : ProofNodeStep). Applies system p x.step subproblems) step a)

halts_later : (system : System) (nodes mid : List Node) (t s : ProofNodeStep) (steps : List ProofNodeStep) (i : ℕ) (p : ProofProblem) (subproblems : List ProofProblem)
    → slice_get nodes t.node ≡ Some (open_node p) → Applies system p t.step subproblems → Halts system nodes (t ∷ steps) (suc i) mid s → Halts system (nodes_after nodes t.node p subproblems) steps i mid s
halts_later system nodes mid t s steps i p subproblems e a h =
    let same = same_after system nodes t h.makes.0 p h.makes.1 subproblems h.makes.2 e h.makes.3 a in
    record {
      makes = subst (λ x. Makes system x (take i steps) mid) same h.makes.4;
      there = h.there;
      halted = h.halted;
    }

not_made : (system : System) (steps : List ProofNodeStep) (nodes : List Node) (i : ℕ) (mid : List Node) (s : ProofNodeStep) (last : List Node) → Halts system nodes steps i mid s → Makes system nodes steps last → ⊥
not_made system [] nodes i mid s last h makes = let e = h.there in cc
not_made system (t ∷ steps) nodes zero mid s last h makes = halts_here system nodes mid t s steps h makes.0 makes.1 makes.2 makes.3
not_made system (t ∷ steps) nodes (suc i) mid s last h makes =
    not_made system steps (nodes_after nodes t.node makes.0 makes.1) i mid s last
    (halts_later system nodes mid t s steps i makes.0 makes.1 makes.2 makes.3 h) makes.4

-- two halts are the same
pub record IsSameHalt (i j : ℕ) (mid other : List Node) (s t : ProofNodeStep) : Type 0 where
  numbers : i ≡ j
  nodes : mid ≡ other
  steps : s ≡ t

one_later : (i j : ℕ) (mid other : List Node) (s t : ProofNodeStep) → IsSameHalt i j mid other s t → IsSameHalt (suc i) (suc j) mid other s t
one_later i j mid other s t h = record { numbers = ap suc h.numbers; nodes = h.nodes; steps = h.steps }

halts_once : (system : System) (steps : List ProofNodeStep) (nodes : List Node) (i j : ℕ) (mid other : List Node) (s t : ProofNodeStep)
    → Halts system nodes steps i mid s → Halts system nodes steps j other t → IsSameHalt i j mid other s t
halts_once system [] nodes i j mid other s t h k = let e = h.there in absurd cc
halts_once system (r ∷ steps) nodes zero zero mid other s t h k =
    let a = h.there in let b = k.there in
    record { numbers = refl; nodes = sym h.makes ∙ k.makes; steps = cc }
halts_once system (r ∷ steps) nodes zero (suc j) mid other s t h k =
    absurd (halts_here system nodes mid r s steps h k.makes.0 k.makes.1 k.makes.2 k.makes.3)
halts_once system (r ∷ steps) nodes (suc i) zero mid other s t h k =
    absurd (halts_here system nodes other r t steps k h.makes.0 h.makes.1 h.makes.2 h.makes.3)
halts_once system (r ∷ steps) nodes (suc i) (suc j) mid other s t h k =
    one_later i j mid other s t
    (halts_once system steps (nodes_after nodes r.node k.makes.0 k.makes.1) i j mid other s t
    (halts_later system nodes mid r s steps i k.makes.0 k.makes.1 k.makes.2 k.makes.3 h)
    (halts_later system nodes other r t steps j k.makes.0 k.makes.1 k.makes.2 k.makes.3 k))

-- ---- why a step is not made

pub stuck_halts : (system : System) (nodes : List Node) (s : ProofNodeStep) (i : ℕ) (why : Rejected) → IsSystem system → why ≢ OutOfMemory → IsStuck system nodes s i why → IsHalted system nodes s
stuck_halts system nodes s i (NoNode k) valid n h p subproblems e a = let none = h.1 in cc
stuck_halts system nodes s i (Decided k) valid n h p subproblems e a =
    let closed = h.1.2 in let there = h.1.1 in
    let same : h.1.0 ≡ open_node p = cc in
    let opened = ap (λ (x : Node). x.is_open) same in cc
stuck_halts system nodes s i (Step k why) valid n h p subproblems e a =
    let same : h.1.0 ≡ p = same_problem nodes s.node h.1.0 p h.1.1 e in
    not_both system valid p s.step subproblems why a (subst (λ x. IsStepRefused system x s.step why) same h.1.2)
stuck_halts system nodes s i OutOfMemory valid n h p subproblems e a = n refl
stuck_halts system nodes s i _ valid n h p subproblems e a = h

stuck_once : (system : System) (nodes : List Node) (s : ProofNodeStep) (i : ℕ) (why other : Rejected) → IsSystem system → why ≢ OutOfMemory → other ≢ OutOfMemory
    → IsStuck system nodes s i why → IsStuck system nodes s i other → why ≡ other
stuck_once system nodes s i OutOfMemory other valid n m h k = absurd (n refl)
stuck_once system nodes s i why OutOfMemory valid n m h k = absurd (m refl)
stuck_once system nodes s i (NoNode a) (NoNode b) valid n m h k = ap (λ x. NoNode x) (h.0 ∙ sym k.0)
stuck_once system nodes s i (Decided a) (Decided b) valid n m h k = ap (λ x. Decided x) (h.0 ∙ sym k.0)
stuck_once system nodes s i (Step a why) (Step b other) valid n m h k =
    let same : h.1.0 ≡ k.1.0 = same_problem nodes s.node h.1.0 k.1.0 h.1.1 k.1.1 in
    let numbers : a ≡ b = h.0 ∙ sym k.0 in
    let reasons : why ≡ other = refused_once system valid k.1.0 s.step why other (subst (λ x. IsStepRefused system x s.step why) same h.1.2) k.1.2 in
    cc
stuck_once system nodes s i (NoNode a) (Decided b) valid n m h k = let none = h.1 in let some = k.1.1 in absurd cc
stuck_once system nodes s i (NoNode a) (Step b other) valid n m h k = let none = h.1 in let some = k.1.1 in absurd cc
stuck_once system nodes s i (Decided a) (NoNode b) valid n m h k = let none = k.1 in let some = h.1.1 in absurd cc
stuck_once system nodes s i (Step a why) (NoNode b) valid n m h k = let none = k.1 in let some = h.1.1 in absurd cc
stuck_once system nodes s i (Decided a) (Step b other) valid n m h k =
    let there = h.1.1 in let here = k.1.1 in
    let same : h.1.0 ≡ open_node k.1.0 = cc in
    let closed = h.1.2 in
    let opened = ap (λ (x : Node). x.is_open) same in absurd cc
stuck_once system nodes s i (Step a why) (Decided b) valid n m h k =
    let there = k.1.1 in let here = h.1.1 in
    let same : k.1.0 ≡ open_node h.1.0 = cc in
    let closed = k.1.2 in
    let opened = ap (λ (x : Node). x.is_open) same in absurd cc
stuck_once system nodes s i (Problem f) other valid n m h k = absurd h
stuck_once system nodes s i (Text p) other valid n m h k = absurd h
stuck_once system nodes s i (Version v) other valid n m h k = absurd h
stuck_once system nodes s i Headline other valid n m h k = absurd h
stuck_once system nodes s i (Open a) other valid n m h k = absurd h
stuck_once system nodes s i why (Problem f) valid n m h k = absurd k
stuck_once system nodes s i why (Text p) valid n m h k = absurd k
stuck_once system nodes s i why (Version v) valid n m h k = absurd k
stuck_once system nodes s i why Headline valid n m h k = absurd k
stuck_once system nodes s i why (Open a) valid n m h k = absurd k

-- ---- answers

-- a step is not made, for this reason
record IsStuckAt (system : System) (claim : Claim) (steps : List ProofNodeStep) (why : Rejected) : Type 0 where
  number : ℕ
  nodes : List Node
  step : ProofNodeStep
  makes : Makes system (first_nodes claim) (take number steps) nodes
  there : slice_get steps number ≡ Some step
  stuck : IsStuck system nodes step number why
  no_memory : why ≢ OutOfMemory

-- what is rejected, want of memory aside
abbrev Cause : System → Claim → List ProofNodeStep → Rejected → Type 0
Cause system claim steps why = IsStuckAt system claim steps why ⊎ ((n : ℕ) × (why ≡ Open n) × IsLeftOpen system claim steps n)

cause_of : (system : System) (claim : Claim) (steps : List ProofNodeStep) (why : Rejected) → AreRejected system claim steps why → (why ≡ OutOfMemory) ⊎ Cause system claim steps why
cause_of system claim steps (NoNode i) h =
    inr (inl (record { number = i; nodes = h.nodes; step = h.step; makes = h.next.makes; there = h.next.there; stuck = (refl, h.none); no_memory = λ e. cc }))
cause_of system claim steps (Decided i) h =
    inr (inl (record { number = i; nodes = h.nodes; step = h.step; makes = h.next.makes; there = h.next.there; stuck = (refl, (h.node, h.there, h.decided)); no_memory = λ e. cc }))
cause_of system claim steps (Step i why) h =
    inr (inl (record { number = i; nodes = h.nodes; step = h.step; makes = h.next.makes; there = h.next.there; stuck = (refl, (h.problem, h.there, h.refuses)); no_memory = λ e. cc }))
cause_of system claim steps (Open n) h = inr (inr (n, refl, h))
cause_of system claim steps OutOfMemory h = inl refl
cause_of system claim steps _ h = absurd h

halt_of : (system : System) (claim : Claim) (steps : List ProofNodeStep) (why : Rejected) → IsSystem system → (h : IsStuckAt system claim steps why) → Halts system (first_nodes claim) steps h.number h.nodes h.step
halt_of system claim steps why valid h =
    record { makes = h.makes; there = h.there; halted = stuck_halts system h.nodes h.step h.number why valid h.no_memory h.stuck }

stopped_once : (system : System) (claim : Claim) (steps : List ProofNodeStep) (why other : Rejected) → IsSystem system → IsStuckAt system claim steps why → IsStuckAt system claim steps other → why ≡ other
stopped_once system claim steps why other valid h k =
    let same = halts_once system steps (first_nodes claim) h.number k.number h.nodes k.nodes h.step k.step
    (halt_of system claim steps why valid h) (halt_of system claim steps other valid k) in
    let numbers = same.numbers in
    let stuck = subst (λ x. IsStuck system x k.step k.number why) same.nodes
    (subst (λ x. IsStuck system h.nodes x k.number why) same.steps (subst (λ x. IsStuck system h.nodes h.step x why) numbers h.stuck)) in
    stuck_once system k.nodes k.step k.number why other valid h.no_memory k.no_memory stuck k.stuck

not_below : (system : System) (claim : Claim) (steps : List ProofNodeStep) (n m : ℕ) → IsLeftOpen system claim steps n → IsLeftOpen system claim steps m → n < m → ⊥
not_below system claim steps n m h k lt =
    let nodes = made_once system steps (first_nodes claim) h.nodes k.nodes h.makes k.makes in
    let there = subst (λ (x : List Node). slice_get x n ≡ Some (open_node h.least.problem)) nodes h.least.there in
    let closed = k.least.least n (open_node h.least.problem) lt there in cc

open_once : (system : System) (claim : Claim) (steps : List ProofNodeStep) (n m : ℕ) → IsLeftOpen system claim steps n → IsLeftOpen system claim steps m → n ≡ m
open_once system claim steps n m h k = go (nat_lt n m) (nat_lt m n) refl refl
  where
    go : (a b : Bool) → nat_lt n m ≡ a → nat_lt m n ≡ b → n ≡ m
    go true b is is' = absurd (not_below system claim steps n m h k (ltb-true n m is))
    go false true is is' = absurd (not_below system claim steps m n k h (ltb-true m n is'))
    go false false is is' = omega (arith, ltb-false n m is, ltb-false m n is')

same_cause : (system : System) (claim : Claim) (steps : List ProofNodeStep) (why other : Rejected) → IsSystem system → Cause system claim steps why → Cause system claim steps other → why ≡ other
same_cause system claim steps why other valid (inl h) (inl k) = stopped_once system claim steps why other valid h k
same_cause system claim steps why other valid (inl h) (inr k) =
    absurd (not_made system steps (first_nodes claim) h.number h.nodes h.step k.2.nodes (halt_of system claim steps why valid h) k.2.makes)
same_cause system claim steps why other valid (inr h) (inl k) =
    absurd (not_made system steps (first_nodes claim) k.number k.nodes k.step h.2.nodes (halt_of system claim steps other valid k) h.2.makes)
same_cause system claim steps why other valid (inr h) (inr k) = h.1 ∙ ap (λ x. Open x) (open_once system claim steps h.0 k.0 h.2 k.2) ∙ sym k.1

-- want of memory aside, steps are rejected for one reason
pub rejected_once : (system : System) (claim : Claim) (steps : List ProofNodeStep) (why other : Rejected) → IsSystem system → AreRejected system claim steps why → AreRejected system claim steps other
    → why ≢ OutOfMemory → other ≢ OutOfMemory → why ≡ other
rejected_once system claim steps why other valid h k n m = elim (cause_of system claim steps why h) as (λ _. why ≡ other) [
  | inl memory ↦ absurd (n memory)
  | inr c ↦ elim (cause_of system claim steps other k) as (λ _. why ≡ other) [
    | inl memory ↦ absurd (m memory)
    | inr d ↦ same_cause system claim steps why other valid c d
  ]
]

no_cause : (system : System) (claim : Claim) (steps : List ProofNodeStep) (why : Rejected) → IsSystem system → IsAccepted system claim steps → Cause system claim steps why → ⊥
no_cause system claim steps why valid h (inl k) =
    not_made system steps (first_nodes claim) k.number k.nodes k.step h.nodes (halt_of system claim steps why valid k) h.makes
no_cause system claim steps why valid h (inr k) =
    let nodes = made_once system steps (first_nodes claim) k.2.nodes h.nodes k.2.makes h.makes in
    let there = subst (λ (x : List Node). slice_get x k.0 ≡ Some (open_node k.2.least.problem)) nodes k.2.least.there in
    let closed = h.decided k.0 (open_node k.2.least.problem) there in cc

-- steps that are accepted are rejected for want of memory alone
pub accepted_only : (system : System) (claim : Claim) (steps : List ProofNodeStep) (why : Rejected) → IsSystem system → IsAccepted system claim steps → AreRejected system claim steps why → why ≡ OutOfMemory
accepted_only system claim steps why valid h k = elim (cause_of system claim steps why k) as (λ _. why ≡ OutOfMemory) [
  | inl memory ↦ memory
  | inr c ↦ absurd (no_cause system claim steps why valid h c)
]
