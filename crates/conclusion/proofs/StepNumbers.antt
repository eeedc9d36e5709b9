-- Steps that are accepted are on nodes whose numbers are less than how many steps there are.
use Rattle.std.proofs.Common.{◌≡◌, ◌≤◌, ◌<◌, ◌+◌, ◌^◌, ℕ, zero, suc, false, cond, List, [], ◌∷◌, ◌++◌, map, length, length-append, Some, slice_get, set, All, refl, sym, subst, arith}
use Rattle.std.specs.List.{AllByRecursion}
use Rattle.std.proofs.lemmas.List.Elements.{recursion_from_All, All-from_recursion}
use Rattle.trs_defs.specs.System.{System}
use Rattle.cert_text.specs.cert_step.declared.claim.Claim.{Claim}
use Rattle.cert_text.specs.cert_step.ProofProblem.{ProofProblem}
use Rattle.cert_text.specs.cert_step.ProofStep.{ProofNodeStep, IsWellMade}
use Rattle.cert_text.specs.step_text.Ranges.{IsPrintable}
use Rattle.cert_text.specs.cert_step.Nodes.{Node, open_node, nodes_after, Makes, AreDecided, first_nodes, IsAccepted}

-- ---- each step closes one node, and in the end all are closed

-- how many nodes have a step
abbrev closed : List Node → ℕ
closed [] = 0
closed (x ∷ xs) = cond x.is_open 0 1 + closed xs

closed_append : (xs ys : List Node) → closed (xs ++ ys) ≡ closed xs + closed ys
closed_append [] ys = omega arith
closed_append (x ∷ xs) ys = let rest = closed_append xs ys in omega (arith, rest)

none_closed : (ps : List ProofProblem) → closed (map open_node ps) ≡ 0
none_closed [] = refl
none_closed (p ∷ ps) = let rest = none_closed ps in omega (arith, rest)

abbrev closed_node : ProofProblem → Node
closed_node p = record { problem = p; is_open = false }

one_closed : (nodes : List Node) (n : ℕ) (p : ProofProblem) → slice_get nodes n ≡ Some (open_node p) → closed (set nodes n (closed_node p)) ≡ suc (closed nodes)
one_closed [] n p e = absurd cc
one_closed (x ∷ nodes) zero p e =
    let is : x ≡ open_node p = cc in subst (λ (y : Node). 1 + closed nodes ≡ suc (cond y.is_open 0 1 + closed nodes)) (sym is) (omega arith)
one_closed (x ∷ nodes) (suc n) p e = let rest = one_closed nodes n p e in omega (arith, rest)

closed_after_one : (nodes : List Node) (n : ℕ) (p : ProofProblem) (left : List ProofProblem) → slice_get nodes n ≡ Some (open_node p)
    → closed (nodes_after nodes n p left) ≡ suc (closed nodes)
closed_after_one nodes n p left e =
    let both : closed (nodes_after nodes n p left) ≡ closed (set nodes n (closed_node p)) + closed (map open_node left) =
    closed_append (set nodes n (closed_node p)) (map open_node left) in
    let one : closed (set nodes n (closed_node p)) ≡ suc (closed nodes) = one_closed nodes n p e in
    let none : closed (map open_node left) ≡ 0 = none_closed left in
    omega (arith, both, one, none)

closed_after : (system : System) (steps : List ProofNodeStep) (nodes last : List Node) → Makes system nodes steps last → closed last ≡ closed nodes + length steps
closed_after system [] nodes last makes = subst (λ z. closed z ≡ closed nodes + 0) makes (omega arith)
closed_after system (s ∷ steps) nodes last makes =
    let one = closed_after_one nodes s.node makes.0 makes.1 makes.2 in
    let rest = closed_after system steps (nodes_after nodes s.node makes.0 makes.1) last makes.4 in
    omega (arith, one, rest)

all_closed : (nodes : List Node) → AreDecided nodes → closed nodes ≡ length nodes
all_closed [] decided = refl
all_closed (x ∷ nodes) decided =
    let here : x.is_open ≡ false = decided 0 x refl in
    let rest = all_closed nodes (λ n node e. decided (suc n) node e) in
    subst (λ b. cond b 0 1 + closed nodes ≡ length (x ∷ nodes)) (sym here) (omega (arith, rest))

-- ---- so the number of a node is less than how many steps there are

is_there : (nodes : List Node) (n : ℕ) (x : Node) → slice_get nodes n ≡ Some x → n < length nodes
is_there [] n x e = absurd cc
is_there (y ∷ nodes) zero x e = omega arith
is_there (y ∷ nodes) (suc n) x e = let rest = is_there nodes n x e in omega (arith, rest)

longer : (nodes more : List Node) (n : ℕ) (x : Node) → length nodes ≤ length (set nodes n x ++ more)
longer [] more n x = omega arith
longer (y ∷ nodes) more zero x = let both = length-append nodes more in omega (arith, both)
longer (y ∷ nodes) more (suc n) x = let rest = longer nodes more n x in omega (arith, rest)

grows : (system : System) (steps : List ProofNodeStep) (nodes last : List Node) → Makes system nodes steps last → length nodes ≤ length last
grows system [] nodes last makes = subst (λ (z : List Node). length nodes ≤ length z) makes (omega arith)
grows system (s ∷ steps) nodes last makes =
    let here : length nodes ≤ length (nodes_after nodes s.node makes.0 makes.1) = longer nodes (map open_node makes.1) s.node (closed_node makes.0) in
    let rest = grows system steps (nodes_after nodes s.node makes.0 makes.1) last makes.4 in
    omega (arith, here, rest)

-- the steps are on nodes with numbers below a bound
abbrev pub AreBelow : ℕ → List ProofNodeStep → Type 0
AreBelow bound steps = AllByRecursion (λ (s : ProofNodeStep). s.node < bound) steps

made_below : (system : System) (steps : List ProofNodeStep) (nodes last : List Node) → Makes system nodes steps last → AreBelow (length last) steps
made_below system [] nodes last makes = tt
made_below system (s ∷ steps) nodes last makes =
    let here = is_there nodes s.node (open_node makes.0) makes.2 in
    let more = grows system (s ∷ steps) nodes last makes in
    (omega (arith, here, more), made_below system steps (nodes_after nodes s.node makes.0 makes.1) last makes.4)

accepted_below : (system : System) (claim : Claim) (steps : List ProofNodeStep) → IsAccepted system claim steps → AreBelow (length steps) steps
accepted_below system claim steps h =
    let first : closed (first_nodes claim) ≡ 0 = refl in
    let count = closed_after system steps (first_nodes claim) h.nodes h.makes in
    let all = all_closed h.nodes h.decided in
    let same : length h.nodes ≡ length steps = omega (arith, first, count, all) in
    subst (λ bound. AreBelow bound steps) same (made_below system steps (first_nodes claim) h.nodes h.makes)

both : (system : System) (bound : ℕ) (steps : List ProofNodeStep) → bound < 2 ^ 63 → AllByRecursion (λ (s : ProofNodeStep). IsWellMade system s.step) steps → AreBelow bound steps
    → AllByRecursion (IsPrintable system) steps
both system bound [] few made below = tt
both system bound (s ∷ steps) few made below = ((made.0, omega (arith, below.0, few)), both system bound steps few made.1 below.1)

-- a proof that is accepted can be printed
pub accepted_printable : (system : System) (claim : Claim) (steps : List ProofNodeStep) → length steps < 2 ^ 63 → All (λ s. IsWellMade system s.step) steps → IsAccepted system claim steps
    → All (IsPrintable system) steps
accepted_printable system claim steps few made accepted =
    All-from_recursion (IsPrintable system) steps
    (both system (length steps) steps few (recursion_from_All (λ (s : ProofNodeStep). IsWellMade system s.step) steps made) (accepted_below system claim steps accepted))
