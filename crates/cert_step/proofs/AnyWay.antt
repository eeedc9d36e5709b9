-- A step that applies to a problem applies to it in whichever way it is to be shown, and leaves the same subproblems.
use Rattle.std.specs.Prelude.{◌≡◌, ℕ, Bool, List, [], ◌∷◌, map, Ok, IsTrue, refl}
use Rattle.std.proofs.Common.{sym, ap, subst}
use Rattle.trs_defs.specs.System.{System}
use Rattle.rewrite_core.specs.declared.checks.forks.ForkTest.{ForkTest}
use Rattle.rewrite_core.specs.declared.checks.forks.ForkTest.TheVariants.{Normal, Apart}
use Rattle.rewrite_core.specs.Check.{Check, Returns, returned, goes_on, holds}
use Rattle.cert_step.specs.ProofProblem as problem
use Rattle.cert_step.specs.ProofProblem.{ProofProblem}
use Rattle.cert_step.specs.PlainProblem.{plain}
use Rattle.cert_step.specs.ProofStep.{ProofStep, dp, graph, subterm, poly, lpo, kbo, usable_poly, loop, newman, parallel, strong, label, fork, confluence, kind_of}
use Rattle.cert_step.specs.Kind.{Kind, leaves}
use Rattle.cert_step.specs.OnPairs.{for_pairs, on_pairs, problem_if_any}
use Rattle.cert_step.specs.GraphKind.{group_problems}
use Rattle.cert_step.specs.DpKind.{for_dp, dp_kind}
use Rattle.cert_step.specs.LoopKind.{for_loop}
use Rattle.cert_step.specs.NewmanKind.{for_newman}
use Rattle.cert_step.specs.ParallelKind.{for_parallel}
use Rattle.cert_step.specs.StrongKind.{for_strong}
use Rattle.cert_step.specs.LabelKind.{for_label}
use Rattle.cert_step.specs.ForkKind.{for_fork}
use Rattle.cert_step.specs.ConfluenceKind.{confluence_kind}
use Rattle.cert_step.specs.Applies.{Applies}

-- what a kind of step is for and asks does not depend on the way
abbrev IsAnyWay : Kind → Type 0
IsAnyWay kind =
    (system : System) (p : ProofProblem) (left : List ProofProblem) → IsTrue (kind.is_for p) → kind.conditions system p (Ok left)
    → IsTrue (kind.is_for (plain p)) × kind.conditions system (plain p) (Ok (map plain left))

-- ---- what a kind is for

for_plain : (f : ProofProblem → Bool) → (IsTrue (f problem.cr_newman) → IsTrue (f problem.cr)) → (IsTrue (f problem.unr_newman) → IsTrue (f problem.unr))
    → (p : ProofProblem) → IsTrue (f p) → IsTrue (f (plain p))
for_plain f cr unr problem.sn is = is
for_plain f cr unr (problem.dp numbers) is = is
for_plain f cr unr problem.loop is = is
for_plain f cr unr problem.cr is = is
for_plain f cr unr problem.cr_newman is = cr is
for_plain f cr unr problem.fork is = is
for_plain f cr unr problem.unr is = is
for_plain f cr unr problem.unr_newman is = unr is
for_plain f cr unr problem.split is = is

-- ---- what is left

returns_plain : (problems left : List ProofProblem) → map plain problems ≡ problems → Returns problems (Ok left) → Returns problems (Ok (map plain left))
returns_plain problems _ e returned = subst (λ x. Returns problems (Ok x)) (sym e) returned

leaves_plain : (check : Check (Unit {0})) (problems left : List ProofProblem) → map plain problems ≡ problems → leaves problems check (Ok left)
    → leaves problems check (Ok (map plain left))
leaves_plain check problems left e (goes_on a _ h k) = goes_on a _ h (returns_plain problems left e k)

pairs_plain : {A : Type 0} (conditions : List ℕ → Check A) (left : A → List ProofProblem) → ((value : A) → map plain (left value) ≡ left value)
    → (p : ProofProblem) (subproblems : List ProofProblem) → on_pairs conditions left p (Ok subproblems)
    → on_pairs conditions left (plain p) (Ok (map plain subproblems))
pairs_plain conditions left same (problem.dp numbers) subproblems (goes_on value _ h k) = goes_on value _ h (returns_plain (left value) subproblems (same value) k)
pairs_plain conditions left same _ subproblems h = absurd h

pairs_any_way : {A : Type 0} (conditions : System → List ℕ → Check A) (left : A → List ProofProblem) → ((value : A) → map plain (left value) ≡ left value)
    → (system : System) (p : ProofProblem) (subproblems : List ProofProblem) → IsTrue (for_pairs p) → on_pairs (conditions system) left p (Ok subproblems)
    → IsTrue (for_pairs (plain p)) × on_pairs (conditions system) left (plain p) (Ok (map plain subproblems))
pairs_any_way conditions left same system p subproblems is h =
    (for_plain for_pairs (λ e. absurd cc) (λ e. absurd cc) p is, pairs_plain (conditions system) left same p subproblems h)

same_groups : (groups : List (List ℕ)) → map plain (group_problems groups) ≡ group_problems groups
same_groups [] = refl
same_groups (g ∷ groups) = ap (λ ps. problem.dp g ∷ ps) (same_groups groups)

same_remain : (numbers : List ℕ) → map plain (problem_if_any numbers) ≡ problem_if_any numbers
same_remain [] = refl
same_remain (n ∷ numbers) = refl

-- ---- each kind

dp_any_way : IsAnyWay dp_kind
dp_any_way system p left is h = (for_plain for_dp (λ e. absurd cc) (λ e. absurd cc) p is, returns_plain _ left refl h)

confluence_any_way : IsAnyWay confluence_kind
confluence_any_way system problem.unr left is h = (refl, returns_plain _ left refl h)
confluence_any_way system problem.unr_newman _ is returned = (refl, returned)
confluence_any_way system _ left is h = absurd h

fork_for_plain : (test : ForkTest) (p : ProofProblem) → IsTrue (for_fork test p) → IsTrue (for_fork test (plain p))
fork_for_plain Normal p is = for_plain (for_fork Normal) (λ e. absurd cc) (λ e. absurd cc) p is
fork_for_plain Apart p is = for_plain (for_fork Apart) (λ e. absurd cc) (λ e. absurd cc) p is

any_way : (s : ProofStep) → IsAnyWay (kind_of s)
any_way dp = dp_any_way
any_way (graph items) = pairs_any_way _ group_problems same_groups
any_way (subterm projection) = pairs_any_way _ problem_if_any same_remain
any_way (poly entries) = pairs_any_way _ problem_if_any same_remain
any_way (lpo entries) = pairs_any_way _ problem_if_any same_remain
any_way (kbo entries) = pairs_any_way _ problem_if_any same_remain
any_way (usable_poly entries) = pairs_any_way _ problem_if_any same_remain
any_way (loop start path place) = λ system p left is h. (for_plain for_loop (λ e. absurd cc) (λ e. absurd cc) p is, leaves_plain _ _ left refl h)
any_way (newman items) = λ system p left is h. (for_plain for_newman (λ e. refl) (λ e. absurd cc) p is, leaves_plain _ _ left refl h)
any_way (parallel items) = λ system p left is h. (for_plain for_parallel (λ e. absurd cc) (λ e. absurd cc) p is, leaves_plain _ _ left refl h)
any_way (strong items) = λ system p left is h. (for_plain for_strong (λ e. absurd cc) (λ e. absurd cc) p is, leaves_plain _ _ left refl h)
any_way (label ranks items) = λ system p left is h. (for_plain for_label (λ e. absurd cc) (λ e. absurd cc) p is, leaves_plain _ _ left refl h)
any_way (fork start left right test) = λ system p subproblems is h. (fork_for_plain test p is, leaves_plain _ _ subproblems refl h)
any_way confluence = confluence_any_way

pub applies_plainly : (system : System) (p : ProofProblem) (s : ProofStep) (subproblems : List ProofProblem) → Applies system p s subproblems
    → Applies system (plain p) s (map plain subproblems)
applies_plainly system p s subproblems (goes_on a _ (holds is) h) =
    let each = any_way s system p subproblems is h in
    goes_on a _ (holds each.0) each.1
