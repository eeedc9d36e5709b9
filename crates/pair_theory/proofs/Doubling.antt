-- Doubling by addition terminates: its pair stands alone in a first group, with no edge to itself, and the pair of addition
-- in a second, which the subterm criterion ends.
use Rattle.std.proofs.Common.{◌≡◌, ◌≤◌, ◌<◌, ℕ, zero, suc, refl, subst, arith, List, [], ◌∷◌, Bool, IsTrue, ◌==◌, if◌then◌else◌, Some, slice_get}
use Rattle.trs_defs.specs.Member.{In, in_first, in_rest}
use Rattle.trs_defs.specs.Tree.{Tree, Trees, var, app, nil, cons}
use Rattle.trs_defs.specs.System.{RewriteRule, System, IsRule, IsSystem, Among}
use Rattle.trs_defs.specs.Claims.{IsTerminating}
use Rattle.trs_defs.specs.Substitution.{apply_all}
use Rattle.pair_theory.specs.Marked.{marked}
use Rattle.pair_theory.specs.DependencyPair.{DependencyPair, dependency_pairs}
use Rattle.pair_theory.specs.PairProblem.{IsFiniteProblem, IsPair}
use Rattle.trs_defs.specs.Cap.{Caps, cap_variable, caps_nil, caps_cons, EachFits}
use Rattle.pair_theory.specs.PairGraph.{IsCapEstimate, IsGrouped, GroupEnds, by_problem, by_no_edge}
use Rattle.trs_defs.proofs.Members.{in_of_get}
use Rattle.pair_theory.proofs.PairList.{listed_are_pairs}
use Rattle.pair_theory.proofs.Problems.{listed_theorem}
use Rattle.pair_theory.proofs.Projections.{criterion_theorem}
use Rattle.pair_theory.proofs.Groups.{groups_theorem, cap_estimate_covers}
use Rattle.pair_theory.proofs.Addition.{sum_of, sum_zero, sum_next, sum_zero_is_rule, sum_next_is_rule, sum_pair, only_pair, first_shrinks, no_pairs}

-- symbol 3 is the double
abbrev double : RewriteRule
double = record { left = app 3 (cons (var 0) nil); right = sum_of (var 0) (var 0) }

abbrev doubling : System
doubling = record { arities = 0 ∷ 1 ∷ 2 ∷ 1 ∷ []; rules = sum_zero ∷ sum_next ∷ double ∷ [] }

each_rule : (P : RewriteRule → Type 0) → P sum_zero → P sum_next → P double → (p : RewriteRule) → In p doubling.rules → P p
each_rule P a b d p in_first = a
each_rule P a b d p (in_rest in_first) = b
each_rule P a b d p (in_rest (in_rest in_first)) = d
each_rule P a b d p (in_rest (in_rest (in_rest i))) = elim i [ ]

double_is_rule : IsRule doubling.arities double
double_is_rule = record {
  left_well_formed = (refl, (tt, tt));
  right_well_formed = (refl, (tt, (tt, tt)));
  left_no_variable = λ v. cc;
  variables = λ v h. grind arith;
}

is_system : IsSystem doubling
is_system = record {
  each = λ k r e. each_rule (IsRule doubling.arities) (sum_zero_is_rule doubling.arities refl refl) (sum_next_is_rule doubling.arities refl refl)
      double_is_rule r (in_of_get doubling.rules k r e);
}

abbrev double_pair : DependencyPair
double_pair = record { from = marked 3 (cons (var 0) nil); to = marked 2 (cons (var 0) (cons (var 0) nil)) }

abbrev both : List DependencyPair
both = sum_pair ∷ double_pair ∷ []

both_listed : dependency_pairs doubling.rules ≡ both
both_listed = refl

each_pair : (P : ℕ → DependencyPair → Type 0) → P 0 sum_pair → P 1 double_pair → (i : ℕ) (p : DependencyPair) → slice_get both i ≡ Some p → P i p
each_pair P a b zero p e = let same : sum_pair ≡ p = cc in subst (P 0) same a
each_pair P a b (suc zero) p e = let same : double_pair ≡ p = cc in subst (P 1) same b
each_pair P a b (suc (suc i)) p e = absurd cc

-- the pair of addition alone: its first argument becomes a proper subterm
sum_ends : IsFiniteProblem doubling (sum_pair ∷ [])
sum_ends = criterion_theorem doubling is_system (sum_pair ∷ []) []
    (only_pair (IsPair doubling.arities) (listed_are_pairs doubling is_system sum_pair in_first)) (λ f. 1) first_shrinks (no_pairs doubling)

-- an edge leads to the pair of addition alone, since both right sides have the root of its left side
abbrev edge : ℕ → ℕ → Bool
edge i j = j == 0

abbrev group : ℕ → ℕ
group i = if i == 0 then 1 else 0

variables_capped : (v w : ℕ) → Caps (Among doubling.rules) (cons (var v) (cons (var w) nil)) (cons (var 0) (cons (var 0) nil))
variables_capped v w = caps_cons cap_variable (caps_cons cap_variable caps_nil)

leads : (i j : ℕ) (q : DependencyPair) → slice_get both j ≡ Some q → 2 ≡ q.from.symbol → IsTrue (edge i j)
leads i = each_pair (λ j q. 2 ≡ q.from.symbol → IsTrue (edge i j)) (λ to. grind arith) (λ to. absurd (omega arith))

estimate : IsCapEstimate doubling both edge
estimate i j p q e f same =
    each_pair (λ i p. p.to.symbol ≡ q.from.symbol → (cs : Trees) × Caps (Among doubling.rules) p.to.args cs
    × ((σ : ℕ → Tree) → EachFits cs (apply_all σ q.from.args) → IsTrue (edge i j)))
    (λ to. (cons (var 0) (cons (var 0) nil), variables_capped 0 1, λ σ h. leads 0 j q f to))
    (λ to. (cons (var 0) (cons (var 0) nil), variables_capped 0 0, λ σ h. leads 1 j q f to)) i p e same

alone : (i j : ℕ) (p q : DependencyPair) → slice_get both i ≡ Some p → slice_get both j ≡ Some q → group i ≡ 0 → group j ≡ 0
    → IsTrue (edge i j) → ⊥
alone i j p q e f g h t = each_pair (λ j q. group j ≡ 0 → IsTrue (edge i j) → ⊥) (λ h t. absurd (omega arith)) (λ h t. grind arith) j q f h t

sum_only : (i : ℕ) (p : DependencyPair) → slice_get both i ≡ Some p → group i ≡ 1 → In p (sum_pair ∷ [])
sum_only = each_pair (λ i p. group i ≡ 1 → In p (sum_pair ∷ [])) (λ h. in_first) (λ h. absurd (omega arith))

ends : (k : ℕ) → k < 2 → GroupEnds doubling both edge group k
ends zero h = by_no_edge alone
ends (suc zero) h = by_problem (sum_pair ∷ []) sum_only sum_ends
ends (suc (suc k)) h = absurd (omega arith)

grouped : IsGrouped doubling both edge group 2
grouped = record {
  numbers = each_pair (λ i p. group i < 2) (omega arith) (omega arith);
  onward = λ i j p q e f h. each_pair (λ i p. group i ≤ group j)
      (each_pair (λ j q. IsTrue (edge 0 j) → 1 ≤ group j) (λ h. omega arith) (λ h. absurd (grind arith)) j q f h) (omega arith) i p e;
  done = ends;
}

pub doubling_terminates : IsTerminating doubling
doubling_terminates = listed_theorem doubling is_system
    (groups_theorem doubling is_system both (listed_are_pairs doubling is_system) edge (cap_estimate_covers doubling both edge estimate) group 2 grouped)
