-- A step by a rule with a linear right side makes a term larger by at most that side.
use Rattle.std.specs.Prelude.{◌≡◌, ◌≢◌, ◌<◌, ◌≤◌, ℕ, ◌+◌, ◌*◌, Bool, true, false, ◌==◌, if◌then◌else◌, nat_le, List, [], ◌∷◌, Some, length, IsTrue, slice_get, refl}
use Rattle.std.proofs.Common.{zero, suc, ap, sym, ◌∙◌, subst, get_or, drop, arith, inl, inr, add-mul, suc-mul, mul-le-mul_right}
use Rattle.std.proofs.lemmas.List.{drop_all}
use Rattle.trs_defs.proofs.ArgumentLists.{cell}
use Rattle.std.proofs.Math.Decide.{ℕ_discrete}
use Rattle.std.proofs.lemmas.Bool.Decides.{nat_tests}
use Rattle.std.proofs.lemmas.Option.{slice_get_read, slice_get_within, same_Some}
use Rattle.trs_defs.specs.Member.{In}
use Rattle.trs_defs.specs.Tree.{Tree, Trees, var, app, nil, cons}
use Rattle.trs_defs.specs.Variable.{has_var, some_has_var, occurrences, occurrences_in_all, IsLinear}
use Rattle.trs_defs.specs.Size.{size_of, size_of_all}
use Rattle.trs_defs.specs.Substitution.{apply, apply_all}
use Rattle.trs_defs.specs.System.{RewriteRule, System, IsSystem}
use Rattle.trs_defs.specs.Path.{PlacedRule, StepsAt, Follows}
use Rattle.trs_defs.proofs.Limits.{size_replaced}
use Rattle.trs_defs.proofs.Members.{in_of_get, get_of_in}
use Rattle.trs_core.specs.SystemLimits.{nodes_of}
use Rattle.trs_defs.proofs.OccurrenceLaws.{no_occurrence}
use Rattle.term_pool.specs.Listed.{Listed}
use Rattle.path_lists.specs.Growth.{GrowsBy, IsGrowthOf, AreRightLinear}
use Rattle.path_lists.specs.Adding.{KeepsSmall}

-- ---- sums over the variables below a number

abbrev sum_below : ℕ → (ℕ → ℕ) → ℕ
sum_below zero f = 0
sum_below (suc n) f = sum_below n f + f n

sum_le : (n : ℕ) (f g : ℕ → ℕ) → ((v : ℕ) → f v ≤ g v) → sum_below n f ≤ sum_below n g
sum_le zero f g h = omega arith
sum_le (suc n) f g h = let rest = sum_le n f g h in let here = h n in omega (arith, rest, here)

sum_both : (n : ℕ) (f g h : ℕ → ℕ) → ((v : ℕ) → h v ≡ f v + g v) → sum_below n h ≡ sum_below n f + sum_below n g
sum_both zero f g h both = refl
sum_both (suc n) f g h both = let rest = sum_both n f g h both in let here = both n in omega (arith, rest, here)

module _ (w : ℕ → ℕ) where
  -- the weight of the variables of a term, each as often as it occurs
  abbrev weighed : ℕ → Tree → ℕ
  weighed n t = sum_below n (λ v. occurrences v t * w v)

  abbrev all_weighed : ℕ → Trees → ℕ
  all_weighed n ts = sum_below n (λ v. occurrences_in_all v ts * w v)

  both_weighed : (n : ℕ) (t : Tree) (ts : Trees) → all_weighed n (cons t ts) ≡ weighed n t + all_weighed n ts
  both_weighed n t ts =
      sum_both n (λ v. occurrences v t * w v) (λ v. occurrences_in_all v ts * w v) (λ v. occurrences_in_all v (cons t ts) * w v)
      (λ v. add-mul (occurrences v t) (occurrences_in_all v ts) (w v))

  none_weighed : (n : ℕ) → all_weighed n nil ≡ 0
  none_weighed zero = refl
  none_weighed (suc n) = let rest = none_weighed n in omega (arith, rest)

  this_one : (k v : ℕ) → k ≡ v → occurrences v (var k) * w v ≡ w k
  this_one k v same =
      let test : (k == v) ≡ true = grind (arith, nat_tests) in
      let once : occurrences v (var k) ≡ 1 = ap (λ b. if b then 1 else 0) test in
      let here : occurrences v (var k) * w v ≡ 1 * w v = ap (λ n. n * w v) once in
      let weight : w k ≡ w v = ap w same in
      omega (arith, here, weight)

  other_one : (k v : ℕ) → k ≢ v → occurrences v (var k) * w v ≡ 0
  other_one k v other =
      let test : (k == v) ≡ false = grind (arith, nat_tests) in
      let none : occurrences v (var k) ≡ 0 = ap (λ b. if b then 1 else 0) test in
      let here : occurrences v (var k) * w v ≡ 0 * w v = ap (λ n. n * w v) none in
      omega (arith, here)

  not_yet : (k n : ℕ) → n ≤ k → weighed n (var k) ≡ 0
  not_yet k zero le = refl
  not_yet k (suc n) le =
      let rest : weighed n (var k) ≡ 0 = not_yet k n (omega (arith, le)) in
      let here : occurrences n (var k) * w n ≡ 0 = other_one k n (λ e. omega (arith, le, e)) in
      omega (arith, rest, here)

  one_at_most : (k n : ℕ) → weighed n (var k) ≤ w k
  one_at_most k zero = omega arith
  one_at_most k (suc n) = elim (ℕ_discrete k n) [
    | yes same ↦
        let rest : weighed n (var k) ≡ 0 = not_yet k n (omega (arith, same)) in
        let here : occurrences n (var k) * w n ≡ w k = this_one k n same in
        omega (arith, rest, here)
    | no other ↦
        let rest : weighed n (var k) ≤ w k = one_at_most k n in
        let here : occurrences n (var k) * w n ≡ 0 = other_one k n other in
        omega (arith, rest, here)
  ]

  one_at_least : (k n : ℕ) → k < n → w k ≤ weighed n (var k)
  one_at_least k zero lt = absurd (omega (arith, lt))
  one_at_least k (suc n) lt = elim (ℕ_discrete k n) [
    | yes same ↦ (let here : occurrences n (var k) * w n ≡ w k = this_one k n same in omega (arith, here))
    | no other ↦ (let rest : w k ≤ weighed n (var k) = one_at_least k n (omega (arith, lt, other)) in omega (arith, rest))
  ]

-- a number that is above all variables of the term
abbrev mutual
  var_end : Tree → ℕ
  var_end (var k) = suc k
  var_end (app f ts) = all_var_end ts

  all_var_end : Trees → ℕ
  all_var_end nil = 0
  all_var_end (cons t ts) = var_end t + all_var_end ts

-- ---- instances

module _ (σ : ℕ → Tree) (n : ℕ) where
  mutual
    instance_at_most : (t : Tree) → var_end t ≤ n → size_of (apply σ t) ≤ size_of t + weighed (λ v. size_of (σ v)) n t
    instance_at_most (var k) le = let h = one_at_least (λ v. size_of (σ v)) k n (omega (arith, le)) in omega (arith, h)
    instance_at_most (app f ts) le = let h = instances_at_most ts le in omega (arith, h)

    instances_at_most : (ts : Trees) → all_var_end ts ≤ n → size_of_all (apply_all σ ts) ≤ size_of_all ts + all_weighed (λ v. size_of (σ v)) n ts
    instances_at_most nil le = omega arith
    instances_at_most (cons t ts) le =
        let first = instance_at_most t (omega (arith, le)) in
        let rest = instances_at_most ts (omega (arith, le)) in
        let both = both_weighed (λ v. size_of (σ v)) n t ts in
        omega (arith, first, rest, both)

  mutual
    instance_at_least : (t : Tree) → weighed (λ v. size_of (σ v)) n t ≤ size_of (apply σ t)
    instance_at_least (var k) = one_at_most (λ v. size_of (σ v)) k n
    instance_at_least (app f ts) = let h = instances_at_least ts in omega (arith, h)

    instances_at_least : (ts : Trees) → all_weighed (λ v. size_of (σ v)) n ts ≤ size_of_all (apply_all σ ts)
    instances_at_least nil = let h = none_weighed (λ v. size_of (σ v)) n in omega (arith, h)
    instances_at_least (cons t ts) =
        let first = instance_at_least t in
        let rest = instances_at_least ts in
        let both = both_weighed (λ v. size_of (σ v)) n t ts in
        omega (arith, first, rest, both)

mutual
  some_occurrence : (v : ℕ) (t : Tree) → IsTrue (has_var v t) → 1 ≤ occurrences v t
  some_occurrence v (var k) h = let once : occurrences v (var k) ≡ 1 = ap (λ b. if b then 1 else 0) h in omega (arith, once)
  some_occurrence v (app f ts) h = some_occurrence_in_all v ts h

  some_occurrence_in_all : (v : ℕ) (ts : Trees) → IsTrue (some_has_var v ts) → 1 ≤ occurrences_in_all v ts
  some_occurrence_in_all v nil h = absurd cc
  some_occurrence_in_all v (cons t ts) h = go (has_var v t) refl (λ e. some_occurrence v t e) (λ e. some_occurrence_in_all v ts e)
    where
      go : (b : Bool) → has_var v t ≡ b → (IsTrue (has_var v t) → 1 ≤ occurrences v t) → (IsTrue (some_has_var v ts) → 1 ≤ occurrences_in_all v ts)
          → 1 ≤ occurrences v t + occurrences_in_all v ts
      go true e first rest = let here = first e in omega (arith, here)
      go false e first rest = let later : IsTrue (some_has_var v ts) = rw e at h in let there = rest later in omega (arith, there)

-- the right side occurs no more often than the left one
occurs_less : (l r : Tree) → IsLinear r → ((v : ℕ) → IsTrue (has_var v r) → IsTrue (has_var v l)) → (v : ℕ) → occurrences v r ≤ occurrences v l
occurs_less l r linear variables v = go (has_var v r) refl
  where
    go : (b : Bool) → has_var v r ≡ b → occurrences v r ≤ occurrences v l
    go true e = let once = linear v in let some = some_occurrence v l (variables v e) in omega (arith, once, some)
    go false e = let none = no_occurrence v r e in omega (arith, none)

right_instance : (σ : ℕ → Tree) (l r : Tree) → IsLinear r → ((v : ℕ) → IsTrue (has_var v r) → IsTrue (has_var v l)) → size_of (apply σ r) ≤ size_of (apply σ l) + size_of r
right_instance σ l r linear variables =
    let n = var_end r in
    let w : ℕ → ℕ = λ v. size_of (σ v) in
    let more = instance_at_most σ n r (omega arith) in
    let less = instance_at_least σ n l in
    let between = sum_le n (λ v. occurrences v r * w v) (λ v. occurrences v l * w v) (λ v. mul-le-mul_right (w v) (occurs_less l r linear variables v)) in
    omega (arith, more, less, between)

pub linear_rules_grow : (system : System) (growth : ℕ) → IsSystem system → AreRightLinear system.rules → ((rule : RewriteRule) → In rule system.rules → size_of rule.right ≤ growth)
    → GrowsBy system.rules growth
linear_rules_grow system growth valid linear small = record { step = go }
  where
    go : (p : List ℕ) (k : ℕ) (t u : Tree) → StepsAt system.rules p k t u → size_of u ≤ size_of t + growth
    go p k t u step =
        let rule = step.rule in
        let there = in_of_get system.rules k step.rule step.numbered in
        let replaced = size_replaced p t (apply step.substitution step.rule.left) (apply step.substitution step.rule.right) u step.from step.to in
        let right = right_instance step.substitution step.rule.left step.rule.right (linear.each step.rule there) (valid.each k step.rule step.numbered).variables in
        let bound = small step.rule there in
        omega (arith, replaced, right, bound)

-- ---- right sides that were looked at

within_nodes : (rules : List RewriteRule) (k : ℕ) (r : RewriteRule) → slice_get rules k ≡ Some r → size_of r.right ≤ nodes_of rules
within_nodes [] k r there = absurd cc
within_nodes (x ∷ rules) zero r there = let same : size_of x.right ≡ size_of r.right = ap (λ (y : RewriteRule). size_of y.right) (same_Some x r there) in omega (arith, same)
within_nodes (x ∷ rules) (suc k) r there = let rest = within_nodes rules k r there in omega (arith, rest)

-- none of them is larger
abbrev pub AreSmallBefore : List RewriteRule → ℕ → ℕ → Type 0
AreSmallBefore rules i most = (k : ℕ) (r : RewriteRule) → k < i → slice_get rules k ≡ Some r → size_of r.right ≤ most

pub size_read : (rules items : List RewriteRule) (i : ℕ) (rule : RewriteRule) → items ≡ rules → i < length items → rule ≡ get_or items i rule → nodes_of rules ≤ 65536 → size_of rule.right ≤ 65536
size_read rules items i rule same below is few =
    let there : slice_get items i ≡ Some rule = slice_get_read items (length items) i rule refl below is in
    let small = within_nodes rules i rule (subst (λ xs. slice_get xs i ≡ Some rule) same there) in
    omega (arith, small, few)

pub small_further : (rules : List RewriteRule) (i : ℕ) (rule : RewriteRule) (most new : ℕ) → i < length rules → rule ≡ get_or rules i rule → size_of rule.right ≤ new → most ≤ new
    → AreSmallBefore rules i most → AreSmallBefore rules (i + 1) new
small_further rules i rule most new below is here more before k r lt there = elim (ℕ_discrete k i) [
  | yes same ↦
      let read : slice_get rules i ≡ Some rule = slice_get_read rules (length rules) i rule refl below is in
      let at : slice_get rules k ≡ slice_get rules i = ap (λ (j : ℕ). slice_get rules j) same in
      let size : size_of r.right ≡ size_of rule.right = ap (λ (y : RewriteRule). size_of y.right) (same_Some r rule (sym there ∙ at ∙ read)) in
      omega (arith, size, here)
  | no other ↦ (let old = before k r (omega (arith, lt, other)) there in omega (arith, old, more))
]

pub all_small : (rules items : List RewriteRule) (i most : ℕ) → items ≡ rules → length items ≤ i → AreSmallBefore items i most → (rule : RewriteRule) → In rule rules → size_of rule.right ≤ most
all_small rules items i most same all before rule there =
    let (k, at) = get_of_in (subst (λ xs. In rule xs) (sym same) there) in
    let below = slice_get_within items k rule at in
    before k rule (omega (arith, below, all)) at

-- a step makes a term larger by no more than a growth that is known, or its linear right side
pub step_grows : (system : System) (known k growth : ℕ) (rule : RewriteRule) → IsSystem system → nodes_of system.rules ≤ 65536 → GrowsBy system.rules known → slice_get system.rules k ≡ Some rule
    → IsGrowthOf rule known growth → (p : List ℕ) (t u : Tree) → StepsAt system.rules p k t u → size_of u ≤ size_of t + growth
step_grows system known k growth rule valid few grows there kind p t u step = elim kind [
  | inl same ↦ (let more = grows.step p k t u step in omega (arith, more, same))
  | inr linear ↦
      let is : step.rule ≡ rule = same_Some step.rule rule (sym step.numbered ∙ there) in
      let size : size_of step.rule.right ≡ size_of rule.right = ap (λ (r : RewriteRule). size_of r.right) is in
      let once : IsLinear step.rule.right = subst (λ (r : RewriteRule). IsLinear r.right) (sym is) linear.0 in
      let within = within_nodes system.rules k rule there in
      let most = linear.1 (omega (arith, within, few)) in
      let replaced = size_replaced p t (apply step.substitution step.rule.left) (apply step.substitution step.rule.right) u step.from step.to in
      let right = right_instance step.substitution step.rule.left step.rule.right once (valid.each k step.rule step.numbered).variables in
      omega (arith, replaced, right, size, most)
]

pub at_most : (a b : ℕ) → IsTrue (nat_le a b) → a ≤ b
at_most a b h = grind arith

pub growth_itself : (rules : List RewriteRule) (known k : ℕ) → GrowsBy rules known → (p : List ℕ) (t u : Tree) → StepsAt rules p k t u → size_of u ≤ size_of t + known
growth_itself rules known k grows p t u step = grows.step p k t u step

-- ---- paths

-- what is left of a path, from a term that is not too large
pub record IsLeft (rules : List RewriteRule) (path : List PlacedRule) (most : ℕ) (u : Tree) : Type 0 where
  pub from : Tree
  pub small : size_of from ≤ most
  pub follows : Follows rules path from u

pub one_less_step : (rules : List RewriteRule) (path : List PlacedRule) (i : ℕ) (step : PlacedRule) (more most new : ℕ) (u : Tree) → i < length path → step ≡ get_or path i step
    → ((p : List ℕ) (t v : Tree) → StepsAt rules p step.rule t v → size_of v ≤ size_of t + more) → most + more ≤ new → IsLeft rules (drop i path) most u → IsLeft rules (drop (i + 1) path) new u
one_less_step rules path i step more most new u below is grows fits left =
    let (v, steps, within, rest) : Follows rules (step ∷ drop (i + 1) path) left.from u = subst (λ ss. Follows rules ss left.from u) (cell path i step below is) left.follows in
    let small = left.small in
    let larger = grows step.place left.from v steps in
    record { from = v; small = omega (arith, small, larger, fits); follows = rest }

pub no_step_left : (rules : List RewriteRule) (path : List PlacedRule) (i most : ℕ) (u : Tree) → length path ≤ i → IsLeft rules (drop i path) most u → size_of u ≤ most
no_step_left rules path i most u all left =
    let same : left.from ≡ u = subst (λ ss. Follows rules ss left.from u) (drop_all i path all) left.follows in
    let small = left.small in
    let size = ap size_of same in
    omega (arith, small, size)

path_grows : (rules : List RewriteRule) (growth : ℕ) → GrowsBy rules growth → (path : List PlacedRule) (t u : Tree) → Follows rules path t u → size_of u ≤ size_of t + length path * growth
path_grows rules growth grows [] t u same = let size = ap size_of same in omega (arith, size)
path_grows rules growth grows (s ∷ path) t v (u, step, within, rest) =
    let first = grows.step s.place s.rule t u step in
    let later = path_grows rules growth grows path u v rest in
    let times = suc-mul (length path) growth in
    omega (arith, first, later, times)

-- from the end of a path of fewer than 4 steps
pub short_paths_keep_small : (rules : List RewriteRule) (growth : ℕ) (t : Tree) (e : Listed) → GrowsBy rules growth → Follows rules e.path t e.term → size_of t + 4 * growth ≤ 4096
    → KeepsSmall rules e
short_paths_keep_small rules growth t e grows follows bound = record { small = go }
  where
    go : length e.path < 4 → (s : PlacedRule) (u : Tree) → StepsAt rules s.place s.rule e.term u → size_of u ≤ 4096
    go short s u step =
        let before = path_grows rules growth grows e.path t e.term follows in
        let last = grows.step s.place s.rule e.term u step in
        let n : suc (length e.path) ≤ 4 = omega (arith, short) in
        let times = suc-mul (length e.path) growth in
        let most = mul-le-mul_right growth n in
        omega (arith, before, last, times, most, bound)
