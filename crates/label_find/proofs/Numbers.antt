-- The numbers of rules in peaks and along paths are those of rules, and peaks are not many.
use Rattle.std.specs.Prelude.{◌≡◌, ◌<◌, ◌≤◌, ◌⊎◌, ℕ, ◌+◌, Bool, true, false, ◌==◌, List, [], ◌∷◌, ◌++◌, Ok, IsTrue, length, refl}
use Rattle.std.proofs.Common.{ap, sym, subst, inl, inr, arith}
use Rattle.std.proofs.lemmas.Option.{slice_get_within}
use Rattle.std.proofs.lemmas.Bool.Decides.{nat_tests}
use Rattle.trs_defs.specs.Member.{In, in_first, in_rest}
use Rattle.trs_defs.specs.Tree.{Tree, var, app}
use Rattle.trs_defs.specs.Size.{size_of}
use Rattle.trs_defs.specs.Variable.{is_listed}
use Rattle.trs_defs.specs.System.{RewriteRule}
use Rattle.trs_defs.specs.Path.{PlacedRule, Follows}
use Rattle.trs_defs.proofs.Members.{in_or, in_either, no_in, of_map}
use Rattle.term_pool.specs.Listed.{Listed}
use Rattle.rewrite_core.specs.PlacedPeak.{PlacedPeak}
use Rattle.join_find.specs.crit_pairs.PeakList.{Spot, Lists, at_end, no_overlap, one_peak, ListsPeaks, nodes_of_peak}
use Rattle.path_lists.specs.PathList.{IsPathList}
use Rattle.path_lists.proofs.PathLaws.{paths_lead}
use Rattle.label_find.specs.LabelRow.{PeakPaths, ArePathsOf, rules_along, rules_of, rules_used}

-- ---- peaks

pub record HasNumbers (rules : List RewriteRule) (peak : PlacedPeak) : Type 0 where
  pub inner : peak.inner < length rules
  pub outer : peak.outer < length rules

numbers_of_listed : (rules : List RewriteRule) (total : ℕ) (spots : List Spot) (peaks : List PlacedPeak) → Lists rules total spots (Ok peaks) → (peak : PlacedPeak) → In peak peaks → HasNumbers rules peak
numbers_of_listed rules total spots peaks at_end peak i = absurd (no_in i)
numbers_of_listed rules total spots peaks (no_overlap {rest = rest} none later) peak i = numbers_of_listed rules total rest peaks later peak i
numbers_of_listed rules total spots peaks (one_peak {s = s} {p = p} {rest = rest} {ps = ps} is limits few later) peak i = elim (in_or i) [
  | inl same ↦
      let inner = slice_get_within rules s.inner is.inner is.inner_numbered in
      let outer = slice_get_within rules s.outer is.outer is.outer_numbered in
      let numbers : HasNumbers rules p = record { inner = omega (arith, inner, is.is_inner); outer = omega (arith, outer, is.is_outer) } in
      subst (λ (x : PlacedPeak). HasNumbers rules x) (sym same) numbers
  | inr j ↦ numbers_of_listed rules (total + nodes_of_peak p) rest ps later peak j
]

pub peak_numbers : (rules : List RewriteRule) (peaks : List PlacedPeak) → ListsPeaks rules (Ok peaks) → (peak : PlacedPeak) → In peak peaks → HasNumbers rules peak
peak_numbers rules peaks h = numbers_of_listed rules 0 _ peaks h

some_node : (t : Tree) → 1 ≤ size_of t
some_node (var n) = omega arith
some_node (app f ts) = omega arith

few_listed : (rules : List RewriteRule) (total : ℕ) (spots : List Spot) (peaks : List PlacedPeak) → Lists rules total spots (Ok peaks) → total ≤ 4194304 → length peaks + total ≤ 4194304
few_listed rules total spots peaks at_end few = omega (arith, few)
few_listed rules total spots peaks (no_overlap {rest = rest} none later) few = few_listed rules total rest peaks later few
few_listed rules total spots peaks (one_peak {s = s} {p = p} {rest = rest} {ps = ps} is limits below later) few =
    let rest_few = few_listed rules (total + nodes_of_peak p) rest ps later below in
    let node = some_node p.top in
    omega (arith, rest_few, node)

pub few_peaks : (rules : List RewriteRule) (peaks : List PlacedPeak) → ListsPeaks rules (Ok peaks) → length peaks ≤ 4194304
few_peaks rules peaks h = let few = few_listed rules 0 _ peaks h (omega arith) in omega (arith, few)

-- ---- paths

followed_numbers : (rules : List RewriteRule) (path : List PlacedRule) (t u : Tree) → Follows rules path t u → (s : PlacedRule) → In s path → s.rule < length rules
followed_numbers rules [] t u follows s i = absurd (no_in i)
followed_numbers rules (x ∷ path) t u (v, step, within, rest) s i = elim (in_or i) [
  | inl same ↦
      let below = slice_get_within rules x.rule step.rule step.numbered in
      subst (λ (y : PlacedRule). y.rule < length rules) (sym same) below
  | inr j ↦ followed_numbers rules path v u rest s j
]

in_rules_of : (es : List Listed) (k : ℕ) → In k (rules_of es) → (e : Listed) × In e es × In k (rules_along e.path)
in_rules_of [] k i = absurd (no_in i)
in_rules_of (e ∷ es) k i = elim (in_either (rules_along e.path) (rules_of es) i) [
  | inl here ↦ (e, in_first, here)
  | inr later ↦ (let (f, there, on) = in_rules_of es k later in (f, in_rest there, on))
]

rules_of_below : (rules : List RewriteRule) (t : Tree) (es : List Listed) → IsPathList rules t es → (k : ℕ) → In k (rules_of es) → k < length rules
rules_of_below rules t es is k i =
    let (e, there, on) = in_rules_of es k i in
    let (s, step, same) = of_map (λ (x : PlacedRule). x.rule) e.path on in
    let below = followed_numbers rules e.path t e.term (paths_lead rules t es is e there) s step in
    omega (arith, below, same)

pub equal_test : (m n : ℕ) → (m == n) ≡ true → m ≡ n
equal_test m n h = grind (arith, nat_tests)

in_of_listed : (k : ℕ) (xs : List ℕ) → IsTrue (is_listed k xs) → In k xs
in_of_listed k [] h = absurd cc
in_of_listed k (x ∷ xs) h = go (x == k) refl (λ later. in_of_listed k xs later)
  where
    go : (b : Bool) → (x == k) ≡ b → (IsTrue (is_listed k xs) → In k xs) → In k (x ∷ xs)
    go true e rest = subst (λ (n : ℕ). In n (x ∷ xs)) (equal_test x k e) in_first
    go false e rest = let later : IsTrue (is_listed k xs) = rw e at h in in_rest (rest later)

pub used_below : (rules : List RewriteRule) (peak : PlacedPeak) (p : PeakPaths) → HasNumbers rules peak → ArePathsOf rules peak p → (k : ℕ) → IsTrue (is_listed k (rules_used p)) → k < length rules
used_below rules peak p numbers are k h = first (in_or (in_of_listed k (rules_used p) h))
  where
    paths : In k (rules_of p.lefts ++ rules_of p.rights) → k < length rules
    paths i = elim (in_either (rules_of p.lefts) (rules_of p.rights) i) [
      | inl l ↦ rules_of_below rules peak.left p.lefts are.from_left k l
      | inr r ↦ rules_of_below rules peak.right p.rights are.from_right k r
    ]

    second : (k ≡ p.peak.outer) ⊎ In k (rules_of p.lefts ++ rules_of p.rights) → k < length rules
    second (inl outer) = let same = ap (λ (x : PlacedPeak). x.outer) are.is in let below = numbers.outer in omega (arith, outer, same, below)
    second (inr i) = paths i

    first : (k ≡ p.peak.inner) ⊎ In k (p.peak.outer ∷ (rules_of p.lefts ++ rules_of p.rights)) → k < length rules
    first (inl inner) = let same = ap (λ (x : PlacedPeak). x.inner) are.is in let below = numbers.inner in omega (arith, inner, same, below)
    first (inr i) = second (in_or i)
