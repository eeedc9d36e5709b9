-- The search for ranks is lawful: a constraint depends on the ranks of the rules that it uses alone.
use Rattle.std.specs.Prelude.{◌≡◌, ◌<◌, ℕ, true, false, ◌||◌, ◌==◌, ◌&&◌, List, [], ◌∷◌, All, IsTrue, map, get_or, slice_get}
use Rattle.std.proofs.Common.{zero, suc, refl, ap, ap₂, sym, ◌∙◌, arith}
use Rattle.std.proofs.lemmas.Bool.Decides.{nat_tests}
use Rattle.std.proofs.lemmas.Option.{unwrap_or-slice_get}
use Rattle.std.proofs.lemmas.Bool.{or_right, or_left}
use Rattle.trs_defs.specs.Member.{In, in_first, in_rest}
use Rattle.trs_defs.specs.Variable.{is_listed}
use Rattle.confluence_theory.specs.RuleRanks.{rank_of}
use Rattle.assign_search.specs.Puzzle.{IsLawful}
use Rattle.label_find.specs.declared.side_rules.SideRules.{SideRules}
use Rattle.label_find.specs.declared.constraint.PeakConstraint.{PeakConstraint}
use Rattle.label_find.specs.declared.rule_list.RuleList.{RuleList}
use Rattle.label_find.specs.RuleList.{rules_listed}
use Rattle.label_find.specs.SideRules.{lists_of_side}
use Rattle.label_find.specs.Constraint.{fit_after, some_fit, some_meet}
use Rattle.label_find.specs.ConstraintPuzzle.{is_met, used_in, uses_rule, at_constraint, label_puzzle, KeepsRules}

pub equal_itself : (n : ℕ) → (n == n) ≡ true
equal_itself n = grind (arith, nat_tests)

module _ (p q : List ℕ) (used : List ℕ) (agree : (k : ℕ) → IsTrue (is_listed k used) → rank_of p k ≡ rank_of q k) where
  same_ranks : (rules : List ℕ) → ((k : ℕ) → IsTrue (is_listed k rules) → IsTrue (is_listed k used)) → map (rank_of p) rules ≡ map (rank_of q) rules
  same_ranks [] h = refl
  same_ranks (r ∷ rules) h =
      ap₂ (λ (x : ℕ) (xs : List ℕ). x ∷ xs) (agree r (h r (or_left (r == r) (is_listed r rules) (equal_itself r)))) (same_ranks rules (λ k l. h k (or_right (r == k) (is_listed k rules) l)))

  same_some_fit : (a b : ℕ) (lists : List RuleList) → ((l : RuleList) (k : ℕ) → In l lists → IsTrue (is_listed k (rules_listed l)) → IsTrue (is_listed k used)) → some_fit p a b lists ≡ some_fit q a b lists
  same_some_fit a b [] h = refl
  same_some_fit a b (l ∷ lists) h =
      ap₂ (λ x y. x || y) (ap (fit_after false a b) (same_ranks (rules_listed l) (λ k. h l k in_first))) (same_some_fit a b lists (λ m k i. h m k (in_rest i)))

  module _ (lefts rights : ℕ → List RuleList) where
    same_some_meet : (a b : ℕ) (ms : List (ℕ × ℕ)) → ((m : ℕ × ℕ) (l : RuleList) (k : ℕ) → In m ms → In l (lefts m.0) → IsTrue (is_listed k (rules_listed l)) → IsTrue (is_listed k used))
        → ((m : ℕ × ℕ) (l : RuleList) (k : ℕ) → In m ms → In l (rights m.1) → IsTrue (is_listed k (rules_listed l)) → IsTrue (is_listed k used)) → some_meet p a b lefts rights ms ≡ some_meet q a b lefts rights ms
    same_some_meet a b [] of_left of_right = refl
    same_some_meet a b (m ∷ ms) of_left of_right =
        ap₂ (λ x y. x || y) (ap₂ (λ x y. x && y) (same_some_fit a b (lefts m.0) (λ l k. of_left m l k in_first)) (same_some_fit b a (rights m.1) (λ l k. of_right m l k in_first)))
        (same_some_meet a b ms (λ n l k i. of_left n l k (in_rest i)) (λ n l k i. of_right n l k (in_rest i)))

-- a constraint uses the rules of its peak
module _ (sides : List SideRules) (d : PeakConstraint) where
  pub uses_inner : IsTrue (uses_rule sides d.inner d)
  uses_inner = or_left (d.inner == d.inner) _ (equal_itself d.inner)

  pub uses_outer : IsTrue (uses_rule sides d.outer d)
  uses_outer = or_right (d.inner == d.outer) _ (or_left (d.outer == d.outer) _ (equal_itself d.outer))

module _ (n : ℕ) (sides : List SideRules) where
  same_met : (p q : List ℕ) (d : PeakConstraint) → KeepsRules n sides d → ((k : ℕ) → IsTrue (uses_rule sides k d) → rank_of p k ≡ rank_of q k) → is_met sides p d ≡ is_met sides q d
  same_met p q d keep agree =
      let left = lists_of_side (slice_get sides d.left) in
      let right = lists_of_side (slice_get sides d.right) in
      same_some_meet p q (used_in sides d) agree left right (rank_of p d.inner) (rank_of p d.outer) d.meetings.items keep.lists.lefts keep.lists.rights
      ∙ ap₂ (λ (a b : ℕ). some_meet q a b left right d.meetings.items) (agree d.inner (uses_inner sides d)) (agree d.outer (uses_outer sides d))

  at_same : (p q : List ℕ) (ds : List PeakConstraint) (c : ℕ) → ((d : PeakConstraint) → In d ds → KeepsRules n sides d)
      → ((k : ℕ) → at_constraint (uses_rule sides k) ds c ≡ true → rank_of p k ≡ rank_of q k) → at_constraint (is_met sides p) ds c ≡ at_constraint (is_met sides q) ds c
  at_same p q [] c keep agree = refl
  at_same p q (d ∷ ds) zero keep agree = same_met p q d (keep d in_first) agree
  at_same p q (d ∷ ds) (suc c) keep agree = at_same p q ds c (λ e i. keep e (in_rest i)) agree

  at_below : (k : ℕ) (ds : List PeakConstraint) (c : ℕ) → ((d : PeakConstraint) → In d ds → KeepsRules n sides d) → at_constraint (uses_rule sides k) ds c ≡ true → k < n
  at_below k [] c keep h = absurd cc
  at_below k (d ∷ ds) zero keep h = (keep d in_first).below k h
  at_below k (d ∷ ds) (suc c) keep h = at_below k ds c (λ e i. keep e (in_rest i)) h

  each_keeps : (ds : List PeakConstraint) → All (KeepsRules n sides) ds → (d : PeakConstraint) → In d ds → KeepsRules n sides d
  each_keeps [] keep e i = elim i [ ]
  each_keeps (d ∷ ds) keep e in_first = keep 0 d (omega arith)
  each_keeps (d ∷ ds) keep e (in_rest i) = each_keeps ds (λ k x l. keep (suc k) x (omega (arith, l))) e i

  rank_read : (p : List ℕ) (k : ℕ) → rank_of p k ≡ get_or p k 0
  rank_read p k = unwrap_or-slice_get p k 0

  pub label_lawful : (ds : List PeakConstraint) → All (KeepsRules n sides) ds → IsLawful (label_puzzle n sides ds)
  label_lawful ds keep = record {
    within = λ c k l u. at_below k ds c (each_keeps ds keep) u;
    depends = λ c p q l cp cq same. at_same p q ds c (each_keeps ds keep) (λ k u. rank_read p k ∙ (same k u ∙ sym (rank_read q k)));
  }
