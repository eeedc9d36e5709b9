-- Tests of ranks that fit decide whether they fit.
use Rattle.std.specs.Prelude.{◌≡◌, ◌<◌, ◌≤◌, ◌↔◌, ℕ, Bool, true, false, cond, not, ◌&&◌, ◌||◌, ◌==◌, nat_lt, List, [], ◌∷◌, ◌+◌, map, length, IsTrue, refl}
use Rattle.std.proofs.Common.{ap, sym, ◌∙◌, drop, get_or, arith}
use Rattle.std.proofs.lemmas.List.{drop_more}
use Rattle.std.proofs.Math.Decide.{dec_lt, ℕ_discrete}
use Rattle.std.proofs.lemmas.Bool.Decides.{nat_tests}
use Rattle.std.proofs.lemmas.Bool.{or_right, or_left, and_parts, and_from}
use Rattle.trs_defs.specs.Member.{In, in_first, in_rest}
use Rattle.confluence_theory.specs.RanksFit.{AreBelowOne, RanksFit}
use Rattle.confluence_theory.specs.RuleRanks.{rank_of}
use Rattle.trs_defs.specs.Path.{PlacedRule}
use Rattle.rule_label.specs.Labelled.{ranks_along}
use Rattle.rule_label.specs.FittingRanks.{FitAfter}
use Rattle.rule_label.proofs.RanksInTurn.{small_rank, low_rank, same_rank, no_rank, nothing_left}
use Rattle.label_find.specs.LabelRow.{rules_along}
use Rattle.label_find.specs.declared.rule_list.RuleList.{RuleList}
use Rattle.label_find.specs.RuleList.{rules_listed}
use Rattle.label_find.specs.Constraint.{fit_after, some_fit, some_meet}

module _ (a b c : ℕ) (later : List ℕ) where
  small_test : (ended : Bool) → c < a → fit_after ended a b (c ∷ later) ≡ fit_after ended a b later
  small_test ended lt =
      let small : nat_lt c a ≡ true = grind (arith, nat_tests) in
      ap (λ t. cond t (fit_after ended a b later) (cond (nat_lt c b || (not ended && (c == b))) (fit_after true a b later) false)) small

  not_small : a ≤ c → nat_lt c a ≡ false
  not_small le = grind (arith, nat_tests)

  past_small : (ended : Bool) → a ≤ c → fit_after ended a b (c ∷ later) ≡ cond (nat_lt c b || (not ended && (c == b))) (fit_after true a b later) false
  past_small ended le = ap (λ t. cond t (fit_after ended a b later) (cond (nat_lt c b || (not ended && (c == b))) (fit_after true a b later) false)) (not_small le)

  low_test : (ended : Bool) → a ≤ c → c < b → fit_after ended a b (c ∷ later) ≡ fit_after true a b later
  low_test ended le lt =
      let low : nat_lt c b ≡ true = grind (arith, nat_tests) in
      past_small ended le ∙ ap (λ t. cond (t || (not ended && (c == b))) (fit_after true a b later) false) low

  same_test : a ≤ c → c ≡ b → fit_after false a b (c ∷ later) ≡ fit_after true a b later
  same_test le same =
      let not_low : nat_lt c b ≡ false = grind (arith, nat_tests) in
      let equal : (c == b) ≡ true = grind (arith, nat_tests) in
      past_small false le
      ∙ (ap (λ t. cond (t || (not false && (c == b))) (fit_after true a b later) false) not_low ∙ ap (λ t. cond t (fit_after true a b later) false) equal)

  neither : (ended : Bool) → (c ≡ b → ended ≡ true) → (not ended && (c == b)) ≡ false
  neither true only = refl
  neither false only = elim (ℕ_discrete c b) [
    | yes same ↦ absurd (let wrong = only same in cc)
    | no other ↦ (let differ : (c == b) ≡ false = grind (arith, nat_tests) in differ)
  ]

  none_test : (ended : Bool) → a ≤ c → b ≤ c → (c ≡ b → ended ≡ true) → fit_after ended a b (c ∷ later) ≡ false
  none_test ended le above only =
      let not_low : nat_lt c b ≡ false = grind (arith, nat_tests) in
      past_small ended le
      ∙ (ap (λ t. cond (t || (not ended && (c == b))) (fit_after true a b later) false) not_low ∙ ap (λ t. cond t (fit_after true a b later) false) (neither ended only))

by_test : {x y : Bool} {P Q : Type 0} → x ≡ y → IsTrue y ↔ P → P ↔ Q → IsTrue x ↔ Q
by_test e h k = (λ t. k.0 (h.0 (sym e ∙ t)), λ q. e ∙ h.1 (k.1 q))

by_none : {x : Bool} {Q : Type 0} → x ≡ false → (Q → ⊥) → IsTrue x ↔ Q
by_none e h = (λ t. absurd (cc (e, t)), λ q. absurd (h q))

pub fits : (ended : Bool) (a b : ℕ) (ranks : List ℕ) → IsTrue (fit_after ended a b ranks) ↔ FitAfter ended a b ranks
fits ended a b [] = (λ _. nothing_left a b ended, λ _. refl)
fits ended a b (c ∷ ranks) = elim (dec_lt c a) [
  | yes lt ↦ by_test (small_test a b c ranks ended lt) (fits ended a b ranks) (small_rank a b c ranks ended lt)
  | no large ↦ elim (dec_lt c b) [
    | yes low ↦ by_test (low_test a b c ranks ended (omega (arith, large)) low) (fits true a b ranks) (low_rank a b c ranks ended (omega (arith, large)) low)
    | no high ↦ last ended (omega (arith, large)) (omega (arith, high)) (fits true a b ranks)
  ]
]
  where
    last : (ended : Bool) → a ≤ c → b ≤ c → IsTrue (fit_after true a b ranks) ↔ AreBelowOne a b ranks → IsTrue (fit_after ended a b (c ∷ ranks)) ↔ FitAfter ended a b (c ∷ ranks)
    last true le above h = by_none (none_test a b c ranks true le above (λ _. refl)) (no_rank a b c ranks true le above (λ _. refl))
    last false le above h = elim (ℕ_discrete c b) [
      | yes same ↦ by_test (same_test a b c ranks le same) h (same_rank a b c ranks le same)
      | no other ↦ by_none (none_test a b c ranks false le above (λ e. absurd (other e))) (no_rank a b c ranks false le above (λ e. absurd (other e)))
    ]

-- a test of one more rank, as it is read

same_test_of : (x y : Bool) → (IsTrue x → IsTrue y) → (IsTrue y → IsTrue x) → x ≡ y
same_test_of true y h k = sym (h refl)
same_test_of false true h k = k refl
same_test_of false false h k = refl

pub ends_there : (ended : Bool) (a b c : ℕ) (later : List ℕ) → (FitAfter ended a b (c ∷ later) → ⊥) → fit_after ended a b (c ∷ later) ≡ false
ends_there ended a b c later none = same_test_of (fit_after ended a b (c ∷ later)) false (λ t. absurd (none ((fits ended a b (c ∷ later)).0 t))) (λ f. absurd cc)

pub goes_on_so : (ended next : Bool) (a b c : ℕ) (later : List ℕ) → (FitAfter next a b later) ↔ (FitAfter ended a b (c ∷ later)) → fit_after ended a b (c ∷ later) ≡ fit_after next a b later
goes_on_so ended next a b c later both =
    let h = fits ended a b (c ∷ later) in
    let k = fits next a b later in
    same_test_of (fit_after ended a b (c ∷ later)) (fit_after next a b later) (λ t. k.1 (both.1 (h.0 t))) (λ t. h.1 (both.0 (k.0 t)))

-- ---- along paths

pub same_ranks_along : (ranks : List ℕ) (path : List PlacedRule) → map (rank_of ranks) (rules_along path) ≡ ranks_along ranks path
same_ranks_along ranks [] = refl
same_ranks_along ranks (s ∷ path) = ap (λ (xs : List ℕ). rank_of ranks s.rule ∷ xs) (same_ranks_along ranks path)

-- ---- some of several lists

module _ (ranks : List ℕ) where
  pub some_fit_has : (a b : ℕ) (lists : List RuleList) → IsTrue (some_fit ranks a b lists) → (l : RuleList) × In l lists × RanksFit a b (map (rank_of ranks) (rules_listed l))
  some_fit_has a b [] h = absurd cc
  some_fit_has a b (l ∷ lists) h = go (fit_after false a b (map (rank_of ranks) (rules_listed l))) refl (λ k. some_fit_has a b lists k)
    where
      go : (t : Bool) → fit_after false a b (map (rank_of ranks) (rules_listed l)) ≡ t → (IsTrue (some_fit ranks a b lists) → (m : RuleList) × In m lists × RanksFit a b (map (rank_of ranks) (rules_listed m)))
          → (m : RuleList) × In m (l ∷ lists) × RanksFit a b (map (rank_of ranks) (rules_listed m))
      go true e rest = (l, in_first, (fits false a b (map (rank_of ranks) (rules_listed l))).0 e)
      go false e rest = let later : IsTrue (some_fit ranks a b lists) = rw e at h in let (m, i, k) = rest later in (m, in_rest i, k)

  pub some_fit_from : (a b : ℕ) (lists : List RuleList) (l : RuleList) → In l lists → RanksFit a b (map (rank_of ranks) (rules_listed l)) → IsTrue (some_fit ranks a b lists)
  some_fit_from a b [] l i h = elim i [ ]
  some_fit_from a b (x ∷ lists) l in_first h = or_left (fit_after false a b (map (rank_of ranks) (rules_listed l))) (some_fit ranks a b lists) ((fits false a b (map (rank_of ranks) (rules_listed l))).1 h)
  some_fit_from a b (x ∷ lists) l (in_rest i) h = or_right (fit_after false a b (map (rank_of ranks) (rules_listed x))) (some_fit ranks a b lists) (some_fit_from a b lists l i h)

  module _ (lefts rights : ℕ → List RuleList) where
    abbrev pub Meets : ℕ → ℕ → ℕ × ℕ → Type 0
    Meets a b m = IsTrue (some_fit ranks a b (lefts m.0)) × IsTrue (some_fit ranks b a (rights m.1))

    pub some_meet_has : (a b : ℕ) (ms : List (ℕ × ℕ)) → IsTrue (some_meet ranks a b lefts rights ms) → (m : ℕ × ℕ) × In m ms × Meets a b m
    some_meet_has a b [] h = absurd cc
    some_meet_has a b (m ∷ ms) h = go (some_fit ranks a b (lefts m.0) && some_fit ranks b a (rights m.1)) refl (λ k. some_meet_has a b ms k)
      where
        go : (t : Bool) → (some_fit ranks a b (lefts m.0) && some_fit ranks b a (rights m.1)) ≡ t → (IsTrue (some_meet ranks a b lefts rights ms) → (n : ℕ × ℕ) × In n ms × Meets a b n)
            → (n : ℕ × ℕ) × In n (m ∷ ms) × Meets a b n
        go true e rest = (m, in_first, and_parts (some_fit ranks a b (lefts m.0)) (some_fit ranks b a (rights m.1)) e)
        go false e rest = let later : IsTrue (some_meet ranks a b lefts rights ms) = rw e at h in let (n, i, k) = rest later in (n, in_rest i, k)

    pub some_meet_from : (a b : ℕ) (ms : List (ℕ × ℕ)) (m : ℕ × ℕ) → In m ms → Meets a b m → IsTrue (some_meet ranks a b lefts rights ms)
    some_meet_from a b [] m i h = elim i [ ]
    some_meet_from a b (x ∷ ms) m in_first h =
        or_left (some_fit ranks a b (lefts m.0) && some_fit ranks b a (rights m.1)) (some_meet ranks a b lefts rights ms)
        (and_from (some_fit ranks a b (lefts m.0)) (some_fit ranks b a (rights m.1)) h.0 h.1)
    some_meet_from a b (x ∷ ms) m (in_rest i) h = or_right (some_fit ranks a b (lefts x.0) && some_fit ranks b a (rights x.1)) (some_meet ranks a b lefts rights ms) (some_meet_from a b ms m i h)

-- ---- as they are read

pub rules_left : (ranks rules : List ℕ) (i : ℕ) → i < length rules → map (rank_of ranks) (drop i rules) ≡ rank_of ranks (get_or rules i 0) ∷ map (rank_of ranks) (drop (i + 1) rules)
rules_left ranks rules i below = ap (map (rank_of ranks)) (drop_more rules i 0 below)

-- a test of the rules along a path
pub fits_read : (ranks : List ℕ) (first second : ℕ) (path : List PlacedRule) (r : Bool) (a b : ℕ) (rules : List ℕ) → a ≡ rank_of ranks first → b ≡ rank_of ranks second → rules ≡ rules_along path
    → r ≡ fit_after false a b (map (rank_of ranks) rules) → IsTrue r ↔ RanksFit (rank_of ranks first) (rank_of ranks second) (ranks_along ranks path)
fits_read ranks first second path r a b rules a_is b_is along test =
    let same : map (rank_of ranks) rules ≡ ranks_along ranks path = ap (map (rank_of ranks)) along ∙ same_ranks_along ranks path in
    let all : fit_after false a b (map (rank_of ranks) rules) ≡ fit_after false (rank_of ranks first) (rank_of ranks second) (ranks_along ranks path) =
    ap (λ x. fit_after false x b (map (rank_of ranks) rules)) a_is
    ∙ (ap (λ y. fit_after false (rank_of ranks first) y (map (rank_of ranks) rules)) b_is ∙ ap (fit_after false (rank_of ranks first) (rank_of ranks second)) same) in
    let h = fits false (rank_of ranks first) (rank_of ranks second) (ranks_along ranks path) in
    (λ t. h.0 (sym all ∙ (sym test ∙ t)), λ f. test ∙ (all ∙ h.1 f))
