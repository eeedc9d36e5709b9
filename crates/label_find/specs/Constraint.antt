-- Whether the ranks of rules fit, as tests.
use Rattle.std.specs.Prelude.{ℕ, Bool, true, false, cond, not, ◌&&◌, ◌||◌, ◌==◌, nat_lt, List, [], ◌∷◌, map}
use Rattle.confluence_theory.specs.RuleRanks.{rank_of}
use Rattle.label_find.specs.RuleList.{rules_listed}
use Rattle.label_find.specs.declared.rule_list.RuleList.{RuleList}

-- the ranks that are left fit, by whether the run of ranks below a has ended
abbrev pub fit_after : Bool → ℕ → ℕ → List ℕ → Bool
fit_after ended a b [] = true
fit_after ended a b (c ∷ ranks) = cond (nat_lt c a) (fit_after ended a b ranks) (cond (nat_lt c b || (not ended && (c == b))) (fit_after true a b ranks) false)

-- the ranks of some of these lists of rules fit
abbrev pub some_fit : List ℕ → ℕ → ℕ → List RuleList → Bool
some_fit ranks a b [] = false
some_fit ranks a b (l ∷ lists) = fit_after false a b (map (rank_of ranks) (rules_listed l)) || some_fit ranks a b lists

-- at some meeting a left list and a right one fit, where these are the lists of the groups at a place
abbrev pub some_meet : List ℕ → ℕ → ℕ → (ℕ → List RuleList) → (ℕ → List RuleList) → List (ℕ × ℕ) → Bool
some_meet ranks a b lefts rights [] = false
some_meet ranks a b lefts rights (m ∷ meetings) = (some_fit ranks a b (lefts m.0) && some_fit ranks b a (rights m.1)) || some_meet ranks a b lefts rights meetings
