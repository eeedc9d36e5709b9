-- Where the last of some symbols stands among others.
use Rattle.std.specs.Prelude.{ℕ, Bool, List, length, get_or}
use Rattle.assign_search.specs.Rest.{reach_below}

-- one more than the last place of a symbol that passes, or 0 where none does
abbrev pub end_among : (ℕ → Bool) → List ℕ → ℕ
end_among test symbols = reach_below (λ i. test (get_or symbols i 0)) (length symbols)
