-- What a table of ranks and filters says of each symbol. A symbol with no entry has rank 0 and keeps nothing.
use Rattle.std.specs.Prelude.{ℕ, ◌<◌, List, [], ◌∷◌, Option, Some, None, Bool}
use Rattle.order_theory.specs.ArgumentFilter.{ArgumentFilter, To, Keep}
use Rattle.pair_theory.specs.ReductionPair.{AllTerms}
use Rattle.pair_order.specs.Entries.{entry_of}
use Rattle.pair_order.specs.Spoken.{SpeaksWithEntries}

pub record PathEntry : Type 0 where
  pub symbol : ℕ
  pub rank : ℕ
  pub filter : ArgumentFilter

abbrev pub symbol_of : PathEntry → ℕ
symbol_of e = e.symbol

abbrev pub rank_of : Option PathEntry → ℕ
rank_of None = 0
rank_of (Some e) = e.rank

abbrev pub filter_of : Option PathEntry → ArgumentFilter
filter_of None = Keep []
filter_of (Some e) = e.filter

abbrev pub rank_in : List PathEntry → ℕ → ℕ
rank_in entries f = rank_of (entry_of symbol_of entries f)

abbrev pub filter_in : List PathEntry → ℕ → ArgumentFilter
filter_in entries f = filter_of (entry_of symbol_of entries f)

-- each place is above the one before it, the first above n
abbrev pub AscendsFrom : ℕ → List ℕ → Type 0
AscendsFrom n [] = Unit {0}
AscendsFrom n (place ∷ places) = (n < place) × AscendsFrom place places

-- the places are from 1 on, and ascend strictly
abbrev pub IsProper : ArgumentFilter → Type 0
IsProper (To place) = 0 < place
IsProper (Keep places) = AscendsFrom 0 places

-- the order speaks of all terms
pub spoken : (arities : List ℕ) (entry : ℕ → Bool) → SpeaksWithEntries arities entry AllTerms
spoken arities entry = record { of_terms = λ t h k. tt; of_marked = λ u h k. tt }
