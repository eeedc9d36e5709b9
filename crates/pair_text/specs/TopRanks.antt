-- The two greatest ranks of entries, of different symbols.
use Rattle.std.specs.Prelude.{◌≡◌, ◌≤◌, ℕ, max, nat_lt, ◌==◌, Bool, true, List, Option, Some, None, Ok, Err, if◌then◌else◌}
use Rattle.std.specs.List.{list_all}
use Rattle.kbo_order.specs.declared.entries.KboEntry.{KboEntry}
use Rattle.text_reading.specs.Reading.{Read}
use Rattle.pair_text.specs.KnuthEntries.{is_below}
use Rattle.pair_text.specs.declared.top_ranks.TopRanks.{TopRanks}

abbrev pub is_less : Option ℕ → ℕ → Bool
is_less None rank = true
is_less (Some other) rank = nat_lt other rank

-- whether the ranks of all other symbols are below
abbrev pub are_below : Option TopRanks → ℕ → ℕ → Bool
are_below None f rank = true
are_below (Some top) f rank = if top.symbol == f then is_less top.other rank else nat_lt top.rank rank

abbrev pub IsAtMost : Option ℕ → ℕ → Type 0
IsAtMost None rank = Unit {0}
IsAtMost (Some other) rank = other ≤ rank

abbrev pub AreOrdered : Option TopRanks → Type 0
AreOrdered None = Unit {0}
AreOrdered (Some top) = IsAtMost top.other top.rank

-- they tell of each symbol and rank whether the entries of other symbols are below
pub record AreTopRanks (top : Option TopRanks) (es : List KboEntry) : Type 0 where
  pub ordered : AreOrdered top
  pub tell : (f rank : ℕ) → list_all (is_below f rank) es ≡ are_below top f rank

abbrev pub or_greater : Option ℕ → ℕ → Option ℕ
or_greater None rank = Some rank
or_greater (Some other) rank = Some (max other rank)

-- with one more entry
abbrev pub more_ranks : TopRanks → ℕ → ℕ → TopRanks
more_ranks top f rank =
    if top.symbol == f then record top { rank = max top.rank rank }
    else (if nat_lt top.rank rank then record { symbol = f; rank = rank; other = Some top.rank }
    else record top { other = or_greater top.other rank })

abbrev pub with_rank : Option TopRanks → ℕ → ℕ → Option TopRanks
with_rank None f rank = Some (record { symbol = f; rank = rank; other = None })
with_rank (Some top) f rank = Some (more_ranks top f rank)

-- with one more entry, if one is read
abbrev pub with_read : Option TopRanks → Read KboEntry → Option TopRanks
with_read top (Ok e) = with_rank top e.symbol e.rank
with_read top (Err p) = top
