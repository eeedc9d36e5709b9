-- A shelf can be asked again after texts were fetched.
use Rattle.std.proofs.Common.{ℕ, List, refl, ◌∙◌, arith}
use Rattle.io_edge.specs.Shelf.{ShelfMeaning, TellsTheSame, CountsRise, CanAskAgain}

pub untouched_again : (shelf : ShelfMeaning) → CanAskAgain shelf shelf
untouched_again shelf = record {
  told = λ q. refl;
  counts = record { faults = λ q. omega arith; bytes = λ q. omega arith };
}

pub once_again : (before now : ShelfMeaning) (name : List ℕ) → TellsTheSame before now → CountsRise before.faults now.faults name → CountsRise before.bytes now.bytes name
    → CanAskAgain before now
once_again before now name told faults bytes = record { told = told; counts = record { faults = faults.later; bytes = bytes.later } }

pub twice_again : (before middle now : ShelfMeaning) → CanAskAgain before middle → CanAskAgain middle now → CanAskAgain before now
twice_again before middle now first second = record {
  told = λ q. second.told q ∙ first.told q;
  counts = record {
    faults = λ q. omega (arith, first.counts.faults q, second.counts.faults q);
    bytes = λ q. omega (arith, first.counts.bytes q, second.counts.bytes q);
  };
}
