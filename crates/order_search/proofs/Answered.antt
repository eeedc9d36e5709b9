-- What a search answers where it found values, and what they are read as.
use Rattle.std.specs.Prelude.{◌≡◌, ℕ, List, map, Result, Ok, Err, IfOk}
use Rattle.std.proofs.Common.{subst}
use Rattle.assign_search.specs.Puzzle.{Puzzle}
use Rattle.assign_search.specs.Searched.{IsAnswer}
use Rattle.assign_search.specs.declared.search.Search.{Search}
use Rattle.assign_search.specs.declared.search.Search.TheVariants.{Found}
use Rattle.order_search.specs.Outcome.{IsFirst}
use Rattle.order_search.specs.Slots.{Table, table_of, puzzle_of}
use Rattle.order_search.specs.Slots.{Search as Sought}
use Rattle.order_search.specs.OrderSpace.{OrderConstraint}
use Rattle.order_search.specs.OrderOver.{IsOrderOver}

pub first_of : {A : Type 0} (values : A → List ℕ) (z : Puzzle) (budget : ℕ) (rose : Type 0) (answer : Search A) (a : A) → answer ≡ Found a
    → IsAnswer values z budget rose answer → IsFirst budget (values a) z
first_of values z budget rose answer a is h = subst (λ x. IsAnswer values z budget rose x) is h

-- the entries that the values of the first solution say are those of an order
pub reads_order : {Entry Answer E : Type 0} (sought : Sought OrderConstraint) (entry : Table → ℕ → Entry) (entries : Answer → List Entry) (symbols values : List ℕ)
    (result : Result Answer E) → IfOk result (λ a. entries a ≡ map (entry (table_of sought.slots values)) symbols)
    → IfOk result (λ a. (budget : ℕ) → IsFirst budget values (puzzle_of sought) → IsOrderOver entry sought budget symbols (entries a))
reads_order sought entry entries symbols values (Ok a) e = λ budget first. record { values = values; first = first; are = e }
reads_order sought entry entries symbols values (Err fault) e = tt
