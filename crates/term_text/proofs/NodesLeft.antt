-- Room for nodes.
use Rattle.std.proofs.Common.{◌≡◌, ℕ, ◌+◌, Option, Some, None, refl, arith}
use Rattle.std.proofs.lemmas.Bool.Decides.{nat_tests}
use Rattle.term_text.specs.Limits.{nodes_left}

sum_of_some : (m n room : ℕ) → nodes_left (m + n) (Some room) ≡ nodes_left n (nodes_left m (Some room))
sum_of_some m n room = grind (arith, nat_tests)

-- two terms take their nodes one after the other
pub nodes_left_sum : (m n : ℕ) (room : Option ℕ) → nodes_left (m + n) room ≡ nodes_left n (nodes_left m room)
nodes_left_sum m n None = refl
nodes_left_sum m n (Some room) = sum_of_some m n room

nothing_of_some : (room : ℕ) → nodes_left 0 (Some room) ≡ Some room
nothing_of_some room = grind (arith, nat_tests)

pub nodes_left_nothing : (room : Option ℕ) → nodes_left 0 room ≡ room
nodes_left_nothing None = refl
nodes_left_nothing (Some room) = nothing_of_some room
