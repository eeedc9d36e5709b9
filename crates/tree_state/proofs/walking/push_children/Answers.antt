use Rattle.std.proofs.Common.{◌≡◌, ◌<◌, ◌+◌, ◌^◌, ℕ, Option, Some, slice_get, subst}
use Rattle.tree_state.specs.declared.node.Decision.{Decision}
use Rattle.tree_state.specs.Ascending.{own_kids}
use Rattle.tree_state.proofs.Turns.{numbers_at}
use Rattle.tree_state.proofs.walking.push_children.Goals as goal

pub push_numbers-requires : goal.push_numbers-requires
push_numbers-requires c = λ k lt.
    let d = c.in-Some.decision in
    let low = subst (λ (o : Option Decision). (j e : ℕ) → slice_get (own_kids o) j ≡ Some e → e < 2 ^ 63) c.in-Some.is c.requires in
    low k (d.first + k) (numbers_at d.first d.count k lt)
