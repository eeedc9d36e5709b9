use Rattle.std.proofs.Common.{◌≡◌, ℕ, List, false, Some, get_or, slice_get, subst, arith}
use Rattle.std.proofs.lemmas.Option.{slice_get-get_or}
use native.Mathlib.Decide.{ℕ_discrete}
use Rattle.dp_graph.proofs.Sets.{true_is_not_false}
use Rattle.dp_graph.proofs.UnnamedPairs.{first_is_least, none_is_left}
use Rattle.dp_graph.proofs.unnamed.Unnamed.least.Goals as goal

pub loop-k-init : goal.loop-k-init
loop-k-init c = λ j lt free. absurd (omega (arith, lt))

pub loop-k-preserved : goal.loop-k-preserved
loop-k-preserved c = λ j lt free. elim (ℕ_discrete j c.loop-k.k) [
  | yes e ↦ true_is_not_false c.is_unnamed.result (c.is_unnamed.ensures.1 (subst (λ z. slice_get c.args.self.now.named.items z ≡ Some false) e free)) c.if-is_unnamed.false
  | no other ↦ c.loop-k.invariant j (omega (arith, lt, other)) free
]

pub returns-then-is_unnamed : goal.returns-then-is_unnamed
returns-then-is_unnamed c = λ numbers named are.
    let k = c.loop-k.k in
    let xs = c.deref-n-items.result.now in
    let n = get_or xs k 0 in
    let at : slice_get c.args.self.now.numbers.items k ≡ Some n =
    subst (λ (z : List ℕ). slice_get z k ≡ Some n) c.deref-n-items.ensures.value (slice_get-get_or xs k 0 c.loop-k-test.true) in
    first_is_least numbers named c.args.self.now are n k (at, c.is_unnamed.ensures.0 c.if-is_unnamed.true) c.loop-k.invariant

pub returns : goal.returns
returns c = λ numbers named are. none_is_left numbers named c.args.self.now are c.loop-k.k (omega (arith, c.loop-k-test.false)) c.loop-k.invariant
