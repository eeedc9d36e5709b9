use Rattle.std.proofs.Common.{IfSome, take}
use Rattle.trs_defs.specs.Substitution.{IsInstance}
use Rattle.term_pool.specs.Pooled.{tree_at}
use Rattle.term_pool.specs.Known.{IsKnown}
use Rattle.term_pool.proofs.RootRules.{NoneSuch, Matches}
use Rattle.term_pool.proofs.pools.Pool.is_redex.Given as goal

abbrev pub invariant-loop-k : goal.invariant-loop-k
invariant-loop-k l = record {
  none : NoneSuch (Matches (tree_at l.self l.id)) l.rules (take l.k-index l.k-items);
  last : IfSome l.last (λ side. IsInstance (tree_at l.self side) (tree_at l.self l.id) → ⊥);
  known : IsKnown l.by_root.rules l.self l.known;
}
