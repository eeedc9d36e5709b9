use Rattle.std.proofs.Common.{◌≡◌, ◌++◌}
use Rattle.term_pool.specs.ListedIds.{listed_at}
use Rattle.rewrite_core.proofs.reaching.terms_of.Given as goal

abbrev pub invariant-loop-id : goal.invariant-loop-id
invariant-loop-id l = record {
  made : l.terms.items ≡ listed_at l.pool l.yielded;
  all : l.yielded ++ l.id-iterator.rest.items ≡ l.fn.found.items;
}
