use Rattle.std.proofs.Common.{◌≡◌, ℕ, ◌<◌, get_or, true}
use Rattle.assign_search.proofs.testing.Tester.all_hold.Given as goal

abbrev pub invariant-loop-c : goal.invariant-loop-c
invariant-loop-c g l = record {
  serves : g.Self.Tester.serves l.self l.space;
  true_so_far : (k : ℕ) → k < l.c-index → (g.S.Space.puzzle l.space).truth (get_or l.constraints k 0) l.values ≡ true;
}
