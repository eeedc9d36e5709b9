use Rattle.std.proofs.Common.{◌≡◌, length}
use Rattle.poly_find.specs.RuleSubterms.{AreOfEach}
use Rattle.poly_find.proofs.subterms.subterms_of_rules.Given as goal

abbrev pub invariant-loop-k : goal.invariant-loop-k
invariant-loop-k l = AreOfEach l.rules l.listed.items × (length l.listed.items ≡ l.k)
