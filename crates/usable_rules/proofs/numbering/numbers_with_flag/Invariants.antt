use Rattle.std.proofs.Common.{◌≡◌, ◌++◌, drop}
use Rattle.trs_defs.specs.System.{RewriteRule}
use Rattle.term_pool.specs.Numbers.{numbers_where}
use Rattle.usable_rules.specs.Worklist.{has_flag}
use Rattle.usable_rules.proofs.numbering.numbers_with_flag.Given as goal

abbrev pub invariant-loop-k : goal.invariant-loop-k
invariant-loop-k l =
    l.numbers.items ++ numbers_where (λ (r : RewriteRule). has_flag l.flags r.left) l.k (drop l.k l.rules) ≡ numbers_where (λ (r : RewriteRule). has_flag l.flags r.left) 0 l.rules
