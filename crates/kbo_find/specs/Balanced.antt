-- The rule that a balance is of.
use Rattle.trs_defs.specs.System.{RewriteRule}
use Rattle.kbo_find.specs.declared.balance.Balance.{Balance}

abbrev pub rule_of : Balance → RewriteRule
rule_of balance = balance.rule.now
