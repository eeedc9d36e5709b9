-- Linear and left-linear rules, as conditions. (Baader and Nipkow, section 6.3.)
use Rattle.std.specs.Prelude.{ℕ, List}
use Rattle.trs_defs.specs.Variable.{IsLinear}
use Rattle.trs_defs.specs.System.{RewriteRule}
use Rattle.rewrite_core.specs.declared.checks.refusals.StepRefused.TheVariants.{NotLinear}
use Rattle.rewrite_core.specs.Check.{Check, Needs, each}

abbrev pub is_left_linear : ℕ → RewriteRule → Check (Unit {0})
is_left_linear n rule = Needs (IsLinear rule.left) (NotLinear n)

abbrev pub is_linear : ℕ → RewriteRule → Check (Unit {0})
is_linear n rule = Needs (IsLinear rule.left × IsLinear rule.right) (NotLinear n)

-- each left side is linear; the least rule with another one is named
abbrev pub are_left_linear : List RewriteRule → Check (Unit {0})
are_left_linear rules = each is_left_linear 0 rules

-- both sides of each rule are linear
abbrev pub are_linear : List RewriteRule → Check (Unit {0})
are_linear rules = each is_linear 0 rules
