use Rattle.std.proofs.Common.{◌≡◌, ◌+◌, ◌∷◌, ◌++◌, drop, ap, subst}
use Rattle.std.proofs.lemmas.List.{drop_all}
use Rattle.trs_defs.proofs.ArgumentLists.{cell}
use Rattle.dp_core.specs.Symbols.{symbols_of, symbols_of_rules}
use Rattle.order_search.proofs.Growing.{MissesOnly, fewer_missing, none_missing}
use Rattle.order_search.proofs.symbols.symbol_set.Goals as goal

pub loop-rule-preserved : goal.loop-rule-preserved
loop-rule-preserved c =
    let rules = c.args.rules.now in
    let i = c.loop-rule.rule-index in
    let rule = c.rule-item.result in
    let opened : drop i rules ≡ rule ∷ drop (i + 1) rules = cell rules i rule c.loop-rule-test.true c.rule-item.is in
    fewer_missing c.loop-rule.set.items c.add_sides.new.set.items (symbols_of_rules rules) (symbols_of rule.left ++ symbols_of rule.right) (symbols_of_rules (drop (i + 1) rules))
    (subst (λ l. MissesOnly c.loop-rule.set.items (symbols_of_rules rules) (symbols_of_rules l)) opened c.loop-rule.invariant)
    c.in_ok-add_sides.ensures

pub returns : goal.returns
returns c =
    none_missing c.loop-rule.set.items (symbols_of_rules c.args.rules.now) (symbols_of_rules (drop c.loop-rule.rule-index c.args.rules.now))
    (ap (λ l. symbols_of_rules l) (drop_all c.loop-rule.rule-index c.args.rules.now c.loop-rule-test.false)) c.loop-rule.invariant
