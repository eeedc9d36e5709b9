use Rattle.std.proofs.Common.{None, sym, subst, length, ◌<◌}
use Rattle.dp_core.specs.Symbols.{symbols_of_rules}
use Rattle.dp_core.proofs.AllNumbers.{numbers_within, all_of_numbers}
use Rattle.dp_core.proofs.LeastLacking.{all_have}
use Rattle.dp_core.proofs.SymbolBounds.{system_symbols}
use Rattle.dp_core.proofs.entries.lacking_in_system.Goals as goal

pub returns-then-have_entries : goal.returns-then-have_entries
returns-then-have_entries g c =
    all_have (g.O.ReductionPair.has c.args.order.now) (symbols_of_rules c.args.trs.now.rules) None
    (λ f i. c.have_entries.ensures c.if-have_entries.true f
    (subst (λ l. f < length l) (sym c.arities.ensures) (system_symbols c.args.trs.now c.systems_are_valid.ensures.valid f i)))

pub lacking_in_rules-requires : goal.lacking_in_rules-requires
lacking_in_rules-requires g c = rw c.rules.ensures.rules (numbers_within c.args.trs.now.rules c.args.numbers.now c.requires)

pub returns : goal.returns
returns g c =
    (rw c.rules.ensures.rules at c.lacking_in_rules.ensures) c.args.trs.now.rules (all_of_numbers c.args.trs.now.rules c.args.numbers.now c.requires)
