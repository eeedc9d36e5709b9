use Rattle.std.proofs.Common.{length, refl, sym, ◌∙◌}
use Rattle.std.proofs.lemmas.Option.{slice_get_read}
use Rattle.crit_pairs.proofs.equal_rules.EqualRules.first_equal.Goals as goal

pub returns-clause-equal : goal.returns-clause-equal
returns-clause-equal c =
    let rules = c.args.rules.now in
    c.is_rule.ensures c.if-not-is_rule.false ∙ sym (slice_get_read rules (length rules) c.args.k c.index-rules-k.result refl c.requires c.index-rules-k.is)
