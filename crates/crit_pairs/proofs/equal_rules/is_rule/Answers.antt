use Rattle.std.proofs.Common.{Some, length, refl, ap, ◌∙◌}
use Rattle.std.proofs.lemmas.Option.{slice_get_read}
use Rattle.crit_pairs.proofs.equal_rules.is_rule.Goals as goal

pub returns-in-Some : goal.returns-in-Some
returns-in-Some c = λ same.
    let rules = c.args.rules.now in
    let there = slice_get_read rules (length rules) c.args.k c.in-Some.other.now refl c.in-Some.ensures.lookup.3.0 c.in-Some.ensures.lookup.1 in
    there ∙ ap (λ r. Some r) (c.are_same.ensures same)
