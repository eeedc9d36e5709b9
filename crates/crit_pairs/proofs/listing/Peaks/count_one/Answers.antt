use Rattle.std.proofs.Common.{refl, ◌∙◌}
use Rattle.crit_pairs.proofs.EqualRules.{whole_sum}
use Rattle.crit_pairs.proofs.listing.Peaks.count_one.Goals as goal

pub returns-clause-counted : goal.returns-clause-counted
returns-clause-counted g c = record {
  same_list = refl;
  same_most = refl;
  same_terms = refl;
  count = c.saturating_add-self.ensures;
  total = whole_sum _ _ (c.in_ok-self.ensures.few.0 ∙ c.saturating_add.ensures) c.in_ok-self.ensures.few.1;
  few = c.in_ok-self.ensures.few.1;
}
