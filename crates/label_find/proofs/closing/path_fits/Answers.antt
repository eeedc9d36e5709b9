use Rattle.std.proofs.Common.{◌∙◌}
use Rattle.label_find.proofs.FitTests.{fits_read}
use Rattle.label_find.proofs.closing.path_fits.Goals as goal

pub returns : goal.returns
returns c =
    fits_read c.args.ranks.now c.args.first c.args.second c.args.path.now c.ranks_fit.result c.rank_of-a.result c.rank_of-b.result c.deref.result.now c.rank_of-a.ensures c.rank_of-b.ensures
    (c.deref.ensures.value ∙ c.in_ok-rules.ensures) c.ranks_fit.ensures
