use Rattle.std.proofs.Common.{◌∙◌}
use Rattle.trs_caps.proofs.KnownSteps.{noted_so}
use Rattle.trs_caps.proofs.knowing.recall.Goals as goal

pub returns : goal.returns
returns c = noted_so c.args.opens.now c.args.id c.in-Some.i c.copied.result c.in-Some.is (c.copied.ensures ∙ c.get.ensures.value)
