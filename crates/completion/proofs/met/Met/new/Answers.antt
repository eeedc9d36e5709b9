use Rattle.std.proofs.Common.{refl}
use Rattle.completion.proofs.MetLaws.{none_met}
use Rattle.completion.proofs.met.Met.new.Goals as goal

pub returns : goal.returns
returns c = none_met _ c.new.ensures c.new-2.ensures c.new-3.ensures.items refl
