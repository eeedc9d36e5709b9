use Rattle.trs_caps.proofs.KnownSteps.{grown}
use Rattle.trs_caps.proofs.knowing.KnownCaps.id.Goals as goal

pub returns-clause-known : goal.returns-clause-known
returns-clause-known c = λ rules fixed known. record {
  opens = grown rules fixed c.args.self.now.pool c.intern.new.self c.args.self.now.opens known.opens c.in_ok-id.ensures.kept;
  sizes = known.sizes;
}
