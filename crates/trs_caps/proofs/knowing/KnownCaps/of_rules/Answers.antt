use Rattle.trs_caps.proofs.knowing.KnownCaps.of_rules.Goals as goal

pub returns : goal.returns
returns c = λ fixed. record { opens = (c.new-known.ensures c.args.by_root.now.rules fixed).opens; sizes = c.in_ok-known.ensures }
