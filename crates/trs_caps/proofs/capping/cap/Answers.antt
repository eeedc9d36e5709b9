use Rattle.trs_caps.proofs.capping.cap.Goals as goal

pub cap-requires : goal.cap-requires
cap-requires c = c.new-known.ensures c.args.by_root.now.rules c.args.fixed
