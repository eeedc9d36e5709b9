use Rattle.std.proofs.Common.{sym}
use Rattle.crit_pairs.proofs.Bindings.{solves_more}
use Rattle.crit_pairs.proofs.meeting.bind.Goals as goal

pub returns : goal.returns
returns c = λ θ.
    solves_more c.args.bindings.now.list.items c.add.new.self.list.items _ c.in_ok-add.ensures (sym c.in_default.ensures) θ
