use Rattle.std.proofs.Common.{◌≡◌, ap, length, arith}
use Rattle.term_pool.proofs.Extending.{undone}
use Rattle.term_pool.proofs.pools.Pool.run_path.Goals as goal

pub returns-in-Err-clause-unchanged : goal.returns-in-Err-clause-unchanged
returns-in-Err-clause-unchanged c = undone c.args.self.now c.run.new.self c.release.new.self c.mark-mark.result c.mark-mark.ensures c.in-Err.ensures.kept c.release.ensures

pub returns-in-Err-clause-few : goal.returns-in-Err-clause-few
returns-in-Err-clause-few c =
    let same = undone c.args.self.now c.run.new.self c.release.new.self c.mark-mark.result c.mark-mark.ensures c.in-Err.ensures.kept c.release.ensures in
    let counted : length c.release.new.self ≡ length c.args.self.now = ap length same in
    omega (arith, counted)
