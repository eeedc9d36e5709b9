use Rattle.std.proofs.Common.{sym, subst}
use Rattle.trs_defs.specs.Tree.{Tree}
use Rattle.term_pool.specs.Pooled.{StandsFor}
use Rattle.term_pool.proofs.InstanceLaws.{instances_on}
use Rattle.term_pool.proofs.pools.Pool.add_instance.Goals as goal

pub returns-clause-made : goal.returns-clause-made
returns-clause-made c = λ s t right there is.
    let S : Tree → Type 0 = λ u. StandsFor c.add.new.self c.in_ok-own.own u in
    let kept = c.in_ok-own.ensures.kept in
    c.in_ok-note.ensures.right s c.add.new.self t (instances_on s c.args.self.now c.add.new.self c.args.made.now kept right) (kept.kept c.args.id t there) (subst S (sym is) c.in_ok-own.ensures.id)
