use Rattle.std.proofs.Common.{◌≡◌, arith, sym, ap, ◌∙◌, subst, length}
use Rattle.pair_theory.specs.DependencyPair.{DependencyPair}
use Rattle.pair_theory.specs.Marked.{Marked}
use Rattle.usable_rules.specs.Worklist.{IsCalledInAny}
use Rattle.dp_core.proofs.NumberedPairs.{pair_at, as_many}
use Rattle.usable_rules.proofs.Found.{pairs_all, next_only, led_by_pair, no_pairs_left}
use Rattle.usable_rules.proofs.closing.mark_pairs.Goals as goal

pub loop-n-preserved : goal.loop-n-preserved
loop-n-preserved c =
    let i = c.loop-n.n-index in
    let p = c.index-pairs-n.result in
    let found = c.loop-n.found.items in
    let new = c.mark_arguments.new.found.items in
    let n = length c.args.flags.now.items in
    let e = c.in_ok-mark_arguments.ensures in
    let to : c.sides.inside.to ≡ p.to = ap (λ (x : DependencyPair). x.to) c.sides.view_is in
    record {
      marked = e.marked;
      flags = e.flags ∙ c.loop-n.invariant.flags;
      kept = λ g h. e.kept g (c.loop-n.invariant.kept g h);
      all = λ taken are g led low.
          pairs_all taken i g n p found new (pair_at c.args.pairs.now c.args.problem.now taken i p c.requires.numbers are c.loop-n-test.true c.index-pairs-n.is)
          (e.kept g) (λ call low. e.all g (subst (λ (x : Marked). IsCalledInAny x.args g) (sym to) call) (rw c.loop-n.invariant.flags low)) low (c.loop-n.invariant.all taken are g led low);
      only = λ taken are. next_only c.args.found.now.items found new e.only
          (λ g call. led_by_pair taken i g p (pair_at c.args.pairs.now c.args.problem.now taken i p c.requires.numbers are c.loop-n-test.true c.index-pairs-n.is) (subst (λ (x : Marked). IsCalledInAny x.args g) to call))
          (c.loop-n.invariant.only taken are);
    }

pub returns-clause-all : goal.returns-clause-all
returns-clause-all c taken are g led low =
    no_pairs_left taken c.loop-n.n-index g c.loop-n.found.items (let h = as_many c.args.pairs.now c.args.problem.now taken are in omega (arith, h, c.loop-n-test.false))
    (c.loop-n.invariant.all taken are g led low)
