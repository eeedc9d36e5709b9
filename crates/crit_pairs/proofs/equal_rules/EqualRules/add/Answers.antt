use Rattle.std.proofs.Common.{◌∷◌, [], ◌++◌, ap, length, length-append, sym, ◌∙◌, arith}
use Rattle.crit_pairs.proofs.EqualRules.{one_number_more}
use Rattle.crit_pairs.proofs.equal_rules.EqualRules.add.Goals as goal

pub loop-k-init : goal.loop-k-init
loop-k-init c = record {
  equal = c.requires.equal;
  numbered = omega (arith, c.len-known.ensures, c.args.self.now.firsts.ok.0);
  within = omega (arith, c.len-known.ensures, c.args.self.now.firsts.ok.0, c.requires.within);
}

pub loop-k-preserved : goal.loop-k-preserved
loop-k-preserved c =
    let kept = c.in_ok-first.ensures.kept in
    let put = c.in_ok-push.ensures.items ∙ ap (λ ns. ns ++ c.in_ok-first.first ∷ []) kept in
    record {
      equal = one_number_more c.args.rules.now c.loop-k.self.firsts.items _ c.loop-k.k c.in_ok-first.first (sym c.loop-k.invariant.numbered) c.in_ok-first.ensures.equal put c.loop-k.invariant.equal;
      numbered = omega (arith, ap length put, length-append c.loop-k.self.firsts.items (c.in_ok-first.first ∷ []), c.loop-k.invariant.numbered);
      within = omega (arith, c.loop-k-test.true);
    }

pub returns-clause-numbered : goal.returns-clause-numbered
returns-clause-numbered c = omega (arith, c.loop-k.invariant.numbered, c.loop-k.invariant.within, c.loop-k-test.false)
