use Rattle.std.proofs.Common.{◌≡◌, length, arith, ap, refl}
use Rattle.assign_search.proofs.Continuing.{continues_itself, continues_on}
use Rattle.loop_find.proofs.Tried.{sets_out, goes_on, comes_out, arrives, still_there, next_rule, no_rule_left}
use Rattle.loop_find.proofs.trying.try_rules.Goals as goal

pub loop-k-init : goal.loop-k-init
loop-k-init g c = record {
  going = λ cl e. sets_out c.args.trial.now.trs.now.rules c.args.trial.now.budget _ _ c.args.closures.now c.requires.trial.within refl;
  trial = c.requires.trial;
  continues = continues_itself g.P.Stop c.args.stop.now;
}

pub loop-k-preserved : goal.loop-k-preserved
loop-k-preserved g c =
    let rules = c.args.trial.now.trs.now.rules in
    let many : length c.rules-k-end.result.now ≡ length rules = ap length c.rules-k-end.ensures.rules in
    record {
      going = λ cl e.
          let before = c.loop-k.invariant.going cl e in
          goes_on rules c.args.trial.now.budget _ _ _ _ c.args.closures.now c.loop-k.closures before (next_rule cl c.args.place.now rules c.loop-k.k (omega (arith, many, c.loop-k-test.true))) c.try_rule.new.closures _ c.in_ok-turn.turn
          (c.if-not-is_next.ensures.0 refl) (c.in_ok-turn.ensures.turn cl (still_there rules c.args.trial.now.budget _ _ c.args.closures.now c.loop-k.closures c.args.trial.now.number cl before e));
      trial = c.in_ok-turn.ensures.trial;
      continues = continues_on c.loop-k.invariant.continues c.try_rule.ensures.continues;
    }

pub returns-then-not-is_next-clause-turn : goal.returns-then-not-is_next-clause-turn
returns-then-not-is_next-clause-turn g c = λ cl e.
    let rules = c.args.trial.now.trs.now.rules in
    let many : length c.rules-k-end.result.now ≡ length rules = ap length c.rules-k-end.ensures.rules in
    let before = c.loop-k.invariant.going cl e in
    comes_out rules c.args.trial.now.budget _ _ _ _ c.args.closures.now c.loop-k.closures before (next_rule cl c.args.place.now rules c.loop-k.k (omega (arith, many, c.loop-k-test.true))) c.try_rule.new.closures _ _ c.in_ok-turn.turn
    (λ n. let y = c.if-not-is_next.ensures.1 n in absurd cc) (λ r. omega (arith, r, c.loop-k.invariant.continues.later))
    (c.in_ok-turn.ensures.turn cl (still_there rules c.args.trial.now.budget _ _ c.args.closures.now c.loop-k.closures c.args.trial.now.number cl before e))

pub returns-clause-turn : goal.returns-clause-turn
returns-clause-turn g c = λ cl e.
    let rules = c.args.trial.now.trs.now.rules in
    let many : length c.rules-k-end.result.now ≡ length rules = ap length c.rules-k-end.ensures.rules in
    arrives rules c.args.trial.now.budget _ _ c.args.closures.now c.loop-k.closures (no_rule_left cl c.args.place.now rules c.loop-k.k (omega (arith, many, c.loop-k-test.false))) (c.loop-k.invariant.going cl e)
