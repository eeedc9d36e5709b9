use Rattle.std.specs.Prelude.{◌↔◌, true, IsTrue, IfOk}
use Rattle.std.proofs.lemmas.Result.{IfOk-weaker}
use Rattle.trs_defs.specs.Joinable.{IsJoinable}
use Rattle.trs_defs.specs.Step.{Step}
use Rattle.term_pool.specs.Pooled.{tree_at}
use Rattle.nonjoin.specs.Apart.{AreApart}
use Rattle.nonjoin.specs.Clashing.{TellsClash}
use Rattle.nonjoin.proofs.ApartLaws.{system_apart}
use Rattle.nonjoin.proofs.ClashLaws.{tells_apart}
use Rattle.nonjoin.proofs.comparing.apart_in_pool.Goals as goal

pub clash-requires-clause-known : goal.clash-requires-clause-known
clash-requires-clause-known c = c.in_ok-known.ensures true

pub returns-clause-caps : goal.returns-clause-caps
returns-clause-caps c =
    let a = tree_at c.args.pool.now c.args.a in
    let b = tree_at c.args.pool.now c.args.b in
    let tell : IfOk c.clash.result (TellsClash c.args.trs.now.rules a b) = rw c.in_ok-by_root.ensures at c.clash.ensures.clash in
    IfOk-weaker c.clash.result (TellsClash c.args.trs.now.rules a b) (λ yes. IsTrue yes ↔ AreApart c.args.trs.now.rules a b) (tells_apart c.args.trs.now.rules a b) tell

pub returns-clause-not_joinable : goal.returns-clause-not_joinable
returns-clause-not_joinable c =
    let a = tree_at c.args.pool.now c.args.a in
    let b = tree_at c.args.pool.now c.args.b in
    IfOk-weaker c.clash.result (λ yes. IsTrue yes ↔ AreApart c.args.trs.now.rules a b) (λ yes. IsTrue yes → IsJoinable (Step c.args.trs.now.rules) a b → ⊥)
    (λ yes tells e. system_apart c.args.trs.now a b c.rules.ensures.valid (tells.0 e)) (returns-clause-caps c)
