use Rattle.std.proofs.Common.{◌≡◌, ◌<◌, subst, sym, ℕ, ap}
use Rattle.trs_defs.specs.System.{System}
use Rattle.tree_core.specs.tree_definitions.Trees.{ProofTree}
use Rattle.turn_lock.proofs.Turns.{first_has}
use Rattle.worker_pool.specs.Shared.{history_of, Opens}
use Rattle.worker_pool.proofs.Turning.{opens_first, closed_on, answered, verdict_on}
use Rattle.worker_pool.proofs.pool.prove_with.Goals as goal

pub close-tree-requires-clause-all : goal.close-tree-requires-clause-all
close-tree-requires-clause-all g c =
    let e = c.in-Ok.ensures.ok in
    λ x h. c.crew-last.ensures.has x (first_has c.in-Ok.seat x (ap (λ s. s.number) e) (ap (λ s. s.free) e) (subst (λ (n : ℕ). x < n) c.crew-last.ensures.seats h))

pub crew-last-requires-clause-opens : goal.crew-last-requires-clause-opens
crew-last-requires-clause-opens g c κs within =
    subst (λ (s : System). Opens c.args.question s c.args.limits.budget c.in-Ok.seat.seen) (sym c.in_ok-tables.ensures)
    (opens_first c.args.question c.args.trs.now c.args.limits.budget c.in-Ok.seat.seen (history_of c.in_ok-shared.shared.tree)
    (ap (λ s. s.seen) c.in-Ok.ensures.ok) c.in_ok-shared.ensures)

pub returns-clause-question : goal.returns-clause-question
returns-clause-question g c =
    let question = c.args.question in
    let system = c.args.trs.now in
    let budget = c.args.limits.budget in
    let seen = c.in-Ok.seat.seen in
    let opens = opens_first question system budget seen (history_of c.in_ok-shared.shared.tree) (ap (λ s. s.seen) c.in-Ok.ensures.ok) c.in_ok-shared.ensures in
    let on = closed_on question system budget seen c.crew-last.result.seen c.close-tree.result.tree opens c.crew-last.ensures.seen c.close-tree.ensures.begins in
    answered (λ (f : ProofTree). f.question ≡ question) c.close-tree.result.tree c.finish.result c.finish.ensures.tree on.0

pub returns-clause-verdict : goal.returns-clause-verdict
returns-clause-verdict g c = verdict_on c.args.question c.finish.result (returns-clause-question g c) c.finish.ensures.verdict
