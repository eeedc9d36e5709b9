use Rattle.std.proofs.Common.{◌≡◌, ◌<◌, ℕ, List, subst}
use Rattle.completion.specs.PassedIds.{mark_of}
use Rattle.completion.proofs.MarkLaws.{below_kept, above_gone}
use Rattle.completion.proofs.passed_ids.PassedIds.forget_from.Goals as goal

pub returns-clause-below : goal.returns-clause-below
returns-clause-below c =
    let S : List ℕ → Type 0 = λ marks. (v : ℕ) → v < c.args.mark → mark_of c.truncate.new.self.items v ≡ mark_of marks v in
    subst S c.self.view_is (λ v below. below_kept c.self.inside.counts.items c.truncate.new.self.items c.args.mark v c.truncate.ensures.items below)

pub returns-clause-above : goal.returns-clause-above
returns-clause-above c = λ v past. above_gone c.self.inside.counts.items c.truncate.new.self.items c.args.mark v c.truncate.ensures.items past
