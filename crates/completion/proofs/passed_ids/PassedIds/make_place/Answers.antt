use Rattle.std.proofs.Common.{◌≡◌, ◌≤◌, ◌+◌, ℕ, List, length, subst, arith}
use Rattle.completion.specs.PassedIds.{mark_of}
use Rattle.completion.proofs.MarkLaws.{same_marks}
use Rattle.completion.proofs.passed_ids.PassedIds.make_place.Goals as goal

pub returns-clause-same : goal.returns-clause-same
returns-clause-same c =
    let S : List ℕ → Type 0 = λ marks. (v : ℕ) → mark_of c.resize.new.self.items v ≡ mark_of marks v in
    let short : length c.self.inside.counts.items ≤ c.args.id + 1 = omega (arith, c.if-place-len.false, c.len.ensures, c.self.inside.counts.ok.0) in
    subst S c.self.view_is (same_marks c.self.inside.counts.items c.resize.new.self.items (c.args.id + 1) _ short c.in_ok-resize.ensures.items)
