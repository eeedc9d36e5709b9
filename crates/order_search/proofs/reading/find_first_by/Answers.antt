use Rattle.std.proofs.Common.{◌≡◌, ℕ, Vec, Some, sym, subst}
use Rattle.std.specs.declared.alloc.Global.{Global}
use Rattle.assign_search.specs.Puzzle.{solution_of}
use Rattle.order_search.specs.Outcome.{IsFirst}
use Rattle.order_search.proofs.Answered.{first_of}
use Rattle.order_search.proofs.reading.find_first_by.Goals as goal

pub read-requires : goal.read-requires
read-requires g c =
    let puzzle = g.S.Space.puzzle c.args.space.now in
    let first = first_of (λ (v : Vec ℕ Global). v.items) puzzle c.args.budget _ c.in-Ok-Found.field-0 c.in-Ok-Found.values c.in-Ok-Found.field-0-is c.in-Ok-Found.ensures.answer in
    subst (λ l. solution_of puzzle ≡ Some l) (sym c.deref.ensures.value) first.0

pub returns-in_ok-found-in-Ok-Found-clause-answer : goal.returns-in_ok-found-in-Ok-Found-clause-answer
returns-in_ok-found-in-Ok-Found-clause-answer g c =
    let puzzle = g.S.Space.puzzle c.args.space.now in
    let first = first_of (λ (v : Vec ℕ Global). v.items) puzzle c.args.budget _ c.in-Ok-Found.field-0 c.in-Ok-Found.values c.in-Ok-Found.field-0-is c.in-Ok-Found.ensures.answer in
    c.in_ok-found-in-Ok-Found.ensures c.args.budget (subst (λ l. IsFirst c.args.budget l puzzle) (sym c.deref.ensures.value) first)
