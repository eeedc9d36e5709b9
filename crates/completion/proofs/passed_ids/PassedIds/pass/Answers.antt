use Rattle.std.proofs.Common.{ℕ, List, slice_set, subst, sym}
use Rattle.completion.specs.PassedIds.{IsMarked}
use Rattle.completion.proofs.MarkLaws.{one_marked}
use Rattle.completion.proofs.passed_ids.PassedIds.pass.Goals as goal

pub returns : goal.returns
returns c =
    let M : List ℕ → Type 0 = λ marks. IsMarked c.args.id c.args.count c.args.self.now (slice_set marks c.args.id c.args.count) in
    subst M (sym c.self.view_is) (one_marked c.args.self.now c.make_place.new.self c.args.id c.args.count c.in_ok-make_place.ensures.there c.in_ok-make_place.ensures.same)
