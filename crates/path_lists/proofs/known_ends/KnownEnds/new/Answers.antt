use Rattle.std.proofs.Common.{ℕ, All, sym, subst}
use Rattle.std.proofs.lemmas.List.Elements.{All-nil}
use Rattle.path_lists.specs.KnownEnds.{AreReductsAt}
use Rattle.path_lists.specs.declared.reducts.Reducts.{Reducts}
use Rattle.path_lists.proofs.known_ends.KnownEnds.new.Goals as goal

pub returns : goal.returns
returns c = λ some pool. (
    let N : ℕ × Reducts → Type 0 = λ e. AreReductsAt some pool e.0 e.1 in
    record { reducts = subst (All N) (sym c.new.ensures.items) (All-nil N); known = c.new-3.ensures some pool })
