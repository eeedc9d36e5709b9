use Rattle.std.proofs.Common.{ℕ, All, sym, subst}
use Rattle.path_lists.specs.KnownEnds.{AreReductsAt}
use Rattle.path_lists.specs.declared.reducts.Reducts.{Reducts}
use Rattle.path_lists.proofs.known_ends.KnownEnds.reducts.Goals as goal

pub returns : goal.returns
returns c = λ rules pool known.
    let N : ℕ × Reducts → Type 0 = λ e. AreReductsAt rules pool e.0 e.1 in
    let A : ℕ → Type 0 = λ k. AreReductsAt rules pool k c.in_ok-entry.entry.now.1 in
    let all = subst (All N) (sym c.deref-2.ensures.value) known.reducts in
    let lookup = c.in_ok-entry.ensures.lookup in
    subst A c.if-entry-id.false (subst N (sym lookup.1) (all c.in_ok-place.place.now c.in_ok-entry.entry.now lookup.3.0))
