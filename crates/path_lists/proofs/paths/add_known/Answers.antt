use Rattle.std.proofs.Common.{ℕ, length, ◌≡◌, ◌==◌, [], ◌∷◌, ◌∙◌, ap, sym, subst, arith}
use Rattle.term_pool.specs.Listed.{Listed}
use Rattle.term_pool.specs.ListedIds.{listed}
use Rattle.term_pool.specs.Reach.{AreCandidates}
use Rattle.term_pool.specs.Redexes.{HasRedexes}
use Rattle.rewrite_core.proofs.PathLemmas.{is_empty}
use Rattle.path_lists.specs.Adding.{AddsPaths}
use Rattle.path_lists.specs.KnownEnds.{LeadsOn}
use Rattle.path_lists.proofs.Longer.{same_entry, none_longer}
use Rattle.path_lists.proofs.paths.add_known.Goals as goal

pub returns-then-is_empty : goal.returns-then-is_empty
returns-then-is_empty c = record {
  adds = λ rules pool e there leads.
      let steps = c.args.reducts.now.steps in
      let count : steps.len ≡ length steps.items = omega (arith, steps.ok.0) in
      let empty = is_empty steps.items c.is_empty.result (c.is_empty.ensures ∙ ap (λ (n : ℕ). n == 0) count) c.if-is_empty.true in
      none_longer rules (listed pool e) pool c.args.paths.now.items leads.short (subst (HasRedexes rules (listed pool e).term) empty leads.are.redexes) leads.below c.requires.few;
}

pub returns : goal.returns
returns c = record {
  adds = λ rules pool e there leads.
      let paths = c.args.paths.now.items in
      let same = same_entry pool paths c.args.place c.in_ok-entry.entry e (rw c.deref.ensures.value at c.in_ok-entry.ensures) there in
      let A : Listed → Type 0 = λ d. AddsPaths (AreCandidates rules 4 4096 (d ∷ [])) pool pool paths c.add_reducts.new.paths.items in
      let L : Listed → Type 0 = λ d. LeadsOn rules pool paths d c.args.reducts.now in
      subst A same (c.in_ok-add_reducts.ensures.adds rules pool (subst L (sym same) leads));
}
