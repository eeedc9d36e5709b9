use Rattle.std.proofs.Common.{◌≡◌, ◌<◌, ◌≤◌, ℕ, List, [], All, length, subst, sym, ◌∙◌}
use Rattle.trs_defs.specs.System.{System}
use Rattle.term_pool.specs.Roots.{with_root}
use Rattle.term_pool.proofs.RootRules.{within_rules}
use Rattle.completion.specs.Growing.{numbers_at}
use Rattle.completion.proofs.GrowingLaws.{numbers_read, no_numbers_past}
use Rattle.completion.proofs.growing.GrowingTrs.with_root.Goals as goal

pub returns-in-Some-clause-within : goal.returns-in-Some-clause-within
returns-in-Some-clause-within c =
    let lists = c.self.inside.by_root.items in
    let rules = c.self.inside.rules.items in
    let found = c.in-Some.ensures.lookup.3 in
    let below : c.args.f < length lists = rw c.deref.ensures.value at found.0 in
    let read : numbers_at lists c.args.f ≡ c.in-Some.numbers.now.items = numbers_read lists c.args.f c.in-Some.numbers.now below (rw c.deref.ensures.value at (found.1 c.in-Some.numbers.now)) in
    let same : c.deref-in-Some.result.now ≡ with_root c.args.f rules = c.deref-in-Some.ensures.value ∙ (sym read ∙ c.self.invariant.numbers c.args.f) in
    let S : System → Type 0 = λ s. All (λ k. k < length s.rules) c.deref-in-Some.result.now in
    let L : List ℕ → Type 0 = λ ks. All (λ k. k < length rules) ks in
    subst S c.self.view_is (subst L (sym same) (within_rules c.args.f rules))

pub returns-in-None-clause-numbers : goal.returns-in-None-clause-numbers
returns-in-None-clause-numbers c =
    let lists = c.self.inside.by_root.items in
    let past : length lists ≤ c.args.f = rw c.deref.ensures.value at c.in-None.ensures.lookup.3 in
    let S : System → Type 0 = λ s. ◌≡◌ {A = List ℕ} [] (with_root c.args.f s.rules) in
    subst S c.self.view_is (no_numbers_past lists c.args.f past ∙ c.self.invariant.numbers c.args.f)
