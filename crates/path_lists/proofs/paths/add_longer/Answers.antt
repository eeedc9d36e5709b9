use Rattle.std.proofs.Common.{length, [], ◌∷◌, ap, subst, arith}
use Rattle.term_pool.specs.Listed.{Listed}
use Rattle.term_pool.specs.ListedIds.{listed}
use Rattle.term_pool.specs.Reach.{AreCandidates}
use Rattle.path_lists.specs.Adding.{AddsPaths, IsEntryAt}
use Rattle.path_lists.specs.KnownEnds.{LeadsOn}
use Rattle.path_lists.proofs.Longer.{entry_read, same_entry, none_from_four}
use Rattle.path_lists.proofs.paths.add_longer.Goals.{After-index-entry}
use Rattle.path_lists.proofs.paths.add_longer.Goals as goal

at : (c : After-index-entry) → IsEntryAt c.args.paths.now.items c.args.place c.index-entry.result.now
at c = entry_read c.args.paths.now.items c.args.place c.index-entry.result.now c.requires.place c.index-entry.ensures

pub returns-then-len-ge-MOST_STEPS-clause-adds : goal.returns-then-len-ge-MOST_STEPS-clause-adds
returns-then-len-ge-MOST_STEPS-clause-adds c = λ e there.
    let pool = c.args.pool.now in
    let paths = c.args.paths.now.items in
    let entry = c.index-entry.result.now in
    let same = same_entry pool paths c.args.place entry e (at (goal.at.returns-then-len-ge-MOST_STEPS-clause-adds c).After-index-entry) there in
    let A : Listed → Type 0 = λ d. AddsPaths (AreCandidates c.args.trs.now.rules 4 4096 (d ∷ [])) pool pool paths paths in
    subst A same (none_from_four c.args.trs.now.rules (listed pool entry) pool paths (omega (arith, c.if-len-ge-MOST_STEPS.true, c.len.ensures, entry.1.ok.0)) c.requires.below c.requires.few)

pub returns-in-Some-clause-adds : goal.returns-in-Some-clause-adds
returns-in-Some-clause-adds c = λ e there.
    let pool = c.args.pool.now in
    let paths = c.args.paths.now.items in
    let rules = c.args.trs.now.rules in
    let entry = c.index-entry.result.now in
    let same = same_entry pool paths c.args.place entry e (at (goal.at.returns-in-Some-clause-adds c).After-index-entry) there in
    let L : Listed → Type 0 = λ d. LeadsOn rules pool paths d c.in-Some.reducts.now in
    let known = rw c.in-Some.is at c.reducts.ensures rules pool c.requires.ends in
    c.in_ok-add_known.ensures.adds rules pool e there
    (subst L same (record { short = omega (arith, c.if-len-ge-MOST_STEPS.false, c.len.ensures, entry.1.ok.0); are = known.are; below = c.requires.below }))

pub add_unknown-requires-clause-short : goal.add_unknown-requires-clause-short
add_unknown-requires-clause-short c = λ e there.
    let entry = c.index-entry.result.now in
    let same = ap (λ (d : Listed). length d.path) (same_entry c.args.pool.now c.args.paths.now.items c.args.place entry e (at (goal.at.add_unknown-requires-clause-short c).After-index-entry) there) in
    omega (arith, same, c.if-len-ge-MOST_STEPS.false, c.len.ensures, entry.1.ok.0)
