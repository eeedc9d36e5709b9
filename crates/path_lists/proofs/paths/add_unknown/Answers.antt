use Rattle.std.proofs.Common.{ℕ, List, length, drop, ◌≡◌, ◌<◌, ◌≤◌, ◌+◌, ◌==◌, [], ◌∷◌, ◌∙◌, ap, sym, subst, arith}
use Rattle.trs_defs.specs.Tree.{Tree}
use Rattle.term_pool.specs.Pooled.{tree_at}
use Rattle.term_pool.specs.Listed.{Listed}
use Rattle.term_pool.specs.ListedIds.{listed, ids_of}
use Rattle.term_pool.specs.Reach.{AreCandidates}
use Rattle.term_pool.specs.Redexes.{HasRedexes}
use Rattle.rewrite_core.proofs.PathLemmas.{is_empty}
use Rattle.path_lists.specs.Adding.{Entry, AddsPaths, IsEntryAt}
use Rattle.path_lists.specs.KnownEnds.{AreKeptEnds, AreKnownEnds}
use Rattle.path_lists.proofs.Longer.{entry_read, entry_within, same_entry, none_longer}
use Rattle.path_lists.proofs.KnownReducts.{still_known, all_noted, ids_for_steps, no_reducts, reducts_made}
use Rattle.path_lists.proofs.paths.add_unknown.Goals.{After-index, In_ok-steps, In_ok-entry, In_ok-add_steps, In_ok-reached}
use Rattle.path_lists.proofs.paths.add_unknown.Goals as goal

at : (c : After-index) → IsEntryAt c.args.paths.now.items c.args.place c.index.result.now
at c = entry_read c.args.paths.now.items c.args.place c.index.result.now c.requires.place c.index.ensures

there : (c : After-index) → c.index.result.now.0 < length c.args.pool.now
there c = entry_within c.args.pool.now c.args.paths.now.items c.args.place c.index.result.now (at c) c.requires.below

pub redexes-requires-clause-there : goal.redexes-requires-clause-there
redexes-requires-clause-there c = there (goal.at.redexes-requires-clause-there c).After-index

pub redexes-requires-clause-narrow : goal.redexes-requires-clause-narrow
redexes-requires-clause-narrow c = (c.requires.on c.index.result.now (at (goal.at.redexes-requires-clause-narrow c).After-index)).narrow

redexes : (c : In_ok-steps) → HasRedexes c.args.trs.now.rules (tree_at c.args.pool.now c.index.result.now.0) c.in_ok-steps.steps.items
redexes c = rw c.requires.table at c.in_ok-steps.ensures.redexes

pub returns-then-is_empty-clause-adds : goal.returns-then-is_empty-clause-adds
returns-then-is_empty-clause-adds c = λ e here.
    let a = goal.at.returns-then-is_empty-clause-adds c in
    let steps = c.in_ok-steps.steps in
    let pool = c.args.pool.now in
    let paths = c.args.paths.now.items in
    let rules = c.args.trs.now.rules in
    let entry = c.index.result.now in
    let count : steps.len ≡ length steps.items = omega (arith, steps.ok.0) in
    let empty = is_empty steps.items c.is_empty.result (c.is_empty.ensures ∙ ap (λ (n : ℕ). n == 0) count) c.if-is_empty.true in
    let same = same_entry pool paths c.args.place entry e (at a.After-index) here in
    let A : Listed → Type 0 = λ d. AddsPaths (AreCandidates rules 4 4096 (d ∷ [])) pool pool paths paths in
    subst A same (none_longer rules (listed pool entry) pool paths (c.requires.short entry (at a.After-index)) (subst (HasRedexes rules (tree_at pool entry.0)) empty (redexes a.In_ok-steps)) c.requires.below c.requires.few)

pub returns-then-is_empty-clause-ends : goal.returns-then-is_empty-clause-ends
returns-then-is_empty-clause-ends c =
    let a = goal.at.returns-then-is_empty-clause-ends c in
    let steps = c.in_ok-steps.steps in
    let count : steps.len ≡ length steps.items = omega (arith, steps.ok.0) in
    let empty = is_empty steps.items c.is_empty.result (c.is_empty.ensures ∙ ap (λ (n : ℕ). n == 0) count) c.if-is_empty.true in
    c.in_ok-note.ensures c.args.trs.now.rules c.args.pool.now (rw c.requires.table at c.in_ok-steps.ensures.known)
    (no_reducts c.args.trs.now.rules c.args.pool.now c.index.result.now.0 _ (there a.After-index) (redexes a.In_ok-steps) empty)

entry : (c : In_ok-entry) → IsEntryAt c.args.paths.now.items c.args.place c.in_ok-entry.entry
entry c = rw c.deref.ensures.value at c.in_ok-entry.ensures

same_id : (c : In_ok-entry) → (at : IsEntryAt c.args.paths.now.items c.args.place c.index.result.now) → tree_at c.args.pool.now c.index.result.now.0 ≡ tree_at c.args.pool.now c.in_ok-entry.entry.0
same_id c at = ap (λ (d : Listed). d.term) (same_entry c.args.pool.now c.args.paths.now.items c.args.place c.index.result.now c.in_ok-entry.entry at (entry c))

pub add_steps-requires-clause-there : goal.add_steps-requires-clause-there
add_steps-requires-clause-there c =
    entry_within c.args.pool.now c.args.paths.now.items c.args.place c.in_ok-entry.entry (entry (goal.at.add_steps-requires-clause-there c).In_ok-entry) c.requires.below

pub add_steps-requires-clause-short : goal.add_steps-requires-clause-short
add_steps-requires-clause-short c = c.requires.short c.in_ok-entry.entry (entry (goal.at.add_steps-requires-clause-short c).In_ok-entry)

entry_redexes : (c : In_ok-entry) → IsEntryAt c.args.paths.now.items c.args.place c.index.result.now → HasRedexes c.args.trs.now.rules (tree_at c.args.pool.now c.index.result.now.0) c.in_ok-steps.steps.items
    → HasRedexes c.args.trs.now.rules (tree_at c.args.pool.now c.in_ok-entry.entry.0) c.in_ok-steps.steps.items
entry_redexes c at has =
    let H : Tree → Type 0 = λ t. HasRedexes c.args.trs.now.rules t c.in_ok-steps.steps.items in
    subst H (same_id c at) has

pub add_steps-requires-clause-redexes : goal.add_steps-requires-clause-redexes
add_steps-requires-clause-redexes c =
    let a = goal.at.add_steps-requires-clause-redexes c in
    rw c.deref-2.ensures.value (entry_redexes a.In_ok-entry (at a.After-index) (redexes a.In_ok-steps))

pub add_steps-requires-clause-on : goal.add_steps-requires-clause-on
add_steps-requires-clause-on c = c.requires.on c.in_ok-entry.entry (entry (goal.at.add_steps-requires-clause-on c).In_ok-entry)

known : (c : In_ok-add_steps) → AreKnownEnds c.args.trs.now.rules c.add_steps.new.pool c.redexes.new.self
known c = still_known c.args.trs.now.rules c.args.pool.now c.add_steps.new.pool c.in_ok-add_steps.ensures.kept c.redexes.new.self (rw c.requires.table at c.in_ok-steps.ensures.known)

pub returns-then-len-lt-FEWEST_NOTED-clause-ends : goal.returns-then-len-lt-FEWEST_NOTED-clause-ends
returns-then-len-lt-FEWEST_NOTED-clause-ends c = known (goal.at.returns-then-len-lt-FEWEST_NOTED-clause-ends c).In_ok-add_steps

counts : (c : In_ok-reached) → length c.args.paths.now.items + length c.in_ok-steps.steps.items ≤ length c.add_steps.new.paths.items
counts c =
    omega (
      arith,
      c.if-len-first.false,
      c.len-first.ensures,
      c.len-else-len-lt-FEWEST_NOTED.ensures,
      c.len-else-len-lt-FEWEST_NOTED-2.ensures,
      c.args.paths.now.ok.0,
      c.add_steps.new.paths.ok.0,
      c.in_ok-steps.steps.ok.0,
    )

reached : (c : In_ok-reached) → c.in_ok-reached.reached.items ≡ ids_of (drop (length c.args.paths.now.items) c.add_steps.new.paths.items)
reached c =
    c.in_ok-reached.ensures
    ∙ (ap (λ n. ids_of (drop n c.deref-3.result.now)) (c.len-first.ensures ∙ c.args.paths.now.ok.0)
    ∙ ap (λ (es : List Entry). ids_of (drop (length c.args.paths.now.items) es)) c.deref-3.ensures.value)

pub invariant_of-reducts : goal.invariant_of-reducts
invariant_of-reducts c =
    let a = goal.at.invariant_of-reducts c in
    let e = listed c.args.pool.now c.in_ok-entry.entry in
    let has = entry_redexes a.In_ok-entry (at a.After-index) (redexes a.In_ok-steps) in
    record {
      all = ap length (reached a.In_ok-reached)
          ∙ ids_for_steps c.args.trs.now.rules e c.in_ok-steps.steps.items (c.requires.short c.in_ok-entry.entry (entry a.In_ok-entry)) has c.args.pool.now c.add_steps.new.pool
          c.args.paths.now.items c.add_steps.new.paths.items c.in_ok-add_steps.ensures.adds (counts a.In_ok-reached);
    }

pub returns-clause-ends : goal.returns-clause-ends
returns-clause-ends c =
    let a = goal.at.returns-clause-ends c in
    let rules = c.args.trs.now.rules in
    let steps = c.in_ok-steps.steps.items in
    let e = listed c.args.pool.now c.in_ok-entry.entry in
    let has = entry_redexes a.In_ok-entry (at a.After-index) (redexes a.In_ok-steps) in
    let ends = all_noted rules e steps (c.requires.short c.in_ok-entry.entry (entry a.In_ok-entry)) has c.args.pool.now c.add_steps.new.pool c.args.paths.now.items c.add_steps.new.paths.items
    c.in_ok-add_steps.ensures.adds (counts a.In_ok-reached) in
    c.in_ok-note-2.ensures rules c.add_steps.new.pool (known a.In_ok-add_steps)
    (reducts_made rules c.args.pool.now c.add_steps.new.pool c.index.result.now.0 e.term _ c.in_ok-add_steps.ensures.kept (there a.After-index) (same_id a.In_ok-entry (at a.After-index)) has
    (subst (AreKeptEnds rules c.add_steps.new.pool e.term steps) (sym (reached a.In_ok-reached)) ends))
