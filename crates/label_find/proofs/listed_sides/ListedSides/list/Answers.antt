use Rattle.std.proofs.Common.{◌≡◌, IsTrue, refl, sym, ◌∙◌, subst}
use Rattle.trs_defs.specs.Tree.{Tree}
use Rattle.trs_defs.specs.Size.{within_limits}
use Rattle.term_pool.specs.Pooled.{Extends, tree_at}
use Rattle.term_pool.specs.Redexes.{IsNarrow}
use Rattle.term_pool.specs.ListedIds.{listed_at}
use Rattle.term_pool.proofs.Extending.{extends_on}
use Rattle.term_pool.proofs.PoolTrees.{stands_at, stands_within}
use Rattle.path_lists.specs.PathList.{IsPathList}
use Rattle.path_lists.proofs.KnownReducts.{still_known}
use Rattle.term_pool.proofs.CrossingLaws.{known_ids_on}
use Rattle.label_find.proofs.PathsOfSides.{listed_still, one_more_listed}
use Rattle.label_find.proofs.NumberedSides.{numbered_still, numbered_with}
use Rattle.label_find.proofs.listed_sides.ListedSides.list.Goals.{In_ok-id, In_ok-list}
use Rattle.label_find.proofs.listed_sides.ListedSides.list.Goals as goal

pub take_over-requires-clause-known : goal.take_over-requires-clause-known
take_over-requires-clause-known c = c.requires.sides.known

-- the term of the own id
same : (c : In_ok-id) → tree_at c.take_over.new.self c.in_ok-id.id ≡ tree_at c.args.from.now c.args.side
same c = stands_at c.take_over.new.self c.in_ok-id.id (tree_at c.args.from.now c.args.side) c.in_ok-id.ensures.id

pub paths_from-requires-clause-there : goal.paths_from-requires-clause-there
paths_from-requires-clause-there c = stands_within c.take_over.new.self c.in_ok-id.id (tree_at c.args.from.now c.args.side) c.in_ok-id.ensures.id

pub paths_from-requires-clause-small : goal.paths_from-requires-clause-small
paths_from-requires-clause-small c = subst (λ t. IsTrue (within_limits t)) (sym (same (goal.at.paths_from-requires-clause-small c).In_ok-id)) c.requires.side.small

pub paths_from-requires-clause-narrow : goal.paths_from-requires-clause-narrow
paths_from-requires-clause-narrow c = subst IsNarrow (sym (same (goal.at.paths_from-requires-clause-narrow c).In_ok-id)) c.requires.side.narrow

pub paths_from-requires-clause-ends : goal.paths_from-requires-clause-ends
paths_from-requires-clause-ends c = still_known c.args.trs.now.rules c.args.self.now.pool c.take_over.new.self c.in_ok-id.ensures.kept c.args.self.now.ends c.requires.sides.ends

pub returns-then-has-clause-sides : goal.returns-then-has-clause-sides
returns-then-has-clause-sides c =
    listed_still c.args.trs.now.rules c.args.from.now c.args.self.now (record { pool = c.take_over.new.self; known = c.take_over.new.known; ends = c.args.self.now.ends; lists = c.args.self.now.lists; numbers = c.args.self.now.numbers }) c.requires.sides
    c.in_ok-id.ensures.kept c.in_ok-id.ensures.known (still_known c.args.trs.now.rules c.args.self.now.pool c.take_over.new.self c.in_ok-id.ensures.kept c.args.self.now.ends c.requires.sides.ends) refl

pub returns-then-has-clause-numbers : goal.returns-then-has-clause-numbers
returns-then-has-clause-numbers c =
    λ table before. numbered_still c.args.self.now (record { pool = c.take_over.new.self; known = c.take_over.new.known; ends = c.args.self.now.ends; lists = c.args.self.now.lists; numbers = c.args.self.now.numbers }) table refl before refl

pub returns-clause-id : goal.returns-clause-id
returns-clause-id c = c.in_ok-list.ensures.kept.kept c.in_ok-id.id (tree_at c.args.from.now c.args.side) c.in_ok-id.ensures.id

-- the pool has grown twice
grown : (c : In_ok-list) → Extends c.args.self.now.pool c.paths_from.new.pool
grown c = extends_on c.args.self.now.pool c.take_over.new.self c.paths_from.new.pool c.in_ok-id.ensures.kept c.in_ok-list.ensures.kept

pub returns-clause-sides : goal.returns-clause-sides
returns-clause-sides c =
    let side = tree_at c.args.from.now c.args.side in
    let P : Tree → Type 0 = λ t. IsPathList c.args.trs.now.rules t (listed_at c.paths_from.new.pool c.in_ok-list.list.items) in
    one_more_listed c.args.trs.now.rules c.args.from.now c.args.self.now (record { pool = c.paths_from.new.pool; known = c.take_over.new.known; ends = c.paths_from.new.ends; lists = c.put.new.self; numbers = c.args.self.now.numbers }) c.requires.sides
    (grown (goal.at.returns-clause-sides c).In_ok-list) (known_ids_on c.args.from.now c.take_over.new.self c.paths_from.new.pool c.take_over.new.known c.in_ok-list.ensures.kept c.in_ok-id.ensures.known) c.in_ok-list.ensures.ends
    c.in_ok-id.id c.in_ok-list.list.items side c.in_ok-put.ensures (c.in_ok-list.ensures.kept.kept c.in_ok-id.id side c.in_ok-id.ensures.id)
    (subst P (same (goal.at.returns-clause-sides c).In_ok-id) c.in_ok-list.ensures.list) c.in_ok-list.ensures.there

pub returns-clause-kept : goal.returns-clause-kept
returns-clause-kept c = grown (goal.at.returns-clause-kept c).In_ok-list

pub returns-clause-numbers : goal.returns-clause-numbers
returns-clause-numbers c =
    λ table before. numbered_with c.args.self.now (record { pool = c.paths_from.new.pool; known = c.take_over.new.known; ends = c.paths_from.new.ends; lists = c.put.new.self; numbers = c.args.self.now.numbers }) table refl before
    c.in_ok-id.id c.in_ok-list.list.items c.in_ok-put.ensures (sym c.has.ensures ∙ c.if-has.false)
