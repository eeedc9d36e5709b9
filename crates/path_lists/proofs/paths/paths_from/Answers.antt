use Rattle.std.proofs.Common.{◌≡◌, ◌++◌, [], ◌∷◌, ◌∙◌, ◌<◌, ap, length, arith}
use Rattle.std.proofs.lemmas.Option.{slice_get_within}
use Rattle.trs_defs.proofs.Limits.{limits_size}
use Rattle.term_pool.specs.Pooled.{tree_at}
use Rattle.term_pool.specs.ListedIds.{listed, listed_at}
use Rattle.term_pool.proofs.PoolTrees.{stands}
use Rattle.term_pool.proofs.Extending.{extends_itself, extends_on}
use Rattle.term_pool.proofs.ReachedIds.{length_listed}
use Rattle.path_lists.proofs.Growing.{short_paths_keep_small}
use Rattle.path_lists.proofs.Longer.{begun, begun_below, entry_listed, entry_there, follows_there, looked_at_one_more, not_fewer}
use Rattle.path_lists.proofs.paths.paths_from.Goals.{In_ok-push}
use Rattle.path_lists.proofs.paths.paths_from.Goals as goal

one : (c : In_ok-push) → c.push.new.self.items ≡ (c.args.start, c.new.result) ∷ []
one c = c.in_ok-push.ensures.items ∙ ap (λ l. l ++ (c.args.start, c.new.result) ∷ []) c.new-paths.ensures.items

pub loop-next-init : goal.loop-next-init
loop-next-init c =
    let is = one (goal.at.loop-next-init c).In_ok-push in
    let count = ap length is in
    let pool = c.args.pool.now in
    let id = c.args.start in
    let t = tree_at pool id in
    let there = stands pool id c.requires.there in
    record {
      looked = begun c.args.trs.now.rules t pool id c.new.result c.push.new.self.items is c.new.ensures.items there;
      below = begun_below t pool id c.new.result c.push.new.self.items is there;
      kept = extends_itself pool;
      room = omega (arith, count);
      next = omega arith;
      short = omega (arith, count);
      ends = c.requires.ends;
    }

pub add_longer-requires-clause-on : goal.add_longer-requires-clause-on
add_longer-requires-clause-on c = λ e at.
    let t = tree_at c.args.pool.now c.args.start in
    let follows = follows_there c.args.trs.now.rules t c.loop-next.pool c.loop-next.paths.items c.loop-next.next e c.loop-next.invariant.looked at in
    let size = limits_size t c.requires.small in
    record {
      narrow = c.paths_keep_narrow.ensures e.1.items t (listed c.loop-next.pool e).term follows c.requires.narrow;
      sure = λ sure. short_paths_keep_small c.args.trs.now.rules c.args.growth t (listed c.loop-next.pool e) c.requires.grows follows
          (omega (arith, size, c.size-nodes.ensures, c.stays_small-is_sure.ensures sure));
      from = record { start = t; small = omega (arith, size, c.size-nodes.ensures); follows = follows };
    }

pub loop-next-preserved : goal.loop-next-preserved
loop-next-preserved c =
    let i = c.loop-next.invariant in
    let (e, at) = entry_there c.loop-next.paths.items c.loop-next.next (omega (arith, c.loop-next-test.true, c.loop-next.paths.ok.0)) in
    let found = listed_at c.loop-next.pool c.loop-next.paths.items in
    let new = listed_at c.add_longer.new.pool c.add_longer.new.paths.items in
    let adds = c.in_ok-add_longer.ensures.adds e at in
    let there = entry_listed c.loop-next.pool c.loop-next.paths.items c.loop-next.next e at in
    let below : c.loop-next.next < length found = slice_get_within found c.loop-next.next (listed c.loop-next.pool e) there in
    let count = length_listed c.loop-next.pool c.loop-next.paths.items in
    let longer = not_fewer _ c.loop-next.pool c.add_longer.new.pool c.loop-next.paths.items c.add_longer.new.paths.items adds i.short in
    let room = adds.room in
    record {
      looked = looked_at_one_more c.args.trs.now.rules (tree_at c.args.pool.now c.args.start) c.loop-next.next found new adds.candidates (listed c.loop-next.pool e) there below (omega (arith, count, i.short)) i.looked adds.are_candidates adds.longer;
      below = adds.below;
      kept = extends_on c.args.pool.now c.loop-next.pool c.add_longer.new.pool i.kept c.in_ok-add_longer.ensures.kept;
      room = (let was = i.room in omega (arith, room, was));
      next = omega (arith, below, longer, count);
      short = adds.few;
      ends = c.in_ok-add_longer.ensures.ends;
    }
