use Rattle.std.proofs.Common.{◌≡◌, ◌-◌, ◌*◌, ◌<◌, max, [], ◌∷◌, ap, sym, subst, length, arith}
use Rattle.std.specs.Prelude.{List}
use Rattle.std.proofs.lemmas.Option.{slice_get_within}
use Rattle.trs_defs.proofs.Members.{in_of_get}
use Rattle.term_pool.specs.Pooled.{tree_at}
use Rattle.term_pool.specs.Listed.{Listed}
use Rattle.term_pool.specs.Reach.{AreCandidates, ListsOn, no_entry, no_more}
use Rattle.term_pool.specs.Reaching.{Adds}
use Rattle.term_pool.specs.ListedIds.{listed, listed_at}
use Rattle.term_pool.proofs.Extending.{extends_itself, extends_on}
use Rattle.term_pool.proofs.FollowLaws.{looked_follow, start_follows}
use Rattle.term_pool.proofs.ListingLaws.{start_of, lists_short, looked_at_one, no_shorter}
use Rattle.term_pool.proofs.ReachedIds.{begun, begun_reached, entry_at, entry_within, length_listed, room_at_start}
use Rattle.term_pool.proofs.pools.Pool.search.Goals as goal

pub loop-next-init : goal.loop-next-init
loop-next-init c =
    let pool = c.args.self.now in
    let t = tree_at pool c.args.id in
    let first = c.in_ok-reached.reached in
    let is = begun c.args.id first c.in_ok-reached.ensures pool in
    let one = ap length is in
    let counted = length_listed pool first.list.items in
    let P : List Listed → Type 0 = λ es. ListsOn c.max.result (start_of t) [] es in
    let left : c.max.result - length first.list.items ≡ max c.args.count 1 - 1 = omega (arith, one, counted, c.max.ensures) in
    let ids : (c.max.result - length first.list.items) * c.args.size ≡ (max c.args.count 1 - 1) * c.args.size = ap (λ n. n * c.args.size) left in
    record {
      lists = ([], no_entry, subst P (sym is) no_more);
      reached = begun_reached c.args.id first c.in_ok-reached.ensures pool c.requires.there;
      kept = extends_itself pool;
      known = c.requires.known;
      room = omega (arith, ids, room_at_start c.args.count c.args.size);
      follow = start_follows c.args.by_root.now.rules t (listed_at pool first.list.items) is;
      next = omega arith;
      short = omega (arith, one, counted, c.max.ensures);
    }

pub look_at-requires-clause-there : goal.look_at-requires-clause-there
look_at-requires-clause-there c =
    entry_within c.loop-next.reached c.loop-next.next c.in_ok-entry.entry c.in_ok-entry.ensures c.loop-next.self c.loop-next.invariant.reached

pub look_at-requires-clause-narrow : goal.look_at-requires-clause-narrow
look_at-requires-clause-narrow c =
    let e : Listed = listed c.loop-next.self c.in_ok-entry.entry in
    let there = entry_at c.loop-next.reached c.loop-next.next c.in_ok-entry.entry c.in_ok-entry.ensures c.loop-next.self in
    let narrow = rw c.trs.ensures at c.paths_keep_narrow.ensures in
    narrow e.path (tree_at c.args.self.now c.args.id) e.term
    (c.loop-next.invariant.follow e (in_of_get (listed_at c.loop-next.self c.loop-next.reached.list.items) c.loop-next.next e there)) c.requires.narrow

pub returns-in_err-look_at-clause-kept : goal.returns-in_err-look_at-clause-kept
returns-in_err-look_at-clause-kept c = extends_on c.args.self.now c.loop-next.self c.look_at.new.self c.loop-next.invariant.kept c.in_err-look_at.ensures.kept

pub loop-next-preserved : goal.loop-next-preserved
loop-next-preserved c =
    let i = c.loop-next.invariant in
    let limit = c.max.result in
    let t = tree_at c.args.self.now c.args.id in
    let e : Listed = listed c.loop-next.self c.in_ok-entry.entry in
    let found = listed_at c.loop-next.self c.loop-next.reached.list.items in
    let new = listed_at c.look_at.new.self c.look_at.new.reached.list.items in
    let adds : Adds limit c.args.size (AreCandidates c.args.by_root.now.rules c.args.depth c.args.size (e ∷ [])) c.loop-next.self c.look_at.new.self c.loop-next.reached c.look_at.new.reached =
    c.in_ok-look_at.ensures.adds in
    let there = entry_at c.loop-next.reached c.loop-next.next c.in_ok-entry.entry c.in_ok-entry.ensures c.loop-next.self in
    let below : c.loop-next.next < length found = slice_get_within found c.loop-next.next e there in
    let old = length_listed c.loop-next.self c.loop-next.reached.list.items in
    let now = length_listed c.look_at.new.self c.look_at.new.reached.list.items in
    let longer = no_shorter limit adds.lists.2 in
    let short = lists_short limit adds.lists.2 (omega (arith, old, i.short)) in
    record {
      lists = looked_at_one c.args.by_root.now.rules c.args.depth c.args.size limit (start_of t) found new c.loop-next.next e there below i.lists adds.lists;
      reached = adds.reached;
      kept = extends_on c.args.self.now c.loop-next.self c.look_at.new.self i.kept c.in_ok-look_at.ensures.kept;
      known = c.in_ok-look_at.ensures.known;
      room = let more = adds.room in let was = i.room in omega (arith, more, was);
      follow = looked_follow c.args.by_root.now.rules c.args.depth c.args.size limit t found new c.loop-next.next e there adds.lists i.follow;
      next = omega (arith, below, longer, now);
      short = omega (arith, short, now);
    }
