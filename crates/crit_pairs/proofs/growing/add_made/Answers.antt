use Rattle.std.proofs.Common.{length, refl}
use Rattle.std.proofs.lemmas.Option.{slice_get_read}
use Rattle.crit_pairs.specs.Table.{a_peak, no_spot}
use Rattle.crit_pairs.proofs.growing.add_made.Goals as goal

pub returns-clause-adds : goal.returns-clause-adds
returns-clause-adds c = λ rules s pool next made.
    record {
      peak = made.peak;
      pair = c.args.made.now.pair;
      old = c.index_mut-list.result.now;
      new = c.push.new.self;
      at = a_peak made.at made.small no_spot;
      stands = made.stands;
      there = slice_get_read c.args.growth.now.lists.items (length c.args.growth.now.lists.items) c.args.growth.now.done c.index_mut-list.result.now refl c.requires c.index_mut-list.ensures.value;
      put = c.in_ok-push.ensures.items;
      lists = refl;
      nodes = made.counted;
      few = made.few;
    }
