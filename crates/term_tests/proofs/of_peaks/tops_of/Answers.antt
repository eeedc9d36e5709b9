use Rattle.join_find.proofs.Firsts.{read_in}
use Rattle.term_tests.proofs.of_peaks.tops_of.Goals as goal

pub top_of-requires : goal.top_of-requires
top_of-requires c = record {
  listed = record {
    peaks = c.args.peaks.now;
    lists = c.requires;
    is_one = read_in c.args.peaks.now c.loop-peak.peak-index c.peak-item.result c.loop-peak-test.true c.peak-item.is;
  };
}
