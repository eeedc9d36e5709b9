use Rattle.closed_pairs.specs.Joined.{are_joined}
use Rattle.closed_pairs.proofs.Conclusions.{concludes}
use Rattle.closed_pairs.proofs.joined.join_check.Goals as goal

pub returns : goal.returns
returns c =
    let trs = c.args.trs.now in
    let peaks = c.args.peaks.now in
    let joins = c.args.joins.now in
    record {
      answers = c.peaks_are_joined.ensures;
      confluent = λ covers terminating.
          concludes (are_joined trs.rules peaks joins) c.peaks_are_joined.result c.peaks_are_joined.ensures
          (λ passed. c.joined_list_concludes.ensures peaks joins covers passed terminating);
    }
