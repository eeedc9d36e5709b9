use Rattle.term_pool.proofs.NarrowLaws.{narrow_path}
use Rattle.term_pool.proofs.narrow.paths_keep_narrow.Goals as goal

pub returns : goal.returns
returns c = narrow_path c.args.trs.now c.systems_are_valid.ensures.valid c.systems_are_valid.ensures.bytes
