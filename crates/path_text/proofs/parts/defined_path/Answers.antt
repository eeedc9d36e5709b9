use Rattle.std.proofs.Common.{map}
use Rattle.path_text.specs.Paths.{all_steps}
use Rattle.path_text.specs.Parts.{steps_of_part}
use Rattle.path_text.proofs.Weighing.{measured}
use Rattle.path_text.proofs.parts.defined_path.Goals as goal

pub new-requires : goal.new-requires
new-requires c =
    measured (all_steps (map steps_of_part c.args.parts.now)) _ c.count_of_parts-count.result c.longest_of_parts-longest.result c.args.weight
    c.in_ok-path.ensures c.ranges.weight.fits c.requires c.count_of_parts-count.ensures c.longest_of_parts-longest.ensures
