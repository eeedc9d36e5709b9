use Rattle.std.proofs.Common.{◌≤◌, ◌∙◌, length, map, sym, arith}
use Rattle.std.proofs.lemmas.List.{drop_all}
use Rattle.text_reading.specs.Seen.{seen}
use Rattle.text_reading.proofs.SeenParts.{seen_pushed, one_more, joined_end}
use Rattle.path_text.specs.Paths.{path_part}
use Rattle.path_text.specs.Parts.{steps_of_part}
use Rattle.path_text.proofs.parts.read_parts.Goals as goal

pub loop-item-preserved : goal.loop-item-preserved
loop-item-preserved c =
    let more = seen_pushed steps_of_part c.push.new.values c.loop-item.parts c.in_ok-read_part.field-0 _ c.in_ok-push.ensures c.in_ok-read_part.ensures in
    one_more (path_part c.args.definitions.now) (seen (λ v. map steps_of_part v.items) c.loop-item.parts) _ c.args.items.now c.item-item.result c.loop-item.item-index _ c.loop-item-test.true c.item-item.is more c.loop-item.invariant

pub returns : goal.returns
returns c =
    let xs = c.args.items.now in
    let past : length xs ≤ c.loop-item.item-index = omega (arith, c.loop-item-test.false) in
    sym (joined_end (seen (λ v. map steps_of_part v.items) c.loop-item.parts)) ∙ rw (drop_all c.loop-item.item-index xs past) at c.loop-item.invariant
