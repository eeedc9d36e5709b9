use Rattle.std.proofs.Common.{◌≡◌, drop, map}
use Rattle.sexp_core.specs.Items.{views}
use Rattle.text_reading.specs.Reading.{many}
use Rattle.text_reading.specs.Seen.{seen, joined}
use Rattle.path_text.specs.Paths.{path_part}
use Rattle.path_text.specs.Parts.{steps_of_part}
use Rattle.path_text.proofs.parts.read_parts.Given as goal

abbrev pub invariant-loop-item : goal.invariant-loop-item
invariant-loop-item l =
    joined (seen (λ v. map steps_of_part v.items) l.parts) (many (path_part l.definitions) (views (drop l.item-index l.items)))
    ≡ many (path_part l.definitions) (views l.items)
