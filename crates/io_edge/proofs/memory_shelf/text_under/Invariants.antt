use Rattle.std.proofs.Common.{◌≡◌, drop}
use Rattle.io_edge.specs.Named.{first_under}
use Rattle.io_edge.specs.ShelfState.{texts_of}
use Rattle.io_edge.proofs.memory_shelf.text_under.Given as goal

abbrev pub invariant-loop-known : goal.invariant-loop-known
invariant-loop-known l = first_under (texts_of (drop l.known-index l.texts)) l.name ≡ first_under (texts_of l.texts) l.name
