-- Items that are too many.
use Rattle.std.specs.Prelude.{◌+◌, ◌==◌, ◌||◌, Bool, false}
use Rattle.ari_text.specs.Entries.{Saying, declares, rewrites, attributed, says_nothing}
use Rattle.term_text.specs.Limits.{nodes_of}
use Rattle.ari_text.specs.Faults.{Room, passes}

abbrev pub is_too_many : Room → Saying → Bool
is_too_many room (declares name q arity r) = room.funs == 1
is_too_many room (rewrites left right) = room.rules == 1 || passes (nodes_of left + nodes_of right) room.nodes
is_too_many room (attributed s at) = is_too_many room s
is_too_many room says_nothing = false
