use Rattle.std.proofs.Common.{◌≡◌, drop}
use Rattle.sexp_core.specs.Items.{views}
use Rattle.path_text.specs.Sharing.{behind_paths}
use Rattle.path_text.specs.Paths.{in_turn, paths_in}
use Rattle.path_text.proofs.InTurn.{behind_values}
use Rattle.peak_text.specs.TwoPaths.{two_behind, paths_of_two}
use Rattle.peak_text.proofs.two_paths.read_each.Given as goal

abbrev pub invariant-loop-item : goal.invariant-loop-item
invariant-loop-item l = record {
  read :
      behind_values l.joins.items (in_turn (two_behind l.word) paths_of_two l.sharing (views (drop l.item-index l.items)))
      ≡ in_turn (two_behind l.word) paths_of_two l.initial.sharing (views l.items);
  left : l.sharing ≡ behind_paths l.initial.sharing (paths_in paths_of_two l.joins.items);
}
