use Rattle.std.proofs.Common.{◌≡◌, drop}
use Rattle.sexp_core.specs.Items.{views}
use Rattle.path_text.specs.Sharing.{behind_paths}
use Rattle.path_text.specs.Paths.{in_turn, paths_in}
use Rattle.path_text.proofs.InTurn.{behind_values}
use Rattle.peak_text.specs.FourPaths.{four, paths_of_four}
use Rattle.peak_text.proofs.four_paths.read_fours.Given as goal

abbrev pub invariant-loop-item : goal.invariant-loop-item
invariant-loop-item l = record {
  read :
      behind_values l.fours.items (in_turn four paths_of_four l.sharing (views (drop l.item-index l.items)))
      ≡ in_turn four paths_of_four l.initial.sharing (views l.items);
  left : l.sharing ≡ behind_paths l.initial.sharing (paths_in paths_of_four l.fours.items);
}
