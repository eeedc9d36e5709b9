-- Paths of items, as they are stored.
use Rattle.std.specs.Prelude.{◌≡◌, ◌<◌, ℕ, List, length, zip, slice_get, Some, Err, Vec}
use Rattle.std.specs.declared.alloc.Global.{Global}
use Rattle.std.proofs.Common.{get_or, refl, arith, ◌∙◌}
use Rattle.std.proofs.lemmas.List.{length-map}
use Rattle.std.proofs.lemmas.Option.{slice_get_read}
use Rattle.trs_defs.specs.Path.{PlacedRule}
use Rattle.trs_defs.proofs.ListItems.{read_image}
use Rattle.rewrite_core.specs.PlacedPeak.{PlacedPeak}
use Rattle.rewrite_core.specs.declared.checks.refusals.StepRefused.TheVariants.{Count}
use Rattle.rewrite_core.specs.Check.{Check, has_length, Then, stops, lacks}
use Rattle.rewrite_core.proofs.Items.{zipped}
use Rattle.closed_pairs.specs.ParallelClosed.{paths_of}

module _ (peaks : List PlacedPeak) (paths : List (Vec PlacedRule Global)) where
  counted : length (paths_of paths) ≡ length paths
  counted = length-map paths (λ p. p.items)

  pub same_count : length paths ≡ length peaks → length (paths_of paths) ≡ length peaks
  same_count e = counted ∙ e

  pub wrong_count : (rest : Check (Unit {0})) → (length paths ≡ length peaks → ⊥) → Then (has_length (length peaks) (paths_of paths)) (λ _. rest) (Err (Count (length peaks) (length paths)))
  wrong_count rest none = rw (← counted) (stops _ (lacks (λ e. none (rw counted at e))))

  pub path_read : (i : ℕ) (peak : PlacedPeak) (path : Vec PlacedRule Global) → length paths ≡ length peaks → i < length peaks
      → peak ≡ get_or peaks i peak → path ≡ get_or paths i path → slice_get (zip peaks (paths_of paths)) i ≡ Some (peak, path.items)
  path_read i peak path same lt e d =
      zipped peaks (paths_of paths) i peak path.items (slice_get_read peaks (length peaks) i peak refl lt e)
      (read_image (λ p. p.items) paths i path (omega (arith, same, lt)) d)
