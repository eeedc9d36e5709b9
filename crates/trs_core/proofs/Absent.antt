-- A position that is not in a term.
use Rattle.std.proofs.Common.{◌≡◌, ℕ, ◌↔◌, Bool, true, false, List, Option, Some, None, Ok, Err, refl}
use Rattle.std.specs.Prelude.{if◌then◌else◌}
use Rattle.trs_defs.specs.Tree.{Tree}
use Rattle.trs_defs.specs.Size.{within_limits}
use Rattle.trs_defs.specs.Position.{subterm_at, replaced_at}
use Rattle.trs_defs.proofs.Positions.{none_replaced, none_there}
use Rattle.trs_core.specs.Limits.{replacement, if_small}
use Rattle.trs_core.specs.declared.replacing.ReplaceFault.TheVariants as replace

pub no_position : (p : List ℕ) (t u : Tree) → replacement p t u ≡ Err replace.NoPosition ↔ subterm_at p t ≡ None
no_position p t u = go (replaced_at p t u) (none_replaced p t u) (none_there p t u)
  where
    go : (o : Option Tree) → (subterm_at p t ≡ None → o ≡ None) → (o ≡ None → subterm_at p t ≡ None)
        → if_small o ≡ Err replace.NoPosition ↔ subterm_at p t ≡ None
    go None none there = (λ e. there refl, λ e. refl)
    go (Some v) none there = (λ e. absurd (small (within_limits v) e), λ e. let no = none e in absurd cc)
      where
        small : (b : Bool) → (if b then Ok v else Err replace.TooLarge) ≡ Err replace.NoPosition → ⊥
        small true e = absurd cc
        small false e = absurd cc
