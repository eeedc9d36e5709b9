-- A term and its reducts, of which a pool has some.
use Rattle.std.specs.Prelude.{◌≡◌, ℕ, List, [], ◌∷◌, ◌++◌}
use Rattle.std.specs.Global.{Vec}
use Rattle.trs_defs.specs.Tree.{Tree}
use Rattle.trs_defs.specs.System.{RewriteRule}
use Rattle.trs_defs.specs.Path.{PlacedRule}
use Rattle.term_pool.specs.Listed.{Listed}
use Rattle.term_pool.specs.Reach.{AreReducts}
use Rattle.join_find.specs.CommonIds.{Reached, IsSifted}
use Rattle.join_find.specs.StrongRow.{IsNearList, itself}

-- the list is sifted from the term and its reducts
pub record IsSiftedNear (rules : List RewriteRule) (t : Tree) (pool : List Tree) (found : List Reached) : Type 0 where
  pub near : List Listed
  pub are_near : IsNearList rules t near
  pub sifted : IsSifted pool near found

-- the list is longer by what is sifted from the reducts by these steps
pub record AddsReducts (rules : List RewriteRule) (pool : List Tree) (t : Tree) (steps : List PlacedRule) (old new : List Reached) : Type 0 where
  pub reducts : List Listed
  pub are_reducts : AreReducts rules 65536 (itself t) steps reducts
  pub more : List Reached
  pub sifted : IsSifted pool reducts more
  pub longer : new ≡ old ++ more

abbrev pub AddsReduct : List RewriteRule → List Tree → Tree → PlacedRule → List Reached → List Reached → Type 0
AddsReduct rules pool t step old new = AddsReducts rules pool t (step ∷ []) old new

-- the term, with no step, and the sifted reducts by these steps
pub record HasNear (rules : List RewriteRule) (pool : List Tree) (t : Tree) (id : ℕ) (steps : List PlacedRule) (near : List Reached) : Type 0 where
  pub start : Vec PlacedRule
  pub empty : start.items ≡ []
  pub adds : AddsReducts rules pool t steps ((id, start) ∷ []) near
