-- What is known of the terms of a pool, for their caps.
use Rattle.std.specs.Prelude.{◌≡◌, ◌⊎◌, ℕ, Bool, List, Option, Some, IfSome}
use Rattle.std.specs.Ordering.{nat_cmp}
use Rattle.std.specs.BTreeMap.{BTreeMap, get}
use Rattle.trs_defs.specs.Tree.{Tree, Trees, var, app}
use Rattle.trs_defs.specs.System.{RewriteRule}
use Rattle.term_pool.specs.Pooled.{StandsFor}
use Rattle.trs_caps.specs.HoledTree.{HoledTree, HoledTrees, symbol}
use Rattle.trs_caps.specs.HoledCap.{AreHoledCaps, MeetsSome}
use Rattle.trs_caps.specs.Shapes.{AreGroundSizes}
use Rattle.trs_caps.specs.declared.knowing.KnownCaps.{KnownCaps}

-- whether the term's symbol over the caps of its arguments meets some left side
abbrev pub Opens : List RewriteRule → Bool → Tree → Bool → Type 0
Opens rules fixed (var v) b = Unit {0}
Opens rules fixed (app f ts) b = (cs : HoledTrees) → AreHoledCaps rules fixed ts cs → MeetsSome (symbol f cs) rules b

-- what is noted of an id is true of its term
abbrev pub AreKnown : List RewriteRule → Bool → List Tree → BTreeMap ℕ Bool → Type 0
AreKnown rules fixed pool opens = (i : ℕ) (b : Bool) → get nat_cmp opens i ≡ Some b → (t : Tree) × StandsFor pool i t × Opens rules fixed t b

-- what is known is true of the caps by these rules, where variables are fixed or not
pub record IsKnown (rules : List RewriteRule) (fixed : Bool) (known : KnownCaps) : Type 0 where
  pub opens : AreKnown rules fixed known.pool known.opens
  pub sizes : AreGroundSizes rules known.ground_sizes.items

-- the id, if there is one, is that of the term
abbrev pub IsIdOf : List Tree → Option ℕ → Tree → Type 0
IsIdOf pool id t = IfSome id (λ i. StandsFor pool i t)

-- the cap is the symbol of the term over the caps of its arguments
pub record IsWhole (rules : List RewriteRule) (fixed : Bool) (t : Tree) (c : HoledTree) : Type 0 where
  pub root : ℕ
  pub args : Trees
  pub caps : HoledTrees
  pub term : t ≡ app root args
  pub cap : c ≡ symbol root caps
  pub each : AreHoledCaps rules fixed args caps

-- this is noted of the id, if there is one
abbrev pub Notes : Option ℕ → Bool → BTreeMap ℕ Bool → BTreeMap ℕ Bool → Type 0
Notes id b old new = (i : ℕ) (c : Bool) → get nat_cmp new i ≡ Some c → (get nat_cmp old i ≡ Some c) ⊎ ((id ≡ Some i) × (c ≡ b))
