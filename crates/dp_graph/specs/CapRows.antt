-- Which left sides the caps of terms meet. Equal caps are put beside the left sides once: a cap is found by its symbol and the
-- numbers of its parts.
use Rattle.std.specs.Prelude.{◌≡◌, ◌⊎◌, ◌++◌, ℕ, true, false, List, [], ◌∷◌, length, Option, Some, None, Vec, slice_get, slice_set}
use Rattle.std.specs.declared.alloc.Global.{Global}
use Rattle.std.specs.Ordering.{nat_cmp}
use Rattle.std.specs.BTreeMap.{get}
use Rattle.trs_defs.specs.Tree.{Tree, Trees, var, app}
use Rattle.trs_defs.specs.System.{RewriteRule, is_defined}
use Rattle.trs_core.specs.View.{tree}
use Rattle.trs_caps.specs.HoledTree.{HoledTree, HoledTrees, hole, symbol, none, more}
use Rattle.trs_caps.specs.HoledCap.{IsHoledCap}
use Rattle.trs_caps.specs.KnownCaps.{IsWhole}
use Rattle.trs_caps.specs.View.{holed}
use Rattle.pair_theory.specs.Marked.{Marked, marked}
use Rattle.pair_theory.specs.DependencyPair.{subterms}
use Rattle.dp_graph.specs.WordRows.{HasWords, KeepWords, AddsRow}
use Rattle.dp_graph.specs.FlagRows.{IsRow}
use Rattle.dp_graph.specs.NotedRules.{HaveAllNoted}
use Rattle.dp_graph.specs.GraphNodes.{IsEndOf}
use Rattle.dp_graph.specs.declared.cap_rows.CapRows.{CapRows}
use Rattle.dp_graph.specs.declared.cap_rows.NumberedCap.{NumberedCap}
use Rattle.dp_graph.specs.declared.cap_rows.End.{End}
use Rattle.dp_graph.specs.declared.cap_rows.KnownPart.{KnownPart}

-- ---- caps by their numbers

abbrev pub Key : Type 0
Key = Vec ℕ Global

-- the numbers are those of the caps
pub data HaveNumbers (all : List HoledTree) : HoledTrees → List ℕ → Type 0 where
  no_numbers : HaveNumbers all none []
  one_number : {c : HoledTree} {cs : HoledTrees} {n : ℕ} {ns : List ℕ} → slice_get all n ≡ Some c → HaveNumbers all cs ns
      → HaveNumbers all (more c cs) (n ∷ ns)

-- the key has the symbol of the cap and the numbers of its parts
pub record HasKey (all : List HoledTree) (c : HoledTree) (key : List ℕ) : Type 0 where
  pub root : ℕ
  pub parts : HoledTrees
  pub numbers : List ℕ
  pub cap : c ≡ symbol root parts
  pub key_is : key ≡ root ∷ numbers
  pub numbered : HaveNumbers all parts numbers

-- ---- the right sides of pairs in terms

-- the side has this symbol, and its symbol over the caps of its arguments this number
pub record IsEnd (rules : List RewriteRule) (all : List HoledTree) (side : Marked) (end : End) : Type 0 where
  pub root : end.symbol ≡ side.symbol
  pub cap : HoledTree
  pub numbered : slice_get all end.cap ≡ Some cap
  pub is : IsEndOf rules side cap

-- the ends are those of the terms that have a defined root
pub data AreEnds (rules : List RewriteRule) (all : List HoledTree) : List Tree → List End → Type 0 where
  no_ends : AreEnds rules all [] []
  at_variable : {x : ℕ} {ts : List Tree} {ends : List End} → AreEnds rules all ts ends → AreEnds rules all (var x ∷ ts) ends
  not_defined : {f : ℕ} {us : Trees} {ts : List Tree} {ends : List End} → is_defined rules f ≡ false → AreEnds rules all ts ends
      → AreEnds rules all (app f us ∷ ts) ends
  one_end : {f : ℕ} {us : Trees} {ts : List Tree} {end : End} {ends : List End} → is_defined rules f ≡ true → IsEnd rules all (marked f us) end
      → AreEnds rules all ts ends → AreEnds rules all (app f us ∷ ts) (end ∷ ends)

-- ---- all caps, one after another

-- These are the caps that have numbers. Each but the hole has its row and its key, and the parts that were looked at have their ends.
pub record AreCaps (rules : List RewriteRule) (lefts : List (Option ℕ)) (table : CapRows) (all : List HoledTree) : Type 0 where
  pub count : length table.caps.items ≡ length all
  pub hole_first : slice_get all 0 ≡ Some hole
  pub rows : (n r f : ℕ) (cs : HoledTrees) → slice_get all n ≡ Some (symbol f cs) → slice_get table.caps.items n ≡ Some r
      → (flags : List ℕ) × HasWords table.rows.rows.items r flags × IsRow rules lefts (symbol f cs) flags
  pub numbered : length table.keys.rows.items ≡ length all
  pub keys : (n : ℕ) (key : List ℕ) → HasWords table.keys.rows.items n key → (key ≡ []) ⊎ ((c : HoledTree) × (slice_get all n ≡ Some c) × HasKey all c key)
  pub noted : HaveAllNoted rules lefts table.noted
  pub parts : (hash : ℕ) (known : KnownPart) → get nat_cmp table.parts hash ≡ Some known
      → AreEnds rules all (subterms (tree known.part.now)) known.ends.items

-- the caps keep their numbers
abbrev pub KeepNumbers : List HoledTree → List HoledTree → Type 0
KeepNumbers old new = (n : ℕ) (c : HoledTree) → slice_get old n ≡ Some c → slice_get new n ≡ Some c

-- these caps and maybe more have numbers now, of which this is true
abbrev pub AreMore : List RewriteRule → List (Option ℕ) → CapRows → List HoledTree → (List HoledTree → Type 0) → Type 0
AreMore rules lefts table old P = (all : List HoledTree) × KeepNumbers old all × AreCaps rules lefts table all × P all

-- a cap with this key and these flags is added as number n
pub record AddsCap (cap_key : Key) (flags : List ℕ) (n : ℕ) (old new : CapRows) : Type 0 where
  pub key : AddsRow cap_key n old.keys.rows.items new.keys.rows.items
  pub row : ℕ
  pub caps : new.caps.items ≡ old.caps.items ++ row ∷ []
  pub here : HasWords new.rows.rows.items row flags
  pub kept : KeepWords old.rows.rows.items new.rows.rows.items
  pub noted : new.noted ≡ old.noted
  pub parts : new.parts ≡ old.parts

-- ---- the caps of terms, and the right sides of pairs in them

-- the cap of the term with its number, and that of its symbol over the caps of its arguments
pub record IsNumbered (rules : List RewriteRule) (t : Tree) (found : NumberedCap) (all : List HoledTree) : Type 0 where
  pub cap : IsHoledCap rules false t (holed found.cap)
  pub number : slice_get all found.number ≡ Some (holed found.cap)
  pub whole : (f : ℕ) (ts : Trees) → t ≡ app f ts → (c : HoledTree) × (slice_get all found.whole ≡ Some c) × IsWhole rules false t c

-- the ends of the subterms are behind the others, in preorder
abbrev pub AddsEnds : List RewriteRule → Tree → List End → List End → List HoledTree → Type 0
AddsEnds rules t old new all = (added : List End) × (new ≡ old ++ added) × AreEnds rules all (subterms t) added

-- the cap of the term has a number, and the ends in it are added
pub record IsCapped (rules : List RewriteRule) (t : Tree) (found : NumberedCap) (old new : List End) (all : List HoledTree) : Type 0 where
  pub numbered : IsNumbered rules t found all
  pub ends : AddsEnds rules t old new all

-- a place is kept for the end of a symbol, if that is defined
abbrev pub Begins : List RewriteRule → ℕ → List End → List End → Option ℕ → Type 0
Begins rules f old new None = (is_defined rules f ≡ false) × (new ≡ old)
Begins rules f old new (Some k) = (is_defined rules f ≡ true) × (k ≡ length old) × (new ≡ old ++ record { symbol = f; cap = 0 } ∷ [])

-- the end at the place, if there is one, has this symbol and this cap
abbrev pub with_end : Option ℕ → ℕ → ℕ → List End → List End
with_end None f n ends = ends
with_end (Some k) f n ends = slice_set ends k (record { symbol = f; cap = n })
