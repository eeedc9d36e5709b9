-- What is found out of the terms of a pool, to tell which of them never meet.
use Rattle.std.specs.Prelude.{◌≡◌, ◌<◌, ◌↔◌, ℕ, nat_eq, Bool, true, List, All, Some, is_some, length, IsTrue}
use Rattle.std.specs.HashMap.{get}
use Rattle.trs_defs.specs.Tree.{Tree}
use Rattle.trs_defs.specs.Step.{Step}
use Rattle.trs_defs.specs.NormalForm.{IsNormalForm}
use Rattle.trs_defs.specs.System.{RewriteRule}
use Rattle.term_pool.specs.Pooled.{Extends, tree_at}
use Rattle.trs_caps.specs.HoledCap.{IsHoledCap}
use Rattle.join_find.specs.CommonIds.{Reached}
use Rattle.conf_find.specs.SharedCaps.{cap_at}
use Rattle.conf_find.specs.declared.caps.CapMarks.{CapMarks}
use Rattle.conf_find.specs.declared.endings.Endings.{Endings}

-- each id of the list has a mark
abbrev pub AreMarkedIds : {A : Type 0} → (A → ℕ → Type 0) → A → List Reached → Type 0
AreMarkedIds has_mark marks es = All (λ (e : Reached). has_mark marks e.0) es

-- marks of a pool are marks of the pool once it has grown
abbrev pub Lasts : {A : Type 0} → (List RewriteRule → List Tree → A → Type 0) → Type 0
Lasts {A} of_pool = (rules : List RewriteRule) (old new : List Tree) (marks : A) → Extends old new → of_pool rules old marks → of_pool rules new marks

-- the terms of two ids never meet
abbrev pub AreParted : (List RewriteRule → Tree → Tree → Type 0) → List RewriteRule → List Tree → Reached → Reached → Type 0
AreParted never_meet rules pool a b = never_meet rules (tree_at pool a.0) (tree_at pool b.0)

-- the id has a cap
abbrev pub HasCap : CapMarks → ℕ → Type 0
HasCap marks i = IsTrue (is_some (get nat_eq marks.numbers i))

-- the caps of the numbers are those of the ids' terms, with their variables fixed
pub record AreCaps (rules : List RewriteRule) (pool : List Tree) (marks : CapMarks) : Type 0 where
  pub there : (i k : ℕ) → get nat_eq marks.numbers i ≡ Some k → i < length pool
  pub number : (i k : ℕ) → get nat_eq marks.numbers i ≡ Some k → k < length marks.shared
  pub cap : (i k : ℕ) → get nat_eq marks.numbers i ≡ Some k → IsHoledCap rules true (tree_at pool i) (cap_at marks.shared k)

-- it is noted of the id whether its term is a normal form
abbrev pub HasEnding : Endings → ℕ → Type 0
HasEnding marks i = IsTrue (is_some (get nat_eq marks.normal i))

-- what is noted of an id is true of its term
pub record AreEndings (rules : List RewriteRule) (pool : List Tree) (marks : Endings) : Type 0 where
  pub there : (i : ℕ) (b : Bool) → get nat_eq marks.normal i ≡ Some b → i < length pool
  pub normal : (i : ℕ) (b : Bool) → get nat_eq marks.normal i ≡ Some b → IsTrue b ↔ IsNormalForm (Step rules) (tree_at pool i)
