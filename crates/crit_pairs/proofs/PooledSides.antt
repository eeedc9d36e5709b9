-- Sides of rules in a pool, and the instances of their variables.
use Rattle.std.specs.Option.{option_map}
use Rattle.std.proofs.Common.{◌≡◌, All, ℕ, ◌+◌, ◌<◌, ◌≤◌, List, length, Option, Some, None, Result, Ok, Err, IfOk, IsTrue, refl, sym, ◌∙◌, ap, subst, slice_get, get_or, arith}
use Rattle.std.proofs.Math.Decide.{ℕ_discrete}
use Rattle.std.proofs.lemmas.Option.{same_Some, slice_get_within, slice_get-get_or, slice_get-map, get_or_from_slice_get}
use Rattle.trs_defs.specs.Tree.{Tree, var}
use Rattle.trs_defs.specs.Variable.{has_var}
use Rattle.trs_defs.specs.Substitution.{apply}
use Rattle.trs_defs.specs.Renaming.{shifted}
use Rattle.trs_defs.proofs.VariableLaws.{has_var_self}
use Rattle.trs_defs.proofs.Substitutions.{apply_apply, same_instance}
use Rattle.trs_defs.proofs.NamedTerms.{unchanged}
use Rattle.trs_core.specs.SystemLimits.{HasSmallVariables}
use Rattle.term_pool.specs.Pooled.{StandsFor, Extends, tree_at}
use Rattle.term_pool.proofs.PoolTrees.{stands_at}
use Rattle.term_pool.proofs.Extending.{extends_itself, same_tree_at}
use Rattle.trs_unify.specs.Renamed.{IsRenamed}
use Rattle.crit_pairs.specs.declared.binding_table.Bindings.{Bindings}
use Rattle.crit_pairs.specs.declared.pooled_side.PooledSide.{PooledSide}
use Rattle.crit_pairs.specs.declared.pooled_side.PooledVariable.{PooledVariable}
use Rattle.term_pool.specs.declared.noted_instances.Instances.{Instances}
use Rattle.crit_pairs.specs.Meeting.{solution}
use Rattle.crit_pairs.specs.Sides.{IsDistinct}
use Rattle.term_pool.specs.Instances.{IsNoted, HasVariable}
use Rattle.crit_pairs.specs.Numbered.{AreNamed, IsNumbered, placed}
use Rattle.crit_pairs.specs.PooledSide.{HasOwnId, numbers_of, IsPooledSide, side_tree, side_instance, value_of}
use Rattle.crit_pairs.proofs.InstanceVariables.{into_instance}
use Rattle.crit_pairs.proofs.Variants.{among_variables, occurs_among}
use Rattle.crit_pairs.proofs.NumberedLaws.{numbered_by, numbered_only, numbered_instance, renamed_known}

-- ---- a side in a pool that has grown, and its own term

pub own_ids_still : (a b : List Tree) (xs : List PooledVariable) → Extends a b → All (HasOwnId a) xs → All (HasOwnId b) xs
own_ids_still a b xs kept h = λ k d within. let x = get_or xs k d in kept.kept x.id (var x.number) (h k d within)

pub side_still : (a b : List Tree) (t : Tree) (side : PooledSide) → Extends a b → IsPooledSide a t side → IsPooledSide b t side
side_still a b t side kept h = record { stands = kept.kept side.id t h.stands; ids = own_ids_still a b side.variables.items kept h.ids; listed = h.listed }

pub side_is : (pool : List Tree) (t : Tree) (side : PooledSide) → IsPooledSide pool t side → side_tree pool side ≡ t
side_is pool t side h = stands_at pool side.id t h.stands

pub of_own_tree : (pool : List Tree) (t : Tree) (side : PooledSide) → IsPooledSide pool t side → IsPooledSide pool (side_tree pool side) side
of_own_tree pool t side h = subst (λ z. IsPooledSide pool z side) (sym (side_is pool t side h)) h

pub small_side : (pool : List Tree) (t : Tree) (side : PooledSide) → IsPooledSide pool t side → HasSmallVariables t → HasSmallVariables (side_tree pool side)
small_side pool t side h small = subst HasSmallVariables (sym (side_is pool t side h)) small

pub not_shifted : (t : Tree) → shifted 0 t ≡ t
not_shifted t = same_instance (λ v. var (0 + v)) (λ v. var v) t (λ v h. ap var (omega arith)) ∙ unchanged t

pub side_instance_is : (bindings : Bindings) (from : ℕ) (pool : List Tree) (t : Tree) (side : PooledSide) → IsPooledSide pool t side
    → side_instance bindings from pool side ≡ apply (solution bindings) (shifted from t)
side_instance_is bindings from pool t side h = ap (λ z. apply (solution bindings) (shifted from z)) (side_is pool t side h)

pub own_instance_is : (bindings : Bindings) (pool : List Tree) (t : Tree) (side : PooledSide) → IsPooledSide pool t side → side_instance bindings 0 pool side ≡ apply (solution bindings) t
own_instance_is bindings pool t side h = side_instance_is bindings 0 pool t side h ∙ ap (apply (solution bindings)) (not_shifted t)

-- ---- its variables

-- the variables of the side as they are read from a list
module _ (pool : List Tree) (t : Tree) (side : PooledSide) (h : IsPooledSide pool t side) (xs : List PooledVariable) (is : xs ≡ side.variables.items) where
  pub listed_occurs : (k : ℕ) (d : PooledVariable) → k < length xs → IsTrue (has_var (get_or xs k d).number t)
  listed_occurs k d within =
      let x : PooledVariable = get_or xs k d in
      let at : slice_get (numbers_of xs) k ≡ Some x.number =
      slice_get-map (λ (x : PooledVariable). x.number) xs k ∙ ap (option_map (λ (x : PooledVariable). x.number)) (slice_get-get_or xs k d within) in
      occurs_among x.number t k (subst (λ ns. slice_get ns k ≡ Some x.number) (ap numbers_of is ∙ h.listed) at)

  pub own_id : (now : List Tree) (k : ℕ) (d : PooledVariable) → Extends pool now → k < length xs → HasOwnId now (get_or xs k d)
  own_id now k d kept within =
      let x : PooledVariable = get_or xs k d in
      let all : All (HasOwnId pool) xs = subst (All (HasOwnId pool)) (sym is) h.ids in
      kept.kept x.id (var x.number) (all k d within)

number_read : (o : Option PooledVariable) (v : ℕ) → option_map (λ (x : PooledVariable). x.number) o ≡ Some v → (x : PooledVariable) × (o ≡ Some x) × (x.number ≡ v)
number_read None v e = absurd cc
number_read (Some x) v e = (x, refl, same_Some x.number v e)

pub occurring_listed : (pool : List Tree) (t : Tree) (side : PooledSide) (v : ℕ) → IsPooledSide pool t side → IsTrue (has_var v t)
    → (k : ℕ) × (x : PooledVariable) × (slice_get side.variables.items k ≡ Some x) × (x.number ≡ v)
occurring_listed pool t side v h occurs =
    let xs = side.variables.items in
    let (k, at) = among_variables v t occurs in
    let there : slice_get (numbers_of xs) k ≡ Some v = subst (λ ns. slice_get ns k ≡ Some v) (sym h.listed) at in
    let (x, is, same) = number_read (slice_get xs k) v (sym (slice_get-map (λ (x : PooledVariable). x.number) xs k) ∙ there) in
    (k, x, is, same)

-- ---- their instances

-- the instances of the first variables are noted
abbrev pub AreNoted : Instances → List PooledVariable → ℕ → Type 0
AreNoted made xs n = (k : ℕ) (x : PooledVariable) → k < n → slice_get xs k ≡ Some x → IsNoted made x.id

pub noted_more : (old new : Instances) (xs : List PooledVariable) (n : ℕ) (d : PooledVariable) → n < length xs → AreNoted old xs n → ((i : ℕ) → IsNoted old i → IsNoted new i)
    → IsNoted new (get_or xs n d).id → AreNoted new xs (n + 1)
noted_more old new xs n d within so_far kept noted k x below at = elim (ℕ_discrete k n) as (λ _. IsNoted new x.id) [
  | yes same ↦
      let is : get_or xs n d ≡ x = get_or_from_slice_get xs n x d (subst (λ z. slice_get xs z ≡ Some x) same at) in
      subst (λ (z : PooledVariable). IsNoted new z.id) is noted
  | no other ↦ kept x.id (so_far k x (omega (arith, below, other)) at)
]

pub each_noted : (pool : List Tree) (t : Tree) (side : PooledSide) (made : Instances) (xs : List PooledVariable) (n : ℕ) → IsPooledSide pool t side → xs ≡ side.variables.items → length xs ≤ n
    → AreNoted made xs n → (v : ℕ) → IsTrue (has_var v t) → HasVariable pool made v
each_noted pool t side made xs n h same_list all noted v occurs =
    let (k, x, there, same) = occurring_listed pool t side v h occurs in
    let at : slice_get xs k ≡ Some x = subst (λ ys. slice_get ys k ≡ Some x) (sym same_list) there in
    let within : k < length xs = slice_get_within xs k x at in
    let is : get_or xs k x ≡ x = get_or_from_slice_get xs k x x at in
    let own : HasOwnId pool x = subst (HasOwnId pool) is (own_id pool t side h xs same_list pool k x (extends_itself pool) within) in
    (x.id, subst (λ z. StandsFor pool x.id (var z)) same own, noted k x (omega (arith, within, all)) at)

-- the variables of the instance of a variable are named
pub variable_named : (names : List ℕ) (σ : ℕ → Tree) (from : ℕ) (t : Tree) (v : ℕ) → AreNamed names (apply σ (shifted from t)) → IsTrue (has_var v t) → AreNamed names (σ (from + v))
variable_named names σ from t v are occurs y h =
    are y (into_instance σ y (shifted from t) (from + v) (into_instance (λ w. var (from + w)) (from + v) t v occurs (has_var_self (from + v))) h)

-- what a variable is renamed to is its instance with the numbers of the names, which stay
pub value_known : (names now new : List ℕ) (t u : Tree) → IsDistinct names → now ≡ names → IsDistinct new → IsRenamed now new t u → AreNamed names t → (new ≡ names) × (u ≡ placed names t)
value_known names now new t u distinct same still renamed are =
    let r : IsRenamed names new t u = subst (λ z. IsRenamed z new t u) same renamed in
    let (kept, numbered) = renamed_known names new t u still r are in
    (kept, numbered_only names t u distinct numbered)

pub side_numbered : (names : List ℕ) (bindings : Bindings) (from : ℕ) (t : Tree) → AreNamed names (apply (solution bindings) (shifted from t))
    → IsNumbered names (apply (solution bindings) (shifted from t)) (apply (value_of bindings from names) t)
side_numbered names bindings from t are =
    let σ : ℕ → Tree = solution bindings in
    let each : (v : ℕ) → IsTrue (has_var v t) → IsNumbered names (σ (from + v)) (value_of bindings from names v) = λ v h. numbered_by names (σ (from + v)) (variable_named names σ from t v are h) in
    subst (λ z. IsNumbered names z (apply (value_of bindings from names) t)) (sym (apply_apply σ (λ v. var (from + v)) t)) (numbered_instance names (λ v. σ (from + v)) (value_of bindings from names) t each)

-- a side with no variable is its own instance
pub side_alone : (names : List ℕ) (bindings : Bindings) (from : ℕ) (pool : List Tree) (t : Tree) (side : PooledSide) → IsPooledSide pool t side → length side.variables.items ≡ 0
    → AreNamed names (apply (solution bindings) (shifted from t)) → IsNumbered names (apply (solution bindings) (shifted from t)) t
side_alone names bindings from pool t side h none are =
    let value : ℕ → Tree = value_of bindings from names in
    let absent : (v : ℕ) → IsTrue (has_var v t) → ⊥ =
    λ v occurs.
    let (k, x, at, same) = occurring_listed pool t side v h occurs in
    let past : k < length side.variables.items = slice_get_within side.variables.items k x at in
    absurd (omega (arith, past, none)) in
    let own : apply value t ≡ t = same_instance value (λ v. var v) t (λ v occurs. absurd (absent v occurs)) ∙ unchanged t in
    subst (IsNumbered names (apply (solution bindings) (shifted from t))) own (side_numbered names bindings from t are)

pub instance_numbered : {E : Type 0} (r : Result ℕ E) (names : List ℕ) (bindings : Bindings) (from : ℕ) (pool now new : List Tree) (side : PooledSide)
    → side.id < length pool → Extends pool now → AreNamed names (side_instance bindings from pool side) → IfOk r (λ own. StandsFor new own (apply (value_of bindings from names) (tree_at now side.id)))
    → IfOk r (λ own. IsNumbered names (side_instance bindings from pool side) (tree_at new own))
instance_numbered (Ok own) names bindings from pool now new side within kept are stand =
    let t : Tree = side_tree pool side in
    let value : ℕ → Tree = value_of bindings from names in
    let is : tree_at new own ≡ apply value t = stands_at new own (apply value (tree_at now side.id)) stand ∙ ap (apply value) (same_tree_at pool now kept side.id within) in
    subst (IsNumbered names (side_instance bindings from pool side)) (sym is) (side_numbered names bindings from t are)
instance_numbered (Err e) names bindings from pool now new side within kept are stand = tt
