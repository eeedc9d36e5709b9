-- Instances by the terms of ids.
use Rattle.std.proofs.Common.{◌≡◌, ℕ, ◌+◌, ◌<◌, ◌≤◌, List, [], ◌∷◌, ◌++◌, map, length, Option, Some, None, refl, ap, sym, ◌∙◌, arith, get_or}
use Rattle.term_pool.specs.declared.bindings.Bindings.{Bindings}
use Rattle.trs_defs.specs.Tree.{Tree, app, trees}
use Rattle.trs_defs.specs.Size.{size_of}
use Rattle.trs_defs.specs.Substitution.{apply, apply_all}
use Rattle.trs_defs.proofs.Substitutions.{same_instance}
use Rattle.trs_core.specs.declared.terms.Term.{Term}
use Rattle.trs_core.specs.View.{tree, forest}
use Rattle.term_pool.specs.Pooled.{StandsFor, Extends}
use Rattle.term_pool.specs.Bindings.{bound, HasIds, bound_terms, term_or_self, instance_of}
use Rattle.term_pool.proofs.PoolTrees.{stands}
use Rattle.term_pool.proofs.Extending.{same_tree_at}
use Rattle.term_pool.proofs.ArgumentIds.{AreMade, one_made}

-- an argument's instance
abbrev pub value_in : List Tree → Bindings → Term → Tree
value_in pool m a = instance_of pool m (tree a)

-- bindings mean the same in a pool that has grown
pub same_bound : (a b : List Tree) (m : Bindings) → Extends a b → HasIds a m → (t : Tree) → instance_of b m t ≡ instance_of a m t
same_bound a b m extends ids t = same_instance (bound_terms b m) (bound_terms a m) t (λ v h. at v (bound m v) refl)
  where
    at : (v : ℕ) (o : Option ℕ) → bound m v ≡ o → term_or_self b v (bound m v) ≡ term_or_self a v (bound m v)
    at v None e = rw e refl
    at v (Some i) e = rw e (same_tree_at a b extends i (ids.within v i e))

pub ids_on : (a b : List Tree) (m : Bindings) → Extends a b → HasIds a m → HasIds b m
ids_on a b m extends ids = record { within = λ v i e. omega (arith, ids.within v i e, extends.longer) }

pub bound_at : (pool : List Tree) (m : Bindings) (v id : ℕ) → Some id ≡ bound m v → HasIds pool m → StandsFor pool id (bound_terms pool m v)
bound_at pool m v id e ids = rw (← e) (stands pool id (ids.within v id (sym e)))

-- the instance of a term is its symbol over those of its arguments
pub instances : (s : ℕ → Tree) (args : List Term) → trees (map (λ a. apply s (tree a)) args) ≡ apply_all s (forest args)
instances s [] = refl
instances s (a ∷ args) = let rest = instances s args in cc (rest)

pub instance_whole : (pool : List Tree) (m : Bindings) (t : Tree) (f : ℕ) (args : List Term) → t ≡ app f (forest args)
    → instance_of pool m t ≡ app f (trees (map (value_in pool m) args))
instance_whole pool m t f args is = ap (instance_of pool m) is ∙ ap (app f) (sym (instances (bound_terms pool m) args))

-- one recursive call, whose bindings are read in the pool that has grown
module _ (start now : List Tree) (m : Bindings) (args : List Term) (ids : List ℕ) (k : ℕ) (known : HasIds start m) (so_far : AreMade (value_in start m) start now args ids k)
    (arg : Term) (within : k < length args) (is : arg ≡ get_or args k arg) where
  same_value : instance_of now m (tree arg) ≡ instance_of start m (tree arg)
  same_value = same_bound start now m so_far.kept known (tree arg)

  same_size : size_of (instance_of now m (tree arg)) ≡ size_of (instance_of start m (tree arg))
  same_size = ap size_of same_value

  pub call_ids : HasIds now m
  call_ids = ids_on start now m so_far.kept known

  pub call_few : (next : List Tree) → length next ≤ length now + size_of (instance_of now m (tree arg)) → length next ≤ length now + size_of (instance_of start m (tree arg))
  call_few next few = omega (arith, same_size, few)

  pub call_made : (next : List Tree) (id : ℕ) → Extends now next → StandsFor next id (instance_of now m (tree arg)) → length next ≤ length now + size_of (instance_of now m (tree arg))
      → AreMade (value_in start m) start next args (ids ++ id ∷ []) (k + 1)
  call_made next id kept stand few = one_made (value_in start m) args k arg within is start now ids so_far next id kept (rw same_value at stand) (call_few next few)
