-- Terms as they are, and terms of a graph, as comparisons walk them.
use Rattle.std.proofs.Common.{ℕ, ◌≤◌, List, Option, Some, None, ap, arith}
use Rattle.std.specs.Borrow.{Bor}
use Rattle.trs_defs.specs.Size.{size_of_all}
use Rattle.trs_core.specs.declared.terms.Term.{Term}
use Rattle.trs_core.specs.View.{forest}
use Rattle.order_theory.specs.ArgumentFilter.{ArgumentFilter, filtered_all}
use Rattle.path_lpo.specs.declared.kept.Kept.{Kept}
use Rattle.path_lpo.specs.declared.nodes.Node.{Node}
use Rattle.path_lpo.specs.declared.root.Root.{Root}
use Rattle.path_lpo.specs.declared.root.Root.TheVariants.{Variable, Symbol}
use Rattle.path_lpo.specs.Root.{IsRootWithin}
use Rattle.path_lpo.specs.Walked as walked
use Rattle.path_lpo.specs.Kept.{unshared_terms, size_of_root}
use Rattle.path_lpo.specs.Kept as kept
use Rattle.path_lpo.specs.Graph.{shared_terms, IsSplitAt}

pub split_filtered : (filter : ℕ → ArgumentFilter) (k : Kept) (o : Option (Bor Term × Kept)) → kept.IsSplit k o → walked.IsSplit (unshared_terms filter) k o
split_filtered filter k None h = ap (filtered_all filter) h
split_filtered filter k (Some p) h = record {
  list_is = ap (filtered_all filter) h.kept_are;
  first_within = h.size;
  rest_within = omega (arith, ap (λ args. size_of_all (forest args)) h.same_args);
  shorter = h.fewer_places;
}

pub root_within : (r : Root Kept) (n : ℕ) → size_of_root r ≤ n → IsRootWithin (λ k. size_of_all (forest k.args.now)) n r
root_within (Variable x) n h = tt
root_within (Symbol f k) n h = omega (arith, h)

pub split_shared : (nodes : List Node) (n : ℕ) (o : Option (ℕ × ℕ)) → IsSplitAt nodes n o → walked.IsSplit (shared_terms nodes) n o
split_shared nodes n None h = h
split_shared nodes n (Some p) h = record {
  list_is = h.list_is;
  first_within = omega (arith, h.first_earlier);
  rest_within = omega (arith, h.rest_earlier);
  shorter = h.rest_earlier;
}
