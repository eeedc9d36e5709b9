-- The listed paths have few steps, so that lists of their rules are short.
use Rattle.std.specs.Prelude.{◌≤◌, List, [], ◌∷◌, length}
use Rattle.std.proofs.Common.{ap, subst, inl, inr, length-append, arith}
use Rattle.trs_defs.specs.Member.{In}
use Rattle.trs_defs.specs.Tree.{Tree}
use Rattle.trs_defs.specs.System.{RewriteRule}
use Rattle.trs_defs.specs.Path.{PlacedRule}
use Rattle.trs_defs.proofs.Members.{in_either, in_map, in_or, in_take, no_in}
use Rattle.term_pool.specs.Pooled.{tree_at}
use Rattle.term_pool.specs.Listed.{Listed}
use Rattle.term_pool.specs.ListedIds.{listed, listed_at}
use Rattle.term_pool.specs.Reach.{AreCandidates, no_entry, expanded, too_deep}
use Rattle.term_pool.proofs.ReachLaws.{reducts_come}
use Rattle.path_lists.specs.PathList.{no_steps, IsPathList}
use Rattle.label_find.specs.ListedSides.{AreListed, HaveShortPaths}
use Rattle.label_find.specs.declared.listed_sides.ListedSides.{ListedSides}

candidates_short : (rules : List RewriteRule) {es cs : List Listed} → AreCandidates rules 4 4096 es cs → (c : Listed) → In c cs → length c.path ≤ 4
candidates_short rules no_entry c i = absurd (no_in i)
candidates_short rules (expanded {e = e} {cs = cs} {ds = ds} near redexes reducts rest) c i = elim (in_either cs ds i) [
  | inl here ↦ (let comes = reducts_come rules 4 4096 e reducts c here in
      let count = ap (λ (p : List PlacedRule). length p) comes.path in
      omega (arith, near, count, length-append e.path (comes.step ∷ [])))
  | inr later ↦ candidates_short rules rest c later
]
candidates_short rules (too_deep far rest) c i = candidates_short rules rest c i

listed_short : (rules : List RewriteRule) (t : Tree) (es : List Listed) → IsPathList rules t es → (e : Listed) → In e es → length e.path ≤ 4
listed_short rules t es is e i =
    let there : In e (no_steps t ∷ is.candidates) = in_take 256 (no_steps t ∷ is.candidates) (subst (λ (xs : List Listed). In e xs) is.listed i) in
    elim (in_or there) [
      | inl same ↦ (let count = ap (λ (x : Listed). length x.path) same in omega (arith, count))
      | inr new ↦ candidates_short rules is.longer e new
    ]

-- the paths that are listed of sides
pub short_paths : (rules : List RewriteRule) (from : List Tree) (sides : ListedSides) → AreListed rules from sides → HaveShortPaths sides
short_paths rules from sides listed_all = record {
  each = λ id found at e i.
      listed_short rules (tree_at sides.pool id) (listed_at sides.pool found) (listed_all.lists id found at).list (listed sides.pool e) (in_map (listed sides.pool) i);
}
