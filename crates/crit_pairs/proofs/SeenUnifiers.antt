-- Unifiers as proofs see them.
use Rattle.std.proofs.Common.{◌≡◌, ℕ, suc, List, [], ◌∷◌, map, Some, refl, ap, ◌∙◌}
use Rattle.std.specs.Prelude.{◌==◌, if◌then◌else◌, unwrap_or}
use Rattle.trs_defs.specs.Tree.{var}
use Rattle.trs_core.specs.View.{tree}
use Rattle.crit_pairs.specs.Meeting.{bound_term, bound_to, times, put_in}
use Rattle.crit_pairs.specs.UnbuiltTop.{bound_pair, seen_pair, paired_term, paired_to}
use Rattle.crit_pairs.proofs.PutIn.{same_times}
use Rattle.crit_pairs.specs.declared.binding_table.Binding.{Binding}
use Rattle.crit_pairs.specs.declared.unbuilt.SeenBinding.{SeenBinding}

bound_by_pairs : (bs : List Binding) (v : ℕ) → paired_term (map bound_pair bs) v ≡ bound_term bs v
bound_by_pairs [] v = refl
bound_by_pairs (b ∷ bs) v = ap (λ t. if b.variable == v then Some (tree b.term.now) else t) (bound_by_pairs bs v)

pub seen_solution : (levels : ℕ) (seen : List SeenBinding) (bs : List Binding) → map seen_pair seen ≡ map bound_pair bs → (v : ℕ)
    → times (suc levels) (paired_to (map seen_pair seen)) v ≡ put_in levels bs v
seen_solution levels seen bs h =
    same_times (suc levels) (paired_to (map seen_pair seen)) (bound_to bs)
    (λ v. ap (λ t. unwrap_or t (var v)) (ap (λ ps. paired_term ps v) h ∙ bound_by_pairs bs v))
