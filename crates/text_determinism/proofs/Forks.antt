-- The fork that the strategies fork and split find on a list of peaks is one, and excludes that they fail on it.
use Rattle.std.specs.Prelude.{◌≡◌, List, refl}
use Rattle.std.proofs.Common.{ap, sym, ◌∙◌, subst}
use Rattle.trs_defs.specs.Tree.{Tree}
use Rattle.trs_defs.specs.System.{RewriteRule, System, IsSystem}
use Rattle.term_pool.specs.Listed.{Listed}
use Rattle.term_pool.proofs.ReachOnce.{reach_once}
use Rattle.rewrite_core.specs.PlacedPeak.{PlacedPeak}
use Rattle.rewrite_core.specs.declared.checks.forks.ForkTest.{ForkTest}
use Rattle.conclusion.specs.report_text.strategies.join_find.First.{First, Some_in}
use Rattle.conclusion.specs.report_text.strategies.conf_find.Fork.{Fork, fork_from}
use Rattle.conclusion.specs.report_text.strategies.conf_find.ForkRows.{Behind, behind_none, behind_one, IsTestOf, both_normal, not_both, IsShortReach}
use Rattle.conclusion.specs.report_text.strategies.conf_find.ForkRows.{NothingParted, PartsLists, PartsNot, PartsBy, FindsParted, FailsParted}
use Rattle.conclusion.proofs.tree_definitions.strategies.conf_find.ForkLaw.{behind_in}
use Rattle.text_determinism.proofs.Firsts.{first_once, first_is_some}

behind_once : {A : Type 0} {passed : A → Type 0} {xs : List A} {a b : A} → Behind passed xs a → Behind passed xs b
    → (passed a → ⊥) → (passed b → ⊥) → a ≡ b
behind_once behind_none behind_none a b = refl
behind_once behind_none (behind_one p later) a b = absurd (a p)
behind_once (behind_one p later) behind_none a b = absurd (b p)
behind_once (behind_one p later) (behind_one q more) a b = behind_once later more a b

test_once : (rules : List RewriteRule) (u v : Tree) {a b : ForkTest} → IsTestOf rules u v a → IsTestOf rules u v b → a ≡ b
test_once rules u v (both_normal h) (both_normal k) = refl
test_once rules u v (both_normal h) (not_both k) = absurd (k h)
test_once rules u v (not_both h) (both_normal k) = absurd (h k)
test_once rules u v (not_both h) (not_both k) = refl

module _ (parted : List RewriteRule → Tree → Tree → Type 0) (system : System) (valid : IsSystem system) where
  abbrev PartedFrom : Listed → Listed → Type 0
  PartedFrom e f = parted system.rules e.term f.term

  abbrev PartedOnLeft : List Listed → Listed → Type 0
  PartedOnLeft rights e = Some_in (PartedFrom e) rights

  parts_once : (peak : PlacedPeak) (lefts rights : List Listed) (a b : Fork) → PartsLists parted system.rules peak lefts rights a
      → PartsLists parted system.rules peak lefts rights b → a ≡ b
  parts_once peak lefts rights a b h k =
      let left : h.u ≡ k.u = first_once (PartedOnLeft rights) h.first_left k.first_left in
      let first : First (PartedFrom k.u) rights h.v = subst (λ (e : Listed). First (PartedFrom e) rights h.v) left h.first_right in
      let right : h.v ≡ k.v = first_once (PartedFrom k.u) first k.first_right in
      let test : IsTestOf system.rules k.u.term k.v.term h.how =
      subst (λ (f : Listed). IsTestOf system.rules k.u.term f.term h.how) right
      (subst (λ (e : Listed). IsTestOf system.rules e.term h.v.term h.how) left h.test) in
      let how : h.how ≡ k.how = test_once system.rules k.u.term k.v.term test k.test in
      h.is ∙ (ap (λ (e : Listed). fork_from peak e.path h.v.path h.how) left
      ∙ (ap (λ (f : Listed). fork_from peak k.u.path f.path h.how) right
      ∙ (ap (λ (t : ForkTest). fork_from peak k.u.path k.v.path t) how ∙ sym k.is)))

  module _ (peak : PlacedPeak) where
    one_left : (es fs : List Listed) → IsShortReach system.rules peak.left es → IsShortReach system.rules peak.left fs → es ≡ fs
    one_left es fs h k = reach_once system valid peak.left 8 32 4096 es fs h k

    one_right : (es fs : List Listed) → IsShortReach system.rules peak.right es → IsShortReach system.rules peak.right fs → es ≡ fs
    one_right es fs h k = reach_once system valid peak.right 8 32 4096 es fs h k

    by_once : (a b : Fork) → PartsBy parted system.rules peak a → PartsBy parted system.rules peak b → a ≡ b
    by_once a b h k =
        let lefts : h.lefts ≡ k.lefts = one_left h.lefts k.lefts h.from_left k.from_left in
        let rights : h.rights ≡ k.rights = one_right h.rights k.rights h.from_right k.from_right in
        parts_once peak k.lefts k.rights a b
        (subst (λ es. PartsLists parted system.rules peak k.lefts es a) rights
        (subst (λ es. PartsLists parted system.rules peak es h.rights a) lefts h.parts)) k.parts

    by_or_not : (a : Fork) → PartsBy parted system.rules peak a → PartsNot parted system.rules peak → ⊥
    by_or_not a h k =
        let lefts : k.lefts ≡ h.lefts = one_left k.lefts h.lefts k.from_left h.from_left in
        let rights : k.rights ≡ h.rights = one_right k.rights h.rights k.from_right h.from_right in
        let none : NothingParted parted system.rules h.lefts h.rights =
        subst (λ es. NothingParted parted system.rules h.lefts es) rights
        (subst (λ es. NothingParted parted system.rules es k.rights) lefts k.none) in
        let (u, there, some) = first_is_some h.parts.first_left in
        none u there some

  pub fork_once : (peaks : List PlacedPeak) (a b : Fork) → FindsParted parted system.rules peaks a → FindsParted parted system.rules peaks b → a ≡ b
  fork_once peaks a b (peak, before, parts) (other, behind, by) =
      let same : peak ≡ other = behind_once before behind (by_or_not peak a parts) (by_or_not other b by) in
      by_once other a b (subst (λ (p : PlacedPeak). PartsBy parted system.rules p a) same parts) by

  pub fork_not_failed : (peaks : List PlacedPeak) (a : Fork) → FindsParted parted system.rules peaks a → FailsParted parted system.rules peaks → ⊥
  fork_not_failed peaks a (peak, before, parts) none = by_or_not peak a parts (none peak (behind_in before))
