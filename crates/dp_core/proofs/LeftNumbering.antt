-- Pairs of one rule have one left side.
use Rattle.std.proofs.Common.{◌≡◌, ℕ, ◌+◌, inl, inr, List, [], ◌∷◌, ◌++◌, map, length, arith, ap, refl, sym, subst, ◌∙◌, Option, Some, None, option_map, slice_get, Vec, Global, length-append}
use Rattle.std.proofs.lemmas.List.{length-map, map-append}
use Rattle.std.proofs.lemmas.Option.{slice_get-map, same_Some}
use Rattle.trs_defs.specs.Tree.{Tree}
use Rattle.trs_defs.specs.System.{RewriteRule, System, IsSystem}
use Rattle.trs_defs.specs.Path.{PlacedRule}
use Rattle.trs_defs.proofs.ListItems.{item_of_more}
use Rattle.trs_core.specs.View.{tree}
use Rattle.trs_core.specs.declared.terms.Term.{Term}
use Rattle.pair_theory.specs.Marked.{Marked, plain, mark}
use Rattle.pair_theory.specs.DependencyPair.{DependencyPair, dependency_pairs}
use Rattle.dp_core.specs.PlacedPairs.{placed_pairs, IsPairAt, IsOfRule}
use Rattle.dp_core.specs.Laws.{AllPairsArePlaced, PairsArePlacedInOrder}
use Rattle.dp_core.specs.LeftNumbers.{NumberLefts, AreMarkedLefts, AreLeftsOf}

same_mark : (a b : Marked) → plain a ≡ plain b → mark a ≡ mark b
same_mark a b e =
    let root : a.symbol ≡ b.symbol = cc in
    let args : a.args ≡ b.args = cc in
    cc

pub same_left : (rules : List RewriteRule) (r : ℕ) (p q : DependencyPair) → IsOfRule rules r p → IsOfRule rules r q → mark p.from ≡ mark q.from
same_left rules r p q (a, at, is) (b, there, also) =
    let same : a ≡ b = same_Some a b (sym at ∙ there) in
    same_mark p.from q.from (sym is ∙ (ap (λ (x : RewriteRule). x.left) same ∙ also))

abbrev pub rule_of : PlacedRule → ℕ
rule_of s = s.rule

of_rule : (rules : List RewriteRule) (s : PlacedRule) (p : DependencyPair) (n : ℕ) → IsPairAt rules s p → s.rule ≡ n → IsOfRule rules n p
of_rule rules s p n at is = (at.rule, ap (slice_get rules) (sym is) ∙ at.numbered, at.left)

module _ (whole : AllPairsArePlaced) (order : PairsArePlacedInOrder) (system : System) (valid : IsSystem system) (all : List PlacedRule) (is : all ≡ placed_pairs system.rules) where
  numbered_by_rule : (i n : ℕ) (p : DependencyPair) → slice_get (map rule_of all) i ≡ Some n → slice_get (dependency_pairs system.rules) i ≡ Some p → IsOfRule system.rules n p
  numbered_by_rule i n p e there = go (slice_get all i) refl (sym (slice_get-map rule_of all i) ∙ e)
    where
      go : (o : Option PlacedRule) → slice_get all i ≡ o → option_map rule_of o ≡ Some n → IsOfRule system.rules n p
      go None here none = absurd cc
      go (Some s) here some = of_rule system.rules s p n (order system i s p valid (sym (ap (λ ps. slice_get ps i) is) ∙ here) there) (same_Some s.rule n some)

  pub number_lefts : NumberLefts (map rule_of all) (dependency_pairs system.rules)
  number_lefts = record {
    as_many = length-map all rule_of ∙ (ap length is ∙ whole system valid);
    shared = λ i j n p q a b there_p there_q. same_left system.rules n p q (numbered_by_rule i n p a there_p) (numbered_by_rule j n q b there_q);
  }

  -- the left sides of rules that are kept are those of the rules' pairs
  pub are_lefts : (kept : Vec Term Global) → AreMarkedLefts (map tree kept.items) system.rules → (numbers : Vec ℕ Global) → numbers.items ≡ map rule_of all
      → AreLeftsOf (record { numbers = numbers; kept = kept }) (dependency_pairs system.rules)
  are_lefts kept marked numbers same = record {
    numbered = subst (λ ns. NumberLefts ns (dependency_pairs system.rules)) (sym same) number_lefts;
    kept = λ i n p at there. let (rule, is_rule, left) = numbered_by_rule i n p (ap (λ ns. slice_get ns i) (sym same) ∙ at) there in marked n rule p.from is_rule left;
  }

-- one rule more, whose left side is kept
module _ (rules : List RewriteRule) where
  abbrev pub AreFirstLefts : List Term → ℕ → Type 0
  AreFirstLefts terms k = (length terms ≡ k) × AreMarkedLefts (map tree terms) rules

  pub none_kept : AreMarkedLefts [] rules
  none_kept n rule left at is t there = absurd cc

  pub one_more_kept : (terms new : List Term) (k : ℕ) (rule : RewriteRule) (t : Term) → AreFirstLefts terms k → slice_get rules k ≡ Some rule
      → ((m : Marked) → rule.left ≡ plain m → tree t ≡ mark m) → new ≡ terms ++ t ∷ [] → AreFirstLefts new (k + 1)
  one_more_kept terms new k rule t before at marks grown = (as_many, are)
    where
      as_many : length new ≡ k + 1
      as_many = ap length grown ∙ (length-append terms (t ∷ []) ∙ omega (arith, before.0))

      are : AreMarkedLefts (map tree new) rules
      are n r left there is u e =
          let both : slice_get (map tree terms ++ tree t ∷ []) n ≡ Some u = ap (λ ts. slice_get ts n) (sym (ap (map tree) grown ∙ map-append tree terms (t ∷ []))) ∙ e in
          elim (item_of_more (map tree terms) (tree t) u n both) [
            | inl old ↦ before.1 n r left there is u old
            | inr last ↦ let number : n ≡ k = omega (arith, last.0, length-map terms tree, before.0) in
                let same : r ≡ rule = same_Some r rule (sym there ∙ (ap (slice_get rules) number ∙ at)) in
                last.1 ∙ marks left (ap (λ (x : RewriteRule). x.left) (sym same) ∙ is)
          ]

module _ (is_profile : Tree → Type 0) (lefts : List ℕ) (pairs : List DependencyPair) (number : ℕ) (term : Tree) where
  -- the term is the left side of all pairs of this number, and its profile is known
  pub record Serves : Type 0 where
    pub is_left : (i : ℕ) (p : DependencyPair) → slice_get lefts i ≡ Some number → slice_get pairs i ≡ Some p → term ≡ mark p.from
    pub profiled : is_profile term

  pub serves : NumberLefts lefts pairs → (i : ℕ) (p : DependencyPair) → slice_get lefts i ≡ Some number → slice_get pairs i ≡ Some p
      → term ≡ mark p.from → is_profile term → Serves
  serves numbered i p there_number there is profiled = record {
    is_left = λ j q e d. is ∙ numbered.shared i j number p q there_number e there d;
    profiled = profiled;
  }
