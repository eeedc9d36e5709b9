-- Rules whose sides are linear.
use Rattle.std.specs.Prelude.{◌≡◌, ◌<◌, ◌≤◌, ℕ, ◌+◌, ◌↔◌, Bool, false, List, [], ◌∷◌, ◌++◌, length, take, IsTrue, Ok}
use Rattle.std.proofs.Common.{suc, ap, sym, ◌∙◌, subst, get_or, arith, inl, inr}
use Rattle.std.proofs.Math.Seq.{take-suc}
use Rattle.std.proofs.lemmas.List.{take_all}
use Rattle.trs_defs.specs.Member.{In, in_first, in_rest}
use Rattle.trs_defs.specs.Variable.{IsLinear}
use Rattle.trs_defs.specs.System.{RewriteRule}
use Rattle.trs_defs.proofs.Members.{in_either, in_or, no_in}
use Rattle.rewrite_core.specs.Check.{each, goes_on, holds, returned}
use Rattle.closed_pairs.specs.LinearRules.{are_linear, is_linear, are_left_linear, is_left_linear}
use Rattle.join_find.specs.StrongRow.{AreLinear}
use Rattle.join_find.specs.ParallelRow.{AreLeftLinear}
use Rattle.join_find.proofs.Firsts.{read_in}

abbrev pub HasLinearSides : RewriteRule → Type 0
HasLinearSides rule = IsLinear rule.left × IsLinear rule.right

-- what holds of the rules before holds of one more
holds_further : (P : RewriteRule → Type 0) (rules : List RewriteRule) (i : ℕ) (rule : RewriteRule) → i < length rules → rule ≡ get_or rules i rule → P rule
    → ((r : RewriteRule) → In r (take i rules) → P r) → (r : RewriteRule) → In r (take (i + 1) rules) → P r
holds_further P rules i rule below is h before r there =
    let n : i + 1 ≡ suc i = omega arith in
    let G : RewriteRule → Type 0 = λ x. take (i + 1) rules ≡ take i rules ++ x ∷ [] in
    let same : take (i + 1) rules ≡ take i rules ++ rule ∷ [] = subst G (sym is) (ap (λ k. take k rules) n ∙ take-suc rules i rule below) in
    either (subst (λ xs. In r xs) same there)
  where
    either : In r (take i rules ++ rule ∷ []) → P r
    either k = elim (in_either (take i rules) (rule ∷ []) k) [
      | inl old ↦ before r old
      | inr new ↦ elim (in_or new) [ inl same ↦ subst P (sym same) h | inr none ↦ absurd (no_in none) ]
    ]

pub linear_further : (rules : List RewriteRule) (i : ℕ) (rule : RewriteRule) (b : Bool) → i < length rules → rule ≡ get_or rules i rule → IsTrue b ↔ HasLinearSides rule → IsTrue b
    → AreLinear (take i rules) → AreLinear (take (i + 1) rules)
linear_further rules i rule b below is test h before = record { each = holds_further HasLinearSides rules i rule below is (test.0 h) before.each }

pub left_linear_further : (rules : List RewriteRule) (i : ℕ) (rule : RewriteRule) (b : Bool) → i < length rules → rule ≡ get_or rules i rule → IsTrue b ↔ IsLinear rule.left → IsTrue b
    → AreLeftLinear (take i rules) → AreLeftLinear (take (i + 1) rules)
left_linear_further rules i rule b below is test h before = record { each = holds_further (λ r. IsLinear r.left) rules i rule below is (test.0 h) before.each }

pub all_linear : (rules items : List RewriteRule) (i : ℕ) → items ≡ rules → length items ≤ i → AreLinear (take i items) → AreLinear rules
all_linear rules items i same all h = subst AreLinear (take_all i items all ∙ same) h

pub not_all_linear : (rules items : List RewriteRule) (i : ℕ) (rule : RewriteRule) (b : Bool) → items ≡ rules → i < length items → rule ≡ get_or items i rule → IsTrue b ↔ HasLinearSides rule → b ≡ false
    → AreLinear rules → ⊥
not_all_linear rules items i rule b same below is test h linear =
    let there : In rule rules = subst (λ xs. In rule xs) same (read_in items i rule below is) in
    let both : IsTrue b = test.1 (linear.each rule there) in
    absurd cc

pub not_all_left_linear : (rules items : List RewriteRule) (i : ℕ) (rule : RewriteRule) (b : Bool) → items ≡ rules → i < length items → rule ≡ get_or items i rule → IsTrue b ↔ IsLinear rule.left → b ≡ false
    → AreLeftLinear rules → ⊥
not_all_left_linear rules items i rule b same below is test h linear =
    let there : In rule rules = subst (λ xs. In rule xs) same (read_in items i rule below is) in
    let left : IsTrue b = test.1 (linear.each rule there) in
    absurd cc

-- they meet the condition on left-linear rules
pub left_linear_rules_pass : (rules : List RewriteRule) → AreLeftLinear rules → are_left_linear rules (Ok tt)
left_linear_rules_pass rules linear = go 0 rules linear.each
  where
    go : (n : ℕ) (rs : List RewriteRule) → ((rule : RewriteRule) → In rule rs → IsLinear rule.left) → each is_left_linear n rs (Ok tt)
    go n [] h = returned
    go n (r ∷ rs) h = goes_on tt (Ok tt) (holds (h r in_first)) (go (n + 1) rs (λ rule i. h rule (in_rest i)))

-- they meet the condition on linear rules
pub linear_rules_pass : (rules : List RewriteRule) → AreLinear rules → are_linear rules (Ok tt)
linear_rules_pass rules linear = go 0 rules linear.each
  where
    go : (n : ℕ) (rs : List RewriteRule) → ((rule : RewriteRule) → In rule rs → HasLinearSides rule) → each is_linear n rs (Ok tt)
    go n [] h = returned
    go n (r ∷ rs) h = goes_on tt (Ok tt) (holds (h r in_first)) (go (n + 1) rs (λ rule i. h rule (in_rest i)))
