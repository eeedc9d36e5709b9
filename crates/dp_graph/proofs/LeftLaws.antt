-- Rules with the same left side, one after another.
use Rattle.std.proofs.Common.{◌≡◌, ◌<◌, ℕ, ◌+◌, inl, inr, List, [], ◌∷◌, ◌++◌, Option, Some, None, length, slice_get, slice_set, refl, ap, sym, ◌∙◌, subst, length-append}
use Rattle.std.proofs.lemmas.Option.{same_Some}
use native.Mathlib.Decide.{ℕ_discrete}
use Rattle.trs_defs.specs.Tree.{Tree, var, app}
use Rattle.trs_defs.specs.System.{RewriteRule}
use Rattle.trs_defs.proofs.ListItems.{last_item}
use Rattle.pair_theory.specs.Marked.{marked}
use Rattle.pair_theory.specs.DependencyPair.{pairs_of}
use Rattle.term_pool.specs.Pooled.{Extends, StandsFor}
use Rattle.dp_core.specs.PlacedPairs.{defined_places}
use Rattle.dp_core.proofs.DefinedBelow.{no_pairs_in}
use Rattle.dp_graph.specs.SameLefts.{HasLeft, HaveSameLefts, IsNoted, IsNotedOr, NotesAt, NotesStay}
use Rattle.dp_graph.proofs.ListPlaces.{last_or_there, still_there, set_here, set_elsewhere}

-- one place more, where nothing is noted
pub one_place_more : (first old new : List (Option ℕ)) → new ≡ old ++ None ∷ [] → NotesStay first old → NotesStay first new
one_place_more first old new grown stay i j = (
  λ at. elim (last_or_there old None (Some j) i (subst (λ z. slice_get z i ≡ Some (Some j)) grown at)) [
    | inl there ↦ (stay i j).0 there
    | inr last ↦ absurd (let d : None ≡ Some j = last.1 in cc)
  ],
  λ at. subst (λ z. slice_get z i ≡ Some (Some j)) (sym grown) (still_there old (None ∷ []) i (Some j) ((stay i j).1 at)),
)

-- a number is noted of an id
pub noted_now : (old room new : List (Option ℕ)) (id k : ℕ) → id < length room → NotesStay old room → new ≡ slice_set room id (Some k) → NotesAt id k old new
noted_now old room new id k lt stay set i j at = elim (ℕ_discrete i id) [
  | yes e ↦
      let here : Some (Some j) ≡ Some (Some k) = sym (subst (λ z. slice_get z id ≡ Some (Some j)) set (subst (λ z. slice_get new z ≡ Some (Some j)) e at)) ∙ set_here room id (Some k) lt in
      inr (e, same_Some j k (same_Some (Some j) (Some k) here))
  | no other ↦ inl ((stay i j).0 (sym (set_elsewhere room id i (Some k) other) ∙ subst (λ z. slice_get z i ≡ Some (Some j)) set at))
]

pub none_new : (old new : List (Option ℕ)) (id first : ℕ) → NotesStay old new → NotesAt id first old new
none_new old new id first stay i j at = inl ((stay i j).0 at)

-- ---- rules without pairs

pub no_pairs_of : (rules : List RewriteRule) (left right : Tree) → defined_places rules right ≡ [] → pairs_of rules left right ≡ []
no_pairs_of rules (var x) right none = refl
no_pairs_of rules (app f ls) right none = no_pairs_in rules (marked f ls) right none

-- ---- rules one after another

-- the first k rules were looked at
pub record SameSoFar (rules : List RewriteRule) (pool : List Tree) (seen : List (Option ℕ)) (firsts : List (Option ℕ)) (k : ℕ) : Type 0 where
  pub count : length firsts ≡ k
  pub each : (n j : ℕ) (rule : RewriteRule) → IsNoted firsts n j → slice_get rules n ≡ Some rule → HasLeft rules j rule.left
  pub noted : (i j : ℕ) → IsNoted seen i j → (left : Tree) × HasLeft rules j left × StandsFor pool i left
  pub of_seen : (i j : ℕ) → IsNoted seen i j → IsNoted firsts j j
  pub of_first : (n j : ℕ) → IsNoted firsts n j → IsNoted firsts j j
  pub others : (n : ℕ) (rule : RewriteRule) → slice_get firsts n ≡ Some None → slice_get rules n ≡ Some rule → pairs_of rules rule.left rule.right ≡ []

pub no_lefts : (rules : List RewriteRule) (pool : List Tree) (seen : List (Option ℕ)) (firsts : List (Option ℕ)) → seen ≡ [] → firsts ≡ [] → SameSoFar rules pool seen firsts 0
no_lefts rules pool seen firsts none empty = record {
  count = ap length empty;
  each = λ n j rule at is. absurd (let d : None ≡ Some (Some j) = subst (λ z. slice_get z n ≡ Some (Some j)) empty at in cc);
  noted = λ i j at. absurd (let d : None ≡ Some (Some j) = subst (λ z. slice_get z i ≡ Some (Some j)) none at in cc);
  of_seen = λ i j at. absurd (let d : None ≡ Some (Some j) = subst (λ z. slice_get z i ≡ Some (Some j)) none at in cc);
  of_first = λ n j at. absurd (let d : None ≡ Some (Some j) = subst (λ z. slice_get z n ≡ Some (Some j)) empty at in cc);
  others = λ n rule at is. absurd (let d : None ≡ Some None = subst (λ z. slice_get z n ≡ Some None) empty at in cc);
}

pub one_more_left : (rules : List RewriteRule) (pool pool2 : List Tree) (seen seen2 : List (Option ℕ)) (firsts firsts2 : List (Option ℕ)) (k id first : ℕ) (rule : RewriteRule) → SameSoFar rules pool seen firsts k
    → slice_get rules k ≡ Some rule → Extends pool pool2 → StandsFor pool2 id rule.left → IsNotedOr seen id k first → NotesAt id first seen seen2 → firsts2 ≡ firsts ++ Some first ∷ []
    → SameSoFar rules pool2 seen2 firsts2 (k + 1)
one_more_left rules pool pool2 seen seen2 firsts firsts2 k id first rule h there extends stands noted notes pushed =
    let here : HasLeft rules k rule.left = (rule, there, refl) in
    let found : HasLeft rules first rule.left = elim noted [
      | inl e ↦ subst (λ z. HasLeft rules z rule.left) (sym e) here
      | inr e ↦
          let (left, has, at) = h.noted id first e in
          subst (HasLeft rules first) (same_Some left rule.left (sym (extends.kept id left at) ∙ stands)) has
    ] in
    let stays : (n j : ℕ) → IsNoted firsts n j → IsNoted firsts2 n j = λ n j at. subst (λ z. IsNoted z n j) (sym pushed) (still_there firsts (Some first ∷ []) n (Some j) at) in
    let first_stays : IsNoted firsts2 first first = elim noted [
      | inl e ↦ subst (λ z. IsNoted z first first) (sym pushed) (subst (λ z. IsNoted (firsts ++ Some first ∷ []) z first) (h.count ∙ sym e) (last_item firsts (Some first) []))
      | inr e ↦ stays first first (h.of_seen id first e)
    ] in
    record {
      count = ap length pushed ∙ (length-append firsts (Some first ∷ []) ∙ ap (λ z. z + 1) h.count);
      each = λ n j r at is. elim (last_or_there firsts (Some first) (Some j) n (subst (λ z. IsNoted z n j) pushed at)) [
        | inl e ↦ h.each n j r e is
        | inr e ↦
            let same : rule ≡ r = same_Some rule r (sym there ∙ subst (λ z. slice_get rules z ≡ Some r) (e.0 ∙ h.count) is) in
            subst (λ z. HasLeft rules z r.left) (same_Some first j e.1) (subst (λ (z : RewriteRule). HasLeft rules first z.left) same found)
      ];
      noted = λ i j at. elim (notes i j at) [
        | inl e ↦ let (left, has, old) = h.noted i j e in (left, has, extends.kept i left old)
        | inr e ↦ (rule.left, subst (λ z. HasLeft rules z rule.left) (sym e.1) found, subst (λ z. StandsFor pool2 z rule.left) (sym e.0) stands)
      ];
      of_seen = λ i j at. elim (notes i j at) [
        | inl e ↦ stays j j (h.of_seen i j e)
        | inr e ↦ subst (λ z. IsNoted firsts2 z z) (sym e.1) first_stays
      ];
      of_first = λ n j at. elim (last_or_there firsts (Some first) (Some j) n (subst (λ z. IsNoted z n j) pushed at)) [
        | inl e ↦ stays j j (h.of_first n j e)
        | inr e ↦ subst (λ z. IsNoted firsts2 z z) (same_Some first j e.1) first_stays
      ];
      others = λ n r at is. elim (last_or_there firsts (Some first) None n (subst (λ z. slice_get z n ≡ Some None) pushed at)) [
        | inl e ↦ h.others n r e is
        | inr e ↦ absurd (let d = e.1 in cc)
      ];
    }

-- a rule that is noted for its own left side
pub one_more_own : (rules : List RewriteRule) (pool : List Tree) (seen : List (Option ℕ)) (firsts firsts2 : List (Option ℕ)) (k : ℕ) (rule : RewriteRule) → SameSoFar rules pool seen firsts k
    → slice_get rules k ≡ Some rule → firsts2 ≡ firsts ++ Some k ∷ [] → SameSoFar rules pool seen firsts2 (k + 1)
one_more_own rules pool seen firsts firsts2 k rule h there pushed =
    let stays : (n j : ℕ) → IsNoted firsts n j → IsNoted firsts2 n j = λ n j at. subst (λ z. IsNoted z n j) (sym pushed) (still_there firsts (Some k ∷ []) n (Some j) at) in
    let own : IsNoted firsts2 k k = subst (λ z. IsNoted z k k) (sym pushed) (subst (λ z. IsNoted (firsts ++ Some k ∷ []) z k) h.count (last_item firsts (Some k) [])) in
    record {
      count = ap length pushed ∙ (length-append firsts (Some k ∷ []) ∙ ap (λ z. z + 1) h.count);
      each = λ n j r at is. elim (last_or_there firsts (Some k) (Some j) n (subst (λ z. IsNoted z n j) pushed at)) [
        | inl e ↦ h.each n j r e is
        | inr e ↦ (r, subst (λ z. slice_get rules z ≡ Some r) (e.0 ∙ (h.count ∙ same_Some k j e.1)) is, refl)
      ];
      noted = h.noted;
      of_seen = λ i j at. stays j j (h.of_seen i j at);
      of_first = λ n j at. elim (last_or_there firsts (Some k) (Some j) n (subst (λ z. IsNoted z n j) pushed at)) [
        | inl e ↦ stays j j (h.of_first n j e)
        | inr e ↦ subst (λ z. IsNoted firsts2 z z) (same_Some k j e.1) own
      ];
      others = λ n r at is. elim (last_or_there firsts (Some k) None n (subst (λ z. slice_get z n ≡ Some None) pushed at)) [
        | inl e ↦ h.others n r e is
        | inr e ↦ absurd (let d = e.1 in cc)
      ];
    }

-- a rule without pairs, for which none is noted
pub one_more_other : (rules : List RewriteRule) (pool : List Tree) (seen : List (Option ℕ)) (firsts firsts2 : List (Option ℕ)) (k : ℕ) (rule : RewriteRule) → SameSoFar rules pool seen firsts k
    → slice_get rules k ≡ Some rule → pairs_of rules rule.left rule.right ≡ [] → firsts2 ≡ firsts ++ None ∷ [] → SameSoFar rules pool seen firsts2 (k + 1)
one_more_other rules pool seen firsts firsts2 k rule h there free pushed =
    let stays : (n j : ℕ) → IsNoted firsts n j → IsNoted firsts2 n j = λ n j at. subst (λ z. IsNoted z n j) (sym pushed) (still_there firsts (None ∷ []) n (Some j) at) in
    let before : (n j : ℕ) → IsNoted firsts2 n j → IsNoted firsts n j = λ n j at. elim (last_or_there firsts None (Some j) n (subst (λ z. IsNoted z n j) pushed at)) [
      | inl e ↦ e
      | inr e ↦ absurd (let d = e.1 in cc)
    ] in
    record {
      count = ap length pushed ∙ (length-append firsts (None ∷ []) ∙ ap (λ z. z + 1) h.count);
      each = λ n j r at is. h.each n j r (before n j at) is;
      noted = h.noted;
      of_seen = λ i j at. stays j j (h.of_seen i j at);
      of_first = λ n j at. stays j j (h.of_first n j (before n j at));
      others = λ n r at is. elim (last_or_there firsts None None n (subst (λ z. slice_get z n ≡ Some None) pushed at)) [
        | inl e ↦ h.others n r e is
        | inr e ↦
            let same : rule ≡ r = same_Some rule r (sym there ∙ subst (λ z. slice_get rules z ≡ Some r) (e.0 ∙ h.count) is) in
            subst (λ (z : RewriteRule). pairs_of rules z.left z.right ≡ []) same free
      ];
    }

pub all_lefts : (rules : List RewriteRule) (pool : List Tree) (seen : List (Option ℕ)) (firsts : List (Option ℕ)) (k : ℕ) → SameSoFar rules pool seen firsts k → k ≡ length rules → HaveSameLefts rules firsts
all_lefts rules pool seen firsts k h end = record { count = h.count ∙ end; noted = h.of_first; each = h.each; others = h.others }
