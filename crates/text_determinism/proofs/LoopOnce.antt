-- The search for a loop has one answer.
use Rattle.std.specs.Prelude.{◌≡◌, ◌≤◌, ℕ, List, [], ◌∷◌, ◌++◌}
use Rattle.std.proofs.Common.{ap, sym, ◌∙◌, subst, arith}
use native.Mathlib.Decide.{dec_le}
use Rattle.trs_defs.specs.Member.{In, in_first, in_rest}
use Rattle.trs_defs.specs.Tree.{Tree}
use Rattle.trs_defs.specs.System.{RewriteRule}
use Rattle.trs_defs.specs.Path.{PlacedRule}
use Rattle.trs_defs.proofs.Members.{in_left}
use Rattle.term_text.specs.Renumbered.{in_order}
use Rattle.loop_find.specs.Closures.{Closure, IsClosureList}
use Rattle.loop_find.specs.LoopRow.{LoopsAt, LoopNone, FindsLoop, LoopNotThere, LoopSpent}
use Rattle.text_determinism.specs.LoopLaws.{IsSameLoop, LoopsAreOne, LoopAnswersExclude}
use Rattle.text_determinism.proofs.Variants.{AreVariants, variant_back, variant_loops, variant_place}
use Rattle.text_determinism.proofs.VariantTerms.{one_in_order}
use Rattle.text_determinism.proofs.VariantAttempts.{AllVariants, more_variants}
use Rattle.text_determinism.proofs.ListedOnce.{begins_with, no_further}

module _ (rules : List RewriteRule) where
  loop_below : (b : Closure) (bs : List Closure) → LoopNone rules (b ∷ bs) → LoopNone rules bs
  loop_below b bs none c i = none c (in_rest i)

  -- the first closures that loop are variants
  first_variants : (before after : List Closure) (c : Closure) (others more : List Closure) (d : Closure) (front rest : List Closure)
      → AllVariants (before ++ c ∷ after) front → others ++ d ∷ more ≡ front ++ rest → LoopNone rules before → LoopNone rules others
      → (p q : List ℕ) → LoopsAt rules c p → LoopsAt rules d q → AreVariants c d
  first_variants [] after c [] more d front rest (more_variants {d = x} v h) e none no_other p q l k =
      let same : d ≡ x = cc (e) in
      subst (AreVariants c) (sym same) v
  first_variants [] after c (o ∷ others) more d front rest (more_variants {d = x} v h) e none no_other p q l k =
      let same : o ≡ x = cc (e) in
      absurd (no_other o in_first p (variant_loops rules c o (subst (AreVariants c) (sym same) v) p l))
  first_variants (b ∷ before) after c [] more d front rest (more_variants {d = x} v h) e none no_other p q l k =
      let same : d ≡ x = cc (e) in
      let w : AreVariants b d = subst (AreVariants b) (sym same) v in
      absurd (none b in_first q (variant_loops rules d b (variant_back b d w) q k))
  first_variants (b ∷ before) after c (o ∷ others) more d front rest (more_variants {ds = front_rest} v h) e none no_other p q l k =
      first_variants before after c others more d front_rest rest h (cc (e)) (loop_below b before none) (loop_below o others no_other) p q l k

  -- a list with variants of a closure that loops has one that loops
  loop_among : (before after : List Closure) (c : Closure) (front : List Closure) → AllVariants (before ++ c ∷ after) front
      → (p : List ℕ) → LoopsAt rules c p → LoopNone rules front → ⊥
  loop_among [] after c front (more_variants {d = d} v h) p l none = none d in_first p (variant_loops rules c d v p l)
  loop_among (b ∷ before) after c front (more_variants {d = d} {ds = ds} v h) p l none = loop_among before after c ds h p l (loop_below d ds none)

  module _ (budget : ℕ) (start : Tree) (path : List PlacedRule) (place : List ℕ) (h : FindsLoop rules budget start path place) where
    same_loop : (other : Tree) (other_path : List PlacedRule) (other_place : List ℕ) (k : FindsLoop rules budget other other_path other_place)
        → AreVariants h.closure k.closure → IsSameLoop start path place other other_path other_place
    same_loop other other_path other_place k v = record {
      starts =
          let same : in_order h.closure.left ≡ in_order k.closure.left =
          one_in_order v.to v.back h.closure.left k.closure.left v.left_to v.left_back in
          ap in_order h.loop.start_is ∙ (same ∙ ap in_order (sym k.loop.start_is));
      paths = h.loop.path_is ∙ (v.path ∙ sym k.loop.path_is);
      places = variant_place rules h.closure k.closure v place other_place h.loop.loops k.loop.loops;
    }

    -- no list of as many attempts is without a loop
    not_without : (m : ℕ) (ds : List Closure) → IsClosureList rules m ds → h.attempts ≤ m → LoopNone rules ds → ⊥
    not_without m ds k le none =
        let b = begins_with rules h.attempts m (h.before ++ h.closure ∷ h.after) ds h.listed k le in
        loop_among h.before h.after h.closure b.front b.variants place h.loop.loops (λ c i. none c (subst (In c) (sym b.split) (in_left b.rest i)))

    found_there : LoopNotThere rules budget → ⊥
    found_there k =
        let le : h.attempts ≤ k.attempts =
        no_further rules k.attempts h.attempts k.closures (h.before ++ h.closure ∷ h.after) k.listed h.listed k.ends in
        not_without k.attempts k.closures k.listed le k.none

    found_before : LoopSpent rules budget → ⊥
    found_before k = not_without budget k.closures k.listed h.in_budget k.none

  variants_found : (budget : ℕ) (start other : Tree) (path other_path : List PlacedRule) (place other_place : List ℕ)
      (h : FindsLoop rules budget start path place)
      (k : FindsLoop rules budget other other_path other_place) → h.attempts ≤ k.attempts → AreVariants h.closure k.closure
  variants_found budget start other path other_path place other_place h k le =
      let b = begins_with rules h.attempts k.attempts (h.before ++ h.closure ∷ h.after) (k.before ++ k.closure ∷ k.after) h.listed k.listed le in
      first_variants h.before h.after h.closure k.before k.after k.closure b.front b.rest b.variants b.split h.none_before k.none_before
      place other_place h.loop.loops k.loop.loops

  not_ended_and_spent : (budget : ℕ) → LoopNotThere rules budget → LoopSpent rules budget → ⊥
  not_ended_and_spent budget h k =
      let few = h.few in
      let all = no_further rules h.attempts budget h.closures k.closures h.listed k.listed h.ends in
      omega (arith, few, all)

pub loops_once : LoopsAreOne
loops_once system budget start other path other_path place other_place valid h k = elim (dec_le h.attempts k.attempts) [
  | yes le ↦ same_loop system.rules budget start path place h other other_path other_place k
      (variants_found system.rules budget start other path other_path place other_place h k le)
  | no more ↦ same_loop system.rules budget start path place h other other_path other_place k
      (variant_back k.closure h.closure (variants_found system.rules budget other start other_path path other_place place k h (omega (arith, more))))
]

pub answers_exclude : LoopAnswersExclude
answers_exclude system budget start path place valid = record {
  not_there = λ h k. found_there system.rules budget start path place h k;
  spent = λ h k. found_before system.rules budget start path place h k;
  neither = λ h k. not_ended_and_spent system.rules budget h k;
}
