-- Caps that clash are those that no term fits both.
use Rattle.std.specs.Prelude.{◌≡◌, ◌↔◌, ℕ, Bool, true, false, not, ◌==◌, IsTrue}
use Rattle.std.proofs.Common.{refl, sym, ◌∙◌, inl, inr, arith, subst}
use Rattle.std.proofs.lemmas.Bool.Decides.{nat_tests}
use Rattle.std.proofs.lemmas.Bool.{or_cases, or_parts}
use Rattle.trs_defs.specs.Tree.{Tree, Trees, var, app, nil, cons}
use Rattle.trs_caps.specs.HoledTree.{HoledTree, HoledTrees, hole, own, symbol, none, more, Fits, EachFits, fits_hole, fits_own, fits_symbol, fits_none, fits_more}
use Rattle.trs_caps.specs.Clash.{clash, some_clash, AreDisjoint}

differ : (f : ℕ) → IsTrue (not (f == f)) → ⊥
differ f h = grind (arith, nat_tests)

same_number : (f g : ℕ) → not (f == g) ≡ false → f ≡ g
same_number f g h = grind (arith, nat_tests)

mutual
  pub clash_disjoint : (c d : HoledTree) (t : Tree) → IsTrue (clash c d) → Fits c t → Fits d t → ⊥
  clash_disjoint hole d t h p q = absurd cc
  clash_disjoint (own v) hole t h p q = absurd cc
  clash_disjoint (own v) (own w) (var x) h fits_own fits_own = differ v h
  clash_disjoint (own v) (own w) (app f ts) h p q = elim p [ ]
  clash_disjoint (own v) (symbol g ds) (var x) h p q = elim q [ ]
  clash_disjoint (own v) (symbol g ds) (app f ts) h p q = elim p [ ]
  clash_disjoint (symbol f cs) hole t h p q = absurd cc
  clash_disjoint (symbol f cs) (own w) (var x) h p q = elim p [ ]
  clash_disjoint (symbol f cs) (own w) (app g ts) h p q = elim q [ ]
  clash_disjoint (symbol f cs) (symbol g ds) (var x) h p q = elim p [ ]
  clash_disjoint (symbol f cs) (symbol g ds) (app k ts) h (fits_symbol p) (fits_symbol q) =
      elim (or_cases (not (f == f)) (some_clash cs ds) h) [ inl e ↦ differ f e | inr e ↦ some_clash_disjoint cs ds ts e p q ]

  some_clash_disjoint : (cs ds : HoledTrees) (ts : Trees) → IsTrue (some_clash cs ds) → EachFits cs ts → EachFits ds ts → ⊥
  some_clash_disjoint none none ts h p q = absurd cc
  some_clash_disjoint none (more d ds) nil h p q = elim q [ ]
  some_clash_disjoint none (more d ds) (cons t ts) h p q = elim p [ ]
  some_clash_disjoint (more c cs) none nil h p q = elim p [ ]
  some_clash_disjoint (more c cs) none (cons t ts) h p q = elim q [ ]
  some_clash_disjoint (more c cs) (more d ds) nil h p q = elim p [ ]
  some_clash_disjoint (more c cs) (more d ds) (cons t ts) h (fits_more p ps) (fits_more q qs) =
      elim (or_cases (clash c d) (some_clash cs ds) h) [ inl e ↦ clash_disjoint c d t e p q | inr e ↦ some_clash_disjoint cs ds ts e ps qs ]

-- some term fits the cap
abbrev mutual
  pub filled : HoledTree → Tree
  filled hole = var 0
  filled (own v) = var v
  filled (symbol f cs) = app f (all_filled cs)

  all_filled : HoledTrees → Trees
  all_filled none = nil
  all_filled (more c cs) = cons (filled c) (all_filled cs)

mutual
  pub filled_fits : (c : HoledTree) → Fits c (filled c)
  filled_fits hole = fits_hole
  filled_fits (own v) = fits_own
  filled_fits (symbol f cs) = fits_symbol (all_filled_fit cs)

  all_filled_fit : (cs : HoledTrees) → EachFits cs (all_filled cs)
  all_filled_fit none = fits_none
  all_filled_fit (more c cs) = fits_more (filled_fits c) (all_filled_fit cs)

-- two caps in one: a hole only where both have one
abbrev mutual
  pub merged : HoledTree → HoledTree → HoledTree
  merged hole d = d
  merged (own v) d = own v
  merged (symbol f cs) hole = symbol f cs
  merged (symbol f cs) (own w) = symbol f cs
  merged (symbol f cs) (symbol g ds) = symbol f (all_merged cs ds)

  all_merged : HoledTrees → HoledTrees → HoledTrees
  all_merged none ds = none
  all_merged (more c cs) none = more c cs
  all_merged (more c cs) (more d ds) = more (merged c d) (all_merged cs ds)

mutual
  pub merged_first : (c d : HoledTree) (t : Tree) → clash c d ≡ false → Fits (merged c d) t → Fits c t
  merged_first hole d t e p = fits_hole
  merged_first (own v) d t e p = p
  merged_first (symbol f cs) hole t e p = p
  merged_first (symbol f cs) (own w) t e p = p
  merged_first (symbol f cs) (symbol g ds) (var x) e p = elim p [ ]
  merged_first (symbol f cs) (symbol g ds) (app k ts) e (fits_symbol p) =
      fits_symbol (all_merged_first cs ds ts (or_parts (not (f == g)) (some_clash cs ds) e).1 p)

  all_merged_first : (cs ds : HoledTrees) (ts : Trees) → some_clash cs ds ≡ false → EachFits (all_merged cs ds) ts → EachFits cs ts
  all_merged_first none ds ts e p = p
  all_merged_first (more c cs) none ts e p = p
  all_merged_first (more c cs) (more d ds) nil e p = elim p [ ]
  all_merged_first (more c cs) (more d ds) (cons t ts) e (fits_more p ps) =
      let h = or_parts (clash c d) (some_clash cs ds) e in
      fits_more (merged_first c d t h.0 p) (all_merged_first cs ds ts h.1 ps)

mutual
  pub merged_second : (c d : HoledTree) (t : Tree) → clash c d ≡ false → Fits (merged c d) t → Fits d t
  merged_second hole d t e p = p
  merged_second (own v) hole t e p = fits_hole
  merged_second (own v) (own w) t e p = let same : v ≡ w = same_number v w e in subst (λ z. Fits (own z) t) same p
  merged_second (own v) (symbol g ds) t e p = absurd cc
  merged_second (symbol f cs) hole t e p = fits_hole
  merged_second (symbol f cs) (own w) t e p = absurd cc
  merged_second (symbol f cs) (symbol g ds) (var x) e p = elim p [ ]
  merged_second (symbol f cs) (symbol g ds) (app k ts) e (fits_symbol p) =
      let h = or_parts (not (f == g)) (some_clash cs ds) e in
      subst (λ z. Fits (symbol z ds) (app f ts)) (same_number f g h.0) (fits_symbol (all_merged_second cs ds ts h.1 p))

  all_merged_second : (cs ds : HoledTrees) (ts : Trees) → some_clash cs ds ≡ false → EachFits (all_merged cs ds) ts → EachFits ds ts
  all_merged_second none none ts e p = p
  all_merged_second none (more d ds) ts e p = absurd cc
  all_merged_second (more c cs) none ts e p = absurd cc
  all_merged_second (more c cs) (more d ds) nil e p = elim p [ ]
  all_merged_second (more c cs) (more d ds) (cons t ts) e (fits_more p ps) =
      let h = or_parts (clash c d) (some_clash cs ds) e in
      fits_more (merged_second c d t h.0 p) (all_merged_second cs ds ts h.1 ps)

-- what fits both fits the two in one
mutual
  pub merged_both : (c d : HoledTree) (t : Tree) → Fits c t → Fits d t → Fits (merged c d) t
  merged_both hole d t p q = q
  merged_both (own v) d t p q = p
  merged_both (symbol f cs) hole t p q = p
  merged_both (symbol f cs) (own w) t p q = p
  merged_both (symbol f cs) (symbol g ds) (var x) p q = elim p [ ]
  merged_both (symbol f cs) (symbol g ds) (app k ts) (fits_symbol p) (fits_symbol q) = fits_symbol (all_merged_both cs ds ts p q)

  all_merged_both : (cs ds : HoledTrees) (ts : Trees) → EachFits cs ts → EachFits ds ts → EachFits (all_merged cs ds) ts
  all_merged_both none ds ts p q = p
  all_merged_both (more c cs) none ts p q = p
  all_merged_both (more c cs) (more d ds) nil p q = elim p [ ]
  all_merged_both (more c cs) (more d ds) (cons t ts) (fits_more p ps) (fits_more q qs) = fits_more (merged_both c d t p q) (all_merged_both cs ds ts ps qs)

false_of : (b : Bool) → (IsTrue b → ⊥) → b ≡ false
false_of true h = absurd (h refl)
false_of false h = refl

pub disjoint_clash : (c d : HoledTree) (b : Bool) → clash c d ≡ b → AreDisjoint c d → IsTrue b
disjoint_clash c d true e h = refl
disjoint_clash c d false e h = absurd (h (filled (merged c d)) (merged_first c d _ e (filled_fits (merged c d))) (merged_second c d _ e (filled_fits (merged c d))))

pub disjoint_where_clash : (c d : HoledTree) (b : Bool) → b ≡ clash c d → IsTrue b ↔ AreDisjoint c d
disjoint_where_clash c d b e = (λ h t p q. clash_disjoint c d t (sym e ∙ h) p q, λ h. disjoint_clash c d b (sym e) h)

-- a cap does not clash with itself
pub clash_itself : (c : HoledTree) → clash c c ≡ false
clash_itself c = false_of (clash c c) (λ h. clash_disjoint c c (filled c) h (filled_fits c) (filled_fits c))

pub clash_where_disjoint : (c d : HoledTree) (b : Bool) → IsTrue b ↔ AreDisjoint c d → b ≡ clash c d
clash_where_disjoint c d b h = go (clash c d) refl
  where
    go : (x : Bool) → clash c d ≡ x → b ≡ clash c d
    go true e = h.1 (λ t. clash_disjoint c d t e) ∙ sym e
    go false e = false_of b (λ t. let wrong : IsTrue false = disjoint_clash c d false e (h.0 t) in absurd cc) ∙ sym e
