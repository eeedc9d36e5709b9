-- Each term has a cap. Whether a cap meets a left side is decided by what the terms of the left side's variables have to fit.
use Rattle.std.proofs.Common.{◌≡◌, ◌⊎◌, inl, inr, ℕ, Bool, true, false, List, [], ◌∷◌, refl, sym, subst}
use native.Mathlib.Decide.{ℕ_discrete}
use Rattle.trs_defs.specs.Member.{in_first, in_rest}
use Rattle.trs_defs.specs.Tree.{Tree, Trees, var, app, nil, cons}
use Rattle.trs_defs.specs.Substitution.{apply, apply_all}
use Rattle.trs_defs.specs.System.{RewriteRule}
use Rattle.trs_defs.proofs.Members.{in_or}
use Rattle.trs_caps.specs.Clash.{clash}
use Rattle.trs_caps.specs.HoledTree.{HoledTree, HoledTrees, hole, own, symbol, none, more, Fits, EachFits, fits_hole, fits_symbol, fits_none, fits_more}
use Rattle.trs_caps.specs.HoledCap.{MeetsLeft, MeetsSome, IsHoledCap, AreHoledCaps, fixed_variable, free_variable, symbol_kept, symbol_opened, no_holed, one_holed}
use Rattle.trs_caps.proofs.AddedParts.{first_fits, args_fit}
use Rattle.trs_caps.proofs.Compatible.{clash_disjoint, filled, filled_fits, merged, merged_first, merged_second, merged_both}
use Rattle.trs_caps.proofs.Fitting.{fits_root}

-- the terms of the variables fit what they need to
abbrev FitNeeds : (ℕ → HoledTree) → (ℕ → Tree) → Type 0
FitNeeds needs τ = (v : ℕ) → Fits (needs v) (τ v)

-- with such terms the instance of l fits c exactly where they fit what is needed next
record Narrows (c : HoledTree) (l : Tree) (needs : ℕ → HoledTree) : Type 0 where
  pub next : ℕ → HoledTree
  pub sound : (τ : ℕ → Tree) → FitNeeds next τ → FitNeeds needs τ × Fits c (apply τ l)
  pub complete : (τ : ℕ → Tree) → FitNeeds needs τ → Fits c (apply τ l) → FitNeeds next τ

record AllNarrow (cs : HoledTrees) (ts : Trees) (needs : ℕ → HoledTree) : Type 0 where
  pub next : ℕ → HoledTree
  pub sound : (τ : ℕ → Tree) → FitNeeds next τ → FitNeeds needs τ × EachFits cs (apply_all τ ts)
  pub complete : (τ : ℕ → Tree) → FitNeeds needs τ → EachFits cs (apply_all τ ts) → FitNeeds next τ

-- or with no such terms
abbrev Decided : HoledTree → Tree → (ℕ → HoledTree) → Type 0
Decided c l needs = Narrows c l needs ⊎ ((τ : ℕ → Tree) → FitNeeds needs τ → Fits c (apply τ l) → ⊥)

abbrev AllDecided : HoledTrees → Trees → (ℕ → HoledTree) → Type 0
AllDecided cs ts needs = AllNarrow cs ts needs ⊎ ((τ : ℕ → Tree) → FitNeeds needs τ → EachFits cs (apply_all τ ts) → ⊥)

-- one variable needs something else
abbrev with_need : (ℕ → HoledTree) → ℕ → HoledTree → ℕ → HoledTree
with_need needs v d w = elim (ℕ_discrete w v) [ yes same ↦ d | no other ↦ needs w ]

module _ (needs : ℕ → HoledTree) (v : ℕ) where
  need_there : (d : HoledTree) → with_need needs v d v ≡ d
  need_there d = elim (ℕ_discrete v v) as (λ k. elim k [ yes same ↦ d | no other ↦ needs v ] ≡ d) [ yes same ↦ refl | no other ↦ absurd (other refl) ]

  need_elsewhere : (d : HoledTree) (w : ℕ) → (w ≡ v → ⊥) → with_need needs v d w ≡ needs w
  need_elsewhere d w different = elim (ℕ_discrete w v) as (λ k. elim k [ yes same ↦ d | no other ↦ needs w ] ≡ needs w) [ yes same ↦ absurd (different same) | no other ↦ refl ]

  -- the variable needs to fit one cap more
  one_need_more : (c : HoledTree) → clash (needs v) c ≡ false → Narrows c (var v) needs
  one_need_more c e = record {
    next = with_need needs v (merged (needs v) c);
    sound = λ τ h.
        let both : Fits (merged (needs v) c) (τ v) = subst (λ z. Fits z (τ v)) (need_there (merged (needs v) c)) (h v) in (
          λ w. elim (ℕ_discrete w v) [
            | yes same ↦ subst (λ z. Fits (needs z) (τ z)) (sym same) (merged_first (needs v) c (τ v) e both)
            | no other ↦ subst (λ z. Fits z (τ w)) (need_elsewhere (merged (needs v) c) w other) (h w)
          ],
          merged_second (needs v) c (τ v) e both,
        );
    complete = λ τ h p w. elim (ℕ_discrete w v) [
      | yes same ↦
          let both : Fits (merged (needs v) c) (τ v) = merged_both (needs v) c (τ v) (h v) p in
          let there : Fits (with_need needs v (merged (needs v) c) v) (τ v) = subst (λ z. Fits z (τ v)) (sym (need_there (merged (needs v) c))) both in
          subst (λ z. Fits (with_need needs v (merged (needs v) c) z) (τ z)) (sym same) there
      | no other ↦ subst (λ z. Fits z (τ w)) (sym (need_elsewhere (merged (needs v) c) w other)) (h w)
    ];
  }

  decide_variable : (c : HoledTree) → Decided c (var v) needs
  decide_variable c = go (clash (needs v) c) refl
    where
      go : (b : Bool) → clash (needs v) c ≡ b → Decided c (var v) needs
      go true e = inr (λ τ h p. clash_disjoint (needs v) c (τ v) e (h v) p)
      go false e = inl (one_need_more c e)

module _ (c : HoledTree) (cs : HoledTrees) (t : Tree) (ts : Trees) (needs : ℕ → HoledTree) where
  with_rest : (first : Narrows c t needs) → AllDecided cs ts first.next → AllDecided (more c cs) (cons t ts) needs
  with_rest first (inl rest) = inl (record {
    next = rest.next;
    sound = λ τ h. let k = rest.sound τ h in let j = first.sound τ k.0 in (j.0, fits_more j.1 k.1);
    complete = λ τ h p. let parts = first_fits c cs (apply τ t) (apply_all τ ts) p in rest.complete τ (first.complete τ h parts.0) parts.1;
  })
  with_rest first (inr never) = inr (λ τ h p. let parts = first_fits c cs (apply τ t) (apply_all τ ts) p in never τ (first.complete τ h parts.0) parts.1)

  then_rest : Decided c t needs → ((next : ℕ → HoledTree) → AllDecided cs ts next) → AllDecided (more c cs) (cons t ts) needs
  then_rest (inl first) rest = with_rest first (rest first.next)
  then_rest (inr never) rest = inr (λ τ h p. never τ h (first_fits c cs (apply τ t) (apply_all τ ts) p).0)

module _ (f g : ℕ) (cs : HoledTrees) (ts : Trees) (needs : ℕ → HoledTree) where
  below_root : Dec (f ≡ g) → AllDecided cs ts needs → Decided (symbol f cs) (app g ts) needs
  below_root (no other) all = inr (λ τ h p. other (fits_root f g cs (apply_all τ ts) p))
  below_root (yes same) (inr never) = inr (λ τ h p. never τ h (args_fit f g cs (apply_all τ ts) p))
  below_root (yes same) (inl all) = inl (record {
    next = all.next;
    sound = λ τ h. let k = all.sound τ h in (k.0, subst (λ z. Fits (symbol f cs) (app z (apply_all τ ts))) same (fits_symbol k.1));
    complete = λ τ h p. all.complete τ h (args_fit f g cs (apply_all τ ts) p);
  })

mutual
  decide : (l : Tree) (c : HoledTree) (needs : ℕ → HoledTree) → Decided c l needs
  decide (var v) c needs = decide_variable needs v c
  decide (app g ts) hole needs = inl (record { next = needs; sound = λ τ h. (h, fits_hole); complete = λ τ h p. h })
  decide (app g ts) (own v) needs = inr (λ τ h p. elim p [ ])
  decide (app g ts) (symbol f cs) needs = below_root f g cs ts needs (ℕ_discrete f g) (decide_all ts cs needs)

  decide_all : (ts : Trees) (cs : HoledTrees) (needs : ℕ → HoledTree) → AllDecided cs ts needs
  decide_all nil none needs = inl (record { next = needs; sound = λ τ h. (h, fits_none); complete = λ τ h p. h })
  decide_all nil (more c cs) needs = inr (λ τ h p. elim p [ ])
  decide_all (cons t ts) none needs = inr (λ τ h p. elim p [ ])
  decide_all (cons t ts) (more c cs) needs = then_rest c cs t ts needs (decide t c needs) (λ next. decide_all ts cs next)

meets_or_not : (c : HoledTree) (l : Tree) → MeetsLeft c l ⊎ (MeetsLeft c l → ⊥)
meets_or_not c l = elim (decide l c (λ v. hole)) [
  | inl all ↦ inl (λ v. filled (all.next v), (all.sound (λ v. filled (all.next v)) (λ v. filled_fits (all.next v))).1)
  | inr never ↦ inr (λ (τ, p). never τ (λ v. fits_hole) p)
]

first_or_later : (c : HoledTree) (rule : RewriteRule) (rules : List RewriteRule) → MeetsLeft c rule.left ⊎ (MeetsLeft c rule.left → ⊥) → MeetsSome c rules true ⊎ MeetsSome c rules false
    → MeetsSome c (rule ∷ rules) true ⊎ MeetsSome c (rule ∷ rules) false
first_or_later c rule rules (inl meets) later = inl (rule.left, rule.right, in_first, meets)
first_or_later c rule rules (inr unmet) (inl (l, r, there, meets)) = inl (l, r, in_rest there, meets)
first_or_later c rule rules (inr unmet) (inr never) = inr (λ l r there meets. elim (in_or there) [
  | inl same ↦ unmet (subst (λ (z : RewriteRule). MeetsLeft c z.left) same meets)
  | inr later ↦ never l r later meets
])

some_or_none : (c : HoledTree) (rules : List RewriteRule) → MeetsSome c rules true ⊎ MeetsSome c rules false
some_or_none c [] = inr (λ l r there meets. elim there [ ])
some_or_none c (rule ∷ rules) = first_or_later c rule rules (meets_or_not c rule.left) (some_or_none c rules)

module _ (rules : List RewriteRule) where
  variable_cap : (fixed : Bool) (v : ℕ) → (c : HoledTree) × IsHoledCap rules fixed (var v) c
  variable_cap true v = (own v, fixed_variable refl)
  variable_cap false v = (hole, free_variable refl)

  symbol_cap : (fixed : Bool) (f : ℕ) (ts : Trees) (cs : HoledTrees) → AreHoledCaps rules fixed ts cs → MeetsSome (symbol f cs) rules true ⊎ MeetsSome (symbol f cs) rules false
      → (c : HoledTree) × IsHoledCap rules fixed (app f ts) c
  symbol_cap fixed f ts cs each (inl (l, r, rule, meets)) = (hole, symbol_opened each rule meets)
  symbol_cap fixed f ts cs each (inr never) = (symbol f cs, symbol_kept each never)

  module _ (fixed : Bool) where
    mutual
      pub cap_exists : (t : Tree) → (c : HoledTree) × IsHoledCap rules fixed t c
      cap_exists (var v) = variable_cap fixed v
      cap_exists (app f ts) = let (cs, each) = caps_exist ts in symbol_cap fixed f ts cs each (some_or_none (symbol f cs) rules)

      caps_exist : (ts : Trees) → (cs : HoledTrees) × AreHoledCaps rules fixed ts cs
      caps_exist nil = (none, no_holed)
      caps_exist (cons t ts) = let (c, cap) = cap_exists t in let (cs, caps) = caps_exist ts in (more c cs, one_holed cap caps)
