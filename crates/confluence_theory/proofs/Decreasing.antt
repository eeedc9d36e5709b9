-- Locally decreasing ranks give confluence.
use Rattle.trs_defs.specs.Run.{Run, Stay, Go, AtMostOne, Same, Once}
use Rattle.confluence_theory.specs.Confluence.{HasDiamond}
use Rattle.confluence_theory.specs.Ranks.{AnyRank, Below, BelowOne, IsLocallyDecreasing}
use Rattle.confluence_theory.proofs.Joins.{RunsJoin}
use Rattle.std.proofs.Common.{ℕ, zero, suc, ◌<◌, ◌≤◌, ◌⊎◌, inl, inr, ◌≡◌, subst, sym, max, arith}
use native.Mathlib.Decide.{dec_lt}
use Rattle.trs_defs.proofs.Runs.{one, then, each}
use Rattle.confluence_theory.proofs.BetweenRuns.{between_confluent}
use Rattle.confluence_theory.proofs.Tiles.{Low, Tile, IsStrip, IsPush, IsGood, raise, widen, prepend, flat_tile, shift, unshift, push, crossing}

-- the order of two numbers, by cases
pub below_or_equal : (a n : ℕ) → a < suc n → (a < n) ⊎ (a ≡ n)
below_or_equal a n h = elim (dec_lt a n) [ yes l ↦ inl l | no l ↦ inr (omega arith) ]

-- from t by a tile's left side
pub record Half {T : Type 0} (step : ℕ → T → T → Type 0) (n : ℕ) (t v : T) : Type 0 where
  pub before : T
  pub after : T
  pub lower : Low step n t before
  pub cross : AtMostOne (step n) before after
  pub rest : Low step n after v

-- two halves to one term
abbrev pub Halves : {T : Type 0} → (ℕ → T → T → Type 0) → ℕ → T → T → Type 0
Halves {T} step n t u = (v : T) × Half step n t v × Half step n u v

pub half_then : {T : Type 0} (step : ℕ → T → T → Type 0) (n : ℕ) {s t u : T} → Half step n s t → Low step n t u → Half step n s u
half_then step n d p = record { before = d.before; after = d.after; lower = d.lower; cross = d.cross; rest = then d.rest p }

pub then_half : {T : Type 0} (step : ℕ → T → T → Type 0) (n : ℕ) {s t u : T} → Low step n s t → Half step n t u → Half step n s u
then_half step n p d = record { before = d.before; after = d.after; lower = then p d.lower; cross = d.cross; rest = d.rest }

pub half_of : {T : Type 0} (step : ℕ → T → T → Type 0) (n : ℕ) {s t : T} → AtMostOne (step n) s t → Half step n s t
half_of step n {s} {t} o = record { before = s; after = t; lower = Stay; cross = o; rest = Stay }

-- a tile whose right end has come to the left's
pub half_tile : {T : Type 0} (step : ℕ → T → T → Type 0) (n : ℕ) {t v : T} → Half step n t v → Tile step n n t v
half_tile step n {t} {v} d = record { before = d.before; after = d.after; end = v; lower = d.lower; cross = d.cross; rest = d.rest; other = Stay }

module _ {T : Type 0} (step : ℕ → T → T → Type 0) (dec : IsLocallyDecreasing step) where
  lower_side : (a b n : ℕ) → a ≤ n → b ≤ n → {s t : T} → Run (BelowOne step a b) s t → Low step n s t
  lower_side a b n ha hb p = each (λ s t (c, l, r). (c, omega arith, r)) p

  low_at_most : (a n : ℕ) → a < n → {s t : T} → AtMostOne (step a) s t → Low step n s t
  low_at_most a n h Same = Stay
  low_at_most a n h (Once r) = one (a, h, r)

  -- a peak of different ranks
  peak_below : (a b : ℕ) → a < b → (s t u : T) → step a s t → step b s u → Tile step a b t u
  peak_below a b h s t u r q =
      let (v, (x, y, tx, xy, yv), (x', y', ux, xy', yv')) = dec a b s t u r q in
      record {
        before = x;
        after = y;
        end = v;
        lower = tx;
        cross = xy;
        rest = lower_side a b b (omega arith) (omega arith) yv;
        other = then ux (then (low_at_most a b h xy') (lower_side b a b (omega arith) (omega arith) yv'));
      }

  -- a peak of equal ranks
  peak_same : (a : ℕ) (s t u : T) → step a s t → step a s u → Halves step a t u
  peak_same a s t u r q =
      let (v, (x, y, tx, xy, yv), (x', y', ux, xy', yv')) = dec a a s t u r q in (
        v,
        record { before = x; after = y; lower = tx; cross = xy; rest = lower_side a a a (omega arith) (omega arith) yv },
        record { before = x'; after = y'; lower = ux; cross = xy'; rest = lower_side a a a (omega arith) (omega arith) yv' },
      )

  -- strips

  -- nothing below rank 0 lies before the step of rank n: the step of rank j meets it at once
  strip_meet : (j n : ℕ) → j < n → RunsJoin (Below step n) → (x x' z after end y : T) → step j x x' → Low step zero x z → AtMostOne (step n) z after → Low step n after end → Low step n y end → Tile step j n x' y
  strip_meet j n h c x x' z after end y r (Go (a, l, q) p) o rest other = absurd (omega arith)
  strip_meet j n h c x x' z after end y r Stay Same rest other =
      let (w, ew, xw) = c x end x' rest (one (j, h, r)) in
      record { before = x'; after = x'; end = w; lower = Stay; cross = Same; rest = xw; other = then other ew }
  strip_meet j n h c x x' z after end y r Stay (Once q) rest other =
      unshift step j n other (shift step j n c (peak_below j n h x x' after r q) rest)

  strip_base : (j n : ℕ) → j < n → RunsJoin (Below step n) → (x x' y : T) → AtMostOne (step j) x x' → Tile step zero n x y → Tile step j n x' y
  strip_base j n h c x x' y Same d = widen step zero j n (omega arith) d
  strip_base j n h c x x' y (Once r) d = strip_meet j n h c x x' d.before d.after d.end y r d.lower d.cross d.rest d.other

  -- the strip of rank j, from those below it
  strip_at : (n : ℕ) → ((m : ℕ) → m < n → IsGood step m) → RunsJoin (Below step n) → (j : ℕ) → j < n → ((i : ℕ) → i < j → IsStrip step i n) → IsStrip step j n
  strip_at n good c j h strips s t u d Stay = d
  strip_at n good c j h strips s t u d (Go {m = m} (a, l, r) p) =
      let pushes : (k : ℕ) → k ≤ j → IsPush step k n =
      λ k g. push step k n (λ i f. strips i (omega arith)) ((good k (omega arith)).confluent) in
      let e : Tile step j n m u =
      elim (below_or_equal a j l) [
        | inl f ↦ pushes j (omega arith) s m u d (one (a, f, r))
        | inr f ↦
            let P : ℕ → Type 0 = λ b. step b s m in
            crossing step j n (Tile step j n) (good j h).strips pushes
            (λ x x' y g q. pushes j (omega arith) x x' y g q)
            (λ x x' y q g. prepend step j n q g)
            (strip_base j n h c)
            j (omega arith) s m u (Once (subst P f r)) d
      ] in
      strip_at n good c j h strips m t u e p

  strips_below : (n : ℕ) → ((m : ℕ) → m < n → IsGood step m) → RunsJoin (Below step n) → (j : ℕ) → j ≤ n → (i : ℕ) → i < j → IsStrip step i n
  strips_below n good c zero h i l = absurd (omega arith)
  strips_below n good c (suc j) h i l =
      let before : (k : ℕ) → k < j → IsStrip step k n = strips_below n good c j (omega arith) in
      elim (below_or_equal i j l) [
        | inl f ↦ before i f
        | inr f ↦ let P : ℕ → Type 0 = λ k. IsStrip step k n in subst P (sym f) (strip_at n good c j (omega arith) before)
      ]

  -- confluence one rank up

  halves_down : (n : ℕ) → IsPush step n n → (x x' y : T) → Halves step n x y → Low step n x x' → Halves step n x' y
  halves_down n across x x' y (v, xv, yv) p =
      let d : Tile step n n x' v = across x x' v (half_tile step n xv) p in
      (d.end, record { before = d.before; after = d.after; lower = d.lower; cross = d.cross; rest = d.rest }, half_then step n yv d.other)

  halves_swap : (n : ℕ) (x y : T) → Halves step n x y → Halves step n y x
  halves_swap n x y (v, xv, yv) = (v, yv, xv)

  halves_up : (n : ℕ) (x x' y : T) → Low step n x x' → Halves step n x' y → Halves step n x y
  halves_up n x x' y p (v, xv, yv) = (v, then_half step n p xv, yv)

  -- a tile is two halves
  halves_of : (n : ℕ) (x y : T) → Tile step n n x y → Halves step n x y
  halves_of n x y d = (d.end, record { before = d.before; after = d.after; lower = d.lower; cross = d.cross; rest = d.rest }, half_then step n (half_of step n Same) d.other)

  halves_meet : (n : ℕ) → IsPush step n n → (x x' z after end y : T) → AtMostOne (step n) x x' → Low step zero x z → AtMostOne (step n) z after → Low step n after end → Low step n y end → Halves step n x' y
  halves_meet n across x x' z after end y o (Go (a, l, q) p) o' rest other = absurd (omega arith)
  halves_meet n across x x' z after end y Same Stay o' rest other =
      halves_of n x y (record { before = x; after = after; end = end; lower = Stay; cross = o'; rest = rest; other = other })
  halves_meet n across x x' z after end y (Once r) Stay Same rest other =
      halves_swap n y x' (halves_up n y end x' other (halves_of n end x' (across x end x' (flat_tile step n n (Once r)) rest)))
  halves_meet n across x x' z after end y (Once r) Stay (Once q) rest other =
      halves_swap n y x' (halves_up n y end x' other (halves_down n across after end x' (halves_swap n x' after (peak_same n x x' after r q)) rest))

  -- halves have the diamond property
  halves_diamond : (n : ℕ) → ((m : ℕ) → m ≤ n → IsGood step m) → HasDiamond (Half step n)
  halves_diamond n good s t u p q =
      let pushes : (k : ℕ) → k ≤ n → IsPush step k n =
      λ k g. push step k n (λ i f. (good n (omega arith)).strips i (omega arith)) ((good k g).confluent) in
      let across : IsPush step n n = pushes n (omega arith) in
      let d : Tile step n n p.before u = across s p.before u (half_tile step n q) p.lower in
      let f : Halves step n p.after u =
      crossing step n n (Halves step n) (good n (omega arith)).strips pushes
      (halves_down n across) (halves_up n) (λ x x' y o e. halves_meet n across x x' e.before e.after e.end y o e.lower e.cross e.rest e.other)
      n (omega arith) p.before p.after u p.cross d in
      halves_down n across p.after t u f p.rest

  confluent_up : (n : ℕ) → ((m : ℕ) → m ≤ n → IsGood step m) → RunsJoin (Below step (suc n))
  confluent_up n good =
      between_confluent (Below step (suc n)) (Half step n)
      (λ s t (a, l, r). half_up n a s t (below_or_equal a n l) r)
      (λ s t d. then (raise step n (suc n) (omega arith) d.lower) (then (low_at_most n (suc n) (omega arith) d.cross) (raise step n (suc n) (omega arith) d.rest)))
      (halves_diamond n good)
    where
      half_up : (n a : ℕ) (s t : T) → (a < n) ⊎ (a ≡ n) → step a s t → Half step n s t
      half_up n a s t (inl f) r = then_half step n (one (a, f, r)) (half_of step n Same)
      half_up n a s t (inr f) r = let P : ℕ → Type 0 = λ b. step b s t in half_of step n (Once (subst P f r))

  confluent_zero : RunsJoin (Below step zero)
  confluent_zero s t u Stay q = (u, q, Stay)
  confluent_zero s t u (Go (a, l, r) p) q = absurd (omega arith)

  good_at : (n : ℕ) → ((m : ℕ) → m < n → IsGood step m) → IsGood step n
  good_at zero good = record { confluent = confluent_zero; strips = λ j l. absurd (omega arith) }
  good_at (suc n) good =
      let c : RunsJoin (Below step (suc n)) = confluent_up n (λ m l. good m (omega arith)) in
      record { confluent = c; strips = strips_below (suc n) good c (suc n) (omega arith) }

  good_below : (n m : ℕ) → m < n → IsGood step m
  good_below zero m l = absurd (omega arith)
  good_below (suc n) m l =
      elim (below_or_equal m n l) [
        | inl f ↦ good_below n m f
        | inr f ↦ let P : ℕ → Type 0 = λ k. IsGood step k in subst P (sym f) (good_at n (good_below n))
      ]

  -- a run has a rank above all of its own
  pub has_rank : (s t : T) → Run (AnyRank step) s t → (n : ℕ) × Low step n s t
  has_rank s t Stay = (zero, Stay)
  has_rank s t (Go {m = m} (a, r) p) =
      let (n, q) = has_rank m t p in
      (max (suc a) n, Go (a, omega arith, r) (raise step n (max (suc a) n) (omega arith) q))

  pub decreasing_confluent : RunsJoin (AnyRank step)
  decreasing_confluent s t u p q =
      let (n, p') = has_rank s t p in
      let (m, q') = has_rank s u q in
      let k : ℕ = max n m in
      let (v, tv, uv) = (good_below (suc k) k (omega arith)).confluent s t u (raise step n k (omega arith) p') (raise step m k (omega arith) q') in
      (v, each (λ x y (a, l, r). (a, r)) tv, each (λ x y (a, l, r). (a, r)) uv)
