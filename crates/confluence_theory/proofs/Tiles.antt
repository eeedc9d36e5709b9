-- Tiles: what closes a step of rank n against a run of lower ranks.
use Rattle.trs_defs.specs.Run.{Run, Stay, Go, AtMostOne}
use Rattle.confluence_theory.specs.Ranks.{Below}
use Rattle.confluence_theory.proofs.Joins.{RunsJoin}
use Rattle.std.proofs.Common.{ℕ, zero, suc, ◌<◌, ◌≤◌, arith}
use Rattle.trs_defs.proofs.Runs.{then, each}

-- a run of steps of ranks below n
abbrev pub Low : {T : Type 0} → (ℕ → T → T → Type 0) → ℕ → T → T → Type 0
Low step n s t = Run (Below step n) s t

-- from t: steps below j, at most one step of rank n, steps below n; from u: steps below n; to one term
pub record Tile {T : Type 0} (step : ℕ → T → T → Type 0) (j n : ℕ) (t u : T) : Type 0 where
  pub before : T
  pub after : T
  pub end : T
  pub lower : Low step j t before
  pub cross : AtMostOne (step n) before after
  pub rest : Low step n after end
  pub other : Low step n u end

-- the steps below j move across the tile's left end
abbrev pub IsStrip : {T : Type 0} → (ℕ → T → T → Type 0) → ℕ → ℕ → Type 0
IsStrip {T} step j n = (s t u : T) → Tile step j n s u → Low step (suc j) s t → Tile step j n t u

abbrev pub IsPush : {T : Type 0} → (ℕ → T → T → Type 0) → ℕ → ℕ → Type 0
IsPush {T} step j n = (s t u : T) → Tile step j n s u → Low step j s t → Tile step j n t u

-- steps below n are confluent, and every strip below n is there
pub record IsGood {T : Type 0} (step : ℕ → T → T → Type 0) (n : ℕ) : Type 0 where
  pub confluent : RunsJoin (Below step n)
  pub strips : (j : ℕ) → j < n → IsStrip step j n

pub raise : {T : Type 0} (step : ℕ → T → T → Type 0) (j n : ℕ) → j ≤ n → {s t : T} → Low step j s t → Low step n s t
raise step j n h p = each (λ s t (a, l, r). (a, omega arith, r)) p

pub none_below_zero : {T : Type 0} (step : ℕ → T → T → Type 0) (P : T → Type 0) {s t : T} → Low step zero s t → P s → P t
none_below_zero step P Stay x = x
none_below_zero step P (Go (a, l, r) p) x = absurd (omega arith)

pub widen : {T : Type 0} (step : ℕ → T → T → Type 0) (i j n : ℕ) → i ≤ j → {t u : T} → Tile step i n t u → Tile step j n t u
widen step i j n h d =
    record { before = d.before; after = d.after; end = d.end; lower = raise step i j h d.lower; cross = d.cross; rest = d.rest; other = d.other }

pub prepend : {T : Type 0} (step : ℕ → T → T → Type 0) (j n : ℕ) {s t u : T} → Low step j s t → Tile step j n t u → Tile step j n s u
prepend step j n p d =
    record { before = d.before; after = d.after; end = d.end; lower = then p d.lower; cross = d.cross; rest = d.rest; other = d.other }

-- a tile from at most one step of rank n
pub flat_tile : {T : Type 0} (step : ℕ → T → T → Type 0) (j n : ℕ) {s t : T} → AtMostOne (step n) s t → Tile step j n s t
flat_tile step j n {s} {t} o =
    record { before = s; after = t; end = t; lower = Stay; cross = o; rest = Stay; other = Stay }

-- the right end of a tile moves down
pub shift : {T : Type 0} (step : ℕ → T → T → Type 0) (j n : ℕ) → RunsJoin (Below step n) → {t u v : T} → Tile step j n t u → Low step n u v → Tile step j n t v
shift step j n c {t} {u} {v} d p =
    let (w, ew, vw) = c u d.end v d.other p in
    record { before = d.before; after = d.after; end = w; lower = d.lower; cross = d.cross; rest = then d.rest ew; other = vw }

-- and up
pub unshift : {T : Type 0} (step : ℕ → T → T → Type 0) (j n : ℕ) {t u v : T} → Low step n v u → Tile step j n t u → Tile step j n t v
unshift step j n p d =
    record { before = d.before; after = d.after; end = d.end; lower = d.lower; cross = d.cross; rest = d.rest; other = then p d.other }

-- a push from a strip one rank below
pub push : {T : Type 0} (step : ℕ → T → T → Type 0) (j n : ℕ) → ((i : ℕ) → i < j → IsStrip step i n) → RunsJoin (Below step j) → IsPush step j n
push {T} step zero n strips c s t u d p = let P : T → Type 0 = λ x. Tile step zero n x u in none_below_zero step P p d
push {T} step (suc j) n strips c s t u d p =
    let (w, bw, tw) = c s d.before t d.lower p in
    let e : Tile step j n d.before u = record { before = d.before; after = d.after; end = d.end; lower = Stay; cross = d.cross; rest = d.rest; other = d.other } in
    prepend step (suc j) n tw (widen step j (suc j) n (omega arith) (strips j (omega arith) d.before w u e bw))

-- at most one step of rank j crosses a tile
module _ {T : Type 0} (step : ℕ → T → T → Type 0) (j n : ℕ) (G : T → T → Type 0)
    (strips : (k : ℕ) → k < j → IsStrip step k j)
    (pushes : (k : ℕ) → k ≤ j → IsPush step k n)
    (down : (x x' y : T) → G x y → Low step j x x' → G x' y)
    (up : (x x' y : T) → Low step j x x' → G x' y → G x y)
    (base : (x x' y : T) → AtMostOne (step j) x x' → Tile step zero n x y → G x' y)
  where
    pub crossing : (k : ℕ) → k ≤ j → (x x' y : T) → AtMostOne (step j) x x' → Tile step k n x y → G x' y
    crossing zero h x x' y o d = base x x' y o d
    crossing (suc k) h x x' y o d =
        let a : Tile step k j d.before x' = strips k h x d.before x' (flat_tile step k j o) d.lower in
        let e : Tile step k n d.before y = record { before = d.before; after = d.after; end = d.end; lower = Stay; cross = d.cross; rest = d.rest; other = d.other } in
        let f : Tile step k n a.before y = pushes k (omega arith) d.before a.before y e a.lower in
        let g : G a.after y = crossing k (omega arith) a.before a.after y a.cross f in
        up x' a.end y a.other (down a.after a.end y g a.rest)
