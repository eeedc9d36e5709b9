-- Where each coefficient and the constant are at least as great, the value is, at each assignment.
use Rattle.std.proofs.Common.{◌≡◌, ℕ, zero, suc, ◌+◌, ◌*◌, ◌≤◌, ◌<◌, refl, ap, arith, Bool, true, false, ◌==◌, if◌then◌else◌}
use native.Mathlib.Decide.{ℕ_discrete, dec_le}
use Rattle.trs_defs.specs.Tree.{Tree, var, app, Trees, nil, cons}
use Rattle.pair_theory.specs.Subterm.{Sub, itself, under, Subs, in_head, in_tail}
use Rattle.order_theory.specs.LinearInterpretation.{value, values, constant, constants, coefficient, coefficients, LinearWeak, LinearStrict, CoefficientWeak, CoefficientStrict}
use Rattle.pair_theory.proofs.Subterms.{below_root, not_in_nil}

abbrev pub sum_to : ℕ → (ℕ → ℕ) → ℕ
sum_to zero g = 0
sum_to (suc n) g = sum_to n g + g n

sum_zero : (n : ℕ) (a : ℕ → ℕ) → sum_to n (λ x. 0 * a x) ≡ 0
sum_zero zero a = refl
sum_zero (suc n) a = let h : sum_to n (λ x. 0 * a x) ≡ 0 = sum_zero n a in omega arith

mul_sum : (k p q r a : ℕ) → (k * p + q) * a ≡ k * (p * a) + q * a
mul_sum k p q r a = grind arith

mul_add : (k p q : ℕ) → k * (p + q) ≡ k * p + k * q
mul_add k p q = grind arith

sum_mix : (n k : ℕ) (g h a : ℕ → ℕ) → sum_to n (λ x. (k * g x + h x) * a x) ≡ k * sum_to n (λ x. g x * a x) + sum_to n (λ x. h x * a x)
sum_mix zero k g h a = grind arith
sum_mix (suc n) k g h a =
    let e : sum_to n (λ x. (k * g x + h x) * a x) ≡ k * sum_to n (λ x. g x * a x) + sum_to n (λ x. h x * a x) = sum_mix n k g h a in
    let e' : (k * g n + h n) * a n ≡ k * (g n * a n) + h n * a n = mul_sum k (g n) (h n) 0 (a n) in
    let e'' : k * (sum_to n (λ x. g x * a x) + g n * a n) ≡ k * sum_to n (λ x. g x * a x) + k * (g n * a n) = mul_add k (sum_to n (λ x. g x * a x)) (g n * a n) in
    omega arith

abbrev pub one_if : Bool → ℕ
one_if b = if b then 1 else 0

one_if_true : (b : Bool) → b ≡ true → one_if b ≡ 1
one_if_true b e = rw e refl

pub one_if_false : (b : Bool) → b ≡ false → one_if b ≡ 0
one_if_false b e = rw e refl

same_true : (x y : ℕ) → x ≡ y → (y == x) ≡ true
same_true x y e = grind arith

same_false : (x y : ℕ) → (x ≡ y → ⊥) → (y == x) ≡ false
same_false x y d = grind arith

one_at : (x y : ℕ) → x ≡ y → one_if (y == x) ≡ 1
one_at x y e = one_if_true (y == x) (same_true x y e)

none_at : (x y : ℕ) → (x ≡ y → ⊥) → one_if (y == x) ≡ 0
none_at x y d = one_if_false (y == x) (same_false x y d)

sum_none : (n y : ℕ) (a : ℕ → ℕ) → n ≤ y → sum_to n (λ x. one_if (y == x) * a x) ≡ 0
sum_none zero y a le = refl
sum_none (suc n) y a le =
    let h : sum_to n (λ x. one_if (y == x) * a x) ≡ 0 = sum_none n y a (omega arith) in
    let k : one_if (y == n) ≡ 0 = none_at n y (λ e. omega arith) in
    let m : one_if (y == n) * a n ≡ 0 = rw k (omega arith) in omega arith

sum_one : (n y : ℕ) (a : ℕ → ℕ) → y < n → sum_to n (λ x. one_if (y == x) * a x) ≡ a y
sum_one zero y a lt = absurd (omega arith)
sum_one (suc n) y a lt = go (ℕ_discrete n y) (sum_one n y a)
  where
    go : Dec (n ≡ y) → (y < n → sum_to n (λ x. one_if (y == x) * a x) ≡ a y) → sum_to n (λ x. one_if (y == x) * a x) + one_if (y == n) * a n ≡ a y
    go (yes e) rec =
        let h : sum_to n (λ x. one_if (y == x) * a x) ≡ 0 = sum_none n y a (omega arith) in
        let k : one_if (y == n) ≡ 1 = one_at n y e in
        let m : one_if (y == n) * a n ≡ a n = rw k (omega arith) in
        let z : a n ≡ a y = ap a e in omega arith
    go (no d) rec =
        let h : sum_to n (λ x. one_if (y == x) * a x) ≡ a y = rec (omega (arith, d)) in
        let k : one_if (y == n) ≡ 0 = none_at n y d in
        let m : one_if (y == n) * a n ≡ 0 = rw k (omega arith) in omega arith

share : (p q k r : ℕ) → p * (q + k * r) ≡ p * q + k * (p * r)
share p q k r = grind arith

mul_one_more : (p q : ℕ) → p * (q + 1) ≡ p * q + p
mul_one_more p q = grind arith

pub mul_le_right : (p q r : ℕ) → q ≤ r → p * q ≤ p * r
mul_le_right p q r h = grind arith

module _ (c : ℕ → ℕ → ℕ) (a : ℕ → ℕ) (n : ℕ) where
  mutual
    -- the value, as the polynomial's
    pub value_sum : (t : Tree) → ((x : ℕ) → Sub (var x) t → x < n) → value c a t ≡ constant c t + sum_to n (λ x. coefficient c x t * a x)
    value_sum (var y) k = let h : sum_to n (λ x. one_if (y == x) * a x) ≡ a y = sum_one n y a (k y itself) in omega arith
    value_sum (app f ts) k = let h : values c a f 1 ts ≡ constants c f 1 ts + sum_to n (λ x. coefficients c x f 1 ts * a x) = values_sum f 1 ts (λ x p. k x (under p)) in omega arith

    values_sum : (f i : ℕ) (ts : Trees) → ((x : ℕ) → Subs (var x) ts → x < n) → values c a f i ts ≡ constants c f i ts + sum_to n (λ x. coefficients c x f i ts * a x)
    values_sum f i nil k = let h : sum_to n (λ x. 0 * a x) ≡ 0 = sum_zero n a in omega arith
    values_sum f i (cons t ts) k =
        let h : value c a t ≡ constant c t + sum_to n (λ x. coefficient c x t * a x) = value_sum t (λ x p. k x (in_head p)) in
        let h' : values c a f (suc i) ts ≡ constants c f (suc i) ts + sum_to n (λ x. coefficients c x f (suc i) ts * a x) = values_sum f (suc i) ts (λ x p. k x (in_tail p)) in
        let e : sum_to n (λ x. (c f i * coefficient c x t + coefficients c x f (suc i) ts) * a x) ≡ c f i * sum_to n (λ x. coefficient c x t * a x) + sum_to n (λ x. coefficients c x f (suc i) ts * a x) =
        sum_mix n (c f i) (λ x. coefficient c x t) (λ x. coefficients c x f (suc i) ts) a in
        let m : c f i * value c a t ≡ c f i * constant c t + c f i * sum_to n (λ x. coefficient c x t * a x) = rw h (mul_add (c f i) (constant c t) (sum_to n (λ x. coefficient c x t * a x))) in
        omega arith

var_is : {x y : ℕ} → Sub (var x) (var y) → x < suc y
var_is itself = omega arith

either : (x m n : ℕ) {t : Tree} {ts : Trees} → Subs (var x) (cons t ts) → (Sub (var x) t → x < m) → (Subs (var x) ts → x < n) → x < m + n
either x m n (in_head p) f g = let h : x < m = f p in omega arith
either x m n (in_tail p) f g = let h : x < n = g p in omega arith

mutual
  pub vars_below : (t : Tree) → (n : ℕ) × ((x : ℕ) → Sub (var x) t → x < n)
  vars_below (var y) = (suc y, λ x p. var_is p)
  vars_below (app f ts) = let h : (n : ℕ) × ((x : ℕ) → Subs (var x) ts → x < n) = each_below ts in (h.0, λ x p. h.1 x (below_root p))

  each_below : (ts : Trees) → (n : ℕ) × ((x : ℕ) → Subs (var x) ts → x < n)
  each_below nil = (0, λ x p. absurd (not_in_nil p))
  each_below (cons t ts) = let h : (n : ℕ) × ((x : ℕ) → Sub (var x) t → x < n) = vars_below t in
      let k : (n : ℕ) × ((x : ℕ) → Subs (var x) ts → x < n) = each_below ts in
      (h.0 + k.0, λ x p. either x h.0 k.0 p (h.1 x) (k.1 x))

pub mul_le : (p q r : ℕ) → p ≤ q → p * r ≤ q * r
mul_le p q r h = grind arith

pub sum_le : (n : ℕ) (g h a : ℕ → ℕ) → ((x : ℕ) → g x ≤ h x) → sum_to n (λ x. g x * a x) ≤ sum_to n (λ x. h x * a x)
sum_le zero g h a k = omega arith
sum_le (suc n) g h a k = let e : sum_to n (λ x. g x * a x) ≤ sum_to n (λ x. h x * a x) = sum_le n g h a k in
    let e' : g n * a n ≤ h n * a n = mul_le (g n) (h n) (a n) (k n) in omega arith

-- what the checker compares gives what the order says
pub by_coefficients : (c : ℕ → ℕ → ℕ) (s t : Tree) → ((x : ℕ) → coefficient c x t ≤ coefficient c x s) → (d : ℕ) → constant c t + d ≤ constant c s
    → (a : ℕ → ℕ) → value c a t + d ≤ value c a s
by_coefficients c s t k d le a =
    let p : (n : ℕ) × ((x : ℕ) → Sub (var x) s → x < n) = vars_below s in
    let q : (n : ℕ) × ((x : ℕ) → Sub (var x) t → x < n) = vars_below t in
    let n : ℕ = p.0 + q.0 in
    let e : value c a s ≡ constant c s + sum_to n (λ x. coefficient c x s * a x) = value_sum c a n s (λ x i. let h : x < p.0 = p.1 x i in omega arith) in
    let e' : value c a t ≡ constant c t + sum_to n (λ x. coefficient c x t * a x) = value_sum c a n t (λ x i. let h : x < q.0 = q.1 x i in omega arith) in
    let m : sum_to n (λ x. coefficient c x t * a x) ≤ sum_to n (λ x. coefficient c x s * a x) = sum_le n (λ x. coefficient c x t) (λ x. coefficient c x s) a k in
    omega arith

pub weak_by_coefficients : (c : ℕ → ℕ → ℕ) (s t : Tree) → CoefficientWeak c s t → LinearWeak c s t
weak_by_coefficients c s t h a = let le : constant c t ≤ constant c s = h.0 in
    let k : value c a t + 0 ≤ value c a s = by_coefficients c s t h.1 0 (omega arith) a in omega arith

pub strict_by_coefficients : (c : ℕ → ℕ → ℕ) (s t : Tree) → CoefficientStrict c s t → LinearStrict c s t
strict_by_coefficients c s t h a = let lt : constant c t < constant c s = h.0 in
    let k : value c a t + 1 ≤ value c a s = by_coefficients c s t h.1 1 (omega arith) a in omega arith

-- the value where one variable stands for k and the others for 0
module _ (c : ℕ → ℕ → ℕ) (x k : ℕ) where
  abbrev unit : ℕ → ℕ
  unit y = k * one_if (y == x)

  mutual
    unit_value : (t : Tree) → value c unit t ≡ constant c t + k * coefficient c x t
    unit_value (var y) = omega arith
    unit_value (app f ts) = let h : values c unit f 1 ts ≡ constants c f 1 ts + k * coefficients c x f 1 ts = unit_values f 1 ts in omega arith

    unit_values : (f i : ℕ) (ts : Trees) → values c unit f i ts ≡ constants c f i ts + k * coefficients c x f i ts
    unit_values f i nil = grind arith
    unit_values f i (cons t ts) =
        let h : value c unit t ≡ constant c t + k * coefficient c x t = unit_value t in
        let h' : values c unit f (suc i) ts ≡ constants c f (suc i) ts + k * coefficients c x f (suc i) ts = unit_values f (suc i) ts in
        let e : c f i * value c unit t ≡ c f i * constant c t + k * (c f i * coefficient c x t) = rw h (share (c f i) (constant c t) k (coefficient c x t)) in
        let e' : k * (c f i * coefficient c x t + coefficients c x f (suc i) ts) ≡ k * (c f i * coefficient c x t) + k * coefficients c x f (suc i) ts =
        mul_add k (c f i * coefficient c x t) (coefficients c x f (suc i) ts) in
        omega arith

unit_zero : (c : ℕ → ℕ → ℕ) (t : Tree) → value c (unit c 0 0) t ≡ constant c t
unit_zero c t = let h : value c (unit c 0 0) t ≡ constant c t + 0 * coefficient c 0 t = unit_value c 0 0 t in omega arith

below_of_far : (d d' p q : ℕ) → d + (d' + 1) * p ≤ d' + (d' + 1) * q → p ≤ q
below_of_far d d' p q le = go (dec_le p q)
  where
    go : Dec (p ≤ q) → p ≤ q
    go (yes h) = h
    go (no n) = let far : (d' + 1) * (q + 1) ≤ (d' + 1) * p = mul_le_right (d' + 1) (q + 1) p (omega (arith, n)) in
        let e : (d' + 1) * (q + 1) ≡ (d' + 1) * q + (d' + 1) = mul_one_more (d' + 1) q in absurd (omega arith)

-- an interpretation that is at least as great everywhere has coefficients at least as great
pub coefficients_of_weak : (c : ℕ → ℕ → ℕ) (s t : Tree) → LinearWeak c s t → CoefficientWeak c s t
coefficients_of_weak c s t w = (
  (let h : value c (unit c 0 0) t ≤ value c (unit c 0 0) s = w (unit c 0 0) in
      let e : value c (unit c 0 0) t ≡ constant c t = unit_zero c t in
      let e' : value c (unit c 0 0) s ≡ constant c s = unit_zero c s in omega arith),
  (λ x. let k : ℕ = constant c s + 1 in
      let h : value c (unit c x k) t ≤ value c (unit c x k) s = w (unit c x k) in
      let e : value c (unit c x k) t ≡ constant c t + k * coefficient c x t = unit_value c x k t in
      let e' : value c (unit c x k) s ≡ constant c s + k * coefficient c x s = unit_value c x k s in
      below_of_far (constant c t) (constant c s) (coefficient c x t) (coefficient c x s) (omega arith)),
)

pub coefficients_of_strict : (c : ℕ → ℕ → ℕ) (s t : Tree) → LinearStrict c s t → CoefficientStrict c s t
coefficients_of_strict c s t w = (
  (let h : value c (unit c 0 0) t < value c (unit c 0 0) s = w (unit c 0 0) in
      let e : value c (unit c 0 0) t ≡ constant c t = unit_zero c t in
      let e' : value c (unit c 0 0) s ≡ constant c s = unit_zero c s in omega arith),
  (coefficients_of_weak c s t (λ a. let h : value c a t < value c a s = w a in omega arith)).1,
)
