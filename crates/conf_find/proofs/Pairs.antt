-- The first pair of marks that are parted is that of the terms.
use Rattle.std.specs.Prelude.{◌≡◌, ◌<◌, ◌↔◌, ℕ, List, Some, slice_get}
use Rattle.trs_defs.proofs.Members.{in_of_get, get_of_in}
use Rattle.term_pool.specs.Listed.{Listed}
use Rattle.join_find.specs.First.{First, Some_in, None_in, Along}
use Rattle.join_find.proofs.Firsts.{first_at, along_from, along_to}
use Rattle.conf_find.specs.Parted.{IsFirstPair, HasNoPair}

-- the first pair, by the numbers of its terms
pub record IsFirstOfTerms (apart : Listed → Listed → Type 0) (es fs : List Listed) (pair : ℕ × ℕ) : Type 0 where
  pub u : Listed
  pub v : Listed
  pub left_at : slice_get es pair.0 ≡ Some u
  pub right_at : slice_get fs pair.1 ≡ Some v
  pub first_left : First (λ (e : Listed). Some_in (apart e) fs) es u
  pub first_right : First (apart u) fs v
  pub holds : apart u v

module _ {A : Type 0} (marked : Listed → A → Type 0) (parted : A → A → Type 0) (apart : Listed → Listed → Type 0)
    (same : (e f : Listed) (a b : A) → marked e a → marked f b → parted a b ↔ apart e f)
    (es fs : List Listed) (ls rs : List A) (left : Along marked es ls) (right : Along marked fs rs) where
  some_of : (e : Listed) (a : A) → marked e a → Some_in (parted a) rs → Some_in (apart e) fs
  some_of e a m (b, i, h) =
      let (k, at) = get_of_in i in
      let (f, there, n) = along_to right k b at in
      (f, in_of_get fs k f there, (same e f a b m n).0 h)

  some_back : (e : Listed) (a : A) → marked e a → Some_in (apart e) fs → Some_in (parted a) rs
  some_back e a m (f, i, h) =
      let (k, at) = get_of_in i in
      let (b, there, n) = along_from right k f at in
      (b, in_of_get rs k b there, (same e f a b m n).1 h)

  pub no_pair : HasNoPair parted ls rs → None_in (λ (e : Listed). Some_in (apart e) fs) es
  no_pair h e i s =
      let (k, at) = get_of_in i in
      let (a, there, m) = along_from left k e at in
      h.none a (in_of_get ls k a there) (some_back e a m s)

  pub first_terms : (pair : ℕ × ℕ) → IsFirstPair parted ls rs pair → IsFirstOfTerms apart es fs pair
  first_terms pair h =
      let a = h.first_left.item in
      let b = h.first_right.item in
      let (u, at_u, m) = along_to left pair.0 a h.first_left.there in
      let (v, at_v, n) = along_to right pair.1 b h.first_right.there in
      let before : (k : ℕ) (e : Listed) → k < pair.0 → slice_get es k ≡ Some e → Some_in (apart e) fs → ⊥ = λ k e l at s.
      (let (c, there, o) = along_from left k e at in h.first_left.before k c l there (some_back e c o s)) in
      let earlier : (k : ℕ) (f : Listed) → k < pair.1 → slice_get fs k ≡ Some f → apart u f → ⊥ = λ k f l at s.
      (let (c, there, o) = along_from right k f at in h.first_right.before k c l there ((same u f a c m o).1 s)) in
      let together : apart u v = (same u v a b m n).0 h.first_right.holds in
      record {
        u = u;
        v = v;
        left_at = at_u;
        right_at = at_v;
        first_left = first_at (λ (e : Listed). Some_in (apart e) fs) es pair.0 u at_u (some_of u a m h.first_left.holds) before;
        first_right = first_at (apart u) fs pair.1 v at_v together earlier;
        holds = together;
      }
