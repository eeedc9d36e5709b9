-- Where the slots of each symbol begin, and what their values say.
use Rattle.std.specs.Prelude.{◌≡◌, ◌<◌, ◌≤◌, ℕ, ◌+◌, ◌-◌, false, ◌==◌, List, [], ◌∷◌, ◌++◌, length, map, drop, get_or, Some, option_map}
use Rattle.std.proofs.Common.{zero, suc, refl, sym, ap, ap₂, subst, arith, ◌∙◌, append_assoc}
use Rattle.std.proofs.lemmas.List.{append-nil, drop_all, map-append, length-append, length-map}
use Rattle.order_search.proofs.dp_core.Collecting.{next_read}
use Rattle.order_search.specs.Slots.{Table, table_of}
use Rattle.order_search.specs.OrderSpace.{parts_from, slots_of}
use Rattle.order_search.specs.Distinct.{AreDistinct}
use Rattle.order_search.proofs.Tests.{self_test, other_test}
use Rattle.order_search.proofs.Repeats.{found_first, found_later, tail_distinct}
use Rattle.order_search.proofs.SlotLayout.{start_of, value_from, value_at}
use Rattle.poly_find.specs.PolySpace.{values_from}
use Rattle.poly_find.specs.PolyPlaces.{parts_by, owner_of, owners_of, values_at, starts}

-- ---- where they begin

module _ (parts : ℕ → ℕ) where
  pub starts_first : (symbols : List ℕ) → starts parts symbols 0 ≡ 0
  starts_first [] = refl
  starts_first (f ∷ symbols) = refl

  pub starts_next : (symbols : List ℕ) (i : ℕ) → i < length symbols → starts parts symbols (suc i) ≡ starts parts symbols i + parts (get_or symbols i 0)
  starts_next [] i below = absurd (omega (arith, below))
  starts_next (f ∷ symbols) zero below = let first = starts_first symbols in omega (arith, first)
  starts_next (f ∷ symbols) (suc i) below = let rest = starts_next symbols i (omega (arith, below)) in omega (arith, rest)

  pub next_start : (symbols : List ℕ) (i start n : ℕ) → i < length symbols → n ≡ parts (get_or symbols i 0) → start ≡ starts parts symbols i
      → start + n ≡ starts parts symbols (i + 1)
  next_start symbols i start n below many begins =
      let next = starts_next symbols i below in
      let at : suc i ≡ i + 1 = omega arith in
      let whole : start + n ≡ starts parts symbols (suc i) = omega (arith, next, many, begins) in
      subst (λ (k : ℕ). start + n ≡ starts parts symbols k) at whole

  starts_at : (symbols : List ℕ) (i : ℕ) → AreDistinct symbols → i < length symbols → start_of parts symbols (get_or symbols i 0) ≡ Some (starts parts symbols i)
  starts_at [] i are below = absurd (omega (arith, below))
  starts_at (f ∷ symbols) zero are below = found_first (f == f) _ (self_test f)
  starts_at (f ∷ symbols) (suc i) are below =
      let within : i < length symbols = omega (arith, below) in
      let other : (f == get_or symbols i 0) ≡ false = other_test f (get_or symbols i 0) (λ e. are 0 (suc i) (omega arith) below (sym e)) in
      found_later (f == get_or symbols i 0) _ other ∙ ap (λ o. option_map (λ n. parts f + n) o) (starts_at symbols i (tail_distinct f symbols are) within)

  part_value : (symbols values : List ℕ) (i part : ℕ) → AreDistinct symbols → i < length symbols → part < parts (get_or symbols i 0)
      → table_of (slots_of parts symbols) values (get_or symbols i 0) part ≡ get_or values (starts parts symbols i + part) 0
  part_value symbols values i part are below small =
      value_from parts values symbols 0 (get_or symbols i 0) part small
      ∙ (ap (value_at values 0 part) (starts_at symbols i are below)
      ∙ (let at : 0 + (starts parts symbols i + part) ≡ starts parts symbols i + part = omega arith in ap (λ (j : ℕ). get_or values j 0) at))

  -- the parts of a symbol say the values from its first slot on
  all_parts : (table : Table) (values : List ℕ) (f start part n : ℕ) → ((j : ℕ) → j < part + n → table f j ≡ get_or values (start + j) 0)
      → values_from table f part n ≡ values_at values (start + part) n
  all_parts table values f start part zero each = refl
  all_parts table values f start part (suc n) each =
      let at : start + suc part ≡ suc (start + part) = omega arith in
      ap₂ (λ (x : ℕ) (l : List ℕ). x ∷ l) (each part (omega arith))
      (all_parts table values f start (suc part) n (λ j h. each j (omega (arith, h))) ∙ ap (λ (k : ℕ). values_at values k n) at)

  pub said_values : (symbols values : List ℕ) (i : ℕ) → AreDistinct symbols → i < length symbols
      → values_at values (starts parts symbols i) (parts (get_or symbols i 0))
      ≡ values_from (table_of (slots_of parts symbols) values) (get_or symbols i 0) 0 (parts (get_or symbols i 0))
  said_values symbols values i are below =
      let f = get_or symbols i 0 in
      let at : starts parts symbols i + 0 ≡ starts parts symbols i = omega arith in
      sym (all_parts (table_of (slots_of parts symbols) values) values f (starts parts symbols i) 0 (parts f) (λ j h. part_value symbols values i j are below (omega (arith, h)))
      ∙ ap (λ (k : ℕ). values_at values k (parts f)) at)

-- ---- values, one after another

-- those of the first i of n slots are read
abbrev pub AreRead : List ℕ → ℕ → ℕ → ℕ → List ℕ → Type 0
AreRead values start n i made = values_at values start n ≡ made ++ values_at values (start + i) (n - i)

pub one_value_more : (values : List ℕ) (start n i v : ℕ) (old new : List ℕ) → i < n → v ≡ get_or values (start + i) 0 → new ≡ old ++ v ∷ [] → AreRead values start n i old
    → AreRead values start n (i + 1) new
one_value_more values start n i v old new below is grown before =
    let left : n - i ≡ suc (n - (i + 1)) = omega (arith, below) in
    let behind : suc (start + i) ≡ start + (i + 1) = omega arith in
    before
    ∙ (ap (λ (k : ℕ). old ++ values_at values (start + i) k) left
    ∙ (ap₂ (λ (x k : ℕ). old ++ (x ∷ values_at values k (n - (i + 1)))) (sym is) behind
    ∙ (sym (append_assoc old (v ∷ []) (values_at values (start + (i + 1)) (n - (i + 1))))
    ∙ ap (λ (l : List ℕ). l ++ values_at values (start + (i + 1)) (n - (i + 1))) (sym grown))))

pub all_read : (values : List ℕ) (start n i : ℕ) (made : List ℕ) → n ≤ i → AreRead values start n i made → made ≡ values_at values start n
all_read values start n i made past before =
    let none : n - i ≡ 0 = omega (arith, past) in
    sym (before ∙ (ap (λ (k : ℕ). made ++ values_at values (start + i) k) none ∙ append-nil made))

-- ---- owners

-- those of the first i of n slots of a symbol stand behind the old ones
abbrev pub AreOfOne : ℕ → ℕ → List ℕ → ℕ → List ℕ → Type 0
AreOfOne f n old i made = old ++ map owner_of (parts_from f 0 n) ≡ made ++ map owner_of (parts_from f i (n - i))

pub one_owner_more : (f n i : ℕ) (first old new : List ℕ) → i < n → new ≡ old ++ f ∷ [] → AreOfOne f n first i old → AreOfOne f n first (i + 1) new
one_owner_more f n i first old new below grown before =
    let left : n - i ≡ suc (n - (i + 1)) = omega (arith, below) in
    let behind : suc i ≡ i + 1 = omega arith in
    before
    ∙ (ap (λ (k : ℕ). old ++ map owner_of (parts_from f i k)) left
    ∙ (ap (λ (k : ℕ). old ++ (f ∷ map owner_of (parts_from f k (n - (i + 1))))) behind
    ∙ (sym (append_assoc old (f ∷ []) (map owner_of (parts_from f (i + 1) (n - (i + 1)))))
    ∙ ap (λ (l : List ℕ). l ++ map owner_of (parts_from f (i + 1) (n - (i + 1)))) (sym grown))))

pub all_of_one : (f n i : ℕ) (first made : List ℕ) → n ≤ i → AreOfOne f n first i made → made ≡ first ++ map owner_of (parts_from f 0 n)
all_of_one f n i first made past before =
    let none : n - i ≡ 0 = omega (arith, past) in
    sym (before ∙ (ap (λ (k : ℕ). made ++ map owner_of (parts_from f i k)) none ∙ append-nil made))

module _ (arities symbols : List ℕ) where
  abbrev pub AreOfAll : ℕ → List ℕ → Type 0
  AreOfAll i made = owners_of arities symbols ≡ made ++ owners_of arities (drop i symbols)

  pub none_listed : (made : List ℕ) → made ≡ [] → AreOfAll 0 made
  none_listed made e = sym (ap (λ (l : List ℕ). l ++ owners_of arities (drop 0 symbols)) e)

  pub one_symbol_more : (i g n : ℕ) (old new : List ℕ) → i < length symbols → g ≡ get_or symbols i 0 → n ≡ parts_by arities g
      → new ≡ old ++ map owner_of (parts_from g 0 n) → AreOfAll i old → AreOfAll (i + 1) new
  one_symbol_more i g n old new below is many grown before =
      let own = map owner_of (parts_from g 0 (parts_by arities g)) in
      before
      ∙ (ap (λ (l : List ℕ). old ++ owners_of arities l) (next_read symbols i g 0 below is)
      ∙ (ap (λ (l : List ℕ). old ++ l) (map-append owner_of (parts_from g 0 (parts_by arities g)) (slots_of (parts_by arities) (drop (i + 1) symbols)))
      ∙ (sym (append_assoc old own (owners_of arities (drop (i + 1) symbols)))
      ∙ ap (λ (l : List ℕ). l ++ owners_of arities (drop (i + 1) symbols)) (ap (λ (k : ℕ). old ++ map owner_of (parts_from g 0 k)) (sym many) ∙ sym grown))))

  pub all_symbols : (i : ℕ) (made : List ℕ) → length symbols ≤ i → AreOfAll i made → made ≡ owners_of arities symbols
  all_symbols i made past before = sym (before ∙ (ap (λ (l : List ℕ). made ++ owners_of arities l) (drop_all i symbols past) ∙ append-nil made))

-- ---- how many there are

part_count : (f from n : ℕ) → length (parts_from f from n) ≡ n
part_count f from zero = refl
part_count f from (suc n) = ap suc (part_count f (suc from) n)

pub grown_length : (f n : ℕ) (old new : List ℕ) → new ≡ old ++ map owner_of (parts_from f 0 n) → length new ≡ length old + n
grown_length f n old new grown =
    let all : length new ≡ length (old ++ map owner_of (parts_from f 0 n)) = ap length grown in
    let both = length-append old (map owner_of (parts_from f 0 n)) in
    let mapped = length-map (parts_from f 0 n) owner_of in
    let many = part_count f 0 n in
    omega (arith, all, both, mapped, many)
