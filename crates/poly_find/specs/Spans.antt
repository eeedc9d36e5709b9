-- Where the values of each symbol stand among those of the slots.
use Rattle.std.specs.Prelude.{◌≡◌, ◌<◌, ℕ, ◌+◌, false, nat_lt, if◌then◌else◌, List, length, get_or}
use Rattle.trs_defs.specs.Variable.{is_listed}
use Rattle.poly_find.specs.declared.spans.Span.{Span}
use Rattle.poly_find.specs.PolyPlaces.{parts_by, starts}

-- so many values from one slot on
abbrev pub span : ℕ → ℕ → Span
span start parts = record { start = start; parts = parts }

-- the value of part i, or 0 where there are not so many
abbrev pub in_span : List ℕ → Span → ℕ → ℕ
in_span values s i = if nat_lt i s.parts then get_or values (s.start + i) 0 else 0

-- the span of a symbol, by its number
abbrev pub span_of : List Span → ℕ → Span
span_of spans f = get_or spans f (span 0 0)

-- what the spans and the values say of part i of a symbol: its constant, or a coefficient
abbrev pub said_by : List Span → List ℕ → ℕ → ℕ → ℕ
said_by spans values f i = in_span values (span_of spans f) i

-- the values of the symbols stand one behind the other; no other symbol has a value
pub record AreSpans (arities symbols : List ℕ) (spans : List Span) : Type 0 where
  pub each : (k : ℕ) → k < length symbols
      → span_of spans (get_or symbols k 0) ≡ span (starts (parts_by arities) symbols k) (parts_by arities (get_or symbols k 0))
  pub others : (f : ℕ) → is_listed f symbols ≡ false → span_of spans f ≡ span 0 0
