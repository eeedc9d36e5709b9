-- What a comparison of two terms answers.
use Rattle.std.specs.Prelude.{◌↔◌, Bool, Result, Ok, Err, IsTrue}
use Rattle.pair_order.specs.declared.pairs.TooBig.{TooBig}
use Rattle.pair_order.specs.declared.pairs.Decrease.{Decrease}
use Rattle.pair_order.specs.declared.pairs.Decrease.TheVariants.{Strict, Weak, Missing}

-- too big exactly where it is; else whether the relation holds
abbrev pub IsAnswer : Type 0 → Type 0 → Result Bool TooBig → Type 0
IsAnswer is_too_big related (Ok answer) = (is_too_big → ⊥) × (IsTrue answer ↔ related)
IsAnswer is_too_big related (Err e) = is_too_big

abbrev pub IsDecreaseOf : Type 0 → Type 0 → Decrease → Type 0
IsDecreaseOf weak strict Strict = weak × strict
IsDecreaseOf weak strict Weak = weak × (strict → ⊥)
IsDecreaseOf weak strict Missing = weak → ⊥

-- too big exactly where it is; else how the weak and the strict relation hold
abbrev pub IsDecrease : Type 0 → Type 0 → Type 0 → Result Decrease TooBig → Type 0
IsDecrease is_too_big weak strict (Ok decrease) = (is_too_big → ⊥) × IsDecreaseOf weak strict decrease
IsDecrease is_too_big weak strict (Err e) = is_too_big
