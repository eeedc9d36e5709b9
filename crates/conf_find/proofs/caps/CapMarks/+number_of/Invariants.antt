use Rattle.std.proofs.Common.{◌<◌, ℕ, All, length, take}
use Rattle.trs_defs.specs.Size.{size_of}
use Rattle.term_pool.specs.Pooled.{tree_at}
use Rattle.conf_find.specs.Marks.{HasCap, AreCaps}
use Rattle.conf_find.specs.SharedCaps.{KeepsCaps}
use Rattle.conf_find.proofs.NumberedCaps.{AreParts}
use Rattle.conf_find.proofs.caps.CapMarks.+number_of.Given as goal

abbrev pub decreases-number_of : goal.decreases-number_of
decreases-number_of l = size_of (tree_at l.pool.now l.id)

abbrev pub invariant-loop-arg : goal.invariant-loop-arg
invariant-loop-arg l = record {
  caps : AreCaps l.by_root.rules l.pool l.self;
  still : (i : ℕ) → HasCap l.fn.self i → HasCap l.self i;
  kept : KeepsCaps l.fn.self.shared l.self.shared;
  below : All (λ k. k < length l.self.shared) l.parts.items;
  parts : AreParts l.by_root.rules l.pool l.self.shared (take l.arg-index l.arg-items) l.parts.items;
}
