use Rattle.std.proofs.Common.{◌≡◌, length, drop}
use Rattle.trs_defs.specs.Size.{size_of}
use Rattle.trs_core.specs.View.{tree}
use Rattle.conf_find.specs.SharedCaps.{cap_at, AreFirsts}
use Rattle.conf_find.proofs.CapMeets.{FitsOn, SufficesOn}
use Rattle.conf_find.proofs.shared_caps.SharedCaps.+differs.Given as goal

abbrev pub decreases-differs : goal.decreases-differs
decreases-differs l = size_of (tree l.left.now)

abbrev pub invariant-loop-i : goal.invariant-loop-i
invariant-loop-i l = record {
  as_long : length l.arg-items ≡ length l.caps;
  fits : FitsOn l.self (cap_at l.self l.k) (tree l.left) l.fn.firsts l.firsts (drop l.i l.caps) (drop l.i l.arg-items);
  suffices : SufficesOn l.self (cap_at l.self l.k) (tree l.left) l.fn.firsts l.firsts (drop l.i l.caps) (drop l.i l.arg-items);
  firsts : AreFirsts l.self l.firsts;
}
