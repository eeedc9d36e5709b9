use Rattle.std.proofs.Common.{◌≡◌, length, drop}
use Rattle.trs_caps.specs.Clash.{clash, some_clash}
use Rattle.conf_find.specs.SharedCaps.{cap_at, parts_at}
use Rattle.conf_find.proofs.shared_caps.SharedCaps.+clashes.Given as goal

abbrev pub decreases-clashes : goal.decreases-clashes
decreases-clashes l = l.left

abbrev pub invariant-loop-i : goal.invariant-loop-i
invariant-loop-i l = record {
  as_long : length l.lefts ≡ length l.rights;
  rest : some_clash (parts_at l.self (drop l.i l.lefts)) (parts_at l.self (drop l.i l.rights)) ≡ clash (cap_at l.self l.left) (cap_at l.self l.right);
}
