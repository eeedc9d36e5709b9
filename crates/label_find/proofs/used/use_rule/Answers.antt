use Rattle.std.specs.List.{HoldsAt}
use Rattle.std.proofs.Common.{ℕ, ◌≡◌, ◌<◌, List, length, nat_cmp, Equal, ap, subst, arith}
use Rattle.label_find.proofs.RuleLists.{rule_found, rule_placed}
use Rattle.label_find.proofs.used.use_rule.Goals as goal

pub returns-in-Ok : goal.returns-in-Ok
returns-in-Ok c =
    let place = c.in-Ok.field-0 in
    let H : List ℕ → Type 0 = λ used. HoldsAt (λ (k : ℕ). nat_cmp k c.args.rule ≡ Equal) used place in
    rule_found c.args.used.now.items c.args.rule place (subst (λ (used : List ℕ). place < length used) c.deref.ensures.value c.in-Ok.ensures.bound) (subst H c.deref.ensures.value c.in-Ok.ensures.ok)

pub insert-requires : goal.insert-requires
insert-requires c = let same = ap length c.deref.ensures.value in omega (arith, c.in-Err.ensures.bound, same, c.args.used.now.ok.0)

pub returns-in_ok-insert-in-Err : goal.returns-in_ok-insert-in-Err
returns-in_ok-insert-in-Err c = rule_placed c.args.used.now.items c.insert.new.self.items c.args.rule c.in-Err.place c.in_ok-insert-in-Err.ensures.items
