use Rattle.std.proofs.Common.{◌≡◌, ℕ, ◌+◌, map, subst, arith}
use Rattle.assign_search.specs.Rest.{reach, AreGroups}
use Rattle.assign_search.proofs.Groups.{group_there, one_grouped}
use Rattle.assign_search.proofs.grouping.groups.Goals as goal

pub join-requires : goal.join-requires
join-requires g c =
    group_there (λ a. a.items) (g.S.Space.puzzle c.args.space.now) c.loop-c.c c.loop-c.c c.reach.result c.loop-c.groups.items c.loop-c.invariant c.reach.ensures

pub loop-c-preserved : goal.loop-c-preserved
loop-c-preserved g c =
    let z = g.S.Space.puzzle c.args.space.now in
    one_grouped (reach z) c.loop-c.c (z.slots + 1) c.reach.result (map (λ a. a.items) c.loop-c.groups.items) (map (λ a. a.items) c.join.new.groups.items)
    c.loop-c.invariant c.reach.ensures c.in_ok-join.ensures

pub returns : goal.returns
returns g c =
    let z = g.S.Space.puzzle c.args.space.now in
    let all : c.loop-c.c ≡ z.constraints = omega (arith, c.loop-c.auto.c-end, c.loop-c-test.false, c.constraints-c-end.ensures) in
    subst (λ (n : ℕ). AreGroups (reach z) n (z.slots + 1) (map (λ a. a.items) c.loop-c.groups.items)) all c.loop-c.invariant
