-- Two steps from A, by rank 1 to B and to C, and from both by rank 0 to D: confluent by each of the four theorems.
use Rattle.trs_defs.specs.Run.{Stay, Go, AtMostOne, Same, Once}
use Rattle.trs_defs.specs.Bounded.{IsBoundedBy, IsBounded}
use Rattle.confluence_theory.specs.Confluence.{HasDiamond}
use Rattle.confluence_theory.specs.Ranks.{AnyRank, Side, IsLocallyDecreasing}
use Rattle.confluence_theory.proofs.Joins.{RunsJoin, StepsJoin, StepsJoinStrongly}
use Rattle.std.proofs.Common.{ℕ, inl, arith}
use Rattle.trs_defs.proofs.Runs.{at_most_run}
use Rattle.confluence_theory.proofs.BoundedRuns.{newman}
use Rattle.confluence_theory.proofs.Strong.{strong_confluent}
use Rattle.confluence_theory.proofs.BetweenRuns.{between_confluent}
use Rattle.confluence_theory.proofs.Decreasing.{decreasing_confluent}

pub data Four : Type 0 where
  A : Four
  B : Four
  C : Four
  D : Four

pub data Moves : ℕ → Four → Four → Type 0 where
  AB : Moves 1 A B
  AC : Moves 1 A C
  BD : Moves 0 B D
  CD : Moves 0 C D

abbrev Move : Four → Four → Type 0
Move = AnyRank Moves

-- Decreasing: both peaks close by rank 0.

stays : (a b : ℕ) (t : Four) → Side Moves a b t t
stays a b t = (t, t, Stay, Same, Stay)

peaks : IsLocallyDecreasing Moves
peaks a b s t u AB AB = (B, stays 1 1 B, stays 1 1 B)
peaks a b s t u AB AC =
    (D, (B, B, Stay, Same, Go (0, inl (omega arith), BD) Stay), (C, C, Stay, Same, Go (0, inl (omega arith), CD) Stay))
peaks a b s t u AC AB =
    (D, (C, C, Stay, Same, Go (0, inl (omega arith), CD) Stay), (B, B, Stay, Same, Go (0, inl (omega arith), BD) Stay))
peaks a b s t u AC AC = (C, stays 1 1 C, stays 1 1 C)
peaks a b s t u BD BD = (D, stays 0 0 D, stays 0 0 D)
peaks a b s t u CD CD = (D, stays 0 0 D, stays 0 0 D)

pub confluent : RunsJoin Move
confluent = decreasing_confluent Moves peaks

-- The two steps of a peak join by at most one step each.

join : (s t u : Four) → Move s t → Move s u → (v : Four) × AtMostOne Move t v × AtMostOne Move u v
join s t u (a, AB) (b, AB) = (B, Same, Same)
join s t u (a, AB) (b, AC) = (D, Once (0, BD), Once (0, CD))
join s t u (a, AC) (b, AB) = (D, Once (0, CD), Once (0, BD))
join s t u (a, AC) (b, AC) = (C, Same, Same)
join s t u (a, BD) (b, BD) = (D, Same, Same)
join s t u (a, CD) (b, CD) = (D, Same, Same)

strong : StepsJoinStrongly Move
strong s t u p q = let (v, l, r) = join s t u p q in (v, at_most_run l, r)

pub confluent_strongly : RunsJoin Move
confluent_strongly = strong_confluent Move strong

-- Newman: no derivation is longer than 2.

none_from_d : (t : Four) → Move D t → ⊥
none_from_d t (a, m) = elim m [ ]

one_from_b : (t : Four) → Move B t → IsBoundedBy Move 0 t
one_from_b t (a, BD) = none_from_d

one_from_c : (t : Four) → Move C t → IsBoundedBy Move 0 t
one_from_c t (a, CD) = none_from_d

two_from_a : (t : Four) → Move A t → IsBoundedBy Move 1 t
two_from_a t (a, AB) = one_from_b
two_from_a t (a, AC) = one_from_c

bounded : (s : Four) → IsBounded Move s
bounded A = (2, two_from_a)
bounded B = (1, one_from_b)
bounded C = (1, one_from_c)
bounded D = (0, none_from_d)

local : StepsJoin Move
local s t u p q = let (v, l, r) = join s t u p q in (v, at_most_run l, at_most_run r)

pub confluent_by_newman : RunsJoin Move
confluent_by_newman = newman Move bounded local

-- The diamond property: at most one step.

diamond : HasDiamond (AtMostOne Move)
diamond s t u Same q = (u, q, Same)
diamond s t u (Once p) Same = (t, Same, Once p)
diamond s t u (Once p) (Once q) = join s t u p q

pub confluent_by_diamond : RunsJoin Move
confluent_by_diamond = between_confluent Move (AtMostOne Move) (λ s t p. Once p) (λ s t p. at_most_run p) diamond
