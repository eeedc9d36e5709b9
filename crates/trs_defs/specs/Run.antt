-- Steps of a relation in a row, and at most one of them. (Baader and Nipkow, 2.1: the reflexive transitive and
-- the reflexive closure.)

-- some steps in a row, or none
pub data Run {T : Type 0} (R : T → T → Type 0) : T → T → Type 0 where
  Stay : {s : T} → Run R s s
  Go : {s m t : T} → R s m → Run R m t → Run R s t

-- one step, or none
pub data AtMostOne {T : Type 0} (R : T → T → Type 0) : T → T → Type 0 where
  Same : {s : T} → AtMostOne R s s
  Once : {s t : T} → R s t → AtMostOne R s t
