-- Accessible: the least predicate that holds of s where it holds of all that s goes to.
-- (Nordström, Terminating general recursion, 1988.)

pub data Acc {T : Type 0} (R : T → T → Type 0) : T → Type 0 where
  acc : {s : T} → ((t : T) → R s t → Acc R t) → Acc R s
