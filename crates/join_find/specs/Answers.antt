-- What a finder of joins answers. It never answers that its budget is spent, since it has none.
use Rattle.assign_search.specs.declared.search.Search.{Search}
use Rattle.assign_search.specs.declared.search.Search.TheVariants.{Found, NotThere, Spent, Stopped}

-- `finds` holds of what is found, `fails` where there is nothing; `rose` says that the count of stops rose
abbrev pub IsFinding : {A : Type 0} → (A → Type 0) → Type 0 → Type 0 → Search A → Type 0
IsFinding finds fails rose (Found a) = finds a
IsFinding finds fails rose NotThere = fails
IsFinding finds fails rose Spent = ⊥
IsFinding finds fails rose Stopped = rose
