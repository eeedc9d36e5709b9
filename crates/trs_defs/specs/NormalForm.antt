-- Normal forms. (Baader and Nipkow, definition 2.1.1.)

-- no step leaves s
abbrev pub IsNormalForm : {T : Type 0} → (T → T → Type 0) → T → Type 0
IsNormalForm {T} R s = (t : T) → R s t → ⊥
