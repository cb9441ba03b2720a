-- Definitions that the theorems of `proofs/Demand1` speak of.
-- Each stands alone; what follows from them is there.

infix 10 ◌exactly_when◌
abbrev pub ◌exactly_when◌ : Type 0 → Type 0 → Type 0
A exactly_when B = (A → B) × (B → A)
