-- DEFINITIONS: what a word names: the number of an equation, and arguments. Document 01, "What is lent".
-- "A word is equation × 65,536 + p0 × 4,096 + p1 × 256 + p2 × 16 + p3, absent parameters 0."
use Rattle.std.specs.Prelude.{ℕ, ◌/◌, ◌≤◌, min, ◌≡◌, refl, List, [], ◌∷◌, ◌++◌, length, take}
use Rattle.std.proofs.Math.Decide.{dec_le}
use Rattle.std.proofs.Common.{arith, sym, ◌∙◌, take_all}
use Rattle.std.proofs.Math.Seq.{take-length}
use Rattle.std.proofs.lemmas.List.{take-append-le}
use Rattle.meaning.specs.WordLaws.{arguments_of}
use Rattle.formulas.specs.declared.Tuple.{Tuple}
use Rattle.formulas.specs.Tuples.{items}

abbrev pub equation_number : ℕ → ℕ
equation_number w = w / 65536

-- the first k arguments: "parameter count k (0 to 4)", so there are no more than four
unfoldable pub argument_tuple : (w k : ℕ) → Tuple
argument_tuple w k = record {
  values = arguments_of 4 w ++ (0 ∷ 0 ∷ 0 ∷ 0 ∷ []);
  count = min k 4;
}

-- ---- laws
pub argument_count : (w k : ℕ) → (argument_tuple w k).count ≡ min k 4
unfolding argument_tuple
argument_count w k = refl

-- what is the same from m on is the same at the smaller of n and m
pub at_smaller : {X : Type 0} (g : ℕ → X) (n m : ℕ) → (m ≤ n → g m ≡ g n) → g (min n m) ≡ g n
at_smaller g n m past = elim (dec_le n m) [
  | yes h ↦ let same : min n m ≡ n = omega arith in rw same
  | no h ↦ let same : min n m ≡ m = omega arith in rw same (past (omega arith))
]

pub take_within : (n : ℕ) (l : List ℕ) → take (min n (length l)) l ≡ take n l
take_within n l = at_smaller (λ k. take k l) n (length l) (λ h. take-length l ∙ sym (take_all n l h))

-- four of a longer list, as many as are asked for
pub first_four : (k a b c d : ℕ) (rest : List ℕ)
    → take (min k 4) (a ∷ b ∷ c ∷ d ∷ rest) ≡ take k (a ∷ b ∷ c ∷ d ∷ [])
first_four k a b c d rest =
    let four = a ∷ b ∷ c ∷ d ∷ [] in
    take-append-le (min k 4) four rest (omega arith) ∙ take_within k four

pub argument_items : (w k : ℕ) → items (argument_tuple w k) ≡ arguments_of k w
unfolding argument_tuple arguments_of
argument_items w k = first_four k _ _ _ _ (0 ∷ 0 ∷ 0 ∷ 0 ∷ [])
