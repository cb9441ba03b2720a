-- DEFINITIONS: where the formula or term that begins at a place of a body ends, told by its code.
-- After a code stand some bytes and then its parts: each is a formula or a term, with a code of its own.
use Rattle.std.specs.Prelude.{ℕ, zero, suc, ◌+◌, ◌≤◌, ◌<◌, min, ◌≡◌, cond, List, eqb, ltb, length, get_or}
use Rattle.prepared.specs.Prepared.{byte_at, end_at}

-- how many parts a code has; n is the byte after the next: of an instance the number of its arguments, four
-- at most
unfoldable pub parts_of : ℕ → ℕ → ℕ
parts_of code n =
    cond (eqb code 0x10) 0 (cond (eqb code 0x11) 0 (cond (eqb code 0x14) 1 (cond (eqb code 0x15) 1
    (cond (eqb code 0x1a) (min n 4) (cond (eqb code 0x20) 0 (cond (eqb code 0x21) 0 2))))))

-- how many bytes stand before the first of them: the code, the range of a quantifier or of a calculation, the
-- equation of an instance and the number of its arguments, a number or a variable
unfoldable pub width_of : ℕ → ℕ
width_of code =
    cond (eqb code 0x14) 2 (cond (eqb code 0x15) 2 (cond (eqb code 0x1a) 3 (cond (ltb code 0x20) 1 2)))

-- the place after c formulas and terms in a row, by what stands in a prepared body
unfoldable pub after : List ℕ → ℕ → ℕ → ℕ
after p zero m = m
after p (suc c) m = after p c (end_at p m)

-- the place after the parts of the code at a place of the body s
abbrev pub parts_end : (s p : List ℕ) → ℕ → ℕ
parts_end s p i = after p (parts_of (get_or s i 0) (get_or s (i + 2) 0)) (i + width_of (get_or s i 0))

-- p has n bytes, and each is 0
pub record Clear (p : List ℕ) (n : ℕ) : Type 0 where
  pub size : length p ≡ n
  pub zeros : (i : ℕ) → get_or p i 0 ≡ 0

-- p has the bytes of s, and from the place `from` on where each formula and term ends, 256 at most
pub record Marked (s p : List ℕ) (from : ℕ) : Type 0 where
  pub size : length p ≡ 512
  pub bytes : (i : ℕ) → byte_at p i ≡ get_or s i 0
  pub ends : (i : ℕ) → from ≤ i → i < length s → end_at p i ≡ min (parts_end s p i) 256

-- r is s, where s has 256 bytes at most, and no more than 256 bytes else
pub record Cut (s r : List ℕ) : Type 0 where
  pub short : length r ≤ 256
  pub same : length s ≤ 256 → r ≡ s
