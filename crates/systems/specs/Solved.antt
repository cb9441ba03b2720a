-- DEFINITIONS: numbered instances solved by turns, equation by equation: what both solvers compute.
-- The meaning of a model is never said by these: solving/proofs/SolvedMeaning shows that they give it.
use Rattle.std.specs.Prelude.{Bool, cond, ◌≡◌, ℕ, zero, suc, ◌≤◌, ◌<◌}
use Rattle.systems.specs.Numbered.{Truths, Numbered}

-- `new` at the numbers that p has, and `old` at the others
unfoldable pub filled : (p new old : Truths) → Truths
filled p new old j = cond (p j) (new j) (old j)

-- b everywhere
unfoldable pub always : Bool → Truths
always b j = b

-- f, n times
unfoldable pub repeated : ℕ → (Truths → Truths) → Truths → Truths
repeated zero f v = v
repeated (suc n) f v = f (repeated n f v)

-- the first candidate of equation e: its instances at the constant of its sign
unfoldable pub first_candidate : Numbered → ℕ → Truths → Truths
first_candidate S e v = filled (S.of e) (always (S.greatest e)) v

-- the next one: its instances get their right sides in the set `inner`
unfoldable pub next_candidate : Numbered → ℕ → (inner current : Truths) → Truths
next_candidate S e inner current = filled (S.of e) (S.right_sides inner) current

-- a turn of equation e: its next candidate, where `later` solves the equations after it
unfoldable pub turn : Numbered → ℕ → (later : Truths → Truths) → Truths → Truths
turn S e later v = next_candidate S e (later v) v

-- the equations e, e + 1, .., `left` of them, solved in the set v: for each candidate of equation e the later
-- ones anew
unfoldable pub solved : Numbered → (left e : ℕ) → Truths → Truths
solved S zero e v = v
solved S (suc left) e v =
    let later : Truths → Truths = solved S left (suc e) in
    later (repeated S.size (turn S e later) (first_candidate S e v))

-- of the first `count` equations those from e on are at their first candidates: none is solved yet
abbrev pub Unsolved : Numbered → (count e : ℕ) → Truths → Type 0
Unsolved S count e v = (i : ℕ) → e ≤ i → i < count → first_candidate S i v ≡ v
