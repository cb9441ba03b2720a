-- ONE REPLY: two results, and the words found in two tables left, that a contract allows are equal.
-- The words found say how many they are and what the table begins with; the rest of it may be anything.
use Rattle.std.specs.Prelude.{ℕ, ◌+◌, ◌≤◌, ◌<◌, min, ◌≡◌, Bool, List, length}
use Rattle.std.proofs.Common.{arith, sym, ap, ap₂, ◌∙◌, length-take-le, lt-ltb, le-ltb, ltb-true, ltb-false}
use Rattle.std.proofs.Math.Decide.{dec_lt}
use Rattle.meaning.specs.OneReply.{one_reply}
use Rattle.formulas.specs.declared.Equation.{Equation}
use Rattle.truth.proofs.Bits.{Eight}
use Rattle.truth.proofs.OneReply.{one_set}
use Rattle.gathering.specs.declared.Shape.{Shape}
use Rattle.gathering.specs.declared.Side.{Side}
use Rattle.gathering.specs.FoundWords.{FoundWords}
use Rattle.gathering.specs.Filling.{found_of, found_words}
use Rattle.gathering.specs.Shapes.{is_plain}
use Rattle.gathering.specs.Side.{SideGathers}

pub one_is_plain : (shape : Shape) (all : Bool) {r s : Bool}
    → r ≡ is_plain all shape → s ≡ is_plain all shape → r ≡ s
one_is_plain shape all = one_reply

-- two tables with the same words found have as many of them
same_number : (room : ℕ) (xs ys : List ℕ) {a b : ℕ} → length xs ≡ room → length ys ≡ room → a ≤ room + 1
    → b ≤ room + 1 → found_words xs (found_of room a) ≡ found_words ys (found_of room b) → a ≡ b
same_number room xs ys {a} {b} p q l m e = go (dec_lt room a)
  where
    filled : min a room ≡ min b room
    filled = sym (length-take-le (min a room) xs (omega arith)) ∙ ap (λ (s : FoundWords). length s.0) e
        ∙ length-take-le (min b room) ys (omega arith)

    go : Dec (room < a) → a ≡ b
    go (yes h) =
        let over = ltb-true room b (sym (ap (λ (s : FoundWords). s.1) e) ∙ lt-ltb room a h) in
        omega arith
    go (no h) =
        let fits = ltb-false room b (sym (ap (λ (s : FoundWords). s.1) e) ∙ le-ltb room a (omega arith)) in
        omega (arith, filled)

-- a set is eight words of 64 bits, as its type says
pub one_gather_side : (bodies : List ℕ) (equations : List Equation) (w : ℕ) (table : List ℕ) (n : ℕ)
    {r s : Side} {xs ys : List ℕ} → Eight r.reads → Eight s.reads
    → SideGathers bodies equations w (length table) table xs n r
    → SideGathers bodies equations w (length table) table ys n s
    → (r ≡ s) × (found_words xs (found_of (length table) r.found)
    ≡ found_words ys (found_of (length table) s.found))
one_gather_side bodies equations w table n {r} {s} {xs} {ys} eight eight' p q =
    let f = p.told in
    let g = q.told in
    let side : ℕ → List ℕ → Shape → Side = λ n l shape. record { found = n; reads = l; shape = shape } in
    let words = one_reply f.added g.added in
    let same = same_number (length table) xs ys p.size q.size p.few q.few words in
    let reads = one_set eight eight' f.noted g.noted in (
      ap₂ (λ (n : ℕ) (l : List ℕ). side n l r.shape) same reads
          ∙ ap (side s.found s.reads) (one_reply f.shaped g.shaped),
      words,
    )
