-- The lines that are printed from the table's words are those of the text's answer: each word gives its instance back, and each
-- bit is its instance's truth.
-- The records that were read hold the text's model, where a word names its instance; by induction over the reached instances.
use mathlib.Core.Path.{◌≡◌, refl, ◌∙◌, ap}
use Prim.Native.Nat.{ℕ, zero, suc, ◌+◌, ◌/◌, ◌≤◌, ◌<◌}
use native.Mathlib.Omega.{arith}
use mathlib.Core.Bool.{false}
use mathlib.Core.List.{List, [], ◌∷◌, ◌++◌, map}
use lib.ListN.{length, get_or}
use Rattle.meaning.specs.Logic.{Is, never}
use Rattle.meaning.proofs.Members.{mem_head, mem_tail}
use Rattle.meaning.specs.Solution.{mem}
use Rattle.meaning.specs.Ranges.{typed}
use Rattle.meaning.specs.Reach.{Instance}
use Rattle.meaning.specs.Words.{word}
use Rattle.formulas.specs.declared.Equation.{Equation}
use Rattle.reading.specs.Reading.{text_refusal}
use Rattle.reading.specs.Records.{reading}
use Rattle.truth.specs.Bits.{bit_of}
use Rattle.answers.specs.Answers.{the_model, the_start, truth_in}
use Rattle.frames.specs.Frames.{line_of}
use Rattle.answers.specs.Printed.{instance_frame, instance_lines}
use Rattle.instances.proofs.Models.{Named, Typed, word_number, word_names, word_readable}
use Rattle.engine.proofs.ReadModel.{text_named}
use Rattle.printing.specs.Lines.{parameters_of, word_frame, word_lines, Readable}

-- ---- a text that was read: its instances and their words
module _ (t : List ℕ) (read : (text_refusal t).number ≡ 0) where
  abbrev pub equations : List Equation
  equations = (reading t).model.equations

  abbrev held : Named (the_model t) equations (the_start t)
  held = text_named t read

  abbrev pub AllTyped : List Instance → Type 0
  AllTyped is = (i : Instance) → Is (mem i is) → Typed held i

  -- the frame of an instance from its word
  frame_back : (i : Instance) → Typed held i
      → word_frame equations (word i) (truth_in (the_model t) i) ≡ instance_frame (the_model t) i
  unfolding typed word_frame
  frame_back [] h = never h
  frame_back (e ∷ x) h = rw (word_names held e x h, word_number held e x h) refl

  readable_word : (i : Instance) → Typed held i → (word i / 65536 < 8) × (parameters_of equations (word i) ≤ 4)
  unfolding typed
  readable_word [] h = never h
  readable_word (e ∷ x) h = word_readable held e x h

  pub readable : (is : List Instance) → AllTyped is → Readable equations (map word is)
  unfolding Readable
  readable [] h j less = absurd (omega arith)
  readable (i ∷ is) h zero less = readable_word i (h i (mem_head i is))
  readable (i ∷ is) h (suc j) less = readable is (λ k m. h k (mem_tail k i is m)) j (omega arith)

  pub lines_back : (is : List Instance) → AllTyped is → (truth : List ℕ) (j : ℕ)
      → ((n : ℕ) → n < length is → bit_of truth (j + n) ≡ get_or (map (truth_in (the_model t)) is) n false)
      → word_lines equations truth j (map word is) ≡ instance_lines (the_model t) is
  unfolding word_lines instance_lines
  lines_back [] h truth j bits = refl
  lines_back (i ∷ is) h truth j bits =
      let first : bit_of truth j ≡ truth_in (the_model t) i = ap (bit_of truth) (omega arith) ∙ bits 0 (omega arith) in
      rw (first, frame_back i (h i (mem_head i is)))
      (ap (λ (l : List ℕ). line_of (instance_frame (the_model t) i) ++ l)
      (lines_back is (λ k m. h k (mem_tail k i is m)) truth (suc j) (λ n less. ap (bit_of truth) (omega arith)
      ∙ bits (suc n) (omega arith))))
