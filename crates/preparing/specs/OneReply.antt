-- ONE REPLY: two replies that the contract allows have the same formulas.
-- In both stands what the reader reads in the body.
use Rattle.std.specs.Prelude.{ℕ, ◌<◌, ◌≡◌, List}
use Rattle.std.proofs.Common.{sym, ◌∙◌}
use Rattle.meaning.specs.Formulas.{Formula}
use Rattle.formulas.specs.declared.Equation.{Equation}
use Rattle.prepared.specs.Decoded.{body_in}
use Rattle.prepared.specs.Prepared.{prepared_part, formula_there}
use Rattle.preparing.specs.Promise.{Whole, Prepares}

pub one_prepare : (bodies : List ℕ) (equations : List Equation) (r s : List ℕ)
    → Prepares bodies equations r → Prepares bodies equations s → (e k : ℕ) {f : Formula} → e < 8
    → Whole (body_in bodies equations e) k f
    → formula_there (prepared_part r e) k 0 ≡ formula_there (prepared_part s e) k 0
one_prepare bodies equations r s p q e k {f} few whole = p e few k f whole ∙ sym (q e few k f whole)
