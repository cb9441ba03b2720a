-- Definitions that the theorems of `proofs/Lent` speak of.
-- Each stands alone; what follows from them is there.
use Rattle.std.specs.Prelude.{ℕ, ◌≡◌, List, ◌++◌}
use Rattle.std.proofs.Math.ListN.{length, drop}
use Rattle.reading.specs.Records.{reading}
use Rattle.lending.specs.declared.Record.{Record}
use Rattle.lending.specs.Records.{records_of}

-- what an operation that answers `number` to the text t leaves of the records lent
pub record Lent (t : List ℕ) (records : List Record) (number : ℕ) (left : List Record) : Type 0 where
  -- "and so do all records on any refusal, 9 included"
  pub records_stay : (number ≡ 0 → ⊥) → left ≡ records
  -- "Reading fills a lent list of equation records"; "Records past the equation count stay as they were"
  pub records_filled : number ≡ 0 →
      left ≡ records_of (reading t).model ++ drop (reading t).model.count records
  -- what is lent is given back at its length
  pub records_length : length left ≡ length records
