-- Three parts put one after the other, the middle one as a line, are put as a whole.
-- Each is put where the one before it ends, so a run of stores goes on where it stopped.
use Prim.Native.Nat.{ℕ, ◌+◌, ◌*◌, ◌≤◌}
use native.Mathlib.Omega.{arith}
use mathlib.Core.Path.{◌≡◌, ap, subst, ◌∙◌}
use mathlib.Core.List.{List, ◌++◌}
use lib.ListN.{length}
use lib.Seq.{sets, length-sets}
use Rattle.frames.specs.Frames.{line_of}
use Rattle.frames.specs.PutLine.{LinePut, Puts}
use Rattle.frames.proofs.Written.{line_length}
use Rattle.frames.proofs.Stores.{line_then, line_puts}
use Rattle.writing.specs.Writing.{BytesPut}
use Rattle.writing.proofs.Laws.{puts}

-- `last` is what is put as the third
pub parts_put : {out out₁ out₂ out₃ first side last rest : List ℕ} {place n next m : ℕ} → length first ≡ place
    → BytesPut out 0 first n out₁ → LinePut out₁ place side next out₂ → BytesPut out₂ next last m out₃ → last ≡ rest
    → place + (2 * length side + 1 + length rest) ≤ length out → out₃ ≡ sets out 0 (first ++ (line_of side ++ rest))
parts_put {out} {out₁} {out₂} {out₃} {first} {side} {last} {rest} {place} {n} {next} {m} long a b put same room =
    let c : BytesPut out₂ next rest m out₃ = subst (λ (l : List ℕ). BytesPut out₂ next l m out₃) same put in
    let one = puts a (omega arith) in
    let here : n ≡ place = omega (arith, one.0) in
    let same₁ = ap length one.1 ∙ length-sets out 0 first in
    let two : Puts out₁ place (line_of side) next out₂ = line_puts out₁ place side (omega arith) b in
    let same₂ = ap length two.1 ∙ length-sets out₁ place (line_of side) in
    let three = puts c (omega (arith, two.0, line_length side)) in
    three.1 ∙ (line_then out₁ out₂ place next (line_of side) rest two).0 ∙
    (rw here at (line_then out out₁ 0 n first (line_of side ++ rest) one).0)
