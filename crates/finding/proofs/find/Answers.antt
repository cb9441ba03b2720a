-- The reached instances are found in order, at most 512, and their graph is drawn.
-- What is found in a table of its own is found in the one into which it is copied, with as much room.
use Prim.Native.Nat.{ℕ}
use native.Mathlib.Omega.{arith}
use mathlib.Core.Path.{◌≡◌, sym, ap, ◌∙◌}
use mathlib.Core.List.{List, ◌++◌}
use lib.ListN.{length, replicate, take, drop, length-replicate}
use lib.Seq.{length-take-le}
use Rattle.finding.specs.Found.{told, FindsBefore}
use Rattle.finding.proofs.FoundGraph.{finds_copied, told_count}
use Rattle.finding.proofs.find.Goals as goal

-- the own table as it begins
abbrev zeros : List ℕ
zeros = replicate 512 0

pub returns : goal.returns
returns c =
    let a = c.args in
    let room = c.min-room.result in
    let words = c.find_in-found.new.table in
    let r = c.find_in-found.result in
    let lent : room ≡ length (take room zeros) =
    sym (length-take-le room zeros (omega (arith, length-replicate {A = ℕ} 512 0))) in
    let long = c.find_in-found.auto.table ∙ sym lent in
    let found : FindsBefore a.bodies.now a.equations a.start room words a.graph.now c.find_in-found.new.graph (told room r) =
    rw (← lent) at c.find_in-found.ensures in
    let counted : c.unwrap_or-count.result ≡ (told room r).count = c.unwrap_or-count.ensures ∙ told_count room r in
    let copied : c.copy_from_slice.new.self ≡ take c.unwrap_or-count.result (words ++ drop room zeros) =
    c.copy_from_slice.ensures.after in
    rw (← c.min-room.ensures) (finds_copied (drop room zeros) long found
    (ap (λ (l : List ℕ). l ++ drop c.unwrap_or-count.result a.table.now) copied
    ∙ ap (λ (n : ℕ). take n (words ++ drop room zeros) ++ drop n a.table.now) counted))
