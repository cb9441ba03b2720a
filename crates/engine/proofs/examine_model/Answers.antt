-- The answer for a model that was read: prepared, then found, compared with a list where one is lent, then solved, then judged.
-- What was found is a law's one hypothesis; how many words are due decides which law.
use Prim.Native.Nat.{ℕ}
use mathlib.Core.Path.{sym}
use lib.ListN.{length-replicate}
use lib.Seq.{length-take-le}
use Rattle.truth.proofs.Bits.{zeros_none}
use Rattle.instances.specs.Graph.{graph_words}
use Rattle.engine.proofs.Examining.{searched, found_inside, due_inside, due_solved, due_refused, answer_handed_on}
use Rattle.engine.proofs.examine_model.Goals as goal

pub due-requires : goal.due-requires
due-requires c =
    found_inside _ (searched c.requires.1 c.prepare-prepared.ensures c.start_word-start.ensures c.find-found.ensures)

pub returns-in_err-n-clause-examines : goal.returns-in_err-n-clause-examines
returns-in_err-n-clause-examines c t read =
    let s = searched read c.prepare-prepared.ensures c.start_word-start.ensures c.find-found.ensures in
    rw (answer_handed_on _ _ c.from_residual.ensures.1) (due_refused _ _ s (sym c.in_err-n.ensures))

-- as many words as were found can be lent
pub slice_bounds-solution_of-end-2 : goal.slice_bounds-solution_of-end-2
slice_bounds-solution_of-end-2 c =
    let s = searched c.requires.1 c.prepare-prepared.ensures c.start_word-start.ensures c.find-found.ensures in
    due_inside _ _ s (sym c.in_ok-n.ensures)

pub slice_bounds-solution_of-end-3 : goal.slice_bounds-solution_of-end-3
slice_bounds-solution_of-end-3 c = sym (length-take-le _ _ (slice_bounds-solution_of-end-2 c))

pub returns-clause-examines : goal.returns-clause-examines
returns-clause-examines c t read =
    let s = searched read c.prepare-prepared.ensures c.start_word-start.ensures c.find-found.ensures in
    due_solved _ _ s (sym c.in_ok-n.ensures) (length-replicate {A = ℕ} graph_words 0) (zeros_none graph_words)
    c.solution_of-truth.ensures c.judge.ensures
