-- `processes::keep` meets its contract.
-- The part of the sheet from the place on is the frame.
use Prim.Native.Nat.{ℕ, ◌+◌, ◌-◌, ◌≤◌}
use native.Mathlib.Omega.{arith}
use mathlib.Core.Path.{◌≡◌, refl, sym, ◌∙◌}
use mathlib.Core.List.{List, append_assoc}
use lib.ListN.{length, take}
use borrow.Rule.Slice.PartMut.{put_mid}
use Rattle.std.proofs.lemmas.List.Edits.{sets, paste_all, sets-eq}
use Rattle.std.proofs.lemmas.Slice.{put_mid-paste}
use Rattle.processes.proofs.keep.Goals as goal

part_put : (out : List ℕ) (at : ℕ) (bytes copied : List ℕ) → copied ≡ bytes → at + length bytes ≤ length out
    → put_mid at (at + length bytes - at) out copied ≡ sets out at bytes
part_put out at bytes copied same room =
    put_mid-paste at (at + length bytes - at) out copied bytes (length bytes) same (omega arith) refl ∙
    paste_all out at bytes (length bytes) refl ∙ sym (sets-eq bytes out at room ∙ append_assoc (take at out) bytes _)

pub returns : goal.returns
returns c = part_put _ _ _ _ c.copy_from_slice.ensures.after (omega (arith, c.requires, c.told-sheet))
