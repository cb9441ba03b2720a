-- Drawing one instance: which rows get its number, step by step.
-- The rows of what is read, of the readers, of the equations and of the shapes lie apart, so that each step is seen in its own.
use Prim.Native.Nat.{ℕ, ◌+◌, ◌*◌, ◌≤◌, ◌<◌}
use native.Mathlib.Omega.{arith}
use native.Mathlib.Decide.{ℕ_discrete}
use mathlib.Core.Path.{◌≡◌, refl, sym, ap, ap₂, ◌∙◌}
use mathlib.Core.Bool.{Bool, true, false, true≢false, ◌&&◌, ◌||◌, and-false, or-false, or-true}
use mathlib.Core.List.{List}
use lib.Dec.{eqb}
use lib.ListN.{length}
use borrow.Author.Tests.{eq-eqb, ne_eqb, eqb-true, lt-ltb}
use Rattle.meaning.specs.Logic.{cases}
use Rattle.truth.specs.Bits.{nowhere, updated, put_in}
use Rattle.truth.specs.Rows.{row_of, unlike_in, LastOf, with_bit, Becomes}
use Rattle.std.specs.Prelude.{Some, None}
use Rattle.truth.proofs.RowLaws.{RowIs, row_with_bit, rows_then, last_member, last_falls, none_unlike, unlike_left}
use Rattle.instances.specs.Graph.{readers_row, members_row, plain_row}
use Rattle.finding.specs.Drawn.{Drawable, Notable, Notes, NotesReaders, SideDrawn}

at : {f g : ℕ → Bool} (i : ℕ) → f ≡ g → f i ≡ g i
at i = ap (λ (h : ℕ → Bool). h i)

-- ---- one more number in a row
pub noted : {entry exit : List ℕ} {i j : ℕ} → Notable entry i j → Becomes entry exit (with_bit entry (i * 512 + j))
    → Notes entry exit i j true
unfolding updated
noted {entry} {exit} {i} {j} n b =
    let r = row_with_bit i j n.into.small (omega arith) b in
    record {
      size = b.size;
      here = λ k. at k r.here ∙ cases (eqb k j)
          (λ t. rw t (sym (or-true (row_of entry i k)))) (λ f. rw f (sym (or-false (row_of entry i k))));
      others = r.others;
    }

pub not_noted : {graph : List ℕ} {i j : ℕ} → Notes graph graph i j false
not_noted {graph} {i} {j} = record {
  size = refl;
  here = λ k. sym (ap (λ (b : Bool). row_of graph i k || b) (and-false (eqb k j)) ∙ or-false (row_of graph i k));
  others = λ n o. refl;
}

-- the same, said with the truth that is meant
pub noted_as : {g g' : List ℕ} {i j : ℕ} {b : Bool} → Notes g g' i j true → true ≡ b → Notes g g' i j b
noted_as n p = rw p at n

pub not_noted_as : {g : List ℕ} {i j : ℕ} {b : Bool} → false ≡ b → Notes g g i j b
not_noted_as {g} {i} {j} p = rw p at (not_noted {graph = g} {i = i} {j = j})

-- ---- the readers' rows
-- j was noted for those that are done
pub record Noting (g₀ g : List ℕ) (j : ℕ) (done : ℕ → Bool) : Type 0 where
  pub size : length g ≡ length g₀
  pub within : (m : ℕ) → done m ≡ true → row_of g₀ j m ≡ true
  pub readers : (m i : ℕ) → m < 512
      → row_of g (readers_row m) i ≡ (row_of g₀ (readers_row m) i || (eqb i j && done m))
  pub others : (n : ℕ) → ((m : ℕ) → m < 512 → n ≡ readers_row m → ⊥) → row_of g n ≡ row_of g₀ n

-- how far the last of its row that is not done is from none
abbrev pub undone : List ℕ → ℕ → (ℕ → Bool) → ℕ
undone g₀ j done = unlike_left (row_of g₀ j) done true

pub noting_starts : {g : List ℕ} {j : ℕ} {done : ℕ → Bool} → done ≡ nowhere → Noting g g j done
noting_starts {g} {j} {done} none =
    let nothing : (m : ℕ) → done m ≡ false = λ m. at m none in
    record {
      size = refl;
      within = λ m h. absurd (true≢false (sym h ∙ nothing m));
      readers = λ m i h. rw (nothing m, and-false (eqb i j)) (sym (or-false (row_of g (readers_row m) i)));
      others = λ n o. refl;
    }

-- a truth that is told again
again : (a b c : Bool) → ((a || (b && c)) || (b && true)) ≡ (a || (b && true))
again true b c = refl
again false true c = or-true c
again false false c = refl

module _ {g₀ g : List ℕ} {j : ℕ} {done : ℕ → Bool} (s : Noting g₀ g j done) (into : Drawable g₀ j) where
  -- its own row is no reader's
  same_row : row_of g j ≡ row_of g₀ j
  same_row = s.others j (λ m h e. omega arith)

  pub noting_ends : LastOf (unlike_in (row_of g j) done true) None → NotesReaders g₀ g j
  noting_ends last = record {
    size = s.size;
    readers = λ m i l. s.readers m i l ∙ ap (λ (b : Bool). row_of g₀ (readers_row m) i || (eqb i j && b)) (all m l);
    others = s.others;
  }
    where
      all : (m : ℕ) → m < 512 → done m ≡ row_of g₀ j m
      all m l = cases (row_of g₀ j m)
          (λ t. none_unlike (row_of g₀ j) done true (rw same_row at last) m l t ∙ sym t)
          (λ f. cases (done m) (λ t. absurd (true≢false (sym (s.within m t) ∙ f))) (λ n. n ∙ sym f))

  module _ {g' : List ℕ} {done' : ℕ → Bool} {k : ℕ} (last : LastOf (unlike_in (row_of g j) done true) (Some k))
      (n : Notes g g' (readers_row k) j true) (put : done' ≡ put_in done k true) where
    more : k < 512
    more = last.small

    is_last : LastOf (unlike_in (row_of g₀ j) done true) (Some k)
    is_last = rw same_row at last

    done_more : done' ≡ updated done k true
    done_more = put ∙ rw (lt-ltb k 512 more) refl

    -- it is of the row
    chosen : row_of g₀ j k ≡ true
    chosen = last_member (row_of g₀ j) done true is_last

    pub noting_falls : undone g₀ j done' < undone g₀ j done
    noting_falls = rw done_more (last_falls (row_of g₀ j) done true is_last)

    pub noting_on : Noting g₀ g' j done'
    unfolding updated
    noting_on = rw done_more (record {
      size = n.size ∙ s.size;
      within = λ m h. cases (eqb m k) (λ t. rw (eqb-true m k t) chosen) (λ f. s.within m (rw f at h));
      readers = λ m i l. elim (ℕ_discrete m k) [
        | yes e ↦ rw (e, eq-eqb k k refl) (n.here i ∙ ap (λ (b : Bool). b || (eqb i j && true)) (s.readers k i more)
            ∙ again (row_of g₀ (readers_row k) i) (eqb i j) (done k))
        | no o ↦ rw (ne_eqb m k o) (at i (n.others (readers_row m) (λ e. o (omega arith))) ∙ s.readers m i l)
      ];
      others = λ q o. n.others q (o k more) ∙ s.others q o;
    })

-- ---- one instance
module _ {g₀ g₁ g₂ g₃ g₄ g₅ : List ℕ} {j e : ℕ} {reads : ℕ → Bool} (plain : Bool → Bool) (into : Drawable g₀ j) (few : e < 8)
    (own_row : RowIs g₀ g₁ j reads) (read : NotesReaders g₁ g₂ j) (member : Notes g₂ g₃ (members_row e) j true)
    (and_row : Notes g₃ g₄ (plain_row true) j (plain true)) (or_row : Notes g₄ g₅ (plain_row false) j (plain false)) where
  -- a row of a number below 1024 changes with what is read alone
  first_rows : (n : ℕ) → n < 1024 → row_of g₅ n ≡ row_of g₂ n
  first_rows n h =
      or_row.others n (λ q. omega arith) ∙ and_row.others n (λ q. omega arith) ∙ member.others n (λ q. omega arith)

  -- one of a number from 1024 on does not
  last_rows : (n : ℕ) → 1024 ≤ n → row_of g₂ n ≡ row_of g₀ n
  last_rows n h = read.others n (λ k l q. omega arith) ∙ own_row.others n (λ q. omega arith)

  member_row : (m i : ℕ) → row_of g₃ (members_row m) i ≡ (row_of g₂ (members_row m) i || (eqb i j && eqb m e))
  member_row m i = elim (ℕ_discrete m e) [
    | yes q ↦ rw (q, eq-eqb e e refl) (member.here i)
    | no o ↦ rw (ne_eqb m e o, and-false (eqb i j), or-false (row_of g₂ (members_row m) i))
        (at i (member.others (members_row m) (λ q. o (omega arith))))
  ]

  plain_rows : (all : Bool) (i : ℕ) → row_of g₅ (plain_row all) i ≡ (row_of g₂ (plain_row all) i || (eqb i j && plain all))
  plain_rows true i = at i (or_row.others 1032 (λ q. omega arith)) ∙ and_row.here i
      ∙ ap (λ (b : Bool). b || (eqb i j && plain true)) (at i (member.others 1032 (λ q. omega arith)))
  plain_rows false i = or_row.here i ∙ ap (λ (b : Bool). b || (eqb i j && plain false))
      (at i (and_row.others 1033 (λ q. omega arith) ∙ member.others 1033 (λ q. omega arith)))

  pub side_drawn : SideDrawn g₀ g₅ j e reads plain
  side_drawn = record {
    own = λ n h. first_rows n (omega arith) ∙ read.others n (λ k l q. omega arith) ∙ rows_then own_row n;
    readers = λ k i h. at i (first_rows (readers_row k) (omega arith)) ∙ read.readers k i h
        ∙ ap₂ (λ (a b : Bool). a || (eqb i j && b)) (at i (own_row.others (readers_row k) (λ q. omega arith)))
        (at k own_row.here);
    members = λ m i h. at i (or_row.others (members_row m) (λ q. omega arith))
        ∙ at i (and_row.others (members_row m) (λ q. omega arith))
        ∙ member_row m i ∙ ap (λ (b : Bool). b || (eqb i j && eqb m e)) (at i (last_rows (members_row m) (omega arith)));
    shapes = λ all i. plain_rows all i
        ∙ ap (λ (b : Bool). b || (eqb i j && plain all)) (at i (last_rows (plain_row all) (late all)));
  }
    where
      late : (all : Bool) → 1024 ≤ plain_row all
      late true = omega arith
      late false = omega arith
