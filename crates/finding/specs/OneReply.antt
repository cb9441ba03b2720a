-- ONE REPLY: of a model that can be searched, two results, tables and rows left that the contract allows.
-- Results and tables are equal, and rows as far as the graph goes: the contract has an equation of each part.
use Rattle.std.specs.Prelude.{ℕ, ◌<◌, ◌≡◌, Bool, false, List, ◌++◌, map, length, take, drop}
use Rattle.std.specs.Prelude.{Option, Some, None, refl}
use Rattle.std.proofs.Common.{sym, ap, ap₂, ◌∙◌, true≢false}
use Rattle.meaning.specs.OneReply.{one_reply}
use Rattle.meaning.specs.Reach.{Instance, reached}
use Rattle.meaning.specs.Words.{word}
use Rattle.formulas.specs.declared.Equation.{Equation}
use Rattle.truth.specs.Bits.{bit_of, nowhere}
use Rattle.truth.specs.Rows.{row_of}
use Rattle.instances.specs.Models.{model_in}
use Rattle.instances.specs.Graph.{readers_row, members_row, plain_row, graph_words, GraphOf}
use Rattle.finding.specs.Found.{Found, told, Searchable, Finds}

-- the same rows of the graph of n instances
pub record SameRows (n : ℕ) (xs ys : List ℕ) : Type 0 where
  pub reads : (j : ℕ) → j < n → row_of xs j ≡ row_of ys j
  pub readers : (i k : ℕ) → i < n → row_of xs (readers_row i) k ≡ row_of ys (readers_row i) k
  pub members : (e : ℕ) → e < 8 → row_of xs (members_row e) ≡ row_of ys (members_row e)
  pub plain : (all : Bool) (j : ℕ) → j < n → row_of xs (plain_row all) j ≡ row_of ys (plain_row all) j

one_graph : {bodies : List ℕ} {equations : List Equation} {table xs ys : List ℕ}
    → GraphOf bodies equations table xs → GraphOf bodies equations table ys → SameRows (length table) xs ys
one_graph p q = record {
  reads = λ j h. one_reply (p.reads j h) (q.reads j h);
  readers = λ i k h. one_reply (p.readers i k h) (q.readers i k h);
  members = λ e h. one_reply (p.members e h) (q.members e h);
  plain = λ all j h. one_reply (p.plain all j h) (q.plain all j h);
}

-- two answers that tell the same are one
same_told : (room : ℕ) (r s : Option ℕ) → told room r ≡ told room s → r ≡ s
same_told room None None e = refl
same_told room None (Some n) e = absurd (true≢false (ap (λ (a : Found). a.over) e))
same_told room (Some n) None e = absurd (true≢false (ap (λ (a : Found). a.over) (sym e)))
same_told room (Some n) (Some m) e = ap Some (ap (λ (a : Found). a.count) e)

module _ (bodies : List ℕ) (equations : List Equation) (start room : ℕ) (table graph : List ℕ) (count : ℕ)
    (first : Instance) (h : Searchable bodies equations start count first) (r s : Option ℕ)
    {xs ys gs hs : List ℕ} (p : Finds bodies equations start room table xs graph gs (told room r))
    (q : Finds bodies equations start room table ys graph hs (told room s)) where
  pub one_find : (r ≡ s) × (xs ≡ ys)
  one_find =
      let f = p.finds count first h in
      let g = q.finds count first h in
      let both : ℕ → Bool → Found = λ n o. record { count = n; over = o } in
      let same = one_reply f.count g.count in
      let words = take room (map word (reached (model_in bodies equations count) first)) in (
        same_told room r s (ap₂ both same (one_reply f.over g.over)),
        f.table ∙ ap (λ (n : ℕ). words ++ drop n table) same ∙ sym g.table,
      )

  pub one_find_graph : (told room r).over ≡ false → length graph ≡ graph_words → bit_of graph ≡ nowhere
      → SameRows (length (take (told room r).count xs)) gs hs
  one_find_graph over lent empty =
      let same = ap₂ (λ (a : Option ℕ) (l : List ℕ). take (told room a).count l) one_find.0 one_find.1 in
      let over' = ap (λ (a : Option ℕ). (told room a).over) (sym one_find.0) ∙ over in
      one_graph (p.draws count first h over lent empty)
      (rw (← same) at (q.draws count first h over' lent empty))
