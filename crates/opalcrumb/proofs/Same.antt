-- The promise of a portion leaves one outcome in every place that is lent.
-- Assumes nothing.
use Prim.Native.Nat.{ℕ}
use mathlib.Core.Path.{◌≡◌, sym, ◌∙◌, ap}
use mathlib.Core.List.{List}
use Rattle.records.specs.Marks.{answer_number}
use Rattle.portioning.proofs.Promised.{one-outcome}
use Rattle.opalcrumb.specs.Boundary.{mark_left, count_left, end_left, Passed}

module _ {f mark table room : List ℕ} {count end : ℕ} where
  -- two outcomes of the same file and places coincide: the number, the mark, the table, the room, the count and the end
  pub passed-one : {n m : ℕ} {k j t u r s : List ℕ} {c d e g : ℕ} → Passed f mark table room count end n k t r c e → Passed f mark table room count end m j u s d g → (n ≡ m) × (k ≡ j) × (t ≡ u) × (r ≡ s) × (c ≡ d) × (e ≡ g)
  passed-one x y =
      let same = one-outcome x.portioned y.portioned in
      let a = same.0 in (
        x.number_is ∙ ap answer_number a ∙ sym y.number_is,
        x.mark-is ∙ ap (λ b. mark_left b mark) a ∙ sym y.mark-is,
        same.1.0,
        same.1.1,
        x.count-is ∙ ap (λ b. count_left b count) a ∙ sym y.count-is,
        x.end_is ∙ ap (λ b. end_left b end) a ∙ sym y.end_is,
      )
