-- A line more behind those that were written or stand in the text. Assumes nothing.
use Rattle.std.proofs.Common.{◌≡◌, ◌+◌, ◌*◌, List, ℕ, ◌++◌, length, take, drop, slice_range, refl, sym, ap, ◌∙◌, arith, add-one, append_assoc, length-append, length-take-le}
use Rattle.std.proofs.Math.Seq.{take_at}
use Rattle.base.specs.Laid.{Laid}
use Rattle.record.specs.Entries.{record_size}
use Rattle.lines.specs.Text.{cell_line}
use Rattle.combine.specs.Listed.{cell_lines}

pub one_more : (r : List ℕ) (i : ℕ) → cell_lines r (i + 1) ≡ cell_lines r i ++ cell_line (slice_range r (record_size * i) (record_size * i + record_size))
unfolding cell_lines
one_more r i = rw add-one refl

-- what stands before a text that was laid, and the text
pub laid_front : {at r : ℕ} {xs old l : List ℕ} → Laid at xs old l → r ≡ at + length xs → take r l ≡ take at old ++ xs
laid_front {at} {r} {xs} {old} {l} d e =
    let k : length (take at old ++ xs) ≡ at + length xs =
    length-append (take at old) xs ∙ ap (λ (n : ℕ). n + length xs) (length-take-le at old (omega (arith, d.room)))
    in
    ap (λ (n : ℕ). take n l) e
    ∙ ap (take (at + length xs)) d.content
    ∙ take_at (take at old ++ xs) (drop (at + length xs) old) (at + length xs) k

pub joined : (a b t u s rows line : List ℕ) → u ≡ t ++ line → b ++ t ≡ s → a ++ s ≡ rows → (a ++ b) ++ u ≡ rows ++ line
joined a b t u s rows line e f g =
    ap (λ (x : List ℕ). (a ++ b) ++ x) e
    ∙ sym (append_assoc (a ++ b) t line)
    ∙ ap (λ (x : List ℕ). x ++ line) (append_assoc a b t ∙ ap (λ (x : List ℕ). a ++ x) f ∙ g)
