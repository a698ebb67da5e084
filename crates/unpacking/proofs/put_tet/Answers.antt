-- `unpacking::put_tet` meets its contract. Assumes nothing.
use mathlib.Core.Path.{◌≡◌, ◌∙◌, ap}
use Prim.Native.Nat.{ℕ, ◌+◌}
use native.Mathlib.Omega.{arith}
use lib.IntN.{ℤ, pos}
use lib.ListN.{length, get_or}
use Rattle.base.proofs.Lay.{laid_as}
use Rattle.writing_lists.specs.Printed.{line_of}
use Rattle.unpacking.proofs.Rows.{Wide, five_kept}
use Rattle.unpacking.proofs.put_tet.Goals as goal

pub returns : goal.returns
returns c = let a = c.args in let p = c.put_line.ensures in
    let label = λ (i : ℕ) (z : ℤ) (h : z ≡ pos (get_or a.labels.now i 0)). (let it : Wide z (get_or a.labels.now i 0) = (h, omega (arith, c.type_inv.labels i)) in it) in
    let part : Wide c.from-part.result (get_or a.parts.now a.j 0) = (c.from-part.ensures, omega (arith, c.type_inv.parts a.j)) in
    let e = five_kept (label _ _ c.from-a.ensures) (label _ _ c.from-b.ensures) (label _ _ c.from-c.ensures) (label _ _ c.from-d.ensures) part in
    record { next = p.next ∙ ap (λ l. a.at + length (line_of l)) e; text = laid_as p.text (ap line_of e) }
