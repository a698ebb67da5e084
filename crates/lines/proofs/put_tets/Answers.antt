-- The tetrahedra are laid behind the colon.
use Rattle.std.proofs.Common.{◌≡◌, ◌+◌, ◌-◌, [], ◌∷◌, ◌++◌, ℕ, min, get_or, take, drop, sym, ap, arith}
use Rattle.record.specs.Entries.{tet_places, count_at, tets_at}
use Rattle.lines.specs.Text.{numbers, tets_text}
use Rattle.lines.proofs.Numbers.{behind}
use Rattle.lines.proofs.put_tets.Goals as goal

pub returns-clause-next : goal.returns-clause-next
unfolding tets_text
returns-clause-next c =
    let cell = c.args.cell.now in
    let k = c.min-end in
    let d = c.put_text-at.ensures in
    let n = c.put_numbers.ensures in
    let e : tets_at + k.result - tets_at ≡ min (get_or cell count_at 0) tet_places = omega (arith, k.ensures, c.from.ensures) in
    (behind d.next d.text n.next n.text (ap (λ (x : ℕ). (32 ∷ 58 ∷ []) ++ numbers (take x (drop tets_at cell))) (sym e))).0

pub returns-clause-text : goal.returns-clause-text
unfolding tets_text
returns-clause-text c =
    let cell = c.args.cell.now in
    let k = c.min-end in
    let d = c.put_text-at.ensures in
    let n = c.put_numbers.ensures in
    let e : tets_at + k.result - tets_at ≡ min (get_or cell count_at 0) tet_places = omega (arith, k.ensures, c.from.ensures) in
    (behind d.next d.text n.next n.text (ap (λ (x : ℕ). (32 ∷ 58 ∷ []) ++ numbers (take x (drop tets_at cell))) (sym e))).1
