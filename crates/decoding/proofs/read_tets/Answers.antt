-- `decoding::read_tets` meets its contract. The loop's invariant: the entries passed are filled. Assumes nothing.
use mathlib.Core.Path.{◌≡◌, ◌∙◌, sym, ap}
use mathlib.Core.List.{List}
use Prim.Native.Nat.{ℕ, ◌+◌, ◌*◌, ◌/◌, ◌%◌, ◌-◌, ◌<◌}
use native.Mathlib.Omega.{arith}
use lib.ListN.{length-set}
use Rattle.layout.specs.Bytes.{u16_at}
use Rattle.layout.specs.Layout.{labels_in, parts_in}
use Rattle.decoding.proofs.Fill.{fill_start, fill-next, fill-four, fill_done}
use Rattle.decoding.proofs.read_tets.Invariants.{At}
use Rattle.decoding.proofs.read_tets.Goals as goal

-- what was read is what stands there
stands : (p : List ℕ) (j k m : ℕ) {r : ℕ} → k < 4 → m ≡ 10 * j + 2 * k → r ≡ u16_at p m → r ≡ At p (4 * j + k)
stands p j k m h q e = let a : m ≡ 10 * ((4 * j + k) / 4) + 2 * ((4 * j + k) % 4) = omega arith in e ∙ ap (u16_at p) a

pub loop-j-init : goal.loop-j-init
loop-j-init c = (fill_start _, fill_start _)

pub bounds-labels-at-in-loop-j : goal.bounds-labels-at-in-loop-j
bounds-labels-at-in-loop-j c = simp length-set (omega arith)

pub bounds-labels-at-in-loop-j-2 : goal.bounds-labels-at-in-loop-j-2
bounds-labels-at-in-loop-j-2 c = simp length-set (omega arith)

pub bounds-labels-at-in-loop-j-3 : goal.bounds-labels-at-in-loop-j-3
bounds-labels-at-in-loop-j-3 c = simp length-set (omega arith)

pub loop-j-preserved : goal.loop-j-preserved
loop-j-preserved c = let i = c.loop-j in let p = c.args.part.now in let a : 10 * (4 * i.j / 4) + 2 * (4 * i.j % 4) ≡ 10 * i.j = omega arith in (
  fill-four i.j _ _ _ _ i.invariant.0 (omega arith)
      (c.u16_at.ensures ∙ ap (u16_at p) (sym a))
      (stands p i.j 1 _ (omega arith) (omega arith) c.u16_at-in-loop-j.ensures)
      (stands p i.j 2 _ (omega arith) (omega arith) c.u16_at-in-loop-j-2.ensures)
      (stands p i.j 3 _ (omega arith) (omega arith) c.u16_at-in-loop-j-3.ensures),
  fill-next _ i.invariant.1 (omega arith) c.u16_at-in-loop-j-4.ensures,
)

pub shape_of-labels : goal.shape_of-labels
shape_of-labels c = c.loop-j.invariant.0.same

pub shape_of-parts : goal.shape_of-parts
shape_of-parts c = c.loop-j.invariant.1.same

pub returns : goal.returns
unfolding labels_in parts_in
returns c = record { numbers = fill_done c.loop-j.invariant.0 (omega arith); partition = fill_done c.loop-j.invariant.1 (omega arith) }
