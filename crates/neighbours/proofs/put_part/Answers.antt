-- `put_part` meets its contract. Assumes nothing.
use mathlib.Core.Path.{◌≡◌, sym, ◌∙◌, ap}
use mathlib.Core.Bool.{Bool, true, false}
use mathlib.Core.List.{[], ◌∷◌, ◌++◌}
use Prim.Native.Nat.{ℕ, ◌+◌, ◌-◌, ◌≤◌}
use native.Mathlib.Omega.{arith}
use Rattle.matrix.specs.between.Matrix.{is_joined, next_to}
use Rattle.neighbours.specs.between.Grown.{part_of}
use Rattle.neighbours.proofs.Rows.{part_none, part_yes, part_no, part-le}
use Rattle.neighbours.proofs.Growing.{grown-none, grown-set, grown-past}
use Rattle.neighbours.proofs.put_part.Goals as goal
use Rattle.neighbours.proofs.put_part.Goals.{then-is_next, else-is_next}

-- the vertex w is next, the first being v
module _ (f : ℕ → ℕ → Bool) (u v w : ℕ) (h : v ≤ w) where
  step : w + 1 - v ≡ w - v + 1
  step = omega arith

  there : v + (w - v) ≡ w
  there = omega arith

  yes_at : next_to f u w ≡ true → part_of f u v (w + 1 - v) ≡ part_of f u v (w - v) ++ w ∷ []
  yes_at n = ap (part_of f u v) step ∙ part_yes f u v (w - v) (ap (next_to f u) there ∙ n) ∙ ap (λ k. part_of f u v (w - v) ++ k ∷ []) there

  no_at : next_to f u w ≡ false → part_of f u v (w + 1 - v) ≡ part_of f u v (w - v)
  no_at n = ap (part_of f u v) step ∙ part_no f u v (w - v) (ap (next_to f u) there ∙ n)

pub loop-w-init : goal.loop-w-init
loop-w-init c = let a = c.args in let e : a.v - a.v ≡ 0 = omega arith in
    (omega arith, grown-none a.from _ a.rows.now (ap (part_of (is_joined a.m.now) a.u.0 a.v) e ∙ part_none (is_joined a.m.now) a.u.0 a.v))

pub loop-w-preserved : goal.loop-w-preserved
loop-w-preserved c =
    let a = c.args in
    let l = c.loop-w in
    let f = is_joined a.m.now in
    let g = l.invariant.1 in
    let h : a.v ≤ l.w = omega arith in
    let e = part-le f a.u.0 a.v (l.w + 1 - a.v) a.k (omega arith) in
    elim c.if-is_next.branch [
      | then-is_next w ↦
          let d = grown-set g l.w l.invariant.0 (yes_at f a.u.0 a.v l.w h (sym c.is_next.ensures ∙ w.if-is_next.true)) in
          (omega (arith, e, d.ends), rw w.at-is d)
      | else-is_next w ↦ (omega arith, rw w.at-is (grown-past g _ (no_at f a.u.0 a.v l.w h (sym c.is_next.ensures ∙ w.if-is_next.false))))
    ]
