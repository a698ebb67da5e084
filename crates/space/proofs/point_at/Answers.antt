-- `space::point_at` meets its contract. Assumes nothing.
use mathlib.Core.Path.{sym}
use Prim.Native.Nat.{◌+◌, ◌*◌, ◌/◌}
use lib.ListN.{length}
use Rattle.space.specs.Arrays.{point_at}
use mir.Syntax.{w64}
use Rattle.base.proofs.Signed.{back, back-small}
use Rattle.base.proofs.Loop.{get_or-up, get_d_past}
use native.Mathlib.Omega.{arith}
use Rattle.space.proofs.point_at.Goals as goal

pub returns-then-at-coords : goal.returns-then-at-coords
returns-then-at-coords c = let k = c.requires.close in (
  rw (back w64 (k (3 * c.args.v.0)) tt, back w64 (k (3 * c.args.v.0 + 1)) tt, back w64 (k (3 * c.args.v.0 + 2)) tt)
      (sym (get_or-up (point_at c.args.coords.now) _ (length c.args.coords.now / 3) c.args.v.0 (omega arith))),
  record { x = back-small w64 (k (3 * c.args.v.0)) tt; y = back-small w64 (k (3 * c.args.v.0 + 1)) tt; z = back-small w64 (k (3 * c.args.v.0 + 2)) tt },
)

pub returns-else-at-coords : goal.returns-else-at-coords
returns-else-at-coords c = (
  sym (get_d_past (point_at c.args.coords.now) _ (length c.args.coords.now / 3) c.args.v.0 (omega arith)),
  record { x = record { small = omega arith }; y = record { small = omega arith }; z = record { small = omega arith } },
)
