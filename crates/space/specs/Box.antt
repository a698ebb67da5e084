-- The box product of four points, and the bound on a coordinate.
use Rattle.std.specs.Prelude.{ℕ, zero, suc, Bool, true, false, cond, ◌&&◌, leb, ℤ, pos, negsuc, nat_abs, ◌+ℤ◌, ◌-ℤ◌, ◌*ℤ◌, Option, Some, None}
use Rattle.space.specs.declared.Point.{Point}

-- from -50,000 to 50,000
abbrev pub near : ℤ → Bool
near z = leb (nat_abs z) 50000

unfoldable pub near_point : Point → Bool
near_point p = near p.x && near p.y && near p.z

-- q - p
abbrev pub from_to : Point → Point → Point
from_to p q = record { x = q.x -ℤ p.x; y = q.y -ℤ p.y; z = q.z -ℤ p.z }

-- the determinant of the rows a, b, c, by cofactors of the first
abbrev pub det : Point → Point → Point → ℤ
det a b c =
    a.x *ℤ (b.y *ℤ c.z -ℤ b.z *ℤ c.y)
    -ℤ a.y *ℤ (b.x *ℤ c.z -ℤ b.z *ℤ c.x)
    +ℤ a.z *ℤ (b.x *ℤ c.y -ℤ b.y *ℤ c.x)

-- box(p; q, r, s)
unfoldable pub box : Point → Point → Point → Point → ℤ
box p q r s = det (from_to p q) (from_to p r) (from_to p s)

abbrev pub is_above0 : ℤ → Bool
is_above0 (pos zero) = false
is_above0 (pos (suc k)) = true
is_above0 (negsuc k) = false

-- what is answered for four points given outright
unfoldable pub boxed : Point → Point → Point → Point → Option ℤ
boxed p q r s =
    cond (near_point p && near_point q && near_point r && near_point s) (Some (box p q r s)) None

-- the number of that answer's refusal, and 0 for a value
abbrev pub box_number : Option ℤ → ℕ
box_number (Some b) = 0
box_number None = 4
