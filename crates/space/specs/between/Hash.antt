-- A number for three vertices, by which tables of facets tell their places.
-- Assumes nothing.
use Rattle.std.specs.Prelude.{ℕ, ◌+◌, ◌*◌, ◌/◌}

abbrev pub odd : ℕ → ℕ
odd v = 2 * v + 1013

-- the same in whatever order they are named; the product is odd, so its last bit tells nothing
unfoldable pub hash3 : ℕ → ℕ → ℕ → ℕ
hash3 u v w = odd u * odd v * odd w / 2
