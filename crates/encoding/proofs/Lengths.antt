-- How long the file of lists is, and its parts.
-- Assumes nothing.
use mathlib.Core.Path.{◌≡◌, refl, ◌∙◌}
use mathlib.Core.List.{List, ◌++◌}
use Prim.Native.Nat.{ℕ, ◌+◌, ◌*◌, ◌/◌}
use native.Mathlib.Omega.{arith}
use lib.IntN.{ℤ}
use lib.ListN.{length, length-append}
use Rattle.base.specs.Lists.{spread, up_to}
use Rattle.base.proofs.Loop.{length_from}
use Rattle.encoding.specs.File.{u16_bytes, u32_bytes, i32_bytes, header_bytes, tet_bytes, coord_bytes, tets_bytes, file_of}
use Rattle.encoding.proofs.Strides.{length-spread}

pub point-long : (z : ℤ) → length (i32_bytes z) ≡ 4
unfolding i32_bytes u32_bytes u16_bytes
point-long z = refl

pub tet-long : (ls ps : List ℕ) (j : ℕ) → length (tet_bytes ls ps j) ≡ 10
unfolding tet_bytes u16_bytes spread
tet-long ls ps j = refl

pub head_long : (n t : ℕ) → length (header_bytes n t) ≡ 24
unfolding header_bytes u32_bytes u16_bytes
head_long n t = refl

module _ (cs : List ℤ) (ls ps : List ℕ) where
  pub points-long : length (coord_bytes cs) ≡ 4 * length cs
  points-long = length-spread i32_bytes 4 point-long cs

  pub tets-long : length (tets_bytes ls ps) ≡ 10 * length ps
  tets-long = length-spread (tet_bytes ls ps) 10 (tet-long ls ps) (up_to (length ps)) ∙ omega (arith, length_from 0 (length ps))

  pub file-long : length (file_of cs ls ps) ≡ 24 + 4 * length cs + 10 * length ps
  unfolding file_of
  file-long =
      let h = header_bytes (length cs / 3) (length ps) in
      omega (arith, length-append (h ++ coord_bytes cs) (tets_bytes ls ps), length-append h (coord_bytes cs), head_long (length cs / 3) (length ps), points-long, tets-long)
