-- Reading what lists make gives the lists. Assumes nothing.
use mathlib.Core.Path.{◌≡◌, refl, sym, ◌∙◌, ap}
use mathlib.Core.List.{List, ◌++◌}
use Prim.Native.Nat.{ℕ, zero, suc, ◌+◌, ◌*◌, ◌/◌, ◌%◌, ◌<◌}
use native.Mathlib.Omega.{arith}
use lib.IntN.{ℤ, pos}
use lib.Signed.{mag}
use lib.ListN.{length, get_or, drop, get_or-append}
use lib.Seq.{ext_get_or, drop_at, drop-drop}
use Rattle.base.specs.Lists.{spread}
use Rattle.layout.specs.Bytes.{u16_at, u32_at, signed32, i32_at}
use Rattle.layout.specs.Layout.{vertices, tets, vertex_part, tet_part, coords_in, labels_in, parts_in}
use Rattle.layout.proofs.Framed.{coords_long, labels-long, parts-long}
use Rattle.view.proofs.Says.{coord_at, part_at, label0, label1, label2, label3}
use Rattle.encoding.specs.File.{u16_bytes, u32_bytes, bits_of, i32_bytes, file_size, header_bytes, tet_bytes, coord_bytes, tets_bytes, file_of}
use Rattle.encoding.proofs.Strides.{length-spread, spread_at, piece_at}
use Rattle.encoding.proofs.Numbers.{bits_below}
use Rattle.encoding.proofs.Lengths.{point-long, tet-long, points-long, file-long}
use Rattle.packing.proofs.Ways.{fit-says}
use Rattle.round_trips.specs.Inverse.{AllBelow, AllSigned, Listed, Says}
use Rattle.round_trips.proofs.Numbers.{u16-says, u32-says, signed_bits}

-- ---- the header and the parts

module _ (cs : List ℤ) (ls ps : List ℕ) where
  pub vertices-is : length cs / 3 < 4294967296 → vertices (file_of cs ls ps) ≡ length cs / 3
  unfolding file_of header_bytes u32_bytes u16_bytes
  vertices-is h = u32-says (length cs / 3) h

  pub tets-is : length ps < 4294967296 → tets (file_of cs ls ps) ≡ length ps
  unfolding file_of header_bytes u32_bytes u16_bytes
  tets-is h = u32-says (length ps) h

  pub offset_is : u32_at (file_of cs ls ps) 4 ≡ 24
  unfolding file_of header_bytes u32_bytes u16_bytes
  offset_is = refl

  pub corner-is : 24 + 12 * (length cs / 3) < 4294967296 → u32_at (file_of cs ls ps) 12 ≡ 24 + 12 * (length cs / 3)
  unfolding file_of header_bytes u32_bytes u16_bytes
  corner-is h = u32-says (24 + 12 * (length cs / 3)) h

  pub total-is : file_size (length cs / 3) (length ps) < 4294967296 → u32_at (file_of cs ls ps) 16 ≡ file_size (length cs / 3) (length ps)
  unfolding file_of header_bytes u32_bytes u16_bytes
  total-is h = u32-says (file_size (length cs / 3) (length ps)) h

  pub none_is : u32_at (file_of cs ls ps) 20 ≡ 0
  unfolding file_of header_bytes u32_bytes u16_bytes
  none_is = refl

  pub vertex-part : vertex_part (file_of cs ls ps) ≡ coord_bytes cs ++ tets_bytes ls ps
  unfolding file_of header_bytes u32_bytes u16_bytes
  vertex-part = refl

  pub tet-part : (n : ℕ) → length cs ≡ 3 * n → tet_part n (file_of cs ls ps) ≡ tets_bytes ls ps
  tet-part n e =
      sym (drop-drop (12 * n) 24 (file_of cs ls ps)) ∙ ap (drop (12 * n)) vertex-part
      ∙ drop_at (coord_bytes cs) (tets_bytes ls ps) (12 * n) (omega (arith, points-long cs ls ps))

-- ---- the lists

-- the numbers in a piece that stands in p from b on
module _ (p m : List ℕ) (b w : ℕ) (same : (k : ℕ) → k < w → get_or p (b + k) 0 ≡ get_or m k 0) where
  at16 : (c : ℕ) → c + 1 < w → u16_at p (b + c) ≡ u16_at m c
  at16 c h =
      let e : b + c + 1 ≡ b + (c + 1) = omega arith in
      let x = same c (omega arith) in
      let y : get_or p (b + c + 1) 0 ≡ get_or m (c + 1) 0 = ap (λ i. get_or p i 0) e ∙ same (c + 1) h in
      rw (x, y)

  first16 : 1 < w → u16_at p b ≡ u16_at m 0
  first16 h = let e : b ≡ b + 0 = omega arith in ap (u16_at p) e ∙ at16 0 (omega arith)

  first32 : 3 < w → u32_at p b ≡ u32_at m 0
  first32 h = omega (arith, first16 (omega arith), at16 2 (omega arith))

word-says : (z : ℤ) → mag z < 2147483648 → signed32 (u32_at (i32_bytes z) 0) ≡ z
unfolding i32_bytes u32_bytes u16_bytes
word-says z h = ap signed32 (u32-says (bits_of z) (bits_below z h)) ∙ signed_bits z h

module _ (cs : List ℤ) (rest : List ℕ) where
  point_byte : (i : ℕ) → i < length cs → (k : ℕ) → k < 4 → get_or (coord_bytes cs ++ rest) (4 * i + k) 0 ≡ get_or (i32_bytes (get_or cs i (pos 0))) k 0
  point_byte i g k l =
      get_or-append (coord_bytes cs) rest 0 (4 * i + k) (omega (arith, length-spread i32_bytes 4 point-long cs))
      ∙ spread_at i32_bytes 4 point-long cs (pos 0) i k g l

  pub coordinates-back : AllSigned cs → coords_in (coord_bytes cs ++ rest) (length cs) ≡ cs
  unfolding i32_at
  coordinates-back h =
      let q = coord_bytes cs ++ rest in
      ext_get_or (pos 0) (coords_in q (length cs)) cs (coords_long q (length cs)) (λ i g. at i (omega (arith, coords_long q (length cs))))
    where
      at : (i : ℕ) → i < length cs → get_or (coords_in (coord_bytes cs ++ rest) (length cs)) i (pos 0) ≡ get_or cs i (pos 0)
      at i g =
          let q = coord_bytes cs ++ rest in
          coord_at q (length cs) i g
          ∙ ap signed32 (first32 q (i32_bytes (get_or cs i (pos 0))) (4 * i) 4 (point_byte i g) (omega arith))
          ∙ word-says (get_or cs i (pos 0)) (h.word i)

module _ (ls ps : List ℕ) where
  tet_byte : (j : ℕ) → j < length ps → (k : ℕ) → k < 10 → get_or (tets_bytes ls ps) (10 * j + k) 0 ≡ get_or (tet_bytes ls ps j) k 0
  tet_byte j g k l = piece_at (tet_bytes ls ps) 10 (tet-long ls ps) (length ps) j k g l

  tet-word : (j : ℕ) → j < length ps → (c : ℕ) → c + 1 < 10 → u16_at (tets_bytes ls ps) (10 * j + c) ≡ u16_at (tet_bytes ls ps j) c
  tet-word j g = at16 (tets_bytes ls ps) (tet_bytes ls ps j) (10 * j) 10 (tet_byte j g)

  -- the five numbers of a tetrahedron, read back
  part_says : AllBelow 65536 ps → (j : ℕ) → u16_at (tet_bytes ls ps j) 8 ≡ get_or ps j 0
  unfolding tet_bytes u16_bytes spread
  part_says h j = u16-says (get_or ps j 0) (h.below j)

  label_says0 : AllBelow 65536 ls → (j : ℕ) → u16_at (tet_bytes ls ps j) 0 ≡ get_or ls (4 * j) 0
  unfolding tet_bytes u16_bytes spread
  label_says0 h j = u16-says (get_or ls (4 * j) 0) (h.below (4 * j))

  label_says1 : AllBelow 65536 ls → (j : ℕ) → u16_at (tet_bytes ls ps j) 2 ≡ get_or ls (4 * j + 1) 0
  unfolding tet_bytes u16_bytes spread
  label_says1 h j = u16-says (get_or ls (4 * j + 1) 0) (h.below (4 * j + 1))

  label_says2 : AllBelow 65536 ls → (j : ℕ) → u16_at (tet_bytes ls ps j) 4 ≡ get_or ls (4 * j + 2) 0
  unfolding tet_bytes u16_bytes spread
  label_says2 h j = u16-says (get_or ls (4 * j + 2) 0) (h.below (4 * j + 2))

  label_says3 : AllBelow 65536 ls → (j : ℕ) → u16_at (tet_bytes ls ps j) 6 ≡ get_or ls (4 * j + 3) 0
  unfolding tet_bytes u16_bytes spread
  label_says3 h j = u16-says (get_or ls (4 * j + 3) 0) (h.below (4 * j + 3))

  pub parts-back : AllBelow 65536 ps → parts_in (tets_bytes ls ps) (length ps) ≡ ps
  parts-back h =
      let q = tets_bytes ls ps in
      ext_get_or 0 (parts_in q (length ps)) ps (parts-long q (length ps)) (λ j g. at j (omega (arith, parts-long q (length ps))))
    where
      at : (j : ℕ) → j < length ps → get_or (parts_in (tets_bytes ls ps) (length ps)) j 0 ≡ get_or ps j 0
      at j g = part_at (tets_bytes ls ps) (length ps) j g ∙ tet-word j g 8 (omega arith) ∙ part_says h j

  pub labels-back : length ls ≡ 4 * length ps → AllBelow 65536 ls → labels_in (tets_bytes ls ps) (4 * length ps) ≡ ls
  labels-back e h =
      let q = tets_bytes ls ps in
      ext_get_or 0 (labels_in q (4 * length ps)) ls (labels-long q (4 * length ps) ∙ sym e)
      (λ x g. at x (x / 4) (x % 4) (omega arith) (omega (arith, labels-long q (4 * length ps))) (omega arith))
    where
      at : (x j k : ℕ) → x ≡ 4 * j + k → j < length ps → k < 4 → get_or (labels_in (tets_bytes ls ps) (4 * length ps)) x 0 ≡ get_or ls x 0
      at x j zero d g l =
          let f : x ≡ 4 * j = omega arith in
          rw f (label0 (tets_bytes ls ps) (length ps) j g ∙ first16 (tets_bytes ls ps) (tet_bytes ls ps j) (10 * j) 10 (tet_byte j g) (omega arith) ∙ label_says0 h j)
      at x j (suc zero) d g l = rw d (label1 (tets_bytes ls ps) (length ps) j g ∙ tet-word j g 2 (omega arith) ∙ label_says1 h j)
      at x j (suc (suc zero)) d g l = rw d (label2 (tets_bytes ls ps) (length ps) j g ∙ tet-word j g 4 (omega arith) ∙ label_says2 h j)
      at x j (suc (suc (suc zero))) d g l = rw d (label3 (tets_bytes ls ps) (length ps) j g ∙ tet-word j g 6 (omega arith) ∙ label_says3 h j)
      at x j (suc (suc (suc (suc k)))) d g l = absurd (omega arith)

-- ---- all together

pub read_back : (cs : List ℤ) (ls ps : List ℕ) → Listed cs ls ps → length (file_of cs ls ps) < 4294967296 → Says (file_of cs ls ps) cs ls ps
read_back cs ls ps h s =
    let f = fit-says (length cs) (length ls) (length ps) h.lengths in
    let l = file-long cs ls ps in
    let n = vertices-is cs ls ps (omega arith) in
    let t = tets-is cs ls ps (omega arith) in
    let c : 3 * (length cs / 3) ≡ length cs = omega arith in
    record {
      vertex_count = n;
      tet_count = t;
      coordinates = rw (n, c, vertex-part cs ls ps) (coordinates-back cs (tets_bytes ls ps) h.words);
      numbers = rw (n, t, tet-part cs ls ps (length cs / 3) f.threes) (labels-back ls ps f.fours h.numbers);
      parts = rw (n, t, tet-part cs ls ps (length cs / 3) f.threes) (parts-back ls ps h.parts);
    }
