-- What a header that is not refused tells of the file, and what the file then says. Assumes nothing.
use mathlib.Core.Path.{◌≡◌}
use mathlib.Core.List.{List}
use mathlib.Core.Bool.{true, ◌&&◌}
use Prim.Native.Nat.{ℕ, ◌+◌, ◌*◌, ◌/◌, ◌%◌, ◌≤◌}
use lib.ListN.{length}
use native.Mathlib.Omega.{arith}
use lib.Dec.{leb, eqb}
use borrow.Author.Tests.{leb-true, eqb-true}
use Rattle.base.proofs.Bools.{and_left, and_right}
use Rattle.base.proofs.Loop.{length_up}
use Rattle.layout.specs.Bytes.{u16_at, u32_at, i32_at}
use Rattle.layout.specs.Layout.{vertices, tets, length_right, counts_right, layout_right, coords_in, labels_in, parts_in}
use Rattle.layout.specs.between.Framed.{Framed}

-- ---- the tests of the header, one by one

pub record Long (f : List ℕ) : Type 0 where
  pub least : 24 ≤ length f
  pub most : length f ≤ 26648
  pub total : u32_at f 16 ≡ length f

pub length-says : (f : List ℕ) → length_right f ≡ true → Long f
unfolding length_right
length-says f e =
    let d = and_left (leb 24 (length f) && leb (length f) 26648) (eqb (u32_at f 16) (length f)) e in
    record {
      least = leb-true _ _ (and_left (leb 24 (length f)) (leb (length f) 26648) d);
      most = leb-true _ _ (and_right (leb 24 (length f)) (leb (length f) 26648) d);
      total = eqb-true _ _ (and_right (leb 24 (length f) && leb (length f) 26648) (eqb (u32_at f 16) (length f)) e);
    }

pub record Counted (f : List ℕ) : Type 0 where
  pub vertex : vertices f ≤ 512
  pub tet : tets f ≤ 2048

pub counts_say : (f : List ℕ) → counts_right f ≡ true → Counted f
unfolding counts_right
counts_say f e =
    record {
      vertex = leb-true _ _ (and_left (leb (vertices f) 512) (leb (tets f) 2048) e);
      tet = leb-true _ _ (and_right (leb (vertices f) 512) (leb (tets f) 2048) e);
    }

pub layout_says : (f : List ℕ) → layout_right f ≡ true → u32_at f 16 ≡ 24 + 12 * vertices f + 10 * tets f
unfolding layout_right
layout_says f e =
    eqb-true _ _ (and_right (eqb (u32_at f 4) 24 && eqb (u32_at f 12) (24 + 12 * vertices f)) _ (and_left _ (eqb (u32_at f 20) 0) e))

-- ---- what the three tell

pub framed : (f : List ℕ) (n t : ℕ) → length_right f ≡ true → counts_right f ≡ true → layout_right f ≡ true → n ≡ vertices f → t ≡ tets f → Framed f n t
framed f n t a b d p q =
    let l = length-says f a in
    let k = counts_say f b in
    record {
      vertex = p;
      tet = q;
      few_vertices = omega arith;
      few_tets = omega arith;
      whole = omega (arith, layout_says f d);
    }

module _ {f : List ℕ} {n t : ℕ} (h : Framed f n t) where
  -- no legal file has more than 26,648 bytes, and one with 512 vertices and 2,048 tetrahedra has so many
  pub longest : length f ≤ 26648
  longest = omega (arith, h.few_vertices, h.few_tets, h.whole)

  pub longest_reached : n ≡ 512 → t ≡ 2048 → length f ≡ 26648
  longest_reached p q = omega (arith, h.whole)

-- ---- what the file says

pub coords_long : (q : List ℕ) (k : ℕ) → length (coords_in q k) ≡ k
unfolding coords_in
coords_long q k = length_up (λ i. i32_at q (4 * i)) k

pub labels-long : (p : List ℕ) (k : ℕ) → length (labels_in p k) ≡ k
unfolding labels_in
labels-long p k = length_up (λ x. u16_at p (10 * (x / 4) + 2 * (x % 4))) k

pub parts-long : (p : List ℕ) (k : ℕ) → length (parts_in p k) ≡ k
unfolding parts_in
parts-long p k = length_up (λ j. u16_at p (10 * j + 8)) k
