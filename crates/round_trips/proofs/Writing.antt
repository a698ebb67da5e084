-- Writing what was read from an accepted file gives that file. Assumes nothing.
use mathlib.Core.Path.{◌≡◌, refl, sym, ◌∙◌, ap}
use mathlib.Core.Bool.{true, ◌&&◌}
use mathlib.Core.List.{List, [], ◌∷◌, ◌++◌, map, append_assoc, append-nil}
use Prim.Native.Nat.{ℕ, suc, ◌+◌, ◌*◌, ◌/◌, ◌≤◌, ◌<◌}
use native.Mathlib.Omega.{arith}
use lib.Dec.{eqb}
use lib.ListN.{length, take, drop, length-drop, take-append-drop}
use lib.Seq.{take_all, get_or-drop, drop-drop}
use borrow.Author.Tests.{eqb-true, not-false}
use Rattle.base.specs.Lists.{spread, up_to}
use Rattle.base.proofs.Bools.{and_left, and_right}
use Rattle.base.proofs.Refusals.{passed}
use Rattle.layout.specs.Bytes.{u16_at, u32_at, i32_at}
use Rattle.layout.specs.Layout.{vertices, tets, length_right, layout_right, vertex_part, tet_part, coords_in, labels_in, parts_in, coords_of, labels_of, parts_of}
use Rattle.layout.proofs.Framed.{length-says, coords_long, parts-long}
use Rattle.view.proofs.Says.{part_at, label0, label1, label2, label3}
use Rattle.arrays.specs.Refusals.{refusals, refusal}
use Rattle.encoding.specs.File.{u16_bytes, u32_bytes, i32_bytes, header_bytes, tet_bytes, coord_bytes, tets_bytes, file_of}
use Rattle.encoding.proofs.Strides.{rejoin}
use Rattle.round_trips.specs.Inverse.{AllBelow}
use Rattle.round_trips.proofs.Numbers.{next16, next32, at-below, bits_signed}

-- ---- what the header of an accepted file says

pub record SoundHeader (f : List ℕ) : Type 0 where
  pub size : length f ≡ 24 + 12 * vertices f + 10 * tets f
  pub short : length f ≤ 26648
  pub points : u32_at f 4 ≡ 24
  pub corners : u32_at f 12 ≡ 24 + 12 * vertices f
  pub total : u32_at f 16 ≡ 24 + 12 * vertices f + 10 * tets f
  pub none : u32_at f 20 ≡ 0

pub head_says : (f : List ℕ) → length_right f ≡ true → layout_right f ≡ true → SoundHeader f
unfolding layout_right
head_says f a e =
    let l = length-says f a in
    let p = eqb (u32_at f 4) 24 in
    let q = eqb (u32_at f 12) (24 + 12 * vertices f) in
    let r = eqb (u32_at f 16) (24 + 12 * vertices f + 10 * tets f) in
    let s = eqb (u32_at f 20) 0 in
    let x = and_left (p && q && r) s e in
    let t = eqb-true _ _ (and_right (p && q) r x) in
    record {
      size = sym l.total ∙ t;
      short = l.most;
      points = eqb-true _ _ (and_left p q (and_left (p && q) r x));
      corners = eqb-true _ _ (and_right p q (and_left (p && q) r x));
      total = t;
      none = eqb-true _ _ (and_right (p && q && r) s e);
    }

pub accepted-says : (f : List ℕ) → refusal f ≡ 0 → SoundHeader f
unfolding refusal
accepted-says f e =
    let p = passed (refusals f) refl e in
    head_says f (not-false _ p.0) (not-false _ p.1.1.0)

-- ---- the three parts

pub below-drop : (f : List ℕ) (n : ℕ) → AllBelow 256 f → AllBelow 256 (drop n f)
below-drop f n h = record { below = λ i. rw get_or-drop (h.below (n + i)) }

-- six numbers
six : ℕ → ℕ → ℕ → ℕ → ℕ → ℕ → List ℕ
six a b c d e g = u32_bytes a ++ u32_bytes b ++ u32_bytes c ++ u32_bytes d ++ u32_bytes e ++ u32_bytes g

six_back : (f : List ℕ) → AllBelow 256 f → 24 ≤ length f → take 24 f ≡ six (u32_at f 0) (u32_at f 4) (u32_at f 8) (u32_at f 12) (u32_at f 16) (u32_at f 20)
unfolding six u32_bytes u16_bytes
six_back f h g =
    next32 f h 0 20 (omega arith)
    ∙ ap (λ l. u32_bytes (u32_at f 0) ++ l) (next32 f h 4 16 (omega arith)
    ∙ ap (λ l. u32_bytes (u32_at f 4) ++ l) (next32 f h 8 12 (omega arith)
    ∙ ap (λ l. u32_bytes (u32_at f 8) ++ l) (next32 f h 12 8 (omega arith)
    ∙ ap (λ l. u32_bytes (u32_at f 12) ++ l) (next32 f h 16 4 (omega arith)
    ∙ ap (λ l. u32_bytes (u32_at f 16) ++ l) (next32 f h 20 0 (omega arith))))))

head_back : (f : List ℕ) → AllBelow 256 f → SoundHeader f → header_bytes (vertices f) (tets f) ≡ take 24 f
unfolding header_bytes six
head_back f h d =
    let n = vertices f in
    let t = tets f in
    ap (λ b. six n b t (24 + 12 * n) (24 + 12 * n + 10 * t) 0) (sym d.points)
    ∙ ap (λ b. six n (u32_at f 4) t b (24 + 12 * n + 10 * t) 0) (sym d.corners)
    ∙ ap (λ b. six n (u32_at f 4) t (u32_at f 12) b 0) (sym d.total)
    ∙ ap (λ b. six n (u32_at f 4) t (u32_at f 12) (u32_at f 16) b) (sym d.none)
    ∙ sym (six_back f h (omega arith))

spread-map : {A B : Type 0} (f : B → List ℕ) (g : A → B) (xs : List A) → spread f (map g xs) ≡ spread (λ x. f (g x)) xs
unfolding spread
spread-map f g [] = refl
spread-map f g (x ∷ xs) = ap (λ l. f (g x) ++ l) (spread-map f g xs)

-- the bytes of the coordinate that four bytes say
word_back : (q : List ℕ) → AllBelow 256 q → (i : ℕ) → i + 4 ≤ length q → i32_bytes (i32_at q i) ≡ take 4 (drop i q)
unfolding i32_bytes i32_at
word_back q h i g =
    ap u32_bytes (bits_signed (u32_at q i) (omega (arith, at-below q h i, at-below q h (i + 2))))
    ∙ sym (next32 q h i 0 g ∙ append-nil (u32_bytes (u32_at q i)))

points-back : (q : List ℕ) (k : ℕ) → AllBelow 256 q → 4 * k ≤ length q → coord_bytes (coords_in q k) ≡ take (4 * k) q
unfolding coords_in
points-back q k h g =
    spread-map i32_bytes (λ i. i32_at q (4 * i)) (up_to k)
    ∙ rejoin (λ i. i32_bytes (i32_at q (4 * i))) 4 q 0 k (λ j l. word_back q h (4 * j) (omega arith))

-- the bytes of the tetrahedron that ten bytes say
tet-back : (q : List ℕ) (t : ℕ) → AllBelow 256 q → 10 * t ≤ length q → (j : ℕ) → j < t → tet_bytes (labels_in q (4 * t)) (parts_in q t) j ≡ take 10 (drop (10 * j) q)
unfolding tet_bytes spread u16_bytes
tet-back q t h g j l =
    let i = 10 * j in
    rw (label0 q t j l, label1 q t j l, label2 q t j l, label3 q t j l, part_at q t j l)
    (sym (next16 q h i 8 (omega arith)
    ∙ ap (λ r. u16_bytes (u16_at q i) ++ r) (step (i + 2) 6 (i + 4) (omega arith) (omega arith)
    ∙ ap (λ r. u16_bytes (u16_at q (i + 2)) ++ r) (step (i + 4) 4 (i + 6) (omega arith) (omega arith)
    ∙ ap (λ r. u16_bytes (u16_at q (i + 4)) ++ r) (step (i + 6) 2 (i + 8) (omega arith) (omega arith)
    ∙ ap (λ r. u16_bytes (u16_at q (i + 6)) ++ r) (next16 q h (i + 8) 0 (omega arith)))))))
  where
    step : (i w k : ℕ) → i + 2 ≡ k → k ≤ length q → take (suc (suc w)) (drop i q) ≡ u16_bytes (u16_at q i) ++ take w (drop k q)
    step i w k e m = rw (← e) (next16 q h i w (omega arith))

tets-back : (q : List ℕ) (t : ℕ) → AllBelow 256 q → length q ≡ 10 * t → tets_bytes (labels_in q (4 * t)) (parts_in q t) ≡ q
tets-back q t h g =
    ap (λ k. spread (tet_bytes (labels_in q (4 * t)) (parts_in q t)) (up_to k)) (parts-long q t)
    ∙ rejoin (tet_bytes (labels_in q (4 * t)) (parts_in q t)) 10 q 0 t (λ j l. tet-back q t h (omega arith) j (omega arith))
    ∙ take_all (10 * t) q (omega arith)

-- ---- all together

pub write-back : (f : List ℕ) → AllBelow 256 f → refusal f ≡ 0 → file_of (coords_of f) (labels_of f) (parts_of f) ≡ f
unfolding file_of
write-back f h e =
    let d = accepted-says f e in
    let n = vertices f in
    let t = tets f in
    let q = vertex_part f in
    let p = tet_part n f in
    let a : length (coords_of f) / 3 ≡ n = omega (arith, coords_long q (3 * n)) in
    let k : 4 * (3 * n) ≡ 12 * n = omega arith in
    let x : header_bytes (length (coords_of f) / 3) (length (parts_of f)) ≡ take 24 f = rw (a, parts-long p t) (head_back f h d) in
    let y : coord_bytes (coords_of f) ≡ take (12 * n) q = points-back q (3 * n) (below-drop f 24 h) (omega (arith, length-drop 24 f)) ∙ ap (λ k. take k q) k in
    let z : tets_bytes (labels_of f) (parts_of f) ≡ p = tets-back p t (below-drop f (24 + 12 * n) h) (omega (arith, length-drop (24 + 12 * n) f)) in
    rw (x, y, z)
    (append_assoc (take 24 f) (take (12 * n) q) p
    ∙ ap (λ r. take 24 f ++ (take (12 * n) q ++ r)) (sym (drop-drop (12 * n) 24 f))
    ∙ ap (λ r. take 24 f ++ r) (take-append-drop (12 * n) q)
    ∙ take-append-drop 24 f)
