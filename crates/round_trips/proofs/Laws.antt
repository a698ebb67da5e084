-- The laws of `specs/Inverse.antt` hold.
-- Assumes nothing.
use mathlib.Core.Path.{◌≡◌, refl, sym, ◌∙◌, ap}
use mathlib.Core.Bool.{Bool, true, false, cond, not, ◌&&◌, ◌||◌, false≢true}
use mathlib.Core.List.{List, [], ◌∷◌, ◌++◌, map}
use Prim.Native.Nat.{ℕ, ◌+◌, ◌*◌, ◌/◌, ◌%◌, ◌≤◌, ◌<◌}
use native.Mathlib.Decide.{dec_lt}
use native.Mathlib.Omega.{arith}
use lib.Dec.{eqb, ltb}
use lib.IntN.{ℤ, pos, negsuc, nat_abs}
use lib.Signed.{mag}
use lib.ListN.{length, get_or}
use borrow.Author.Tests.{eqb-true, ltb-true, ltb-false, eq-eqb, not-false}
use Rattle.base.specs.Lists.{any, up_to}
use Rattle.base.specs.Refusals.{Refusal, refuse, first_of}
use Rattle.base.proofs.Refusals.{numbered, passed, first_past, first-told}
use Rattle.base.proofs.Loop.{get_or-up, get_d_past}
use Rattle.layout.specs.Bytes.{u16_at, u32_at}
use Rattle.layout.specs.Layout.{vertices, tets, length_right, layout_right, vertex_part, tet_part, labels_in, parts_in, coords_of, labels_of, parts_of}
use Rattle.layout.proofs.Framed.{length-says, coords_long, labels-long, parts-long}
use Rattle.arrays.specs.Refusals.{refusals, refusal}
use Rattle.arrays.proofs.Accepted.{accepted_gives}
use Rattle.encoding.specs.File.{file_of}
use Rattle.encoding.proofs.Lengths.{file-long}
use Rattle.packing.specs.Packed.{lengths_fit, room_refusals, list_refusals, written_unless, packed, room_after}
use Rattle.std.specs.Prelude.{Result, Ok}
use Rattle.refusals.specs.declared.Refusal.{Refusal as Refused}
use Rattle.refusals.proofs.Named.{ok_says}
use Rattle.packing.proofs.Ways.{stored-whole, refused-length, packed-by, fit-by}
use Rattle.round_trips.specs.Inverse.{AllBelow, AllSigned, Listed, WrittenWhole, Packs, Inverse}
use Rattle.round_trips.proofs.Bytes.{file-below}
use Rattle.round_trips.proofs.Numbers.{at-below}
use Rattle.round_trips.proofs.Reading.{vertices-is, tets-is, offset_is, corner-is, total-is, none_is, read_back}
use Rattle.round_trips.proofs.Writing.{accepted-says, below-drop, write-back}

only_one : (f g : List ℕ) → AllBelow 256 f → AllBelow 256 g → refusal f ≡ 0 → refusal g ≡ 0
    → coords_of f ≡ coords_of g → labels_of f ≡ labels_of g → parts_of f ≡ parts_of g → f ≡ g
only_one f g a b p q x y z =
    sym (write-back f a p)
    ∙ ap (λ l. file_of l (labels_of f) (parts_of f)) x ∙ ap (λ l. file_of (coords_of g) l (parts_of f)) y ∙ ap (file_of (coords_of g) (labels_of g)) z
    ∙ write-back g b q

-- ---- what a file that was written tells

-- nothing is refused where `Ok` is answered, and its number is the length
whole_says : (rs : List Refusal) (s k : ℕ) → written_unless rs s ≡ Ok k → (first_of rs ≡ 0) × (k ≡ s)
unfolding written_unless
whole_says rs s k e = let o = ok_says e in (o.0, sym o.1)

-- two lists of refusals laid end to end, none of which applies
none_both : (xs ys : List Refusal) → numbered xs ≡ true → first_of (xs ++ ys) ≡ 0 → (first_of xs ≡ 0) × (first_of ys ≡ 0)
none_both xs ys n e = elim (dec_lt 0 (first_of xs)) [
  | yes h ↦ absurd (omega (arith, first-told xs ys h))
  | no h ↦ let z : first_of xs ≡ 0 = omega arith in (z, sym (first_past xs ys (passed xs n z)) ∙ e)
]

folded_back : (f : List ℕ) → first_of (refusals f) ≡ 0 → refusal f ≡ 0
unfolding refusal
folded_back f e = e

kept_by : (cs : List ℤ) (ls ps : List ℕ) (room k : ℕ) → AllSigned cs → AllBelow 65536 ls → AllBelow 65536 ps
    → packed cs ls ps room ≡ Ok k → WrittenWhole cs ls ps room k
unfolding packed
kept_by cs ls ps room k a b d e =
    let f = file_of cs ls ps in
    let w = whole_says (list_refusals cs ls ps room) (length f) k e in
    let p = none_both (refuse 14 (not (lengths_fit (length cs) (length ls) (length ps))) ∷ []) (room_refusals f room) refl w.0 in
    let q = none_both (refusals f) (refuse 15 (ltb room (length f)) ∷ []) refl p.1 in
    let x = not-false _ (passed (refuse 14 (not (lengths_fit (length cs) (length ls) (length ps))) ∷ []) refl p.0).0 in
    let y = ltb-false room (length f) (passed (refuse 15 (ltb room (length f)) ∷ []) refl q.1).0 in
    let c = folded_back f q.0 in
    let m = accepted-says f c in
    record {
      size = w.1;
      fits = omega arith;
      accepted = c;
      says = read_back cs ls ps (record { lengths = x; words = a; numbers = b; parts = d }) (omega arith);
    }

-- ---- what an accepted file says

mag_least : (z : ℤ) → mag z ≤ nat_abs z
mag_least (pos n) = omega arith
mag_least (negsuc n) = omega arith

below_up : (g : ℕ → ℕ) (b n : ℕ) → 0 < b → ((x : ℕ) → g x < b) → AllBelow b (map g (up_to n))
below_up g b n p h = record { below = λ i. at i (ltb i n) refl }
  where
    at : (i : ℕ) (t : Bool) → ltb i n ≡ t → get_or (map g (up_to n)) i 0 < b
    at i true e = rw (get_or-up g 0 n i (ltb-true i n e)) (h i)
    at i false e = rw (get_d_past g 0 n i (ltb-false i n e)) p

module _ (f : List ℕ) (h : AllBelow 256 f) (n t : ℕ) where
  two-below : (i : ℕ) → u16_at (tet_part n f) i < 65536
  two-below i = at-below (tet_part n f) (below-drop f (24 + 12 * n) h) i

  labels-below : AllBelow 65536 (labels_in (tet_part n f) (4 * t))
  unfolding labels_in
  labels-below = below_up _ 65536 (4 * t) (omega arith) (λ x. two-below (10 * (x / 4) + 2 * (x % 4)))

  parts_below : AllBelow 65536 (parts_in (tet_part n f) t)
  unfolding parts_in
  parts_below = below_up _ 65536 t (omega arith) (λ j. two-below (10 * j + 8))

lengths-fit : (f : List ℕ) → lengths_fit (length (coords_of f)) (length (labels_of f)) (length (parts_of f)) ≡ true
lengths-fit f =
    let p = tet_part (vertices f) f in
    let b = labels-long p (4 * tets f) in
    let d = parts-long p (tets f) in
    fit-by (length (coords_of f)) (length (labels_of f)) (length (parts_of f)) (vertices f) (coords_long (vertex_part f) (3 * vertices f)) (omega arith)

said : (f : List ℕ) → AllBelow 256 f → refusal f ≡ 0 → Listed (coords_of f) (labels_of f) (parts_of f)
said f h e =
    let c = (accepted_gives f e).close in
    record {
      lengths = lengths-fit f;
      words = record { word = λ i. omega (arith, mag_least (get_or (coords_of f) i (pos 0)), (c.close i).small) };
      numbers = labels-below f h (vertices f) (tets f);
      parts = parts_below f h (vertices f) (tets f);
    }

packed-again : (f : List ℕ) (room : ℕ) → AllBelow 256 f → refusal f ≡ 0 → length f ≤ room
    → packed (coords_of f) (labels_of f) (parts_of f) room ≡ Ok (length f)
packed-again f room h e g =
    sym (packed-by (coords_of f) (labels_of f) (parts_of f) room (lengths-fit f) (rw (write-back f h e) (stored-whole f room e g)))

-- ---- the layout

layout-right : (cs : List ℤ) (ls ps : List ℕ) → length (file_of cs ls ps) < 4294967296 → layout_right (file_of cs ls ps) ≡ true
unfolding layout_right
layout-right cs ls ps s =
    let f = file_of cs ls ps in
    let l = file-long cs ls ps in
    let n = vertices-is cs ls ps (omega arith) in
    let t = tets-is cs ls ps (omega arith) in
    let a = corner-is cs ls ps (omega arith) in
    let b = total-is cs ls ps (omega arith) in
    rw (
      eq-eqb (u32_at f 4) 24 (offset_is cs ls ps),
      eq-eqb (u32_at f 12) (24 + 12 * vertices f) (omega arith),
      eq-eqb (u32_at f 16) (24 + 12 * vertices f + 10 * tets f) (omega arith),
      eq-eqb (u32_at f 20) 0 (none_is cs ls ps),
    )

-- a number that is told is that of a refusal which applies
told-by : (k : ℕ) (rs : List Refusal) → first_of rs ≡ k → 0 < k → any (λ r. eqb r.no k && r.applies) rs ≡ true
unfolding first_of
told-by k [] e h = absurd (omega arith)
told-by k (r ∷ rs) e h = go r.applies refl e (λ d. told-by k rs d h) (eqb r.no k) refl
  where
    go : (b : Bool) → r.applies ≡ b → cond b r.no (first_of rs) ≡ k → (first_of rs ≡ k → any (λ x. eqb x.no k && x.applies) rs ≡ true) → (c : Bool)
        → eqb r.no k ≡ c → (eqb r.no k && r.applies || any (λ x. eqb x.no k && x.applies) rs) ≡ true
    go true q d f c p = rw (q, eq-eqb r.no k d)
    go false q d f true p = rw (q, p) (f d)
    go false q d f false p = rw p (f d)

never_3 : (cs : List ℤ) (ls ps : List ℕ) → refusal (file_of cs ls ps) ≡ 3 → ⊥
unfolding refusal
never_3 cs ls ps e = let f = file_of cs ls ps in go (length_right f) refl e (told-by 3 (refusals f) e (omega arith))
  where
    go : (a : Bool) → length_right (file_of cs ls ps) ≡ a → refusal (file_of cs ls ps) ≡ 3 → any (λ r. eqb r.no 3 && r.applies) (refusals (file_of cs ls ps)) ≡ true → ⊥
    go true p e t = let l = length-says (file_of cs ls ps) p in false≢true (rw (layout-right cs ls ps (omega arith)) at t)
    go false p e t = omega (arith, refused-length (file_of cs ls ps) p)

-- ---- two outcomes

one-outcome : (cs : List ℤ) (ls ps room : List ℕ) (a b : Result ℕ Refused) (r s : List ℕ) → Packs cs ls ps room a r → Packs cs ls ps room b s → (a ≡ b) × (r ≡ s)
one-outcome cs ls ps room a b r s p q =
    let e = p.answered ∙ sym q.answered in
    (e, p.stored ∙ ap (λ x. room_after (file_of cs ls ps) x room) e ∙ sym q.stored)

pub inverse : Inverse
inverse =
    record {
      read = read_back;
      written = write-back;
      listed = said;
      only = only_one;
      kept = kept_by;
      again = packed-again;
      framed = never_3;
      bytes = file-below;
      one = one-outcome;
    }
