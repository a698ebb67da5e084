-- The laws of `specs/Kept.antt` hold. Assumes nothing.
use mathlib.Core.Path.{◌≡◌, refl, sym, ◌∙◌, ap}
use mathlib.Core.Bool.{Bool, true, false, cond}
use mathlib.Core.List.{List, [], ◌∷◌, ◌++◌}
use Prim.Native.Nat.{ℕ, zero, suc, ◌*◌}
use native.Mathlib.Decide.{dec_lt}
use native.Mathlib.Omega.{arith}
use lib.IntN.{ℤ, pos}
use lib.ListN.{length, take, set, replicate, length-take, length-set, length-replicate}
use lib.Seq.{set_out, take-set-le, take-set-lt}
use Rattle.reading_words.specs.declared.Reader.{Reader}
use Rattle.reading_words.specs.declared.Spot.{Spot}
use Rattle.reading_words.specs.declared.Spot.TheVariants.{Count, Coordinate, Label, Part, Beyond}
use Rattle.reading_words.specs.Steps.{spot_of, next, ends_number, begun}
use Rattle.reading_lists.specs.Reading.{number_of, coords_with, labels_with, parts_with, Reading, reading, read1, read_all}
use Rattle.packing_front.specs.Front.{IsFront}
use Rattle.lists_undone.specs.Kept.{FrontOf, AsLong, KeptOf, TextsKept}

-- ---- fronts

module _ {A : Type 0} where
  take-set : (n : ℕ) (l : List A) (k : ℕ) (z : A) → take n (set l k z) ≡ set (take n l) k z
  take-set n l k z = elim (dec_lt k n) [
    | yes h ↦ take-set-lt n l k z h
    | no h ↦ take-set-le n l k z (omega arith) ∙ sym (set_out (take n l) k z (omega (arith, length-take n l)))
  ]

  set_front : (a b : List A) (k : ℕ) (z : A) → IsFront a b → IsFront (set a k z) (set b k z)
  set_front a b k z f =
      ap (λ n. take n (set a k z)) (length-set b k z)
      ∙ take-set (length b) a k z
      ∙ ap (λ l. set l k z) f
      ∙ sym (take-set (length a) b k z)
      ∙ ap (λ n. take n (set b k z)) (sym (length-set a k z))

  replicate-front : (m n : ℕ) (z : A) → IsFront (replicate m z) (replicate n z)
  replicate-front zero zero z = refl
  replicate-front zero (suc n) z = refl
  replicate-front (suc m) zero z = refl
  replicate-front (suc m) (suc n) z = ap (λ l. z ∷ l) (replicate-front m n z)

-- ---- what a byte does to a list

-- it keeps its length, and fronts
pub record Keeps {A : Type 0} (g : List A → List A) : Type 0 where
  pub long : (l : List A) → length (g l) ≡ length l
  pub front : (a b : List A) → IsFront a b → IsFront (g a) (g b)

module _ {A : Type 0} where
  same_keeps : Keeps {A = A} (λ l. l)
  same_keeps = record { long = λ l. refl; front = λ a b f. f }

  set_keeps : (k : ℕ) (z : A) → Keeps (λ l. set l k z)
  set_keeps k z = record { long = λ l. length-set l k z; front = λ a b f. set_front a b k z f }

  if_keeps : (c : Bool) {g : List A → List A} → Keeps g → Keeps (λ l. cond c (g l) l)
  if_keeps true h = h
  if_keeps false h = same_keeps

coords_keeps : (s : Spot) (z : ℤ) → Keeps (coords_with s z)
coords_keeps (Coordinate k) z = set_keeps k z
coords_keeps Count z = same_keeps
coords_keeps (Label k) z = same_keeps
coords_keeps (Part k) z = same_keeps
coords_keeps Beyond z = same_keeps

labels_keeps : (s : Spot) (v : ℕ) → Keeps (labels_with s v)
labels_keeps (Label k) v = set_keeps k v
labels_keeps Count v = same_keeps
labels_keeps (Coordinate k) v = same_keeps
labels_keeps (Part k) v = same_keeps
labels_keeps Beyond v = same_keeps

parts_keeps : (s : Spot) (v : ℕ) → Keeps (parts_with s v)
parts_keeps (Part k) v = set_keeps k v
parts_keeps Count v = same_keeps
parts_keeps (Coordinate k) v = same_keeps
parts_keeps (Label k) v = same_keeps
parts_keeps Beyond v = same_keeps

module _ (r : Reader) (b : ℕ) where
  byte_coords : Keeps (λ cs. cond (ends_number r b) (coords_with (spot_of r) (number_of r) cs) cs)
  byte_coords = if_keeps (ends_number r b) (coords_keeps (spot_of r) (number_of r))

  byte_labels : Keeps (λ ls. cond (ends_number r b) (labels_with (spot_of r) r.size ls) ls)
  byte_labels = if_keeps (ends_number r b) (labels_keeps (spot_of r) r.size)

  byte_parts : Keeps (λ ps. cond (ends_number r b) (parts_with (spot_of r) r.size ps) ps)
  byte_parts = if_keeps (ends_number r b) (parts_keeps (spot_of r) r.size)

-- ---- a text

read-lengths : (x : List ℕ) (s : Reading) → AsLong (read_all x s) s
unfolding read1
read-lengths [] s = record { coordinates = refl; labels = refl; parts = refl }
read-lengths (b ∷ x) s =
    let e = read-lengths x (read1 b s) in
    record {
      coordinates = e.coordinates ∙ (byte_coords s.reader b).long s.coordinates;
      labels = e.labels ∙ (byte_labels s.reader b).long s.labels;
      parts = e.parts ∙ (byte_parts s.reader b).long s.parts;
    }

read-fronts : (x : List ℕ) (r : Reader) (cs₀ cs₁ : List ℤ) (ls₀ ls₁ ps₀ ps₁ : List ℕ) → IsFront cs₀ cs₁ → IsFront ls₀ ls₁ → IsFront ps₀ ps₁
    → FrontOf (read_all x (reading r cs₀ ls₀ ps₀)) (read_all x (reading r cs₁ ls₁ ps₁))
unfolding read1
read-fronts [] r cs₀ cs₁ ls₀ ls₁ ps₀ ps₁ f g h = record { reader = refl; coordinates = f; labels = g; parts = h }
read-fronts (b ∷ x) r cs₀ cs₁ ls₀ ls₁ ps₀ ps₁ f g h =
    read-fronts x (next r b) _ _ _ _ _ _
    ((byte_coords r b).front cs₀ cs₁ f) ((byte_labels r b).front ls₀ ls₁ g) ((byte_parts r b).front ps₀ ps₁ h)

read-said : (x : List ℕ) (n t c l p : ℕ) → KeptOf x n t c l p
read-said x n t c l p =
    let y = x ++ 10 ∷ [] in
    let a = read-lengths y (reading begun (replicate c (pos 0)) (replicate l 0) (replicate p 0)) in
    let b = read-lengths y (reading begun (replicate (3 * n) (pos 0)) (replicate (4 * t) 0) (replicate t 0)) in
    let f = read-fronts y begun _ _ _ _ _ _ (replicate-front c (3 * n) (pos 0)) (replicate-front l (4 * t) 0) (replicate-front p t 0) in
    record {
      reader = f.reader;
      coordinates = a.coordinates ∙ length-replicate c (pos 0);
      labels = a.labels ∙ length-replicate l 0;
      parts = a.parts ∙ length-replicate p 0;
      fronts = record {
        threes = b.coordinates ∙ length-replicate (3 * n) (pos 0);
        fours = b.labels ∙ length-replicate (4 * t) 0;
        ones = b.parts ∙ length-replicate t 0;
        coordinates = f.coordinates;
        labels = f.labels;
        parts = f.parts;
      };
    }

pub kept : TextsKept
kept = record { lengths = read-lengths; fronts = read-fronts; said = read-said }
