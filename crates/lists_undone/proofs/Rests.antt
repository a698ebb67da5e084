-- A number and the character behind it, read from rest: the number is where it belongs. Assumes nothing.
use mathlib.Core.Path.{◌≡◌, refl, ◌∙◌, ap}
use mathlib.Core.Bool.{Bool, true, false, cond}
use mathlib.Core.List.{List, [], ◌∷◌, ◌++◌}
use Prim.Native.Nat.{ℕ, ◌+◌, ◌*◌, ◌≤◌, ◌<◌}
use native.Mathlib.Omega.{arith}
use borrow.Author.Tests.{ne_eqb}
use lib.Dec.{eqb}
use lib.IntN.{ℤ, pos, negsuc, nat_abs}
use lib.Signed.{mag}
use lib.ListN.{set}
use Rattle.writing_lists.specs.Printed.{signed_text}
use Rattle.std.specs.Prelude.{None}
use Rattle.reading_words.specs.declared.Form.TheVariants.{Empty, Number}
use Rattle.reading_words.specs.declared.Spot.{Spot}
use Rattle.reading_words.specs.declared.Spot.TheVariants.{Count, Coordinate, Label, Part}
use Rattle.reading_words.specs.Words.{is_blank, ends_word}
use Rattle.reading_words.specs.Steps.{spot_of, most, word_fault, counted, closed, line_behind, comment_behind, passed, next, ends_number}
use Rattle.reading_words.proofs.Faults.{most-word}
use Rattle.reading_lists.specs.Reading.{number_of, coords_with, labels_with, parts_with, Reading, reading, read1, read_all}
use Rattle.reading_lists.proofs.Pieces.{read-pieces}
use Rattle.lists_undone.proofs.Readers.{in_word, at_rest, at, below0, signed_read}
use Rattle.lists_undone.proofs.Spots.{spot_count, spot_coordinate, spot_label, spot_part, no_fault}

-- ---- a character that ends a word and begins no comment

pub record Separates (b : ℕ) : Type 0 where
  pub ends : ends_word b ≡ true
  pub silent : comment_behind false b ≡ false

pub space : Separates 32
unfolding ends_word is_blank comment_behind
space = record { ends = refl; silent = refl }

pub newline : Separates 10
unfolding ends_word is_blank comment_behind
newline = record { ends = refl; silent = refl }

-- ---- a number in its place

number_is : (l k n t : ℕ) (z : ℤ) → number_of (in_word l Number (below0 z) (nat_abs z) k n t) ≡ z
number_is l k n t (pos x) = refl
number_is l k n t (negsuc x) = refl

module _ (l k n t : ℕ) (cs : List ℤ) (ls ps : List ℕ) {b : ℕ} (c : Separates b) where
  closes : (m : Bool) (v : ℕ) → word_fault (in_word l Number m v k n t) ≡ None → read1 b (at l k n t cs ls ps Number m v) ≡ reading (at_rest (line_behind l b) (k + 1) (cond (eqb k 0) v n) (cond (eqb k 1) v t)) (coords_with (spot_of (in_word l Number m v k n t)) (number_of (in_word l Number m v k n t)) cs) (labels_with (spot_of (in_word l Number m v k n t)) v ls) (parts_with (spot_of (in_word l Number m v k n t)) v ps)
  unfolding read1 next closed counted passed ends_number
  closes m v f = rw (c.ends, f, c.silent)

  number_read : (z : ℤ) (s : Spot) → spot_of (in_word l Number (below0 z) (nat_abs z) k n t) ≡ s → k < 2 + 3 * n + 5 * t → nat_abs z ≤ most s (below0 z) → read_all (signed_text z ++ b ∷ []) (reading (at_rest l k n t) cs ls ps) ≡ reading (at_rest (line_behind l b) (k + 1) (cond (eqb k 0) (nat_abs z) n) (cond (eqb k 1) (nat_abs z) t)) (coords_with s z cs) (labels_with s (nat_abs z) ls) (parts_with s (nat_abs z) ps)
  number_read z s e w h =
      let m = below0 z in
      let v = nat_abs z in
      read-pieces (signed_text z) (b ∷ []) (at l k n t cs ls ps Empty false 0)
      ∙ ap (read1 b) (signed_read l k n t cs ls ps z (omega (arith, most-word s m)))
      ∙ closes m v (no_fault l m v k n t s e w h)
      ∙ rw (e, number_is l k n t z)

-- ---- at rest behind k numbers, on some line

pub record Rests (k n t : ℕ) (cs : List ℤ) (ls ps : List ℕ) (s : Reading) : Type 0 where
  pub line : ℕ
  pub is : s ≡ reading (at_rest line k n t) cs ls ps

-- a line end more
pub end_rests : {k n t : ℕ} {cs : List ℤ} {ls ps : List ℕ} {s : Reading} → Rests k n t cs ls ps s → Rests k n t cs ls ps (read_all (10 ∷ []) s)
unfolding read1 next closed passed ends_number
end_rests r = record { line = line_behind r.line 10; is = ap (read1 10) r.is ∙ rw (newline.ends, newline.silent) }

most_coordinate : (z : ℤ) (k : ℕ) → mag z < 2147483648 → nat_abs z ≤ most (Coordinate k) (below0 z)
most_coordinate (pos x) k h = omega arith
most_coordinate (negsuc x) k h = omega arith

module _ {cs : List ℤ} {ls ps : List ℕ} {s : Reading} {b : ℕ} (c : Separates b) where
  pub first_rests : (n : ℕ) → n < 4294967296 → Rests 0 0 0 cs ls ps s → Rests 1 n 0 cs ls ps (read_all (signed_text (pos n) ++ b ∷ []) s)
  first_rests n h r = record {
    line = line_behind r.line b;
    is = ap (read_all (signed_text (pos n) ++ b ∷ [])) r.is
        ∙ number_read r.line 0 0 0 cs ls ps c (pos n) Count (spot_count r.line Number false n 0 0 0 (omega arith)) (omega arith) (omega arith);
  }

  pub second_rests : (n t : ℕ) → t < 4294967296 → Rests 1 n 0 cs ls ps s → Rests 2 n t cs ls ps (read_all (signed_text (pos t) ++ b ∷ []) s)
  second_rests n t h r = record {
    line = line_behind r.line b;
    is = ap (read_all (signed_text (pos t) ++ b ∷ [])) r.is
        ∙ number_read r.line 1 n 0 cs ls ps c (pos t) Count (spot_count r.line Number false t 1 n 0 (omega arith)) (omega arith) (omega arith);
  }

  module _ (k k' n t : ℕ) (q : k' ≡ k + 1) (r : Rests k n t cs ls ps s) where
    later : 2 ≤ k → (v : ℕ) (cs' : List ℤ) (ls' ps' : List ℕ) (l : ℕ) → reading (at_rest l (k + 1) (cond (eqb k 0) v n) (cond (eqb k 1) v t)) cs' ls' ps' ≡ reading (at_rest l k' n t) cs' ls' ps'
    later h v cs' ls' ps' l = rw (ne_eqb k 0 (λ e. omega arith), ne_eqb k 1 (λ e. omega arith), q)

    number_rests : 2 ≤ k → (z : ℤ) (p : Spot) → spot_of (in_word r.line Number (below0 z) (nat_abs z) k n t) ≡ p → k < 2 + 3 * n + 5 * t → nat_abs z ≤ most p (below0 z) → Rests k' n t (coords_with p z cs) (labels_with p (nat_abs z) ls) (parts_with p (nat_abs z) ps) (read_all (signed_text z ++ b ∷ []) s)
    number_rests h z p e w m = record {
      line = line_behind r.line b;
      is = ap (read_all (signed_text z ++ b ∷ [])) r.is
          ∙ number_read r.line k n t cs ls ps c z p e w m
          ∙ later h (nat_abs z) _ _ _ (line_behind r.line b);
    }

    pub coordinate_rests : (i : ℕ) (z : ℤ) → k ≡ 2 + i → i < 3 * n → mag z < 2147483648 → Rests k' n t (set cs i z) ls ps (read_all (signed_text z ++ b ∷ []) s)
    coordinate_rests i z e h m =
        number_rests (omega arith) z (Coordinate i) (spot_coordinate r.line Number (below0 z) (nat_abs z) k n t i e h) (omega arith) (most_coordinate z i m)

    pub label_rests : (j i x : ℕ) → k ≡ 2 + 3 * n + (5 * j + i) → j < t → i < 4 → x < 65536 → Rests k' n t cs (set ls (4 * j + i) x) ps (read_all (signed_text (pos x) ++ b ∷ []) s)
    label_rests j i x e g h m =
        number_rests (omega arith) (pos x) (Label (4 * j + i)) (spot_label r.line Number false x k n t j i e g h) (omega arith) (omega arith)

    pub part_rests : (j x : ℕ) → k ≡ 2 + 3 * n + (5 * j + 4) → j < t → x < 65536 → Rests k' n t cs ls (set ps j x) (read_all (signed_text (pos x) ++ b ∷ []) s)
    part_rests j x e g m =
        number_rests (omega arith) (pos x) (Part j) (spot_part r.line Number false x k n t j e g) (omega arith) (omega arith)
