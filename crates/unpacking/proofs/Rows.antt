-- Lines of a table's rows, one more at a time, and how long they can be. Assumes nothing.
use mathlib.Core.Path.{◌≡◌, ◌∙◌, ap}
use mathlib.Core.List.{List, [], ◌∷◌, map}
use Prim.Native.Nat.{ℕ, suc, ◌+◌, ◌*◌, ◌-◌, ◌≤◌, ◌<◌}
use native.Mathlib.Omega.{arith}
use lib.IntN.{ℤ, pos}
use lib.ListN.{length, get_or, take, drop}
use lib.Seq.{drop-cons}
use mir.Syntax.{w64}
use mir.Val.{to_z, of_z}
use Rattle.base.specs.Laid.{Laid}
use Rattle.base.specs.Lists.{spread, up_to}
use Rattle.base.proofs.Lay.{laid_none}
use Rattle.base.proofs.Loop.{length_from}
use Rattle.base.proofs.Runs.{spread-up}
use Rattle.base.proofs.Signed.{to_z_pos}
use Rattle.lines.proofs.Numbers.{behind, spread-nil, spread-most}
use Rattle.lines.specs.Text.{decimal}
use Rattle.lines.proofs.Digits.{decimal-short}
use Rattle.space.specs.between.Working.{Close}
use Rattle.writing_lists.specs.Printed.{signed_text, line_of, vertex_row, tet_row}
use Rattle.writing_lists.proofs.Lengths.{signed_short, line_widths}
use Rattle.unpacking.specs.between.Sizes.{vertex_most, tet_most, ThreeDigits}

-- the first i rows stand from `from` on, and the next goes to `at`
pub record RowsLaid (f : ℕ → List ℕ) (from i at : ℕ) (old l : List ℕ) : Type 0 where
  pub next : at ≡ from + length (spread f (up_to i))
  pub text : Laid from (spread f (up_to i)) old l

module _ (f : ℕ → List ℕ) where
  pub no_rows : (from : ℕ) (l : List ℕ) → from ≤ length l → RowsLaid f from 0 from l l
  no_rows from l h = record {
    next = omega (arith, ap length (spread-nil f));
    text = laid_none from _ l (spread-nil f) h;
  }

  pub row_more : {from i at r : ℕ} {old l m : List ℕ} → RowsLaid f from i at old l → r ≡ at + length (f i) → Laid at (f i) l m → RowsLaid f from (i + 1) r old m
  row_more {i = i} d e g = let b = behind d.next d.text e g (spread-up f i) in record { next = b.0; text = b.1 }

  pub all-rows : {from k n at : ℕ} {old l : List ℕ} → k ≡ n → RowsLaid f from k at old l → (at ≡ from + length (spread f (up_to n))) × Laid from (spread f (up_to n)) old l
  all-rows e d = (rw e at d.next, rw e at d.text)

  module _ (m : ℕ) (short : (j : ℕ) → length (f j) ≤ m) where
    pub rows-most : (i : ℕ) → length (spread f (up_to i)) ≤ m * i
    rows-most i = rw (length_from 0 i) at (spread-most f m short (up_to i))

-- ---- the two tables

pub vertex-short : (cs : List ℤ) → Close cs → (v : ℕ) → length (line_of (vertex_row cs v)) ≤ vertex_most
vertex-short cs h v =
    let wide : (i : ℕ) → length (signed_text (get_or cs i (pos 0))) ≤ 6 = λ i. signed_short (get_or cs i (pos 0)) (omega (arith, (h.close i).small)) in
    omega (arith, line_widths (get_or cs (3 * v) (pos 0)) (get_or cs (3 * v + 1) (pos 0) ∷ get_or cs (3 * v + 2) (pos 0) ∷ []), wide (3 * v), wide (3 * v + 1), wide (3 * v + 2))

pub tet-short : (ls ps : List ℕ) → ThreeDigits ls → ((i : ℕ) → get_or ps i 0 < 65536) → (j : ℕ) → length (line_of (tet_row ls ps j)) ≤ tet_most
tet-short ls ps h g j =
    let wide : (i : ℕ) → length (decimal (get_or ls i 0)) ≤ 3 = λ i. decimal-short 2 (get_or ls i 0) (omega arith) (h.few i) in
    let part = decimal-short 4 (get_or ps j 0) (omega arith) (omega (arith, g j)) in
    omega (
      arith,
      line_widths (pos (get_or ls (4 * j) 0)) (pos (get_or ls (4 * j + 1) 0) ∷ pos (get_or ls (4 * j + 2) 0) ∷ pos (get_or ls (4 * j + 3) 0) ∷ pos (get_or ps j 0) ∷ []),
      wide (4 * j),
      wide (4 * j + 1),
      wide (4 * j + 2),
      wide (4 * j + 3),
      part,
    )

-- ---- what the slices lent hold

-- three entries of a list are a vertex's row
pub row_of : (cs : List ℤ) (v : ℕ) → 3 * v + 3 ≤ length cs → take (3 * v + 3 - 3 * v) (drop (3 * v) cs) ≡ vertex_row cs v
row_of cs v h =
    let k = 3 * v in
    let z = pos 0 in
    let three : k + 3 - k ≡ 3 = omega arith in
    let one : suc k ≡ k + 1 = omega arith in
    let two : suc (suc k) ≡ k + 2 = omega arith in
    ap (λ i. take i (drop k cs)) three
    ∙ ap (take 3) (drop-cons cs k z (omega arith))
    ∙ ap (λ r. take 3 (get_or cs k z ∷ r)) (drop-cons cs (suc k) z (omega arith))
    ∙ ap (λ r. take 3 (get_or cs k z ∷ get_or cs (suc k) z ∷ r)) (drop-cons cs (suc (suc k)) z (omega arith))
    ∙ ap (λ i. get_or cs k z ∷ get_or cs i z ∷ get_or cs (suc (suc k)) z ∷ []) one
    ∙ ap (λ i. get_or cs k z ∷ get_or cs (k + 1) z ∷ get_or cs i z ∷ []) two

-- a number of 16 bits in 64
abbrev pub Wide : ℤ → ℕ → Type 0
Wide z x = (z ≡ pos x) × (x < 65536)

kept : {z : ℤ} {x : ℕ} → Wide z x → to_z w64 (of_z w64 z) ≡ pos x
kept {z} {x} h = ap (λ y. to_z w64 (of_z w64 y)) h.0 ∙ to_z_pos w64 x (omega (arith, h.1))

-- five of them in an array are a tetrahedron's row
pub five_kept : {a b c d e : ℤ} {v w x y z : ℕ} → Wide a v → Wide b w → Wide c x → Wide d y → Wide e z
    → map (λ i. to_z w64 (of_z w64 i)) (a ∷ b ∷ c ∷ d ∷ e ∷ []) ≡ map pos (v ∷ w ∷ x ∷ y ∷ z ∷ [])
five_kept h i j k l = let a = kept h in let b = kept i in let c = kept j in let d = kept k in let e = kept l in cc
