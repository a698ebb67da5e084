-- What `load` hands out of a file leaves one outcome: the lists, and the index with nothing behind its rows.
-- Assumes nothing.
use mathlib.Core.Path.{◌≡◌, sym, ◌∙◌}
use mathlib.Core.List.{List, []}
use Prim.Native.Nat.{ℕ, zero, suc, ◌+◌, ◌≤◌, ◌<◌}
use native.Mathlib.Numerals.{add-one}
use native.Mathlib.Decide.{dec_lt}
use native.Mathlib.Omega.{arith}
use lib.ListN.{length, get_or}
use Rattle.std.proofs.lemmas.List.{get_or_past}
use Rattle.std.specs.Prelude.{Ok, Err}
use Rattle.tets_around.specs.declared.Mesh.{Mesh}
use Rattle.tets_around.specs.between.Arrays.{Arrays}
use Rattle.tets_around.specs.between.Build.{count_below}
use Rattle.tets_around.specs.between.Index.{Labelled, row_start, Indexed, Kept}
use Rattle.tets_around.proofs.Places.{rank_hit, rank_mono, first-le}
use Rattle.tets_around.proofs.Rows.{first-start}
use Rattle.tets_around.proofs.Once.{index-once}
use Rattle.refusals.specs.declared.Refusal.{Refusal}
use Rattle.refusals.proofs.Named.{name_same, number_above}
use Rattle.arrays.specs.between.Loaded.{Loaded}

-- ---- the rows hold a place to each label

module _ (ls : List ℕ) where
  not_fewer : (x v : ℕ) → count_below ls x v ≤ count_below ls (x + 1) v
  unfolding count_below
  not_fewer x zero = omega arith
  not_fewer x (suc v) = omega (arith, not_fewer x v, rank_mono ls x (x + 1) v (omega arith))

  one_more : (x v : ℕ) → get_or ls x 0 < v → count_below ls x v < count_below ls (x + 1) v
  unfolding count_below
  one_more x zero h = absurd (omega arith)
  one_more x (suc v) h = elim (dec_lt (get_or ls x 0) v) [
    | yes l ↦ omega (arith, one_more x v l, rank_mono ls x (x + 1) v (omega arith))
    | no l ↦ omega (arith, not_fewer x v, rank_hit ls x v (omega arith))
  ]

  counted_all : (n x : ℕ) → ((k : ℕ) → k < x → get_or ls k 0 < n) → x ≤ count_below ls x n
  counted_all n zero f = omega arith
  counted_all n (suc x) f = rw (← add-one x) (omega (arith, counted_all n x (λ k h. f k (omega arith)), one_more x n (f x (omega arith))))

  pub rows_end : {n : ℕ} → Labelled ls n → row_start ls n ≡ length ls
  rows_end {n} w = omega (arith, first-start w n, first-le ls (length ls) n, counted_all n (length ls) w.below)

-- ---- one outcome

-- behind its end a list has nothing
kept_short : (l : List ℕ) (k : ℕ) → length l ≡ k → Kept k [] l
kept_short l k e = record { at = λ i h. get_or_past l i 0 (omega arith) }

-- what the type of a mesh knows of it
abbrev pub Known : Mesh → Type 0
Known m = Arrays m.coords.now m.index.labels.now m.parts.now m.index.n m.index.offsets.now m.index.entries.now

-- two meshes have the same lists and the same index
pub record Same (m m' : Mesh) : Type 0 where
  pub coordinates : m.coords.now ≡ m'.coords.now
  pub numbers : m.index.labels.now ≡ m'.index.labels.now
  pub partition : m.parts.now ≡ m'.parts.now
  pub count : m.index.n ≡ m'.index.n
  pub starts : m.index.offsets.now ≡ m'.index.offsets.now
  pub rows : m.index.entries.now ≡ m'.index.entries.now

index_same : {ls ls' : List ℕ} {n n' : ℕ} {os es os' es' : List ℕ} → ls ≡ ls' → n ≡ n' → Indexed ls n os es → Indexed ls' n' os' es' → length os ≡ n + 1 → length os' ≡ n + 1 → length es ≡ length ls → length es' ≡ length ls → (os ≡ os') × (es ≡ es')
index_same {ls} {ls'} {n} {n'} {os} {es} {os'} {es'} p q i j a b d e =
    let j' : Indexed ls n os' es' = rw (p, q) j in
    let r = rows_end ls i.labelled in
    index-once i j' (a ∙ sym b) (d ∙ sym e)
    (kept_short os (n + 1) a) (kept_short os' (n + 1) b)
    (kept_short es (row_start ls n) (d ∙ sym r)) (kept_short es' (row_start ls n) (e ∙ sym r))

pub loaded-once : {f : List ℕ} {n : ℕ} (m m' : Mesh) → Known m → Known m' → Loaded f n (Ok m) → Loaded f n (Ok m') → Same m m'
loaded-once m m' k k' a b =
    let x = a.1.1.1 in
    let y = b.1.1.1 in
    let l = x.numbers ∙ sym y.numbers in
    let c = a.1.1.0 in
    let i = index_same l (c ∙ sym b.1.1.0) k.indexed k'.indexed (rw c x.starts_long) (rw c y.starts_long) x.rows_long (rw l y.rows_long) in
    record {
      coordinates = x.coordinates ∙ sym y.coordinates;
      numbers = l;
      partition = x.partition ∙ sym y.partition;
      count = c ∙ sym b.1.1.0;
      starts = i.0;
      rows = i.1;
    }

-- a refusal leaves one outcome too, and of one file there is not the one and the other
pub refused_once : (f : List ℕ) (n : ℕ) (r r' : Refusal) → Loaded f n (Err r) → Loaded f n (Err r') → r ≡ r'
refused_once f n r r' a b = name_same r r' (a ∙ sym b)

pub loaded_or_refused : (f : List ℕ) (n : ℕ) (m : Mesh) (r : Refusal) → Loaded f n (Ok m) → Loaded f n (Err r) → ⊥
loaded_or_refused f n m r a b = omega (arith, number_above r, a.0, b)
