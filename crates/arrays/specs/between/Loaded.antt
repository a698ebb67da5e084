-- A file read into working arrays.
-- Assumes nothing.
use Rattle.std.specs.Prelude.{ℕ, ◌+◌, ◌*◌, ◌≡◌, List, ℤ, pos, Result, Ok, Err, length, take, replicate}
use Rattle.space.specs.Arrays.{mesh_of}
use Rattle.tets_around.specs.declared.Mesh.{Mesh}
use Rattle.tets_around.specs.between.Arrays.{Arrays}
use Rattle.layout.specs.Layout.{decoded, coords_of, labels_of, parts_of}
use Rattle.refusals.specs.declared.Refusal.{Refusal}
use Rattle.refusals.specs.Named.{number_of}
use Rattle.arrays.specs.Refusals.{refusal}
use Rattle.arrays.specs.declared.Counts.{Counts}

-- the arrays are the lists of the file f of n vertices, and no longer, nor is the index: n + 1 starts of rows, and a place
-- among the rows to each label
pub record Cut (f : List ℕ) (n : ℕ) (m : Mesh) : Type 0 where
  pub coordinates : m.coords.now ≡ coords_of f
  pub numbers : m.index.labels.now ≡ labels_of f
  pub partition : m.parts.now ≡ parts_of f
  pub starts_long : length m.index.offsets.now ≡ n + 1
  pub rows_long : length m.index.entries.now ≡ length m.index.labels.now

-- the refusal of the file f is told; or none applies, and the arrays hold its mesh of n vertices, with its index
abbrev pub Loaded : List ℕ → ℕ → Result Mesh Refusal → Type 0
Loaded f n (Ok m) = (0 ≡ refusal f) × ((mesh_of m.coords.now m.index.labels.now m.parts.now ≡ decoded f) × ((m.index.n ≡ n) × Cut f n m))
Loaded f n (Err r) = number_of r ≡ refusal f

-- ---- a room's arrays, each with its values in front

-- a new room's
pub record Empty (zs : List ℤ) (ls ps os es : List ℕ) : Type 0 where
  pub coordinates : zs ≡ replicate 1536 (pos 0)
  pub numbers : ls ≡ replicate 8192 0
  pub partition : ps ≡ replicate 2048 0
  pub offsets : os ≡ replicate 513 0
  pub entries : es ≡ replicate 8192 0

-- the lists of the file f, of c's counts, stand in them
pub record Holds (f : List ℕ) (c : Counts) (zs : List ℤ) (ls ps : List ℕ) : Type 0 where
  pub coordinates : take (3 * c.vertices) zs ≡ coords_of f
  pub numbers : take (4 * c.tets) ls ≡ labels_of f
  pub partition : take c.tets ps ≡ parts_of f

-- an accepted mesh of c's counts stands in them, with its index
abbrev pub Ready : Counts → List ℤ → List ℕ → List ℕ → List ℕ → List ℕ → Type 0
Ready c zs ls ps os es = Arrays (take (3 * c.vertices) zs) (take (4 * c.tets) ls) (take c.tets ps) c.vertices (take (c.vertices + 1) os) (take (4 * c.tets) es)
