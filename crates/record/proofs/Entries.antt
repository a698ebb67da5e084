-- A record has its size and tells its cell, and so does a mark with the cell's tetrahedra.
-- Assumes nothing.
use Prim.Native.Nat.{ℕ, suc, ◌+◌, ◌-◌, ◌≤◌}
use mathlib.Core.Path.{◌≡◌, refl, sym, ◌∙◌, ap, ap₂}
use mathlib.Core.Bool.{true}
use mathlib.Core.List.{List, [], ◌∷◌, ◌++◌, append_assoc}
use lib.ListN.{length, get_or, take, drop, replicate, length-append, length-replicate, length-take}
use lib.Seq.{take_at, drop_at, drop-drop, get_or-drop}
use native.Mathlib.Omega.{arith}
use borrow.Author.Tests.{leb-true}
use Rattle.base.specs.Lists.{pad}
use Rattle.templates.specs.Tables.{template_of}
use Rattle.cells.specs.Full.{Cell, cell}
use Rattle.record.specs.Entries.{corner_places, tet_places, unused, count_at, record_size, fits, entries, cell_of}
use Rattle.record.specs.Marks.{cell_mark}
use Rattle.record.specs.between.Heads.{corners_of, cell_from, head_of}

pub pad-length : (k v : ℕ) (xs : List ℕ) → length xs ≤ k → length (pad k v xs) ≡ k
pad-length k v xs h = length-append xs (replicate (k - length xs) v) ∙ omega (arith, length-replicate (k - length xs) v)

-- its corners are as many as its kind has, and no more than there are places
pub record Cornered (c : Cell) : Type 0 where
  pub sized : length c.corners ≡ (template_of c.kind).corners
  pub few : length c.corners ≤ corner_places

module _ (c : Cell) (s : Cornered c) where
  pub entries-length : fits c ≡ true → length (entries c) ≡ record_size
  unfolding entries
  entries-length f =
      length-append (c.kind ∷ pad corner_places unused c.corners) _
      ∙ ap₂ (λ a b. suc a + suc b) (pad-length corner_places unused c.corners s.few) (pad-length tet_places unused c.tets (leb-true _ _ f))

  -- a record read back is the cell
  pub tells : cell_of (entries c) ≡ c
  unfolding entries cell_of
  tells =
      let front = c.kind ∷ pad corner_places unused c.corners in
      let back = length c.tets ∷ pad tet_places unused c.tets in
      let tail : drop count_at (front ++ back) ≡ back = drop_at front back count_at (ap suc (pad-length corner_places unused c.corners s.few)) in
      ap₂ (λ a b. cell c.kind a b)
      (ap (take (template_of c.kind).corners) (append_assoc c.corners _ back) ∙ take_at c.corners _ (template_of c.kind).corners s.sized)
      (ap₂ take (sym (get_or-drop count_at (front ++ back) 0 0) ∙ ap (λ l. get_or l 0 0) tail) (sym (drop-drop 1 count_at (front ++ back)) ∙ ap (drop 1) tail) ∙ take_at c.tets _ (length c.tets) refl)

  -- and so is the cell that its mark and its tetrahedra tell
  pub told_is : cell_from (cell_mark c) c.tets ≡ c
  told_is = ap (λ a. cell c.kind a c.tets) (take_at c.corners _ (template_of c.kind).corners s.sized)

-- a head, and then the places for tetrahedra, of which the first `count` are used
pub record_is : (k list : List ℕ) (count : ℕ) → count ≤ tet_places → list ≡ pad tet_places unused (take count list) → head_of k count ++ list ≡ entries (cell_from k (take count list))
unfolding head_of entries
record_is k list count h e =
    let ts = take count list in
    let front = get_or k 0 0 ∷ pad corner_places unused (corners_of k) in
    let l : length ts ≤ tet_places = simp length-take (omega arith) in
    let n : length list ≡ tet_places = ap length e ∙ pad-length tet_places unused ts l in
    append_assoc front (count ∷ []) list ∙ ap₂ (λ i xs. front ++ (i ∷ xs)) (let q : count ≡ length ts = simp length-take (omega arith) in q) e
