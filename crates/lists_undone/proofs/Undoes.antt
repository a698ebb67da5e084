-- Reading the text of lists gives the lists, line by line. Assumes nothing.
use mathlib.Core.Path.{◌≡◌, refl, sym, ◌∙◌, ap}
use mathlib.Core.List.{List, [], ◌∷◌, ◌++◌}
use Prim.Native.Nat.{ℕ, zero, suc, ◌+◌, ◌*◌, ◌/◌, ◌≤◌, ◌<◌}
use native.Mathlib.Numerals.{add-one}
use native.Mathlib.Nat.{add-zero}
use native.Mathlib.Omega.{arith}
use borrow.Author.Tests.{le-ltb}
use lib.IntN.{ℤ, pos}
use lib.ListN.{length, get_or, set}
use Rattle.base.specs.Lists.{spread, from, up_to}
use Rattle.writing_lists.specs.Printed.{signed_text, line_of, vertex_row, tet_row, text_of}
use Rattle.reading_words.specs.Steps.{begun}
use Rattle.reading_lists.specs.Reading.{Reading, reading, read_all, read_text, lists, said_by}
use Rattle.reading_lists.proofs.Pieces.{read-pieces}
use Rattle.lists_undone.specs.Undone.{Typed, Held, Texts}
use Rattle.lists_undone.proofs.Readers.{at_rest}
use Rattle.lists_undone.proofs.Rests.{Separates, space, newline, Rests, end_rests, first_rests, second_rests, coordinate_rests, label_rests, part_rests}
use Rattle.lists_undone.proofs.Printing.{line_one, line_more, over, over_next, over_all}

-- ---- a line, and lines

module _ {k n t : ℕ} {cs : List ℤ} {ls ps : List ℕ} where
  line_rests : (z : ℤ) (s : Reading) → Rests k n t cs ls ps (read_all (signed_text z ++ 10 ∷ []) s) → Rests k n t cs ls ps (read_all (line_of (z ∷ [])) s)
  line_rests z s r = record { line = r.line; is = ap (λ l. read_all l s) (line_one z) ∙ r.is }

  next_rests : (z y : ℤ) (zs : List ℤ) (s : Reading) → Rests k n t cs ls ps (read_all (line_of (y ∷ zs)) (read_all (signed_text z ++ 32 ∷ []) s)) → Rests k n t cs ls ps (read_all (line_of (z ∷ y ∷ zs)) s)
  next_rests z y zs s r = record {
    line = r.line;
    is = ap (λ l. read_all l s) (line_more z y zs) ∙ read-pieces (signed_text z ++ 32 ∷ []) (line_of (y ∷ zs)) s ∙ r.is;
  }

  pieces-rest : (a b : List ℕ) (s : Reading) → Rests k n t cs ls ps (read_all b (read_all a s)) → Rests k n t cs ls ps (read_all (a ++ b) s)
  pieces-rest a b s r = record { line = r.line; is = read-pieces a b s ∙ r.is }

  as_filled : {cs' : List ℤ} {ls' ps' : List ℕ} {s : Reading} → cs ≡ cs' → ls ≡ ls' → ps ≡ ps' → Rests k n t cs ls ps s → Rests k n t cs' ls' ps' s
  as_filled e f g r = rw (e, f, g) at r

-- ---- the lists

module _ (cs cs₀ : List ℤ) (ls ls₀ ps ps₀ : List ℕ) (n t : ℕ) (y : Typed cs ls ps n t) (p : length cs ≤ length cs₀) (q : length ls ≤ length ls₀) (r : length ps ≤ length ps₀) where
  -- behind i coordinates, and behind i labels and j parts
  abbrev Vertices : ℕ → Reading → Type 0
  Vertices i s = Rests (2 + i) n t (over cs cs₀ i) ls₀ ps₀ s

  abbrev Tets : ℕ → ℕ → ℕ → Reading → Type 0
  Tets k i j s = Rests k n t (over cs cs₀ (3 * n)) (over ls ls₀ i) (over ps ps₀ j) s

  coordinate : {b : ℕ} (c : Separates b) (i i' : ℕ) (s : Reading) → i' ≡ i + 1 → i < 3 * n → Vertices i s → Vertices i' (read_all (signed_text (get_or cs i (pos 0)) ++ b ∷ []) s)
  coordinate c i i' s e h a =
      as_filled (over_next cs cs₀ i (pos 0) (omega (arith, y.coordinates)) p ∙ ap (over cs cs₀) (sym e)) refl refl
      (coordinate_rests c (2 + i) (2 + i') n t (omega arith) a i (get_or cs i (pos 0)) refl h (y.words i))

  vertex : (v : ℕ) (s : Reading) → v < n → Vertices (3 * v) s → Vertices (3 * suc v) (read_all (line_of (vertex_row cs v)) s)
  vertex v s h a =
      next_rests _ _ _ s
      (next_rests _ _ _ _
      (line_rests _ _
      (coordinate newline (3 * v + 2) (3 * suc v) _ (omega arith) (omega arith)
      (coordinate space (3 * v + 1) (3 * v + 2) _ (omega arith) (omega arith)
      (coordinate space (3 * v) (3 * v + 1) _ refl (omega arith) a)))))

  vertices : (m v : ℕ) (s : Reading) → v + m ≡ n → Vertices (3 * v) s → Vertices (3 * n) (read_all (spread (λ v. line_of (vertex_row cs v)) (from v m)) s)
  unfolding spread
  vertices zero v s e a = let f : v ≡ n = omega arith in rw f at a
  vertices (suc m) v s e a =
      pieces-rest (line_of (vertex_row cs v)) (spread (λ v. line_of (vertex_row cs v)) (from (suc v) m)) s
      (vertices m (suc v) _ (omega arith) (vertex v s (omega arith) a))

  label : {b : ℕ} (c : Separates b) (j i k k' x x' : ℕ) (s : Reading) → k ≡ 2 + 3 * n + (5 * j + i) → k' ≡ k + 1 → x ≡ 4 * j + i → x' ≡ x + 1 → j < t → i < 4 → Tets k x j s → Tets k' x' j (read_all (signed_text (pos (get_or ls x 0)) ++ b ∷ []) s)
  label c j i k k' x x' s e f g g' h m a =
      as_filled refl (ap (λ z. set (over ls ls₀ x) z (get_or ls x 0)) (sym g) ∙ over_next ls ls₀ x 0 (omega (arith, y.labels)) q ∙ ap (over ls ls₀) (sym g')) refl
      (label_rests c k k' n t f a j i (get_or ls x 0) e h m (y.numbers x))

  part : {b : ℕ} (c : Separates b) (j k k' x : ℕ) (s : Reading) → k ≡ 2 + 3 * n + (5 * j + 4) → k' ≡ k + 1 → j < t → Tets k x j s → Tets k' x (suc j) (read_all (signed_text (pos (get_or ps j 0)) ++ b ∷ []) s)
  part c j k k' x s e f h a =
      as_filled refl refl (over_next ps ps₀ j 0 (omega (arith, y.parts)) r ∙ ap (over ps ps₀) (add-one j))
      (part_rests c k k' n t f a j (get_or ps j 0) e h (y.part_numbers j))

  tet : (j : ℕ) (s : Reading) → j < t → Tets (2 + 3 * n + 5 * j) (4 * j) j s → Tets (2 + 3 * n + 5 * suc j) (4 * suc j) (suc j) (read_all (line_of (tet_row ls ps j)) s)
  tet j s h a =
      let k = 2 + 3 * n + 5 * j in
      next_rests _ _ _ s
      (next_rests _ _ _ _
      (next_rests _ _ _ _
      (next_rests _ _ _ _
      (line_rests _ _
      (part newline j (k + 4) (2 + 3 * n + 5 * suc j) (4 * suc j) _ (omega arith) (omega arith) h
      (label space j 3 (k + 3) (k + 4) (4 * j + 3) (4 * suc j) _ (omega arith) (omega arith) refl (omega arith) h (omega arith)
      (label space j 2 (k + 2) (k + 3) (4 * j + 2) (4 * j + 3) _ (omega arith) (omega arith) refl (omega arith) h (omega arith)
      (label space j 1 (k + 1) (k + 2) (4 * j + 1) (4 * j + 2) _ (omega arith) (omega arith) refl (omega arith) h (omega arith)
      (label space j 0 k (k + 1) (4 * j) (4 * j + 1) _ (omega arith) (omega arith) (omega arith) (omega arith) h (omega arith) a)))))))))

  tets : (m j : ℕ) (s : Reading) → j + m ≡ t → Tets (2 + 3 * n + 5 * j) (4 * j) j s → Tets (2 + 3 * n + 5 * t) (4 * t) t (read_all (spread (λ j. line_of (tet_row ls ps j)) (from j m)) s)
  unfolding spread
  tets zero j s e a = let f : j ≡ t = omega arith in rw f at a
  tets (suc m) j s e a =
      pieces-rest (line_of (tet_row ls ps j)) (spread (λ j. line_of (tet_row ls ps j)) (from (suc j) m)) s
      (tets m (suc j) _ (omega arith) (tet j s (omega arith) a))

  -- ---- the text

  counts : (s : Reading) → Rests 0 0 0 cs₀ ls₀ ps₀ s → Rests 2 n t cs₀ ls₀ ps₀ (read_all (line_of (pos n ∷ pos t ∷ [])) s)
  counts s a =
      next_rests (pos n) (pos t) [] s
      (line_rests (pos t) _ (second_rests newline n t y.few_tets (first_rests space n y.few_vertices a)))

  vertex_text : List ℕ
  vertex_text = spread (λ v. line_of (vertex_row cs v)) (up_to n)

  tet_text : List ℕ
  tet_text = spread (λ j. line_of (tet_row ls ps j)) (up_to t)

  text-is : text_of cs ls ps ≡ line_of (pos n ∷ pos t ∷ []) ++ vertex_text ++ tet_text
  unfolding text_of vertex_text tet_text
  text-is = let e : length cs / 3 ≡ n = omega (arith, y.coordinates) in rw (e, y.parts)

  whole : Tets (2 + 3 * n + 5 * t) (4 * t) t (read_text (text_of cs ls ps) (reading begun cs₀ ls₀ ps₀))
  unfolding vertex_text tet_text
  whole =
      let s = reading begun cs₀ ls₀ ps₀ in
      let c = line_of (pos n ∷ pos t ∷ []) in
      let v = pieces-rest c vertex_text s (vertices n 0 (read_all c s) (omega arith) (counts s (record { line = 1; is = refl }))) in
      let w = tets t 0 (read_all (c ++ vertex_text) s) (omega arith) (rw (add-zero (2 + 3 * n)) v) in
      pieces-rest (text_of cs ls ps) (10 ∷ []) s (end_rests (rw text-is (pieces-rest (c ++ vertex_text) tet_text s w)))

  all_said : (l : ℕ) → said_by (at_rest l (2 + 3 * n + 5 * t) n t) ≡ lists n t
  unfolding said_by
  all_said l = rw (le-ltb (2 + 3 * n + 5 * t) (2 + 3 * n + 5 * t) (omega arith))

  held : Held cs cs₀ ls ls₀ ps ps₀ n t (read_text (text_of cs ls ps) (reading begun cs₀ ls₀ ps₀))
  held = record {
    said = ap (λ s. said_by s.reader) whole.is ∙ all_said whole.line;
    coordinates = ap (λ s. s.coordinates) whole.is ∙ ap (over cs cs₀) (sym y.coordinates) ∙ over_all cs cs₀;
    labels = ap (λ s. s.labels) whole.is ∙ ap (over ls ls₀) (sym y.labels) ∙ over_all ls ls₀;
    parts = ap (λ s. s.parts) whole.is ∙ ap (over ps ps₀) (sym y.parts) ∙ over_all ps ps₀;
  }

pub texts : Texts
texts = record { pieces = read-pieces; undone = held }
