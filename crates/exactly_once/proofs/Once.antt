-- Each arrangement of corners that meets the conditions is listed once, whichever way it is turned,
-- with exactly its own tetrahedra.
-- Nothing else is listed.
-- Assumes nothing.
use Prim.Native.Nat.{ℕ, zero, suc}
use mathlib.Core.Path.{◌≡◌, refl, sym, ◌∙◌, ap, ap₂, subst, fun_ext}
use mathlib.Core.Logic.{◌⊎◌, ⊎_elim}
use mathlib.Core.Bool.{Bool, true, false, not, cond, ◌&&◌, false≢true}
use mathlib.Core.List.Memᴰ
use mathlib.Core.List.{List, [], ◌∷◌, ◌++◌, map, append_assoc, Memᴰ}
use lib.Dec.{eqb, ltb}
use lib.ListN.{length, get_or, length-append, get_or-append}
use lib.Seq.{get_or-append_seam}
use native.Mathlib.Omega.{arith}
use borrow.Author.Tests.{ltb-true, eqb-true, eq-eqb, not-true, eqb-false}
use Rattle.base.specs.Lists.{all, every, keep, from, up_to, is_in, distinct, equal}
use Rattle.templates.specs.Tables.{Placing, Template, templates, at}
use Rattle.space.specs.Mesh.{Mesh, Tetrahedron}
use Rattle.cells.specs.Cells.{is_cell, belongs, numbers_from, numbers_of}
use Rattle.cells.proofs.Conditions.{cell-corners}
use Rattle.cells.specs.Full.{Cell, cell_in, allowed, grow, universe, cells_of, full_list}
use Rattle.least.specs.Least.{first_is_less, rises_at, is_least}
use Rattle.exactly_once.specs.Once.{is_turn, no_tetrahedron, ListedOnce}
use Rattle.base.proofs.Lists.{both_left, both_right, all-at, any_at, keep-map, keep-spread}
use Rattle.base.proofs.Members.{all_map}
use Rattle.base.proofs.Loop.{listed as by-places}
use Rattle.templates.proofs.Tests.{equal_eq, equal_refl, part, agree, both, any-from, covers, all_over, in_range, at_at, at_all, distinct-at, at-is_in}
use Rattle.least.proofs.Turns.{corner_tests, corners-all, turned-distinct, turned-length, size}
use Rattle.exactly_once.proofs.Turned.{same}
use Rattle.least.proofs.OneLeast.{pairwise, keep-none, identity, one-least, turn_twice, turn_back}
use Rattle.exactly_once.proofs.Grow.{mem_map, mem_spread, spread-only, mem_keep, keep_mem, keep-keep, fits, grow_mem, grow-once}

-- ---- the rules of the least form, by places

-- the pairs of places of which the first has the lesser vertex, from place k on
unfoldable pub pairs_of : ℕ → List Placing → List (List ℕ)
pairs_of k [] = []
pairs_of k (p ∷ ps) = map (λ j. j ∷ k ∷ []) p.below ++ pairs_of (suc k) ps

-- each place is above earlier ones only
unfoldable pub earlier : ℕ → List Placing → Bool
earlier k [] = true
earlier k (p ∷ ps) = in_range k p.below && earlier (suc k) ps

-- the search order and the places undo one another, and the places' rules are the corners' rules
unfoldable pub place_of : Template → List ℕ → List ℕ → Bool
place_of t p q = in_range (length t.places) p && equal (at t.places p) q

unfoldable pub place_tests : Template → List Bool
place_tests t =
    every (corner_tests t t.order) ∷
    in_range (length t.order) t.places ∷
    equal (at t.order t.places) (up_to t.corners) ∷
    in_range (length t.places) t.order ∷
    equal (at t.places t.order) (up_to t.corners) ∷
    eqb (length t.search) t.corners ∷
    earlier 0 t.search ∷
    covers (place_of t) t.less (pairs_of 0 t.search) ∷
    []

unfoldable pub differ : Template → Template → Bool
differ t s = not (eqb t.kind s.kind)

pub searches : all (λ t. every (place_tests t)) templates ≡ true
unfolding place_tests earlier place_of pairs_of corner_tests covers equal
searches = refl

pub kinds : pairwise differ templates ≡ true
unfolding pairwise differ
kinds = refl

pub all_append : {A : Type 0} (p : A → Bool) (xs ys : List A) → all p (xs ++ ys) ≡ (all p xs && all p ys)
all_append p [] ys = refl
all_append p (x ∷ xs) ys = go (p x) (all_append p xs ys)
  where
    go : (b : Bool) → all p (xs ++ ys) ≡ (all p xs && all p ys) → (b && all p (xs ++ ys)) ≡ (b && all p xs && all p ys)
    go true e = e
    go false e = refl

all_same : {A : Type 0} (p q : A → Bool) (xs : List A) → ((x : A) → Memᴰ x xs → p x ≡ q x) → all p xs ≡ all q xs
all_same p q [] f = refl
all_same p q (x ∷ xs) f = ap₂ (λ a b. a && b) (f x (Memᴰ.head refl)) (all_same p q xs (λ y h. f y (Memᴰ.tail h)))

-- the rules of one place
at_place : (p : Placing) (s : List ℕ) (v : ℕ) (u : List ℕ) (k : ℕ) → length s ≡ k → in_range k p.below ≡ true → all (λ q. first_is_less (at (s ++ (v ∷ u)) q)) (map (λ j. j ∷ k ∷ []) p.below) ≡ all (λ j. ltb (get_or s j 0) v) p.below
unfolding first_is_less
at_place p s v u k l e =
    all_map (λ q. first_is_less (at (s ++ (v ∷ u)) q)) (λ j. j ∷ k ∷ []) p.below
    ∙ all_same _ _ p.below (λ j h. ap₂ ltb (get_or-append s (v ∷ u) 0 j (omega (arith, ltb-true j k (all-at (λ k'. ltb k' k) p.below e h)))) (ap (λ k. get_or (s ++ (v ∷ u)) k 0) (sym l) ∙ get_or-append_seam s v u 0))

map_mem : {A B : Type 0} (f : A → B) (xs : List A) {x : A} → Memᴰ x xs → Memᴰ (f x) (map f xs)
map_mem {A = A} {B = B} f [] x3 = elim x3 [ ]
map_mem f (y ∷ ys) (Memᴰ.head q) = Memᴰ.head (ap f q)
map_mem f (y ∷ ys) (Memᴰ.tail h) = Memᴰ.tail (map_mem f ys h)

module _ (n : ℕ) where
  fits-length : (ps : List Placing) (s u : List ℕ) → fits allowed n ps s u ≡ true → length u ≡ length ps
  unfolding fits
  fits-length [] s [] e = refl
  fits-length [] s (v ∷ u) e = absurd (false≢true e)
  fits-length (p ∷ ps) s [] e = absurd (false≢true e)
  fits-length (p ∷ ps) s (v ∷ u) e = ap suc (fits-length ps (s ++ (v ∷ [])) u (both_right (ltb v n && allowed p s v) _ e))

  fits-rises : (ps : List Placing) (k : ℕ) (s u : List ℕ) → length s ≡ k → earlier k ps ≡ true → fits allowed n ps s u ≡ true → all (λ q. first_is_less (at (s ++ u) q)) (pairs_of k ps) ≡ true
  unfolding fits pairs_of earlier allowed
  fits-rises [] k s u l b e = refl
  fits-rises (p ∷ ps) k s [] l b e = absurd (false≢true e)
  fits-rises (p ∷ ps) k s (v ∷ u) l b e =
      all_append (λ q. first_is_less (at (s ++ (v ∷ u)) q)) (map (λ j. j ∷ k ∷ []) p.below) (pairs_of (suc k) ps)
      ∙ both _ _
      (at_place p s v u k l (both_left (in_range k p.below) _ b) ∙ both_right (not (is_in v s)) _ (both_right (ltb v n) _ (both_left (ltb v n && allowed p s v) _ e)))
      (ap (λ w. all (λ q. first_is_less (at w q)) (pairs_of (suc k) ps)) (sym (append_assoc s (v ∷ []) u))
      ∙ fits-rises ps (suc k) (s ++ (v ∷ [])) u (omega (arith, length-append s (v ∷ []))) (both_right (in_range k p.below) _ b) (both_right (ltb v n && allowed p s v) _ e))

  not-before : (s : List ℕ) (v : ℕ) (u : List ℕ) → distinct (s ++ (v ∷ u)) ≡ true → not (is_in v s) ≡ true
  not-before s v u d = go (is_in v s) refl
    where
      go : (b : Bool) → is_in v s ≡ b → not b ≡ true
      go true e =
          let i = at-is_in s v e in
          let z = distinct-at (s ++ (v ∷ u)) d i.0 (length s) (omega (arith, length-append s (v ∷ u))) (omega (arith, length-append s (v ∷ u))) (get_or-append s (v ∷ u) 0 i.0 i.1 ∙ i.2 ∙ sym (get_or-append_seam s v u 0)) in
          absurd (omega arith)
      go false e = refl

  rises-fits : (ps : List Placing) (k : ℕ) (s u : List ℕ) → length s ≡ k → earlier k ps ≡ true → length u ≡ length ps → all (λ v. ltb v n) u ≡ true → distinct (s ++ u) ≡ true → all (λ q. first_is_less (at (s ++ u) q)) (pairs_of k ps) ≡ true → fits allowed n ps s u ≡ true
  unfolding fits pairs_of earlier allowed
  rises-fits [] k s [] l b z a d e = refl
  rises-fits [] k s (v ∷ u) l b z a d e = absurd (omega arith)
  rises-fits (p ∷ ps) k s [] l b z a d e = absurd (omega arith)
  rises-fits (p ∷ ps) k s (v ∷ u) l b z a d e =
      let h = sym (all_append (λ q. first_is_less (at (s ++ (v ∷ u)) q)) (map (λ j. j ∷ k ∷ []) p.below) (pairs_of (suc k) ps)) ∙ e in
      both _ _
      (both _ _ (both_left (ltb v n) _ a)
      (both _ _ (not-before s v u d) (sym (at_place p s v u k l (both_left _ _ b)) ∙ both_left _ _ h)))
      (rises-fits ps (suc k) (s ++ (v ∷ [])) u (omega (arith, length-append s (v ∷ []))) (both_right (in_range k p.below) _ b) (omega arith)
      (both_right (ltb v n) _ a) (ap distinct (append_assoc s (v ∷ []) u) ∙ d)
      (ap (λ w. all (λ q. first_is_less (at w q)) (pairs_of (suc k) ps)) (append_assoc s (v ∷ []) u) ∙ both_right (all (λ q. first_is_less (at (s ++ (v ∷ u)) q)) (map (λ j. j ∷ k ∷ []) p.below)) _ h))

-- ---- the candidates of a kind

module _ {t : Template} (member : Memᴰ t templates) where
  tested : every (place_tests t) ≡ true
  tested = all-at (λ t. every (place_tests t)) templates searches member

  order_keeps : every (corner_tests t t.order) ≡ true
  unfolding place_tests
  order_keeps = part (place_tests t) tested 0

  search-length : length t.search ≡ t.corners
  unfolding place_tests
  search-length = eqb-true _ _ (part (place_tests t) tested 5)

  search_earlier : earlier 0 t.search ≡ true
  unfolding place_tests
  search_earlier = part (place_tests t) tested 6

  -- a tuple to search order and back, and the other way round
  to_order : (c : List ℕ) → length c ≡ t.corners → at (at c t.order) t.places ≡ c
  unfolding place_tests
  to_order c l =
      at_at c t.order t.places (part (place_tests t) tested 1) ∙ ap (at c) (equal_eq _ _ (part (place_tests t) tested 2) ∙ ap up_to (sym l)) ∙ at_all c

  to_letters : (x : List ℕ) → length x ≡ t.corners → at (at x t.places) t.order ≡ x
  unfolding place_tests
  to_letters x l =
      at_at x t.places t.order (part (place_tests t) tested 3) ∙ ap (at x) (equal_eq _ _ (part (place_tests t) tested 4) ∙ ap up_to (sym l)) ∙ at_all x

  least-places : (x : List ℕ) → is_least t (at x t.places) ≡ all (λ q. first_is_less (at x q)) (pairs_of 0 t.search)
  unfolding is_least rises_at place_of place_tests
  least-places x =
      all_over (place_of t) (λ p. first_is_less (at (at x t.places) p)) (λ q. first_is_less (at x q)) t.less (pairs_of 0 t.search)
      (λ p q e. ap first_is_less (at_at x t.places p (both_left (in_range (length t.places) p) _ e) ∙ ap (at x) (equal_eq _ q (both_right (in_range (length t.places) p) _ e))))
      (part (place_tests t) tested 7)

  -- what grows is in least form, and a least form grows
  fits-least : (n : ℕ) (x : List ℕ) → fits allowed n t.search [] x ≡ true → is_least t (at x t.places) ≡ true
  fits-least n x e = least-places x ∙ fits-rises n t.search 0 [] x refl search_earlier e

  least_fits : (n : ℕ) (c : List ℕ) → length c ≡ t.corners → all (λ v. ltb v n) c ≡ true → distinct c ≡ true → is_least t c ≡ true → fits allowed n t.search [] (at c t.order) ≡ true
  least_fits n c l a d e =
      rises-fits n t.search 0 [] (at c t.order) refl search_earlier
      (turned-length t t.order c order_keeps l ∙ size t t.order c order_keeps l ∙ sym search-length)
      (corners-all t t.order c order_keeps l (λ v. ltb v n) ∙ a)
      (turned-distinct t t.order c order_keeps l ∙ d)
      (sym (least-places (at c t.order)) ∙ ap (is_least t) (to_order c l) ∙ e)

-- ---- the listing

module _ (m : Mesh) {t : Template} (member : Memᴰ t templates) where
  letters : List ℕ → List ℕ
  letters s = at s t.places

  -- a turn of c that is in least form is the one least form
  only : (c r : List ℕ) {l : List ℕ} → keep (is_least t) (map (at c) t.turns) ≡ l ∷ [] → Memᴰ r t.turns → is_least t (at c r) ≡ true → at c r ≡ l
  only c r {l} q h e = Memᴰ.eq_of_singleton (subst (λ (x : List (List ℕ)). Memᴰ (at c r) x) q (keep_mem (is_least t) (map (at c) t.turns) (map_mem (at c) t.turns h) e))

  test : List ℕ → List ℕ → Bool
  test c d = is_cell m t d && is_turn t c (cell_in m t d)

  -- the cells of the kind of c that are turns of it
  own : (c : List ℕ) → is_cell m t c ≡ true → (r : List ℕ) × Memᴰ r t.turns × (keep (is_turn t c) (cells_of m t) ≡ cell_in m t (at c r) ∷ []) × (numbers_of m t (at c r) ≡ numbers_of m t c)
  unfolding cells_of universe letters test is_turn
  own c e = (
    w.0,
    w.1,
    keep-map (is_turn t c) (cell_in m t) (keep (is_cell m t) (map letters tuples))
        ∙ ap (map (cell_in m t))
        (keep-keep (λ d. is_turn t c (cell_in m t d)) (is_cell m t) (map letters tuples)
        ∙ keep-map (test c) letters tuples
        ∙ ap (map letters) (grow-once allowed n (λ x. test c (letters x)) t.search [] u fit (ap (test c) back ∙ good) one))
        ∙ ap (λ d. cell_in m t d ∷ []) back,
    (same m member w.1 c (cell-corners m t c e).long).numbers,
  )
    where
      n : ℕ
      n = length m.points

      tuples : List (List ℕ)
      tuples = grow allowed n t.search []

      w : (r : List ℕ) × Memᴰ r t.turns × (is_least t (at c r) ≡ true) × (keep (is_least t) (map (at c) t.turns) ≡ at c r ∷ [])
      w = one-least member c (cell-corners m t c e).long (cell-corners m t c e).apart

      d : List ℕ
      d = at c w.0

      is_c : is_cell m t d ≡ true
      is_c = (same m member w.1 c (cell-corners m t c e).long).cell ∙ e

      u : List ℕ
      u = at d t.order

      back : letters u ≡ d
      back = to_order member d (cell-corners m t d is_c).long

      fit : fits allowed n t.search [] u ≡ true
      fit = least_fits member n d (cell-corners m t d is_c).long (cell-corners m t d is_c).below (cell-corners m t d is_c).apart w.2

      good : test c d ≡ true
      good = both _ _ is_c (both _ _ (eq-eqb t.kind t.kind refl) (any-from (λ r. equal (at c r) d) t.turns w.1 (equal_refl d)))

      one : (x : List ℕ) → fits allowed n t.search [] x ≡ true → test c (letters x) ≡ true → x ≡ u
      one x f q =
          let l : length x ≡ t.corners = fits-length n t.search [] x f ∙ search-length member in
          let a = any_at (λ r. equal (at c r) (letters x)) t.turns (both_right (eqb t.kind t.kind) _ (both_right (is_cell m t (letters x)) _ q)) in
          let z = equal_eq (at c a.0) (letters x) a.2 in
          sym (to_letters member x l) ∙ ap (λ y. at y t.order) (sym z ∙ only c a.0 w.3 a.1 (ap (is_least t) z ∙ fits-least member n x f))

-- ---- the full list

module _ (m : Mesh) where
  listed : {t : Template} → Memᴰ t templates → (c : List ℕ) → is_cell m t c ≡ true → (r : List ℕ) × Memᴰ r t.turns × (keep (is_turn t c) (full_list m) ≡ cell_in m t (at c r) ∷ []) × (numbers_of m t (at c r) ≡ numbers_of m t c)
  unfolding full_list differ cells_of is_turn
  listed {t} h c e =
      let w = own m h c e in (
        w.0,
        w.1,
        keep-spread (is_turn t c) (cells_of m) templates
            ∙ spread-only (λ s. keep (is_turn t c) (cells_of m s)) differ templates kinds h no_tetrahedron
            ∙ w.2,
        w.3,
      )
    where
      no_tetrahedron : (s : Template) → Memᴰ s templates → (differ t s ≡ true) ⊎ (differ s t ≡ true) → keep (is_turn t c) (cells_of m s) ≡ []
      no_tetrahedron s k d =
          keep-none (is_turn t c) (cells_of m s) (λ x g q.
          let y = mem_map (cell_in m s) (keep (is_cell m s) (universe (length m.points) s)) g in
          let z : s.kind ≡ t.kind = ap (λ (x : Cell). x.kind) (sym y.2) ∙ eqb-true x.kind t.kind (both_left _ _ q) in
          ⊎_elim (λ b. eqb-false t.kind s.kind (not-true _ b) (sym z)) (λ b. eqb-false s.kind t.kind (not-true _ b) z) d)

  -- an entry comes from a tuple that grows
  from_cell : {d : Cell} → Memᴰ d (full_list m) → (t : Template) × Memᴰ t templates × (is_cell m t d.corners ≡ true) × (is_least t d.corners ≡ true) × (d ≡ cell_in m t d.corners)
  unfolding full_list cells_of universe
  from_cell {d} h =
      let a = mem_spread (cells_of m) templates h in
      let t = a.0 in
      let n = length m.points in
      let b = mem_map (cell_in m t) (keep (is_cell m t) (map (λ s. at s t.places) (grow allowed n t.search []))) a.2 in
      let q : d.corners ≡ b.0 = ap (λ (x : Cell). x.corners) b.2 in
      let k = mem_keep (is_cell m t) (map (λ s. at s t.places) (grow allowed n t.search [])) b.1 in
      let g = mem_map (λ s. at s t.places) (grow allowed n t.search []) k.0 in
      let f = grow_mem allowed n t.search [] g.1 in
      (t, a.1, ap (is_cell m t) q ∙ k.1, ap (is_least t) (q ∙ g.2 ∙ ap (λ s. at s t.places) f.1) ∙ fits-least a.1 n f.0 f.2, b.2 ∙ ap (cell_in m t) (sym q))

  entry : {d : Cell} → Memᴰ d (full_list m) → (t : Template) × Memᴰ t templates × (is_cell m t d.corners ≡ true) × (is_least t d.corners ≡ true) × (d ≡ cell_in m t d.corners) × (keep (is_turn t d.corners) (full_list m) ≡ d ∷ [])
  unfolding is_turn
  entry {d} h =
      let a = from_cell h in
      let t = a.0 in
      let w = listed a.1 d.corners a.2 in
      let i = identity a.1 in
      let self : is_turn t d.corners d ≡ true =
      both _ _ (eq-eqb d.kind t.kind (ap (λ (x : Cell). x.kind) a.4))
      (any-from (λ r. equal (at d.corners r) d.corners) t.turns i.1 (ap (λ c. equal c d.corners) (i.2 d.corners (cell-corners m t d.corners a.2).long) ∙ equal_refl d.corners)) in
      let z = Memᴰ.eq_of_singleton (subst (λ (x : List Cell). Memᴰ d x) w.2 (keep_mem (is_turn t d.corners) (full_list m) h self)) in
      (t, a.1, a.2, a.3, a.4, w.2 ∙ ap (λ x. x ∷ []) (sym z))

  -- whichever way a tuple is turned, its turns are the same entries
  is_turned : {t : Template} → Memᴰ t templates → {r : List ℕ} → Memᴰ r t.turns → (c : List ℕ) → length c ≡ t.corners → (d : Cell) → is_turn t (at c r) d ≡ is_turn t c d
  unfolding is_turn
  is_turned {t} h {r} k c l d =
      ap (λ b. eqb d.kind t.kind && b)
      (agree _ _
      (λ e. let a = any_at (λ s. equal (at (at c r) s) d.corners) t.turns e in
      let q = turn_twice h k a.1 c in
      any-from (λ s. equal (at c s) d.corners) t.turns q.1 (ap (λ x. equal x d.corners) (sym q.2) ∙ a.2))
      (λ e. let a = any_at (λ s. equal (at c s) d.corners) t.turns e in
      let b = turn_back h k c l in
      let q = turn_twice h b.1 a.1 (at c r) in
      any-from (λ s. equal (at (at c r) s) d.corners) t.turns q.1 (ap (λ x. equal x d.corners) (sym q.2 ∙ ap (λ x. at x a.0) b.2) ∙ a.2)))

  turned : {t : Template} → Memᴰ t templates → {r : List ℕ} → Memᴰ r t.turns → (c : List ℕ) → length c ≡ t.corners → keep (is_turn t (at c r)) (full_list m) ≡ keep (is_turn t c) (full_list m)
  turned h k c l = ap (λ f. keep f (full_list m)) (fun_ext (is_turned h k c l))

-- ---- the tetrahedra's numbers

module _ (m : Mesh) (t : Template) (c : List ℕ) where
  kept : (f : ℕ → Tetrahedron) (i k : ℕ) → numbers_from m t c i (map f (from i k)) ≡ keep (λ j. belongs m t c (f j)) (from i k)
  unfolding numbers_from keep
  kept f i zero = refl
  kept f i (suc k) = ap (λ r. cond (belongs m t c (f i)) (i ∷ r) r) (kept f (suc i) k)

  own-numbers : numbers_of m t c ≡ keep (λ i. belongs m t c (get_or m.tets i no_tetrahedron)) (up_to (length m.tets))
  unfolding numbers_of
  own-numbers = ap (numbers_from m t c 0) (sym (by-places no_tetrahedron m.tets)) ∙ kept (λ i. get_or m.tets i no_tetrahedron) 0 (length m.tets)

-- every mesh lists each of its cells once
pub once : (m : Mesh) → ListedOnce m
once m = record { listed = listed m; turned = turned m; entry = entry m; own = own-numbers m }
