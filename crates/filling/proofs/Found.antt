-- The numbers of a mesh's tetrahedra that pass a test, found one after the other. Assumes nothing.
use mathlib.Core.Path.{◌≡◌, refl, sym, ◌∙◌, ap}
use mathlib.Core.Bool.{Bool, true, false, cond}
use mathlib.Core.List.{List, [], ◌∷◌, ◌++◌, append_assoc, append-nil}
use Prim.Native.Nat.{ℕ, suc, ◌+◌, ◌-◌, ◌≤◌, ◌<◌}
use native.Mathlib.Decide.{dec_lt}
use native.Mathlib.Omega.{arith}
use borrow.Author.Tests.{lt-ltb, le-ltb}
use lib.Dec.{ltb}
use lib.ListN.{length, take, set, length-append, length-take}
use lib.Seq.{take_all, take_at, take-append-le, set-append_seam}
use Rattle.base.specs.Lists.{keep, up_to, pad}
use Rattle.base.proofs.Runs.{up_to-more}
use Rattle.record.specs.Entries.{tet_places, unused}
use Rattle.record.proofs.Entries.{pad-length}
use Rattle.filling.specs.declared.Tets.{Tets}
use Rattle.filling.specs.between.Numbered.{Numbered, pushed}

module _ (b : ℕ → Bool) where
  keep-last : (xs : List ℕ) (i : ℕ) → keep b (xs ++ (i ∷ [])) ≡ keep b xs ++ cond (b i) (i ∷ []) []
  unfolding keep
  keep-last [] i = refl
  keep-last (x ∷ xs) i = go (b x) (keep b xs) (cond (b i) (i ∷ []) []) (keep-last xs i)
    where
      go : (u : Bool) {r : List ℕ} (l s : List ℕ) → r ≡ l ++ s → cond u (x ∷ r) r ≡ cond u (x ∷ l) l ++ s
      go true l s e = ap (λ l. x ∷ l) e
      go false l s e = e

  pub keep-more : (i : ℕ) → b i ≡ true → keep b (up_to (i + 1)) ≡ keep b (up_to i) ++ (i ∷ [])
  keep-more i t = ap (keep b) (up_to-more i) ∙ keep-last (up_to i) i ∙ rw t

  pub keep_skip : (i : ℕ) → b i ≡ false → keep b (up_to (i + 1)) ≡ keep b (up_to i)
  keep_skip i t = ap (keep b) (up_to-more i) ∙ keep-last (up_to i) i ∙ rw (t, append-nil)

-- the first place that is not used, filled
padded_more : (p u : ℕ) (xs : List ℕ) (i : ℕ) → length xs < p → set (pad p u xs) (length xs) i ≡ pad p u (xs ++ (i ∷ []))
padded_more p u xs i l =
    let m : p - length xs ≡ suc (p - length (xs ++ (i ∷ []))) = omega (arith, length-append xs (i ∷ [])) in
    rw (m, set-append_seam, append_assoc)

-- one number more is found
module _ {xs : List ℕ} {f : Tets} (h : Numbered xs f) (i : ℕ) where
  list-more : Dec (length xs < tet_places) → cond (ltb f.count tet_places) (set f.list f.count i) f.list ≡ pad tet_places unused (take tet_places (xs ++ (i ∷ [])))
  list-more (yes l) =
      let n : length (xs ++ (i ∷ [])) ≤ tet_places = omega (arith, length-append xs (i ∷ [])) in
      rw (h.count, h.list, lt-ltb (length xs) tet_places l, take_all tet_places xs (omega arith), take_all tet_places (xs ++ (i ∷ [])) n) (padded_more tet_places unused xs i l)
  list-more (no l) =
      rw (h.count, le-ltb (length xs) tet_places (omega arith), take-append-le tet_places xs (i ∷ []) (omega arith)) h.list

  pub found-more : Numbered (xs ++ (i ∷ [])) (pushed f i)
  found-more = record { count = rw (h.count, length-append xs (i ∷ [])); list = list-more (dec_lt (length xs) tet_places) }

-- how many places there are, used or not
pub listed : {xs : List ℕ} {f : Tets} → Numbered xs f → length f.list ≡ tet_places
listed {xs} x = ap length x.list ∙ pad-length tet_places unused (take tet_places xs) (simp length-take (omega arith))

-- where they suffice, the numbers stand first, and none after them
module _ {xs : List ℕ} {f : Tets} (x : Numbered xs f) (h : f.count ≤ tet_places) where
  pub found_all : take f.count f.list ≡ xs
  found_all =
      let k : length xs ≤ tet_places = omega (arith, x.count) in
      rw (x.count, x.list, take_all tet_places xs k) (take_at xs _ (length xs) refl)

  pub found_padded : f.list ≡ pad tet_places unused (take f.count f.list)
  found_padded = x.list ∙ ap (pad tet_places unused) (take_all tet_places xs (omega (arith, x.count)) ∙ sym found_all)

-- the invariant of the loop that finds them
pub record FoundUp (b : ℕ → Bool) (i : ℕ) (f : Tets) : Type 0 where
  pub low : f.count ≤ i
  pub found : Numbered (keep b (up_to i)) f

module _ {b : ℕ → Bool} {i : ℕ} {f : Tets} (h : FoundUp b i f) where
  pub found_take : b i ≡ true → FoundUp b (i + 1) (pushed f i)
  found_take t = record { low = omega arith; found = rw (keep-more b i t) (found-more h.found i) }

  pub found_skip : b i ≡ false → FoundUp b (i + 1) f
  found_skip t = record { low = omega arith; found = rw (keep_skip b i t) h.found }
