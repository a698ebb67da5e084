-- The next of a cell's tetrahedra, looked for around its corners. Assumes nothing.
use mathlib.Core.Path.{◌≡◌, refl, sym, ◌∙◌, ap}
use mathlib.Core.Bool.{Bool, true, false, ◌&&◌, ◌||◌, false≢true}
use mathlib.Core.List.{List, [], ◌∷◌, Memᴰ}
use Prim.Native.Nat.{ℕ, zero, suc, ◌+◌, ◌*◌, ◌-◌, ◌/◌, ◌≤◌, ◌<◌}
use native.Mathlib.Nat.{add-zero}
use native.Mathlib.Decide.{dec_lt}
use native.Mathlib.Omega.{arith}
use borrow.Author.Tests.{eqb-true, eqb-false, eq-eqb, not-true}
use lib.Dec.{eqb}
use lib.ListN.{length, get_or, set, replicate}
use lib.Seq.{get_or-set_same, get_or-set_other, set_out}
use Rattle.base.specs.Lists.{all, any, keep, up_to, is_in}
use Rattle.base.proofs.Bools.{and_left, and_right}
use Rattle.base.proofs.Lists.{all-at}
use Rattle.base.proofs.Members.{keep-has, map-has, from-has}
use Rattle.base.proofs.Runs.{place_of, kept-rises}
use Rattle.space.specs.Arrays.{row4}
use Rattle.space.specs.between.Working.{around}
use Rattle.tets_around.specs.between.Index.{Labelled}
use Rattle.cells.specs.between.Rows.{fours, owns}
use Rattle.templates.specs.Tables.{at}
use Rattle.templates.proofs.Tests.{any-from}
use Rattle.filling.specs.declared.Tets.{Tets}
use Rattle.own.specs.between.Stamps.{Hit}
use Rattle.own.proofs.Stamps.{place_in}
use Rattle.filling.specs.between.Next.{NeverFalls, LeastInRow, ReadUpTo, NextAround, Aside, NextOfAll, AllReadUpTo}
use Rattle.filling.proofs.Found.{FoundUp, keep_skip}

pub place-around : (ls : List ℕ) (v j : ℕ) → j < length ls / 4 → is_in v (row4 ls j) ≡ true → (p : ℕ) × (p < length (around ls v)) × (get_or (around ls v) p 0 ≡ j)
unfolding around
place-around ls v j h t = place_of _ (keep-has (λ i. is_in v (row4 ls i)) (up_to (length ls / 4)) (from-has 0 (length ls / 4) j (omega arith) (omega arith)) t)

-- ---- over a row

pub around-rises : (ls : List ℕ) (v : ℕ) → NeverFalls (around ls v)
unfolding around
around-rises ls v = record { up = λ i k l h. go i k l h (dec_lt i k) }
  where
    go : (i k : ℕ) → i ≤ k → k < length (around ls v) → Dec (i < k) → get_or (around ls v) i 0 ≤ get_or (around ls v) k 0
    go i k l h (yes q) = omega (arith, kept-rises (λ i. is_in v (row4 ls i)) 0 (length ls / 4) i k q h)
    go i k l h (no q) = let e : i ≡ k = omega arith in rw e (omega arith)

-- none so far
module _ {b : ℕ → Bool} {lo k : ℕ} {row : List ℕ} (a : ReadUpTo b lo row k) where
  none-next : {r : Bool} → Hit (b (get_or row k 0)) lo (get_or row k 0) r → r ≡ false → (i : ℕ) → Dec (i < k) → i < k + 1 → lo ≤ get_or row i 0 → b (get_or row i 0) ≡ false
  none-next l f i (yes h) g p = a.none i h p
  none-next l f i (no h) g p = let e : i ≡ k = omega arith in rw e (l.none f (rw e at p))

  pub passed-next : {r : Bool} → k < length row → Hit (b (get_or row k 0)) lo (get_or row k 0) r → r ≡ false → ReadUpTo b lo row (k + 1)
  passed-next m l f = record { low = omega arith; none = λ i. none-next l f i (dec_lt i k) }

  pub least-none : (hi : ℕ) → length row ≤ k → LeastInRow b lo hi row (length row) hi
  least-none hi h = record { le = omega arith; is = λ g. absurd (omega arith); none = λ i g p q. a.none i (omega arith) p }

  module _ (u : NeverFalls row) (m : k < length row) where
    -- from place k on, no number is below that at k
    none_after : (r : ℕ) → r ≤ get_or row k 0 → (i : ℕ) → Dec (i < k) → i < length row → lo ≤ get_or row i 0 → get_or row i 0 < r → b (get_or row i 0) ≡ false
    none_after r e i (yes h) g p q = a.none i h p
    none_after r e i (no h) g p q = absurd (omega (arith, u.up k i (omega arith) g))

    pub least-past : {hi : ℕ} → hi ≤ get_or row k 0 → LeastInRow b lo hi row (length row) hi
    least-past {hi} e = record { le = omega arith; is = λ h. absurd (omega arith); none = λ i. none_after hi e i (dec_lt i k) }

    pub least_hit : {hi : ℕ} {r : Bool} → get_or row k 0 < hi → Hit (b (get_or row k 0)) lo (get_or row k 0) r → r ≡ true → LeastInRow b lo hi row (length row) (get_or row k 0)
    least_hit h l t = record { le = omega arith; is = λ g. l.is t; none = λ i. none_after (get_or row k 0) (omega arith) i (dec_lt i k) }

-- ---- the places that rows are read up to

zeros : (n i : ℕ) → ◌≡◌ {A = ℕ} (get_or (replicate n 0) i 0) 0
zeros zero i = refl
zeros (suc n) zero = refl
zeros (suc n) (suc i) = zeros n i

pub reached-start : (b : ℕ → Bool) (ls c : List ℕ) (lo n : ℕ) → AllReadUpTo b ls c lo (replicate n 0)
reached-start b ls c lo n = record { at = λ k. rw (zeros n k) (record { low = omega arith; none = λ i h. absurd (omega arith) }) }

module _ {b : ℕ → Bool} {ls c : List ℕ} {lo : ℕ} {places : List ℕ} (a : AllReadUpTo b ls c lo places) where
  pub reached-from : {next : ℕ} → lo ≤ next → AllReadUpTo b ls c next places
  reached-from h = record { at = λ k. record { low = (a.at k).low; none = λ i g p. (a.at k).none i g (omega arith) } }

  at-put : (k : ℕ) {p : ℕ} → ReadUpTo b lo (around ls (get_or c k 0)) p → Dec (k < length places) → (j : ℕ) (u : Bool) → eqb j k ≡ u → ReadUpTo b lo (around ls (get_or c j 0)) (get_or (set places k p) j 0)
  at-put k {p} q (yes h) j true e = rw (eqb-true j k e, get_or-set_same places k p 0 h) q
  at-put k {p} q (no h) j true e = rw (set_out places k p (omega arith)) (a.at j)
  at-put k {p} q d j false e = rw (get_or-set_other places k j p 0 (eqb-false j k e)) (a.at j)

  pub reached-put : (k : ℕ) {p : ℕ} → ReadUpTo b lo (around ls (get_or c k 0)) p → AllReadUpTo b ls c lo (set places k p)
  reached-put k q = record { at = λ j. at-put k q (dec_lt k (length places)) j (eqb j k) refl }

-- ---- over the corners

pub next_start : {b : ℕ → Bool} {ls c out : List ℕ} {lo hi : ℕ} → NextAround b ls c lo hi 0 out hi
next_start = record { le = omega arith; is = λ h. absurd (omega arith); none = λ i j h. absurd (omega arith) }

module _ {b : ℕ → Bool} {ls c out : List ℕ} {lo hi k r : ℕ} (a : NextAround b ls c lo hi k out r) where
  -- a vertex left out
  none_out : is_in (get_or c k 0) out ≡ true → (i j : ℕ) → Dec (i < k) → i < k + 1 → is_in (get_or c i 0) out ≡ false → is_in (get_or c i 0) (row4 ls j) ≡ true → lo ≤ j → j < r → b j ≡ false
  none_out f i j (yes h) g o t p q = a.none i j h o t p q
  none_out f i j (no h) g o t p q = let e : i ≡ k = omega arith in absurd (false≢true (sym (rw e at o) ∙ f))

  pub next_out : is_in (get_or c k 0) out ≡ true → NextAround b ls c lo hi (k + 1) out r
  next_out f = record { le = a.le; is = a.is; none = λ i j. none_out f i j (dec_lt i k) }

  module _ {s : ℕ} (top : hi ≤ length ls / 4) (l : LeastInRow b lo r (around ls (get_or c k 0)) (length (around ls (get_or c k 0))) s) where
    is-corner : Dec (s < r) → s < hi → (lo ≤ s) × (b s ≡ true)
    is-corner (yes h) g = l.is h
    is-corner (no h) g = let e : s ≡ r = omega (arith, l.le) in rw e (a.is (omega (arith, l.le)))

    none-corner : (i j : ℕ) → Dec (i < k) → i < k + 1 → is_in (get_or c i 0) out ≡ false → is_in (get_or c i 0) (row4 ls j) ≡ true → lo ≤ j → j < s → b j ≡ false
    none-corner i j (yes h) g o t p q = a.none i j h o t p (omega (arith, l.le))
    none-corner i j (no h) g o t p q =
        let e : i ≡ k = omega arith in
        let w = place-around ls (get_or c k 0) j (omega (arith, top, a.le, l.le)) (rw e at t) in
        ap b (sym w.2) ∙ l.none w.0 w.1 (omega (arith, w.2)) (omega (arith, w.2))

    pub next-corner : NextAround b ls c lo hi (k + 1) out s
    next-corner = record {
      le = omega (arith, a.le, l.le);
      is = is-corner (dec_lt s r);
      none = λ i j. none-corner i j (dec_lt i k);
    }

-- ---- the corners left out

any_none : {A : Type 0} (p : A → Bool) (xs : List A) {x : A} → any p xs ≡ false → Memᴰ x xs → (u : Bool) → p x ≡ u → p x ≡ false
any_none p xs e m true f = absurd (false≢true (sym e ∙ any-from p xs m f))
any_none p xs e m false f = f

not-all : (p : ℕ → Bool) (xs : List ℕ) → all p xs ≡ false → (x : ℕ) × Memᴰ x xs × (p x ≡ false)
not-all p [] e = absurd (false≢true (sym e))
not-all p (x ∷ xs) e = go (p x) refl e (not-all p xs)
  where
    go : (b : Bool) → p x ≡ b → (b && all p xs) ≡ false → (all p xs ≡ false → (y : ℕ) × Memᴰ y xs × (p y ≡ false)) → (y : ℕ) × Memᴰ y (x ∷ xs) × (p y ≡ false)
    go false q e r = (x, Memᴰ.head refl, q)
    go true q e r = let h = r e in (h.0, Memᴰ.tail h.1, h.2)

one_of : (b : Bool) → (b || (b || (b || (b || false)))) ≡ true → b ≡ true
one_of true e = e
one_of false e = e

module _ (ls qs c : List ℕ) where
  abbrev test : ℕ → Bool
  test j = owns ls (fours qs) c j

  -- those of a quadrilateral
  pub aside_quad : (i : ℕ) → i < length qs / 4 → Aside test ls (at c (row4 qs i))
  unfolding owns
  aside_quad i h = record { apart = λ j g t. any_none (λ q. all (λ v. is_in v (at c q)) (row4 ls j)) (fours qs) (not-true _ (and_right (all (λ v. is_in v c) (row4 ls j)) _ t)) (map-has (row4 qs) (up_to (length qs / 4)) (from-has 0 (length qs / 4) i (omega arith) (omega arith))) _ refl }

  -- one number alone: a tetrahedron has four
  pub aside_none : {n : ℕ} → Labelled ls n → (x : ℕ) → Aside test ls (x ∷ x ∷ x ∷ x ∷ [])
  aside_none w x = record { apart = λ j g t. go j g (all (λ v. is_in v (x ∷ x ∷ x ∷ x ∷ [])) (row4 ls j)) refl }
    where
      go : (j : ℕ) → j < length ls / 4 → (u : Bool) → all (λ v. is_in v (x ∷ x ∷ x ∷ x ∷ [])) (row4 ls j) ≡ u → u ≡ false
      go j g false e = refl
      go j g true e =
          let v0 = get_or ls (4 * j) 0 in
          let v1 = get_or ls (4 * j + 1) 0 in
          let i0 = one_of (eqb v0 x) (and_left (is_in v0 (x ∷ x ∷ x ∷ x ∷ [])) _ e) in
          let i1 = one_of (eqb v1 x) (and_left (is_in v1 (x ∷ x ∷ x ∷ x ∷ [])) _ (and_right (is_in v0 (x ∷ x ∷ x ∷ x ∷ [])) _ e)) in
          absurd (false≢true (rw (eq-eqb v0 v1 (eqb-true v0 x i0 ∙ sym (eqb-true v1 x i1))) at (w.apart j g)))

  -- every tetrahedron of the cell has a corner of it that is not left out
  pub next-done : {out : List ℕ} {lo k r : ℕ} → Aside test ls out → NextAround test ls c lo (length ls / 4) k out r → length c ≤ k → NextOfAll test lo (length ls / 4) r
  unfolding owns
  next-done {out} {lo} {k} {r} w a h =
      record {
        le = a.le;
        from = up (dec_lt r (length ls / 4));
        is = λ g. (a.is g).1;
        none = λ j p q. go j p q (test j) refl;
      }
    where
      up : Dec (r < length ls / 4) → lo ≤ length ls / 4 → lo ≤ r
      up (yes g) l = (a.is g).0
      up (no g) l = omega (arith, a.le)

      go : (j : ℕ) → lo ≤ j → j < r → (u : Bool) → test j ≡ u → test j ≡ false
      go j p q false e = e
      go j p q true e =
          let x = not-all (λ v. is_in v out) (row4 ls j) (w.apart j (omega (arith, a.le)) e) in
          let y = place_in x.0 c (all-at (λ v. is_in v c) (row4 ls j) (and_left (all (λ v. is_in v c) (row4 ls j)) _ e) x.1) in
          let m = any-from (eqb x.0) (row4 ls j) x.1 (eq-eqb x.0 x.0 refl) in
          a.none y.0 j (omega (arith, y.1)) (rw y.2 x.2) (rw y.2 m) p q

-- ---- one after the other

keep-gap : (b : ℕ → Bool) (lo d : ℕ) → ((j : ℕ) → lo ≤ j → j < lo + d → b j ≡ false) → keep b (up_to (lo + d)) ≡ keep b (up_to lo)
keep-gap b lo zero f = rw (add-zero lo)
keep-gap b lo (suc d) f =
    let e : lo + suc d ≡ (lo + d) + 1 = omega arith in
    ap (λ n. keep b (up_to n)) e ∙ keep_skip b (lo + d) (f (lo + d) (omega arith) (omega arith)) ∙ keep-gap b lo d (λ j p q. f j p (omega arith))

pub found-gap : {b : ℕ → Bool} {lo hi r : ℕ} {f : Tets} → FoundUp b lo f → lo ≤ hi → NextOfAll b lo hi r → FoundUp b r f
found-gap {b} {lo} {hi} {r} {f} h l a =
    let p = a.from l in
    let e : lo + (r - lo) ≡ r = omega arith in
    let g : keep b (up_to r) ≡ keep b (up_to lo) = rw e at (keep-gap b lo (r - lo) (λ j u v. a.none j u (omega arith))) in
    record { low = omega (arith, h.low); found = rw g h.found }
