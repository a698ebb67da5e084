-- What an answer tells of the first refusal, and the file's refusal from that of its header. Assumes nothing.
use mathlib.Core.Path.{◌≡◌, refl, sym, ap, ◌∙◌}
use mathlib.Core.List.{List, ◌++◌}
use Prim.Native.Nat.{ℕ, ◌<◌}
use native.Mathlib.Omega.{arith}
use borrow.Author.Tests.{not-false}
use Rattle.std.specs.Prelude.{Err}
use Rattle.base.specs.Refusals.{first_of}
use Rattle.base.proofs.Refusals.{Passed, passed, first_past, first-told}
use Rattle.refusals.specs.declared.Refusal.{Refusal}
use Rattle.refusals.specs.Named.{number_of}
use Rattle.refusals.proofs.Named.{number_above, number_named, first_named, unless_ok, unless_err, ok_says, err_says}
use Rattle.layout.specs.Layout.{vertices, tets, coords_of, labels_of}
use Rattle.layout.specs.between.Framed.{Framed}
use Rattle.layout.proofs.Framed.{framed}
use Rattle.arrays.specs.Refusals.{of_header, of_numbers, of_tets, refusals, refusal, accepted, answered}
use Rattle.arrays.specs.between.Headed.{headed}

-- each refusal of a file has a name
pub refusal_named : (f : List ℕ) → refusal f < 17
unfolding refusal
refusal_named f = first_named (refusals f) refl

module _ (f : List ℕ) where
  -- ---- an answer from the first refusal k

  pub answer-refused : {r : Refusal} {k : ℕ} → number_of r ≡ k → Err r ≡ answered k f
  answer-refused e = unless_err _ e

  pub answer-accepted : {n t k : ℕ} → 0 ≡ k → n ≡ vertices f → t ≡ tets f → accepted n t ≡ answered k f
  answer-accepted {n} {t} {k} e p q = unless_ok e (λ i. record { vertices = p i; tets = q i })

  -- ---- and back

  pub accepted-says : {n t k : ℕ} → answered k f ≡ accepted n t → (k ≡ 0) × ((n ≡ vertices f) × (t ≡ tets f))
  accepted-says e =
      let s = ok_says e in
      (s.0, (ap (λ c. c.vertices) (sym s.1), ap (λ c. c.tets) (sym s.1)))

  pub refused_says : {r : Refusal} {k : ℕ} → k < 17 → answered k f ≡ Err r → k ≡ number_of r
  refused_says {r} {k} l e =
      let s = err_says _ e in
      sym (number_named k s.1 l) ∙ ap number_of s.0

  -- ---- the header

  -- a refusal of the header is the file's
  pub header_refused : {r : Refusal} → headed f ≡ Err r → refusal f ≡ number_of r
  unfolding refusal
  header_refused {r} e =
      let s = refused_says (first_named (of_header f) refl) e in
      first-told (of_header f) (of_numbers (coords_of f) (labels_of f) ++ of_tets (coords_of f) (labels_of f)) (omega (arith, number_above r)) ∙ s

  module _ {n t : ℕ} (e : headed f ≡ accepted n t) where
    header-passed : Passed (of_header f)
    header-passed = passed (of_header f) refl (accepted-says e).0

    pub header-framed : Framed f n t
    header-framed =
        let p = header-passed in
        let s = accepted-says e in
        framed f n t (not-false _ p.0) (not-false _ p.1.0) (not-false _ p.1.1.0) s.1.0 s.1.1

    -- where it is sound, the others decide
    pub refusal-rest : refusal f ≡ first_of (of_numbers (coords_of f) (labels_of f) ++ of_tets (coords_of f) (labels_of f))
    unfolding refusal
    refusal-rest = first_past (of_header f) (of_numbers (coords_of f) (labels_of f) ++ of_tets (coords_of f) (labels_of f)) header-passed
