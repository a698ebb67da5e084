-- The answer to a file, by the refusals in their order; and what it tells.
-- Assumes nothing.
use Prim.Native.Nat.{ℕ, ◌/◌, ◌<◌, ◌≤◌}
use mathlib.Core.Path.{◌≡◌, refl, sym, ◌∙◌, ap}
use mathlib.Core.Bool.{Bool, true, false, not, cond}
use mathlib.Core.List.{List, [], ◌∷◌}
use native.Mathlib.Omega.{arith}
use borrow.Author.Tests.{eqb-true, ne_eqb, leb-true}
use lib.Dec.{eqb}
use lib.IntN.{ℤ}
use lib.ListN.{length}
use Rattle.base.specs.Lists.{all}
use Rattle.base.specs.Refusals.{refuse, first_of}
use Rattle.base.proofs.Refusals.{passed, first_past, first-told, told, past, none_left}
use Rattle.space.specs.Mesh.{Mesh}
use Rattle.layout.specs.Layout.{decoded}
use Rattle.arrays.specs.Refusals.{refusals, refusal}
use Rattle.templates.specs.Tables.{Template, hexahedron, prism, pyramid, template_of, tuple_of, is_kind}
use Rattle.least.specs.Least.{is_least}
use Rattle.cells.specs.Cells.{inside, is_tuple, has_edges, has_faces, is_sound, sides, is_filled, is_one_part, first_failing}
use Rattle.reasons.specs.declared.Finding.{Finding}
use Rattle.std.specs.Prelude.{Ok, Err}
use Rattle.refusals.specs.declared.Refusal.{Refusal}
use Rattle.refusals.specs.declared.Refusal.TheVariants.{NoKind}
use Rattle.refusals.specs.Named.{number_of}
use Rattle.refusals.proofs.Named.{number_above, first_named, unless_ok, unless_err, number_unless}
use Rattle.reasons.specs.First.{first_fail}
use Rattle.reasons.specs.Reason.{faces, is_closed, others, offending, least_from, cell_by, turned_by, triple_by, least_turn, found_cell, found_open, finding_at, finding, finding_of}
use Rattle.reasons.proofs.True.{found_is_true}
use Rattle.reasons.proofs.Listed.{found_is_listed}
use Rattle.reasons.specs.Numbers.{finding_number}
use Rattle.why.specs.Why.{why_refusals, found_unless, explained}
use Rattle.why.specs.Told.{Told}

module _ (f : List ℕ) (k : ℕ) (vs : List ℕ) where
  -- refusals 1 to 9 of the file
  pub file-refused : {r : Refusal} → refusal f ≡ number_of r → Err r ≡ explained f k vs
  unfolding explained found_unless refusal
  file-refused {r} e =
      unless_err (finding_of (decoded f) k vs) (sym (first-told (refusals f) (refuse 16 (not (is_kind k)) ∷ []) (omega (arith, number_above r)) ∙ e))

  -- past 1 to 9
  accepted : refusal f ≡ 0 → first_of (why_refusals f k) ≡ first_of (refuse 16 (not (is_kind k)) ∷ [])
  unfolding refusal
  accepted e = first_past (refusals f) (refuse 16 (not (is_kind k)) ∷ []) (passed (refusals f) refl e)

  -- 16
  pub kind-refused : refusal f ≡ 0 → is_kind k ≡ false → Err NoKind ≡ explained f k vs
  unfolding explained found_unless
  kind-refused e h = unless_err (finding_of (decoded f) k vs) (told refl 16 [] (ap not h) ∙ sym (accepted e))

  none-refused : refusal f ≡ 0 → is_kind k ≡ true → first_of (why_refusals f k) ≡ 0
  none-refused e h = accepted e ∙ sym (past refl 16 [] (ap not h) none_left)

  pub found_in : refusal f ≡ 0 → is_kind k ≡ true → explained f k vs ≡ Ok (finding_of (decoded f) k vs)
  unfolding explained found_unless
  found_in e h = sym (unless_ok (sym (none-refused e h)) refl)

  pub found-file : {m : Mesh} {w : Finding} → refusal f ≡ 0 → is_kind k ≡ true → m ≡ decoded f → w ≡ finding_of m k vs → Ok w ≡ explained f k vs
  found-file e h d g = ap Ok (g ∙ ap (λ m. finding_of m k vs) d) ∙ sym (found_in e h)

-- ---- what is told

few-corners : (k : ℕ) → (template_of k).corners ≤ 8
few-corners k = go (eqb k 8) (eqb k 6)
  where
    go : (a b : Bool) → (cond a hexahedron (cond b prism pyramid)).corners ≤ 8
    go true b = leb-true 8 8 refl
    go false true = leb-true 6 8 refl
    go false false = leb-true 5 8 refl

number-told : (f : List ℕ) (k : ℕ) (vs : List ℕ) → finding_number (explained f k vs) ≡ first_of (why_refusals f k)
unfolding explained found_unless
number-told f k vs = number_unless (first_of (why_refusals f k)) (finding_of (decoded f) k vs) (first_named (why_refusals f k) refl)

pub told-all : (f : List ℕ) (k : ℕ) (vs : List ℕ) → Told f k vs
told-all f k vs = record {
  refused = number-told f k vs;
  tells = λ e h l. rw (found_in f k vs e h) (found_is_true (decoded f) k vs (omega (arith, few-corners k)));
  listed = λ e h l. rw (found_in f k vs e h) (found_is_listed (decoded f) k vs (omega (arith, few-corners k)));
}
