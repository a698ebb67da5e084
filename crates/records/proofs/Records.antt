-- The record of the cell that was found, and the loop that writes records.
-- Assumes nothing.
use Prim.Native.Nat.{ℕ, ◌+◌, ◌*◌, ◌/◌, ◌<◌, ◌≤◌}
use mathlib.Core.Path.{◌≡◌, refl, sym, ◌∙◌, ap, ap₂, subst}
use mathlib.Core.Bool.{Bool, true, false}
use mathlib.Core.List.{List}
use lib.ListN.{length, take}
use native.Mathlib.Omega.{arith}
use borrow.Author.Tests.{le-leb, lt-leb}
use Rattle.base.specs.Laid.{Laid}
use Rattle.base.proofs.Lay.{laid_as}
use Rattle.space.specs.Mesh.{Mesh}
use Rattle.cells.specs.Full.{full_list}
use Rattle.record.specs.declared.Mark.{Mark}
use Rattle.record.specs.Entries.{tet_places, entries}
use Rattle.record.specs.Marks.{mark_of}
use Rattle.record.specs.between.Heads.{cell_from}
use Rattle.record.proofs.Entries.{told_is}
use Rattle.filling.specs.declared.Tets.{Tets}
use Rattle.filling.proofs.Found.{found_all}
use Rattle.portions.specs.Portions as portions
use Rattle.portions.specs.Portions.{reply, portion, records, remains}
use Rattle.portions.specs.between.Steps.{Come}
use Rattle.portions.proofs.Loop.{portion-short, portion-none, portion-full, portion-long, under-size, next-is, outcome-short, outcome-none, outcome-full, outcome-long, come_step}
use Rattle.rule.specs.Rule.{tet_rule}
use Rattle.rule.proofs.Full.{lawful, full_sane}
use Rattle.following.specs.between.Following.{Came}
use Rattle.refusals.specs.declared.Refusal.TheVariants.{NoRoom, CellTooLong}
use Rattle.records.specs.Marks.{Answer, gave, barred_by}
use Rattle.records.specs.declared.Stopped.{Stopped}
use Rattle.records.specs.declared.Stopped.TheVariants.{Full, Ended, Long}
use Rattle.records.specs.between.Written.{Written, AnswersFull, StopsAt}

-- ── the cell that was found ──

module _ (m : Mesh) {k j : List ℕ} {f : Tets} (n : Came m k j f) where
  pub fits-few : f.count ≤ tet_places → tet_rule.fits n.cell ≡ true
  fits-few h = le-leb (length n.cell.tets) tet_places (omega (arith, n.tets.count))

  pub fits_many : tet_places < f.count → tet_rule.fits n.cell ≡ false
  fits_many h = lt-leb (length n.cell.tets) tet_places (omega (arith, n.tets.count))

  -- its mark and its tetrahedra tell it
  pub came_told : f.count ≤ tet_places → cell_from j (take f.count f.list) ≡ n.cell
  came_told h = ap₂ cell_from (sym n.marked) (found_all n.tets h) ∙ told_is n.cell (full_sane m (n.next.among refl)).cornered

-- ── the loop ──

module _ (m : Mesh) where
  -- no room for a record
  pub written-short : (k old : List ℕ) → length old < tet_rule.size → Written m k old (barred_by NoRoom 0) old
  written-short k old h = record {
    outcome = outcome-short tet_rule (full_list m) (lawful m) k old h;
    counted = ap (λ p. length p.written) (portion-short tet_rule (full_list m) (lawful m) k (length old) h);
  }

  module _ {k old j : List ℕ} {i : ℕ} {l : List ℕ} (x : Come tet_rule (full_list m) k old j i l) where
    counted_as : {a : portions.Answer} → portion tet_rule (full_list m) k (length old) ≡ reply a (records tet_rule x.done) → length (portion tet_rule (full_list m) k (length old)).written ≡ tet_rule.size * i
    counted_as e = ap (λ p. length p.written) e ∙ omega (arith, under-size tet_rule (full_list m) (lawful m) x.under, x.counted)

    module _ (wide : tet_rule.size ≤ length old) {left : Bool} (n : left ≡ remains tet_rule (full_list m) j) where
      -- no cell is left
      pub written_none : (e : Mark) → mark_of e ≡ tet_rule.end → left ≡ false → Written m k old (gave i true e) l
      written_none e q t = record {
        outcome = rw q (outcome-none tet_rule (full_list m) (lawful m) x wide n t);
        counted = counted_as (portion-none tet_rule (full_list m) (lawful m) wide x.under (sym n ∙ t));
      }

      -- a cell is left, and no room for it
      pub written-full : (e : Mark) → mark_of e ≡ j → left ≡ true → i ≡ length old / tet_rule.size → Written m k old (gave i false e) l
      written-full e q t h = record {
        outcome = rw q (outcome-full tet_rule (full_list m) (lawful m) x wide n t h);
        counted = counted_as (portion-full tet_rule (full_list m) (lawful m) wide x.under (sym n ∙ t) (x.counted ∙ h));
      }

    -- a cell is left, with room for it, that no record can hold
    pub written-long : tet_rule.size ≤ length old → {j' : List ℕ} {f : Tets} (n : Came m j j' f) → i < length old / tet_rule.size → tet_places < f.count → Written m k old (barred_by CellTooLong i) l
    written-long wide n h o = let u = fits_many m n o in record {
      outcome = outcome-long tet_rule (full_list m) (lawful m) x wide n.next refl h u;
      counted = counted_as (portion-long tet_rule (full_list m) (lawful m) wide x.under (next-is tet_rule (full_list m) (lawful m) refl n.next) (omega (arith, x.counted)) u);
    }

    -- one more record
    pub come_on : {j' l' : List ℕ} {f : Tets} (n : Came m j j' f) → i < length old / tet_rule.size → f.count ≤ tet_places → Laid (i * tet_rule.size) (entries (cell_from j' (take f.count f.list))) l l' → Come tet_rule (full_list m) k old j' (i + 1) l'
    come_on {l' = l'} n h o d =
        subst (λ q. Come tet_rule (full_list m) k old q (i + 1) l') n.marked
        (come_step tet_rule (full_list m) (lawful m) x n.next refl h (fits-few m n o) (laid_as d (ap entries (came_told m n o))))

-- ── the answer ──

module _ (m : Mesh) {k old l : List ℕ} {p : Stopped} (x : StopsAt m k old p l) {i : ℕ} where
  pub filled-full : {j : Mark} {left : Bool} {a : Answer} → p ≡ Full i j → tet_rule.size ≤ length old → left ≡ remains tet_rule (full_list m) (mark_of j) → AnswersFull i left j a → Written m k old a l
  filled-full {j} {left} {a} e wide n f = go left refl (subst (λ q. StopsAt m k old q l) e x)
    where
      go : (b : Bool) → left ≡ b → StopsAt m k old (Full i j) l → Written m k old a l
      go true t y = subst (λ z. Written m k old z l) (sym (f.on t)) (written-full m y.0 wide n j refl t y.1)
      go false t y = subst (λ z. Written m k old z l) (sym (f.ends t).0) (written_none m y.0 wide n f.mark (f.ends t).1 t)

  pub filled-end : {j : Mark} {a : Answer} → p ≡ Ended i → AnswersFull i false j a → Written m k old a l
  filled-end e f =
      subst (λ z. Written m k old z l) (sym (f.ends refl).0) (subst (λ q. StopsAt m k old q l) e x f.mark (f.ends refl).1)

  pub filled-long : p ≡ Long i → Written m k old (barred_by CellTooLong i) l
  filled-long e = subst (λ q. StopsAt m k old q l) e x
