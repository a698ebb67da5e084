-- What going through the row of one of two vertices leaves out is not asked for.
-- Assumes nothing.
use Prim.Native.Nat.{ℕ, ◌+◌, ◌≤◌}
use mathlib.Core.Path.{◌≡◌, refl, sym, subst}
use mathlib.Core.Logic.{inl, inr, ⊎_elim}
use mathlib.Core.Bool.{true, not, ◌&&◌}
use mathlib.Core.List.{List}
use borrow.Author.Tests.{eqb-false, not-true}
use lib.Dec.{eqb}
use lib.ListN.{length}
use Rattle.base.proofs.Lists.{both_left, both_right}
use Rattle.tets_around.specs.declared.Row.{Row}
use Rattle.neighbours.specs.between.Reading.{row_in, Rowed, entries_of, InRow}
use Rattle.neighbours.proofs.Reading.{row_inside}
use Rattle.reaching.specs.declared.FaceEdge.{FaceEdge}
use Rattle.reaching.specs.between.Reaching.{Chosen, may_link, Faces, Links, Closes, LeastAsked, ByRow, HintedNext}
use Rattle.reaching.proofs.Least.{least-of, least_then}

pub by_in : {asked : ℕ → ℕ → Type 0} {table : List ℕ} {r : Row} {y v : ℕ} → InRow table r y → asked y v → ByRow asked (entries_of table r) (length (entries_of table r)) v
by_in i a = record { place = i.place; before = i.before; asks = rw i.is a }

-- a vertex that may link is not w
link_other : (e : FaceEdge) (x : ℕ) → may_link e x ≡ true → (x ≡ e.w.0 → ⊥)
unfolding may_link
link_other e x m =
    let f = both_left (not (eqb x e.u.0) && not (eqb x e.w.0)) _ m in
    eqb-false x e.w.0 (not-true _ (both_right (not (eqb x e.u.0)) _ f))

module _ {n : ℕ} {table : List ℕ} {u x : ℕ} {r : Row} (w : Chosen n table u x r) where
  pub chosen_inside : Rowed n table → r.from + r.size ≤ length table
  chosen_inside g =
      ⊎_elim (λ e. subst (λ q. q.from + q.size ≤ length table) (sym e) (row_inside g u)) (λ e. subst (λ q. q.from + q.size ≤ length table) (sym e) (row_inside g x)) w.is

  -- what stands in both rows stands in the one
  chosen_has : {v : ℕ} → InRow table (row_in n table u) v × InRow table (row_in n table x) v → InRow table r v
  chosen_has {v} i =
      ⊎_elim (λ e. subst (λ q. InRow table q v) (sym e) i.0) (λ e. subst (λ q. InRow table q v) (sym e) i.1) w.is

  pub faces-least : {hs : List ℕ} {lo best b c : ℕ} → LeastAsked (λ y. y ≡ x) lo best b → LeastAsked (ByRow (HintedNext hs u x) (entries_of table r) (length (entries_of table r))) lo b c → LeastAsked (Faces n table hs u x) lo best c
  faces-least p q =
      least_then p q (λ v f. ⊎_elim inl (λ i. inr (by_in (chosen_has i) (record { same = refl; hint = f.hint }))) f.stands)

module _ {n : ℕ} {table hs : List ℕ} {e : FaceEdge} {r : Row} (w : Chosen n table e.u.0 e.w.0 r) where
  -- a vertex that links w and another at u stands there
  pub link_in : {x v : ℕ} → Links n table hs e x v → InRow table r x
  link_in {x} l = ⊎_elim (λ q. absurd (link_other e x l.may q)) (chosen_has w) l.near.stands

  pub closes_least : {lo best c : ℕ} → LeastAsked (ByRow (Links n table hs e) (entries_of table r) (length (entries_of table r))) lo best c → LeastAsked (Closes n table hs e) lo best c
  closes_least a = least-of a (λ v c. by_in (link_in c.by) c.by)
