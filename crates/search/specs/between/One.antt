-- There is one way at most in which a mesh, a table and hints are ready for a search.
-- Assumes nothing.
use Prim.Native.Nat.{ℕ}
use mathlib.Core.Path.{◌≡◌, sym, ◌∙◌}
use mathlib.Core.List.{List, ◌++◌}
use mathlib.Core.HLevel.{Σ_prop_path}
use lib.IntN.{ℤ}
use Rattle.std.proofs.Props.{props}
use Rattle.std.proofs.lemmas.List.{append_cancel_left}
use Rattle.tets_around.specs.between.Arrays.{Arrays}
use Rattle.facet_hints.specs.between.Hints.{HintsOf}
use Rattle.neighbours.specs.between.InLabels.{table_in}
use Rattle.neighbours.specs.between.Reading.{Tabled}
use Rattle.search.specs.between.Ready.{Ready}

tabled_one : {ls : List ℕ} {n : ℕ} {table : List ℕ} → IsProp (Tabled ls n table)
tabled_one {ls} {n} {table} x y =
    let set : (m : List ℕ) → IsProp (table ≡ table_in ls n ++ m) = Prim.hlevel props in
    let p : ◌≡◌ {A = (m : List ℕ) × (table ≡ table_in ls n ++ m)} (x.rest, x.is) (y.rest, y.is) = Σ_prop_path set (append_cancel_left (table_in ls n) x.rest y.rest (sym x.is ∙ y.is)) in
    λ i. record { rest = (p i).0; is = (p i).1 }

pub ready_one : (zs : List ℤ) (ls ps : List ℕ) (n : ℕ) (os es hs table : List ℕ) → IsProp (Ready zs ls ps n os es hs table)
ready_one zs ls ps n os es hs table x y =
    let arrays : IsProp (Arrays zs ls ps n os es) = Prim.hlevel props in
    let hinted : IsProp (HintsOf ls hs) = Prim.hlevel props in
    λ i. record { arrays = arrays x.arrays y.arrays i; hinted = hinted x.hinted y.hinted i; tabled = tabled_one x.tabled y.tabled i }
