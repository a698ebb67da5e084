-- The tetrahedra of a mesh in arrays have four different vertices each, so its cells have few. Assumes nothing.
use Prim.Native.Nat.{ℕ, ◌/◌}
use mathlib.Core.Path.{◌≡◌, ◌∙◌}
use mathlib.Core.Bool.{true}
use mathlib.Core.List.{List}
use native.Mathlib.Omega.{arith}
use lib.IntN.{ℤ}
use lib.ListN.{length}
use Rattle.base.specs.Lists.{all, up_to}
use Rattle.base.proofs.Lists.{all_from}
use Rattle.base.proofs.Members.{from_at}
use Rattle.space.specs.Arrays.{tet_at, mesh_of}
use Rattle.tets_around.specs.between.Index.{Labelled}
use Rattle.tets_around.proofs.Around.{all_map}
use Rattle.few.specs.Few.{is_apart, Few}
use Rattle.few.proofs.Few.{few}

pub labelled-apart : {ls : List ℕ} {n : ℕ} → Labelled ls n → (zs : List ℤ) (ps : List ℕ) → all is_apart (mesh_of zs ls ps).tets ≡ true
unfolding is_apart
labelled-apart {ls} w zs ps =
    all_map (tet_at ls ps) is_apart (up_to (length ls / 4))
    ∙ all_from (λ j. is_apart (tet_at ls ps j)) (up_to (length ls / 4)) (λ j h. w.apart j (omega (arith, from_at 0 (length ls / 4) h)))

pub labelled-few : {ls : List ℕ} {n : ℕ} → Labelled ls n → (zs : List ℤ) (ps : List ℕ) → Few (mesh_of zs ls ps)
labelled-few {ls} w zs ps = few (mesh_of zs ls ps) (labelled-apart w zs ps)
