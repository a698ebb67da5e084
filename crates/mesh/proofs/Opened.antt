-- What an opened view answers: of an accepted file its mesh. Assumes nothing.
use mathlib.Core.Path.{◌≡◌, sym, ◌∙◌, ap}
use mathlib.Core.List.{List}
use mathlib.Core.Bool.{true, cond}
use Prim.Native.Nat.{ℕ}
use lib.Dec.{ltb}
use borrow.Author.Tests.{ne_eqb}
use denote.Ref.{Bor}
use Rattle.space.specs.Mesh.{point}
use Rattle.space.specs.declared.Vertex.{Vertex}
use Rattle.space.specs.declared.Tet.{Tet}
use Rattle.layout.specs.Layout.{decoded}
use Rattle.layout.specs.between.Framed.{Framed}
use Rattle.arrays.specs.Refusals.{refusal, accepted, checked}
use Rattle.refusals.specs.Named.{unless}
use Rattle.arrays.proofs.Answers.{accepted-says}
use Rattle.arrays.proofs.Accepted.{accepted_gives}
use Rattle.view.specs.View.{fills_file, tetrahedron, four, place_in, tetra_in, part_in}
use Rattle.std.specs.Prelude.{Some, None}
use Rattle.view.proofs.Shown.{fits-framed, place-framed, tetra_framed, part-framed}
use Rattle.mesh.specs.Counts.{sizes_of, sizes_in}
use Rattle.mesh.specs.declared.View.{View}

-- the counts of the view
pub sizes_accepted : (f : List ℕ) (n t : ℕ) → checked f ≡ accepted n t → sizes_in f ≡ record { n = n; t = t }
unfolding sizes_in
sizes_accepted f n t e = ap sizes_of e

pub sizes_refused : (f : List ℕ) → (refusal f ≡ 0 → ⊥) → sizes_in f ≡ record { n = 0; t = 0 }
unfolding sizes_in unless
sizes_refused f h = rw (ne_eqb (refusal f) 0 h)

-- its answers, for an accepted file
module _ (f : List ℕ) (n t : ℕ) (e : checked f ≡ accepted n t) where
  whole : Framed f n t
  whole = let s = accepted-says f e in rw (s.1.0, s.1.1) (accepted_gives f s.0).framed

  pub fits-accepted : fills_file f n t ≡ true
  fits-accepted = fits-framed whole

  pub place-accepted : (v : Vertex) → place_in f n t v ≡ cond (ltb v.0 n) (Some (point (decoded f) v.0)) None
  place-accepted = place-framed whole

  pub tetra_accepted : (j : Tet) → tetra_in f n t j ≡ cond (ltb j.0 t) (Some (four (tetrahedron (decoded f) j.0))) None
  tetra_accepted = tetra_framed whole

  pub part-accepted : (j : Tet) → part_in f n t j ≡ cond (ltb j.0 t) (Some (tetrahedron (decoded f) j.0).part) None
  part-accepted = part-framed whole

-- ---- two views that the promise of `open` permits are one

pub record Opens (file : Bor (List ℕ)) (r : View) : Type 0 where
  pub held : r.file ≡ file
  pub vertex_count : r.n ≡ (sizes_in file.now).n
  pub tet_count : r.t ≡ (sizes_in file.now).t

pub open-one : (file : Bor (List ℕ)) (r s : View) → Opens file r → Opens file s → r ≡ s
open-one file r s p q =
    λ i. record { file = (p.held ∙ sym q.held) i; n = (p.vertex_count ∙ sym q.vertex_count) i; t = (p.tet_count ∙ sym q.tet_count) i }
