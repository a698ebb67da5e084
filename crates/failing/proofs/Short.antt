-- No table of a template is long. Assumes nothing.
use Prim.Native.Nat.{ℕ, ◌<◌}
use mathlib.Core.Path.{◌≡◌, refl}
use mathlib.Core.Bool.{Bool, true, false, cond}
use mathlib.Core.List.{List}
use native.Mathlib.Omega.{arith}
use borrow.Author.Tests.{ltb-true}
use lib.Dec.{eqb}
use lib.ListN.{length}
use Rattle.base.specs.Lists.{up_to}
use Rattle.templates.specs.Tables.{Template, hexahedron, prism, pyramid, template_of}
use Rattle.reasons.specs.First.{first_fail}
use Rattle.reasons.specs.Reason.{faces}
use Rattle.reasons.proofs.First.{fail_low}

pub record Short (t : Template) : Type 0 where
  pub corners : length (up_to t.corners) < 65536
  pub edges : length t.edges < 65536
  pub faces : length (faces t) < 65536
  pub triples : length t.triples < 65536

pub short : (k : ℕ) → Short (template_of k)
short k = go (eqb k 8) (eqb k 6)
  where
    go : (a b : Bool) → Short (cond a hexahedron (cond b prism pyramid))
    go true b = record { corners = ltb-true _ _ refl; edges = ltb-true _ _ refl; faces = ltb-true _ _ refl; triples = ltb-true _ _ refl }
    go false true = record { corners = ltb-true _ _ refl; edges = ltb-true _ _ refl; faces = ltb-true _ _ refl; triples = ltb-true _ _ refl }
    go false false = record { corners = ltb-true _ _ refl; edges = ltb-true _ _ refl; faces = ltb-true _ _ refl; triples = ltb-true _ _ refl }

-- so that the number of a row has 16 bits
pub fits : {A : Type 0} (p : A → Bool) (xs : List A) {i : ℕ} → i ≡ first_fail p xs → length xs < 65536 → i < 65536
fits p xs e h = omega (arith, e, fail_low p xs)
