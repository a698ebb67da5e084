-- A second rule: quadrilaterals, with records of eight entries.
-- Which four vertices are one, and its triangles and part, are left open.
-- Assumes nothing.
use Rattle.std.specs.Prelude.{ℕ, ◌-◌, Bool, true, List, [], ◌∷◌, ◌++◌, map, get_or, take, drop}
use Rattle.base.specs.Lists.{keep, pad}
use Rattle.portions.specs.Portions.{Rule}
use Rattle.portions.specs.between.Tuples.{front, tuples}

pub record Quad : Type 0 where
  pub corners : List ℕ
  pub first : ℕ
  pub second : ℕ
  pub part : ℕ

-- kinds fall, so it is 65,535 less the kind; then the four corners
unfoldable pub quad_key : List ℕ → List ℕ
quad_key [] = []
quad_key (k ∷ vs) = (65535 - k) ∷ front 4 vs

abbrev pub quad_rule : Rule Quad
quad_rule = record {
  mark = λ q. 4 ∷ q.corners;
  key = quad_key;
  start = 65535 ∷ pad 4 0 [];
  end = 0 ∷ pad 4 0 [];
  size = 8;
  entries = λ q. 4 ∷ (q.corners ++ (q.first ∷ q.second ∷ q.part ∷ []));
  fits = λ q. true;
}

-- the quadrilateral that entries tell
unfoldable pub quad_of : List ℕ → Quad
quad_of xs = record { corners = take 4 (drop 1 xs); first = get_or xs 5 0; second = get_or xs 6 0; part = get_or xs 7 0 }

-- of a mesh of n vertices, where isQuad says which tuples are one in least form
unfoldable pub quad_list : ℕ → (List ℕ → Bool) → (List ℕ → ℕ) → (List ℕ → ℕ) → (List ℕ → ℕ) → List Quad
quad_list n isQuad f s p = map (λ c. record { corners = c; first = f c; second = s c; part = p c }) (keep isQuad (tuples n 4))
