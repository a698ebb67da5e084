-- The templates: of each kind the edges, the faces, the corner triples, the search order and the rotations.
-- Assumes nothing.
use Rattle.std.specs.Prelude.{ℕ, Bool, cond, ◌||◌, List, [], ◌∷◌, map, eqb, get_or, take}

-- the corners
abbrev pub a : ℕ
a = 0

abbrev pub b : ℕ
b = 1

abbrev pub c : ℕ
c = 2

abbrev pub d : ℕ
d = 3

abbrev pub e : ℕ
e = 4

abbrev pub f : ℕ
f = 5

abbrev pub g : ℕ
g = 6

abbrev pub h : ℕ
h = 7

-- a place of the search order, by number: the earlier places whose vertex must be less,
-- and those that an edge joins it to
pub record Placing : Type 0 where
  pub below : List ℕ
  pub joined : List ℕ

abbrev pub placing : List ℕ → List ℕ → Placing
placing less join = record { below = less; joined = join }

pub record Template : Type 0 where
  pub kind : ℕ
  pub corners : ℕ
  pub edges : List (List ℕ)
  pub triangles : List (List ℕ)
  pub quads : List (List ℕ)
  -- each corner, then its three neighbours
  pub triples : List (List ℕ)
  -- the corners in search order, and the place of each corner in it
  pub order : List ℕ
  pub places : List ℕ
  pub search : List Placing
  -- least form: of each pair of corners the first is less
  pub less : List (List ℕ)
  -- of each rotation, the corners that come to stand at a, b, ..
  pub turns : List (List ℕ)
  -- the mirror tuple's corners
  pub mirror : List ℕ

abbrev pub hexahedron : Template
hexahedron = record {
  kind = 8;
  corners = 8;
  edges = (a ∷ b ∷ []) ∷ (b ∷ c ∷ []) ∷ (c ∷ d ∷ []) ∷ (a ∷ d ∷ []) ∷ (a ∷ e ∷ []) ∷ (b ∷ f ∷ []) ∷ (c ∷ g ∷ []) ∷ (d ∷ h ∷ []) ∷ (e ∷ f ∷ []) ∷ (f ∷ g ∷ []) ∷ (g ∷ h ∷ []) ∷ (e ∷ h ∷ []) ∷ [];
  triangles = [];
  quads = (a ∷ b ∷ c ∷ d ∷ []) ∷ (e ∷ f ∷ g ∷ h ∷ []) ∷ (a ∷ b ∷ f ∷ e ∷ []) ∷ (d ∷ c ∷ g ∷ h ∷ []) ∷ (b ∷ c ∷ g ∷ f ∷ []) ∷ (a ∷ d ∷ h ∷ e ∷ []) ∷ [];
  triples = (a ∷ b ∷ d ∷ e ∷ []) ∷ (b ∷ c ∷ a ∷ f ∷ []) ∷ (c ∷ d ∷ b ∷ g ∷ []) ∷ (d ∷ a ∷ c ∷ h ∷ []) ∷ (e ∷ h ∷ f ∷ a ∷ []) ∷ (f ∷ e ∷ g ∷ b ∷ []) ∷ (g ∷ f ∷ h ∷ c ∷ []) ∷ (h ∷ g ∷ e ∷ d ∷ []) ∷ [];
  order = a ∷ b ∷ d ∷ e ∷ c ∷ f ∷ h ∷ g ∷ [];
  places = 0 ∷ 1 ∷ 4 ∷ 2 ∷ 3 ∷ 5 ∷ 7 ∷ 6 ∷ [];
  search =
      placing [] [] ∷
      placing (0 ∷ []) (0 ∷ []) ∷
      placing (0 ∷ 1 ∷ []) (0 ∷ []) ∷
      placing (0 ∷ 1 ∷ []) (0 ∷ []) ∷
      placing (0 ∷ []) (1 ∷ 2 ∷ []) ∷
      placing (0 ∷ []) (1 ∷ 3 ∷ []) ∷
      placing (0 ∷ []) (2 ∷ 3 ∷ []) ∷
      placing (0 ∷ []) (4 ∷ 5 ∷ 6 ∷ []) ∷
      [];
  less = (a ∷ b ∷ []) ∷ (a ∷ d ∷ []) ∷ (b ∷ d ∷ []) ∷ (a ∷ e ∷ []) ∷ (b ∷ e ∷ []) ∷ (a ∷ c ∷ []) ∷ (a ∷ f ∷ []) ∷ (a ∷ h ∷ []) ∷ (a ∷ g ∷ []) ∷ [];
  turns =
      (a ∷ b ∷ c ∷ d ∷ e ∷ f ∷ g ∷ h ∷ []) ∷
      (a ∷ d ∷ h ∷ e ∷ b ∷ c ∷ g ∷ f ∷ []) ∷
      (a ∷ e ∷ f ∷ b ∷ d ∷ h ∷ g ∷ c ∷ []) ∷
      (b ∷ a ∷ e ∷ f ∷ c ∷ d ∷ h ∷ g ∷ []) ∷
      (b ∷ c ∷ d ∷ a ∷ f ∷ g ∷ h ∷ e ∷ []) ∷
      (b ∷ f ∷ g ∷ c ∷ a ∷ e ∷ h ∷ d ∷ []) ∷
      (c ∷ b ∷ f ∷ g ∷ d ∷ a ∷ e ∷ h ∷ []) ∷
      (c ∷ d ∷ a ∷ b ∷ g ∷ h ∷ e ∷ f ∷ []) ∷
      (c ∷ g ∷ h ∷ d ∷ b ∷ f ∷ e ∷ a ∷ []) ∷
      (d ∷ a ∷ b ∷ c ∷ h ∷ e ∷ f ∷ g ∷ []) ∷
      (d ∷ c ∷ g ∷ h ∷ a ∷ b ∷ f ∷ e ∷ []) ∷
      (d ∷ h ∷ e ∷ a ∷ c ∷ g ∷ f ∷ b ∷ []) ∷
      (e ∷ a ∷ d ∷ h ∷ f ∷ b ∷ c ∷ g ∷ []) ∷
      (e ∷ f ∷ b ∷ a ∷ h ∷ g ∷ c ∷ d ∷ []) ∷
      (e ∷ h ∷ g ∷ f ∷ a ∷ d ∷ c ∷ b ∷ []) ∷
      (f ∷ b ∷ a ∷ e ∷ g ∷ c ∷ d ∷ h ∷ []) ∷
      (f ∷ e ∷ h ∷ g ∷ b ∷ a ∷ d ∷ c ∷ []) ∷
      (f ∷ g ∷ c ∷ b ∷ e ∷ h ∷ d ∷ a ∷ []) ∷
      (g ∷ c ∷ b ∷ f ∷ h ∷ d ∷ a ∷ e ∷ []) ∷
      (g ∷ f ∷ e ∷ h ∷ c ∷ b ∷ a ∷ d ∷ []) ∷
      (g ∷ h ∷ d ∷ c ∷ f ∷ e ∷ a ∷ b ∷ []) ∷
      (h ∷ d ∷ c ∷ g ∷ e ∷ a ∷ b ∷ f ∷ []) ∷
      (h ∷ e ∷ a ∷ d ∷ g ∷ f ∷ b ∷ c ∷ []) ∷
      (h ∷ g ∷ f ∷ e ∷ d ∷ c ∷ b ∷ a ∷ []) ∷
      [];
  mirror = a ∷ d ∷ c ∷ b ∷ e ∷ h ∷ g ∷ f ∷ [];
}

abbrev pub prism : Template
prism = record {
  kind = 6;
  corners = 6;
  edges = (a ∷ b ∷ []) ∷ (b ∷ c ∷ []) ∷ (c ∷ a ∷ []) ∷ (a ∷ d ∷ []) ∷ (b ∷ e ∷ []) ∷ (c ∷ f ∷ []) ∷ (d ∷ e ∷ []) ∷ (e ∷ f ∷ []) ∷ (f ∷ d ∷ []) ∷ [];
  triangles = (a ∷ b ∷ c ∷ []) ∷ (d ∷ e ∷ f ∷ []) ∷ [];
  quads = (a ∷ b ∷ e ∷ d ∷ []) ∷ (e ∷ f ∷ c ∷ b ∷ []) ∷ (a ∷ c ∷ f ∷ d ∷ []) ∷ [];
  triples = (a ∷ b ∷ c ∷ d ∷ []) ∷ (b ∷ c ∷ a ∷ e ∷ []) ∷ (c ∷ a ∷ b ∷ f ∷ []) ∷ (d ∷ f ∷ e ∷ a ∷ []) ∷ (e ∷ d ∷ f ∷ b ∷ []) ∷ (f ∷ e ∷ d ∷ c ∷ []) ∷ [];
  order = a ∷ b ∷ c ∷ d ∷ e ∷ f ∷ [];
  places = 0 ∷ 1 ∷ 2 ∷ 3 ∷ 4 ∷ 5 ∷ [];
  search =
      placing [] [] ∷
      placing (0 ∷ []) (0 ∷ []) ∷
      placing (0 ∷ []) (0 ∷ 1 ∷ []) ∷
      placing (0 ∷ []) (0 ∷ []) ∷
      placing (0 ∷ []) (1 ∷ 3 ∷ []) ∷
      placing (0 ∷ []) (2 ∷ 3 ∷ 4 ∷ []) ∷
      [];
  less = (a ∷ b ∷ []) ∷ (a ∷ c ∷ []) ∷ (a ∷ d ∷ []) ∷ (a ∷ e ∷ []) ∷ (a ∷ f ∷ []) ∷ [];
  turns =
      (a ∷ b ∷ c ∷ d ∷ e ∷ f ∷ []) ∷
      (b ∷ c ∷ a ∷ e ∷ f ∷ d ∷ []) ∷
      (c ∷ a ∷ b ∷ f ∷ d ∷ e ∷ []) ∷
      (d ∷ f ∷ e ∷ a ∷ c ∷ b ∷ []) ∷
      (e ∷ d ∷ f ∷ b ∷ a ∷ c ∷ []) ∷
      (f ∷ e ∷ d ∷ c ∷ b ∷ a ∷ []) ∷
      [];
  mirror = a ∷ c ∷ b ∷ d ∷ f ∷ e ∷ [];
}

abbrev pub pyramid : Template
pyramid = record {
  kind = 5;
  corners = 5;
  edges = (a ∷ b ∷ []) ∷ (b ∷ c ∷ []) ∷ (c ∷ d ∷ []) ∷ (a ∷ d ∷ []) ∷ (a ∷ e ∷ []) ∷ (b ∷ e ∷ []) ∷ (c ∷ e ∷ []) ∷ (d ∷ e ∷ []) ∷ [];
  triangles = (a ∷ b ∷ e ∷ []) ∷ (b ∷ c ∷ e ∷ []) ∷ (c ∷ d ∷ e ∷ []) ∷ (a ∷ d ∷ e ∷ []) ∷ [];
  quads = (a ∷ b ∷ c ∷ d ∷ []) ∷ [];
  triples = (a ∷ b ∷ d ∷ e ∷ []) ∷ (b ∷ c ∷ a ∷ e ∷ []) ∷ (c ∷ d ∷ b ∷ e ∷ []) ∷ (d ∷ a ∷ c ∷ e ∷ []) ∷ [];
  order = a ∷ b ∷ c ∷ d ∷ e ∷ [];
  places = 0 ∷ 1 ∷ 2 ∷ 3 ∷ 4 ∷ [];
  search =
      placing [] [] ∷
      placing (0 ∷ []) (0 ∷ []) ∷
      placing (0 ∷ []) (1 ∷ []) ∷
      placing (0 ∷ []) (0 ∷ 2 ∷ []) ∷
      placing [] (0 ∷ 1 ∷ 2 ∷ 3 ∷ []) ∷
      [];
  less = (a ∷ b ∷ []) ∷ (a ∷ c ∷ []) ∷ (a ∷ d ∷ []) ∷ [];
  turns =
      (a ∷ b ∷ c ∷ d ∷ e ∷ []) ∷
      (b ∷ c ∷ d ∷ a ∷ e ∷ []) ∷
      (c ∷ d ∷ a ∷ b ∷ e ∷ []) ∷
      (d ∷ a ∷ b ∷ c ∷ e ∷ []) ∷
      [];
  mirror = a ∷ d ∷ c ∷ b ∷ e ∷ [];
}

-- the kinds, in the order of the listing
abbrev pub templates : List Template
templates = hexahedron ∷ prism ∷ pyramid ∷ []

abbrev pub is_kind : ℕ → Bool
is_kind k = eqb k 8 || eqb k 6 || eqb k 5

abbrev pub template_of : ℕ → Template
template_of k = cond (eqb k 8) hexahedron (cond (eqb k 6) prism pyramid)

-- of these numbers the first, as many as a kind has corners
abbrev pub tuple_of : ℕ → List ℕ → List ℕ
tuple_of k vs = take (template_of k).corners vs

-- the vertices of a tuple at these corners
abbrev pub at : List ℕ → List ℕ → List ℕ
at tuple ks = map (λ k. get_or tuple k 0) ks
