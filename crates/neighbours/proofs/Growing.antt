-- A list that grows in a room: one entry more, and a part behind another. Assumes nothing.
use mathlib.Core.Path.{◌≡◌, refl, sym, ◌∙◌, ap}
use mathlib.Core.List.{List, [], ◌∷◌, ◌++◌, append_assoc, append-nil}
use Prim.Native.Nat.{ℕ, ◌+◌, ◌≤◌, ◌<◌}
use native.Mathlib.Nat.{add-zero, min-le_right}
use native.Mathlib.Numerals.{add-one}
use native.Mathlib.Omega.{arith}
use lib.ListN.{length, take, set, length-append, length-set, length-take}
use lib.Seq.{take-set-le, take-suc-set}
use Rattle.neighbours.specs.between.Grown.{Grown}

pub grown-none : (at : ℕ) (xs l : List ℕ) → xs ≡ [] → Grown at at xs l l
grown-none at xs l e = rw e (record { same = refl; ends = sym (add-zero at); content = sym (append-nil (take at l)) })

module _ {at end : ℕ} {xs old l : List ℕ} (g : Grown at end xs old l) where
  -- a store behind the entries is one entry more
  pub grown-set : {zs : List ℕ} (a : ℕ) → end < length old → zs ≡ xs ++ a ∷ [] → Grown at (end + 1) zs old (set l end a)
  grown-set a h z = rw z (record {
    same = length-set l end a ∙ g.same;
    ends = omega (arith, g.ends, length-append xs (a ∷ []));
    content = rw add-one (take-suc-set l end a (omega (arith, g.same)) ∙ ap (λ t. t ++ a ∷ []) g.content ∙ append_assoc (take at old) xs (a ∷ []));
  })

  -- or it is not counted
  pub grown-past : {zs : List ℕ} (a : ℕ) → zs ≡ xs → Grown at end zs old (set l end a)
  grown-past a z = rw z (record { same = length-set l end a ∙ g.same; ends = g.ends; content = take-set-le end l end a (omega arith) ∙ g.content })

  -- a part behind another
  pub grown-more : {to : ℕ} {ys zs m : List ℕ} → Grown end to ys l m → zs ≡ xs ++ ys → Grown at to zs old m
  grown-more {to} {ys} f z = rw z (record {
    same = f.same ∙ g.same;
    ends = omega (arith, g.ends, f.ends, length-append xs ys);
    content = f.content ∙ ap (λ t. t ++ ys) g.content ∙ append_assoc (take at old) xs ys;
  })

-- from the start of the room on
module _ {end : ℕ} {xs old l : List ℕ} (g : Grown 0 end xs old l) where
  pub grown-all : take end l ≡ xs
  grown-all = g.content

  pub grown-size : end ≡ length (take end l)
  grown-size = omega (arith, g.ends, ap length grown-all)

  pub grown-fits : end ≤ length l
  grown-fits = omega (arith, grown-size, length-take end l, min-le_right end (length l))
