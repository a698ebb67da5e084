-- A list laid over a part of another: what a run of stores leaves. Assumes nothing.
use mathlib.Core.Path.{◌≡◌, refl, sym, ◌∙◌, ap}
use mathlib.Core.List.{List, [], ◌∷◌, ◌++◌, append_assoc}
use Prim.Native.Nat.{ℕ, suc, ◌+◌, ◌≤◌, ◌<◌}
use native.Mathlib.Nat.{zero-add, add-zero}
use native.Mathlib.Omega.{arith}
use lib.ListN.{length, take, drop, set, get_or, length-append, length-drop, length-set}
use lib.Seq.{length-take-le, paste-zero, take_at, drop_at, drop-drop, drop-cons, set_at, append_snoc}
use Rattle.base.specs.Laid.{lay, Laid}

pub lay-none : (at : ℕ) (l : List ℕ) → l ≡ lay at [] l
lay-none at l = paste-zero l at []

pub lay-front : (xs l : List ℕ) → lay 0 xs l ≡ xs ++ drop (length xs) l
lay-front xs l = ap (λ k. xs ++ drop k l) (zero-add (length xs))

module _ (at : ℕ) (xs l : List ℕ) where
  head : at ≤ length l → length (take at l ++ xs) ≡ at + length xs
  head h = length-append (take at l) xs ∙ ap (λ k. k + length xs) (length-take-le at l h)

  pub length-lay : at + length xs ≤ length l → length (lay at xs l) ≡ length l
  length-lay h =
      let e = head (omega arith) in
      omega (arith, length-append (take at l ++ xs) (drop (at + length xs) l), length-drop (at + length xs) l)

  -- one more store behind the others
  pub lay-set : (a : ℕ) → at + length xs < length l → set (lay at xs l) (at + length xs) a ≡ lay at (xs ++ a ∷ []) l
  lay-set a h =
      let j = at + length xs in
      let k : at + length (xs ++ a ∷ []) ≡ suc j = omega (arith, length-append xs (a ∷ [])) in
      ap (λ (r : List ℕ). set (take at l ++ xs ++ r) j a) (drop-cons l j 0 h)
      ∙ set_at (take at l ++ xs) (get_or l j 0) (drop (suc j) l) a j (head (omega arith))
      ∙ sym (append_snoc (take at l ++ xs) a (drop (suc j) l))
      ∙ ap (λ (r : List ℕ). r ++ drop (suc j) l) (append_assoc (take at l) xs (a ∷ []))
      ∙ ap (λ (i : ℕ). take at l ++ (xs ++ a ∷ []) ++ drop i l) (sym k)

  -- a part laid behind another
  pub lay-more : (ys : List ℕ) → at ≤ length l → lay (at + length xs) ys (lay at xs l) ≡ lay at (xs ++ ys) l
  lay-more ys h =
      let p = take at l ++ xs in
      let q = drop (at + length xs) l in
      let j = at + length xs in
      let e : j + length ys ≡ at + length (xs ++ ys) = omega (arith, length-append xs ys) in
      ap (λ (r : List ℕ). r ++ ys ++ drop (j + length ys) (p ++ q)) (take_at p q j (head h))
      ∙ ap (λ (r : List ℕ). p ++ ys ++ r)
      (sym (drop-drop (length ys) j (p ++ q)) ∙ ap (drop (length ys)) (drop_at p q j (head h)) ∙ drop-drop (length ys) j l)
      ∙ ap (λ (r : List ℕ). r ++ drop (j + length ys) l) (append_assoc (take at l) xs ys)
      ∙ ap (λ (i : ℕ). take at l ++ (xs ++ ys) ++ drop i l) e

pub laid_none : (at : ℕ) (xs l : List ℕ) → xs ≡ [] → at ≤ length l → Laid at xs l l
laid_none at xs l e h = rw e (record { room = rw add-zero h; same = refl; content = lay-none at l })

module _ {at : ℕ} {xs old l : List ℕ} (d : Laid at xs old l) where
  pub laid-set : {zs : List ℕ} (i a : ℕ) → i ≡ at + length xs → i < length old → zs ≡ xs ++ a ∷ [] → Laid at zs old (set l i a)
  laid-set i a e h z = rw z (record {
    room = omega (arith, length-append xs (a ∷ []), d.room);
    same = length-set l i a ∙ d.same;
    content = ap (λ k. set l k a) e ∙ ap (λ r. set r (at + length xs) a) d.content ∙ lay-set at xs old a (omega arith);
  })

  pub laid_more : {ys zs m : List ℕ} (i : ℕ) → i ≡ at + length xs → Laid i ys l m → zs ≡ xs ++ ys → Laid at zs old m
  laid_more {ys} i e f z = rw z (record {
    room = omega (arith, length-append xs ys, d.same, f.room);
    same = f.same ∙ d.same;
    content = f.content ∙ ap (λ k. lay k ys l) e ∙ ap (λ r. lay (at + length xs) ys r) d.content ∙ lay-more at xs old ys (omega (arith, d.room));
  })

  pub laid_as : {zs : List ℕ} → xs ≡ zs → Laid at zs old l
  laid_as e = rw e at d
