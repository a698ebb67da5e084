-- The front of lists is packed as the whole lists are: it is all of them, or both are too long.
-- Assumes nothing.
use mathlib.Core.Path.{◌≡◌, sym, ◌∙◌, ap}
use mathlib.Core.List.{List}
use Prim.Native.Nat.{ℕ, ◌+◌, ◌*◌, ◌≤◌, ◌<◌, min}
use native.Mathlib.Decide.{dec_lt}
use native.Mathlib.Omega.{arith}
use lib.IntN.{ℤ}
use lib.ListN.{length, take}
use lib.Seq.{take_all, length-take-le}
use Rattle.encoding.specs.File.{file_of}
use Rattle.packing.specs.Packed.{packed, room_after}
use Rattle.std.specs.Prelude.{Result, Err}
use Rattle.refusals.specs.declared.Refusal.{Refusal}
use Rattle.refusals.specs.declared.Refusal.TheVariants.{Length}
use Rattle.packing.proofs.Ways.{packed-long, fit-by}
use Rattle.packing_front.specs.Front.{IsFront, Fronts}
use Rattle.packing_front.specs.between.Roomy.{Roomy}

-- a list that is not longer than the lent one stands there whole
whole : {A : Type 0} (k : ℕ) (lent xs : List A) → IsFront lent xs → length xs ≡ k → k ≤ length lent → take k lent ≡ xs
whole k lent xs f e h = ap (λ j. take j lent) (sym e) ∙ f ∙ take_all (length lent) xs (omega arith)

module _ (room : List ℕ) (r : Result ℕ Refusal) (after : List ℕ) where
  -- r is the answer to these lists, and the room holds `after` then
  abbrev Answers : (cs : List ℤ) (ls ps : List ℕ) → Type 0
  Answers cs ls ps = (r ≡ packed cs ls ps (length room)) × (after ≡ room_after (file_of cs ls ps) r room)

  -- two that are too long have one answer, and leave the room as it was
  refused_alike : (cs ds : List ℤ) (ls ms ps qs : List ℕ) → Err Length ≡ packed cs ls ps (length room) → Err Length ≡ packed ds ms qs (length room)
      → Answers cs ls ps → Answers ds ms qs
  refused_alike cs ds ls ms ps qs x y a =
      let e : r ≡ Err Length = a.0 ∙ sym x in
      (e ∙ y, a.1 ∙ ap (λ w. room_after (file_of cs ls ps) w room) e ∙ sym (ap (λ w. room_after (file_of ds ms qs) w room) e))

  module _ (n t : ℕ) (cs₀ : List ℤ) (ls₀ ps₀ : List ℕ) (h : Roomy cs₀ ls₀ ps₀) (cs : List ℤ) (ls ps : List ℕ) (f : Fronts n t cs₀ ls₀ ps₀ cs ls ps)
      (c l p : ℕ) (i : c ≡ min (3 * n) 6657) (j : l ≡ min (4 * t) 10652) (k : p ≡ min t 2663) where
    long-answers : 26648 < 24 + 12 * n + 10 * t → Answers (take c cs₀) (take l ls₀) (take p ps₀) → Answers cs ls ps
    long-answers g =
        let x = length-take-le c cs₀ (omega (arith, h.coordinates)) in
        let y = length-take-le l ls₀ (omega (arith, h.labels)) in
        let z = length-take-le p ps₀ (omega (arith, h.parts)) in
        refused_alike (take c cs₀) cs (take l ls₀) ls (take p ps₀) ps
        (packed-long (take c cs₀) (take l ls₀) (take p ps₀) (length room) (fit-by _ _ _ (min n 2219) (omega arith) (omega arith)) (omega arith))
        (packed-long cs ls ps (length room) (fit-by _ _ _ n f.threes (omega (arith, f.fours, f.ones))) (omega (arith, f.threes, f.ones)))

    short-answers : 24 + 12 * n + 10 * t ≤ 26648 → Answers (take c cs₀) (take l ls₀) (take p ps₀) → Answers cs ls ps
    short-answers g a =
        let x : take c cs₀ ≡ cs = whole c cs₀ cs f.coordinates (omega (arith, f.threes)) (omega (arith, h.coordinates)) in
        let y : take l ls₀ ≡ ls = whole l ls₀ ls f.labels (omega (arith, f.fours)) (omega (arith, h.labels)) in
        let z : take p ps₀ ≡ ps = whole p ps₀ ps f.parts (omega (arith, f.ones)) (omega (arith, h.parts)) in
        rw (x, y, z) at a

    -- the answer to what is cut from the lent lists is that to the whole lists
    pub front-answers : Answers (take c cs₀) (take l ls₀) (take p ps₀) → Answers cs ls ps
    front-answers = elim (dec_lt 26648 (24 + 12 * n + 10 * t)) [ yes g ↦ long-answers g | no g ↦ short-answers (omega arith) ]
