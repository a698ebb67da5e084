-- The names and the numbers undo each other, and what an answer tells of the number behind it. Assumes nothing.
use mathlib.Core.Path.{◌≡◌, refl, sym, ap, ◌∙◌}
use mathlib.Core.Bool.{Bool, true, false, cond}
use mathlib.Core.List.{List, [], ◌∷◌}
use Prim.Native.Nat.{ℕ, ◌<◌}
use native.Mathlib.Decide.{dec_lt}
use native.Mathlib.Omega.{arith}
use lib.Dec.{ltb, eqb}
use borrow.Author.Tests.{eq-eqb, ne_eqb, ltb-true}
use Rattle.std.specs.Prelude.{Result, Ok, Err, IsErrAnd}
use Rattle.base.specs.Lists.{all}
use Rattle.base.specs.Refusals.{Refusal as Test, first_of}
use Rattle.base.proofs.Bools.{and_left, and_right}
use Rattle.refusals.specs.declared.Refusal.{Refusal}
use Rattle.refusals.specs.declared.Refusal.TheVariants.{Length, Counts, Layout, OutOfBounds, NoVertex, VertexTwice, Flat, Crowded, Folded, TableShort, NoRoom, CellTooLong, NoLeastForm, ListsUnfit, RoomShort, NoKind}
use Rattle.refusals.specs.Named.{number_of, named, unless, number_in}

-- ---- names and numbers

pub named_number : (r : Refusal) → named (number_of r) ≡ r
unfolding named
named_number Length = refl
named_number Counts = refl
named_number Layout = refl
named_number OutOfBounds = refl
named_number NoVertex = refl
named_number VertexTwice = refl
named_number Flat = refl
named_number Crowded = refl
named_number Folded = refl
named_number TableShort = refl
named_number NoRoom = refl
named_number CellTooLong = refl
named_number NoLeastForm = refl
named_number ListsUnfit = refl
named_number RoomShort = refl
named_number NoKind = refl

-- so a number has one name
pub name_same : (r s : Refusal) → number_of r ≡ number_of s → r ≡ s
name_same r s e = sym (named_number r) ∙ ap named e ∙ named_number s

pub number_above : (r : Refusal) → 0 < number_of r
number_above Length = omega arith
number_above Counts = omega arith
number_above Layout = omega arith
number_above OutOfBounds = omega arith
number_above NoVertex = omega arith
number_above VertexTwice = omega arith
number_above Flat = omega arith
number_above Crowded = omega arith
number_above Folded = omega arith
number_above TableShort = omega arith
number_above NoRoom = omega arith
number_above CellTooLong = omega arith
number_above NoLeastForm = omega arith
number_above ListsUnfit = omega arith
number_above RoomShort = omega arith
number_above NoKind = omega arith

pub number_named : (k : ℕ) → 0 < k → k < 17 → number_of (named k) ≡ k
number_named k h l = step k h l
  where
    -- k is the number of one of the names
    at : (r : Refusal) → k ≡ number_of r → number_of (named k) ≡ k
    at r e = ap (λ j. number_of (named j)) e ∙ ap number_of (named_number r) ∙ sym e

    step : (j : ℕ) → 0 < k → k < 17 → number_of (named k) ≡ k
    step j a b = elim (dec_lt k 2) [
      | yes c ↦ at Length (omega arith)
      | no c ↦ elim (dec_lt k 3) [
        | yes d ↦ at Counts (omega arith)
        | no d ↦ elim (dec_lt k 4) [
          | yes e ↦ at Layout (omega arith)
          | no e ↦ elim (dec_lt k 5) [
            | yes f ↦ at OutOfBounds (omega arith)
            | no f ↦ elim (dec_lt k 6) [
              | yes g ↦ at NoVertex (omega arith)
              | no g ↦ elim (dec_lt k 7) [
                | yes m ↦ at VertexTwice (omega arith)
                | no m ↦ elim (dec_lt k 8) [
                  | yes n ↦ at Flat (omega arith)
                  | no n ↦ elim (dec_lt k 9) [
                    | yes o ↦ at Crowded (omega arith)
                    | no o ↦ elim (dec_lt k 10) [
                      | yes p ↦ at Folded (omega arith)
                      | no p ↦ elim (dec_lt k 11) [
                        | yes q ↦ at TableShort (omega arith)
                        | no q ↦ elim (dec_lt k 12) [
                          | yes r ↦ at NoRoom (omega arith)
                          | no r ↦ elim (dec_lt k 13) [
                            | yes s ↦ at CellTooLong (omega arith)
                            | no s ↦ elim (dec_lt k 14) [
                              | yes t ↦ at NoLeastForm (omega arith)
                              | no t ↦ elim (dec_lt k 15) [
                                | yes u ↦ at ListsUnfit (omega arith)
                                | no u ↦ elim (dec_lt k 16) [
                                  | yes v ↦ at RoomShort (omega arith)
                                  | no v ↦ at NoKind (omega arith)
                                ]
                              ]
                            ]
                          ]
                        ]
                      ]
                    ]
                  ]
                ]
              ]
            ]
          ]
        ]
      ]
    ]

-- ---- a list of which each number has a name

abbrev pub all_named : List Test → Bool
all_named rs = all (λ r. ltb r.no 17) rs

pub first_named : (rs : List Test) → all_named rs ≡ true → first_of rs < 17
unfolding first_of
first_named [] e = omega arith
first_named (r ∷ rs) e = go r.applies (ltb-true r.no 17 (and_left (ltb r.no 17) (all_named rs) e)) (first_named rs (and_right (ltb r.no 17) (all_named rs) e))
  where
    go : (b : Bool) → r.no < 17 → first_of rs < 17 → cond b r.no (first_of rs) < 17
    go true h l = h
    go false h l = l

-- ---- an answer, from the number k

module _ {A : Type 0} where
  pub unless_ok : {k : ℕ} {a b : A} → 0 ≡ k → a ≡ b → Ok a ≡ unless k b
  unfolding unless
  unless_ok {k} {a} {b} e p = rw (eq-eqb k 0 (sym e), p)

  pub unless_err : {r : Refusal} {k : ℕ} (a : A) → number_of r ≡ k → Err r ≡ unless k a
  unfolding unless
  unless_err {r} {k} a e =
      let h = number_above r in
      rw (ne_eqb k 0 (λ z. omega (arith, h)), sym e, named_number r)

  -- ---- and back

  pub ok_says : {k : ℕ} {a b : A} → unless k a ≡ Ok b → (k ≡ 0) × (a ≡ b)
  unfolding unless
  ok_says {k} {a} {b} e = elim (dec_lt 0 k) [
    | yes h ↦
        let d : ◌≡◌ {A = Result A Refusal} (Err (named k)) (Ok b) = rw (ne_eqb k 0 (λ z. omega arith)) at e in
        let z : ◌≡◌ {A = ℕ} 0 1 = cc in
        absurd (omega arith)
    | no h ↦
        let z : k ≡ 0 = omega arith in
        let d : ◌≡◌ {A = Result A Refusal} (Ok a) (Ok b) = rw (eq-eqb k 0 z) at e in
        (z, (cc))
  ]

  pub err_says : {r : Refusal} {k : ℕ} (a : A) → unless k a ≡ Err r → (named k ≡ r) × (0 < k)
  unfolding unless
  err_says {r} {k} a e = elim (dec_lt 0 k) [
    | yes h ↦
        let d : ◌≡◌ {A = Result A Refusal} (Err (named k)) (Err r) = rw (ne_eqb k 0 (λ z. omega arith)) at e in
        let q : named k ≡ r = cc in
        (q, h)
    | no h ↦
        let d : ◌≡◌ {A = Result A Refusal} (Ok a) (Err r) = rw (eq-eqb k 0 (omega arith)) at e in
        let z : ◌≡◌ {A = ℕ} 0 1 = cc in
        absurd (omega arith)
  ]

  -- the number of the answer is the number behind it
  pub number_unless : (k : ℕ) (a : A) → k < 17 → number_in (unless k a) ≡ k
  unfolding unless
  number_unless k a l = elim (dec_lt 0 k) [
    | yes h ↦ rw (ne_eqb k 0 (λ z. omega arith)) (number_named k h l)
    | no h ↦ let z : k ≡ 0 = omega arith in rw (eq-eqb k 0 z) (sym z)
  ]

-- ---- `?` hands on the refusal as it is

pub handed_on : {A E : Type 0} (x : Result A E) (r : E) → IsErrAnd x (λ y. y ≡ r) → x ≡ Err r
handed_on (Ok a) r h = absurd h
handed_on (Err y) r h = ap Err h
