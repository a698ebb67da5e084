-- What each way through the writer answers.
-- Assumes nothing.
use mathlib.Core.Path.{◌≡◌, refl, sym, ◌∙◌, ap}
use mathlib.Core.Bool.{true, false, not, ◌&&◌}
use mathlib.Core.List.{List, [], ◌∷◌}
use Prim.Native.Nat.{ℕ, ◌+◌, ◌*◌, ◌/◌, ◌%◌, ◌≤◌, ◌<◌}
use native.Mathlib.Omega.{arith}
use lib.Dec.{eqb, ltb}
use lib.IntN.{ℤ}
use lib.ListN.{length}
use borrow.Author.Tests.{eqb-true, eq-eqb, ne_eqb, le-leb, lt-leb, lt-ltb, le-ltb}
use Rattle.base.specs.Refusals.{Refusal, refuse, first_of}
use Rattle.base.proofs.Bools.{and_left, and_right}
use Rattle.base.proofs.Refusals.{passed, first_past, first-told, told, past, none_left}
use Rattle.std.specs.Prelude.{Result, Ok, Err}
use Rattle.refusals.specs.declared.Refusal.{Refusal as Refused}
use Rattle.refusals.specs.declared.Refusal.TheVariants.{Length, ListsUnfit, RoomShort}
use Rattle.refusals.specs.Named.{number_of, unless}
use Rattle.refusals.proofs.Named.{number_above, unless_ok, unless_err}
use Rattle.layout.specs.Layout.{length_right}
use Rattle.arrays.specs.Refusals.{refusals, refusal}
use Rattle.encoding.specs.File.{file_of}
use Rattle.encoding.proofs.Lengths.{file-long}
use Rattle.packing.specs.Packed.{room_refusals, lengths_fit, list_refusals, written_unless, packed}
use Rattle.packing.specs.between.Stored.{stored_in}

-- ---- an answer from the first refusal

pub unless_refused : (rs : List Refusal) (k : ℕ) {r : Refused} → number_of r ≡ first_of rs → Err r ≡ written_unless rs k
unfolding written_unless
unless_refused rs k e = unless_err k e

pub unless_none : (rs : List Refusal) (k : ℕ) → 0 ≡ first_of rs → Ok k ≡ written_unless rs k
unfolding written_unless
unless_none rs k e = unless_ok e refl

-- ---- a file that stands

module _ (f : List ℕ) (room : ℕ) where
  abbrev short : List Refusal
  short = refuse 15 (ltb room (length f)) ∷ []

  pub stored_refused : {r : Refused} → refusal f ≡ number_of r → Err r ≡ stored_in f room
  unfolding refusal
  stored_refused {r} e = unless_refused (room_refusals f room) (length f) (sym (first-told (refusals f) short (omega (arith, number_above r)) ∙ e))

  -- past 1 to 9
  accepted : refusal f ≡ 0 → first_of (room_refusals f room) ≡ first_of short
  unfolding refusal
  accepted e = first_past (refusals f) short (passed (refusals f) refl e)

  pub stored_short : refusal f ≡ 0 → room < length f → Err RoomShort ≡ stored_in f room
  stored_short e h = unless_refused (room_refusals f room) (length f) (told refl 15 [] (lt-ltb room (length f) h) ∙ sym (accepted e))

  pub stored-whole : refusal f ≡ 0 → length f ≤ room → Ok (length f) ≡ stored_in f room
  stored-whole e h = unless_none (room_refusals f room) (length f) (past refl 15 [] (le-ltb room (length f) h) none_left ∙ sym (accepted e))

-- ---- a file longer than 26,648 bytes

length_wrong : (f : List ℕ) → 26648 < length f → length_right f ≡ false
unfolding length_right
length_wrong f h = rw (le-leb 24 (length f) (omega arith), lt-leb (length f) 26648 h)

pub refused-length : (f : List ℕ) → length_right f ≡ false → refusal f ≡ 1
unfolding refusal first_of
refused-length f e = rw e

-- ---- the lists

module _ (cs : List ℤ) (ls ps : List ℕ) (room : ℕ) where
  abbrev fitting : Type 0
  fitting = lengths_fit (length cs) (length ls) (length ps) ≡ true

  pub packed_unfit : lengths_fit (length cs) (length ls) (length ps) ≡ false → Err ListsUnfit ≡ packed cs ls ps room
  unfolding packed
  packed_unfit h = unless_refused (list_refusals cs ls ps room) (length (file_of cs ls ps)) (told refl 14 (room_refusals (file_of cs ls ps) room) (ap not h))

  pub packed-by : {r : Result ℕ Refused} → fitting → r ≡ stored_in (file_of cs ls ps) room → r ≡ packed cs ls ps room
  unfolding packed written_unless first_of
  packed-by h e = e ∙ rw h

  pub packed-long : fitting → 26648 < 24 + 4 * length cs + 10 * length ps → Err Length ≡ packed cs ls ps room
  packed-long h g =
      packed-by h (stored_refused (file_of cs ls ps) room (refused-length (file_of cs ls ps) (length_wrong (file_of cs ls ps) (omega (arith, file-long cs ls ps)))))

-- ---- lengths that fit, and what they say

pub record Fitting (c l p : ℕ) : Type 0 where
  pub threes : c ≡ 3 * (c / 3)
  pub fours : l ≡ 4 * p

pub fit-says : (c l p : ℕ) → lengths_fit c l p ≡ true → Fitting c l p
unfolding lengths_fit
fit-says c l p e =
    let d = and_left (eqb (c % 3) 0 && eqb (l % 4) 0) (eqb p (l / 4)) e in
    let x = eqb-true (c % 3) 0 (and_left (eqb (c % 3) 0) (eqb (l % 4) 0) d) in
    let y = eqb-true (l % 4) 0 (and_right (eqb (c % 3) 0) (eqb (l % 4) 0) d) in
    let z = eqb-true p (l / 4) (and_right (eqb (c % 3) 0 && eqb (l % 4) 0) (eqb p (l / 4)) e) in
    record { threes = omega arith; fours = omega arith }

pub fit-by : (c l p n : ℕ) → c ≡ 3 * n → l ≡ 4 * p → lengths_fit c l p ≡ true
unfolding lengths_fit
fit-by c l p n e d = rw (eq-eqb (c % 3) 0 (omega arith), eq-eqb (l % 4) 0 (omega arith), eq-eqb p (l / 4) (omega arith))
