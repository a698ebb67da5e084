-- The answers of `fill_if` for a mesh in arrays. Assumes nothing.
use mathlib.Core.Path.{◌≡◌, sym, ◌∙◌, ap}
use mathlib.Core.Bool.{Bool, true, false, cond}
use mathlib.Core.List.{List, ◌++◌}
use Prim.Native.Nat.{ℕ, ◌<◌, ◌≤◌}
use native.Mathlib.Omega.{arith}
use native.Mathlib.Decide.{dec_lt}
use borrow.Author.Tests.{lt-ltb, le-ltb}
use lib.IntN.{ℤ}
use lib.ListN.{length, drop}
use Rattle.space.specs.Arrays.{mesh_of}
use Rattle.std.specs.Prelude.{Some, None}
use Rattle.std.proofs.lemmas.Option.{none-some}
use Rattle.rooms.specs.between.Rooms.{filled_by, laid_by}
use Rattle.neighbours.specs.Table.{table_of}
use Rattle.neighbours.specs.between.InLabels.{table_in}
use Rattle.neighbours.specs.between.Reading.{Tabled}
use Rattle.neighbours.proofs.Tets.{table-in}

module _ (zs : List ℤ) (ls ps : List ℕ) (n : ℕ) where
  same : length (table_in ls n) ≡ length (table_of (mesh_of zs ls ps) n)
  same = ap length (sym (table-in ls n zs ps))

  pub says-short : (k : ℕ) → None ≡ filled_by (table_in ls n) k → k < length (table_of (mesh_of zs ls ps) n)
  says-short k e = elim (dec_lt k (length (table_in ls n))) [
    | yes h ↦ omega (arith, same)
    | no h ↦
        let d : None ≡ Some (length (table_in ls n)) = e ∙ rw (le-ltb k (length (table_in ls n)) (omega arith)) in
        absurd (none-some _ d)
  ]

  pub says-long : {s : ℕ} (k : ℕ) → Some s ≡ filled_by (table_in ls n) k → length (table_of (mesh_of zs ls ps) n) ≤ k
  says-long {s} k e = elim (dec_lt k (length (table_in ls n))) [
    | yes h ↦
        let d : Some s ≡ None = e ∙ rw (lt-ltb k (length (table_in ls n)) h) in
        absurd (none-some s (sym d))
    | no h ↦ omega (arith, same)
  ]

  module _ (old : List ℕ) where
    -- a slice that is too short stays as it was, wanted or not
    pub stays_short : (b : Bool) {l : List ℕ} → length old < length (table_of (mesh_of zs ls ps) n) → l ≡ cond b (laid_by (table_in ls n) old) old → l ≡ old
    stays_short true h e = e ∙ rw (lt-ltb (length old) (length (table_in ls n)) (omega (arith, same)))
    stays_short false h e = e

    -- one that is long enough is filled where that is wanted
    pub filled-long : (b : Bool) {l : List ℕ} → b ≡ true → length (table_of (mesh_of zs ls ps) n) ≤ length old → l ≡ cond b (laid_by (table_in ls n) old) old → l ≡ table_of (mesh_of zs ls ps) n ++ drop (length (table_of (mesh_of zs ls ps) n)) old
    filled-long true {l} w h e =
        let g : l ≡ table_in ls n ++ drop (length (table_in ls n)) old = e ∙ rw (le-ltb (length old) (length (table_in ls n)) (omega (arith, same))) in
        g ∙ ap (λ t. t ++ drop (length t) old) (sym (table-in ls n zs ps))
    filled-long false w h e = let z : ◌≡◌ {A = ℕ} 0 1 = cc in absurd (omega arith)

    pub tabled : {l : List ℕ} → l ≡ table_of (mesh_of zs ls ps) n ++ drop (length (table_of (mesh_of zs ls ps) n)) old → Tabled ls n l
    tabled e =
        record {
          rest = drop (length (table_of (mesh_of zs ls ps) n)) old;
          is = e ∙ ap (λ t. t ++ drop (length (table_of (mesh_of zs ls ps) n)) old) (table-in ls n zs ps);
        }
