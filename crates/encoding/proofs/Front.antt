-- A list laid over the front of another.
-- Assumes nothing.
use mathlib.Core.Path.{◌≡◌, ◌∙◌, ap}
use mathlib.Core.List.{List, ◌++◌, append-nil}
use Prim.Native.Nat.{ℕ}
use native.Mathlib.Omega.{arith}
use lib.ListN.{length, drop, drop_of_length-le}
use Rattle.base.specs.Laid.{Laid}
use Rattle.base.proofs.Lay.{lay-front}

pub laid-front : {xs old l : List ℕ} → Laid 0 xs old l → l ≡ xs ++ drop (length xs) old
laid-front {xs} {old} d = d.content ∙ lay-front xs old

-- over all of it
pub laid-whole : {xs old l : List ℕ} → Laid 0 xs old l → length old ≡ length xs → l ≡ xs
laid-whole {xs} {old} d e =
    laid-front d ∙ ap (λ r. xs ++ r) (drop_of_length-le old {i = length xs} (omega arith)) ∙ append-nil xs
