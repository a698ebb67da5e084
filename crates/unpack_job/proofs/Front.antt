-- The front of a room in which a file's text was written is that text. Assumes nothing.
use Rattle.std.proofs.Common.{◌≡◌, List, ℕ, Ok, length, take, drop, sym, ap, ◌∙◌}
use Rattle.std.proofs.Math.Seq.{take_at}
use Rattle.base.specs.Refusals.{Refusal}
use Rattle.refusals.proofs.Named.{ok_says}
use Rattle.arrays.specs.Refusals.{refusals}
use Rattle.packing.specs.Packed.{written_unless, room_after}
use Rattle.unpacking.specs.Unpacked.{file_text, unpacked}

whole_size : (rs : List Refusal) (k s : ℕ) → Ok s ≡ written_unless rs k → s ≡ k
unfolding written_unless
whole_size rs k s e = sym (ok_says (sym e)).1

pub front_is : (f old l : List ℕ) (s : ℕ) → Ok s ≡ unpacked f → l ≡ room_after (file_text f) (Ok s) old → take s l ≡ file_text f
unfolding unpacked
front_is f old l s e h =
    let k : s ≡ length (file_text f) = whole_size (refusals f) (length (file_text f)) s e in
    ap (take s) h ∙ take_at (file_text f) (drop s old) s (sym k)
