-- A text that is wrong is so by a fault that has a name, where the reader before it had names. Assumes nothing.
use mathlib.Core.Path.{◌≡◌, refl, ap}
use mathlib.Core.Bool.{true}
use mathlib.Core.List.{List, [], ◌∷◌, ◌++◌}
use lib.IntN.{ℤ}
use Prim.Native.Nat.{ℕ}
use lib.Dec.{ltb}
use Rattle.std.specs.Prelude.{Option, Some, None}
use Rattle.std.proofs.lemmas.Bool.{cond_both}
use Rattle.reading_words.specs.declared.Reader.{Reader}
use Rattle.reading_words.specs.declared.Fault.{Fault}
use Rattle.reading_words.specs.Steps.{wanted, met_named, Named}
use Rattle.reading_words.proofs.Names.{next-named}
use Rattle.reading_lists.specs.Reading.{Reading, reading, read1, read_all, read_text, said_at, said_by, outcome_named}

pub read-named : (x : List ℕ) (s : Reading) → Named s.reader → Named (read_all x s).reader
unfolding read1
read-named [] s w = w
read-named (b ∷ bs) s w = read-named bs (read1 b s) (next-named s.reader b w)

at-named : (r : Reader) (o : Option Fault) → met_named o ≡ true → outcome_named (said_at r o) ≡ true
at-named r (Some k) e = e
at-named r None e = cond_both (ltb r.count (wanted r)) _ _ (λ o. outcome_named o ≡ true) (λ e. refl) (λ e. refl)

pub said-named : (r : Reader) → met_named r.fault ≡ true → outcome_named (said_by r) ≡ true
unfolding said_by
said-named r e = at-named r r.fault e

-- of a whole text, by what `input::read_text` promises of its reader
pub text-named : {r : Reader} {cs : List ℤ} {ls ps : List ℕ} (x : List ℕ) (s : Reading) → Named s.reader → reading r cs ls ps ≡ read_text x s → outcome_named (said_by r) ≡ true
text-named {r} x s w e =
    let n : Named r = rw (ap (λ t. t.reader) e) (read-named (x ++ 10 ∷ []) s w) in
    said-named r n.fault
