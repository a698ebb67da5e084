-- A finding by its numbers.
-- Assumes nothing.
use mathlib.Core.Path.{◌≡◌, refl}
use lib.ListN.{length}
use Rattle.reasons.specs.declared.Finding.{Finding}
use Rattle.reasons.specs.declared.Finding.TheVariants.{Cell, Turned, BadCorner, NoEdge, NoFace, BadBox, OpenFace, OpenTriple, TwoParts}
use Rattle.reasons.specs.Numbers.{entries_of}

pub entries-long : (w : Finding) → length (entries_of w) ≡ 10
entries-long (Cell a b c d e f g h) = refl
entries-long (Turned a b c d e f g h) = refl
entries-long (BadCorner i) = refl
entries-long (NoEdge i) = refl
entries-long (NoFace i) = refl
entries-long (BadBox i) = refl
entries-long (OpenFace i) = refl
entries-long (OpenTriple u v w) = refl
entries-long TwoParts = refl
