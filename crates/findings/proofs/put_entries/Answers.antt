-- `findings::put_entries` meets its contract. Assumes nothing.
use mathlib.Core.Path.{sym, ap}
use Rattle.reasons.specs.Numbers.{entries_of}
use Rattle.findings.proofs.put_entries.Goals as goal

pub returns-in-Cell : goal.returns-in-Cell
returns-in-Cell c = ap entries_of (sym c.in-Cell.is)

pub returns-in-Turned : goal.returns-in-Turned
returns-in-Turned c = ap entries_of (sym c.in-Turned.is)

pub returns-in-BadCorner : goal.returns-in-BadCorner
returns-in-BadCorner c = ap entries_of (sym c.in-BadCorner.is)

pub returns-in-NoEdge : goal.returns-in-NoEdge
returns-in-NoEdge c = ap entries_of (sym c.in-NoEdge.is)

pub returns-in-NoFace : goal.returns-in-NoFace
returns-in-NoFace c = ap entries_of (sym c.in-NoFace.is)

pub returns-in-BadBox : goal.returns-in-BadBox
returns-in-BadBox c = ap entries_of (sym c.in-BadBox.is)

pub returns-in-OpenFace : goal.returns-in-OpenFace
returns-in-OpenFace c = ap entries_of (sym c.in-OpenFace.is)

pub returns-in-OpenTriple : goal.returns-in-OpenTriple
returns-in-OpenTriple c = ap entries_of (sym c.in-OpenTriple.is)

pub returns-in-TwoParts : goal.returns-in-TwoParts
returns-in-TwoParts c = ap entries_of (sym c.in-TwoParts.is)
