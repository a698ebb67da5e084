-- `own::is_hit` meets its contract. Assumes nothing.
use mathlib.Core.Path.{sym, ◌∙◌}
use mathlib.Core.Bool.{false≢true}
use native.Mathlib.Omega.{arith}
use Rattle.own.proofs.Stamps.{no-stamp}
use Rattle.own.proofs.is_hit.Goals as goal
use Rattle.own.proofs.is_hit.Goals.{then-from-lo, else-from-lo}

pub returns-else-may_be_in : goal.returns-else-may_be_in
returns-else-may_be_in c = let a = c.args in elim c.if-from-lo.branch [
  | then-from-lo w ↦ record {
    is = λ e. absurd (false≢true (sym c.if-may_be_in.false ∙ e));
    none = λ e l. no-stamp a.labels.now a.quads.now a.c.now a.m.now a.e.0 c.requires.1 (sym w.may_be_in.ensures ∙ sym w.value-is ∙ e);
  }
  | else-from-lo w ↦ record {
    is = λ e. absurd (false≢true (sym c.if-may_be_in.false ∙ e));
    none = λ e l. absurd (omega arith);
  }
]
