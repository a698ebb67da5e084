-- `view::part_of` answers what the file's mesh holds. Assumes nothing.
use mathlib.Core.Path.{sym, ap, ◌∙◌}
use borrow.Author.Tests.{lt-ltb}
use Rattle.std.specs.Prelude.{Some}
use Rattle.view.specs.View.{part_in}
use Rattle.view.proofs.Held.{part_held}
use Rattle.view.proofs.part_of.Goals as goal

pub returns-then-j-t : goal.returns-then-j-t
unfolding part_in
returns-then-j-t c = rw (sym c.counts_fit.ensures.fits ∙ c.if-counts_fit.true, lt-ltb _ _ c.if-j-t.true)
    (ap Some (part_held c.args.file.now c.args.n c.args.t c.args.e.0 c.if-j-t.true c.u16_at.ensures))
