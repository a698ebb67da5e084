-- The header of an accepted file frames it.
use Rattle.std.proofs.Common.{sym}
use Rattle.arrays.proofs.Answers.{header-framed}
use Rattle.why_job.proofs.show_found.Goals as goal

pub look-requires : goal.look-requires
look-requires g c = header-framed c.args.file.now (sym c.in-Ok.ensures)
