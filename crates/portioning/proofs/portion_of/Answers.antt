-- `portioning::portion_of` meets its contract. Assumes nothing.
use mathlib.Core.Path.{sym, ◌∙◌}
use mathlib.Core.List.{[]}
use native.Mathlib.Omega.{arith}
use borrow.Author.Tests.{leb-true, leb-false}
use lib.ListN.{length}
use Rattle.space.specs.Arrays.{mesh_of}
use Rattle.record.specs.Entries.{record_size}
use Rattle.refusals.specs.declared.Refusal.TheVariants.{TableShort, NoRoom}
use Rattle.records.proofs.Same.{refused_is}
use Rattle.portioning.proofs.Promised.{bars_table, bars_room, bars_none, promised_refused, promised_written}
use Rattle.portioning.proofs.Filled.{says-short, says-long, stays_short, filled-long, tabled}
use Rattle.portioning.proofs.portion_of.Goals as goal

pub write_listed-requires : goal.write_listed-requires
write_listed-requires c = let a = c.args in let l = says-long a.mesh.now.coords.now a.mesh.now.index.labels.now a.mesh.now.parts.now a.mesh.now.index.n (length a.table.now) (sym c.in-Some.is ∙ c.fill_if-filled.ensures.answer) in
    tabled a.mesh.now.coords.now a.mesh.now.index.labels.now a.mesh.now.parts.now a.mesh.now.index.n a.table.now (filled-long a.mesh.now.coords.now a.mesh.now.index.labels.now a.mesh.now.parts.now a.mesh.now.index.n a.table.now c.is_roomy-roomy.result c.if-roomy.true l c.fill_if-filled.ensures.content)

pub returns-in-None : goal.returns-in-None
returns-in-None c = let a = c.args in let l = says-short a.mesh.now.coords.now a.mesh.now.index.labels.now a.mesh.now.parts.now a.mesh.now.index.n (length a.table.now) (sym c.in-None.is ∙ c.fill_if-filled.ensures.answer) in
    rw (refused_is c.from.result c.from.ensures.0 c.from.ensures.1) (promised_refused [] (mesh_of a.mesh.now.coords.now a.mesh.now.index.labels.now a.mesh.now.parts.now) a.mesh.now.index.n _ a.table.now a.records.now TableShort
    (bars_table [] (mesh_of a.mesh.now.coords.now a.mesh.now.index.labels.now a.mesh.now.parts.now) a.mesh.now.index.n tt (length a.table.now) (length a.records.now) l)
    (stays_short a.mesh.now.coords.now a.mesh.now.index.labels.now a.mesh.now.parts.now a.mesh.now.index.n a.table.now c.is_roomy-roomy.result l c.fill_if-filled.ensures.content))

pub returns-then-roomy : goal.returns-then-roomy
returns-then-roomy c = let a = c.args in let r = c.is_roomy-roomy in let l = says-long a.mesh.now.coords.now a.mesh.now.index.labels.now a.mesh.now.parts.now a.mesh.now.index.n (length a.table.now) (sym c.in-Some.is ∙ c.fill_if-filled.ensures.answer) in
    promised_written [] (mesh_of a.mesh.now.coords.now a.mesh.now.index.labels.now a.mesh.now.parts.now) a.mesh.now.index.n _ a.table.now a.records.now
    (bars_none [] (mesh_of a.mesh.now.coords.now a.mesh.now.index.labels.now a.mesh.now.parts.now) a.mesh.now.index.n tt (length a.table.now) (length a.records.now) l (leb-true record_size _ (sym r.ensures ∙ c.if-roomy.true)))
    (filled-long a.mesh.now.coords.now a.mesh.now.index.labels.now a.mesh.now.parts.now a.mesh.now.index.n a.table.now r.result c.if-roomy.true l c.fill_if-filled.ensures.content)
    c.write_listed.ensures

pub returns-else-roomy : goal.returns-else-roomy
returns-else-roomy c = let a = c.args in let l = says-long a.mesh.now.coords.now a.mesh.now.index.labels.now a.mesh.now.parts.now a.mesh.now.index.n (length a.table.now) (sym c.in-Some.is ∙ c.fill_if-filled.ensures.answer) in
    rw (refused_is c.from-else-roomy.result c.from-else-roomy.ensures.0 c.from-else-roomy.ensures.1) (promised_refused [] (mesh_of a.mesh.now.coords.now a.mesh.now.index.labels.now a.mesh.now.parts.now) a.mesh.now.index.n _ a.table.now a.records.now NoRoom
    (bars_room [] (mesh_of a.mesh.now.coords.now a.mesh.now.index.labels.now a.mesh.now.parts.now) a.mesh.now.index.n tt (length a.table.now) (length a.records.now) l (leb-false record_size _ (sym c.is_roomy-roomy.ensures ∙ c.if-roomy.false)))
    (c.fill_if-filled.ensures.content ∙ rw c.if-roomy.false))
