-- The cells that the loop has written are those of `Come`, and the room holds their records. Assumes nothing.
use native.Mathlib.Omega.{arith}
use Prim.Native.Nat.{◌/◌}
use mathlib.Core.Path.{◌≡◌, refl, subst}
use lib.ListN.{length}
use Rattle.std.specs.Prelude.{None}
use Rattle.following.specs.between.Following.{Comes}
use Rattle.space.specs.Arrays.{mesh_of}
use Rattle.cells.specs.Full.{full_list}
use Rattle.record.specs.Marks.{mark_of}
use Rattle.portions.specs.between.Steps.{Come}
use Rattle.portions.proofs.Loop.{come_start, come_most}
use Rattle.rule.specs.Rule.{tet_rule}
use Rattle.rule.proofs.Full.{lawful}
use Rattle.filling.proofs.Found.{found_padded}
use Rattle.following.proofs.Left.{came_remains}
use Rattle.records.proofs.Records.{written_none, written-long, come_on}
use Rattle.records.proofs.write_up.Goals as goal

pub loop-i-init : goal.loop-i-init
loop-i-init c = come_start tet_rule _ (lawful _) _ _

-- ── no cell is left ──
pub shape_of-records-in_default : goal.shape_of-records-in_default
shape_of-records-in_default c = c.loop-i.invariant.laid.same

pub returns-in_default : goal.returns-in_default
returns-in_default c = λ e q.
    written_none _ c.loop-i.invariant c.requires (came_remains _ _ None (subst (Comes _ _) c.in_default.is c.next_cell.ensures)) e q refl

-- ── the next one is too long ──
pub shape_of-records-then-tets-gt-TET_PLACES : goal.shape_of-records-then-tets-gt-TET_PLACES
shape_of-records-then-tets-gt-TET_PLACES c = c.loop-i.invariant.laid.same

pub returns-then-tets-gt-TET_PLACES : goal.returns-then-tets-gt-TET_PLACES
returns-then-tets-gt-TET_PLACES c = written-long _ c.loop-i.invariant c.requires (subst (Comes _ _) c.in-Some.is c.next_cell.ensures)
    (omega (arith, c.loop-i-test.true)) (omega (arith, c.if-tets-gt-TET_PLACES.true))

-- ── one more ──
pub put_record-requires : goal.put_record-requires
put_record-requires c =
    record { count_le_tet_places = (omega (arith, c.if-tets-gt-TET_PLACES.false), found_padded (subst (Comes _ _) c.in-Some.is c.next_cell.ensures).tets (omega (arith, c.if-tets-gt-TET_PLACES.false))); record_size_in_bounds = omega (arith, c.loop-i-test.true, c.loop-i.invariant.laid.same) }

pub loop-i-preserved : goal.loop-i-preserved
loop-i-preserved c =
    come_on _ c.loop-i.invariant (subst (Comes _ _) c.in-Some.is c.next_cell.ensures) (omega (arith, c.loop-i-test.true)) (omega (arith, c.if-tets-gt-TET_PLACES.false)) c.put_record.ensures

-- ── the room is full ──
pub shape_of-records : goal.shape_of-records
shape_of-records c = c.loop-i.invariant.laid.same

pub returns : goal.returns
returns c =
    let g = c.args.ground.now in
    let e : c.loop-i.i ≡ length c.args.records.now / tet_rule.size = omega (arith, come_most tet_rule _ (lawful _) c.loop-i.invariant, c.loop-i-test.false) in
    (subst (λ i. Come tet_rule (full_list (mesh_of g.mesh.coords.now g.mesh.index.labels.now g.mesh.parts.now)) (mark_of c.args.mark) c.args.records.now (mark_of c.loop-i.k) i c.loop-i.records) e c.loop-i.invariant, refl)
