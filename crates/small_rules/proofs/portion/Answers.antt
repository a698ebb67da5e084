-- The loop's cells so far are those of `Come`, and the room holds their records.
use Prim.Native.Nat.{ℕ, ◌-◌, ◌/◌, ◌<◌, ◌≤◌}
use mathlib.Core.Path.{refl, ap}
use mathlib.Core.Bool.{not}
use lib.ListN.{length}
use native.Mathlib.Omega.{arith}
use borrow.Author.Tests.{ne_eqb, eq-eqb}
use Rattle.portions.specs.Portions.{Lawful}
use Rattle.portions.proofs.Loop.{outcome-short, come_start, come_most, come_step, outcome-none, outcome-full, outcome-long, next-remains}
use Rattle.small_rules.specs.between.Trial.{trial_rule, trials}
use Rattle.small_rules.proofs.Trial.{lawful}
use Rattle.small_rules.proofs.portion.Reads as reads
use Rattle.small_rules.proofs.portion.Lts as lts
use Rattle.small_rules.proofs.next.Reads as next-reads
use Rattle.small_rules.proofs.put.Reads as put_reads
use Rattle.small_rules.proofs.portion.Goals as goal

law : (n : ℕ) → n ≤ 65535 → Lawful trial_rule (trials n)
law n h = lawful n h

pub returns-then-room-lt2 : goal.returns-then-room-lt2
returns-then-room-lt2 c = outcome-short trial_rule (trials _) (law _ (omega arith)) _ _ (omega arith)

pub loop-c-init : goal.loop-c-init
loop-c-init c = come_start trial_rule (trials _) (law _ (omega arith)) _ _

pub shape_of-room-in_default : goal.shape_of-room-in_default
shape_of-room-in_default c = c.loop-c.invariant.laid.same

pub returns-in_default : goal.returns-in_default
returns-in_default c = outcome-none trial_rule (trials _) (law _ (omega arith)) c.loop-c.invariant (omega arith) (next-remains trial_rule (trials _) (law _ (omega arith)) c.in_default.ensures) refl

pub shape_of-room-then-i-most : goal.shape_of-room-then-i-most
shape_of-room-then-i-most c = c.loop-c.invariant.laid.same

pub returns-then-i-most : goal.returns-then-i-most
returns-then-i-most c = outcome-full trial_rule (trials _) (law _ (omega arith)) c.loop-c.invariant (omega arith) (next-remains trial_rule (trials _) (law _ (omega arith)) c.in-Some.ensures) refl c.if-i-most.true

pub shape_of-room-then-c-eq40 : goal.shape_of-room-then-c-eq40
shape_of-room-then-c-eq40 c = c.loop-c.invariant.laid.same

pub returns-then-c-eq40 : goal.returns-then-c-eq40
returns-then-c-eq40 c = let l = c.loop-c in outcome-long trial_rule (trials _) (law _ (omega arith)) l.invariant (omega arith) c.in-Some.ensures refl
    (omega (arith, come_most trial_rule (trials _) (law _ (omega arith)) l.invariant, c.if-i-most.false))
    (ap not (eq-eqb _ 40 c.if-c-eq40.true))

pub overflow_mul-i : goal.overflow_mul-i
overflow_mul-i c = omega (arith, (let it : c.loop-c.i < length c.args.room.now / 2 = let l = c.loop-c in omega (arith, come_most trial_rule (trials _) (law _ (omega arith)) l.invariant, c.if-i-most.false) in it))

pub put-requires : goal.put-requires
put-requires c = omega (arith, (let it : c.loop-c.i < length c.args.room.now / 2 = let l = c.loop-c in omega (arith, come_most trial_rule (trials _) (law _ (omega arith)) l.invariant, c.if-i-most.false) in it), c.loop-c.invariant.laid.same)

pub overflow_add-i : goal.overflow_add-i
overflow_add-i c = omega (arith, (let it : c.loop-c.i < length c.args.room.now / 2 = let l = c.loop-c in omega (arith, come_most trial_rule (trials _) (law _ (omega arith)) l.invariant, c.if-i-most.false) in it))

pub loop-c-smaller : goal.loop-c-smaller
loop-c-smaller c = omega (arith, (let it : c.loop-c.i < length c.args.room.now / 2 = let l = c.loop-c in omega (arith, come_most trial_rule (trials _) (law _ (omega arith)) l.invariant, c.if-i-most.false) in it))

pub loop-c-preserved : goal.loop-c-preserved
loop-c-preserved c = come_step trial_rule (trials _) (law _ (omega arith)) c.loop-c.invariant c.in-Some.ensures refl ((let it : c.loop-c.i < length c.args.room.now / 2 = let l = c.loop-c in omega (arith, come_most trial_rule (trials _) (law _ (omega arith)) l.invariant, c.if-i-most.false) in it)) (ap not (ne_eqb _ 40 c.if-c-eq40.false)) c.put.ensures
