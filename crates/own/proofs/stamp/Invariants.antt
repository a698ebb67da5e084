-- `own::stamp` meets its contract. Assumes nothing.
use Rattle.own.specs.between.Stamps.{Stamped}
use Rattle.own.proofs.stamp.Given as goal

abbrev pub invariant-loop-v : goal.invariant-loop-v
invariant-loop-v l = Stamped l.c l.v-index l.m
