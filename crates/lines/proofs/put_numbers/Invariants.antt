-- The numbers that the loop has passed are laid from `from` on.
use Rattle.std.proofs.Common.{◌≡◌, ◌+◌, length, take}
use Rattle.base.specs.Laid.{Laid}
use Rattle.lines.specs.Text.{numbers}
use Rattle.lines.proofs.put_numbers.Given as goal

abbrev pub invariant-loop-x : goal.invariant-loop-x
invariant-loop-x l =
    (l.at ≡ l.from + length (numbers (take l.x-index l.list)))
    × Laid l.from (numbers (take l.x-index l.list)) l.initial.out l.out
