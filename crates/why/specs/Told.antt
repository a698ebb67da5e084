-- What an answer to a file, a kind and eight numbers tells.
-- Assumes nothing.
use Rattle.std.specs.Prelude.{ℕ, ◌≤◌, ◌≡◌, true, List, length, IsOkAnd}
use Rattle.base.specs.Refusals.{first_of}
use Rattle.layout.specs.Layout.{decoded}
use Rattle.arrays.specs.Refusals.{refusal}
use Rattle.templates.specs.Tables.{template_of, tuple_of, is_kind}
use Rattle.reasons.specs.True.{True, InTheList}
use Rattle.reasons.specs.Numbers.{finding_number}
use Rattle.why.specs.Why.{why_refusals, explained}

pub record Told (f : List ℕ) (k : ℕ) (vs : List ℕ) : Type 0 where
  -- the number told is that of the first refusal that applies
  pub refused : finding_number (explained f k vs) ≡ first_of (why_refusals f k)
  -- of an accepted file and a kind: the condition fails and fails where it is said, every earlier condition holds and
  -- every earlier place passes
  pub tells : refusal f ≡ 0 → is_kind k ≡ true → 8 ≤ length vs → IsOkAnd (explained f k vs) (True (decoded f) (template_of k) (tuple_of k vs))
  -- and a cell is told of exactly where its least form stands in the full list
  pub listed : refusal f ≡ 0 → is_kind k ≡ true → 8 ≤ length vs → IsOkAnd (explained f k vs) (InTheList (decoded f) (template_of k) (tuple_of k vs))
