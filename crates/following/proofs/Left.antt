-- Whether any cell is left.
-- Assumes nothing.
use Prim.Native.Nat.{ℕ, ◌+◌, ◌≤◌}
use mathlib.Core.Path.{◌≡◌, sym}
use mathlib.Core.Bool.{true}
use mathlib.Core.List.{List}
use native.Mathlib.Omega.{arith}
use native.Mathlib.Decide.{dec_lt}
use Rattle.space.specs.Mesh.{Mesh}
use Rattle.templates.specs.Tables.{pyramid}
use Rattle.cells.specs.Full.{full_list}
use Rattle.record.specs.declared.Mark.{Mark}
use Rattle.record.specs.Marks.{mark_corners, mark_of}
use Rattle.portions.specs.Portions.{remains}
use Rattle.portions.proofs.Loop.{next-remains}
use Rattle.rule.specs.Rule.{tet_rule}
use Rattle.rule.proofs.Full.{lawful}
use Rattle.rule.proofs.OneKind.{flat-pyramid}
use Rattle.rule.proofs.Next.{later-all, later-own, pyramid-remains}
use Rattle.pyramid_left.specs.between.Seen.{Seen}
use Rattle.following.specs.between.Following.{Comes}
use Rattle.following.specs.declared.NextCell.{NextCell}
use Rattle.std.specs.Prelude.{Option, Some, None, is_some}

module _ (m : Mesh) where
  pub came_remains : (k : List ℕ) (v : Option NextCell) → Comes m k v → is_some v ≡ remains tet_rule (full_list m) k
  came_remains k None n = next-remains tet_rule (full_list m) (lawful m) n.1
  came_remains k (Some s) n = next-remains tet_rule (full_list m) (lawful m) n.next

  -- by a pyramid that was seen
  pub seen_remains : {lo : ℕ} (k : Mark) → Seen m lo → 5 ≤ k.kind → (k.kind ≡ 5 → lo ≡ k.a + 1) → true ≡ remains tet_rule (full_list m) (mark_of k)
  seen_remains {lo} k s h f =
      sym (pyramid-remains m (mark_of k) s.tuple s.leaf (elim (dec_lt 5 k.kind) [
        | yes g ↦ later-all m pyramid flat-pyramid (mark_corners k) s.tuple g s.leaf
        | no g ↦ let q : k.kind ≡ 5 = omega arith in later-own m pyramid flat-pyramid (mark_corners k) s.tuple q (omega (arith, f q, s.first)) s.leaf
      ]))
