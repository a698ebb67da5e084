-- `unpacking::put_lists` meets its contract: three pieces, one behind the other. Assumes nothing.
use Prim.Native.Nat.{◌/◌}
use native.Mathlib.Omega.{arith}
use lib.ListN.{length}
use Rattle.writing_lists.specs.Printed.{line_of, vertex_row}
use Rattle.unpacking.proofs.Rows.{rows-most, vertex-short}
use Rattle.unpacking.proofs.Texts.{counts-most, counts-kept, text-laid}
use borrow.Author.Rules.{rules}
use Rattle.unpacking.proofs.put_lists.Goals as goal

pub put_vertices-second-requires : goal.put_vertices-second-requires
put_vertices-second-requires c = let p = c.put_line-first.ensures in let m = counts-most (length c.args.coordinates.now / 3) (length c.args.parts.now) in
    let h = c.requires.fits in record { vertex_place_in_bounds = (omega (arith, p.next, p.text.same), omega arith); close = c.requires.close }

pub put_tets-requires : goal.put_tets-requires
put_tets-requires c = let p = c.put_line-first.ensures in let v = c.put_vertices-second.ensures in let cs = c.args.coordinates.now in let l = counts-most (length cs / 3) (length c.args.parts.now) in
    let m = rows-most (λ v. line_of (vertex_row cs v)) _ (vertex-short cs c.requires.close) (length cs / 3) in
    let h = c.requires.fits in record { tet_place_in_bounds = (omega (arith, p.next, p.text.same, v.next, v.text.same), c.requires.fours); three_digits = c.requires.few }

pub returns : goal.returns
returns c = let t = c.put_tets.ensures in let v = c.put_vertices-second.ensures in let p = c.put_line-first.ensures in let cs = c.args.coordinates.now in let ps = c.args.parts.now in let whole = text-laid cs c.args.labels.now ps (counts-kept (length cs / 3) (length ps) (search rules) (search rules))
    p.next p.text v.next v.text t.next t.text in record { next = whole.0; text = whole.1 }
