-- A piece of the text is read behind the pieces before it.
use Rattle.std.proofs.Common.{◌≡◌, List, ℕ, [], ◌∷◌, ◌++◌, take, sym, ap, ◌∙◌}
use Rattle.std.specs.Io.KnownBytes.{Consumes}
use Rattle.std.proofs.KnownBytes.{Consumes-trans}
use Rattle.reading_words.specs.Steps.{begun}
use Rattle.reading_lists.specs.Reading.{Reading, reading, read_all}
use Rattle.reading_lists.proofs.Pieces.{read-pieces}
use Rattle.input.proofs.read_text.Goals as goal
use Rattle.input.proofs.read_text.Goals.{else-loop-test, then-loop-test+then-k-text}

behind : (x y : List ℕ) (s t u : Reading) → t ≡ read_all x s → u ≡ read_all y t → u ≡ read_all (x ++ y) s
behind x y s t u e f = f ∙ ap (read_all y) e ∙ sym (read-pieces x y s)

pub loop-preserved : goal.loop-preserved
loop-preserved g c =
    let i = c.loop.invariant in
    let y = take c.read_full-k.result c.read_full-k.new.room in
    (i.0 ++ y, Consumes-trans _ _ _ _ _ i.1 c.read_full-k.ensures.bytes, behind i.0 y _ _ _ i.2 c.feed-r.ensures)

pub returns : goal.returns
returns g c =
    let a = c.args in
    let i = c.loop.invariant in
    let l = c.loop-test in
    let all : (x : List ℕ) × Consumes (g.R.Read.remaining a.from.now) (g.R.Read.remaining l.from) x × (reading l.r l.coordinates l.numbers l.parts ≡ read_all x (reading begun a.coordinates.now a.numbers.now a.parts.now)) = elim l.branch [
      | else-loop-test w ↦ rw (w.from-is, w.r-is, w.coordinates-is, w.numbers-is, w.parts-is) i
      | then-loop-test+then-k-text w ↦ let y = take w.read_full-k.result w.read_full-k.new.room in
          rw (w.from-is, w.r-is, w.coordinates-is, w.numbers-is, w.parts-is) (i.0 ++ y, Consumes-trans _ _ _ _ _ i.1 w.read_full-k.ensures.bytes, behind i.0 y _ _ _ i.2 w.feed-r.ensures)
    ] in
    (all.0, c.feed-r-2.result, all.1, behind all.0 (10 ∷ []) _ _ _ all.2 c.feed-r-2.ensures, c.finish.ensures)
