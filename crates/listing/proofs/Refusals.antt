-- Which refusal is told, and that 1 to 11 write nothing while 12 fills the table. Assumes nothing.
use Prim.Native.Nat.{ℕ, ◌/◌, ◌<◌, ◌≤◌}
use mathlib.Core.Path.{◌≡◌, refl, ◌∙◌}
use mathlib.Core.Logic.{◌⊎◌, inl, inr, ⊎_elim}
use mathlib.Core.Bool.{Bool, true, false, cond, true≢false}
use mathlib.Core.List.{List, ◌++◌}
use native.Mathlib.Omega.{arith}
use native.Mathlib.Decide.{dec_lt}
use borrow.Author.Tests.{le-ltb, ne_eqb}
use lib.Dec.{leb}
use lib.ListN.{length, take, drop}
use Rattle.base.specs.Lists.{all, leading}
use Rattle.base.specs.Refusals.{Refusal, first_of}
use Rattle.base.proofs.Refusals.{numbered, passed}
use Rattle.space.specs.Mesh.{Mesh}
use Rattle.cells.specs.Full.{full_list}
use Rattle.neighbours.specs.Table.{table_of}
use Rattle.portions.specs.Portions.{reply, refused, given, after, records, last_mark, portion_of, portion}
use Rattle.rule.specs.Rule.{tet_rule}
use Rattle.record.specs.Entries.{record_size}
use Rattle.std.specs.Prelude.{Ok, Err}
use Rattle.records.specs.Marks.{Answer, says, answer_number}
use Rattle.portioning.specs.Portion.{barred, portion_by, table_left, Promised}
use Rattle.portioning.proofs.Promised.{bars_file, bars_table, bars_room}

-- what is said tells the number
said : (a : Answer) {y : ℕ} → says a ≡ refused y → answer_number a ≡ y
said (Err x) e = cc
said (Ok x) e = absurd (true≢false (let v : true ≡ false = cc in v))

said-given : (a : Answer) {n : ℕ} {b : Bool} {k : List ℕ} → says a ≡ given n b k → answer_number a ≡ 0
said-given (Err x) e = absurd (true≢false (let v : true ≡ false = cc in v))
said-given (Ok x) e = refl

-- with room for a record a portion of the full list is refused with 12 only
listed_number : (m : Mesh) (k : List ℕ) (room : ℕ) (a : Answer) → tet_rule.size ≤ room → says a ≡ (portion tet_rule (full_list m) k room).answer → (answer_number a ≡ 0) ⊎ (answer_number a ≡ 12)
unfolding portion portion_of
listed_number m k room a h e =
    let cs = after tet_rule (full_list m) k in
    let w = take (room / tet_rule.size) cs in
    let none = leb (length cs) (room / tet_rule.size) in
    go (all tet_rule.fits w) (length w) none (cond none tet_rule.end (last_mark tet_rule k w)) (records tet_rule w) (records tet_rule (leading tet_rule.fits w)) (e ∙ rw (le-ltb room tet_rule.size h))
  where
    go : (t : Bool) (n : ℕ) (b : Bool) (k' v w : List ℕ) → says a ≡ (cond t (reply (given n b k') v) (reply (refused 12) w)).answer → (answer_number a ≡ 0) ⊎ (answer_number a ≡ 12)
    go true n b k' v w e = inl (said-given a e)
    go false n b k' v w e = inr (said a e)

module _ {rs : List Refusal} {m : Mesh} {n : ℕ} {k table room table' room' : List ℕ} {a : Answer} (p : Promised rs m n k table room a table' room') where
  -- the first of 1 to 11 that applies is told, and nothing is written
  pub barred-told : 0 < barred rs m n (length table) (length room) → answer_number a ≡ barred rs m n (length table) (length room)
  unfolding portion_by
  barred-told h = said a (p.answered ∙ rw (ne_eqb (barred rs m n (length table) (length room)) 0 (λ e. omega arith)))

  pub barred_writes_nothing : 0 < barred rs m n (length table) (length room) → (table' ≡ table) × (room' ≡ room)
  unfolding portion_by table_left
  barred_writes_nothing h =
      let e = ne_eqb (barred rs m n (length table) (length room)) 0 (λ e. omega arith) in
      (p.tabled ∙ rw e, p.stored ∙ rw e)

  -- where none applies, the table is filled, and if anything is refused it is 12
  pub filled : barred rs m n (length table) (length room) ≡ 0 → table' ≡ table_of m n ++ drop (length (table_of m n)) table
  unfolding table_left
  filled e = p.tabled ∙ rw e

  pub only_twelve : numbered rs ≡ true → barred rs m n (length table) (length room) ≡ 0 → (answer_number a ≡ 0) ⊎ (answer_number a ≡ 12)
  unfolding portion_by
  only_twelve g e = listed_number m k (length room) a roomy (p.answered ∙ rw e)
    where
      roomy : tet_rule.size ≤ length room
      roomy = elim (dec_lt (length room) record_size) [
        | yes h ↦ elim (dec_lt 0 (first_of rs)) [
          | yes l ↦ absurd (omega (arith, bars_file rs m n (length table) (length room) l))
          | no l ↦
              let q = passed rs g (omega arith) in
              elim (dec_lt (length table) (length (table_of m n))) [
                | yes t ↦ absurd (omega (arith, bars_table rs m n q (length table) (length room) t))
                | no t ↦ absurd (omega (arith, bars_room rs m n q (length table) (length room) (omega arith) h))
              ]
        ]
        | no h ↦ omega arith
      ]

  -- so a call that is refused with 1 to 11 leaves the table and the room as they were
  pub writes_nothing : numbered rs ≡ true → 0 < answer_number a → answer_number a < 12 → (table' ≡ table) × (room' ≡ room)
  writes_nothing g h l = elim (dec_lt 0 (barred rs m n (length table) (length room))) [
    | yes b ↦ barred_writes_nothing b
    | no b ↦ absurd (⊎_elim (λ e. let z : ⊥ = omega arith in z) (λ e. let z : ⊥ = omega arith in z) (only_twelve g (omega arith)))
  ]
