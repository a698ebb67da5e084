-- The rule keeps to the laws: the full list rises, the start is before it and nine zeros after it,
-- a record has its size and tells its cell. And its order is the one of `comes_after`.
-- Assumes nothing.
use Prim.Native.Nat.{ℕ, zero, suc, ◌-◌, ◌<◌}
use mathlib.Core.Path.{◌≡◌, refl, sym, ◌∙◌, ap, ap₂}
use mathlib.Core.Logic.{◌⊎◌, inl, inr, ⊎_elim}
use mathlib.Core.Bool.{Bool, true, false, cond, ◌&&◌, ◌||◌}
use mathlib.Core.List.Memᴰ
use mathlib.Core.List.{List, [], ◌∷◌, ◌++◌, append-nil, Memᴰ}
use lib.Dec.{eqb, ltb}
use lib.ListN.{length, get_or, replicate, length-map}
use native.Mathlib.Omega.{arith}
use native.Mathlib.Decide.{dec_lt}
use borrow.Author.Tests.{lt-ltb, le-ltb, eq-eqb, ne_eqb, ltb-true}
use Rattle.base.specs.Lists.{all, keep, spread, pad}
use Rattle.base.proofs.Lists.{both_left, both_right, all_from}
use Rattle.base.proofs.Members.{keep_all, keep-none, keep_same, spread_at}
use Rattle.space.specs.Mesh.{Mesh}
use Rattle.templates.specs.Tables.{Template, hexahedron, prism, pyramid, templates, template_of, at}
use Rattle.cells.specs.Full.{Cell, cells_of, full_list}
use Rattle.record.specs.Entries.{corner_places, cell_of}
use Rattle.record.proofs.Entries.{Cornered, entries-length, tells}
use Rattle.portions.specs.Portions.{before, rises, is_after, after, Lawful, Telling, read_cells}
use Rattle.portions.specs.Run.{Calls, Demand3Over}
use Rattle.portions.proofs.Order.{before-less, before_cases, before-total, rises-append}
use Rattle.portions.proofs.Run.{demand3}
use Rattle.portions.proofs.Firm.{calls-tell}
use Rattle.rule.specs.Rule.{key, tet_rule, comes_after}
use Rattle.rule.proofs.OneKind.{upward, Flat, flat-hexahedron, flat-prism, flat-pyramid, flat-of, cells_rise, kind_at, corners-at}

-- ── the full list ──

pub kinds_fall : (c d : Cell) (a b : ℕ) → c.kind ≡ a → d.kind ≡ b → b < a → a < 65535 → upward c d ≡ true
unfolding is_after key
kinds_fall c d a b e f h l = before-less (65535 - c.kind) (65535 - d.kind) _ _ (omega arith)

-- of any cell of the list
pub record Sane (c : Cell) : Type 0 where
  pub low : 4 < c.kind
  pub high : c.kind < 9
  pub cornered : Cornered c

module _ (m : Mesh) where
  pub full_is : full_list m ≡ cells_of m hexahedron ++ (cells_of m prism ++ cells_of m pyramid)
  unfolding full_list spread
  full_is = ap (λ l. cells_of m hexahedron ++ (cells_of m prism ++ l)) (append-nil (cells_of m pyramid))

  -- the kinds fall
  pub fall : (t u : Template) (f : Flat t) (g : Flat u) → u.kind < t.kind → (x y : Cell) → Memᴰ x (cells_of m t) → Memᴰ y (cells_of m u) → upward x y ≡ true
  fall t u f g l x y h i = kinds_fall x y t.kind u.kind (kind_at m t f h) (kind_at m u g i) l (omega (arith, f.high))

  -- hexahedra come first
  pub hexahedra_first : (x y : Cell) → Memᴰ x (cells_of m hexahedron) → Memᴰ y (cells_of m prism ++ cells_of m pyramid) → upward x y ≡ true
  hexahedra_first x y h i =
      ⊎_elim (λ g. fall hexahedron prism flat-hexahedron flat-prism (omega arith) x y h g) (λ g. fall hexahedron pyramid flat-hexahedron flat-pyramid (omega arith) x y h g)
      (Memᴰ.append_cases (cells_of m prism) i)

  full-rises : rises upward (full_list m) ≡ true
  full-rises =
      ap (rises upward) full_is
      ∙ rises-append upward (cells_of m hexahedron) (cells_of m prism ++ cells_of m pyramid) (cells_rise m hexahedron flat-hexahedron)
      (rises-append upward (cells_of m prism) (cells_of m pyramid) (cells_rise m prism flat-prism) (cells_rise m pyramid flat-pyramid) (fall prism pyramid flat-prism flat-pyramid (omega arith)))
      hexahedra_first

  sane_of : (t : Template) → Flat t → {c : Cell} → Memᴰ c (cells_of m t) → Sane c
  sane_of t f {c} h =
      let e = kind_at m t f h in
      let l = corners-at m t f h in
      record { low = rw e f.low; high = rw e f.high; cornered = record { sized = l ∙ sym (ap (λ k. (template_of k).corners) e ∙ ap (λ u. u.corners) f.known); few = rw l f.few } }

  pub full_sane : {c : Cell} → Memᴰ c (full_list m) → Sane c
  unfolding full_list
  full_sane h = let x = spread_at (cells_of m) templates h in sane_of x.0 (flat-of x.1) x.2

  -- a mark of a kind above 8, as the start mark, has every cell after it,
  -- and one of a kind below 5, as nine zeros, none
  pub after_above : (k : ℕ) (vs : List ℕ) → 8 < k → after tet_rule (full_list m) (k ∷ vs) ≡ full_list m
  unfolding after is_after key
  after_above k vs l = keep_all (is_after tet_rule (k ∷ vs)) (full_list m) (all_from (is_after tet_rule (k ∷ vs)) (full_list m) (λ c h. before-less (65535 - k) (65535 - c.kind) _ _ (omega (arith, (full_sane h).high))))

  pub after-below : (k : ℕ) (vs : List ℕ) → k < 5 → after tet_rule (full_list m) (k ∷ vs) ≡ []
  unfolding after is_after key
  after-below k vs l = keep-none (is_after tet_rule (k ∷ vs)) (full_list m) (λ c h. none c (full_sane h) _ refl)
    where
      none : (c : Cell) → Sane c → (b : Bool) → is_after tet_rule (k ∷ vs) c ≡ b → b ≡ false
      none c s true e = ⊎_elim (λ q. absurd (let z : ⊥ = omega (arith, s.low, s.high) in z)) (λ q. absurd (let z : ⊥ = omega (arith, s.low, s.high, q.0) in z)) (before_cases (65535 - k) (65535 - c.kind) _ _ e)
      none c s false e = refl

  pub lawful : Lawful tet_rule (full_list m)
  lawful = record {
    some = omega arith;
    sized = λ c h f. entries-length c (full_sane h).cornered f;
    rising = full-rises;
    started = after_above 65535 _ (omega arith);
    ended = after-below 0 _ (omega arith);
  }

  -- a record tells its cell
  abbrev pub telling : Telling tet_rule (full_list m)
  telling = record { cell_of = cell_of; tells = λ c h f. tells c (full_sane h).cornered }

-- demand 3 holds of the full list
pub full_demand3 : (m : Mesh) → Demand3Over tet_rule (full_list m)
full_demand3 m = demand3 tet_rule (full_list m) (lawful m)

-- and what calls gave from the start mark to the end, read back, is the full list
pub full-told : (m : Mesh) {rooms : List (List ℕ)} {got k' : List ℕ} → Calls tet_rule (full_list m) tet_rule.start rooms got true k' → read_cells tet_rule cell_of (length (full_list m)) got ≡ full_list m
full-told m {got = got} r = ap (λ l. read_cells tet_rule cell_of (length l) got) (sym (lawful m).started) ∙ calls-tell tet_rule (full_list m) (lawful m) (telling m) r ∙ (lawful m).started

-- ── the order in words ──

-- zeros in unused places do not count
get_or-pad : (xs : List ℕ) (k i : ℕ) → get_or (xs ++ replicate k 0) i 0 ≡ get_or xs i 0
get_or-pad [] zero i = refl
get_or-pad [] (suc k) zero = refl
get_or-pad [] (suc k) (suc i) = get_or-pad [] k i
get_or-pad (x ∷ xs) k zero = refl
get_or-pad (x ∷ xs) k (suc i) = get_or-pad xs k i

at-pad : (xs : List ℕ) (k : ℕ) (is : List ℕ) → at (xs ++ replicate k 0) is ≡ at xs is
at-pad xs k [] = refl
at-pad xs k (i ∷ is) = ap₂ (λ a l. a ∷ l) (get_or-pad xs k i) (at-pad xs k is)

-- a cell is after a mark if it has a smaller kind, or its kind and a greater tuple
pub after_is : (k : ℕ) (vs : List ℕ) (c : Cell) → c.kind < 65535 → is_after tet_rule (k ∷ vs) c ≡ comes_after k vs c
unfolding is_after key comes_after before
after_is k vs c h =
    elim (dec_lt c.kind k) [
      | yes p ↦ rw (lt-ltb (65535 - k) (65535 - c.kind) (omega arith), lt-ltb c.kind k p)
      | no p ↦ elim (dec_lt k c.kind) [
        | yes q ↦ rw (le-ltb (65535 - k) (65535 - c.kind) (omega arith), le-ltb c.kind k (omega arith), ne_eqb (65535 - k) (65535 - c.kind) (omega arith), ne_eqb c.kind k (omega arith))
        | no q ↦ same (omega arith)
      ]
    ]
  where
    o : List ℕ
    o = (template_of c.kind).order

    same : k ≡ c.kind → (ltb (65535 - k) (65535 - c.kind) || (eqb (65535 - k) (65535 - c.kind) && before (at vs (template_of k).order) (at (pad corner_places 0 c.corners) o))) ≡ (ltb c.kind k || (eqb c.kind k && before (at vs o) (at c.corners o)))
    same e =
        rw (le-ltb (65535 - k) (65535 - c.kind) (omega arith), le-ltb c.kind k (omega arith), eq-eqb (65535 - k) (65535 - c.kind) (omega arith), eq-eqb c.kind k (sym e))
        (ap₂ before (ap (λ i. at vs (template_of i).order) e) (at-pad c.corners (corner_places - length c.corners) o))

pub full-after : (m : Mesh) (k : ℕ) (vs : List ℕ) → after tet_rule (full_list m) (k ∷ vs) ≡ keep (comes_after k vs) (full_list m)
unfolding after
full-after m k vs = keep_same (is_after tet_rule (k ∷ vs)) (comes_after k vs) (full_list m) (λ c h. after_is k vs c (omega (arith, (full_sane m h).high)))

-- numbers beyond the kind's corners do not count
pub unused : (k : ℕ) (vs ws : List ℕ) → ((i : ℕ) → i < (template_of k).corners → get_or vs i 0 ≡ get_or ws i 0) → key (k ∷ vs) ≡ key (k ∷ ws)
unfolding key
unused k vs ws f = ap (λ l. (65535 - k) ∷ l) (same (template_of k).order (inside (eqb k 8) (eqb k 6)))
  where
    inside : (a b : Bool) → all (λ i. ltb i (cond a hexahedron (cond b prism pyramid)).corners) (cond a hexahedron (cond b prism pyramid)).order ≡ true
    inside true b = refl
    inside false true = refl
    inside false false = refl

    same : (is : List ℕ) → all (λ i. ltb i (template_of k).corners) is ≡ true → at vs is ≡ at ws is
    same [] e = refl
    same (i ∷ is) e = ap₂ (λ a l. a ∷ l) (f i (ltb-true i _ (both_left (ltb i _) _ e))) (same is (both_right (ltb i _) _ e))

-- every two marks of 16-bit numbers are comparable: their keys are the same, or one is before the other
pub key-total : (j k : ℕ) (vs ws : List ℕ) → j < 65536 → k < 65536 → (before (key (j ∷ vs)) (key (k ∷ ws)) ≡ true) ⊎ ((before (key (k ∷ ws)) (key (j ∷ vs)) ≡ true) ⊎ (key (j ∷ vs) ≡ key (k ∷ ws)))
unfolding key
key-total j k vs ws h l =
    elim (dec_lt k j) [
      | yes p ↦ inl (before-less (65535 - j) (65535 - k) _ _ (omega arith))
      | no p ↦ elim (dec_lt j k) [
        | yes q ↦ inr (inl (before-less (65535 - k) (65535 - j) _ _ (omega arith)))
        | no q ↦ before-total _ _ (ap suc (length-map (template_of j).order (λ i. get_or vs i 0) ∙ ap (λ i. length (template_of i).order) (let e : j ≡ k = omega arith in e) ∙ sym (length-map (template_of k).order (λ i. get_or ws i 0))))
      ]
    ]
