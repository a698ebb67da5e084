-- A hunt by whatever aim is known leaves out no cell,
-- and neither does a search from the first vertex that a place may have.
-- Assumes nothing.
use Prim.Native.Nat.{ℕ, ◌+◌, ◌-◌, ◌<◌, ◌≤◌}
use mathlib.Core.Path.{◌≡◌, refl, subst}
use mathlib.Core.Logic.{inl, inr, ⊎_elim}
use mathlib.Core.Bool.{Bool, true, false}
use mathlib.Core.List.{List}
use native.Mathlib.Omega.{arith}
use lib.Dec.{eqb}
use lib.IntN.{ℤ}
use lib.ListN.{length, get_or, set}
use Rattle.base.specs.Lists.{up_to}
use Rattle.space.specs.Arrays.{mesh_of}
use Rattle.templates.specs.Tables.{template_of}
use Rattle.portions.specs.between.Tuples.{Agree, Skips}
use Rattle.rule.specs.between.Leaf.{is_leaf}
use Rattle.levels.specs.declared.Place.{Place}
use Rattle.levels.specs.between.Levels.{base, lesser, look}
use Rattle.levels.proofs.Right.{right_at}
use Rattle.levels.proofs.Following.{follows_any, follows-below, ahead-at, row_three}
use Rattle.reaching.specs.between.Reaching.{Closes, LeastAsked}
use Rattle.candidates.specs.between.Met.{Raised}
use Rattle.aims.specs.between.Aims.{LinksFirst, Aims}
use Rattle.hunting.specs.between.Goes.{face_edge_at, Follows, Goes}
use Rattle.listed.proofs.Prune.{passes}
use Rattle.listed.proofs.Above.{leaf_above}
use Rattle.listed.proofs.Ahead.{leaf_aims}
use Rattle.search.specs.between.Ready.{Drawn, OfKind}
use Rattle.search.proofs.Scanning.{set_agrees}

pub raised_skips : (zs : List ℤ) (ls ps : List ℕ) {k : ℕ} {place : Place} → OfKind k place → {n lo from r : ℕ} → Raised place.tuple place.row lo from → Skips (is_leaf (mesh_of zs ls ps) (template_of k)) place.tuple place.at n from r → Skips (is_leaf (mesh_of zs ls ps) (template_of k)) place.tuple place.at n lo r
raised_skips zs ls ps {k} {place} o {n} {lo} {from} {r} q b =
    let d = place.at in
    let a = subst (λ x. Raised place.tuple x lo from) o.row q in
    record {
      low = λ g. omega (arith, a.low, b.low g);
      miss = λ s leaf g f. b.miss s leaf g (⊎_elim (λ e. omega arith) (λ e.
          let j = get_or lesser (base k + d) 0 - 1 in
          let l : j < get_or lesser (base k + d) 0 = omega (arith, e.0) in
          omega (arith, e.1, leaf_above zs ls ps k s leaf d o.inside j l, g j (omega (arith, (right_at k d o.inside).of_lesser)))) a.from);
    }

-- ── a listed tuple goes on ──

module _ (zs : List ℤ) (ls ps : List ℕ) {n : ℕ} {hs table : List ℕ} (w : Drawn ls n hs table) (few : length (mesh_of zs ls ps).points ≤ 512) (k : ℕ) (t : List ℕ) (d : ℕ) (h : d < (template_of k).corners) (l : d < length t) (z : eqb (look (base k + d) 0) (look (base k + d) 1) ≡ false) where
  abbrev x : ℕ
  x = base k + d

  module _ (s : List ℕ) (leaf : is_leaf (mesh_of zs ls ps) (template_of k) s ≡ true) (a : Agree d t s) where
    links-there : d ≡ 3 → (y : ℕ) → LinksFirst n table hs s y → LinksFirst n table hs t y
    links-there e y f = rw (a 0 (omega arith), a 1 (omega arith), a 2 (omega arith)) f

    aims_there : {some both : Bool} {o p : ℕ} → Aims (LinksFirst n table hs t) x some both o p → Aims (LinksFirst n table hs s) x some both o p
    aims_there q = record {
      none = λ e. let n = q.none e in (n.0, λ y f. n.1 y (links-there (row_three k d h n.0).place y f));
      each = λ e. let f = q.each e in (f.0, ⊎_elim inl (λ n. inr (⊎_elim inl (λ m. inr (m.0, λ y f. m.1 y (links-there (row_three k d h m.0).place y f))) n)) f.1);
      either = λ e. let f = q.either e in (f.0, ⊎_elim inl (λ m. inr (m.0, λ y g. m.1 y (links-there (row_three k d h m.0).place y g))) f.1);
    }

    closes_here : (i : ℕ) {o p v : ℕ} → follows_any (template_of k) x i d ≡ true → Closes n table hs (face_edge_at s x i o p) v → Closes n table hs (face_edge_at t x i o p) v
    closes_here i e f =
        let b = follows-below (template_of k) (up_to (template_of k).corners) (look x i) (look x (i + 1)) (look x (i + 2)) d e in
        rw (a 0 (omega (arith, b.1)), a (look x i) b.0.0, a (look x (i + 1)) b.0.1, a (look x (i + 2)) b.1) f

    follows_here : {o p v : ℕ} {both : Bool} → Follows n table hs s x o p both v → Follows n table hs t x o p both v
    follows_here q =
        let f = ahead-at k d h z in
        record {
          each = λ e. let c = q.each e in (closes_here 0 f.0 c.0, closes_here 3 f.1 c.1);
          some = λ e. ⊎_elim inl (λ c. inr (⊎_elim (λ i. inl (closes_here 0 f.0 i)) (λ i. inr (closes_here 3 f.1 i)) c)) (q.some e);
        }

    goes : Goes zs n table hs (record { tuple = t; row = base k + d; at = d }) (get_or s d 0)
    goes = record {
      fit = passes zs ls ps k s leaf d h (set t d (get_or s d 0)) (set_agrees t d l s a (get_or s d 0) refl) w.hinted;
      follows = λ some both o p q. let r = leaf_aims zs ls ps k s leaf w.labelled w.tabled w.hinted few d h z (aims_there q) in (r.0, follows_here r.1);
    }

  goes_skips : {lo r : ℕ} → LeastAsked (Goes zs n table hs (record { tuple = t; row = base k + d; at = d })) lo n r → Skips (is_leaf (mesh_of zs ls ps) (template_of k)) t d n lo r
  goes_skips b = record {
    low = b.low;
    miss = λ s leaf a f g. let i = b.least (get_or s d 0) (goes s leaf a) f in omega arith;
  }

pub hunt_skips : (zs : List ℤ) (ls ps : List ℕ) {n : ℕ} {hs table : List ℕ} → Drawn ls n hs table → length (mesh_of zs ls ps).points ≤ 512 → {k : ℕ} {place : Place} → OfKind k place → place.at < length place.tuple → eqb (look place.row 0) (look place.row 1) ≡ false → {lo r : ℕ} → LeastAsked (Goes zs n table hs place) lo n r → Skips (is_leaf (mesh_of zs ls ps) (template_of k)) place.tuple place.at n lo r
hunt_skips zs ls ps {n} {hs} {table} w few {k} {place} o l z {lo} {r} b =
    goes_skips zs ls ps w few k place.tuple place.at o.inside l
    (subst (λ x. eqb (look x 0) (look x 1) ≡ false) o.row z)
    (subst (λ x. LeastAsked (Goes zs n table hs (record { tuple = place.tuple; row = x; at = place.at })) lo n r) o.row b)
