-- The plain mathematics of the search.
-- Assumes nothing.
use mathlib.Core.Path.{◌≡◌, refl, sym, ◌∙◌, subst}
use mathlib.Core.Bool.{Bool, true, false, true≢false}
use mathlib.Core.Logic.{◌⊎◌, inl, inr, ⊎_elim}
use mathlib.Core.List.{List}
use Prim.Native.Nat.{ℕ, zero-le, ◌≤◌, ◌<◌, ◌+◌, ◌-◌}
use native.Mathlib.Omega.{arith}
use borrow.Author.Count.{below_more}
use native.Mathlib.Decide.{dec_lt, ℕ_discrete}
use lib.ListN.{length, get_or, set, length-set}
use lib.Seq.{get_or-set_same, get_or-set_other}
use Rattle.portions.specs.between.Tuples.{Agree, Lt, Le, LeastAfter, Skips}

-- nothing lies from lo up to c + 1 that passes, where nothing does up to c, nor c
pub missed_more : (P : ℕ → Type 0) (lo c : ℕ) → ((x : ℕ) → lo ≤ x → x < c → P x → ⊥) → (P c → ⊥) → (x : ℕ) → lo ≤ x → x < c + 1 → P x → ⊥
missed_more P lo c all here x a b p = elim (dec_lt x c) [ yes h ↦ all x a h p | no h ↦ here (subst P (let e : x ≡ c = omega arith in e) p) ]

-- ── the order
-- where two tuples part, as seen from level d: above it, at it, or below it
pub cut : (d k : ℕ) (x y : List ℕ) → Lt k x y → Lt d x y ⊎ ((Agree d x y × (get_or x d 0 < get_or y d 0)) ⊎ (Agree (d + 1) x y × (d + 1 < k)))
cut d k x y h =
    elim (dec_lt h.place d) [
      | yes a ↦ inl (record { place = h.place; within = a; same = h.same; less = h.less })
      | no a ↦ elim (ℕ_discrete h.place d) [
        | yes e ↦ inr (inl (subst (λ (p : ℕ). Agree p x y × (get_or x p 0 < get_or y p 0)) e (h.same, h.less)))
        | no b ↦ inr (inr (λ j l. h.same j (omega arith), omega (arith, h.within)))
      ]
    ]

-- a store at d is not seen below d
pub below : (t : List ℕ) (d c j : ℕ) → j < d → get_or (set t d c) j 0 ≡ get_or t j 0
below t d c j l = get_or-set_other t d j c 0 (λ e. omega arith)

-- ── the search's place: the corners of t below d are fixed, and lo is the next candidate at d
-- s is at or after the place
abbrev pub Ahead : List ℕ → ℕ → ℕ → List ℕ → Type 0
Ahead t d lo s = Lt d t s ⊎ (Agree d t s × (lo ≤ get_or s d 0))

-- every tuple at the place is after m
abbrev pub Past : List ℕ → List ℕ → ℕ → ℕ → Type 0
Past m t d lo = Lt d m t ⊎ (Agree d m t × (get_or m d 0 < lo))

pub record Open (k : ℕ) (leaf : List ℕ → Bool) (m t : List ℕ) (d lo : ℕ) : Type 0 where
  pub inside : d < k
  pub long : k ≤ length t
  pub past : Past m t d lo
  pub ahead : (s : List ℕ) → leaf s ≡ true → Lt k m s → Ahead t d lo s

-- what the search is told of the test: of a tuple that passes, each entry is below n;
-- and it reads the first k entries alone
pub record Laws (k n : ℕ) (leaf : List ℕ → Bool) : Type 0 where
  pub small : (s : List ℕ) (d : ℕ) → leaf s ≡ true → d < k → get_or s d 0 < n
  pub reads : (s t : List ℕ) → Agree k s t → leaf s ≡ leaf t

module _ {k n : ℕ} {leaf : List ℕ → Bool} (law : Laws k n leaf) {m : List ℕ} where
  -- the search begins at a level at which no tuple that passes goes on with the mark's entry, or at the last
  pub begin : {d : ℕ} → d < k → k ≤ length m → (d + 1 ≡ k) ⊎ ((s : List ℕ) → leaf s ≡ true → Agree (d + 1) m s → ⊥) → Open k leaf m m d (get_or m d 0 + 1)
  begin {d} h l w = record {
    inside = h;
    long = l;
    past = inr (λ j b. refl, omega arith);
    ahead = λ s p a. elim (cut d k m s a) [
      | inl x ↦ inl x
      | inr x ↦ elim x [
        | inl y ↦ inr (y.0, omega (arith, y.1))
        | inr y ↦ ⊎_elim (λ (e : d + 1 ≡ k). absurd (let z : ⊥ = omega (arith, y.1) in z)) (λ f. absurd (f s p y.0)) w
      ]
    ];
  }

  module _ {t : List ℕ} {d lo c : ℕ} (o : Open k leaf m t d lo) (s : Skips leaf t d n lo c) where
    -- nothing that passes lies between lo and c at d
    missed : (x : List ℕ) → leaf x ≡ true → Agree d t x → lo ≤ get_or x d 0 → get_or x d 0 < c → ⊥
    missed x p a l b = s.miss x p a l b

    exact : (x : List ℕ) → leaf x ≡ true → Agree d t x → lo ≤ get_or x d 0 → (c < get_or x d 0 → ⊥) → c ≡ get_or x d 0
    exact x p a l b = elim (dec_lt (get_or x d 0) c) [ yes g ↦ absurd (missed x p a l g) | no g ↦ omega arith ]

    -- a candidate is found at d
    module _ (h : c < n) where
      there : get_or (set t d c) d 0 ≡ c
      there = get_or-set_same t d c 0 (omega (arith, o.inside, o.long))

      pub found_after : Lt (d + 1) m (set t d c)
      found_after = ⊎_elim
          (λ w. record {
            place = w.place;
            within = omega (arith, w.within);
            same = λ j l. w.same j l ∙ sym (below t d c j (omega (arith, w.within)));
            less = omega (arith, w.less, below t d c w.place w.within);
          })
          (λ w. record {
            place = d;
            within = omega arith;
            same = λ j l. w.0 j l ∙ sym (below t d c j l);
            less = omega (arith, w.1, there, s.low h);
          })
          o.past

      pub found-least : (x : List ℕ) → leaf x ≡ true → Lt k m x → Le (d + 1) (set t d c) x
      found-least x p a = ⊎_elim
          (λ w. inl (record {
            place = w.place;
            within = omega (arith, w.within);
            same = λ j l. below t d c j (omega (arith, w.within)) ∙ w.same j l;
            less = omega (arith, w.less, below t d c w.place w.within);
          }))
          (λ w. elim (dec_lt c (get_or x d 0)) [
            | yes b ↦ inl (record {
              place = d;
              within = omega arith;
              same = λ j l. below t d c j l ∙ w.0 j l;
              less = omega (arith, there);
            })
            | no b ↦ inr (below_more (λ (j : ℕ). get_or (set t d c) j 0 ≡ get_or x j 0) d (λ j l. below t d c j l ∙ w.0 j l) (there ∙ exact x p w.0 w.1 b))
          ])
          (o.ahead x p a)

      kept : k ≤ length (set t d c)
      kept = simp length-set o.long

      pub descend : d + 1 < k → Open k leaf m (set t d c) (d + 1) 0
      descend g = record {
        inside = g;
        long = kept;
        past = inl found_after;
        ahead = λ x p a. ⊎_elim (λ w. inl w) (λ w. inr (w, zero-le)) (found-least x p a);
      }

      module _ (g : k ≤ d + 1) where
        whole : d + 1 ≡ k
        whole = omega (arith, o.inside)

        pub reject : leaf (set t d c) ≡ false → Open k leaf m (set t d c) d (c + 1)
        reject q = record {
          inside = o.inside;
          long = kept;
          past = elim (cut d (d + 1) m (set t d c) found_after) [
            | inl y ↦ inl y
            | inr y ↦ elim y [
              | inl z ↦ inr (z.0, omega (arith, z.1, there))
              | inr z ↦ absurd (let e : ⊥ = omega (arith, z.1) in e)
            ]
          ];
          ahead = λ x p a. ⊎_elim
              (λ w. elim (cut d (d + 1) (set t d c) x w) [
                | inl y ↦ inl y
                | inr y ↦ elim y [
                  | inl z ↦ inr (z.0, omega (arith, z.1, there))
                  | inr z ↦ absurd (let e : ⊥ = omega (arith, z.1) in e)
                ]
              ])
              (λ w. absurd (true≢false (sym p ∙ sym (law.reads (set t d c) x (λ j l. w j (omega (arith, whole)))) ∙ q)))
              (found-least x p a);
        }

        pub result : leaf (set t d c) ≡ true → LeastAfter k leaf m true (set t d c)
        result q = record {
          holds = λ e. q;
          after = λ e. subst (λ (i : ℕ). Lt i m (set t d c)) whole found_after;
          least = λ e x p a. subst (λ (i : ℕ). Le i (set t d c) x) whole (found-least x p a);
          none = λ e. absurd (true≢false e);
        }

    -- there is no candidate at d
    module _ (h : n ≤ c) where
      gone : (x : List ℕ) → leaf x ≡ true → Agree d t x → lo ≤ get_or x d 0 → ⊥
      gone x p a l = missed x p a l (omega (arith, law.small x d p o.inside))

      pub carry : 0 < d → Open k leaf m t (d - 1) (get_or t (d - 1) 0 + 1)
      carry g = record {
        inside = omega (arith, o.inside);
        long = o.long;
        past = ⊎_elim
            (λ w. elim (cut (d - 1) d m t w) [
              | inl y ↦ inl y
              | inr y ↦ elim y [
                | inl z ↦ inr (z.0, omega (arith, z.1))
                | inr z ↦ absurd (let e : ⊥ = omega (arith, z.1) in e)
              ]
            ])
            (λ w. inr (λ j l. w.0 j (omega arith), omega (arith, w.0 (d - 1) (omega arith))))
            o.past;
        ahead = λ x p a. ⊎_elim
            (λ w. elim (cut (d - 1) d t x w) [
              | inl y ↦ inl y
              | inr y ↦ elim y [
                | inl z ↦ inr (z.0, omega (arith, z.1))
                | inr z ↦ absurd (let e : ⊥ = omega (arith, z.1) in e)
              ]
            ])
            (λ w. absurd (gone x p w.0 w.1))
            (o.ahead x p a);
      }

      pub nothing : d ≡ 0 → LeastAfter k leaf m false t
      nothing g = record {
        holds = λ e. absurd (true≢false (sym e));
        after = λ e. absurd (true≢false (sym e));
        least = λ e. absurd (true≢false (sym e));
        none = λ e x p a. ⊎_elim
            (λ w. let z : ⊥ = omega (arith, w.within) in z)
            (λ w. gone x p w.0 w.1)
            (o.ahead x p a);
      }
