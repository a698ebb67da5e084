-- Calls of a search, each from what the last one returned, give the sorted list of all that pass.
-- Assumes nothing.
use mathlib.Core.Path.{◌≡◌, refl, sym}
use mathlib.Core.Bool.{Bool, true, false}
use mathlib.Core.Logic.{◌⊎◌, inl, inr, ⊎_elim}
use mathlib.Core.List.{List, [], ◌∷◌, ◌++◌}
use Prim.Native.Nat.{ℕ}
use Rattle.portions.specs.between.Tuples.{Agree, Lt, Le, LeastAfter}
use Rattle.portions.proofs.Tuples.{lt_irrefl, lt_trans, lt_agree, agree_lt, le_antisym}

-- each is after the one before, the first after m
abbrev pub Rising : ℕ → List ℕ → List (List ℕ) → Type 0
Rising k m [] = Unit {0}
Rising k m (r ∷ ts) = Lt k m r × Rising k r ts

abbrev pub All : (List ℕ → Type 0) → List (List ℕ) → Type 0
All P [] = Unit {0}
All P (r ∷ ts) = P r × All P ts

abbrev pub Some : (List ℕ → Type 0) → List (List ℕ) → Type 0
Some P [] = ⊥
Some P (r ∷ ts) = P r ⊎ Some P ts

abbrev pub Same : ℕ → List (List ℕ) → List (List ℕ) → Type 0
Same k [] [] = Unit {0}
Same k [] (u ∷ us) = ⊥
Same k (t ∷ ts) [] = ⊥
Same k (t ∷ ts) (u ∷ us) = Agree k t u × Same k ts us

-- ts is the sorted list of all that pass after m
pub record Full (k : ℕ) (leaf : List ℕ → Bool) (m : List ℕ) (ts : List (List ℕ)) : Type 0 where
  pub sorted : Rising k m ts
  pub pass : All (λ (r : List ℕ). leaf r ≡ true) ts
  pub all : (s : List ℕ) → leaf s ≡ true → Lt k m s → Some (λ (r : List ℕ). Agree k r s) ts

-- ts is what calls of the search give, each from what the last one returned, until one finds nothing
pub data Listed (k : ℕ) (leaf : List ℕ → Bool) : List ℕ → List (List ℕ) → Type 0 where
  done : {m : List ℕ} (r : List ℕ) → LeastAfter k leaf m false r → Listed k leaf m []
  more : {m r : List ℕ} {ts : List (List ℕ)} → LeastAfter k leaf m true r → Listed k leaf r ts → Listed k leaf m (r ∷ ts)

module _ (k : ℕ) (leaf : List ℕ → Bool) where
  -- the calls list all that pass, in order
  pub listed-full : {m : List ℕ} {ts : List (List ℕ)} → Listed k leaf m ts → Full k leaf m ts
  listed-full (done r a) = record { sorted = tt; pass = tt; all = λ s p l. a.none refl s p l }
  listed-full (more a l) =
      let f = listed-full l in
      record {
        sorted = (a.after refl, f.sorted);
        pass = (a.holds refl, f.pass);
        all = λ s p g. ⊎_elim (λ b. inr (f.all s p b)) (λ b. inl b) (a.least refl s p g);
      }

  -- what is in a rising list is after its start
  rising-after : (m : List ℕ) (ts : List (List ℕ)) → Rising k m ts → (s : List ℕ) → Some (λ (r : List ℕ). Agree k r s) ts → Lt k m s
  rising-after m [] h s i = absurd i
  rising-after m (r ∷ ts) h s (inl a) = lt_agree k m r s h.0 a
  rising-after m (r ∷ ts) h s (inr i) = lt_trans k m r s h.0 (rising-after r ts h.1 s i)

  -- the head of such a list is the least
  head_least : (m r : List ℕ) (ts : List (List ℕ)) → Full k leaf m (r ∷ ts) → (s : List ℕ) → leaf s ≡ true → Lt k m s → Le k r s
  head_least m r ts f s p g = ⊎_elim (λ a. inr a) (λ i. inl (rising-after r ts f.sorted.1 s i)) (f.all s p g)

  tail_full : (m r : List ℕ) (ts : List (List ℕ)) → Full k leaf m (r ∷ ts) → Full k leaf r ts
  tail_full m r ts f = record {
    sorted = f.sorted.1;
    pass = f.pass.1;
    all = λ s p g. ⊎_elim (λ a. absurd (lt_irrefl k r s a g)) (λ i. i) (f.all s p (lt_trans k m r s f.sorted.0 g));
  }

  -- there is one such list: any other way to list them, as a filter of all tuples in order, gives the same
  pub full_unique : (ts us : List (List ℕ)) (m m' : List ℕ) → Agree k m m' → Full k leaf m ts → Full k leaf m' us → Same k ts us
  full_unique [] [] m m' e f g = tt
  full_unique [] (u ∷ us) m m' e f g = f.all u g.pass.0 (agree_lt k m m' u e g.sorted.0)
  full_unique (t ∷ ts) [] m m' e f g = g.all t f.pass.0 (agree_lt k m' m t (λ j l. sym (e j l)) f.sorted.0)
  full_unique (t ∷ ts) (u ∷ us) m m' e f g =
      let a : Agree k t u = le_antisym k t u
      (head_least m t ts f u g.pass.0 (agree_lt k m m' u e g.sorted.0))
      (head_least m' u us g t f.pass.0 (agree_lt k m' m t (λ j l. sym (e j l)) f.sorted.0))
      in
      (a, full_unique ts us t u a (tail_full m t ts f) (tail_full m' u us g))

-- a run of calls that has not ended: ts is what it gave from m on, and r the mark of the next call.
-- One more call goes at the end, as a loop has it
pub data Steps (k : ℕ) (leaf : List ℕ → Bool) : List ℕ → List (List ℕ) → List ℕ → Type 0 where
  none : {m : List ℕ} → Steps k leaf m [] m
  one : {m r s : List ℕ} {ts : List (List ℕ)} → LeastAfter k leaf m true r → Steps k leaf r ts s → Steps k leaf m (r ∷ ts) s

module _ (k : ℕ) (leaf : List ℕ → Bool) where
  pub steps-more : {m r s : List ℕ} {ts : List (List ℕ)} → Steps k leaf m ts r → LeastAfter k leaf r true s → Steps k leaf m (ts ++ s ∷ []) s
  steps-more none a = one a none
  steps-more (one b l) a = one b (steps-more l a)

  pub steps-done : {m r s : List ℕ} {ts : List (List ℕ)} → Steps k leaf m ts r → LeastAfter k leaf r false s → Listed k leaf m ts
  steps-done {s} none a = done s a
  steps-done (one b l) a = more b (steps-done l a)
