-- The least tuple after a tuple gives the next cell after a mark: of one kind, and of kinds in turn.
-- Assumes nothing.
use Prim.Native.Nat.{ℕ}
use mathlib.Core.Path.{◌≡◌, refl, sym, ◌∙◌, ap}
use mathlib.Core.Logic.{◌⊎◌, inl, inr, ⊎_elim}
use mathlib.Core.Bool.{Bool, true, false, true≢false}
use mathlib.Core.List.Memᴰ
use mathlib.Core.List.{List, ◌++◌, Memᴰ}
use Rattle.portions.specs.Portions.{Rule, is_after}
use Rattle.portions.specs.between.Tuples.{LeastAfter}
use Rattle.portions.specs.between.Steps.{Next, Kind, Alike}

-- ── one kind ──

module _ {A : Type 0} (rule : Rule A) (cells : List A) {corners : ℕ} {leaf : List ℕ → Bool} {make : List ℕ → A} (kind : Kind rule cells corners leaf make) where
  pub next-kind : {k v : List ℕ} {found : Bool} {r : List ℕ} → Alike rule corners leaf make k v → LeastAfter corners leaf v found r → Next rule cells k found (make r)
  next-kind {k} {v} {found} {r} w a = record {
    among = λ f. kind.has r (a.holds f);
    later = λ f. w.later r (a.holds f) (a.after f);
    least = λ f d h e.
        let x = kind.of h in
        ⊎_elim
        (λ l. inr (ap (is_after rule (rule.mark (make r))) x.2 ∙ kind.rise r x.0 (a.holds f) x.1 l))
        (λ l. inl (x.2 ∙ sym (kind.same r x.0 l)))
        (a.least f x.0 x.1 (w.only x.0 x.1 (ap (is_after rule k) (sym x.2) ∙ e)));
    none = λ f d h e.
        let x = kind.of h in
        a.none f x.0 x.1 (w.only x.0 x.1 (ap (is_after rule k) (sym x.2) ∙ e));
  }

-- no cell of a list is after the mark
pub next_past : {A : Type 0} (rule : Rule A) (cells : List A) {k : List ℕ} (c : A) → ((d : A) → Memᴰ d cells → is_after rule k d ≡ true → ⊥) → Next rule cells k false c
next_past rule cells c f = record {
  among = λ t. absurd (true≢false (sym t));
  later = λ t. absurd (true≢false (sym t));
  least = λ t. absurd (true≢false (sym t));
  none = λ t d h e. f d h e;
}

-- ── kinds in turn ──

module _ {A : Type 0} (rule : Rule A) (xs ys : List A) {k : List ℕ} where
  -- found in the first part, all of which is before the second
  pub next-left : {c : A} → ((x y : A) → Memᴰ x xs → Memᴰ y ys → is_after rule (rule.mark x) y ≡ true) → Next rule xs k true c → Next rule (xs ++ ys) k true c
  next-left {c} up x = record {
    among = λ f. Memᴰ.append_left ys (x.among f);
    later = x.later;
    least = λ f d h e. ⊎_elim (λ g. x.least f d g e) (λ g. inr (up c d (x.among f) g)) (Memᴰ.append_cases xs h);
    none = λ f. absurd (true≢false f);
  }

  -- not found there, so it is what is found in the second
  pub next_right : {b c : A} {found : Bool} → Next rule xs k false b → Next rule ys k found c → Next rule (xs ++ ys) k found c
  next_right x y = record {
    among = λ f. Memᴰ.append_right xs (y.among f);
    later = y.later;
    least = λ f d h e. ⊎_elim (λ g. absurd (x.none refl d g e)) (λ g. y.least f d g e) (Memᴰ.append_cases xs h);
    none = λ f d h e. ⊎_elim (λ g. x.none refl d g e) (λ g. y.none f d g e) (Memᴰ.append_cases xs h);
  }
