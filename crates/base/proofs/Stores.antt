-- Stores one after the other, and a loop whose step i stores what i asks for.
-- Assumes nothing.
use Prim.Native.Nat.{ℕ, ◌+◌}
use mathlib.Core.Path.{◌≡◌, refl, ◌∙◌}
use mathlib.Core.Logic.{◌⊎◌, ⊎_elim}
use mathlib.Core.List.{List}
use native.Mathlib.Omega.{arith}
use native.Mathlib.Decide.{dec_lt}
use Rattle.base.specs.between.Stores.{Stores, Below}

module _ {A : Type 0} {Told : List ℕ → A → Type 0} {m m' m'' : List ℕ} {p q : A → Type 0} (i : Stores Told m m' p) (j : Stores Told m' m'' q) where
  -- what the first asked for is told behind the second
  pub earlier : (a : A) → p a → Told m'' a
  earlier a o = j.kept a (i.made a o)

  pub stores_then : {r : A → Type 0} → ((a : A) → r a → Told m'' a) → Stores Told m m'' r
  stores_then f = record { same = j.same ∙ i.same; kept = λ a e. j.kept a (i.kept a e); made = f }

  pub stores_either : {r : A → Type 0} → ((a : A) → r a → p a ⊎ q a) → Stores Told m m'' r
  stores_either f = stores_then (λ a o. ⊎_elim (earlier a) (j.made a) (f a o))

module _ {A : Type 0} {Told : List ℕ → A → Type 0} (asks : ℕ → A → Type 0) where
  pub stores_none : (m : List ℕ) → Stores Told m m (Below asks 0)
  stores_none m = record { same = refl; kept = λ a e. e; made = λ a o. absurd (let h : ⊥ = omega (arith, o.before) in h) }

  pub stores_next : {m m' m'' : List ℕ} (i : ℕ) → Stores Told m m' (Below asks i) → Stores Told m' m'' (asks i) → Stores Told m m'' (Below asks (i + 1))
  stores_next i s t =
      stores_then s t {r = Below asks (i + 1)} (λ a o. elim (dec_lt o.which i) [
        | yes h ↦ earlier s t a (record { which = o.which; before = h; held = o.held })
        | no h ↦ let e : o.which ≡ i = omega (arith, o.before) in t.made a (rw (← e) o.held)
      ])
