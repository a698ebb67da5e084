-- An aim by what links the first three corners is one by whatever of it is asked for.
-- Assumes nothing.
use Prim.Native.Nat.{ℕ}
use mathlib.Core.Logic.{inl, inr, ⊎_elim}
use mathlib.Core.Bool.{Bool}
use Rattle.std.specs.Prelude.{Option, Some, None}
use Rattle.aims.specs.declared.Aim.{Aim}
use Rattle.aims.specs.between.Aims.{Aims, AimsOf}

pub aims_of : {P Q : ℕ → Type 0} {x : ℕ} {some both : Bool} {o p : ℕ} → ((y : ℕ) → P y → Q y) → Aims Q x some both o p → Aims P x some both o p
aims_of f a = record {
  none = λ e. let n = a.none e in (n.0, λ y p. n.1 y (f y p));
  each = λ e. let n = a.each e in (n.0, ⊎_elim inl (λ m. inr (⊎_elim inl (λ k. inr (k.0, λ y p. k.1 y (f y p))) m)) n.1);
  either = λ e. let n = a.either e in (n.0, ⊎_elim inl (λ k. inr (k.0, λ y p. k.1 y (f y p))) n.1);
}

pub aimed_of : {P Q : ℕ → Type 0} (x : ℕ) (r : Option Aim) → ((y : ℕ) → P y → Q y) → AimsOf Q x r → AimsOf P x r
aimed_of x None f a = aims_of f a
aimed_of x (Some b) f a = aims_of f a
