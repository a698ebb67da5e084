-- The ring laws of ℤ that `lib.IntN` leaves out.
-- Assumes nothing.
use Prim.Native.Nat.{zero, suc}
use mathlib.Core.Path.{◌≡◌, sym, ◌∙◌, ap}
use lib.IntN.{ℤ, pos, negsuc, suc_ℤ, pred_ℤ, neg_ℤ, ◌+ℤ◌, ◌-ℤ◌, ◌*ℤ◌, neg_ℤ-neg_ℤ, neg_ℤ-+ℤ, neg_ℤ-suc_ℤ, neg_ℤ-pred_ℤ, +ℤ_assoc, +ℤ_comm, +ℤ_idl, suc_ℤ-+ℤ, pred_ℤ-+ℤ, suc_ℤ-*ℤ, pred_ℤ-*ℤ, zero-*ℤ, *ℤ_comm}

ind : (P : ℤ → Type 0) → P (pos zero) → ((k : ℤ) → P k → P (suc_ℤ k)) → ((k : ℤ) → P k → P (pred_ℤ k)) → (k : ℤ) → P k
ind P z s p (pos zero) = z
ind P z s p (pos (suc n)) = s (pos n) (ind P z s p (pos n))
ind P z s p (negsuc zero) = p (pos zero) z
ind P z s p (negsuc (suc n)) = p (negsuc n) (ind P z s p (negsuc n))

pub left_comm : (a b c : ℤ) → a +ℤ (b +ℤ c) ≡ b +ℤ (a +ℤ c)
left_comm a b c = sym (+ℤ_assoc a b c) ∙ ap (λ x. x +ℤ c) (+ℤ_comm a b) ∙ +ℤ_assoc b a c

right_comm : (a b c : ℤ) → a +ℤ b +ℤ c ≡ a +ℤ c +ℤ b
right_comm a b c = +ℤ_assoc a b c ∙ ap (λ x. a +ℤ x) (+ℤ_comm b c) ∙ sym (+ℤ_assoc a c b)

pub mul-add : (a b k : ℤ) → (a +ℤ b) *ℤ k ≡ a *ℤ k +ℤ b *ℤ k
mul-add a b k =
    ind (λ a. (a +ℤ b) *ℤ k ≡ a *ℤ k +ℤ b *ℤ k)
    (ap (λ x. x *ℤ k) (+ℤ_idl b) ∙ sym (+ℤ_idl (b *ℤ k)) ∙ ap (λ x. x +ℤ b *ℤ k) (sym (zero-*ℤ k)))
    (λ a h. ap (λ x. x *ℤ k) (suc_ℤ-+ℤ a b) ∙ suc_ℤ-*ℤ (a +ℤ b) k ∙ ap (λ x. x +ℤ k) h ∙ right_comm (a *ℤ k) (b *ℤ k) k ∙ ap (λ x. x +ℤ b *ℤ k) (sym (suc_ℤ-*ℤ a k)))
    (λ a h. ap (λ x. x *ℤ k) (pred_ℤ-+ℤ a b) ∙ pred_ℤ-*ℤ (a +ℤ b) k ∙ ap (λ x. x -ℤ k) h ∙ right_comm (a *ℤ k) (b *ℤ k) (neg_ℤ k) ∙ ap (λ x. x +ℤ b *ℤ k) (sym (pred_ℤ-*ℤ a k)))
    a

pub mul-neg : (a k : ℤ) → neg_ℤ a *ℤ k ≡ neg_ℤ (a *ℤ k)
mul-neg a k =
    ind (λ a. neg_ℤ a *ℤ k ≡ neg_ℤ (a *ℤ k))
    (zero-*ℤ k ∙ ap neg_ℤ (sym (zero-*ℤ k)))
    (λ a h. ap (λ x. x *ℤ k) (neg_ℤ-suc_ℤ a) ∙ pred_ℤ-*ℤ (neg_ℤ a) k ∙ ap (λ x. x -ℤ k) h ∙ sym (neg_ℤ-+ℤ (a *ℤ k) k) ∙ ap neg_ℤ (sym (suc_ℤ-*ℤ a k)))
    (λ a h. ap (λ x. x *ℤ k) (neg_ℤ-pred_ℤ a) ∙ suc_ℤ-*ℤ (neg_ℤ a) k ∙ ap (λ x. x +ℤ k) h ∙ ap (λ x. neg_ℤ (a *ℤ k) +ℤ x) (sym (neg_ℤ-neg_ℤ k)) ∙ sym (neg_ℤ-+ℤ (a *ℤ k) (neg_ℤ k)) ∙ ap neg_ℤ (sym (pred_ℤ-*ℤ a k)))
    a

pub mul_assoc : (a b k : ℤ) → (a *ℤ b) *ℤ k ≡ a *ℤ (b *ℤ k)
mul_assoc a b k =
    ind (λ a. (a *ℤ b) *ℤ k ≡ a *ℤ (b *ℤ k))
    (ap (λ x. x *ℤ k) (zero-*ℤ b) ∙ zero-*ℤ k ∙ sym (zero-*ℤ (b *ℤ k)))
    (λ a h. ap (λ x. x *ℤ k) (suc_ℤ-*ℤ a b) ∙ mul-add (a *ℤ b) b k ∙ ap (λ x. x +ℤ b *ℤ k) h ∙ sym (suc_ℤ-*ℤ a (b *ℤ k)))
    (λ a h. ap (λ x. x *ℤ k) (pred_ℤ-*ℤ a b) ∙ mul-add (a *ℤ b) (neg_ℤ b) k ∙ ap (λ x. x +ℤ neg_ℤ b *ℤ k) h ∙ ap (λ x. a *ℤ (b *ℤ k) +ℤ x) (mul-neg b k) ∙ sym (pred_ℤ-*ℤ a (b *ℤ k)))
    a

pub mul_left_comm : (a b c : ℤ) → a *ℤ (b *ℤ c) ≡ b *ℤ (a *ℤ c)
mul_left_comm a b c = sym (mul_assoc a b c) ∙ ap (λ x. x *ℤ c) (*ℤ_comm a b) ∙ mul_assoc b a c

pub add-mul : (k a b : ℤ) → k *ℤ (a +ℤ b) ≡ k *ℤ a +ℤ k *ℤ b
add-mul k a b = *ℤ_comm k (a +ℤ b) ∙ mul-add a b k ∙ ap (λ x. x +ℤ b *ℤ k) (*ℤ_comm a k) ∙ ap (λ x. k *ℤ a +ℤ x) (*ℤ_comm b k)

pub neg-mul : (k a : ℤ) → k *ℤ neg_ℤ a ≡ neg_ℤ (k *ℤ a)
neg-mul k a = *ℤ_comm k (neg_ℤ a) ∙ mul-neg a k ∙ ap neg_ℤ (*ℤ_comm a k)
