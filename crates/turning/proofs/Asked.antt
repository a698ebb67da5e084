-- The least form asked for: it is the tuple's one turn in least form, or refusal 13. Assumes nothing.
use Prim.Native.Nat.{ℕ, ◌≤◌}
use mathlib.Core.Path.{◌≡◌, refl, sym, ◌∙◌, ap}
use mathlib.Core.Bool.{Bool, true, false, cond, ◌&&◌}
use mathlib.Core.List.{List, Memᴰ}
use lib.ListN.{length, take}
use lib.Seq.{length-take-le}
use Rattle.base.specs.Lists.{distinct}
use Rattle.templates.specs.Tables.{Template, templates, is_kind, template_of, at}
use Rattle.least.specs.Least.{is_least}
use Rattle.least.proofs.OneLeast.{one-least}
use Rattle.std.specs.Prelude.{None}
use Rattle.turning.specs.Form.{least_by, form_of, form_by, least_form, least_number}

pub template-of : {t : Template} → Memᴰ t templates → (is_kind t.kind ≡ true) × (template_of t.kind ≡ t)
template-of (Memᴰ.head q) = (ap (λ (t : Template). is_kind t.kind) q, ap (λ (t : Template). template_of t.kind) q ∙ sym q)
template-of (Memᴰ.tail (Memᴰ.head q)) = (ap (λ (t : Template). is_kind t.kind) q, ap (λ (t : Template). template_of t.kind) q ∙ sym q)
template-of {t = t} (Memᴰ.tail (Memᴰ.tail (Memᴰ.tail x12))) = elim x12 [ ]
template-of (Memᴰ.tail (Memᴰ.tail (Memᴰ.head q))) = (ap (λ (t : Template). is_kind t.kind) q, ap (λ (t : Template). template_of t.kind) q ∙ sym q)

-- a tuple of distinct corners of a kind is given its one least form, with zeros in unused places
pub least-form : {t : Template} → Memᴰ t templates → (vs : List ℕ) → t.corners ≤ length vs → distinct (take t.corners vs) ≡ true → (r : List ℕ) × Memᴰ r t.turns × (is_least t (at (take t.corners vs) r) ≡ true) × (least_form t.kind vs ≡ form_of (at (take t.corners vs) r))
unfolding least_form form_by least_by is_least
least-form {t} h vs l d =
    let k = template-of h in
    let w = one-least h (take t.corners vs) (length-take-le t.corners vs l) d in
    (w.0, w.1, w.2, rw (k.1, k.0, d, w.3))

-- 13 of any other kind and where two corners in use are one, and of nothing else
pub least-number : (k : ℕ) (vs : List ℕ) → least_number (least_form k vs) ≡ cond (is_kind k && distinct (take (template_of k).corners vs)) 0 13
unfolding least_form form_by
least-number k vs = go (is_kind k) (distinct (take (template_of k).corners vs)) (least_by (template_of k).turns (template_of k).less (take (template_of k).corners vs))
  where
    go : (a b : Bool) (xs : List ℕ) → least_number (cond a (cond b (form_of xs) None) None) ≡ cond (a && b) 0 13
    go true true xs = refl
    go true false xs = refl
    go false b xs = refl

-- the numbers in unused places do not count
pub unused : (k : ℕ) (vs ws : List ℕ) → take (template_of k).corners vs ≡ take (template_of k).corners ws → least_form k vs ≡ least_form k ws
unfolding least_form
unused k vs ws e = ap (λ c. cond (is_kind k) (form_by (template_of k).turns (template_of k).less c) None) e
