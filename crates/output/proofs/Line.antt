-- The front of a room that holds what was laid there. Assumes nothing.
use Rattle.std.proofs.Common.{◌≡◌, ◌+◌, List, ℕ, ◌++◌, length, take, drop, refl, ◌∙◌, ap, arith, length-append}
use Rattle.std.proofs.Math.Seq.{take_at}
use Rattle.base.specs.Laid.{Laid}
use Rattle.base.proofs.Lay.{lay-front, laid_more}

pub front_of : {xs old l : List ℕ} → Laid 0 xs old l → take (length xs) l ≡ xs
front_of {xs} {old} {l} d =
    ap (take (length xs)) (d.content ∙ lay-front xs old) ∙ take_at xs (drop (length xs) old) (length xs) refl

-- three texts, one behind the other
pub three : {xs ys zs old l m n : List ℕ} {a b c : ℕ}
    → Laid 0 xs old l → a ≡ 0 + length xs → Laid a ys l m → b ≡ a + length ys → Laid b zs m n → c ≡ b + length zs
    → take c n ≡ xs ++ ys ++ zs
three {xs} {ys} {zs} {old} {l} {m} {n} {a} {b} {c} d e f g h k =
    let p : Laid 0 (xs ++ ys) old m = laid_more d a e f refl in
    let q : b ≡ 0 + length (xs ++ ys) = omega (arith, length-append xs ys) in
    let r : Laid 0 (xs ++ ys ++ zs) old n = laid_more p b q h refl in
    let s : c ≡ length (xs ++ ys ++ zs) = omega (arith, length-append (xs ++ ys) zs) in
    ap (λ j. take j n) s ∙ front_of r
