-- A test of some three that stand side by side in three lists, by place.
use mathlib.Core.Bool.{Bool}
use mathlib.Core.List.{List}
use mathlib.Core.Path.{◌≡◌, sym, ap, ◌∙◌}
use Prim.Native.Nat.{ℕ}
use native.Mathlib.Omega.{arith}
use lib.IntN.{ℤ, pos}
use lib.ListN.{length, get_or}
use Rattle.std.specs.List.{list_any, zip}
use Rattle.std.proofs.lemmas.Slice.Zip.{length-zip, get_or-zip}
use Rattle.loops.specs.Any.{any_below}
use Rattle.loops.proofs.Anys.{any_same}
use Rattle.deltas.proofs.Anys.{any-by-place}

pub any-beside : (test : ℕ → ℤ → ℤ → Bool) (n : ℕ) (us : List ℕ) (bs ds : List ℤ) → length us ≡ n → length bs ≡ n → length ds ≡ n
    → list_any (λ (t : (ℕ × ℤ) × ℤ). test t.0.0 t.0.1 t.1) (zip (zip us bs) ds)
    ≡ any_below n (λ i. test (get_or us i 0) (get_or bs i (pos 0)) (get_or ds i (pos 0)))
any-beside test n us bs ds lu lb ld =
    let f : (ℕ × ℤ) × ℤ → Bool = λ t. test t.0.0 t.0.1 t.1 in
    let z = zip (zip us bs) ds in
    let d : (ℕ × ℤ) × ℤ = ((0, pos 0), pos 0) in
    let inner : length (zip us bs) ≡ n = length-zip us bs ∙ omega arith in
    let outer : length z ≡ n = length-zip (zip us bs) ds ∙ omega (arith, inner) in
    sym (any-by-place f d z)
    ∙ ap (λ (m : ℕ). any_below m (λ k. f (get_or z k d))) outer
    ∙ any_same n (λ k. f (get_or z k d)) (λ i. test (get_or us i 0) (get_or bs i (pos 0)) (get_or ds i (pos 0)))
    (λ k l.
    ap f (get_or-zip (zip us bs) ds k d (omega (arith, inner)) (omega arith))
    ∙ ap (λ (p : ℕ × ℤ). test p.0 p.1 (get_or ds k (pos 0))) (get_or-zip us bs k (0, pos 0) (omega arith) (omega arith)))
