-- The highest class, found from the top.
use mathlib.Core.Bool.{Bool, true, false, cond}
use mathlib.Core.List.{List}
use mathlib.Core.Option.{some, none}
use mathlib.Core.Path.{◌≡◌, refl, sym, ap, ◌∙◌}
use Prim.Native.Nat.{ℕ, zero, suc, ◌+◌, ◌*◌, ◌<◌}
use native.Mathlib.Omega.{arith}
use Rattle.bits.specs.Mark.{is_set}
use Rattle.plane.specs.Line.{Pass, Piece}
use Rattle.edges.specs.Edges.{Grid, classes, edge_bit, in_frame, highest, edge}
use Rattle.edges.proofs.Bits.{class-apart}
use Rattle.edges.specs.Class.{no_class, class_no, class_in}
use Rattle.edges.specs.Promises.{Promises}

at-0 : (ms : List ℕ) (e : ℕ) (b : Bool) → is_set ms e ≡ b → is_set ms (e + 0) ≡ b
at-0 ms e b h = let z : e + 0 ≡ e = omega arith in ap (is_set ms) z ∙ h

pub class-2 : (ms : List ℕ) (e : ℕ) → is_set ms (e + 64) ≡ true → 2 ≡ class_in ms 3 e
unfolding class_in
class-2 ms e h = simp h

pub class-under : (ms : List ℕ) (e : ℕ) → is_set ms (e + 64) ≡ false → class_in ms 2 e ≡ class_in ms 3 e
unfolding class_in
class-under ms e h = simp h

pub class-1 : (ms : List ℕ) (e : ℕ) → is_set ms (e + 32) ≡ true → 1 ≡ class_in ms 2 e
unfolding class_in
class-1 ms e h = simp h

pub class-0 : (ms : List ℕ) (e : ℕ) → is_set ms (e + 32) ≡ false → is_set ms e ≡ true → 0 ≡ class_in ms 2 e
unfolding class_in
class-0 ms e h g = simp (h, at-0 ms e true g)

pub class-none : (ms : List ℕ) (e : ℕ) → is_set ms (e + 32) ≡ false → is_set ms e ≡ false → no_class ≡ class_in ms 2 e
unfolding class_in
class-none ms e h g = simp (h, at-0 ms e false g)

-- ---- the edge at a unit of the frame

highest-same : (n : ℕ) (f g : ℕ → Bool) → ((c : ℕ) → f c ≡ g c) → highest n f ≡ highest n g
highest-same zero f g h = refl
highest-same (suc n) f g h = rw (h n, highest-same n f g h) refl

class-edge : (G : Grid) (ms : List ℕ) (d : Pass) (p : Piece) → in_frame G d p ≡ true → class_in ms (classes G) (edge_bit G d p 0) ≡ class_no (edge G ms d p)
unfolding class_in edge
class-edge G ms d p h =
    simp h
    (ap class_no (highest-same (classes G) (λ c. is_set ms (edge_bit G d p 0 + 32 * c)) (λ c. is_set ms (edge_bit G d p c)) (λ c. ap (is_set ms) (sym (class-apart G d p c)))))

highest-lt : (n : ℕ) (f : ℕ → Bool) (c : ℕ) → highest n f ≡ some c → c < n
highest-lt zero f c e = let z : ◌≡◌ {A = ℕ} 0 1 = cc in absurd (omega arith)
highest-lt (suc n) f c e = go (f n) (highest-lt n f c) e
  where
    go : (b : Bool) → (highest n f ≡ some c → c < n) → cond b (some n) (highest n f) ≡ some c → c < suc n
    go true h e = let z : n ≡ c = cc in omega arith
    go false h e = omega (arith, h e)

-- an edge has a class
pub class-lt : (G : Grid) (ms : List ℕ) (d : Pass) (p : Piece) (c : ℕ) → edge G ms d p ≡ some c → c < no_class
unfolding edge
class-lt G ms d p c e = go (in_frame G d p) G.luma e
  where
    go : (b luma : Bool) → cond b (highest (cond luma 3 2) (λ k. is_set ms (edge_bit G d p k))) none ≡ some c → c < no_class
    go true true e = highest-lt 3 (λ k. is_set ms (edge_bit G d p k)) c e
    go true false e = omega (arith, highest-lt 2 (λ k. is_set ms (edge_bit G d p k)) c e)
    go false luma e = let z : ◌≡◌ {A = ℕ} 0 1 = cc in absurd (omega arith)

pub promises : Promises
promises = record { same = class-edge }
