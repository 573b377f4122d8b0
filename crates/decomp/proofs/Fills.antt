-- Runs and rectangles of cells: the turns of the loops that fill them, and what each cell is then, by recursion on the count.
use mathlib.Core.Path.{◌≡◌, refl, sym, ap, ◌∙◌}
use mathlib.Core.Logic.{by_cases}
use mathlib.Core.List.{List, ◌∷◌, ◌++◌, append_assoc}
use Prim.Native.Nat.{ℕ, zero, suc, ◌+◌, ◌-◌, ◌*◌, ◌≤◌, ◌<◌}
use native.Mathlib.Decide.{ℕ_discrete}
use native.Mathlib.Nat.{add-zero, add-suc}
use native.Mathlib.Omega.{arith}
use lib.ListN.{length, get_or, set, take, drop, replicate, length-set, length-append, length-replicate, take-append-drop}
use lib.Seq.{set_comm, get_or-set_same, get_or-set_other, length-take-le, drop-cons, set-append_seam}
use borrow.Rule.Slice.PartMut.{put_mid, Post-is}
use Rattle.loops.specs.Run.{up_to}
use Rattle.loops.proofs.Runs.{up_to-again}
use Rattle.standard.specs.Sizes.{Tx_Wide, Tx_High}
use Rattle.units.specs.Sizes.{luma_class}
use Rattle.units.proofs.Rules.{tx-rule}
use Rattle.decomp.specs.Cells.{cell}
use Rattle.decomp.specs.Folds.{run, fill, put}

-- ---- the loops

pub run_none : (at v : ℕ) (a : List ℕ) → a ≡ run at 0 v a
unfolding run
run_none at v a = refl

pub run_step : (at i v : ℕ) (a₀ a : List ℕ) → a ≡ run at i v a₀ → set a (at + i) v ≡ run at (i + 1) v a₀
unfolding run
run_step at i v a₀ a e = up_to-again (λ i a. set a (at + i) v) i a₀ e refl

one-more : (n v : ℕ) (ys : List ℕ) → replicate n v ++ v ∷ ys ≡ v ∷ (replicate n v ++ ys)
one-more zero v ys = refl
one-more (suc n) v ys = ap (λ (l : List ℕ). v ∷ l) (one-more n v ys)

replicated : (at n v : ℕ) (a : List ℕ) → at + n ≤ length a → run at n v a ≡ take at a ++ (replicate n v ++ drop (at + n) a)
unfolding run
replicated at zero v a h = rw (add-zero at) (sym (take-append-drop at a))
replicated at (suc n) v a h =
    let xs = take at a ++ replicate n v in
    let y = get_or a (at + n) 0 in
    let ys = drop (suc (at + n)) a in
    let lx : length xs ≡ at + n = simp (length-append, length-replicate, length-take-le at a (omega arith)) refl in
    ap (λ (l : List ℕ). set l (at + n) v)
    (replicated at n v a (omega arith) ∙ sym (append_assoc (take at a) (replicate n v) (drop (at + n) a)) ∙ ap (λ (l : List ℕ). xs ++ l) (drop-cons a (at + n) 0 (omega arith)))
    ∙ ap (λ (i : ℕ). set (xs ++ y ∷ ys) i v) (sym lx)
    ∙ set-append_seam xs y ys v
    ∙ append_assoc (take at a) (replicate n v) (v ∷ ys)
    ∙ rw (add-suc at n) (ap (λ (l : List ℕ). take at a ++ l) (one-more n v ys))

-- a part that was filled
pub run-filled : (at n v : ℕ) (a ys : List ℕ) → at + n ≤ length a → ys ≡ replicate n v → put_mid at (at + n - at) a ys ≡ run at n v a
run-filled at n v a ys h e =
    rw e (ap (λ (l : List ℕ). take at a ++ (replicate n v ++ l)) (Post-is at (at + n) a (omega arith)) ∙ sym (replicated at n v a h))

pub fill_none : (at w v : ℕ) (a : List ℕ) → a ≡ fill at w 0 v a
unfolding fill
fill_none at w v a = refl

pub fill_step : (at w y v : ℕ) (a₀ a b : List ℕ) → a ≡ fill at w y v a₀ → b ≡ run (at + 32 * y) w v a → b ≡ fill at w (y + 1) v a₀
unfolding fill
fill_step at w y v a₀ a b e g = up_to-again (λ y. run (at + 32 * y) w v) y a₀ e g

-- ---- what is filled in places apart may be filled in either order

up_to-past : {S : Type 0} (g : S → S) (f : ℕ → S → S) (n : ℕ) → ((i : ℕ) → i < n → (s : S) → g (f i s) ≡ f i (g s)) → (s : S) → g (up_to f n s) ≡ up_to f n (g s)
up_to-past g f zero h s = refl
up_to-past g f (suc n) h s = h n (omega arith) (up_to f n s) ∙ ap (f n) (up_to-past g f n (λ i l. h i (omega arith)) s)

set-past-run : (e u at n v : ℕ) → ((i : ℕ) → i < n → ¬ (at + i ≡ e)) → (a : List ℕ) → set (run at n v a) e u ≡ run at n v (set a e u)
unfolding run
set-past-run e u at n v h = up_to-past (λ a. set a e u) (λ i a. set a (at + i) v) n (λ i l a. set_comm a (at + i) e v u (h i l))

run-past-run : (at n v at' n' v' : ℕ) → ((i j : ℕ) → i < n → j < n' → ¬ (at + i ≡ at' + j)) → (a : List ℕ)
    → run at' n' v' (run at n v a) ≡ run at n v (run at' n' v' a)
unfolding run
run-past-run at n v at' n' v' h =
    up_to-past (run at' n' v') (λ i a. set a (at + i) v) n (λ i l a. sym (set-past-run (at + i) v at' n' v' (λ j k e. h i j l k (sym e)) a))

run-past-fill : (at n v at' w h v' : ℕ) → ((i y x : ℕ) → i < n → y < h → x < w → ¬ (at + i ≡ at' + 32 * y + x)) → (a : List ℕ)
    → run at n v (fill at' w h v' a) ≡ fill at' w h v' (run at n v a)
unfolding fill
run-past-fill at n v at' w h v' d =
    up_to-past (run at n v) (λ y. run (at' + 32 * y) w v') h
    (λ y l. run-past-run (at' + 32 * y) w v' at n v (λ x i k m e. d i y x m l k (sym e)))

fill-past-fill : (at w h v at' w' h' v' : ℕ) → ((y x y' x' : ℕ) → y < h → x < w → y' < h' → x' < w' → ¬ (at + 32 * y + x ≡ at' + 32 * y' + x'))
    → (a : List ℕ) → fill at w h v (fill at' w' h' v' a) ≡ fill at' w' h' v' (fill at w h v a)
unfolding fill
fill-past-fill at w h v at' w' h' v' d a =
    sym (up_to-past (fill at' w' h' v') (λ y. run (at + 32 * y) w v) h
    (λ y l b. sym (run-past-fill (at + 32 * y) w v at' w' h' v' (λ x y' x' k m n. d y x y' x' l k m n) b)) a)

-- ---- both tables of classes

pub pair_step : (at i u v : ℕ) (a₀ a : List ℕ) → i < 32 → a ≡ run (2048 + at) i v (run at i u a₀)
    → set (set a (at + i) u) (2048 + at + i) v ≡ run (2048 + at) (i + 1) v (run at (i + 1) u a₀)
pair_step at i u v a₀ a l e =
    run_step (2048 + at) i v (run at (i + 1) u a₀) (set a (at + i) u)
    (ap (λ (b : List ℕ). set b (at + i) u) e ∙ set-past-run (at + i) u (2048 + at) i v (λ j k g. omega arith) (run at i u a₀)
    ∙ ap (run (2048 + at) i v) (run_step at i u a₀ (run at i u a₀) refl))

pub classes-step : (at w y u v : ℕ) (a₀ a b : List ℕ) → w ≤ 32 → at + 32 * y + w ≤ 1024 → a ≡ fill (2048 + at) w y v (fill at w y u a₀)
    → b ≡ run (2048 + (at + 32 * y)) w v (run (at + 32 * y) w u a) → b ≡ fill (2048 + at) w (y + 1) v (fill at w (y + 1) u a₀)
classes-step at w y u v a₀ a b lw l e g =
    let z : 2048 + (at + 32 * y) ≡ 2048 + at + 32 * y = omega arith in
    fill_step (2048 + at) w y v (fill at w (y + 1) u a₀) (run (at + 32 * y) w u a) b
    (ap (run (at + 32 * y) w u) e ∙ run-past-fill (at + 32 * y) w u (2048 + at) w y v (λ i j x p q r s. omega arith) (fill at w y u a₀)
    ∙ ap (fill (2048 + at) w y v) (fill_step at w y u a₀ (fill at w y u a₀) (run (at + 32 * y) w u (fill at w y u a₀)) refl refl))
    (rw z at g)

-- ---- a whole transform, from what the calls ensure

pub put_step : (y0 x0 w h at k l : ℕ) (a b c d : List ℕ) → y0 + h ≤ 32 → x0 + w ≤ 32 → at ≡ y0 * 32 + x0 → k ≡ luma_class w → l ≡ luma_class h
    → b ≡ fill (2048 + at) w h l (fill at w h k a) → c ≡ fill (1024 + at) 1 h w b → d ≡ fill (3072 + at) w 1 h c → d ≡ put y0 x0 w h a
unfolding put
put_step y0 x0 w h at k l a b c d ly lx ea ek el eb ec ed =
    let p₀ : at ≡ cell 0 y0 x0 = omega arith in
    let p₁ : 1024 + at ≡ cell 1 y0 x0 = omega arith in
    let p₂ : 2048 + at ≡ cell 2 y0 x0 = omega arith in
    let p₃ : 3072 + at ≡ cell 3 y0 x0 = omega arith in
    let e : c ≡ fill (2048 + at) w h l (fill (1024 + at) 1 h w (fill at w h k a)) =
    ec ∙ ap (fill (1024 + at) 1 h w) eb
    ∙ fill-past-fill (1024 + at) 1 h w (2048 + at) w h l (λ y x y' x' p q r s g. omega arith) (fill at w h k a) in
    ed ∙ rw (p₃, e, p₂, p₁, p₀, ek, el) refl

-- its sides and its place, at the code's own numbers
pub record Inside (w h y x : ℕ) : Type 0 where
  pub low : (0 < w) × (0 < h)
  pub top : (w ≤ 16) × (h ≤ 16)
  pub rows : y * h + h ≤ 32
  pub columns : x * w + w ≤ 32

pub inside : (t y x w h : ℕ) → t < 19 → y * Tx_High t + Tx_High t ≤ 32 → x * Tx_Wide t + Tx_Wide t ≤ 32 → w ≡ Tx_Wide t → h ≡ Tx_High t → Inside w h y x
inside t y x w h b p q ew eh =
    let r = tx-rule t b in
    rw (ew, eh) (record { low = (r.width.low, r.height.low); top = (r.width.at_most, r.height.at_most); rows = p; columns = q })

-- ---- the cells

module _ (at v : ℕ) (a : List ℕ) where
  pub length_run : (n : ℕ) → length (run at n v a) ≡ length a
  unfolding run
  length_run zero = refl
  length_run (suc n) = length-set (run at n v a) (at + n) v ∙ length_run n

  run_in : (n e : ℕ) → at + n ≤ length a → at ≤ e → e < at + n → get_or (run at n v a) e 0 ≡ v
  unfolding run
  run_in zero e l p q = absurd (omega arith)
  run_in (suc n) e l p q =
      by_cases (ℕ_discrete e (at + n))
      (λ h. rw h (get_or-set_same (run at n v a) (at + n) v 0 (rw (length_run n) (omega arith))))
      (λ h. get_or-set_other (run at n v a) (at + n) e v 0 h ∙ run_in n e (omega arith) p (omega arith))

  run_out : (n e : ℕ) → (at ≤ e → e < at + n → ⊥) → get_or (run at n v a) e 0 ≡ get_or a e 0
  unfolding run
  run_out zero e f = refl
  run_out (suc n) e f =
      get_or-set_other (run at n v a) (at + n) e v 0 (λ h. f (omega arith) (omega arith)) ∙ run_out n e (λ p q. f p (omega arith))

module _ (at w v : ℕ) (a : List ℕ) where
  pub length-fill : (h : ℕ) → length (fill at w h v a) ≡ length a
  unfolding fill
  length-fill zero = refl
  length-fill (suc h) = length_run (at + 32 * h) v (fill at w h v a) w ∙ length-fill h

  pub fill-in : (h y e : ℕ) → w ≤ 32 → at + 32 * h + w ≤ length a + 32 → y < h → at + 32 * y ≤ e → e < at + 32 * y + w → get_or (fill at w h v a) e 0 ≡ v
  unfolding fill
  fill-in zero y e b l k p q = absurd (omega arith)
  fill-in (suc h) y e b l k p q =
      by_cases (ℕ_discrete y h)
      (λ g. run_in (at + 32 * h) v (fill at w h v a) w e (rw (length-fill h) (omega arith)) (omega arith) (omega arith))
      (λ g. run_out (at + 32 * h) v (fill at w h v a) w e (λ m n. omega arith) ∙ fill-in h y e b (omega arith) (omega arith) p q)

  pub fill-out : (h e : ℕ) → ((y : ℕ) → y < h → at + 32 * y ≤ e → e < at + 32 * y + w → ⊥) → get_or (fill at w h v a) e 0 ≡ get_or a e 0
  unfolding fill
  fill-out zero e f = refl
  fill-out (suc h) e f = run_out (at + 32 * h) v (fill at w h v a) w e (f h (omega arith)) ∙ fill-out h e (λ y k. f y (omega arith))
