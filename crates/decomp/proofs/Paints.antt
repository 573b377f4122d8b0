-- What each cell of the tables is, in whatever order the transforms came: each paints its own rectangle and nothing else, and rectangles side by side join.
use mathlib.Core.Path.{◌≡◌, refl, sym, ap, ◌∙◌}
use mathlib.Core.Bool.{Bool, true, false, cond, ◌&&◌, and-false}
use mathlib.Core.Logic.{◌⊎◌, inl, inr, ⊎_elim, by_cases}
use mathlib.Core.List.{List}
use Prim.Native.Nat.{ℕ, zero, suc, ◌+◌, ◌-◌, ◌*◌, ◌%◌, ◌≤◌, ◌<◌}
use native.Mathlib.Decide.{ℕ_discrete, dec_lt}
use native.Mathlib.Nat.{suc-mul, mul-add-mod_self_right, mod-eq_of_lt}
use native.Mathlib.Omega.{arith}
use lib.Dec.{eqb, ltb}
use lib.ListN.{length, get_or}
use borrow.Author.Tests.{lt-ltb, le-ltb}
use Rattle.loops.specs.Run.{up_to}
use Rattle.loops.proofs.Products.{row_in}
use Rattle.standard.specs.Sizes.{Tx_Wide, Tx_High}
use Rattle.units.proofs.Rules.{tx-rule}
use Rattle.decomp.specs.Cells.{cell}
use Rattle.decomp.specs.Folds.{value, wide_in, high_in, fill, put, whole, grid}
use Rattle.decomp.proofs.Fills.{length-fill, fill-in, fill-out}

-- ---- rectangles

-- the cell of table p at (y, x), where a transform of size t lies: its value, where it is written
unfoldable pub paint : ℕ → ℕ → ℕ → ℕ → ℕ → ℕ
paint p t y x old =
    cond (ltb (x % Tx_Wide t) (wide_in p (Tx_Wide t)) && ltb (y % Tx_High t) (high_in p (Tx_High t))) (value p (Tx_Wide t) (Tx_High t)) old

module _ (p t y x old : ℕ) where
  pub paint-on : x % Tx_Wide t < wide_in p (Tx_Wide t) → y % Tx_High t < high_in p (Tx_High t) → paint p t y x old ≡ value p (Tx_Wide t) (Tx_High t)
  unfolding paint
  paint-on u v = rw (lt-ltb _ _ u, lt-ltb _ _ v) refl

  paint-off : (wide_in p (Tx_Wide t) ≤ x % Tx_Wide t) ⊎ (high_in p (Tx_High t) ≤ y % Tx_High t) → paint p t y x old ≡ old
  unfolding paint
  paint-off (inl u) = rw (le-ltb _ _ u) refl
  paint-off (inr v) = rw (le-ltb _ _ v, and-false) refl

-- h rows from y0 on, w columns from x0 on
abbrev pub In : ℕ → ℕ → ℕ → ℕ → ℕ → ℕ → Type 0
In y0 x0 h w y x = (y0 ≤ y) × (y < y0 + h) × (x0 ≤ x) × (x < x0 + w)

-- g paints the transforms tx in the rectangle R
pub record Paints (R : ℕ → ℕ → Type 0) (tx : ℕ → ℕ → ℕ) (g : List ℕ → List ℕ) : Type 0 where
  pub long : (a : List ℕ) → length a ≡ 4096 → length (g a) ≡ 4096
  pub inside : (a : List ℕ) → length a ≡ 4096 → (p y x : ℕ) → p < 4 → R y x → get_or (g a) (cell p y x) 0 ≡ paint p (tx x y) y x (get_or a (cell p y x) 0)
  pub outside : (a : List ℕ) → length a ≡ 4096 → (p y x : ℕ) → p < 4 → y < 32 → x < 32 → ¬ R y x → get_or (g a) (cell p y x) 0 ≡ get_or a (cell p y x) 0

module _ (tx : ℕ → ℕ → ℕ) where
  paints-none : (R : ℕ → ℕ → Type 0) → ((y x : ℕ) → R y x → ⊥) → Paints R tx (λ a. a)
  paints-none R n = record { long = λ a l. l; inside = λ a l p y x h r. absurd (n y x r); outside = λ a l p y x h hy hx r. refl }

  paints-both : (P Q R : ℕ → ℕ → Type 0) (f g : List ℕ → List ℕ) → ((y x : ℕ) → P y x → Q y x → ⊥) → ((y x : ℕ) → R y x → P y x ⊎ Q y x)
      → ((y x : ℕ) → P y x → R y x) → ((y x : ℕ) → Q y x → R y x) → ((y x : ℕ) → R y x → (y < 32) × (x < 32))
      → Paints P tx f → Paints Q tx g → Paints R tx (λ a. g (f a))
  paints-both P Q R f g apart cover in_p in_q low F G =
      record {
        long = λ a l. G.long (f a) (F.long a l);
        inside = λ a l p y x h r. let b = low y x r in
            ⊎_elim
            (λ u. G.outside (f a) (F.long a l) p y x h b.0 b.1 (apart y x u) ∙ F.inside a l p y x h u)
            (λ v. G.inside (f a) (F.long a l) p y x h v
            ∙ ap (paint p (tx x y) y x) (F.outside a l p y x h b.0 b.1 (λ u. apart y x u v)))
            (cover y x r);
        outside = λ a l p y x h hy hx r.
            G.outside (f a) (F.long a l) p y x h hy hx (λ v. r (in_q y x v)) ∙ F.outside a l p y x h hy hx (λ u. r (in_p y x u));
      }

  -- n rectangles of w columns side by side
  paints-row : (y0 x0 h w n : ℕ) (g : ℕ → List ℕ → List ℕ) → y0 + h ≤ 32 → x0 + n * w ≤ 32
      → ((j : ℕ) → j < n → Paints (In y0 (x0 + j * w) h w) tx (g j)) → Paints (In y0 x0 h (n * w)) tx (up_to g n)
  paints-row y0 x0 h w zero g hy hx k = paints-none (In y0 x0 h (0 * w)) (λ y x r. omega arith)
  paints-row y0 x0 h w (suc n) g hy hx k =
      let e = suc-mul n w in
      paints-both (In y0 x0 h (n * w)) (In y0 (x0 + n * w) h w) (In y0 x0 h (suc n * w)) (up_to g n) (g n) (λ y x p q. omega arith)
      (λ y x r. by_cases (dec_lt x (x0 + n * w)) (λ q. inl (omega arith)) (λ q. inr (omega arith))) (λ y x p. omega arith) (λ y x q. omega arith)
      (λ y x r. omega arith) (paints-row y0 x0 h w n g hy (omega arith) (λ j l. k j (omega arith))) (k n (omega arith))

  -- k rectangles of h rows one below the other
  paints-column : (y0 x0 h w k : ℕ) (g : ℕ → List ℕ → List ℕ) → y0 + k * h ≤ 32 → x0 + w ≤ 32
      → ((i : ℕ) → i < k → Paints (In (y0 + i * h) x0 h w) tx (g i)) → Paints (In y0 x0 (k * h) w) tx (up_to g k)
  paints-column y0 x0 h w zero g hy hx f = paints-none (In y0 x0 (0 * h) w) (λ y x r. omega arith)
  paints-column y0 x0 h w (suc k) g hy hx f =
      let e = suc-mul k h in
      paints-both (In y0 x0 (k * h) w) (In (y0 + k * h) x0 h w) (In y0 x0 (suc k * h) w) (up_to g k) (g k) (λ y x p q. omega arith)
      (λ y x r. by_cases (dec_lt y (y0 + k * h)) (λ q. inl (omega arith)) (λ q. inr (omega arith))) (λ y x p. omega arith) (λ y x q. omega arith)
      (λ y x r. omega arith) (paints-column y0 x0 h w k g (omega arith) hx (λ i l. f i (omega arith))) (f k (omega arith))

  pub paints-grid : (y0 x0 h w n k : ℕ) (g : ℕ → ℕ → List ℕ → List ℕ) → y0 + k * h ≤ 32 → x0 + n * w ≤ 32
      → ((i j : ℕ) → i < k → j < n → Paints (In (y0 + i * h) (x0 + j * w) h w) tx (g i j)) → Paints (In y0 x0 (k * h) (n * w)) tx (grid n k g)
  paints-grid y0 x0 h w n k g hy hx f =
      paints-column y0 x0 h (n * w) k (λ i. up_to (g i) n) hy hx
      (λ i l. paints-row (y0 + i * h) x0 h w n (g i) (omega (arith, row_in i k h l)) hx (λ j q. f i j l q))

-- the same transforms there
pub paints-same : (R : ℕ → ℕ → Type 0) (tx ty : ℕ → ℕ → ℕ) (g : List ℕ → List ℕ) → ((y x : ℕ) → R y x → tx x y ≡ ty x y) → Paints R tx g → Paints R ty g
paints-same R tx ty g e P =
    record {
      long = P.long;
      inside = λ a l p y x h r. P.inside a l p y x h r ∙ ap (λ (t : ℕ). paint p t y x (get_or a (cell p y x) 0)) (e y x r);
      outside = P.outside;
    }

-- ---- one transform

wide-le : (p w : ℕ) → 0 < w → wide_in p w ≤ w
wide-le p w h = go (eqb p 1)
  where
    go : (b : Bool) → cond b 1 w ≤ w
    go true = h
    go false = omega arith

high_le : (p h : ℕ) → 0 < h → high_in p h ≤ h
high_le p h l = go (eqb p 3)
  where
    go : (b : Bool) → cond b 1 h ≤ h
    go true = l
    go false = omega arith

-- table p's part of it
abbrev one : ℕ → ℕ → ℕ → ℕ → ℕ → List ℕ → List ℕ
one y0 x0 w h p = fill (cell p y0 x0) (wide_in p w) (high_in p h) (value p w h)

module _ (y0 x0 w h : ℕ) (lw : 0 < w) (lh : 0 < h) (hx : x0 + w ≤ 32) (hy : y0 + h ≤ 32) where
  length-ones : (n : ℕ) (a : List ℕ) → length (up_to (one y0 x0 w h) n a) ≡ length a
  length-ones zero a = refl
  length-ones (suc n) a = length-fill (cell n y0 x0) (wide_in n w) (value n w h) (up_to (one y0 x0 w h) n a) (high_in n h) ∙ length-ones n a

  module _ (p y x : ℕ) (hp : p < 4) (ly : y < 32) (lx : x < 32) where
    one_in : (a : List ℕ) → length a ≡ 4096 → In y0 x0 (high_in p h) (wide_in p w) y x → get_or (one y0 x0 w h p a) (cell p y x) 0 ≡ value p w h
    one_in a l r =
        let b = wide-le p w lw in
        let c = high_le p h lh in
        fill-in (cell p y0 x0) (wide_in p w) (value p w h) a (high_in p h) (y - y0) (cell p y x) (omega arith) (omega arith) (omega arith) (omega arith)
        (omega arith)

    one_out : (q : ℕ) (a : List ℕ) → (q ≡ p → In y0 x0 (high_in p h) (wide_in p w) y x → ⊥) → get_or (one y0 x0 w h q a) (cell p y x) 0 ≡ get_or a (cell p y x) 0
    one_out q a f =
        let b = wide-le q w lw in
        let c = high_le q h lh in
        fill-out (cell q y0 x0) (wide_in q w) (value q w h) a (high_in q h) (cell p y x)
        (λ k lk u v. let e : q ≡ p = omega arith in f e (rw (← e) (omega arith)))

    -- once its own turn is past, the table's cell is the transform's
    ones_in : (n : ℕ) (a : List ℕ) → length a ≡ 4096 → p < n → In y0 x0 (high_in p h) (wide_in p w) y x
        → get_or (up_to (one y0 x0 w h) n a) (cell p y x) 0 ≡ value p w h
    ones_in zero a l g r = absurd (omega arith)
    ones_in (suc n) a l g r =
        by_cases (ℕ_discrete p n)
        (λ e. rw (← e) (one_in (up_to (one y0 x0 w h) p a) (length-ones p a ∙ l) r))
        (λ e. one_out n (up_to (one y0 x0 w h) n a) (λ d. absurd (e (sym d))) ∙ ones_in n a l (omega arith) r)

    ones-out : (n : ℕ) (a : List ℕ) → (In y0 x0 (high_in p h) (wide_in p w) y x → ⊥) → get_or (up_to (one y0 x0 w h) n a) (cell p y x) 0 ≡ get_or a (cell p y x) 0
    ones-out zero a f = refl
    ones-out (suc n) a f = one_out n (up_to (one y0 x0 w h) n a) (λ e. f) ∙ ones-out n a f

-- the remainder by a side, from a multiple of it on
pub mod-in : (n s x : ℕ) → n * s ≤ x → x < n * s + s → x % s ≡ x - n * s
mod-in n s x p q =
    let e : n * s + (x - n * s) ≡ x = omega arith in
    ap (λ (k : ℕ). k % s) (sym e) ∙ mul-add-mod_self_right n s (x - n * s) ∙ mod-eq_of_lt (omega arith)

pub paints-whole : (t y x : ℕ) → t < 19 → y * Tx_High t + Tx_High t ≤ 32 → x * Tx_Wide t + Tx_Wide t ≤ 32
    → Paints (In (y * Tx_High t) (x * Tx_Wide t) (Tx_High t) (Tx_Wide t)) (λ _ _. t) (whole t y x)
unfolding put
paints-whole t Y X c hy hx =
    let r = tx-rule t c in
    let lw = r.width.low in
    let lh = r.height.low in
    record {
      long = λ a l. length-ones _ _ _ _ lw lh hx hy 4 a ∙ l;
      inside = λ a l p y x lp i.
          let ex = mod-in X (Tx_Wide t) x i.2 i.3 in
          let ey = mod-in Y (Tx_High t) y i.0 i.1 in
          by_cases (dec_lt (x % Tx_Wide t) (wide_in p (Tx_Wide t)))
          (λ u. by_cases (dec_lt (y % Tx_High t) (high_in p (Tx_High t)))
          (λ v. ones_in _ _ _ _ lw lh hx hy p y x lp (omega arith) (omega arith) 4 a l lp (omega arith) ∙ sym (paint-on p t y x _ u v))
          (λ v. ones-out _ _ _ _ lw lh hx hy p y x lp (omega arith) (omega arith) 4 a (λ q. v (omega arith)) ∙ sym (paint-off p t y x _ (inr (omega arith)))))
          (λ u. ones-out _ _ _ _ lw lh hx hy p y x lp (omega arith) (omega arith) 4 a (λ q. u (omega arith)) ∙ sym (paint-off p t y x _ (inl (omega arith))));
      outside = λ a l p y x lp ly lx n.
          ones-out _ _ _ _ lw lh hx hy p y x lp ly lx 4 a
          (λ i. n (omega (arith, wide-le p (Tx_Wide t) lw, high_le p (Tx_High t) lh)));
    }
