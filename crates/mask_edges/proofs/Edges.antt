-- A pass sets the bits of its edges: each loop adds the bits of some, in whatever order, and together these are the edges of the definition.
use mathlib.Core.Path.{◌≡◌, refl, sym, ap, ap₂, ◌∙◌}
use mathlib.Core.Bool.{Bool, true, false, cond, not, ◌&&◌, ◌||◌, or-false, false≢true}
use mathlib.Core.Logic.{◌⊎◌, inl, inr, ⊎_elim, by_cases}
use mathlib.Core.List.{List}
use Prim.Native.Nat.{ℕ, zero, suc, ◌+◌, ◌-◌, ◌*◌, ◌/◌, ◌%◌, ◌≤◌, ◌<◌, min}
use native.Mathlib.Omega.{arith}
use native.Mathlib.Nat.{zero-add, zero-mod, mul-mod_left, mul-pos, mod-add-div', le-div_iff_mul-le}
use native.Mathlib.Decide.{ℕ_discrete, dec_le}
use lib.Dec.{eqb, ltb, leb}
use borrow.Author.Tests.{ltb-true, ltb-false}
use Rattle.loops.specs.Any.{any_below, Below}
use Rattle.loops.specs.Exactly.{Reflects}
use Rattle.loops.proofs.Anys.{any_same}
use Rattle.loops.proofs.Reflected.{reflects-leb, reflects-eqb, reflects-flag, reflects-and, reflects-or, reflects-any, reflects-same}
use Rattle.bits.specs.Mark.{is_set, mark, marks, Adds}
use Rattle.bits.proofs.Marks.{adds-mark, adds_then, adds-up_to, adds-marks}
use Rattle.mask_edges.specs.Recording.{Sweep, class_before, class_at, edges}
use Rattle.mask_edges.specs.Folds.{block_edge, step_edges, walk, line_edges, grid_pass, cell_pass}
use Rattle.mask_edges.proofs.LoopTurns.{stepping}
use Rattle.mask_edges.proofs.TransformsAlong.{Tiles, within, next, none}

adds-as : (n : ℕ) (g : List ℕ → List ℕ) (P Q : ℕ → Bool) → ((e : ℕ) → P e ≡ Q e) → Adds n g P → Adds n g Q
adds-as n g P Q e A = record { long = A.long; bits = λ ms l x. A.bits ms l x ∙ ap (λ (b : Bool). is_set ms x || b) (e x) }

adds-idle : (n : ℕ) (P : ℕ → Bool) → ((e : ℕ) → P e ≡ false) → Adds n (λ ms. ms) P
adds-idle n P f = record { long = λ ms l. l; bits = λ ms l x. sym (ap (λ (b : Bool). is_set ms x || b) (f x) ∙ or-false (is_set ms x)) }

off : {b : Bool} {P : Type 0} → Reflects b P → (P → ⊥) → b ≡ false
off {b} r f = go b r f
  where
    go : {P : Type 0} (b : Bool) → Reflects b P → (P → ⊥) → b ≡ false
    go true r f = absurd (f (r.yes refl))
    go false r f = refl

min_self : (k : ℕ) → min k k ≡ k
min_self k = omega arith

-- a multiple of s other than 0 is one of its steps
a-step : (w s u : ℕ) → 0 < s → u < w → u % s ≡ 0 → (u ≡ 0 → ⊥) → Below ((w - 1) / s) (λ i. (i + 1) * s ≡ u)
a-step w s u l h d z =
    let m = mod-add-div' u s in
    let q : 0 < u / s = by_cases (ℕ_discrete (u / s) 0) (λ y. absurd (z (omega (arith, ap (λ (k : ℕ). k * s) y)))) (λ y. omega arith) in
    let e : u / s - 1 + 1 ≡ u / s = omega arith in
    (u / s - 1, omega (arith, (le-div_iff_mul-le {k = s} {x = u / s} {y = w - 1} l).1 (omega arith)), ap (λ (k : ℕ). k * s) e ∙ omega arith)

module _ (S : Sweep) (bit : ℕ → ℕ → ℕ → ℕ) where
  -- the bit of the block's edge at (u, v), and of the one that is there
  abbrev bit_at : ℕ → ℕ → ℕ → ℕ
  bit_at u k v = bit (S.unit + u) k (S.place + v)

  abbrev own : ℕ → ℕ → ℕ
  own u v = bit_at u (class_at S u v) v

  -- e is the bit of an edge
  abbrev Edge : ℕ → ℕ → ℕ → Type 0
  Edge e u v = ((u % S.side u v ≡ 0) × ((u ≡ 0) ⊎ (S.inner ≡ true))) × (own u v ≡ e)

module _ (S : Sweep) (bit : ℕ → ℕ → ℕ → ℕ) where
  edges-told : (e : ℕ) → Reflects (edges S bit e) (Below S.across (λ u. Below S.along (Edge S bit e u)))
  unfolding edges
  edges-told e =
      reflects-any S.across _ _
      (λ u _. reflects-any S.along _ _
      (λ v _. reflects-and (reflects-and (reflects-eqb (u % S.side u v) 0) (reflects-or (reflects-eqb u 0) (reflects-flag S.inner)))
      (reflects-eqb (own S bit u v) e)))

  -- the block's own edge
  firsts : ℕ → Bool
  firsts e = any_below S.along (λ v. eqb (own S bit 0 v) e)

  firsts-told : (e : ℕ) → Reflects (firsts e) (Below S.along (λ v. own S bit 0 v ≡ e))
  unfolding firsts
  firsts-told e = reflects-any S.along _ _ (λ v _. reflects-eqb (own S bit 0 v) e)

  -- with no inner edges that is all
  edges-own : S.inner ≡ false → 0 < S.across → (e : ℕ) → firsts e ≡ edges S bit e
  edges-own i l e =
      reflects-same (firsts-told e) (edges-told e) (λ q. (0, l, (q.0, q.1, ((zero-mod (S.side 0 q.0), inl refl), q.2))))
      (λ q. only q.0 q.2)
    where
      only : (u : ℕ) → Below S.along (Edge S bit e u) → Below S.along (λ v. own S bit 0 v ≡ e)
      only u (v, h, b) =
          (v, h, ⊎_elim (λ z. ap (λ (w : ℕ). own S bit w v) (sym z) ∙ b.1) (λ t. absurd (false≢true (sym i ∙ t))) b.0.1)

  -- ---- a line

  module _ (v : ℕ) where
    -- edges of the line v from x on
    onward : ℕ → ℕ → Bool
    onward x e = any_below S.across (λ u. (leb x u && eqb (u % S.side u v) 0) && eqb (own S bit u v) e)

    Onward : ℕ → ℕ → Type 0
    Onward x e = Below S.across (λ u. ((x ≤ u) × (u % S.side u v ≡ 0)) × (own S bit u v ≡ e))

    onward-told : (x e : ℕ) → Reflects (onward x e) (Onward x e)
    unfolding onward Onward
    onward-told x e =
        reflects-any S.across _ _
        (λ u _. reflects-and (reflects-and (reflects-leb x u) (reflects-eqb (u % S.side u v) 0)) (reflects-eqb (own S bit u v) e))

    onward-end : (x : ℕ) → S.across ≤ x → (e : ℕ) → onward x e ≡ false
    unfolding Onward
    onward-end x l e = off (onward-told x e) (λ q. omega (arith, q.1, q.2.0.0))

    -- the edge at a start, and those from the next start on
    onward-next : Tiles (λ u. S.side u v) → (x : ℕ) → x < S.across → x % S.side x v ≡ 0
        → (e : ℕ) → (eqb (own S bit x v) e || onward (x + S.side x v) e) ≡ onward x e
    unfolding Onward
    onward-next T x l d e =
        reflects-same (reflects-or (reflects-eqb (own S bit x v) e) (onward-told (x + S.side x v) e)) (onward-told x e)
        (⊎_elim (λ b. (x, l, ((omega arith, d), b))) (λ q. (q.0, q.1, ((omega (arith, q.2.0.0), q.2.0.1), q.2.1))))
        (λ q. let u = q.0 in
        by_cases (ℕ_discrete x u) (λ z. inl (ap (λ (w : ℕ). own S bit w v) z ∙ q.2.1))
        (λ z. inr (
          u,
          q.1,
          (
            (
              by_cases (dec_le (x + S.side x v) u) (λ g. g)
                  (λ g. absurd (none (λ u. S.side u v) T x u d (omega (arith, q.2.0.0)) (omega arith) q.2.0.1)),
              q.2.0.1,
            ),
            q.2.1,
          ),
        )))

    before : (w s : ℕ) → 0 < w → S.side (w - 1) v ≡ s → class_before S w v ≡ S.class s
    before zero s l e = absurd (omega arith)
    before (suc u) s l e = let q : suc u - 1 ≡ u = omega arith in ap S.class (rw q at e)

  module _ (n top : ℕ) (low : (s : ℕ) → S.class s < top) (here : 0 < S.across)
      (fits : (u k v : ℕ) → u < S.across → k < top → v < S.along → bit_at S bit u k v / 16 < n) where
    adds-block : (class : ℕ → ℕ) → ((v : ℕ) → v < S.along → class v ≡ S.class (S.side 0 v))
        → Adds n (block_edge (bit_at S bit) S.along class S.context) firsts
    unfolding block_edge firsts
    adds-block class h =
        adds-as n _ _ firsts
        (λ e. any_same S.along _ _ (λ v l. ap (λ (k : ℕ). eqb (bit_at S bit 0 (min k (S.context v)) v) e) (h v l)))
        (adds-marks n S.along (λ v. bit_at S bit 0 (min (class v) (S.context v)) v)
        (λ v l. fits 0 (min (class v) (S.context v)) v here (omega (arith, h v l, low (S.side 0 v))) l))

    -- ---- one transform

    module _ (s : ℕ) (hs : (u v : ℕ) → S.side u v ≡ s) (ls : 0 < s) where
      inner-class : (u v : ℕ) → 0 < u → class_at S u v ≡ S.class s
      inner-class zero v l = absurd (omega arith)
      inner-class (suc u) v l = ap₂ (λ (a b : ℕ). min (S.class a) (S.class b)) (hs (suc u) v) (hs u v) ∙ min_self (S.class s)

      steps : ℕ → Bool
      steps e = any_below ((S.across - 1) / s) (λ i. any_below S.along (λ v. eqb (bit_at S bit ((i + 1) * s) (S.class s) v) e))

      adds-steps : Adds n (step_edges (bit_at S bit) S.along s (S.class s) ((S.across - 1) / s)) steps
      unfolding step_edges steps
      adds-steps =
          adds-up_to n ((S.across - 1) / s) (λ i. marks S.along (bit_at S bit ((i + 1) * s) (S.class s))) _
          (λ i l. adds-marks n S.along (bit_at S bit ((i + 1) * s) (S.class s))
          (λ v q. fits ((i + 1) * s) (S.class s) v (stepping S.across s i l).0 (low s) q))

      steps-told : (e : ℕ) → Reflects (steps e) (Below ((S.across - 1) / s) (λ i. Below S.along (λ v. bit_at S bit ((i + 1) * s) (S.class s) v ≡ e)))
      unfolding steps
      steps-told e =
          reflects-any ((S.across - 1) / s) _ _
          (λ i _. reflects-any S.along _ _ (λ v _. reflects-eqb (bit_at S bit ((i + 1) * s) (S.class s) v) e))

      edges-steps : S.inner ≡ true → (e : ℕ) → (firsts e || steps e) ≡ edges S bit e
      edges-steps i e = reflects-same (reflects-or (firsts-told e) (steps-told e)) (edges-told e) (⊎_elim zeroth later) (λ q. which q.0 q.1 q.2)
        where
          zeroth : Below S.along (λ v. own S bit 0 v ≡ e) → Below S.across (λ u. Below S.along (Edge S bit e u))
          zeroth q = (0, here, (q.0, q.1, ((zero-mod (S.side 0 q.0), inl refl), q.2)))

          later : Below ((S.across - 1) / s) (λ i. Below S.along (λ v. bit_at S bit ((i + 1) * s) (S.class s) v ≡ e))
              → Below S.across (λ u. Below S.along (Edge S bit e u))
          later (j, l, (v, h, b)) =
              let k = stepping S.across s j l in (
                (j + 1) * s,
                k.0,
                (
                  v,
                  h,
                  (
                    (rw (hs ((j + 1) * s) v) (mul-mod_left (j + 1) s), inr i),
                    ap (λ (c : ℕ). bit_at S bit ((j + 1) * s) c v) (inner-class ((j + 1) * s) v (mul-pos (omega arith) ls)) ∙ b,
                  ),
                ),
              )

          which : (u : ℕ) → u < S.across → Below S.along (Edge S bit e u)
              → Below S.along (λ v. own S bit 0 v ≡ e)
              ⊎ Below ((S.across - 1) / s) (λ i. Below S.along (λ v. bit_at S bit ((i + 1) * s) (S.class s) v ≡ e))
          which u l (v, h, b) = by_cases (ℕ_discrete u 0) (λ z. inl (v, h, ap (λ (w : ℕ). own S bit w v) (sym z) ∙ b.1)) (λ z. inr (stepped z))
            where
              stepped : (u ≡ 0 → ⊥) → Below ((S.across - 1) / s) (λ i. Below S.along (λ v. bit_at S bit ((i + 1) * s) (S.class s) v ≡ e))
              stepped z =
                  let k = a-step S.across s u ls l (ap (λ (m : ℕ). u % m) (sym (hs u v)) ∙ b.0.0) z in (
                    k.0,
                    k.1,
                    (
                      v,
                      h,
                      ap (λ (w : ℕ). bit_at S bit w (S.class s) v) k.2
                          ∙ ap (λ (c : ℕ). bit_at S bit u c v) (sym (inner-class u v (omega arith))) ∙ b.1,
                    ),
                  )

      pub adds-grid : (skip : Bool) → S.inner ≡ not skip
          → Adds n (grid_pass (bit_at S bit) S.across S.along s (S.class s) skip S.context) (edges S bit)
      unfolding grid_pass
      adds-grid true i = adds-as n _ firsts (edges S bit) (edges-own i here) (adds-block (λ _. S.class s) (λ v _. ap S.class (sym (hs 0 v))))
      adds-grid false i =
          adds-as n _ (λ e. firsts e || steps e) (edges S bit) (edges-steps i)
          (adds_then n _ (step_edges (bit_at S bit) S.along s (S.class s) ((S.across - 1) / s)) firsts steps
          (adds-block (λ _. S.class s) (λ v _. ap S.class (sym (hs 0 v)))) adds-steps)

    -- ---- transforms told by cells

    module _ (class step : ℕ → ℕ → ℕ) (T : (v : ℕ) → Tiles (λ u. S.side u v))
        (hc : (u v : ℕ) → u < S.across → v < S.along → class u v ≡ S.class (S.side u v))
        (hs : (u v : ℕ) → u < S.across → v < S.along → u % S.side u v ≡ 0 → step u v ≡ S.side u v) where
      module _ (v : ℕ) (lv : v < S.along) where
        -- from a start, a step leads to a start, after the class of the transform passed
        onto : (x : ℕ) → x < S.across → x % S.side x v ≡ 0
            → ((x + step x v) % S.side (x + step x v) v ≡ 0) × (class x v ≡ class_before S (x + step x v) v)
        onto x q d =
            let p = (T v).low x in
            let w = within (λ u. S.side u v) (T v) x (x + S.side x v - 1) d (omega arith) (omega arith) in
            rw (hs x v q lv d) (next (λ u. S.side u v) (T v) x d, hc x v q lv ∙ sym (before v (x + S.side x v) (S.side x v) (omega arith) w))

        adds-walk : (f x k : ℕ) → S.across ≤ x + f → (x < S.across → (x % S.side x v ≡ 0) × (k ≡ class_before S x v))
            → Adds n (walk (bit_at S bit) S.across (λ u. class u v) (λ u. step u v) v f x k) (onward v x)
        unfolding walk
        adds-walk zero x k l h = adds-idle n (onward v x) (onward-end v x (omega arith))
        adds-walk (suc f) x k l h =
            by-test (ltb x S.across) refl
            (λ q. adds-walk f (x + step x v) (class x v) (omega (arith, hs x v q lv (h q).0, (T v).low x)) (λ _. onto x q (h q).0))
          where
            by-test : (b : Bool) → ltb x S.across ≡ b
                → (x < S.across → Adds n (walk (bit_at S bit) S.across (λ u. class u v) (λ u. step u v) v f (x + step x v) (class x v))
                (onward v (x + step x v)))
                → Adds n
                (λ ms. cond b
                (walk (bit_at S bit) S.across (λ u. class u v) (λ u. step u v) v f (x + step x v) (class x v)
                (mark ms (bit_at S bit x (min (class x v) k) v))) ms)
                (onward v x)
            by-test false e go = adds-idle n (onward v x) (onward-end v x (ltb-false x S.across e))
            by-test true e go =
                let q = ltb-true x S.across e in
                let d = (h q).0 in
                let g : min (class x v) k ≡ class_at S x v = ap₂ (λ (a b : ℕ). min a b) (hc x v q lv) (h q).1 in
                adds-as n _ _ (onward v x)
                (λ e. ap (λ (w : ℕ). eqb (own S bit x v) e || onward v (x + w) e) (hs x v q lv d) ∙ onward-next v (T v) x q d e)
                (adds_then n (λ ms. mark ms (bit_at S bit x (min (class x v) k) v)) _ (eqb (own S bit x v)) (onward v (x + step x v))
                (rw g (adds-mark n (own S bit x v) (fits x (class_at S x v) v q (omega (arith, low (S.side x v))) lv))) (go q))

      lines : ℕ → Bool
      lines e = any_below S.along (λ v. onward v (step 0 v) e)

      adds_lines : Adds n (line_edges (bit_at S bit) S.across class step S.along) lines
      unfolding line_edges lines
      adds_lines =
          adds-up_to n S.along _ (λ v. onward v (step 0 v))
          (λ v lv. adds-walk v lv S.across (step 0 v) (class 0 v) (omega arith)
          (λ _. rw (zero-add (step 0 v)) at (onto v lv 0 here (zero-mod (S.side 0 v)))))

      edges-lines : S.inner ≡ true → (e : ℕ) → (firsts e || lines e) ≡ edges S bit e
      unfolding lines Onward
      edges-lines i e =
          reflects-same (reflects-or (firsts-told e) (reflects-any S.along _ _ (λ v _. onward-told v (step 0 v) e))) (edges-told e)
          (⊎_elim (λ q. (0, here, (q.0, q.1, ((zero-mod (S.side 0 q.0), inl refl), q.2))))
          (λ q. let w = q.2 in (w.0, w.1, (q.0, q.1, ((w.2.0.1, inr i), w.2.1)))))
          (λ q. which q.0 q.1 q.2)
        where
          which : (u : ℕ) → u < S.across → Below S.along (Edge S bit e u)
              → Below S.along (λ v. own S bit 0 v ≡ e) ⊎ Below S.along (λ v. Onward v (step 0 v) e)
          which u l (v, h, b) =
              by_cases (ℕ_discrete u 0) (λ z. inl (v, h, ap (λ (w : ℕ). own S bit w v) (sym z) ∙ b.1))
              (λ z. inr (v, h, (u, l, ((past z, b.0.0), b.1))))
            where
              past : (u ≡ 0 → ⊥) → step 0 v ≤ u
              past z =
                  let d = zero-mod (S.side 0 v) in
                  rw (hs 0 v here h d)
                  (by_cases (dec_le (S.side 0 v) u) (λ g. g)
                  (λ g. absurd (none (λ u. S.side u v) (T v) 0 u d (omega arith) (omega arith) b.0.0)))

      pub adds-cells : (skip : Bool) → S.inner ≡ not skip → Adds n (cell_pass (bit_at S bit) S.across S.along class step skip S.context) (edges S bit)
      unfolding cell_pass
      adds-cells true i = adds-as n _ firsts (edges S bit) (edges-own i here) (adds-block (class 0) (λ v l. hc 0 v here l))
      adds-cells false i =
          adds-as n _ (λ e. firsts e || lines e) (edges S bit) (edges-lines i)
          (adds_then n _ (line_edges (bit_at S bit) S.across class step S.along) firsts lines (adds-block (class 0) (λ v l. hc 0 v here l)) adds_lines)
