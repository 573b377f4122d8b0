-- What the two passes ask and come to, at the code's own numbers: the block's place and size, turned for the rows.
use mathlib.Core.Path.{◌≡◌, refl, ◌∙◌}
use mathlib.Core.Bool.{Bool, true, false, cond}
use mathlib.Core.List.{List}
use Prim.Native.Nat.{ℕ, ◌+◌, ◌-◌, ◌*◌, ◌≤◌, ◌<◌}
use native.Mathlib.Omega.{arith}
use lib.Dec.{ltb}
use lib.ListN.{get_or}
use Rattle.loops.proofs.Tables.{each_at}
use Rattle.standard.specs.Sizes.{Tx_Wide, Tx_High}
use Rattle.units.specs.Masks.{half_units}
use Rattle.units.specs.Sizes.{chroma_class}
use Rattle.mask_edges.specs.declared.edge.BlockPass.{BlockPass}
use Rattle.mask_edges.specs.Folds.{bit_in, classes, stores, grid_pass, grid_masks, cell_pass, cell_masks, class_in, step_in, pass_over, Held, Told}

-- a half holds 16 units, or 8
pub halves : (ss : ℕ) → ss ≤ 1 → (0 < half_units ss) × (half_units ss ≤ 16)
halves ss h = each_at 2 (λ s. (0 < half_units s) × (half_units s ≤ 16)) ((omega arith, omega arith), ((omega arith, omega arith), tt)) ss (omega arith)

module _ (p : BlockPass) (luma : Bool) (half : ℕ) (rowwise : Bool) (unit place across along len : ℕ) (e : p ≡ pass_over luma half rowwise unit place across along)
    (hh : (0 < half) × (half ≤ 16)) (hu : unit + across ≤ 32) (hq : place + along ≤ 2 * half) (hl : 640 ≤ len) where
  pub pass-held : Held p len
  pass-held = rw e (record { half = hh; unit = hu; place = hq; words = hl })

  pub cells-asked : (txa : List ℕ) (n : ℕ) → Told txa p → 0 < across → along ≤ n → Held p len × Told txa p × (0 < p.across) × (p.along ≤ n)
  cells-asked txa n ht ha hn = (pass-held, ht, rw e ha, rw e hn)

  pub grid-asked : (step k n : ℕ) → k < classes luma → 0 < across → 0 < step → along ≤ n
      → Held p len × (k < classes p.luma) × (0 < p.across) × (0 < step) × (p.along ≤ n)
  grid-asked step k n hk ha hs hn = (pass-held, rw e hk, rw e ha, hs, rw e hn)

pub grid-both : (c r c₀ r₀ : BlockPass) (class : ℕ → ℕ) (t w h kw kh : ℕ) (skip : Bool) (a l ms ms' ms'' : List ℕ) → c ≡ c₀ → r ≡ r₀ → w ≡ Tx_Wide t → h ≡ Tx_High t
    → kw ≡ class w → kh ≡ class h → ms' ≡ grid_pass (bit_in c) c.across c.along w kw skip (λ v. get_or l v 0) ms
    → ms'' ≡ grid_pass (bit_in r) r.across r.along h kh skip (λ v. get_or a v 0) ms' → ms'' ≡ grid_masks c₀ r₀ class t skip a l ms
unfolding grid_masks
grid-both c r c₀ r₀ class t w h kw kh skip a l ms ms' ms'' ec er ew eh ekw ekh e e' = e' ∙ rw (e, ekw, ekh, ew, eh, ec, er) refl

module _ (p p₀ : BlockPass) (txa txa₀ : List ℕ) (e : p ≡ p₀) (f : txa ≡ txa₀) where
  pub context-taken : (c c' : List ℕ) → c' ≡ stores p.along (class_in txa p (p.across - 1)) c → c' ≡ stores p₀.along
      (class_in txa₀ p₀ (p₀.across - 1)) c
  context-taken c c' g = g ∙ rw (e, f) refl

pub cells-both : (c r c₀ r₀ : BlockPass) (txa txa₀ : List ℕ) (skip : Bool) (a l ms ms' ms'' : List ℕ) → c ≡ c₀ → r ≡ r₀ → txa ≡ txa₀
    → ms' ≡ cell_pass (bit_in c) c.across c.along (class_in txa c) (step_in txa c) skip (λ v. get_or l v 0) ms
    → ms'' ≡ cell_pass (bit_in r) r.across r.along (class_in txa r) (step_in txa r) skip (λ v. get_or a v 0) ms' → ms'' ≡ cell_masks c₀ r₀ txa₀ skip a l ms
unfolding cell_masks
cells-both c r c₀ r₀ txa txa₀ skip a l ms ms' ms'' ec er et e e' = e' ∙ rw (e, ec, er, et) refl

pub chroma-low : (n : ℕ) → chroma_class n < 2
chroma-low n = go (ltb 1 n)
  where
    go : (b : Bool) → cond b 1 0 < 2
    go true = omega arith
    go false = omega arith
