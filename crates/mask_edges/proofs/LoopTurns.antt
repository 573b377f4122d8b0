-- The turns of the code's loops, from what its calls ensure, by the laws of `up_to` and `marks`.
use mathlib.Core.Path.{◌≡◌, refl, sym, ap, ◌∙◌}
use mathlib.Core.Bool.{Bool, true, false}
use mathlib.Core.List.{List}
use Prim.Native.Nat.{ℕ, ◌+◌, ◌-◌, ◌*◌, ◌/◌, ◌≤◌, ◌<◌, min}
use native.Mathlib.Nat.{div-le_self, div-eq_of_lt}
use native.Mathlib.Omega.{arith}
use lib.ListN.{get_or, set}
use Rattle.loops.proofs.Runs.{up_to-again}
use Rattle.loops.proofs.Products.{step_in, steps-in}
use Rattle.bits.specs.Mark.{mark, marks}
use Rattle.bits.proofs.Marks.{marks-none, marks-more}
use Rattle.mask_edges.specs.declared.edge.BlockPass.{BlockPass}
use Rattle.mask_edges.specs.Folds.{bit_in, block_edge, step_edges, stores, grid_pass, Edged}
use Rattle.mask_edges.proofs.Contexts.{stores-here}

module _ (bit : ℕ → ℕ → ℕ → ℕ) where
  pub block_none : (class context : ℕ → ℕ) (ms : List ℕ) → ms ≡ block_edge bit 0 class context ms
  unfolding block_edge
  block_none class context ms = sym (marks-none (λ v. bit 0 (min (class v) (context v)) v) ms)

  pub block-step : (class context : ℕ → ℕ) (v k : ℕ) (ms₀ ms ms' : List ℕ) → ms ≡ block_edge bit v class context ms₀ → k ≡ min (class v) (context v)
      → ms' ≡ mark ms (bit 0 k v) → ms' ≡ block_edge bit (v + 1) class context ms₀
  unfolding block_edge
  block-step class context v k ms₀ ms ms' e ek em = em ∙ rw (ek, e) (sym (marks-more v (λ v. bit 0 (min (class v) (context v)) v) ms₀))

  pub step-none : (n step class : ℕ) (ms : List ℕ) → ms ≡ step_edges bit n step class 0 ms
  unfolding step_edges
  step-none n step class ms = refl

  pub step-step : (n step class i : ℕ) (ms₀ ms ms' : List ℕ) → ms ≡ step_edges bit n step class i ms₀ → ms' ≡ marks n (bit ((i + 1) * step) class) ms
      → ms' ≡ step_edges bit n step class (i + 1) ms₀
  unfolding step_edges
  step-step n step class i ms₀ ms ms' = up_to-again (λ i. marks n (bit ((i + 1) * step) class)) i ms₀

pub stores-none : (f : ℕ → ℕ) (c : List ℕ) → c ≡ stores 0 f c
unfolding stores
stores-none f c = refl

pub stores-step : (f : ℕ → ℕ) (v k : ℕ) (c₀ c : List ℕ) → c ≡ stores v f c₀ → k ≡ f v → set c v k ≡ stores (v + 1) f c₀
unfolding stores
stores-step f v k c₀ c e g = up_to-again (λ v c. set c v (f v)) v c₀ e (ap (set c v) g)

module _ (p : BlockPass) (class : ℕ) (c ms : List ℕ) where
  pub edged-none : Edged p class c ms 0 c ms
  edged-none = record { context = stores-none (λ _. class) c; edge = block_none (bit_in p) (λ _. class) (λ i. get_or c i 0) ms }

  pub edged-step : (v k e : ℕ) (ctx masks masks' : List ℕ) → Edged p class c ms v ctx masks → k ≡ min class (get_or ctx v 0) → e ≡ bit_in p 0 k v
      → masks' ≡ mark masks e → Edged p class c ms (v + 1) (set ctx v class) masks'
  edged-step v k e ctx masks masks' E ek ee em =
      let g = stores-here (λ _. class) v c ctx E.context in
      record {
        context = stores-step (λ _. class) v class c ctx E.context refl;
        edge = block-step (bit_in p) (λ _. class) (λ i. get_or c i 0) v k ms masks masks' E.edge (ek ∙ ap (λ (n : ℕ). min class n) g) (em ∙ ap (mark masks) ee);
      }

-- where no step is inside the width
pub no_step : (w s : ℕ) → 0 < w → w ≤ s → 0 ≡ (w - 1) / s
no_step w s l h = sym (div-eq_of_lt (omega arith))

-- a step inside the width
pub stepping : (w s i : ℕ) → i < (w - 1) / s → ((i + 1) * s < w) × (i < w)
stepping w s i h =
    let a = step_in i ((w - 1) / s) s h in
    let b = steps-in w s in
    let c = div-le_self (w - 1) s in
    (omega arith, omega arith)

-- ---- a pass

module _ (bit : ℕ → ℕ → ℕ → ℕ) (across along step class : ℕ) (context : ℕ → ℕ) (ms ms' : List ℕ) (e : ms' ≡ block_edge bit along (λ _. class) context ms) where
  pub grid-skipped : {skip : Bool} → skip ≡ true → ms' ≡ grid_pass bit across along step class skip context ms
  unfolding grid_pass
  grid-skipped s = rw s e

  pub grid-stepped : {skip : Bool} (ms'' : List ℕ) → skip ≡ false → ms'' ≡ step_edges bit along step class ((across - 1) / step) ms'
      → ms'' ≡ grid_pass bit across along step class skip context ms
  unfolding grid_pass
  grid-stepped ms'' s g = rw s (g ∙ rw e refl)
