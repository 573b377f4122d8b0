-- The walk along a line by steps read from its cells: what is left to do from the code's place on is all there was to do, until the place is past the width.
use mathlib.Core.Path.{◌≡◌, refl, sym, ◌∙◌}
use mathlib.Core.Bool.{Bool, true, false}
use mathlib.Core.List.{List}
use Prim.Native.Nat.{ℕ, zero, suc, ◌+◌, ◌*◌, ◌≤◌, ◌<◌, min}
use native.Mathlib.Omega.{arith}
use borrow.Author.Tests.{lt-ltb, le-ltb}
use Rattle.loops.proofs.Runs.{up_to-again}
use Rattle.bits.specs.Mark.{mark}
use Rattle.plane.specs.Line.{pass_of}
use Rattle.mask_edges.specs.Folds.{block_edge, walk, line_edges, cell_pass, cell_at, Reach, more}

module _ (rowwise : Bool) (what u v : ℕ) where
  pub cell-across : rowwise ≡ false → (what * 32 + v) * 32 + u ≡ cell_at (pass_of rowwise) what u v
  unfolding cell_at
  cell-across e = rw e refl

  pub cell-down : rowwise ≡ true → ((2 + what) * 32 + u) * 32 + v ≡ cell_at (pass_of rowwise) what u v
  unfolding cell_at
  cell-down e = rw e refl

module _ (bit : ℕ → ℕ → ℕ → ℕ) (across : ℕ) (class step : ℕ → ℕ) (v : ℕ) where
  walk_end : (f x k : ℕ) (ms : List ℕ) → across ≤ x → walk bit across class step v f x k ms ≡ ms
  unfolding walk
  walk_end zero x k ms h = refl
  walk_end (suc f) x k ms h = rw (le-ltb x across h) refl

  -- what is left at the place x, after the class k
  pub record Left (goal : List ℕ) (x k : ℕ) (ms : List ℕ) : Type 0 where
    pub f : ℕ
    pub enough : across ≤ x + f
    pub rest : goal ≡ walk bit across class step v f x k ms
    pub reached : Reach step x

  pub left-on : (goal : List ℕ) (x k c m s : ℕ) (ms ms' : List ℕ) → Left goal x k ms → x < across → 0 < step x → c ≡ class x → m ≡ min c k → ms' ≡ mark ms
      (bit x m v)
      → s ≡ step x → Left goal (x + s) c ms'
  unfolding walk
  left-on goal x k c m s ms ms' l h p ec em ems es = go l.f l.enough l.rest
    where
      go : (f : ℕ) → across ≤ x + f → goal ≡ walk bit across class step v f x k ms → Left goal (x + s) c ms'
      go zero q r = absurd (omega arith)
      go (suc f) q r =
          record {
            f = f;
            enough = omega arith;
            rest = rw (ems, em, ec, es) (rw (lt-ltb x across h) at r);
            reached = rw es (more l.reached);
          }

  pub left_end : (goal : List ℕ) (x k : ℕ) (ms : List ℕ) → Left goal x k ms → across ≤ x → ms ≡ goal
  left_end goal x k ms l h = sym (l.rest ∙ walk_end l.f x k ms h)

module _ (bit : ℕ → ℕ → ℕ → ℕ) (across : ℕ) (class step : ℕ → ℕ → ℕ) where
  pub lines_none : (ms : List ℕ) → ms ≡ line_edges bit across class step 0 ms
  unfolding line_edges
  lines_none ms = refl

  pub lines_step : (v : ℕ) (ms₀ ms ms' : List ℕ) → ms ≡ line_edges bit across class step v ms₀
      → ms' ≡ walk bit across (λ u. class u v) (λ u. step u v) v across (step 0 v) (class 0 v) ms → ms' ≡ line_edges bit across class step (v + 1) ms₀
  unfolding line_edges
  lines_step v ms₀ ms ms' = up_to-again (λ v. walk bit across (λ u. class u v) (λ u. step u v) v across (step 0 v) (class 0 v)) v ms₀

  module _ (along : ℕ) (context : ℕ → ℕ) (ms ms' : List ℕ) (e : ms' ≡ block_edge bit along (class 0) context ms) where
    pub cells-skipped : {skip : Bool} → skip ≡ true → ms' ≡ cell_pass bit across along class step skip context ms
    unfolding cell_pass
    cells-skipped s = rw s e

    pub cells-walked : {skip : Bool} (ms'' : List ℕ) → skip ≡ false → ms'' ≡ line_edges bit across class step along ms'
        → ms'' ≡ cell_pass bit across along class step skip context ms
    unfolding cell_pass
    cells-walked ms'' s g = rw s (g ∙ rw e refl)
