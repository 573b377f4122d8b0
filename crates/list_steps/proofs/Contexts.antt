-- The contexts from a block on: a place past the end lends the same empty part as the end, and what recording leaves of each part is put back behind what stands before it.
use mathlib.Core.List.{List, [], ◌++◌, append-nil}
use mathlib.Core.Logic.{by_cases}
use mathlib.Core.Path.{◌≡◌, refl, sym, ap, ap₂, ◌∙◌}
use Prim.Native.Nat.{ℕ, ◌+◌, ◌-◌, ◌/◌, ◌%◌, min}
use native.Mathlib.Decide.{dec_le}
use native.Mathlib.Omega.{arith}
use borrow.Rule.Slice.PartMut.{mid_of, put_mid}
use borrow.Author.Tests.{eq-eqb, ne_eqb}
use lib.ListN.{length, take, drop, drop_of_length-le, length-drop}
use lib.Seq.{take_all}
use mir.Val.{bool_byte}
use Rattle.std.proofs.Common.{Option, None, Some}
use Rattle.std.specs.Option.{is_some}
use Rattle.list_script.specs.Line.{chroma_flag, chroma_code}
use Rattle.list_script.specs.declared.BlockLine.{BlockLine}
use Rattle.block.specs.declared.Block.{Block}
use Rattle.block.specs.Block.{w4, Lent, lent, cx, cy, at_block}
use Rattle.block.specs.Tests.{number}
use Rattle.record.specs.Record.{luma_above, luma_left, chroma_above, chroma_left, RecordAnswer}
use Rattle.list_steps.specs.State.{State, state_is}
use Rattle.list_steps.specs.declared.Carried.{Carried}
use Rattle.list_steps.specs.Steps.{Kept, block_of, kept, kept_of, refused, from, stored, blocked}

abbrev end : ℕ → List ℕ → List ℕ
end i l = mid_of i (64 - i) l

abbrev put : ℕ → List ℕ → List ℕ → List ℕ
put i l a = put_mid i (64 - i) l a

abbrev Cut : ℕ → List ℕ → ℕ → Type 0
Cut at l i = (i ≡ min at 64) × (length l ≡ 64)

module _ (at : ℕ) (l : List ℕ) {i : ℕ} (cut : Cut at l i) where
  end_is : end i l ≡ drop i l
  end_is = take_all (64 - i) (drop i l) (simp length-drop (omega (arith, cut.1)))

  put_is : (a : List ℕ) → put i l a ≡ take i l ++ a
  put_is a =
      let e : drop (64 - i) (drop i l) ≡ [] = drop_of_length-le (drop i l) {i = 64 - i} (simp length-drop (omega (arith, cut.1))) in
      ap (λ (k : List ℕ). take i l ++ (a ++ k)) e ∙ ap (λ (k : List ℕ). take i l ++ k) (append-nil a)

  end-cut : end i l ≡ drop at l
  end-cut =
      end_is
      ∙ by_cases (dec_le at (length l)) (λ h. let f : i ≡ at = omega (arith, cut.0) in rw f refl)
      (λ h. drop_of_length-le l {i = i} (omega (arith, cut.0)) ∙ sym (drop_of_length-le l {i = at} (omega arith)))

  take-cut : take i l ≡ take at l
  take-cut =
      by_cases (dec_le at (length l)) (λ h. let f : i ≡ at = omega (arith, cut.0) in rw f refl)
      (λ h. take_all i l (omega (arith, cut.0)) ∙ sym (take_all at l (omega arith)))

  put-cut : (f : List ℕ → List ℕ) {a : List ℕ} → a ≡ f (end i l) → put i l a ≡ from at f l
  put-cut f {a} g = put_is a ∙ rw (take-cut, g, end-cut) refl

pub rounded-up : (w : ℕ) → w / 4 + min 1 (w % 4) ≡ (w + 3) / 4
rounded-up w = omega arith

flagged : (o : Option ℕ) → bool_byte (is_some o) ≡ chroma_flag o
flagged None = refl
flagged (Some t) = refl

pub of-chroma : (k : Kept) (s : State) (b : BlockLine) {f t : ℕ} → f ≡ bool_byte (is_some b.uvtx) → t ≡ chroma_code b.uvtx
    → blocked k (block_of s b.x b.y b.size b.tx f t) ≡ blocked k (block_of s b.x b.y b.size b.tx (chroma_flag b.uvtx) (chroma_code b.uvtx))
of-chroma k s b p q = ap₂ (λ (f t : ℕ). blocked k (block_of s b.x b.y b.size b.tx f t)) (p ∙ flagged b.uvtx) q

lents : (m : Lent) (ls ms a l u v : List ℕ) → ls ≡ m.levels → ms ≡ m.masks → a ≡ m.above → l ≡ m.left → u ≡ m.above-uv → v ≡ m.left-uv
    → lent ls ms a l u v ≡ m
lents m ls ms a l u v e f g h i j = rw (e, f, g, h, i, j) refl

module _ (c : Carried) (levels masks : List ℕ) (b : Block) {r level-stride i j p q : ℕ} {ls ms a l u v : List ℕ}
    (st : level-stride ≡ w4 b) (ei : Cut b.x.0 c.above i) (ej : Cut b.y.0 c.left j) (ep : Cut (cx b) c.above_uv p) (eq : Cut (cy b) c.left_uv q)
    (g : RecordAnswer b level-stride c.values [] r
    (lent levels masks (end i c.above) (end j c.left) (end p c.above_uv) (end q c.left_uv)) (lent ls ms a l u v))
  where
    abbrev k : Kept
    k = kept_of c levels masks

    ends-are : (end i c.above ≡ drop b.x.0 c.above) × (end j c.left ≡ drop b.y.0 c.left)
        × (end p c.above_uv ≡ drop (cx b) c.above_uv) × (end q c.left_uv ≡ drop (cy b) c.left_uv)
    ends-are = (end-cut b.x.0 c.above ei, end-cut b.y.0 c.left ej, end-cut (cx b) c.above_uv ep, end-cut (cy b) c.left_uv eq)

    number_is : r ≡ number b (w4 b) (at_block b k.memory)
    number_is = rw (st, ends-are.0, ends-are.1, ends-are.2, ends-are.3) at g.code

    pub block_refused : {o : Kept} → ¬ (r ≡ 0) → o ≡ refused (kept_of c ls ms) r → o ≡ blocked k b
    unfolding blocked
    block_refused z e =
        let same = lents k.memory ls ms _ _ _ _ (rw (ne_eqb r 0 z) at g.levels) (rw (ne_eqb r 0 z) at g.masks) refl refl refl refl in
        rw (e, same, ← number_is, ne_eqb r 0 z) refl

    pub block-done : r ≡ 0
        → kept (state_is c.state) c.values (lent ls ms (put i c.above a) (put j c.left l) (put p c.above_uv u) (put q c.left_uv v)) ≡ blocked k b
    unfolding blocked
    block-done z =
        let d = eq-eqb r 0 z in
        let new =
        lents (stored b c.values k.memory) ls ms _ _ _ _
        (rw (d, st) at g.levels)
        (rw (d, ends-are.0, ends-are.1, ends-are.2, ends-are.3) at g.masks)
        (put-cut b.x.0 c.above ei (luma_above b []) (rw d at g.above))
        (put-cut b.y.0 c.left ej (luma_left b []) (rw d at g.left))
        (put-cut (cx b) c.above_uv ep (chroma_above b) (rw d at g.above-uv))
        (put-cut (cy b) c.left_uv eq (chroma_left b) (rw d at g.left-uv))
        in
        rw (new, ← number_is, d) refl
