-- What each test tells, from the comparisons that it is made of.
use mathlib.Core.Path.{◌≡◌}
use mathlib.Core.Logic.{◌⊎◌, inl, inr, ⊎_elim}
use Prim.Native.Nat.{ℕ, ◌*◌, ◌≤◌}
use Rattle.loops.specs.Exactly.{Reflects}
use Rattle.loops.proofs.Reflected.{reflects-leb, reflects-eqb, reflects-as, reflects-not, reflects-and, reflects-or}
use Rattle.units.specs.Layout.{Layout, is-400, is-420, is-422, is-444, layout_ok, has_chroma}
use Rattle.units.specs.Frame.{frame_ok, frame_records, superblock_ok}
use Rattle.units.specs.Memory.{levels_ok, plane_ok, masks_ok}

pub reflects-layout : (layout : ℕ) → Reflects (layout_ok layout) (Layout layout)
reflects-layout layout =
    reflects-as (record { only = ⊎_elim (⊎_elim is-400 is-420) (⊎_elim is-422 is-444); always = which })
    (reflects-or (reflects-or (reflects-eqb layout 400) (reflects-eqb layout 420)) (reflects-or (reflects-eqb layout 422) (reflects-eqb layout 444)))
  where
    which : Layout layout → ((layout ≡ 400) ⊎ (layout ≡ 420)) ⊎ ((layout ≡ 422) ⊎ (layout ≡ 444))
    which (is-400 e) = inl (inl e)
    which (is-420 e) = inl (inr e)
    which (is-422 e) = inr (inl e)
    which (is-444 e) = inr (inr e)

pub reflects-chroma : (layout : ℕ) → Reflects (has_chroma layout) (¬ (layout ≡ 400))
reflects-chroma layout = reflects-not (reflects-eqb layout 400)

pub reflects-frame : (width height : ℕ) → Reflects (frame_ok width height) (((1 ≤ width) × (width ≤ 16384)) × ((1 ≤ height) × (height ≤ 16384)))
reflects-frame width height =
    reflects-and (reflects-and (reflects-leb 1 width) (reflects-leb width 16384)) (reflects-and (reflects-leb 1 height) (reflects-leb height 16384))

pub reflects-superblock : (size : ℕ) → Reflects (superblock_ok size) ((size ≡ 64) ⊎ (size ≡ 128))
reflects-superblock size = reflects-or (reflects-eqb size 64) (reflects-eqb size 128)

pub reflects-levels : (len stride w4 h4 : ℕ) → Reflects (levels_ok len stride w4 h4) ((w4 ≤ stride) × (4 * stride * h4 ≤ len))
reflects-levels len stride w4 h4 = reflects-and (reflects-leb w4 stride) (reflects-leb (4 * stride * h4) len)

pub reflects-plane : (len stride width height : ℕ) → Reflects (plane_ok len stride width height) ((width ≤ stride) × (stride * height ≤ len))
reflects-plane len stride width height = reflects-and (reflects-leb width stride) (reflects-leb (stride * height) len)

pub reflects-masks : (len w4 h4 : ℕ) → Reflects (masks_ok len w4 h4) (640 * frame_records w4 h4 ≤ len)
reflects-masks len w4 h4 = reflects-leb (640 * frame_records w4 h4) len
