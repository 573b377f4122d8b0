-- `row_line` meets its contract: each number is that of the line.
use mathlib.Core.Path.{refl, ap}
use Prim.Native.Nat.{ℕ, ◌+◌}
use Rattle.plane.specs.Line.{rows}
use Rattle.filter.proofs.LineWords.{mask_is, line-make}
use Rattle.filter.proofs.lines.row_line.Goals as goal

pub returns : goal.returns
returns c =
    line-make c.args.c rows c.args.k c.args.rec c.args.a c.args.masks.now _ _ _ _ _ _ c.record_left-x.ensures
    (ap (λ (x : ℕ). x + c.args.a) c.row_top.ensures)
    (mask_is c.args.c rows c.args.k c.args.rec c.args.a _ _ (ap (λ (x : ℕ). x + c.args.a) c.first_line.ensures) c.mask_at-m.ensures) refl
    refl c.half_units-h.ensures _ _ _ _ _ _ c.sample_at.ensures c.class_at.ensures c.class_at-2.ensures
    c.class_at-3.ensures c.classes_of.ensures c.level_of.ensures
