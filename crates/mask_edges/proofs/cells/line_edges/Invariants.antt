-- What is left from the place on is all there was to do; the place moves up by steps above 0.
use Rattle.mask_edges.proofs.Walks.{Left}
use Rattle.mask_edges.specs.Folds.{bit_in, walk, class_in, step_in}
use lib.ListN.{length}
use mathlib.Core.Path.{◌≡◌}
use Prim.Native.Nat.{◌-◌}
use Rattle.mask_edges.proofs.cells.line_edges.Given as goal

abbrev pub invariant-loop-x : goal.invariant-loop-x
invariant-loop-x l =
    (length l.masks ≡ length l.initial.masks)
    × Left (bit_in l.p) l.p.across (λ u. class_in l.txa l.p u l.v) (λ u. step_in l.txa l.p u l.v) l.v
    (walk (bit_in l.p) l.p.across (λ u. class_in l.txa l.p u l.v) (λ u. step_in l.txa l.p u l.v) l.v l.p.across (step_in l.txa l.p 0 l.v) (class_in l.txa l.p 0 l.v) l.initial.masks) l.x l.ltx l.masks

abbrev pub decreases-loop-x : goal.decreases-loop-x
decreases-loop-x l = l.p.across - l.x
