-- The hypotheses of a frame's promises are met together: neither the numbers nor the gap rule look at limits, so an accepted frame whose boundaries keep the rule may be given the limit
-- table of any sharpness up to 7.
use mathlib.Core.List.{List}
use mathlib.Core.Path.{◌≡◌, refl}
use Prim.Native.Nat.{ℕ}
use Rattle.plane.specs.Three.{Three}
use Rattle.limits.specs.Limits.{limits_of}
use Rattle.frames.specs.Calls.{Frame, Accepted, BoundariesKept}
use Rattle.standard_planes.specs.Piece.{limits_in}
use Rattle.standard_planes.specs.Frame.{Sharp}

module _ (f : Frame) (sharp : ℕ) (z : (limits_of sharp).number ≡ 0) where
  abbrev pub sharpened : Frame
  sharpened = record { head = f.head; limits = limits_in (limits_of sharp); levels = f.levels; masks = f.masks; words = f.words }

  pub is-sharp : Sharp sharp sharpened
  is-sharp = record { accepted = z; given = refl }

  pub still-accepted : (s : Three (List ℕ)) → Accepted f s → Accepted sharpened s
  still-accepted s a = record { some = a.some; all = a.all }

  pub still_kept : BoundariesKept f → BoundariesKept sharpened
  still_kept b = record { luma = record { keeps = b.luma.keeps }; u = record { keeps = b.u.keeps }; v = record { keeps = b.v.keeps } }
