-- Two stores are `put`: a place of the line is an index of the list.
use mathlib.Core.List.{[], ◌∷◌}
use mathlib.Core.Path.{sym, ◌∙◌}
use native.Mathlib.Omega.{arith}
use Rattle.piece.proofs.Places.{put_is, once, plus_none}
use Rattle.piece.proofs.store1.Goals as goal

pub returns : goal.returns
returns g c =
    let a = c.args in
    rw (c.put-2.ensures, c.put.ensures)
    (sym (put_is a.q a.sample_step (a.p0 ∷ a.q0 ∷ []) 7 (g.P.Pixel.samples a.s.now) (omega arith) ∙ simp (once, plus_none)))
