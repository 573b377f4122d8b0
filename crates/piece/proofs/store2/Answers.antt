-- Four stores are `put`: a place of the line is an index of the list.
use mathlib.Core.List.{[], ◌∷◌}
use mathlib.Core.Path.{sym, ◌∙◌}
use Rattle.piece.proofs.Places.{put_is, once, plus_none}
use Rattle.piece.proofs.store2.Goals as goal

pub returns : goal.returns
returns g c =
    let a = c.args in
    rw (c.put-4.ensures, c.put-3.ensures, c.put-2.ensures, c.put.ensures)
    (sym (put_is a.q a.sample_step (a.p1 ∷ a.p0 ∷ a.q0 ∷ a.q1 ∷ []) 6 (g.P.Pixel.samples a.s.now) c.requires.0 ∙ simp (once, plus_none)))
