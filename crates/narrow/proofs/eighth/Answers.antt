-- An eighth of a filter value is the standard's, with the offset half: the offset 8 * half is a multiple of 8.
use Rattle.std.proofs.Common.{◌*◌, sym, ap, ◌∙◌, arith}
use lib.Signed.{shr_z}
use Rattle.standard.specs.Narrow.{filter4_clamp, filter12}
use Rattle.loops.proofs.Ints.{shr-sub, sub-plus}
use Rattle.narrow.proofs.eighth.Goals as goal

pub returns : goal.returns
unfolding filter12
returns c =
    let a = c.args in
    let h = a.half in (
      sym (shr-sub 8 c.clamp.result h (omega arith))
          ∙ ap (λ z. shr_z z 8) (c.clamp.ensures.0 ∙ ap (filter4_clamp h) (sym (sub-plus a.f (8 * h) a.k))),
      omega arith,
    )
