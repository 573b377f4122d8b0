-- `calc_area` meets its contract: the callee's sixteen values are the area's, by the laws of Sixteen.
use Rattle.levels.proofs.Sixteen.{luma-area, chroma-area}
use Rattle.levels.proofs.Header.calc_area.Goals as goal

pub returns-then-k-lt2 : goal.returns-then-k-lt2
returns-then-k-lt2 c =
    luma-area _ _ _ _ c.lf_of-d.ensures.0 c.seg_of-f.ensures.0 _ _ _
    c.if-k-lt2.true c.calc_lf_value.ensures

pub returns : goal.returns
returns c =
    chroma-area _ _ _ _ c.lf_of-d.ensures.0 c.seg_of-f.ensures.0 _ _ _
    c.if-k-lt2.false c.calc_lf_value_chroma.ensures
