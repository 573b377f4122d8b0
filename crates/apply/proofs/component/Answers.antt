-- `component` meets its contract, field by field.
use Rattle.apply.proofs.component.Goals as goal

pub luma_units-requires : goal.luma_units-requires
luma_units-requires c = c.requires.width.1

pub luma_units-requires-2 : goal.luma_units-requires-2
luma_units-requires-2 c = c.requires.height.1

pub returns : goal.returns
returns c =
    let a = c.args in
    (λ q. record {
      plane = a.plane;
      ss_hor = c.plane_ss_hor.ensures q;
      ss_ver = c.plane_ss_ver.ensures q;
      w4 = record { 0 = c.luma_units.ensures q };
      h4 = record { 0 = c.luma_units-2.ensures q };
      sb4 = record { 0 = c.superblock_units.ensures q };
      stride = c.stride_of.ensures q;
      level_stride = a.c.level_stride;
    })
