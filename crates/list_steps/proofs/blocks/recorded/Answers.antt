-- Each context is lent from the cut place on, and what `record_intra` ensures of the parts is the definition.
use Rattle.std.proofs.Common.{rules, ◌≡◌, ◌∙◌, Err, ap, sym}
use mir.Val.{bool_byte}
use Rattle.refusals.specs.Numbers.{answered}
use Rattle.list_steps.specs.State.{state_is}
use Rattle.list_steps.specs.Steps.{after_line, block_of, kept_of, refused}
use Rattle.list_steps.specs.declared.Fault.TheVariants.{Refused}
use Rattle.list_steps.proofs.Contexts.{block_refused, block-done, of-chroma, rounded-up}
use Rattle.list_steps.proofs.Faults.{refused-some}
use Rattle.list_steps.proofs.blocks.recorded.Goals as goal

pub returns-in_err-record_intra : goal.returns-in_err-record_intra
returns-in_err-record_intra c =
    let g = c.args in
    let b = g.b in
    let e : c.from_residual.result ≡ Err (Refused c.in_err-record_intra.field-0.0) = search rules in
    block_refused g.c g.levels.now g.masks.now (block_of (state_is g.c.state) b.x b.y b.size b.tx c.from.result c.unwrap_or.result)
    (c.div_ceil.ensures ∙ rounded-up g.c.state.width)
    (c.min-ax.ensures, search rules)
    (c.min-ly.ensures, search rules)
    (c.across-ux.ensures, search rules)
    (c.down-vy.ensures, search rules)
    c.record_intra.ensures (λ z. refused-some _ (ap answered (sym c.in_err-record_intra.was) ∙ z))
    (ap (after_line g.c c.record_intra.new.levels c.record_intra.new.masks) e
    ∙ ap (λ r. refused (kept_of g.c c.record_intra.new.levels c.record_intra.new.masks) (answered r)) (sym c.in_err-record_intra.was))
    ∙ of-chroma (kept_of g.c g.levels.now g.masks.now) (state_is g.c.state) b (c.from.ensures ∙ ap bool_byte c.is_some.ensures) c.unwrap_or.ensures

pub returns : goal.returns
returns c =
    let g = c.args in
    let b = g.b in
    block-done g.c g.levels.now g.masks.now (block_of (state_is g.c.state) b.x b.y b.size b.tx c.from.result c.unwrap_or.result)
    (c.div_ceil.ensures ∙ rounded-up g.c.state.width)
    (c.min-ax.ensures, search rules)
    (c.min-ly.ensures, search rules)
    (c.across-ux.ensures, search rules)
    (c.down-vy.ensures, search rules)
    c.record_intra.ensures (ap answered c.in_ok-record_intra.was)
    ∙ of-chroma (kept_of g.c g.levels.now g.masks.now) (state_is g.c.state) b (c.from.ensures ∙ ap bool_byte c.is_some.ensures) c.unwrap_or.ensures
