-- The text of a fault, of a line that is missing, or the list.
use Rattle.std.proofs.Common.{arith, ◌+◌, ◌∙◌, ℕ, subst, sym}
use Rattle.list_text.specs.Text.{refused_text, Put}
use Rattle.list_call.proofs.OutputFits.{form-short, refused-short}
use Rattle.list_call.proofs.Texts.{form-texted, refused-texted, early-texted, list-texted}
use Rattle.list_call.proofs.put_text.Goals as goal

pub put_form-requires : goal.put_form-requires
put_form-requires c = omega (arith, form-short c.args.s.line (omega arith))

pub put_refused-requires : goal.put_refused-requires
put_refused-requires c =
    omega (arith, refused-short c.args.s.line c.from-then-s-ne0.result (omega arith) (omega (arith, c.from-then-s-ne0.ensures)))

pub put_form-requires-then-s : goal.put_form-requires-then-s
put_form-requires-then-s c = omega (arith, form-short (c.from-then-s.result + 1) (omega (arith, c.from-then-s.ensures)))

pub returns-then-s-from : goal.returns-then-s-from
returns-then-s-from c =
    form-texted _ _ _ _ _ _ (c.put_form.new.self.long ∙ sym c.args.text.now.long) (omega arith) (c.if-s-from.true ∙ c.from.ensures) c.put_form.ensures

pub returns-then-s-ne0 : goal.returns-then-s-ne0
returns-then-s-ne0 c =
    refused-texted _ _ _ _ _ _ (c.put_refused.new.self.long ∙ sym c.args.text.now.long) (omega arith) (omega arith)
    (λ z. c.if-s-from.false (z ∙ sym c.from.ensures)) c.if-s-ne0.true
    (subst (λ (k : ℕ). Put c.args.text.now.bytes 0 (refused_text c.args.s.line k) c.put_refused.new.self.bytes c.put_refused.new.self.len) c.from-then-s-ne0.ensures c.put_refused.ensures)

pub returns-then-s : goal.returns-then-s
returns-then-s c =
    early-texted _ _ _ _ _ _ (c.put_form-then-s.new.self.long ∙ sym c.args.text.now.long) c.if-s-ne0.false (sym c.from-then-s.ensures) (omega (arith, c.from-then-s.ensures, c.if-s.true)) c.put_form-then-s.ensures

pub returns-then-s-le256-2 : goal.returns-then-s-le256-2
returns-then-s-le256-2 c =
    list-texted _ _ _ _ _ _ (c.put_edges.new.text.long ∙ sym c.args.text.now.long) c.if-s-ne0.false c.if-s.false c.put_edges.ensures
