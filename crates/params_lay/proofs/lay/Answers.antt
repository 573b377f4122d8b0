-- `lay` meets its contract: levels, switches and deltas are laid one behind the other.
use mathlib.Core.List.{◌++◌}
use mathlib.Core.Path.{◌≡◌, sym, ap, ◌∙◌}
use Prim.Native.Nat.{ℕ, ◌+◌, ◌*◌}
use native.Mathlib.Omega.{arith}
use borrow.Author.Rules.{rules}
use lib.ListN.{length, get_or, length-append}
use Rattle.bit_place.specs.Place.{digits, laid}
use Rattle.params_lay.specs.Print.{levels_digits, switch_digits, deltas_digits, printed}
use Rattle.params_lay.proofs.Layings.{laid-step, length-levels, length-switches, length-few, length-printed}
use borrow.Author.Rules.{rules}
use Rattle.params_lay.proofs.lay.Goals as goal

pub lay_levels-requires : goal.lay_levels-requires
lay_levels-requires c =
    let bits = c.chroma_bits-n.ensures in
    (bits.1, omega (arith, bits.0, length-printed c.args.planes c.args.p, c.requires.1))

pub lay_switches-requires : goal.lay_switches-requires
lay_switches-requires c =
    let bits = c.chroma_bits-n.ensures in
    let kept : length c.lay_levels.new.bytes ≡ length c.args.bytes.now = search rules in
    (omega (arith, bits.1), c.requires.0.enabled, omega (arith, kept, bits.0, length-printed c.args.planes c.args.p, c.requires.1))

pub lay_deltas-m-requires : goal.lay_deltas-m-requires
lay_deltas-m-requires c =
    let one = c.requires.0 in
    let bits = c.chroma_bits-n.ensures in
    let u = c.from-u.ensures in
    let e = c.from.ensures in
    let long = c.well_formed.1.1.1.0.1.1.1.1.1.1.0.1.0.1 in
    let long-delta = c.well_formed.1.1.1.0.1.1.1.1.1.1.1.1.0.1.0.1 in
    let kept : length c.lay_levels.new.bytes ≡ length c.args.bytes.now = search rules in
    let kept₁ : length c.lay_switches.new.bytes ≡ length c.lay_levels.new.bytes = search rules in (
      omega (arith, bits.1, one.enabled, e),
      omega (arith, one.update, u),
      omega (arith, one.update, u, long),
      omega (arith, one.update, u, long-delta),
      λ i h. one.refs i (omega (arith, h, one.update, u)),
      rw u (omega (arith, e, kept, kept₁, bits.0, length-printed c.args.planes c.args.p, c.requires.1)),
    )

pub lay_deltas-requires : goal.lay_deltas-requires
lay_deltas-requires c =
    let one = c.requires.0 in
    let bits = c.chroma_bits-n.ensures in
    let u = c.from-u.ensures in
    let e = c.from.ensures in
    let refs = rw u at c.lay_deltas-m.ensures.0 in
    let long = c.well_formed.1.1.1.0.1.1.1.1.1.1.1.0.1.0.1 in
    let long-delta = c.well_formed.1.1.1.0.1.1.1.1.1.1.1.1.1.0.1.0.1 in
    let kept : length c.lay_levels.new.bytes ≡ length c.args.bytes.now = search rules in
    let kept₁ : length c.lay_switches.new.bytes ≡ length c.lay_levels.new.bytes = search rules in
    let kept₂ : length c.lay_deltas-m.new.bytes ≡ length c.lay_switches.new.bytes = search rules in
    let few = length-few c.args.p.update_ref c.args.p.ref_delta (8 * c.args.p.delta_update) (λ i h. one.refs i (omega (arith, h, one.update, u))) in (
      omega (arith, e, bits.1, one.enabled, one.update, refs, few),
      omega (arith, one.update, u),
      omega (arith, one.update, u, long),
      omega (arith, one.update, u, long-delta),
      λ i h. one.modes i (omega (arith, h, one.update, u)),
      rw u (omega (arith, e, kept, kept₁, kept₂, refs, bits.0, length-printed c.args.planes c.args.p, c.requires.1)),
    )

pub returns : goal.returns
unfolding printed
returns c =
    let a = c.args in
    let p = a.p in
    let w = a.bytes.now in
    let n = c.chroma_bits-n.result in
    let bits = c.chroma_bits-n.ensures.0 in
    let l = levels_digits a.planes p.level in
    let s = switch_digits p.sharpness p.delta_enabled p.delta_update in
    let r = deltas_digits p.update_ref p.ref_delta (8 * p.delta_update) in
    let m = deltas_digits p.update_mode p.mode_delta (2 * p.delta_update) in
    let refs = c.lay_deltas-m in
    let u = c.from-u.ensures in
    let e = c.from.ensures in
    let long : length l ≡ 12 + 2 * n = length-levels a.planes p.level ∙ ap (λ (k : ℕ). 12 + 2 * k) (sym bits) in
    let long₁ = length-switches p.sharpness p.delta_enabled p.delta_update in
    let one = c.lay_levels.ensures
    ∙ ap (λ (k : ℕ). laid (digits 6 (get_or p.level 0 0) ++ digits 6 (get_or p.level 1 0) ++ digits k (get_or p.level 2 0) ++ digits k (get_or p.level 3 0)) a.at w) bits in
    let two = laid-step l s a.at (a.at + (12 + 2 * n)) w c.lay_levels.new.bytes c.lay_switches.new.bytes one (omega (arith, long)) c.lay_switches.ensures in
    let three = laid-step (l ++ s) r a.at (a.at + (12 + 2 * n + 4 + p.delta_enabled)) w c.lay_switches.new.bytes refs.new.bytes two
    (omega (arith, long, long₁, length-append l s)) (rw (u, e) at refs.ensures.1) in
    laid-step (l ++ s ++ r) m a.at (a.at + refs.result) w refs.new.bytes c.lay_deltas.new.bytes three
    (omega (arith, long, long₁, length-append l s, length-append (l ++ s) r, e, rw u at refs.ensures.0)) (rw u at c.lay_deltas.ensures.1)
