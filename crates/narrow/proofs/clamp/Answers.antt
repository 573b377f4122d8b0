-- The clamp is the standard's, with the offset 8 * half: below, within and above its range.
use Rattle.std.proofs.Common.{◌≡◌, ℕ, ◌*◌, Bool, true, false, ltb, sym, refl, ap, ◌∙◌, arith, ltb-true, ltb-false}
use Rattle.std.proofs.Math.IntN.{sub_ℕ}
use Rattle.standard.specs.Narrow.{filter4_clamp}
use Rattle.loops.proofs.Ints.{sub-eq}
use Rattle.line.proofs.Narrow.{clamp-low, clamp-mid, clamp-high}
use Rattle.narrow.proofs.clamp.Goals as goal

pub returns : goal.returns
returns c = (go (ltb v (7 * h)) refl (ltb v (9 * h)) refl, omega arith, omega arith)
  where
    h : ℕ
    h = c.args.half

    v : ℕ
    v = c.args.v

    go : (a : Bool) → ltb v (7 * h) ≡ a → (b : Bool) → ltb v (9 * h) ≡ b → sub_ℕ c.clamp.result (8 * h) ≡ filter4_clamp h (sub_ℕ v (8 * h))
    go true e b f =
        let l = ltb-true _ _ e in sub-eq c.clamp.result (8 * h) 0 h (omega arith) ∙ sym (clamp-low h v (8 * h) (omega arith))
    go false e true f =
        let l = ltb-false _ _ e in
        let m = ltb-true _ _ f in
        let k : c.clamp.result ≡ v = omega arith in
        ap (λ w. sub_ℕ w (8 * h)) k ∙ sym (clamp-mid h v (8 * h) (omega arith) (omega arith))
    go false e false f =
        let m = ltb-false _ _ f in
        sub-eq c.clamp.result (8 * h) h 1 (omega arith) ∙ sym (clamp-high h v (8 * h) (omega arith) (omega arith))
