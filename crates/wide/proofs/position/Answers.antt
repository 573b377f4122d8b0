-- The position is clipped: a case for each of Clip3.
use Rattle.std.proofs.Common.{◌≡◌, ℕ, ◌+◌, ◌-◌, Bool, true, false, ltb, refl, sym, ◌∙◌, arith, ltb-true, ltb-false}
use Rattle.standard.specs.Math.{clip}
use Rattle.wide.proofs.Clips.{clip-low, clip-mid, clip-high}
use Rattle.wide.proofs.position.Goals as goal

pub returns : goal.returns
returns c = go (ltb v least) refl (ltb most v) refl
  where
    v : ℕ
    v = c.args.k + c.args.j - c.args.n

    least : ℕ
    least = 8 - (c.args.n + 1)

    most : ℕ
    most = 8 + c.args.n

    go : (a : Bool) → ltb v least ≡ a → (b : Bool) → ltb most v ≡ b → c.clamp.result - c.args.n ≡ clip least most v
    go true e b f =
        let l = ltb-true _ _ e in
        let k : c.clamp.result - c.args.n ≡ least = omega arith in
        k ∙ sym (clip-low least most v l)
    go false e true f =
        let l = ltb-false _ _ e in
        let m = ltb-true _ _ f in
        let k : c.clamp.result - c.args.n ≡ most = omega arith in
        k ∙ sym (clip-high least most v l m)
    go false e false f =
        let l = ltb-false _ _ e in
        let m = ltb-false _ _ f in
        let k : c.clamp.result - c.args.n ≡ v = omega arith in
        k ∙ sym (clip-mid least most v l m)
