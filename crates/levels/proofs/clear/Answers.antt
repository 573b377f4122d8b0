-- `clear` meets its contract: the library's fill of a part is a run of zeros.
use mathlib.Core.Path.{◌≡◌, ap, ◌∙◌}
use Prim.Native.Nat.{ℕ, ◌+◌, ◌-◌}
use native.Mathlib.Omega.{arith}
use lib.ListN.{length, take, drop, replicate, length-take, length-drop, length-replicate}
use Rattle.std.proofs.lemmas.Slice.{put_mid-paste}
use Rattle.levels.proofs.Fills.{stores-zeros}
use Rattle.levels.proofs.clear.Goals as goal

pub returns : goal.returns
returns c =
    let a = c.args in
    let e : length (take (a.at + a.n - a.at) (drop a.at a.values.now)) ≡ a.n = simp (length-take, length-drop) (omega arith) in
    put_mid-paste _ _ _ _ (replicate a.n 0) a.n (c.fill.ensures.after (λ y h. h) ∙ ap (λ (k : ℕ). replicate k 0) e)
    (omega arith) (simp length-replicate)
    ∙ stores-zeros a.at a.n a.values.now c.requires
