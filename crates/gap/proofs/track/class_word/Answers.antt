-- `class_word` meets its contract: a class has its words among those of the unit, and chroma has no class 2.
use mathlib.Core.Path.{◌≡◌, ap}
use Prim.Native.Nat.{ℕ, ◌*◌}
use native.Mathlib.Omega.{arith}
use Rattle.gap.proofs.StoredWords.{some-class, few-classes, class-word, no-class}
use Rattle.gap.proofs.track.class_word.Goals as goal

-- the words before the unit
before : (w i u : ℕ) → w ≡ u → w * i ≡ u * i
before w i u = ap (λ (n : ℕ). n * i)

pub returns-then-luma : goal.returns-then-luma
returns-then-luma c =
    let a = c.args in
    class-word a.masks.now a.luma a.halves a.at a.i a.c _ _ c.unit_words.ensures
    (some-class a.luma a.c c.if-luma.true (omega arith)) c.word.ensures

pub returns-then-c-lt2 : goal.returns-then-c-lt2
returns-then-c-lt2 c =
    let a = c.args in
    class-word a.masks.now a.luma a.halves a.at a.i a.c _ _ c.unit_words.ensures
    (few-classes a.luma a.c (omega arith)) c.word-then-c-lt2.ensures

pub returns : goal.returns
returns c =
    let a = c.args in
    no-class a.masks.now a.luma a.halves a.at a.i a.c c.if-luma.false (omega arith)
