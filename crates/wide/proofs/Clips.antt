-- The clipped number is an end of the range, or the number itself: by the tests of Clip3.
use mathlib.Core.Path.{◌≡◌, refl}
use Prim.Native.Nat.{ℕ, ◌≤◌, ◌<◌}
use borrow.Author.Tests.{lt-ltb, le-ltb}
use Rattle.standard.specs.Math.{Clip3, clip}

pub clip-low : (lo hi v : ℕ) → v < lo → clip lo hi v ≡ lo
unfolding Clip3
clip-low lo hi v h = rw (lt-ltb v lo h) refl

pub clip-mid : (lo hi v : ℕ) → lo ≤ v → v ≤ hi → clip lo hi v ≡ v
unfolding Clip3
clip-mid lo hi v a b = rw (le-ltb v lo a, le-ltb hi v b) refl

pub clip-high : (lo hi v : ℕ) → lo ≤ v → hi < v → clip lo hi v ≡ hi
unfolding Clip3
clip-high lo hi v a b = rw (le-ltb v lo a, lt-ltb hi v b) refl
