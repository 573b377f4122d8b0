-- The walk's loop: its invariant says that the bit has moved k places and that the places before k are visited; past the last set place
-- nothing is left.
use Rattle.std.proofs.Common.{◌≡◌, ℕ, ◌+◌, ◌-◌, ◌*◌, ◌%◌, ◌^◌, ◌<◌, ◌≤◌, Bool, true, false, cond, eqb, ltb, ◌≢◌, List, sym, refl, ap, ◌∙◌, mod-eq_of_lt, arith}
use lib.Bits.{bit_and, or_lt}
use lib.Pow.{pow-lt}
use Rattle.bits.specs.Bit.{has_bit}
use Rattle.bits.specs.Walk.{visits}
use Rattle.bits.proofs.Walks.{visits-none, visits-set, visits-clear, visits-stop, walk-on, walk-off, walk-next, word_set, word-clear}
use Rattle.line.specs.Width.{Width, reads}
use Rattle.piece.specs.Samples.{PieceUnder}
use Rattle.view.specs.Level.{level_used}
use Rattle.walk.specs.declared.UnitLine.{UnitLine}
use Rattle.walk.specs.Walk.{highest, len_in, set_in, len_at, level_at, index_at, visit, visit_at, walked}
use Rattle.walk.specs.Ready.{Walkable, InRange}
use Rattle.walk.proofs.WidthsThresholds.{width}
use Rattle.walk.proofs.Ranges.{next-below}

pub record Moved (depth : ℕ) (e i levels : List ℕ) (u : UnitLine) (s₀ s : List ℕ) (xy k : ℕ) : Type 0 where
  pub few : k ≤ 32
  pub bit : xy ≡ 2 ^ k % 2 ^ 32
  pub done : s ≡ visits k (set_in u) (visit_at depth e i levels u) s₀

pub start : (depth : ℕ) (e i levels : List ℕ) (u : UnitLine) (s : List ℕ) → Moved depth e i levels u s s 1 0
start depth e i levels u s = record { few = omega arith; bit = refl; done = sym (visits-none _ _ _) }

low : (a b : ℕ) → a ≤ 63 → b ≤ 63 → level_used a b < 64
low a b h g = go (eqb a 0)
  where
    go : (z : Bool) → cond z b a < 64
    go true = omega arith
    go false = omega arith

module _ {depth : ℕ} {e i levels : List ℕ} {u : UnitLine} {s₀ s : List ℕ} {xy k : ℕ} (v : Moved depth e i levels u s₀ s xy k) where
  pub masks-fit : u.m0 < 2 ^ 32 → u.m1 < 2 ^ 32 → u.m2 < 2 ^ 32 → set_in u < 2 ^ 32
  masks-fit a b c = or_lt 32 _ _ (or_lt 32 _ _ a b) c

  module _ (hv : set_in u < 2 ^ 32) (hx : xy < 2 ^ 32) where
    -- the bit less 1, which wraps for the bit shifted out
    abbrev less : ℕ
    less = (xy + (2 ^ 32 - 1)) % 2 ^ 32

    less-fits : less < 2 ^ 32
    less-fits = omega arith

    less-next : (less + 1) % 2 ^ 32 ≡ xy
    less-next = omega arith

    -- in a turn the place is below 32
    pub turn : bit_and (set_in u) ((2 ^ 32 - 1) - less) ≢ 0 → k < 32
    turn t = walk-on (set_in u) k xy less hv v.few v.bit less-fits less-next t

    pub finished : bit_and (set_in u) ((2 ^ 32 - 1) - less) ≡ 0 → s ≡ walked depth e i levels u s₀
    unfolding walked
    finished t =
        v.done
        ∙ sym (visits-stop (visit_at depth e i levels u) (set_in u) s₀ 32 k v.few (walk-off (set_in u) k xy less hv v.few v.bit less-fits less-next t))

  module _ (few : k < 32) where
    pub len_is : (c wd : ℕ) → ((n : ℕ) → xy ≡ 2 ^ n → c ≡ highest u.m1 u.m2 n) → wd ≡ len_in u.classes c → wd ≡ len_at u k
    len_is c wd h ew = ew ∙ ap (len_in u.classes) (h k (v.bit ∙ mod-eq_of_lt (pow-lt few)))

    -- one place on
    next : (s' : List ℕ) → s' ≡ visits (k + 1) (set_in u) (visit_at depth e i levels u) s₀ → Moved depth e i levels u s₀ s' ((xy * 2 ^ 1) % 2 ^ 32) (k + 1)
    next s' es = record { few = omega arith; bit = walk-next k xy v.bit; done = es }

    pub on-clear : (s' : List ℕ) → bit_and (set_in u) xy ≡ 0 → s' ≡ s → Moved depth e i levels u s₀ s' ((xy * 2 ^ 1) % 2 ^ 32) (k + 1)
    on-clear s' z es = next s' (es ∙ v.done ∙ sym (visits-clear _ _ _ k (word-clear k xy few v.bit (set_in u) z)))

    module _ (z : bit_and (set_in u) xy ≢ 0) where
      pub is_set : has_bit (set_in u) k ≡ true
      is_set = word_set k xy few v.bit (set_in u) z

      module _ (wd l p : ℕ) (ew : wd ≡ len_at u k) (el : l ≡ level_at levels u k) (ep : p ≡ index_at u k) where
        pub asked : {size top : ℕ} → 8 ≤ depth → Walkable levels u size → (2 ^ depth < top → InRange (2 ^ depth) u s₀)
            → Width wd × (l < 64) × (reads wd * u.sample_step ≤ p) × (p + 3 * u.line_step + (reads wd - 1) * u.sample_step < size)
            × (2 ^ depth < top → PieceUnder (2 ^ depth) (reads wd) u.line_step u.sample_step p s)
        asked d ok b =
            let g = ok.ready k is_set in
            rw (ew, el, ep) (
              width (ltb 2 u.classes) (highest u.m1 u.m2 k),
              low _ _ g.level g.before,
              g.from,
              g.to,
              λ h. rw v.done (next-below depth e i levels u s₀ d ok (b h) k is_set),
            )

        pub on-set : (s' : List ℕ) → s' ≡ visit depth e i u.line_step u.sample_step wd l p s → Moved depth e i levels u s₀ s' ((xy * 2 ^ 1) % 2 ^ 32) (k + 1)
        on-set s' es = next s' (es ∙ rw (ew, el, ep, v.done) (sym (visits-set _ _ _ k is_set)))
