-- Loop filter params syntax, 5.9.11, read off a list of bits. It knows of no bytes and no places.
--   Bit, worth b          a bit, and the number 0 or 1 that it is
--   Reader A              a piece of syntax: what it says and the bits that are left, or none where the bits run out
--   gives a               no bits; a is said
--   next, _>>=_           one piece after another; what the first says decides what the second is
--   one_bit, f n           4.10.2: n bits as a number, the first the highest
--   su_of v, su7           su(1+6), 4.10.6: f(7), less 128 from 64 on
--   Given, given          what the syntax asks for beside the bits
--   is_off g               no bits are sent
--   default_refs, default_modes, off    what holds then: the standard's defaults
--   has_chroma n l0 l1     with n planes and these luma levels the chroma levels are sent
--   levels n              loop_filter_level
--   flag b                a bit that is sent where b
--   updated d             one update bit, and its delta: d stays where it is not sent
--   updates ds n          the first n of them
--   deltas u ds n         and only where u is 1
--   params_of              the parameters, of levels, sharpness, delta_enabled, delta_update, and update bits and deltas of references and modes
--   sent g                all fields, where bits are sent
--   parse g               loop_filter_params( )
-- A reference is counted INTRA, LAST, LAST2, LAST3, GOLDEN, BWDREF, ALTREF2, ALTREF.
use Rattle.std.specs.Prelude.{Bool, not, cond, ◌&&◌, ◌||◌, List, [], ◌∷◌, ◌++◌, ℕ, zero, suc, ◌+◌, ◌*◌, eqb, ltb, ℤ, pos, negsuc, get_or, replicate}
use Rattle.std.proofs.Math.Option.{Option, some, none}
use Rattle.std.proofs.Math.IntN.{sub_ℕ}
use Rattle.standard.specs.declared.Params.{Params}

abbrev pub Bit : Type 0
Bit = Bool

abbrev pub worth : Bit → ℕ
worth b = cond b 1 0

abbrev pub Reader : Type 0 → Type 0
Reader A = List Bit → Option (A × List Bit)

abbrev pub gives : {A : Type 0} → A → Reader A
gives a bs = some (a, bs)

abbrev pub next : {A B : Type 0} → Option (A × List Bit) → (A → Reader B) → Option (B × List Bit)
next none q = none
next (some r) q = q r.0 r.1

infixr 10 ◌>>=◌
unfoldable pub ◌>>=◌ : {A B : Type 0} → Reader A → (A → Reader B) → Reader B
(p >>= q) bs = next (p bs) q

abbrev pub one_bit : Reader Bit
one_bit [] = none
one_bit (b ∷ bs) = some (b, bs)

-- x = 2 * x + read_bit( )
unfoldable pub f : ℕ → Reader ℕ
f zero = gives 0
f (suc n) = f n >>= λ x. one_bit >>= λ b. gives (2 * x + worth b)

abbrev pub su_of : ℕ → ℤ
su_of v = cond (ltb v 64) (pos v) (sub_ℕ v 128)

unfoldable pub su7 : Reader ℤ
su7 = f 7 >>= λ v. gives (su_of v)

pub record Given : Type 0 where
  -- NumPlanes, CodedLossless, allow_intrabc
  pub planes : ℕ
  pub lossless : Bool
  pub intrabc : Bool
  -- loop_filter_ref_deltas and loop_filter_mode_deltas as they are before
  pub refs : List ℤ
  pub modes : List ℤ

abbrev pub given : ℕ → Bool → Bool → List ℤ → List ℤ → Given
given planes lossless intrabc refs modes = record { planes = planes; lossless = lossless; intrabc = intrabc; refs = refs; modes = modes }

abbrev pub is_off : Given → Bool
is_off g = g.lossless || g.intrabc

abbrev pub default_refs : List ℤ
default_refs = pos 1 ∷ pos 0 ∷ pos 0 ∷ pos 0 ∷ negsuc 0 ∷ pos 0 ∷ negsuc 0 ∷ negsuc 0 ∷ []

abbrev pub default_modes : List ℤ
default_modes = pos 0 ∷ pos 0 ∷ []

abbrev pub off : Params
off = record {
  level = replicate 4 0;
  sharpness = 0;
  delta_enabled = 0;
  delta_update = 0;
  update_ref = replicate 8 0;
  update_mode = replicate 2 0;
  ref_delta = default_refs;
  mode_delta = default_modes;
}

abbrev pub has_chroma : ℕ → ℕ → ℕ → Bool
has_chroma planes l0 l1 = ltb 1 planes && (not (eqb l0 0) || not (eqb l1 0))

unfoldable pub levels : ℕ → Reader (List ℕ)
levels planes =
    f 6 >>= λ l0. f 6 >>= λ l1.
    cond (has_chroma planes l0 l1) (f 6 >>= λ l2. f 6 >>= λ l3. gives (l0 ∷ l1 ∷ l2 ∷ l3 ∷ [])) (gives (l0 ∷ l1 ∷ 0 ∷ 0 ∷ []))

abbrev pub flag : Bool → Reader ℕ
flag b = cond b (f 1) (gives 0)

unfoldable pub updated : ℤ → Reader (ℕ × ℤ)
updated d = f 1 >>= λ u. cond (eqb u 1) (su7 >>= λ e. gives (u, e)) (gives (u, d))

unfoldable pub updates : List ℤ → ℕ → Reader (List ℕ × List ℤ)
updates ds zero = gives ([], [])
updates ds (suc i) = updates ds i >>= λ l. updated (get_or ds i (pos 0)) >>= λ x. gives (l.0 ++ (x.0 ∷ []), l.1 ++ (x.1 ∷ []))

unfoldable pub deltas : ℕ → List ℤ → ℕ → Reader (List ℕ × List ℤ)
deltas u ds n = cond (eqb u 1) (updates ds n) (gives (replicate n 0, ds))

abbrev pub params_of : List ℕ → ℕ → ℕ → ℕ → List ℕ × List ℤ → List ℕ × List ℤ → Params
params_of l s e u r m = record {
  level = l;
  sharpness = s;
  delta_enabled = e;
  delta_update = u;
  update_ref = r.0;
  update_mode = m.0;
  ref_delta = r.1;
  mode_delta = m.1;
}

unfoldable pub sent : Given → Reader Params
sent g =
    levels g.planes >>= λ l. f 3 >>= λ s. f 1 >>= λ e. flag (eqb e 1) >>= λ u.
    deltas u g.refs 8 >>= λ r. deltas u g.modes 2 >>= λ m. gives (params_of l s e u r m)

unfoldable pub parse : Given → Reader Params
parse g = cond (is_off g) (gives off) (sent g)
