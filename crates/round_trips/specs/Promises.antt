-- What request (x) of document 02 promises of `read` and `write`, as theorems on their contracts alone.
--   SizedGiven g, Sized p     the lists are as long as the arrays that they stand for
--   Says g bs p rest          by 5.9.11 the bits bs say p, and rest is left
--   Writable g p              some bits say p
--   DeltaFault                what is wrong with one update bit u, where delta_update is m, and its delta, which was b before
--   Unwritable g p            what number 24 refuses, one by one
--   ones us n                 how many of the first n update bits are 1
--   bits_of g p               how many bits the steps of 5.9.11 take
--   ReadPromised              of an answer of `read`
--   WritePromised             of an answer of `write`: its number, its count, and the bytes before and after
--   Promises                  of all
use Rattle.std.specs.Prelude.{true, false, cond, List, [], ◌∷◌, ◌⊎◌, ◌≡◌, ℕ, zero, suc, ◌+◌, ◌-◌, ◌*◌, ◌<◌, ◌≤◌, eqb, ℤ, length, get_or, replicate, Result}
use Rattle.std.proofs.Math.Option.{some, none}
use Rattle.loops.specs.Exactly.{Exactly}
use Rattle.standard.specs.Header.{Bit, Given, is_off, default_refs, default_modes, has_chroma, parse}
use Rattle.standard.specs.declared.Params.{Params}
use Rattle.refusals.specs.declared.Refusal.{Refusal}
use Rattle.refusals.specs.Numbers.{answered}
use Rattle.units.specs.Layout.{Layout}
use Rattle.deltas.specs.Deltas.{delta, Outside}
use Rattle.limits.specs.Limits.{limits_of}
use Rattle.levels.specs.Levels.{levels_in, LevelsAnswer}
use Rattle.bit_place.specs.Place.{bit_at, places, bits_from}
use Rattle.params_read.specs.declared.Taken.{Taken}
use Rattle.params.specs.Calls.{ParamsAnswer, no_params, read_of, read_answer, count_of, WriteAnswer, Lent, ReadLent, WriteLent}
use Rattle.round_trips.specs.Witness.{before, header, place, header_params, changed, changed_params}

pub record SizedGiven (g : Given) : Type 0 where
  pub refs : length g.refs ≡ 8
  pub modes : length g.modes ≡ 2

pub record Sized (p : Params) : Type 0 where
  pub levels : length p.level ≡ 4
  pub ref-bits : length p.update_ref ≡ 8
  pub mode-bits : length p.update_mode ≡ 2
  pub refs : length p.ref_delta ≡ 8
  pub modes : length p.mode_delta ≡ 2

abbrev pub Says : Given → List Bit → Params → List Bit → Type 0
Says g bs p rest = parse g bs ≡ some (p, rest)

abbrev pub Writable : Given → Params → Type 0
Writable g p = (bs : List Bit) × (rest : List Bit) × Says g bs p rest

pub data DeltaFault (m u : ℕ) (b d : ℤ) : Type 0 where
  bit-above-1 : 1 < u → DeltaFault m u b d
  bit-without-update : m ≡ 0 → ¬ (u ≡ 0) → DeltaFault m u b d
  sent-outside : ¬ (u ≡ 0) → Outside 64 d → DeltaFault m u b d
  unsent-changed : u ≡ 0 → ¬ (d ≡ b) → DeltaFault m u b d

pub data Unwritable (g : Given) (p : Params) : Type 0 where
  -- no bits are sent
  off-level : is_off g ≡ true → (k : ℕ) → k < 4 → ¬ (get_or p.level k 0 ≡ 0) → Unwritable g p
  off-sharpness : is_off g ≡ true → ¬ (p.sharpness ≡ 0) → Unwritable g p
  off-enabled : is_off g ≡ true → ¬ (p.delta_enabled ≡ 0) → Unwritable g p
  off-update : is_off g ≡ true → ¬ (p.delta_update ≡ 0) → Unwritable g p
  off-ref-bit : is_off g ≡ true → (i : ℕ) → i < 8 → ¬ (get_or p.update_ref i 0 ≡ 0) → Unwritable g p
  off-mode-bit : is_off g ≡ true → (i : ℕ) → i < 2 → ¬ (get_or p.update_mode i 0 ≡ 0) → Unwritable g p
  off-ref : is_off g ≡ true → (i : ℕ) → i < 8 → ¬ (delta p.ref_delta i ≡ delta default_refs i) → Unwritable g p
  off-mode : is_off g ≡ true → (i : ℕ) → i < 2 → ¬ (delta p.mode_delta i ≡ delta default_modes i) → Unwritable g p
  -- bits are sent
  level-above-63 : is_off g ≡ false → (k : ℕ) → k < 4 → 63 < get_or p.level k 0 → Unwritable g p
  chroma-unsent : is_off g ≡ false → has_chroma g.planes (get_or p.level 0 0) (get_or p.level 1 0) ≡ false → (k : ℕ) → 2 ≤ k → k < 4 → ¬ (get_or p.level k 0 ≡ 0)
      → Unwritable g p
  sharpness-above-7 : is_off g ≡ false → 7 < p.sharpness → Unwritable g p
  enabled-above-1 : is_off g ≡ false → 1 < p.delta_enabled → Unwritable g p
  update-above-1 : is_off g ≡ false → 1 < p.delta_update → Unwritable g p
  update-not-enabled : is_off g ≡ false → p.delta_enabled ≡ 0 → ¬ (p.delta_update ≡ 0) → Unwritable g p
  ref-fault : is_off g ≡ false → (i : ℕ) → i < 8 → DeltaFault p.delta_update (get_or p.update_ref i 0) (delta g.refs i) (delta p.ref_delta i) → Unwritable g p
  mode-fault : is_off g ≡ false → (i : ℕ) → i < 2 → DeltaFault p.delta_update (get_or p.update_mode i 0) (delta g.modes i) (delta p.mode_delta i) → Unwritable g p

abbrev pub ones : List ℕ → ℕ → ℕ
ones us zero = 0
ones us (suc i) = ones us i + get_or us i 0

-- levels, chroma levels, sharpness and delta_enabled, delta_update, update bits and the deltas that they send
abbrev pub bits_of : Given → Params → ℕ
bits_of g p =
    cond (is_off g) 0
    (12
    + cond (has_chroma g.planes (get_or p.level 0 0) (get_or p.level 1 0)) 12 0
    + 4
    + p.delta_enabled
    + cond (eqb p.delta_update 1) (10 + 7 * (ones p.update_ref 8 + ones p.update_mode 2)) 0)

pub record ReadPromised (g : Given) (bytes : List ℕ) (at : ℕ) (a : ParamsAnswer) : Type 0 where
  -- the numbers, exactly when; so never 23 where no bits are sent
  pub short : Exactly (a.number ≡ 23) (parse g (bits_from bytes at) ≡ none)
  pub done : Exactly (a.number ≡ 0) (¬ (parse g (bits_from bytes at) ≡ none))
  pub off : is_off g ≡ true → a.number ≡ 0
  -- the parameters and the count of bits are the standard's
  pub value : a.number ≡ 0 → (rest : List Bit) × Says g (bits_from bytes at) a.params rest × (a.count + length rest ≡ length (bits_from bytes at))
  pub table : a.number ≡ 0 → a.count ≡ bits_of g a.params
  pub counted : a.number ≡ 0 → ((is_off g ≡ true) × (a.count ≡ 0)) ⊎ ((is_off g ≡ false) × (16 ≤ a.count) × (a.count ≤ 109))
  -- a refusal tells nothing else
  pub refused : a.number ≡ 23 → (a.count ≡ 0) × (a.params ≡ no_params)

pub record WritePromised (g : Given) (p : Params) (at r n : ℕ) (before after : List ℕ) : Type 0 where
  -- the numbers, exactly when: 24 where no bits say p, 23 where the room ends before they do
  pub unwritable : Exactly (r ≡ 24) (¬ Writable g p)
  pub listed : Exactly (r ≡ 24) (Unwritable g p)
  pub short : Exactly (r ≡ 23) ((bs : List Bit) × Says g bs p [] × (8 * length before - at < length bs))
  pub done : Exactly (r ≡ 0) ((bs : List Bit) × Says g bs p [] × (length bs ≤ 8 * length before - at))
  -- a refusal stores nothing
  pub refused : ¬ (r ≡ 0) → (after ≡ before) × (n ≡ 0)
  -- the bits are those that say p, and every other bit is as before
  pub table : r ≡ 0 → n ≡ bits_of g p
  pub bits : r ≡ 0 → (bs : List Bit) × Says g bs p [] × (length bs ≡ n) × (places (bit_at after) at n ≡ bs)
  pub long : length after ≡ length before
  pub in-front : (q : ℕ) → q < at → bit_at after q ≡ bit_at before q
  pub behind : (q : ℕ) → at + n ≤ q → bit_at after q ≡ bit_at before q

pub record Promises : Type 0 where
  -- uniqueness: two answers that a contract admits are equal, by value and in lent arrays
  pub unique-read : (g : Given) (bytes : List ℕ) (at : ℕ) (a b : ParamsAnswer) → a ≡ read_of g bytes at → b ≡ read_of g bytes at → a ≡ b
  pub unique-taken : (g : Given) (bytes : List ℕ) (at : ℕ) (a b : Result Taken Refusal) → read_answer a ≡ read_of g bytes at → read_answer b ≡ read_of g bytes at → a ≡ b
  pub unique-lent : (a : ParamsAnswer) (r q : ℕ) (before x y : Lent) → ReadLent a r before x → ReadLent a q before y → (r ≡ q) × (x ≡ y)
  pub unique-write : (g : Given) (p : Params) (at r q m n : ℕ) (before x y : List ℕ) → WriteAnswer g p at r m before x → WriteAnswer g p at q n before y → (r ≡ q) × (m ≡ n) × (x ≡ y)
  pub unique-counted : (g : Given) (p : Params) (at : ℕ) (a b : Result ℕ Refusal) (before x y : List ℕ)
      → WriteAnswer g p at (answered a) (count_of a) before x → WriteAnswer g p at (answered b) (count_of b) before y → (a ≡ b) × (x ≡ y)
  pub unique-written : (g : Given) (p : Params) (at r q : ℕ) (before x y counted m n : List ℕ) → WriteLent g p at r before x counted m → WriteLent g p at q before y counted n
      → (r ≡ q) × (m ≡ n) × (x ≡ y)
  -- the answer by value is what lent arrays hold
  pub lent-write : (g : Given) (p : Params) (at r : ℕ) (before after counted counts : List ℕ) → WriteLent g p at r before after counted counts
      → (n : ℕ) × WriteAnswer g p at r n before after × (counts ≡ cond (eqb r 0) (n ∷ []) counted)
  pub each_read : (g : Given) (bytes : List ℕ) (at : ℕ) (a : ParamsAnswer) → SizedGiven g → a ≡ read_of g bytes at → ReadPromised g bytes at a
  pub each_write : (g : Given) (p : Params) (at r n : ℕ) (before after : List ℕ) → SizedGiven g → Sized p → WriteAnswer g p at r n before after
      → WritePromised g p at r n before after
  -- what is read has the sizes of the arrays
  pub sized : (g : Given) (bytes : List ℕ) (at : ℕ) → SizedGiven g → Sized (read_of g bytes at).params
  -- read, then written: the same bits, at any place of any bytes with room
  pub read-write : (g : Given) (bytes : List ℕ) (at : ℕ) (a : ParamsAnswer) (to r n : ℕ) (before after : List ℕ) → SizedGiven g
      → a ≡ read_of g bytes at → a.number ≡ 0 → WriteAnswer g a.params to r n before after → a.count ≤ 8 * length before - to
      → (r ≡ 0) × (n ≡ a.count) × (places (bit_at after) to n ≡ places (bit_at bytes) at n)
  -- written, then read: the same values
  pub write_read : (g : Given) (p : Params) (at n : ℕ) (before after : List ℕ) (a : ParamsAnswer) → SizedGiven g → Sized p
      → WriteAnswer g p at 0 n before after → a ≡ read_of g after at → (a.number ≡ 0) × (a.count ≡ n) × (a.params ≡ p)
  -- what is read is taken on: its sharpness by `limits`, its levels and deltas by `levels`, where the deltas before were in range
  pub taken-limits : (g : Given) (bytes : List ℕ) (at : ℕ) (a : ParamsAnswer) → SizedGiven g → a ≡ read_of g bytes at → a.number ≡ 0
      → (limits_of a.params.sharpness).number ≡ 0
  pub taken-levels : (g : Given) (bytes : List ℕ) (at : ℕ) (a : ParamsAnswer) (layout multi segmentation : ℕ) (lf seg : List ℤ) (r : ℕ) (values after : List ℕ) → SizedGiven g
      → a ≡ read_of g bytes at → a.number ≡ 0 → Layout layout → (layout ≡ 400 → g.planes ≤ 1)
      → ((i : ℕ) → i < 8 → ¬ Outside 64 (delta g.refs i)) → ((i : ℕ) → i < 2 → ¬ Outside 64 (delta g.modes i))
      → ((k : ℕ) → k < 4 → ¬ Outside 63 (delta lf k)) → ((i : ℕ) → i < 32 → ¬ Outside 63 (delta seg i))
      → LevelsAnswer layout (levels_in a.params.level a.params.delta_enabled a.params.ref_delta a.params.mode_delta multi lf segmentation seg) r values after
      → r ≡ 0
  -- a real header is read, and one with deltas that are sent; what is read of that goes into bytes at another place, and changes them
  pub real : read_of before header place ≡ record { number = 0; count = 29; params = header_params }
  pub sent : read_of before changed 3 ≡ record { number = 0; count = 60; params = changed_params }
  pub trip : (after : List ℕ) × WriteAnswer before changed_params 13 0 60 (replicate 10 170) after × (¬ (after ≡ replicate 10 170))
