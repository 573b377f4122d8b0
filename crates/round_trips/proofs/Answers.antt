-- One answer of `read`, one of `write`, and there and back: what is read is what is printed, so an answer is settled by the bits that say the parameters.
use mathlib.Core.Bool.{Bool, true, false, cond, true≢false}
use mathlib.Core.List.{List, [], ◌++◌, append-nil}
use mathlib.Core.Logic.{◌⊎◌, inl, inr}
use mathlib.Core.Option.{Option, some, none, none-ne-some}
use mathlib.Core.Path.{◌≡◌, refl, sym, ap, ◌∙◌}
use Prim.Native.Nat.{ℕ, ◌+◌, ◌-◌, ◌*◌, ◌<◌, ◌≤◌}
use native.Mathlib.Decide.{ℕ_discrete}
use native.Mathlib.Omega.{arith}
use borrow.Author.Tests.{eq-eqb, ne_eqb, lt-ltb, le-ltb, ltb-true, ltb-false}
use lib.Dec.{ltb}
use lib.ListN.{length, get_or, length-append}
use Rattle.loops.specs.Exactly.{Exactly}
use Rattle.loops.proofs.Reflected.{exactly-then}
use Rattle.standard.specs.Header.{Bit, Given, is_off, has_chroma, parse}
use Rattle.standard.specs.declared.Params.{Params}
use Rattle.bit_place.specs.Place.{bit_at, places, bits_from, laid}
use Rattle.bit_place.proofs.Places.{length-laid}
use Rattle.params_read.specs.Reads.{chroma_bits}
use Rattle.params_lay.specs.Print.{deltas_digits, printed, print, OneBits}
use Rattle.params_unfit.specs.Unfit.{unfit}
use Rattle.params.specs.Calls.{ParamsAnswer, no_params, answered, read_of, write_number, WriteAnswer}
use Rattle.round_trips.specs.Promises.{SizedGiven, Sized, Says, Writable, ReadPromised, WritePromised}
use Rattle.params_unfit.proofs.Fits.{fit_on}
use Rattle.params_lay.proofs.Layings.{length-few, length-printed}
use Rattle.round_trips.proofs.Counts.{print-bits}
use Rattle.round_trips.proofs.Listed.{exactly-unwritable}
use Rattle.params.proofs.Numbers.{length-places, read_off, fit-bits}
use Rattle.round_trips.proofs.Printing.{Parsed, parse-prints, parse-reads}
use Rattle.round_trips.proofs.Streams.{places-cut, places-front, stands, before_same, behind-same}

-- ---- reading

module _ (n : ℕ) where
  short-of : (o : Option (Params × List Bit)) → Exactly ((answered n o).number ≡ 23) (o ≡ none)
  short-of none = record { only = λ e. refl; always = λ e. refl }
  short-of (some r) = record { only = λ e. absurd (omega (arith, e)); always = λ e. absurd (none-ne-some r (sym e)) }

  done-of : (o : Option (Params × List Bit)) → Exactly ((answered n o).number ≡ 0) (¬ (o ≡ none))
  done-of none = record { only = λ e. absurd (omega (arith, e)); always = λ f. absurd (f refl) }
  done-of (some r) = record { only = λ e h. none-ne-some r (sym h); always = λ f. refl }

  refused-of : (o : Option (Params × List Bit)) → (answered n o).number ≡ 23 → ((answered n o).count ≡ 0) × ((answered n o).params ≡ no_params)
  refused-of none e = (refl, refl)
  refused-of (some r) e = absurd (omega (arith, e))

  -- the rest, where something was said
  record Said (o : Option (Params × List Bit)) : Type 0 where
    rest : List Bit
    says : o ≡ some ((answered n o).params, rest)
    count : (answered n o).count ≡ n - length rest

  said_of : (o : Option (Params × List Bit)) → (answered n o).number ≡ 0 → Said o
  said_of none e = absurd (omega (arith, e))
  said_of (some r) e = record { rest = r.1; says = refl; count = refl }

bits_most : (g : Given) (p : Params) → is_off g ≡ false → unfit g p ≡ false → (16 ≤ length (printed g.planes p)) × (length (printed g.planes p) ≤ 109)
bits_most g p e h = go (has_chroma g.planes (get_or p.level 0 0) (get_or p.level 1 0)) refl
  where
    one : OneBits p
    one = fit-bits g.planes g.refs g.modes p (fit_on g.planes g.refs g.modes p (rw e at h))

    refs : length (deltas_digits p.update_ref p.ref_delta (8 * p.delta_update)) ≤ 8 * (8 * p.delta_update)
    refs = length-few p.update_ref p.ref_delta (8 * p.delta_update) (λ i g. one.refs i (omega (arith, g, one.update)))

    modes : length (deltas_digits p.update_mode p.mode_delta (2 * p.delta_update)) ≤ 8 * (2 * p.delta_update)
    modes = length-few p.update_mode p.mode_delta (2 * p.delta_update) (λ i g. one.modes i (omega (arith, g, one.update)))

    go : (t : Bool) → has_chroma g.planes (get_or p.level 0 0) (get_or p.level 1 0) ≡ t
        → (16 ≤ length (printed g.planes p)) × (length (printed g.planes p) ≤ 109)
    go true c = let six : chroma_bits g.planes p.level ≡ 6 = rw c refl in
        (omega (arith, length-printed g.planes p), omega (arith, length-printed g.planes p, six, refs, modes, one.update, one.enabled))
    go false c = let none : chroma_bits g.planes p.level ≡ 0 = rw c refl in
        (omega (arith, length-printed g.planes p), omega (arith, length-printed g.planes p, none, refs, modes, one.update, one.enabled))

module _ (g : Given) (bytes : List ℕ) (at : ℕ) (sg : SizedGiven g) where
  abbrev all : List Bit
  all = bits_from bytes at

  abbrev answer : ParamsAnswer
  answer = answered (length all) (parse g all)

  module _ (z : answer.number ≡ 0) where
    said : Said (length all) (parse g all)
    said = said_of (length all) (parse g all) z

    parsed : Parsed g answer.params all said.rest
    parsed = parse-reads g answer.params all said.rest sg said.says

    long : length all ≡ length (print g answer.params) + length said.rest
    long = ap (length {A = Bit}) parsed.shown ∙ length-append (print g answer.params) said.rest

    count-is : answer.count ≡ length (print g answer.params)
    count-is = said.count ∙ omega (arith, long)

    counted : ((is_off g ≡ true) × (answer.count ≡ 0)) ⊎ ((is_off g ≡ false) × (16 ≤ answer.count) × (answer.count ≤ 109))
    counted = go (is_off g) refl
      where
        go : (o : Bool) → is_off g ≡ o → ((is_off g ≡ true) × (answer.count ≡ 0)) ⊎ ((is_off g ≡ false) × (16 ≤ answer.count) × (answer.count ≤ 109))
        go true e = let none : length (print g answer.params) ≡ 0 = rw e refl in inl (e, count-is ∙ none)
        go false e =
            let some_bits : length (print g answer.params) ≡ length (printed g.planes answer.params) = rw e refl in
            let few = bits_most g answer.params e parsed.fits in
            inr (e, omega (arith, count-is, some_bits, few.0), omega (arith, count-is, some_bits, few.1))

  pub is_read : answer ≡ read_of g bytes at
  unfolding read_of
  is_read = refl

  pub read-promised : ReadPromised g bytes at answer
  read-promised = record {
    short = short-of (length all) (parse g all);
    done = done-of (length all) (parse g all);
    off = λ e. ap (λ (a : ParamsAnswer). a.number) (is_read ∙ read_off g bytes at e);
    value = λ z. ((said z).rest, (said z).says, omega (arith, (said z).count, long z));
    table = λ z. count-is z ∙ print-bits g answer.params (parsed z).fits;
    counted = counted;
    refused = refused-of (length all) (parse g all);
  }

-- ---- writing

module _ (g : Given) (p : Params) (at r n : ℕ) (before after : List ℕ) (sg : SizedGiven g) (sp : Sized p) (w : WriteAnswer g p at r n before after) where
  abbrev room : ℕ
  room = 8 * length before - at

  -- what the two tests settle
  record Settled (u t : Bool) : Type 0 where
    is-24 : Exactly (r ≡ 24) (u ≡ true)
    is-23 : Exactly (r ≡ 23) ((u ≡ false) × (t ≡ true))
    is-0 : Exactly (r ≡ 0) ((u ≡ false) × (t ≡ false))

  settled : (u t : Bool) → r ≡ cond u 24 (cond t 23 0) → Settled u t
  settled true t e = record {
    is-24 = record { only = λ q. refl; always = λ q. e };
    is-23 = record { only = λ q. absurd (omega (arith, e, q)); always = λ q. absurd (true≢false q.0) };
    is-0 = record { only = λ q. absurd (omega (arith, e, q)); always = λ q. absurd (true≢false q.0) };
  }
  settled false true e = record {
    is-24 = record { only = λ q. absurd (omega (arith, e, q)); always = λ q. absurd (true≢false (sym q)) };
    is-23 = record { only = λ q. (refl, refl); always = λ q. e };
    is-0 = record { only = λ q. absurd (omega (arith, e, q)); always = λ q. absurd (true≢false q.1) };
  }
  settled false false e = record {
    is-24 = record { only = λ q. absurd (omega (arith, e, q)); always = λ q. absurd (true≢false (sym q)) };
    is-23 = record { only = λ q. absurd (omega (arith, e, q)); always = λ q. absurd (true≢false (sym q.1)) };
    is-0 = record { only = λ q. (refl, refl); always = λ q. e };
  }

  number : Settled (unfit g p) (ltb room (length (print g p)))
  unfolding write_number
  number = settled (unfit g p) (ltb room (length (print g p))) w.code

  says-print : unfit g p ≡ false → Says g (print g p) p []
  says-print h = ap (parse g) (sym (append-nil (print g p))) ∙ parse-prints g p [] sg sp h

  -- the bits that say p are those that are printed
  only-print : (bs : List Bit) → Says g bs p [] → (unfit g p ≡ false) × (bs ≡ print g p)
  only-print bs h = let x = parse-reads g p bs [] sg h in (x.fits, x.shown ∙ append-nil (print g p))

  decided : {A : Type 0} (t : Bool) → unfit g p ≡ t → (unfit g p ≡ true → A) → (unfit g p ≡ false → A) → A
  decided true e a b = a e
  decided false e a b = b e

  unwritable : Exactly (r ≡ 24) (¬ Writable g p)
  unwritable = record {
    only = λ e h. true≢false (sym (number.is-24.only e) ∙ (parse-reads g p h.0 h.1 sg h.2).fits);
    always = λ f. decided (unfit g p) refl number.is-24.always (λ h. absurd (f (print g p, [], says-print h)));
  }

  short : Exactly (r ≡ 23) ((bs : List Bit) × Says g bs p [] × (room < length bs))
  short = record {
    only = λ e. let x = number.is-23.only e in (print g p, says-print x.0, ltb-true room (length (print g p)) x.1);
    always = λ x. let y = only-print x.0 x.1 in number.is-23.always (y.0, lt-ltb room (length (print g p)) (rw (← y.1) x.2));
  }

  done : Exactly (r ≡ 0) ((bs : List Bit) × Says g bs p [] × (length bs ≤ room))
  done = record {
    only = λ e. let x = number.is-0.only e in (print g p, says-print x.0, ltb-false room (length (print g p)) x.1);
    always = λ x. let y = only-print x.0 x.1 in number.is-0.always (y.0, le-ltb room (length (print g p)) (rw (← y.1) x.2));
  }

  refused : ¬ (r ≡ 0) → (after ≡ before) × (n ≡ 0)
  refused f = let q = ne_eqb r 0 f in (rw q at w.stored, rw q at w.count)

  module _ (z : r ≡ 0) where
    stored : after ≡ laid (print g p) at before
    stored = rw (eq-eqb r 0 z) at w.stored

    count_of : n ≡ length (print g p)
    count_of = rw (eq-eqb r 0 z) at w.count

    fits-room : length (print g p) ≤ room
    fits-room = ltb-false room (length (print g p)) (number.is-0.only z).1

    standing : places (bit_at after) at n ≡ print g p
    standing = rw (count_of, stored) (stands (print g p) at before fits-room)

  kept-long : length after ≡ length before
  kept-long = go (ℕ_discrete r 0)
    where
      go : Dec (r ≡ 0) → length after ≡ length before
      go (yes z) = ap (length {A = ℕ}) (stored z) ∙ length-laid (print g p) at before
      go (no f) = ap (length {A = ℕ}) (refused f).0

  in-front : (q : ℕ) → q < at → bit_at after q ≡ bit_at before q
  in-front q h = go (ℕ_discrete r 0)
    where
      go : Dec (r ≡ 0) → bit_at after q ≡ bit_at before q
      go (yes z) = ap (λ (l : List ℕ). bit_at l q) (stored z) ∙ before_same (print g p) at before (fits-room z) q h
      go (no f) = ap (λ (l : List ℕ). bit_at l q) (refused f).0

  behind : (q : ℕ) → at + n ≤ q → bit_at after q ≡ bit_at before q
  behind q h = go (ℕ_discrete r 0)
    where
      go : Dec (r ≡ 0) → bit_at after q ≡ bit_at before q
      go (yes z) = ap (λ (l : List ℕ). bit_at l q) (stored z) ∙ behind-same (print g p) at before (fits-room z) q (omega (arith, h, count_of z))
      go (no f) = ap (λ (l : List ℕ). bit_at l q) (refused f).0

  pub write-promised : WritePromised g p at r n before after
  write-promised = record {
    unwritable = unwritable;
    listed = exactly-then number.is-24 (exactly-unwritable g p);
    short = short;
    done = done;
    refused = refused;
    table = λ z. count_of z ∙ print-bits g p (number.is-0.only z).0;
    bits = λ z. (print g p, says-print (number.is-0.only z).0, sym (count_of z), standing z);
    long = kept-long;
    in-front = in-front;
    behind = behind;
  }

-- ---- there and back

pub written_read : (g : Given) (p : Params) (at n : ℕ) (before after : List ℕ) → SizedGiven g → Sized p → WriteAnswer g p at 0 n before after
    → read_of g after at ≡ record { number = 0; count = n; params = p }
unfolding read_of
written_read g p at n before after sg sp w =
    let m = 8 * length after - at in
    let done = (write-promised g p at 0 n before after sg sp w).done.only refl in
    let c = count_of g p at 0 n before after sg sp w refl in
    let long = kept-long g p at 0 n before after sg sp w in
    let room : n ≤ m = rw (c, long) (fits-room g p at 0 n before after sg sp w refl) in
    let cut : m ≡ n + (m - n) = omega (arith, room) in
    let rest = places (bit_at after) (at + n) (m - n) in
    let bits : bits_from after at ≡ print g p ++ rest = ap (places (bit_at after) at) cut ∙ places-cut (bit_at after) at n (m - n)
    ∙ ap (λ (l : List Bit). l ++ rest) (standing g p at 0 n before after sg sp w refl) in
    let fits = (only-print g p at 0 n before after sg sp w done.0 done.1).0 in
    let got : parse g (bits_from after at) ≡ some (p, rest) = ap (parse g) bits ∙ parse-prints g p rest sg sp fits in
    let left : m - (m - n) ≡ n = omega (arith, room) in
    rw (got, length-places (bit_at after) at m, length-places (bit_at after) (at + n) (m - n), left) refl

pub read-written : (g : Given) (bytes : List ℕ) (at to r n : ℕ) (before after : List ℕ) (sg : SizedGiven g) (z : (read_of g bytes at).number ≡ 0)
    → WriteAnswer g (read_of g bytes at).params to r n before after → (read_of g bytes at).count ≤ 8 * length before - to
    → (r ≡ 0) × (n ≡ (read_of g bytes at).count) × (places (bit_at after) to n ≡ places (bit_at bytes) at n)
unfolding read_of
read-written g bytes at to r n before after sg z w h =
    let p = (answer g bytes at sg).params in
    let x = parsed g bytes at sg z in
    let c = count-is g bytes at sg z in
    let d = done g p to r n before after sg x.sized w in
    let ok = d.always (print g p, says-print g p to r n before after sg x.sized w x.fits, rw (← c) h) in
    let m = count_of g p to r n before after sg x.sized w ok in (
      ok,
      m ∙ sym c,
      standing g p to r n before after sg x.sized w ok
          ∙ sym (places-front (bit_at bytes) at (8 * length bytes - at) (print g p) (said g bytes at sg z).rest x.shown) ∙ ap (places (bit_at bytes) at) (sym m),
    )

pub sized-read : (g : Given) (bytes : List ℕ) (at : ℕ) → SizedGiven g → Sized (read_of g bytes at).params
unfolding read_of
sized-read g bytes at sg = go (parse g (bits_from bytes at)) refl
  where
    go : (o : Option (Params × List Bit)) → parse g (bits_from bytes at) ≡ o → Sized (answered (length (bits_from bytes at)) (parse g (bits_from bytes at))).params
    go none e = rw e (record { levels = refl; ref-bits = refl; mode-bits = refl; refs = refl; modes = refl })
    go (some r) e = rw e (parse-reads g r.0 (bits_from bytes at) r.1 sg e).sized

pub read_fits : (g : Given) (bytes : List ℕ) (at : ℕ) → SizedGiven g → (read_of g bytes at).number ≡ 0 → unfit g (read_of g bytes at).params ≡ false
unfolding read_of
read_fits g bytes at sg z = (parsed g bytes at sg z).fits
