-- The promises, proved: an accepted frame stays accepted, so each call is its pass over the three planes, and what holds of each plane holds of the calls.
use mathlib.Core.Path.{◌≡◌, refl, sym, ap, ◌∙◌, subst}
use mathlib.Core.Bool.{cond}
use mathlib.Core.List.{List}
use mathlib.Core.Logic.{◌≢◌, by_cases}
use Prim.Native.Nat.{ℕ, zero, suc, ◌<◌}
use native.Mathlib.Decide.{ℕ_discrete}
use native.Mathlib.Omega.{arith}
use lib.Dec.{eqb}
use Rattle.loops.specs.Run.{up_to}
use Rattle.loops.proofs.Runs.{up_to-holds, up_to-part}
use Rattle.plane.specs.Line.{Pass, columns, rows, Piece}
use Rattle.plane.specs.Plane.{Plane, cols_of, rows_of, raster_of}
use Rattle.plane.specs.Three.{Three}
use Rattle.order.specs.Demand3.{all_of, Orders}
use Rattle.filter.specs.Filter.{sweep_of}
use Rattle.filter.proofs.Sweeps as filter
use Rattle.apply.specs.Apply.{FilterAnswer, pass_call}
use Rattle.frames.specs.Calls.{Frame, call_at, lent_of, answer, after, planes, sb_rows, Accepted, BoundariesKept}
use Rattle.frames.specs.Promises.{OneCall, Demand, Promises}
use Rattle.frames.specs.Witness.{pass, Differ}
use Rattle.frames.proofs.Sweeps.{sweeps-commute}
use Rattle.frames.proofs.NumbersKept.{sweep_call, after-done, after-refused, answers_stay}
use Rattle.frames.proofs.PlaneReach.{luma-reach, u-reach, v-reach}
use Rattle.frames.proofs.Witnesses.{frame, start, accepted, kept, order-counts, witness}
use Rattle.frames.proofs.Planes.{Sound, one-row, sound-luma, sound-u, sound-v}

calls : (f : Frame) (d : Pass) (k : ℕ) (s t : Three (List ℕ)) (r : ℕ)
    → FilterAnswer (call_at f d k) f.limits (lent_of f s) r t → (r ≡ answer f d k s) × (t ≡ after f d k s)
unfolding after
calls f d k s t r a = (a.code, a.planes ∙ ap (λ (n : ℕ). cond (eqb n 0) (pass_call (call_at f d k) (planes f) k s) s) a.code)

-- ---- an accepted frame stays accepted

stays-accepted : (f : Frame) (s : Three (List ℕ)) (d : Pass) (k : ℕ) → Accepted f s → Accepted f (after f d k s)
stays-accepted f s d k a = record { some = a.some; all = λ e j h. answers_stay f e d j k s ∙ a.all e j h }

-- two loops whose steps do the same as long as Q holds
up_to-while : {S : Type 0} (Q : S → Type 0) (f g : ℕ → S → S) (n : ℕ) → ((i : ℕ) → i < n → (s : S) → Q s → Q (f i s))
    → ((i : ℕ) → i < n → (s : S) → Q s → f i s ≡ g i s) → (s : S) → Q s → up_to f n s ≡ up_to g n s
up_to-while Q f g zero q h s x = refl
up_to-while Q f g (suc n) q h s x =
    h n (omega arith) (up_to f n s) (up_to-holds Q f n (λ i l. q i (omega arith)) s x)
    ∙ ap (g n) (up_to-while Q f g n (λ i l. q i (omega arith)) (λ i l. h i (omega arith)) s x)

module _ (f : Frame) (d e : Pass) (j k : ℕ) (s : Three (List ℕ)) where
  -- two calls
  two : answer f d j s ≡ 0 → answer f e k s ≡ 0 → after f d j (after f e k s) ≡ sweep_call (planes f) d j (sweep_call (planes f) e k s)
  two x y = after-done f j (after f e k s) d (answers_stay f d e j k s ∙ x) ∙ ap (sweep_call (planes f) d j) (after-done f k s e y)

  -- of which the first is refused, with or without the second
  refused : ¬ (answer f d j s ≡ 0) → after f d j (after f e k s) ≡ after f e k (after f d j s)
  refused n = after-refused f j (after f e k s) d (λ x. n (sym (answers_stay f d e j k s) ∙ x)) ∙ ap (after f e k) (sym (after-refused f j s d n))

-- two calls change places if their passes do
module _ (f : Frame) (d e : Pass) (j k : ℕ) (s : Three (List ℕ)) where
  change-places : sweep_call (planes f) d j (sweep_call (planes f) e k s) ≡ sweep_call (planes f) e k (sweep_call (planes f) d j s)
      → after f d j (after f e k s) ≡ after f e k (after f d j s)
  change-places c =
      by_cases (ℕ_discrete (answer f d j s) 0)
      (λ x. by_cases (ℕ_discrete (answer f e k s) 0) (λ y. two f d e j k s x y ∙ c ∙ sym (two f e d k j s y x)) (λ n. sym (refused f e d k j s n)))
      (refused f d e j k s)

-- all calls in turn
all-calls : (f : Frame) (s : Three (List ℕ)) → Accepted f s
    → up_to (λ k t. after f rows k (after f columns k t)) (sb_rows f) s
    ≡ up_to (λ k t. sweep_call (planes f) rows k (sweep_call (planes f) columns k t)) (sb_rows f) s
all-calls f =
    up_to-while (Accepted f) _ _ (sb_rows f) (λ k h t a. stays-accepted f (after f columns k t) rows k (stays-accepted f t columns k a))
    (λ k h t a. two f rows columns k k t (a.all rows k h) (a.all columns k h))

-- ---- plane by plane

module _ (P : Plane) (n : ℕ) (s : List ℕ) where
  turn : up_to (λ k t. sweep_of P rows k (sweep_of P columns k t)) n s ≡ up_to (λ k t. rows_of P k (cols_of P k t)) n s
  turn = λ q. up_to (λ k t. (filter.promises).rows_are P k ((filter.promises).columns-are P k t q) q) n s

turns : (F : Three Plane) (n : ℕ) (s : Three (List ℕ))
    → up_to (λ k t. sweep_call F rows k (sweep_call F columns k t)) n s
    ≡ record {
      luma = up_to (λ k t. rows_of F.luma k (cols_of F.luma k t)) n s.luma;
      u = up_to (λ k t. rows_of F.u k (cols_of F.u k t)) n s.u;
      v = up_to (λ k t. rows_of F.v k (cols_of F.v k t)) n s.v;
    }
turns F n s =
    let y = up_to-part (λ x. x.luma) (λ k t. sweep_call F rows k (sweep_call F columns k t)) (λ k t. sweep_of F.luma rows k (sweep_of F.luma columns k t)) (λ i x. refl) n s
    ∙ turn F.luma n s.luma in
    let u = up_to-part (λ x. x.u) (λ k t. sweep_call F rows k (sweep_call F columns k t)) (λ k t. sweep_of F.u rows k (sweep_of F.u columns k t)) (λ i x. refl) n s
    ∙ turn F.u n s.u in
    let v = up_to-part (λ x. x.v) (λ k t. sweep_call F rows k (sweep_call F columns k t)) (λ k t. sweep_of F.v rows k (sweep_of F.v columns k t)) (λ i x. refl) n s
    ∙ turn F.v n s.v in
    λ q. record { luma = y q; u = u q; v = v q }

-- the rows of one pass commute
same-pass : (P : Plane) → Sound P → (d : Pass) (j k : ℕ) → j ≢ k → (s : List ℕ) → sweep_of P d j (sweep_of P d k s) ≡ sweep_of P d k (sweep_of P d j s)
same-pass P o d j k n = sweeps-commute P d d j k (o.same d j k n)

one-call : (f : Frame) (P : Plane) → P.sbs ≡ sb_rows f → Sound P → OneCall f P
one-call f P e o =
    record { some = λ d p i. let r = o.row d p i in (r.0, rw (sym e) r.1, r.2); one = one-row P }

module _ (f : Frame) (s : Three (List ℕ)) (a : Accepted f s) (b : BoundariesKept f) where
  Y : Sound (planes f).luma
  Y = sound-luma f s a b

  U : Sound (planes f).u
  U = sound-u f s a b

  W : Sound (planes f).v
  W = sound-v f s a b

  in-turn : (l m : Three (List Piece)) → Orders (planes f) columns l → Orders (planes f) rows m
      → up_to (λ k t. after f rows k (after f columns k t)) (sb_rows f) s ≡ all_of (planes f) rows m (all_of (planes f) columns l s)
  unfolding all_of
  in-turn l m L M =
      all-calls f s a
      ∙ turns (planes f) (sb_rows f) s
      ∙ (λ q. record {
        luma = Y.demand.rows-in-turn l.luma m.luma L.luma M.luma s.luma q;
        u = U.demand.rows-in-turn l.u m.u L.u M.u s.u q;
        v = W.demand.rows-in-turn l.v m.v L.v M.v s.v q;
      })

  standard : up_to (λ k t. after f rows k (after f columns k t)) (sb_rows f) s
      ≡ record {
        luma = raster_of (planes f).luma rows (raster_of (planes f).luma columns s.luma);
        u = raster_of (planes f).u rows (raster_of (planes f).u columns s.u);
        v = raster_of (planes f).v rows (raster_of (planes f).v columns s.v);
      }
  standard =
      all-calls f s a
      ∙ turns (planes f) (sb_rows f) s
      ∙ (λ q. record { luma = Y.demand.standard-order s.luma q; u = U.demand.standard-order s.u q; v = W.demand.standard-order s.v q })

  same-commute : (d : Pass) (j k : ℕ) → after f d j (after f d k s) ≡ after f d k (after f d j s)
  same-commute d j k =
      by_cases (ℕ_discrete j k) (λ e. rw e refl)
      (λ n. change-places f d d j k s
      (λ q. record {
        luma = same-pass (planes f).luma Y d j k n s.luma q;
        u = same-pass (planes f).u U d j k n s.u q;
        v = same-pass (planes f).v W d j k n s.v q;
      }))

  past : (k j : ℕ) → k < j → after f rows k (after f columns j s) ≡ after f columns j (after f rows k s)
  past k j h =
      sym (change-places f columns rows j k s
      (λ q. record {
        luma = sweeps-commute (planes f).luma columns rows j k (Y.past k j h) s.luma q;
        u = sweeps-commute (planes f).u columns rows j k (U.past k j h) s.u q;
        v = sweeps-commute (planes f).v columns rows j k (W.past k j h) s.v q;
      }))

  ahead : (k j : ℕ) → suc j < k → after f rows k (after f columns j s) ≡ after f columns j (after f rows k s)
  ahead k j h =
      sym (change-places f columns rows j k s
      (λ q. record {
        luma = sweeps-commute (planes f).luma columns rows j k (Y.ahead k j h) s.luma q;
        u = sweeps-commute (planes f).u columns rows j k (U.ahead k j h) s.u q;
        v = sweeps-commute (planes f).v columns rows j k (W.ahead k j h) s.v q;
      }))

  demand : Demand f s
  demand =
      record {
        luma = Y.demand;
        u = U.demand;
        v = W.demand;
        luma-calls = one-call f (planes f).luma refl Y;
        u-calls = one-call f (planes f).u refl U;
        v-calls = one-call f (planes f).v refl W;
        in-turn = in-turn;
        standard = standard;
        columns-commute = same-commute columns;
        rows-commute = same-commute rows;
        past = λ k j h. past k j (omega arith);
        ahead = λ k j h. ahead k j (omega arith);
      }

-- ---- the witness, whose calls in turn leave what all columns and then all rows leave

other-order : Differ (pass frame columns (pass frame rows start)) (up_to (λ k t. after frame rows k (after frame columns k t)) (sb_rows frame) start)
other-order =
    subst (Differ (pass frame columns (pass frame rows start)))
    (ap (after frame rows 1) (past frame (after frame columns 0 start) (stays-accepted frame start columns 0 accepted) kept 0 1 (omega arith))) order-counts

pub promises : Promises
promises =
    record {
      calls = calls;
      answers_stay = answers_stay;
      luma-reach = λ f. luma-reach f _ _ (omega arith) (omega arith);
      u-reach = λ f. u-reach f _ _ (omega arith) (omega arith);
      v-reach = λ f. v-reach f _ _ (omega arith) (omega arith);
      demand = demand;
      witness = (frame, start, witness);
      other-order = other-order;
    }
