-- The class of the bit xy: each test is one of a mask's bit.
use Rattle.std.proofs.Common.{refl}
use Rattle.walk.proofs.WidthsThresholds.{has, lacks}
use Rattle.walk.proofs.class_of.Goals as goal

pub returns-then-m2-xy-ne0 : goal.returns-then-m2-xy-ne0
returns-then-m2-xy-ne0 c = λ n h. rw (has _ _ n h c.if-m2-xy-ne0.true) refl

pub returns-then-m1-xy-ne0 : goal.returns-then-m1-xy-ne0
returns-then-m1-xy-ne0 c = λ n h. rw (lacks _ _ n h c.if-m2-xy-ne0.false, has _ _ n h c.if-m1-xy-ne0.true) refl

pub returns : goal.returns
returns c = λ n h. rw (lacks _ _ n h c.if-m2-xy-ne0.false, lacks _ _ n h c.if-m1-xy-ne0.false) refl
