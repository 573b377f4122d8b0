-- A field ends at the first d that is left, or with the line, or is empty past its end.
use Rattle.std.proofs.Common.{arith, rules, tests, ◌≡◌, ◌==◌, ◌+◌, ◌≤◌, length, drop, take, length-drop, ap, sym, ◌∙◌}
use Rattle.std.proofs.lemmas.Iterator.{YieldsList-from_slice}
use Rattle.std.proofs.lemmas.Iterator.Search.{position_from_yields_List}
use Rattle.std.proofs.Math.Seq.{take-length}
use Rattle.std.specs.List.{position}
use Rattle.list_fields.specs.Fields.{cut}
use Rattle.list_fields.proofs.Cuts.{end-in, cut-end, cut-position}
use Rattle.list_fields.proofs.end_of.Goals as goal

rest-is : (c : goal.After-unwrap_or) → (c.args.at ≤ length c.args.s.now) × (c.in-Some.rest.now ≡ drop c.args.at c.args.s.now)
rest-is c =
    let l = c.in-Some.ensures.lookup in
    (l.0.0, l.0.2 ∙ ap (λ n. take n (drop c.args.at c.args.s.now)) (sym (length-drop c.args.at c.args.s.now)) ∙ take-length (drop c.args.at c.args.s.now))

found : (c : goal.After-unwrap_or) → c.unwrap_or.result ≡ cut c.args.d (drop c.args.at c.args.s.now)
found c =
    let e : c.position.result ≡ position (λ b. b == c.args.d) c.in-Some.rest.now =
    position_from_yields_List (λ b. b == c.args.d) _ _ c.position.result c.position.ensures.ran (YieldsList-from_slice c.in-Some.rest.now cc) (λ x b q k. search (rules, tests))
    in
    c.unwrap_or.ensures ∙ cut-position c.args.d c.in-Some.rest.now _ e ∙ ap (cut c.args.d) (rest-is c).1

pub overflow_add-result : goal.overflow_add-result
overflow_add-result c = omega (arith, found c, (rest-is c).0, end-in c.args.d c.args.s.now c.args.at (rest-is c).0)

pub returns-in-Some : goal.returns-in-Some
returns-in-Some c = ap (λ n. c.args.at + n) (found c)

pub returns-in-None : goal.returns-in-None
returns-in-None c =
    let h : length c.args.s.now ≤ c.args.at = search rules in
    omega (arith, cut-end c.args.d c.args.s.now c.args.at h)
