-- `step::hears::hear` meets its contract: two bytes at most are two items at most.
use mathlib.Core.Path.{◌≡◌, sym, ◌∙◌}
use mathlib.Core.Bool.{true, false}
use Rattle.step.specs.Hear.{listens}
use Rattle.step.proofs.Hearing.{deaf_motor, deaf_told, few_port, few_powered, heard_both_law}
use Rattle.step.proofs.hears.hear.Goals as goal

pub returns-then-not-is_heard : goal.returns-then-not-is_heard
returns-then-not-is_heard c =
    let s = c.args.s in
    let e : listens s.calling s.connection ≡ false = sym c.is_heard.ensures ∙ c.if-not-is_heard.true in
    record { motor = sym (deaf_motor s _ e); tells = sym (deaf_told s _ e) }

pub invariant_of-result-2 : goal.invariant_of-result-2
invariant_of-result-2 c =
    let few = few_port c.args.s (sym c.is_heard.ensures ∙ c.if-not-is_heard.false) in
    record { one_digit = (few, rw (c.from-2.ensures, c.is_on-2.ensures) (few_powered c.hear_item-then.result), rw (c.from-3.ensures, c.is_on-3.ensures) (few_powered c.hear_item-last.result)) }

pub returns : goal.returns
returns c =
    let s = c.args.s in
    let e : listens s.calling s.connection ≡ true = sym c.is_heard.ensures ∙ c.if-not-is_heard.false in
    let x = c.speak-first.result in
    let both = heard_both_law s x.0 x.1 e in
    record {
      motor = rw (c.hear_item-last.ensures, c.hear_item-then.ensures, ← c.speak-first.ensures) both.motor;
      tells = rw (c.from.ensures, c.from-2.ensures, c.from-3.ensures, c.is_on.ensures, c.is_on-2.ensures, c.is_on-3.ensures, c.hear_item-last.ensures, c.hear_item-then.ensures, ← c.speak-first.ensures) both.tells;
    }
