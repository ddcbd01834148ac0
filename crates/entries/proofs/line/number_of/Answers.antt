use Rattle.std.proofs.Common.{◌+◌, drop, sym, ap, ◌∙◌, arith}
use Rattle.std.proofs.ByRecursion.{All-get_or}
use Rattle.entries.specs.Digits.{Decimal, number_after}
use Rattle.entries.proofs.Numbers.{number_after_more, number_after_all, number_after_gt, some_small, none_small, small_some, small_none}
use Rattle.entries.proofs.line.number_of.Goals as goal

pub with_digit-requires : goal.with_digit-requires
with_digit-requires c = All-get_or Decimal c.args.digits.now _ 0 c.loop-digit-test.true c.requires

pub returns-in_err-number : goal.returns-in_err-number
returns-in_err-number c =
    let above = number_after_gt c.loop-digit.number c.args.digits.now c.loop-digit.digit-index c.loop-digit-test.true (none_small _ c.in_err-number.ensures) in
    c.from_residual.ensures ∙ small_none _ (omega (arith, c.loop-digit.invariant.0))

pub loop-digit-preserved : goal.loop-digit-preserved
loop-digit-preserved c =
    let grown = some_small _ _ c.in_ok-number.ensures in
    let more = number_after_more c.loop-digit.number c.args.digits.now c.loop-digit.digit-index c.loop-digit-test.true in
    (ap (λ n. number_after n (drop (c.loop-digit.digit-index + 1) c.args.digits.now)) grown.0 ∙ sym more ∙ c.loop-digit.invariant.0, grown.1)

pub returns : goal.returns
returns c =
    let all = number_after_all c.loop-digit.number c.args.digits.now c.loop-digit.digit-index c.loop-digit-test.false in
    small_some _ _ (sym all ∙ c.loop-digit.invariant.0) c.loop-digit.invariant.1
