-- `octets::text::digit_count` meets its contract: a number is between two powers of ten. Assumes nothing.
use Rattle.octets.proofs.DecimalLaws.{length-log}
use Rattle.octets.proofs.text.digit_count.Goals as goal

pub returns : goal.returns
returns c =
    let log = c.checked_ilog10 in
    rw c.unwrap_or-tens.ensures (length-log c.args.n log.result log.ensures.none log.ensures.power_le log.ensures.next_power_gt)
