-- `segments::hash_list` meets its contract: its checks leave none to the calls that it makes. Assumes nothing.
use mathlib.Core.Path.{◌∙◌}
use Rattle.segments.specs.Digests.{list_into}
use Rattle.segments.proofs.DigestLaws.{accepted, header-fits, segments-fit, message-taken, left-hashed}
use Rattle.answers.proofs.Statuses.{handed-on}
use Rattle.segments.proofs.hash_list.Goals as goal

pub returns-in_err-check_list : goal.returns-in_err-check_list
unfolding list_into
returns-in_err-check_list c =
    let e = c.check_list.ensures in
    (handed-on _ _ _ c.from_residual.ensures.1 c.in_err-check_list.was ∙ e, rw (← e, c.in_err-check_list.was))

pub update_header-led-requires : goal.update_header-led-requires
update_header-led-requires c =
    let w = accepted _ _ _ _ _ _ c.check_list.ensures c.in_ok-check_list.was in
    let r = header-fits _ _ _ _ _ w c.start-begun.result c.start-begun.ensures in
    record { fact = r.0; list_value = r.1.0; h_value = r.1.1 }

pub update_all-h-requires : goal.update_all-h-requires
update_all-h-requires c =
    let w = accepted _ _ _ _ _ _ c.check_list.ensures c.in_ok-check_list.was in
    let r = segments-fit _ _ _ _ _ w c.start-begun.result c.start-begun.ensures _ c.update_header-led.ensures in
    record { fact = r.0; list_value = r.1.0; h_value = r.1.1 }

pub returns : goal.returns
returns c =
    let w = accepted _ _ _ _ _ _ c.check_list.ensures c.in_ok-check_list.was in
    left-hashed _ _ _ _ _ w _ _ _ c.start-begun.ensures (message-taken _ _ _ _ _ w _ c.start-begun.ensures _ _ c.update_header-led.ensures c.update_all-h.ensures)
    c.finish-ended.ensures _ _ c.read.ensures
