-- `photon::steps::round_with` meets its contract: the four steps in turn, or their inverses in reverse. Assumes nothing.
use Rattle.standard.specs.declared.Direction.TheVariants.{Forward, Backward}
use Rattle.photon.specs.Parameters.{photon_of}
use Rattle.photon.proofs.ParametersOf.{fits, size_fits}
use Rattle.photon.proofs.StepsOf.{add_at, sub_at, shift-at}
use Rattle.photon.proofs.RoundsOf.{unmixed-small, round_is, unround-is}
use Rattle.photon.proofs.steps.round_with.Goals as goal

pub shift_rows-s-requires : goal.shift_rows-s-requires
shift_rows-s-requires c = size_fits _ _ c.requires.le_v c.requires.d_value

pub mix_columns_of-requires : goal.mix_columns_of-requires
mix_columns_of-requires c =
    let p = photon_of c.args.v in
    let h = fits c.args.v c.requires.le_v.0 c.requires.le_v.1 in
    let added = add_at p h _ c.add_constants-a.result _ c.args.ic c.requires.ic_value c.add_constants-a.ensures in
    let substituted = sub_at p h _ _ c.args.table.now p.box (rw c.in-Forward.is at c.requires.by_index) c.sub_cells-b.ensures in
    let shifted = shift-at c.requires.d_value _ _ Forward c.shift_rows-s.ensures in
    record { le_v = c.requires.le_v; small = unmixed-small p h.sound c.args.g c.requires.small c.args.rc c.requires.rc_bound _ _ _ added substituted shifted }

pub shift_rows-s-requires-in-Backward : goal.shift_rows-s-requires-in-Backward
shift_rows-s-requires-in-Backward c = size_fits _ _ c.requires.le_v c.requires.d_value

pub returns-in-Forward : goal.returns-in-Forward
returns-in-Forward c =
    let p = photon_of c.args.v in
    let h = fits c.args.v c.requires.le_v.0 c.requires.le_v.1 in
    rw c.in-Forward.is
    (round_is p _ _ _ c.add_constants-a.result _ _ (add_at p h _ _ _ c.args.ic c.requires.ic_value c.add_constants-a.ensures)
    (sub_at p h _ _ c.args.table.now p.box (rw c.in-Forward.is at c.requires.by_index) c.sub_cells-b.ensures)
    (shift-at c.requires.d_value _ _ Forward c.shift_rows-s.ensures) c.mix_columns_of.ensures)

pub returns-in-Backward : goal.returns-in-Backward
returns-in-Backward c =
    let p = photon_of c.args.v in
    let h = fits c.args.v c.requires.le_v.0 c.requires.le_v.1 in
    rw c.in-Backward.is
    (unround-is p _ _ _ _ _ c.sub_cells-b-in-Backward.result c.unmix_columns_of-m.ensures (shift-at c.requires.d_value _ _ Backward c.shift_rows-s-in-Backward.ensures)
    (sub_at p h _ _ c.args.table.now p.unbox (rw c.in-Backward.is at c.requires.by_index) c.sub_cells-b-in-Backward.ensures)
    (add_at p h _ _ _ c.args.ic c.requires.ic_value c.add_constants.ensures))
