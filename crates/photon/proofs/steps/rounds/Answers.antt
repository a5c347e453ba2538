-- `photon::steps::rounds` meets its contract: after n turns the first n rounds are done, and the cells are below their bound. Assumes nothing.
use mathlib.Core.Path.{refl, ◌∙◌}
use Prim.Native.Nat.{◌<◌}
use native.Mathlib.Omega.{arith}
use Rattle.standard.specs.ForCode.{window}
use Rattle.photon.specs.Parameters.{photon_of}
use Rattle.photon.proofs.ParametersOf.{sound}
use Rattle.photon.proofs.RoundsOf.{round-small, constant-lt, first_more, first-all}
use Rattle.photon.proofs.steps.rounds.Goals as goal

pub size_of-d-requires : goal.size_of-d-requires
size_of-d-requires c = c.requires.le_v

pub row_constants-ic-requires : goal.row_constants-ic-requires
row_constants-ic-requires c = c.requires.le_v

pub box_of-table-requires : goal.box_of-table-requires
box_of-table-requires c = c.requires.le_v

pub loop-n-init : goal.loop-n-init
loop-n-init c = (c.requires.small, refl)

pub round_with-next-requires : goal.round_with-next-requires
round_with-next-requires c =
    let l = c.loop-n in
    let small : c.round_constant-rc.result < 16 = rw c.round_constant-rc.ensures (constant-lt c.args.way l.n (omega arith)) in
    record { le_v = c.requires.le_v; d_value = c.size_of-d.ensures; ic_value = c.row_constants-ic.ensures; by_index = c.box_of-table.ensures; small = l.invariant.0; rc_bound = small }

pub loop-n-preserved : goal.loop-n-preserved
loop-n-preserved c =
    let k = c.round_constant-rc in
    let l = c.loop-n in
    let p = photon_of c.args.v in
    let w = c.args.way in
    let small : k.result < 16 = rw k.ensures (constant-lt w l.n (omega arith)) in (
      round-small p (sound c.args.v c.requires.le_v.0 c.requires.le_v.1) l.out l.invariant.0 k.result small w _ c.round_with-next.ensures,
      c.round_with-next.ensures ∙ rw (l.invariant.1, k.ensures) (first_more p w (window p.d c.args.g) l.n (omega arith)),
    )

pub returns : goal.returns
returns c =
    let l = c.loop-n in
    let a = c.args in
    let p = photon_of a.v in
    l.invariant.1 ∙ first-all p a.way (window p.d a.g) l.n (omega arith)
