-- `photon::steps::mix_columns_of` meets its contract: each call has the numbers of its variant. Assumes nothing.
use native.Mathlib.Omega.{arith}
use Rattle.photon.proofs.ParametersOf.{one, two, three, four, five}
use Rattle.photon.proofs.StepsOf.{mix-ready, mix-at}
use Rattle.photon.proofs.steps.mix_columns_of.Goals as goal

pub mix_columns-requires : goal.mix_columns-requires
mix_columns-requires c = mix-ready (one _ c.in-1.is) _ c.requires.small

pub returns-in-1 : goal.returns-in-1
returns-in-1 c = mix-at (one _ c.in-1.is) _ _ c.mix_columns.ensures

pub mix_columns-requires-in-2 : goal.mix_columns-requires-in-2
mix_columns-requires-in-2 c = mix-ready (two _ c.in-2.is) _ c.requires.small

pub returns-in-2 : goal.returns-in-2
returns-in-2 c = mix-at (two _ c.in-2.is) _ _ c.mix_columns-in-2.ensures

pub mix_columns-requires-in-3 : goal.mix_columns-requires-in-3
mix_columns-requires-in-3 c = mix-ready (three _ c.in-3.is) _ c.requires.small

pub returns-in-3 : goal.returns-in-3
returns-in-3 c = mix-at (three _ c.in-3.is) _ _ c.mix_columns-in-3.ensures

pub mix_columns-requires-in-4 : goal.mix_columns-requires-in-4
mix_columns-requires-in-4 c = mix-ready (four _ c.in-4.is) _ c.requires.small

pub returns-in-4 : goal.returns-in-4
returns-in-4 c = mix-at (four _ c.in-4.is) _ _ c.mix_columns-in-4.ensures

pub mix_columns-requires-in_default : goal.mix_columns-requires-in_default
mix_columns-requires-in_default c = mix-ready (five c.args.v (omega arith)) _ c.requires.small

pub returns-in_default : goal.returns-in_default
returns-in_default c = mix-at (five c.args.v (omega arith)) _ _ c.mix_columns-in_default.ensures
