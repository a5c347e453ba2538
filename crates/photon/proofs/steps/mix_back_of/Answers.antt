-- `photon::steps::mix_back_of` meets its contract: each call has the numbers of its variant's inverse. Assumes nothing.
use native.Mathlib.Omega.{arith}
use Rattle.photon.proofs.ParametersOf.{four-back, five-back, same_back}
use Rattle.photon.proofs.StepsOf.{mix-ready, mix-at}
use Rattle.photon.proofs.steps.mix_back_of.Goals as goal

pub mix_columns-requires : goal.mix_columns-requires
mix_columns-requires c = mix-ready (four-back _ c.in-4.is) _ c.requires.small

pub returns-in-4 : goal.returns-in-4
returns-in-4 c = mix-at (four-back _ c.in-4.is) _ _ c.mix_columns.ensures

pub mix_columns-requires-in-5 : goal.mix_columns-requires-in-5
mix_columns-requires-in-5 c = mix-ready (five-back _ c.in-5.is) _ c.requires.small

pub returns-in-5 : goal.returns-in-5
returns-in-5 c = mix-at (five-back _ c.in-5.is) _ _ c.mix_columns-in-5.ensures

pub returns-in_default : goal.returns-in_default
returns-in_default c = rw (← same_back _ c.requires.le_v.0 (omega arith)) c.mix_columns_of.ensures
