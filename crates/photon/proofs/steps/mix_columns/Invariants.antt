-- `photon::steps::mix_columns` meets its contract: after n turns n steps are made. Assumes nothing.
use Prim.Native.Nat.{◌≤◌}
use Rattle.photon.proofs.StepRows.{Stepped}
use Rattle.photon.proofs.steps.mix_columns.Given as goal

abbrev pub invariant-loop-n : goal.invariant-loop-n
invariant-loop-n l = (l.d ≤ 8) × Stepped l.d l.s l.poly l.z l.initial.rows l.n l.rows
