-- `chain::stretch::Stretch::nibble_at` meets its contract: a nibble of a held byte, of one of the piece or of the last byte, or nothing. Assumes nothing.
use mathlib.Core.Path.{◌∙◌}
use native.Mathlib.Omega.{arith}
use Rattle.chain.proofs.BlockHalves.{half-held, half-piece, half-last, half-nothing}
use Rattle.chain.proofs.stretch.Stretch.nibble_at.Goals as goal

pub returns-then-n-p : goal.returns-then-n-p
returns-then-n-p c =
    let h = c.args.self.held in
    c.nibble_of.ensures
    ∙ half-held h.bytes h.nibbles (omega arith) c.args.n _ (omega arith) (omega arith)

pub returns-then-k-self : goal.returns-then-k-self
returns-then-k-self c =
    let a = c.args.self in
    c.nibble_of-then-k-self.ensures
    ∙ half-piece a.held.bytes a.held.nibbles (omega arith) c.args.n a.piece.now a.last (omega arith) (omega arith) (omega arith)

pub returns-then-self-k : goal.returns-then-self-k
returns-then-self-k c =
    let a = c.args.self in
    half-nothing a.held.bytes a.held.nibbles (omega arith) c.args.n a.piece.now a.last (omega arith) (omega arith)

pub returns : goal.returns
returns c =
    let a = c.args.self in
    c.nibble_of-2.ensures
    ∙ half-last a.held.bytes a.held.nibbles (omega arith) c.args.n a.piece.now a.last (omega arith) (omega arith) (omega arith)
