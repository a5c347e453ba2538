-- `hasher::running::started_over` meets its contract: the check, and the fresh running hash. Assumes nothing.
use mathlib.Core.Path.{◌≡◌, sym, ◌∙◌}
use mathlib.Core.Bool.{true}
use Rattle.standard.specs.Variants.{known}
use Rattle.hasher.specs.Running.{started_over}
use Rattle.hasher.proofs.running.started_over.Goals as goal

pub returns-then-not-is_known : goal.returns-then-not-is_known
unfolding started_over
returns-then-not-is_known c = rw (sym c.is_known.ensures ∙ c.if-not-is_known.true)

pub returns : goal.returns
unfolding started_over
returns c =
    let named : known c.args.variant ≡ true = sym c.is_known.ensures ∙ c.if-not-is_known.false in
    rw (named, c.fresh.ensures)
