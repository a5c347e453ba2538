-- `manifest::report::stepped` meets its contract. Assumes nothing.
use mathlib.Core.Path.{sym, ap, ◌∙◌}
use Rattle.manifest.specs.Progress.{settled}
use Rattle.manifest.proofs.StrideLaws.{stride-settled}
use Rattle.manifest.proofs.report.stepped.Goals as goal

pub returns : goal.returns
returns c =
    let r = c.args.r in
    c.settle.ensures ∙ ap (settled c.args.manifest.now r.tally) c.advance.ensures
    ∙ sym (stride-settled c.args.manifest.now r.tally c.requires.tally_bound r.passed r.current c.args.part.now c.requires.stride)
