-- `segments::update_all` meets its contract: the running hash has taken the first k segments. Assumes nothing.
use mathlib.Core.Path.{◌≡◌, ap, ◌∙◌}
use native.Mathlib.Omega.{arith}
use Rattle.hasher.specs.declared.Advanced.{Advanced}
use Rattle.hasher.proofs.Owned.{owned}
use Rattle.hasher.proofs.Next.{onward}
use Rattle.segments.specs.Entries.{count}
use Rattle.segments.proofs.ListLaws.{segments_up_to}
use Rattle.segments.proofs.DigestLaws.{no-segment, next-segment, every-segment}
use Rattle.segments.proofs.update_all.Goals as goal

pub loop-k-init : goal.loop-k-init
loop-k-init c = no-segment _ (owned _ _ c.well_formed.0) c.requires.fact _ _ c.requires.list_value.0 c.requires.list_value.1 c.requires.h_value.0 c.requires.h_value.1

pub loop-k-preserved : goal.loop-k-preserved
loop-k-preserved c =
    ap (λ (u : Advanced). u.hasher) c.update.ensures
    ∙ next-segment _ (owned _ _ c.well_formed.0) c.requires.fact _ _ c.requires.list_value.0 c.requires.list_value.1 c.requires.h_value.0 c.requires.h_value.1 c.loop-k.k (omega arith) _ _ c.loop-k.invariant c.segment.ensures.0

pub returns : goal.returns
returns c =
    let a = c.args in
    let e : c.loop-k.k ≡ count a.list.now = omega arith in
    c.loop-k.invariant
    ∙ ap (λ k. onward a.h (segments_up_to a.list.now a.buffer.now k)) e
    ∙ every-segment a.h (owned _ _ c.well_formed.0) c.requires.fact a.list.now a.buffer.now c.requires.list_value.0 c.requires.list_value.1 c.requires.h_value.0 c.requires.h_value.1
