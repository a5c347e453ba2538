-- `hasher::is_well_formed` meets its contract: the tests one by one. Assumes nothing.
use mathlib.Core.Path.{◌≡◌, sym, ap, ◌∙◌}
use mathlib.Core.Bool.{true, false}
use mathlib.Core.Logic.{⊎_elim}
use borrow.Author.Tests.{le-leb, lt-leb}
use Rattle.standard.specs.Variants.{known}
use Rattle.hasher.specs.Running.{well_formed}
use Rattle.hasher.proofs.WellFormed.{spare}
use Rattle.hasher.proofs.is_well_formed.Goals as goal

pub returns-then-not-is_known : goal.returns-then-not-is_known
unfolding well_formed
returns-then-not-is_known c =
    let is : known c.args.h.variant ≡ c.is_known.result = sym (c.is_known.ensures ∙ ap known c.from.ensures) in
    ⊎_elim
    (λ e. let unknown : known c.args.h.variant ≡ false = is ∙ e in rw unknown)
    (⊎_elim
    (λ e. let named : known c.args.h.variant ≡ true = is ∙ e.0 in rw (named, lt-leb _ _ e.1))
    (λ e. let named : known c.args.h.variant ≡ true = is ∙ e.0 in rw (named, le-leb _ _ e.1, lt-leb _ _ e.2)))
    c.then-not-is_known.either

pub returns-then-clear_from : goal.returns-then-clear_from
unfolding well_formed
returns-then-clear_from c =
    let named : known c.args.h.variant ≡ true = sym (c.is_known.ensures ∙ ap known c.from.ensures) ∙ c.if-not-is_known.false in
    rw (named, le-leb _ _ c.if-h-gt1.false, le-leb _ _ c.if-h-gt-MAX_MESSAGE_BITS.false, spare _ named, ← c.state_bits.ensures, sym c.clear_from.ensures ∙ c.if-clear_from.true, ← c.held_count.ensures)
    c.clear_from-then-clear_from.ensures

pub returns-else-clear_from : goal.returns-else-clear_from
unfolding well_formed
returns-else-clear_from c =
    let named : known c.args.h.variant ≡ true = sym (c.is_known.ensures ∙ ap known c.from.ensures) ∙ c.if-not-is_known.false in
    rw (named, le-leb _ _ c.if-h-gt1.false, le-leb _ _ c.if-h-gt-MAX_MESSAGE_BITS.false, spare _ named, ← c.state_bits.ensures, sym c.clear_from.ensures ∙ c.if-clear_from.false)
    c.if-clear_from.false
