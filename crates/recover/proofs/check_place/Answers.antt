-- `recover::check_place` meets its contract: the checks in order. Assumes nothing.
use mathlib.Core.Path.{◌≡◌, sym, ◌∙◌}
use mathlib.Core.Bool.{true}
use lib.Dec.{ltb}
use borrow.Author.Tests.{lt-ltb, le-ltb}
use Rattle.standard.specs.Variants.{variant}
use Rattle.recover.specs.Recovering.{searchable}
use Rattle.recover.proofs.check_place.Goals as goal

pub returns-then-count-place : goal.returns-then-count-place
returns-then-count-place c = rw (le-ltb _ _ c.if-count-place.true)

pub returns-then-not-is_searchable : goal.returns-then-not-is_searchable
returns-then-not-is_searchable c = rw (lt-ltb _ _ c.if-count-place.false, sym c.is_searchable.ensures ∙ c.if-not-is_searchable.true)

pub returns-then-not-is_image : goal.returns-then-not-is_image
returns-then-not-is_image c =
    let is_within : ltb c.args.place c.args.count ≡ true = lt-ltb _ _ c.if-count-place.false in
    let may : searchable (variant c.args.v) c.args.count c.args.place ≡ true = sym c.is_searchable.ensures ∙ c.if-not-is_searchable.false in
    rw (is_within, may, sym c.is_image.ensures ∙ c.if-not-is_image.true)

pub returns-then-n-block_bytes : goal.returns-then-n-block_bytes
returns-then-n-block_bytes c =
    let is_within : ltb c.args.place c.args.count ≡ true = lt-ltb _ _ c.if-count-place.false in
    let may : searchable (variant c.args.v) c.args.count c.args.place ≡ true = sym c.is_searchable.ensures ∙ c.if-not-is_searchable.false in
    rw (is_within, may, sym c.is_image.ensures ∙ c.if-not-is_image.false, ← c.block_bytes.ensures, lt-ltb _ _ c.if-n-block_bytes.true)

pub returns : goal.returns
returns c =
    let is_within : ltb c.args.place c.args.count ≡ true = lt-ltb _ _ c.if-count-place.false in
    let may : searchable (variant c.args.v) c.args.count c.args.place ≡ true = sym c.is_searchable.ensures ∙ c.if-not-is_searchable.false in
    rw (is_within, may, sym c.is_image.ensures ∙ c.if-not-is_image.false, ← c.block_bytes.ensures, le-ltb _ _ c.if-n-block_bytes.false)
