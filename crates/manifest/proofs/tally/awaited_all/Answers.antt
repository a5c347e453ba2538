-- `manifest::tally::awaited_all` meets its contract. Assumes nothing.
use Rattle.std.proofs.Common.{rules}
use borrow.Author.Tests.{tests}
use lib.Dec.{ltb}
use Rattle.manifest.specs.Progress.{awaited_all}
use Rattle.standard.specs.Bits.{digit}
use Rattle.manifest.proofs.AwaitedLaws.{made-tab}
use Rattle.manifest.proofs.Counting.{byte-digit}
use Rattle.manifest.proofs.tally.awaited_all.Goals as goal

pub returns : goal.returns
unfolding awaited_all
returns c =
    rw (← c.count-n.ensures.count)
    (made-tab _ _ (λ k. digit (ltb k c.count-n.result)) (λ i y q called. search (rules, tests, byte-digit)) _ _ c.from_fn.ensures.items)
