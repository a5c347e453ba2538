-- `octets::compare::zero_from` meets its contract: all of the bytes are asked that are left after k. Assumes nothing.
use mathlib.Core.Path.{◌∙◌}
use Rattle.std.proofs.Common.{rules, drop, nat_eq}
use Rattle.std.proofs.lemmas.Iterator.{YieldsList-from_slice}
use Rattle.std.proofs.lemmas.Iterator.Adapters.{YieldsList-from_skip}
use Rattle.std.proofs.lemmas.Iterator.Search.{all_from_yields_List}
use borrow.Author.Tests.{tests}
use Rattle.octets.proofs.CompareLaws.{list_all-zeros}
use Rattle.octets.proofs.compare.zero_from.Goals as goal

pub returns : goal.returns
returns c =
    let a = c.args in
    all_from_yields_List (λ b. nat_eq b 0) _ _ _ c.all.ensures.ran (YieldsList-from_skip a.k (YieldsList-from_slice a.bytes.now cc) c.skip.ensures.count) (λ b r q k. search (rules, tests))
    ∙ list_all-zeros (drop a.k a.bytes.now)
