-- `recover::Place::difference` meets its contract: what lies between the states on both sides of the place. Assumes nothing.
use mathlib.Core.Path.{◌≡◌, sym, ◌∙◌, subst}
use mathlib.Core.Bool.{true, false}
use mathlib.Core.Logic.{⊎_elim}
use Prim.Native.Nat.{ℕ, suc}
use native.Mathlib.Omega.{arith}
use lib.ListN.{length}
use Rattle.standard.specs.Families.{is_sponge, state_in}
use Rattle.standard.specs.Chain.{blocks_of}
use Rattle.standard.specs.Variants.{variant}
use Rattle.standard.proofs.Tests.{true-not-false}
use Rattle.standard.proofs.Variants.{streams, not-sponge}
use Rattle.octets.proofs.Elements.{bytes_lt}
use Rattle.standard.specs.Layout.{state_room, packed_state}
use Rattle.chain.specs.Holding.{Holds}
use Rattle.chain.specs.Splits.{message_held}
use Rattle.chain.proofs.States.{state-length, stored-ready}
use Rattle.recover.specs.Difference.{between}
use Rattle.recover.proofs.Searching.{way}
use Rattle.recover.proofs.Runs.{few, back-ready, before-ready, difference-held, last-held}
use Rattle.recover.proofs.Place.difference.Goals.{After-run_blocks-before, Then-not-is_sponge, Else-not-is_sponge}
use Rattle.recover.proofs.Place.difference.Goals as goal

end-long : (c : After-run_blocks-before) → length (state_in (variant c.args.self.v) c.args.end) ≡ (variant c.args.self.v).t
end-long c = state-length c.args.self.v c.args.self.named c.args.end (omega arith)

-- what is no sponge, and its number
other : (c : Then-not-is_sponge) → is_sponge (variant c.args.self.v) ≡ false
other c = sym c.is_sponge.ensures ∙ c.if-not-is_sponge.true

eleven : (c : Then-not-is_sponge) → c.args.self.v ≡ 11
eleven c = not-sponge c.args.self.v c.args.self.named (other c)

is-sponge : (c : Else-not-is_sponge) → is_sponge (variant c.args.self.v) ≡ true
is-sponge c = sym c.is_sponge.ensures ∙ c.if-not-is_sponge.false

pub run_blocks-before-requires : goal.run_blocks-before-requires
run_blocks-before-requires c =
    let a = c.args.self in
    record { v_value = a.named; holds = stored-ready a.v a.named c.start-start.result _ (streams a.v a.named).start-length c.start-start.ensures; count_bound = omega (arith, c.requires.place_in_bounds, few a.v a.named a.message) }

pub cipher_difference-requires : goal.cipher_difference-requires
cipher_difference-requires c =
    let a = c.args.self in
    let d = goal.at.cipher_difference-requires c in
    let ready : Holds 11 c.run_blocks-before.result = subst (λ (n : ℕ). Holds n c.run_blocks-before.result) (eleven d.Then-not-is_sponge)
    (before-ready a.v a.named a.message (state_in (variant a.v) c.args.end) (end-long d.After-run_blocks-before) a.index c.requires.place_in_bounds
    c.start-start.result c.run_blocks-before.result c.start-start.ensures c.of.ensures c.run_blocks-before.ensures) in
    ready

pub returns-then-not-is_sponge : goal.returns-then-not-is_sponge
returns-then-not-is_sponge c =
    let a = c.args.self in
    let d = goal.at.returns-then-not-is_sponge c in
    let final : suc a.index ≡ length (blocks_of (variant a.v) (message_held a.message)) = ⊎_elim (λ q. absurd (true-not-false (sym q ∙ other d.Then-not-is_sponge))) (λ w. w.1)
    (way a.v a.named (message_held a.message) a.index c.requires.place_value) in
    last-held a.v a.named a.message (state_in (variant a.v) c.args.end) (end-long d.After-run_blocks-before) a.index c.requires.place_in_bounds
    c.start-start.result c.run_blocks-before.result c.start-start.ensures c.of.ensures c.run_blocks-before.ensures final c.cipher_difference.result
    (subst (λ (n : ℕ). c.cipher_difference.result ≡ packed_state (variant n) (between (variant n).family (variant n) (state_in (variant n) c.run_blocks-before.result) (state_in (variant n) c.args.end))) (sym (eleven d.Then-not-is_sponge)) c.cipher_difference.ensures)

pub run_back-after-requires : goal.run_back-after-requires
run_back-after-requires c =
    record { sponge = is-sponge (goal.at.run_back-after-requires c).Else-not-is_sponge; place_in_bounds = c.requires.place_in_bounds; holds = c.requires.holds }

pub permuted-wanted-requires : goal.permuted-wanted-requires
permuted-wanted-requires c =
    let a = c.args.self in
    let d = goal.at.permuted-wanted-requires c in
    let q = is-sponge d.Else-not-is_sponge in
    let y = c.run_back-after in
    record { v_value = (a.named, q); holds = back-ready a.v a.named a.message q (state_in (variant a.v) c.args.end) (end-long d.After-run_blocks-before) (suc a.index) y.result y.ensures }

pub returns : goal.returns
returns c =
    let a = c.args.self in
    let d = goal.at.returns c in
    let r = c.xored in
    difference-held a.v a.named a.message (state_in (variant a.v) c.args.end) (end-long d.After-run_blocks-before) a.index c.requires.place_in_bounds
    c.start-start.result c.run_blocks-before.result c.start-start.ensures c.of.ensures c.run_blocks-before.ensures (is-sponge d.Else-not-is_sponge)
    c.run_back-after.result c.permuted-wanted.result r.result
    c.run_back-after.ensures c.permuted-wanted.ensures (bytes_lt state_room r.result _ r.type_inv) (omega arith) r.ensures
