-- What owning a running hash tells: how long its arrays are, and that each element is a byte. `c.well_formed` and `.type_inv` of a call have `Is`.
-- Assumes nothing.
use mathlib.Core.List.{List}
use Prim.Native.Nat.{ℕ, ◌<◌}
use lib.ListN.{get_or}
use mir.Val.{Val}
use denote.Laws.{Is}
use denote.Struct.Laws as laws
use Rattle.octets.proofs.Fields.{field-bytes}
use Rattle.hasher.specs.declared.Hasher.{Hasher}
use Rattle.hasher.specs.Sized.{Sized}
use Rattle.hasher.specs.contracts.Hasher as type
use Rattle.hasher.proofs.Hasher.TheLaws as type-laws

pub record Owned (h : Hasher) : Type 0 where
  pub sized : Sized h
  pub state-byte : (i : ℕ) → get_or h.state i 0 < 256
  pub held-byte : (i : ℕ) → get_or h.held i 0 < 256

pub owned : (h : Hasher) (vs : List Val) → Is type.the_row h vs → Owned h
owned h vs p =
    let o = (laws.owed type.the_type type-laws.the_laws h vs p).1.1.1 in
    record {
      sized = record {
        state-size = o.0.1.0.1;
        held-size = o.1.0.1.0.1;
      };
      state-byte = field-bytes h.state o.0.0 o.0.1.1;
      held-byte = field-bytes h.held o.1.0.0 o.1.0.1.1;
    }
