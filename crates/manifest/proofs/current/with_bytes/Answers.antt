-- `manifest::current::with_bytes` meets its contract: bytes taken at once are bytes taken one by one. Assumes nothing.
use mathlib.Core.Path.{◌≡◌, sym, ap, ◌∙◌}
use mathlib.Core.List.{List, [], ◌∷◌, foldl}
use Prim.Native.Nat.{ℕ, ◌+◌, ◌*◌, ◌≤◌}
use native.Mathlib.Omega.{arith}
use lib.ListN.{length}
use Rattle.standard.specs.Messages.{bytes}
use Rattle.answers.specs.Outputs.{max_bits}
use Rattle.hasher.specs.declared.Hasher.{Hasher}
use Rattle.hasher.specs.declared.Advanced.{Advanced}
use Rattle.hasher.specs.Running.{updated}
use Rattle.hasher.specs.Sized.{Sized}
use Rattle.hasher.specs.Pieces.{with_byte}
use Rattle.hasher.proofs.Owned.{owned}
use Rattle.hasher.proofs.ByteByByte.{byte-by-byte}
use Rattle.manifest.proofs.current.with_bytes.Goals as goal

some : (h : Hasher) → Sized h → (part : List ℕ) → 1 ≤ length part → (h.total + 8 ≤ max_bits → h.total + 8 * length part ≤ max_bits)
    → (updated h (bytes part)).hasher ≡ foldl with_byte h part
some h z [] l room = absurd (omega arith)
some h z (b ∷ part) l room = sym (byte-by-byte h z b part room)

pub returns : goal.returns
returns c = ap (λ (a : Advanced). a.hasher) c.update.ensures ∙ some _ (owned c.args.h _ c.well_formed.0).sized _ c.requires.in_bounds c.requires.part_bound
