-- Need not be believed: in-pieces says what the three calls in a row come to.
-- A report in progress: what each byte of the stream makes of it, for the contracts of a report's calls. Total: a
-- report that no stream leads to has its next one too.
-- Assumes nothing.
use Rattle.std.specs.Prelude.{Bool, true, false, cond, not, ◌&&◌, ℕ, ◌+◌, ◌-◌, eqb, ltb, leb, replicate, get_or, set}
use mathlib.Core.List.{List, foldl}
use Rattle.answers.specs.Outputs.{when_done, max_bytes}
use Rattle.standard.specs.Bits.{digit}
use Rattle.standard.specs.Grid.{tab}
use Rattle.standard.specs.Layout.{digest_room}
use Rattle.hasher.specs.declared.Hasher.{Hasher}
use Rattle.standard.specs.declared.Wanted.TheVariants.{Digest}
use Rattle.hasher.specs.Running.{blank, started, finished}
use Rattle.hasher.specs.Reading.{read_status, read_into}
use Rattle.hasher.specs.Pieces.{with_byte}
use Rattle.manifest.specs.declared.tally.Tally.{Tally}
use Rattle.manifest.specs.declared.current.Current.{Current}
use Rattle.manifest.specs.declared.report.Report.{Report}
use Rattle.manifest.specs.declared.report.Beginning.{Beginning}
use Rattle.manifest.specs.declared.report.Summary.{Summary}
use Rattle.octets.specs.Slices.{same}
use Rattle.manifest.specs.Records.{max_records, record_count, variant_at, digest_field_at, manifest_status}
use Rattle.manifest.specs.Tables.{header_bytes, axis_in, length_in, max_tables}
use Rattle.manifest.specs.Lookups.{is_ordered, record_for, is_listed}

-- ---- the table that is being read

-- none yet
abbrev pub unread : Current
unread = record { header = replicate header_bytes 0; got = 0; left = 0; hasher = blank 0 }

-- the variant under which a table is hashed: that of its axis's record; 0, under which nothing is, if the axis is not
-- listed or the table is past the limit
unfoldable pub variant_for : List ℕ → ℕ → ℕ → ℕ
variant_for manifest axis n =
    cond (is_listed manifest axis && leb n max_bytes) (variant_at manifest (record_for manifest axis)) 0

-- its header is there, and the contents are to come
unfoldable pub opened_table : List ℕ → List ℕ → Current
opened_table manifest header =
    record {
      header = header;
      got = header_bytes;
      left = length_in header;
      hasher = (started (variant_for manifest (axis_in header) (length_in header))).hasher;
    }

-- a byte of the header
unfoldable pub header_byte : List ℕ → Current → ℕ → Current
header_byte manifest c b =
    cond (ltb (c.got + 1) header_bytes)
    (record { header = set c.header c.got b; got = c.got + 1; left = c.left; hasher = c.hasher })
    (opened_table manifest (set c.header c.got b))

-- a byte of the contents
unfoldable pub content_byte : Current → ℕ → Current
content_byte c b = record { header = c.header; got = c.got; left = c.left - 1; hasher = with_byte c.hasher b }

unfoldable pub table_byte : List ℕ → Current → ℕ → Current
table_byte manifest c b = cond (ltb c.got header_bytes) (header_byte manifest c b) (content_byte c b)

-- its last byte was read
unfoldable pub is_complete : Current → Bool
is_complete c = leb header_bytes c.got && eqb c.left 0

-- ---- the tally of the tables read

-- the tables told so far
abbrev pub tallied : Tally → ℕ
tallied y = y.equal + y.unequal + y.unlisted

-- a running hash can be closed and read, and its digest with zeros after it is what record k holds
unfoldable pub matches : List ℕ → ℕ → Hasher → Bool
matches manifest k h =
    when_done
    (read_status (finished h).hasher Digest digest_room)
    (same (read_into (finished h).hasher Digest (replicate digest_room 0)) (digest_field_at manifest k))
    false

-- a table of record k: its axis is no longer awaited
unfoldable pub with_listed : Tally → ℕ → Bool → Tally
with_listed y k agrees =
    record {
      listed = y.listed;
      untold = y.untold - get_or y.awaited k 0;
      equal = y.equal + digit agrees;
      unequal = y.unequal + digit (not agrees);
      unlisted = y.unlisted;
      awaited = set y.awaited k 0;
    }

-- a table of no listed axis
unfoldable pub with_unlisted : Tally → Tally
with_unlisted y =
    record {
      listed = y.listed;
      untold = y.untold;
      equal = y.equal;
      unequal = y.unequal;
      unlisted = y.unlisted + 1;
      awaited = y.awaited;
    }

-- the table that was read
unfoldable pub with_table : List ℕ → Tally → Current → Tally
with_table manifest y c =
    cond (is_listed manifest (axis_in c.header))
    (with_listed y (record_for manifest (axis_in c.header))
    (matches manifest (record_for manifest (axis_in c.header)) c.hasher))
    (with_unlisted y)

-- ---- the report

-- the table goes into the tally once it is over
unfoldable pub settled : List ℕ → Tally → Current → Report
settled manifest y c =
    cond (is_complete c)
    (record { passed = true; tally = with_table manifest y c; current = unread })
    (record { passed = true; tally = y; current = c })

-- a byte of the stream; none is looked at after the last table
unfoldable pub byte_taken : List ℕ → Report → ℕ → Report
byte_taken manifest r b =
    cond (ltb (tallied r.tally) max_tables) (settled manifest r.tally (table_byte manifest r.current b)) r

-- each byte of a piece in turn; after a beginning that was refused, and with bytes that are not whole records or do not
-- rise, nothing is read
unfoldable pub piece_taken : List ℕ → Report → List ℕ → Report
piece_taken manifest r piece = cond (r.passed && is_ordered manifest) (foldl (byte_taken manifest) r piece) r

-- every axis awaited, by its record
unfoldable pub awaited_all : List ℕ → List ℕ
awaited_all manifest = tab max_records (λ k. digit (ltb k (record_count manifest)))

-- no table read yet
unfoldable pub fresh_report : List ℕ → Report
fresh_report manifest =
    record {
      passed = true;
      tally =
          record {
            listed = record_count manifest;
            untold = record_count manifest;
            equal = 0;
            unequal = 0;
            unlisted = 0;
            awaited = awaited_all manifest;
          };
      current = unread;
    }

-- a report of nothing: what a refused manifest yields
abbrev pub empty_report : Report
empty_report =
    record {
      passed = false;
      tally = record { listed = 0; untold = 0; equal = 0; unequal = 0; unlisted = 0; awaited = replicate max_records 0 };
      current = unread;
    }

unfoldable pub begun : List ℕ → Beginning
begun manifest =
    record {
      status = manifest_status manifest;
      report = when_done (manifest_status manifest) (fresh_report manifest) empty_report;
    }

-- ---- the counts

-- those that a report has come to
unfoldable pub counts_so_far : Report → Summary
counts_so_far r =
    record {
      listed = r.tally.listed;
      tables = tallied r.tally;
      equal = r.tally.equal;
      unequal = r.tally.unequal;
      untold = r.tally.untold;
      unlisted = r.tally.unlisted;
    }
