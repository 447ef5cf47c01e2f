-- The cutting list: the parts of a file that a release takes, a line for each; and the release that is written from it.
-- Assumes nothing.
use Rattle.std.specs.Prelude.{ℕ, zero, suc, ◌+◌, ◌-◌, Bool, true, false, List, [], ◌∷◌, ◌++◌, map, length, drop, ltb}
use Rattle.fields.specs.Lists.{kept}
use Rattle.fields.specs.Bytes.{Bytes, part}
use Rattle.fields.specs.Checks.{fail_if, then, Verdict, Passes, Fails}
use Rattle.lasfile.specs.Records.{Record, front_size, payload_length, record_of, places, record_at}
use Rattle.lasfile.specs.HeaderFields.{header_size, point_offset, record_count, format, record_length, point_count}
use Rattle.lasfile.specs.FileChecks.{file_verdict}
use Rattle.sheet.specs.Sheet.{sheet_verdict}
use Rattle.sheet.specs.Keeping.{keeps_point}
use Rattle.publicpart.specs.Public.{Public, carried_of, sheet_keeps, public_of}
use Rattle.publicpart.specs.Render.{render}
use Rattle.publicpart.specs.Release.{Outcome, room_or}
use Rattle.publicpart.specs.declared.Span.{Span}
use Rattle.publicpart.specs.Release as answer

-- a line: a place and a length
abbrev pub span : ℕ → ℕ → Span
span at n = record { place = at; length = n }

-- the bytes of a file that a line names
unfoldable pub named : Bytes → Span → Bytes
named s l = part l.place l.length s

-- ---- the lines

-- the payload of the record at a place: behind its header, and as long as that says
unfoldable pub payload_line : Bytes → ℕ → Span
payload_line s at = span (at + front_size 2) (payload_length 2 (drop at s))

-- the lines of those of n records, the first at a place, that a sheet keeps
unfoldable pub payload_lines : Bytes → Bytes → ℕ → ℕ → List Span
payload_lines sheet s n at = map (payload_line s) (kept (λ a. sheet_keeps sheet (record_at 2 s a)) (places 2 n at s))

-- where n runs of one length begin, back to back from a place on
unfoldable pub strides : ℕ → ℕ → ℕ → List ℕ
strides len zero at = []
strides len (suc n) at = at ∷ strides len n (at + len)

-- the lines of those of n such runs that pass a test of their bytes
unfoldable pub piece_lines : (Bytes → Bool) → Bytes → ℕ → ℕ → ℕ → List Span
piece_lines keep s len n at = map (λ a. span a len) (kept (λ a. keep (part a len s)) (strides len n at))

-- one for the payload of every kept record
unfoldable pub record_lines : Bytes → Bytes → List Span
record_lines sheet s = payload_lines sheet s (record_count s) (header_size s)

-- one for every kept point
unfoldable pub point_lines : Bytes → Bytes → List Span
point_lines sheet s = piece_lines (keeps_point sheet (format s)) s (record_length s) (point_count s) (point_offset s)

-- the "cutting list" of a file under a sheet, in the file's order
unfoldable pub cutting_lines : Bytes → Bytes → List Span
cutting_lines sheet s = record_lines sheet s ++ point_lines sheet s

-- ---- a lent list

-- lines at the front of a list that has room for them, and those behind them as they were
unfoldable pub fill : List Span → List Span → List Span
fill lines list = lines ++ drop (length lines) list

-- the kept records and kept points together
abbrev pub kept_together : Public → ℕ
kept_together p = length p.records + length p.points

-- file (1 to 10), sheet (20 to 24), and 31 where a list of so many lines is shorter than the kept records and points
-- together
unfoldable pub list_verdict : Bytes → Bytes → ℕ → Verdict
list_verdict sheet s lines =
    then (then (file_verdict s) (sheet_verdict sheet)) (fail_if (ltb lines (kept_together (public_of sheet s))) 31 Passes)

-- what a cutting list answers: how many lines it has, or the number of the check that fails
pub data Listed : Type 0 where
  Lines : ℕ → Listed
  Refused : ℕ → Listed

-- an answer, and the list afterwards
unfoldable pub list_under : Verdict → List Span → List Span → Listed × List Span
list_under (Fails n) lines list = (Refused n, list)
list_under Passes lines list = (Lines (length lines), fill lines list)

-- a cutting list checks file, sheet and list, and fills the list from its front
unfoldable pub cutting_list : Bytes → Bytes → List Span → Listed × List Span
cutting_list sheet s list = list_under (list_verdict sheet s (length list)) (cutting_lines sheet s) list

-- ---- the release that is written from the list

-- the record whose payload a line names: its header stands before that, and it ends where the line does
unfoldable pub record_named : Bytes → Span → Record
record_named s l = record_of 2 (part (l.place - front_size 2) (front_size 2 + l.length) s)

-- what lines say of a file: its carried fields, the records whose payloads the first lines name, and the points that
-- the others name
unfoldable pub public_by : Bytes → List Span → List Span → Public
public_by s rs ps =
    record { carried = carried_of s; records = map (record_named s) rs; points = map (named s) ps }

-- the list afterwards: as it was where the output is too short
unfoldable pub fill_unless : Bool → List Span → List Span → List Span
fill_unless true lines list = list
fill_unless false lines list = fill lines list

-- an answer, the output and the list afterwards
unfoldable pub by_list_under : Verdict → Bytes → List Span → Outcome × List Span → Outcome × List Span
by_list_under (Fails n) out list later = ((answer.Refused n, out), list)
by_list_under Passes out list later = later

-- a release by a list checks file, sheet, list (31), room (30), fills the list, and writes what its lines say
unfoldable pub release_by_list : Bytes → Bytes → Bytes → List Span → Outcome × List Span
release_by_list sheet s out list =
    let p : Public = public_by s (record_lines sheet s) (point_lines sheet s) in
    by_list_under (list_verdict sheet s (length list)) out list
    (room_or p out, fill_unless (ltb (length out) (length (render p))) (cutting_lines sheet s) list)
