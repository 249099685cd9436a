-- The entries of a rewritten query, behind those of the filter table: for the annotation's records, for who is visible and the four axes of
-- the view, and one for each entry of the query. Nothing here has to be believed: the laws say what the table stands for, and call 5's
-- promise is stated without it.
use Rattle.std.specs.Prelude.{ℕ, ◌+◌, ◌-◌, ◌*◌, List, [], ◌∷◌, ◌++◌, map, length, get_or}
use Rattle.query.specs.Kind.{Operand, unused, of, row_of}
use Rattle.query.specs.Table.{Entry, Entries}
use Rattle.tables.specs.Shape.{left_of, right_of}
use Rattle.view.specs.Annotation.{AnnotationRecord}

-- an entry with operands
abbrev pub entry : ℕ → ℕ → ℕ → Entry
entry kind left right = record { kind = kind; label = 0; left = left; right = right }

-- "label is the given one"
abbrev pub label_entry : ℕ → Entry
label_entry label = record { kind = 16; label = label; left = 0; right = 0 }

-- The number of an operand that stands elsewhere; a field that is unused stays as it is.
unfoldable pub moved : (ℕ → ℕ) → Operand → ℕ → ℕ
moved to unused x = x
moved to (of sort) x = to x

-- An entry whose operands stand elsewhere.
unfoldable pub renumber : (ℕ → ℕ) → Entry → Entry
renumber to e =
    record {
      kind = e.kind;
      label = e.label;
      left = moved to (left_of (row_of e.kind)) e.left;
      right = moved to (right_of (row_of e.kind)) e.right;
    }

-- An entry whose operands stand a distance further on.
abbrev pub raise : ℕ → Entry → Entry
raise distance = renumber (λ x. x + distance)

-- The parent step, which every record uses, and "false" twice: no record is the node's, and none shows it.
abbrev pub opening : Entries
opening = entry 3 0 0 ∷ entry 19 0 0 ∷ entry 19 0 0 ∷ []

-- Six entries for a pair of labels, the first with number b; the parent step has the number `up`.
abbrev pub pair_entries : (up b parent child : ℕ) → Entries
pair_entries up b parent child =
    label_entry child
    ∷ label_entry parent
    ∷ entry 6 (b + 1) 0
    ∷ entry 7 up (b + 2)
    ∷ entry 17 (b + 3) 0
    ∷ entry 21 b (b + 4)
    ∷ []

-- Nine entries for a record. The two before them say of the records that were written whether one is the node's, and whether one shows it;
-- the last two of the nine say so with this record.
abbrev pub nine_entries : (up b parent child filter : ℕ) → Entries
nine_entries up b parent child filter =
    pair_entries up b parent child ++ (entry 21 (b + 5) filter ∷ entry 22 (b + 5) (b - 2) ∷ entry 22 (b + 6) (b - 1) ∷ [])

abbrev pub record_entries : ℕ → ℕ → AnnotationRecord → Entries
record_entries up b r = nine_entries up b r.parent r.child r.filter

-- The entries of all records, the last record first, behind the opening; `first` is the number of the parent step.
unfoldable pub records_entries : ℕ → List AnnotationRecord → Entries
records_entries first [] = []
records_entries first (r ∷ more) = records_entries first more ++ record_entries first (first + 3 + 9 * length more) r

-- Who is visible, and the four axes. Operands count from the two entries before: 0 is "some record is the node's", 1 is "some record shows
-- it".
unfoldable pub axis_rows : Entries
axis_rows =
    entry 3 0 0
    ∷ entry 20 0 0
    ∷ entry 6 3 0
    ∷ entry 7 4 2
    ∷ entry 9 5 0
    ∷ entry 17 2 0
    ∷ entry 20 7 0
    ∷ entry 22 8 1
    ∷ entry 6 9 0
    ∷ entry 7 6 10
    -- 12: visible; 13: stay if visible; 15: stay if hidden
    ∷ entry 17 11 0
    ∷ entry 6 12 0
    ∷ entry 20 12 0
    ∷ entry 6 14 0
    -- 16: child; 20: down
    ∷ entry 2 0 0
    ∷ entry 7 15 16
    ∷ entry 9 17 0
    ∷ entry 7 18 13
    ∷ entry 7 16 19
    -- 24: up
    ∷ entry 7 15 2
    ∷ entry 9 21 0
    ∷ entry 7 22 13
    ∷ entry 7 2 23
    -- 25: next; 28: stay if there is no next
    ∷ entry 4 0 0
    ∷ entry 17 25 0
    ∷ entry 20 26 0
    ∷ entry 6 27 0
    -- 32: skip
    ∷ entry 7 2 15
    ∷ entry 7 28 29
    ∷ entry 9 30 0
    ∷ entry 7 31 25
    -- 33: previous; 36: stay if there is no previous; 39: stay if there is no child
    ∷ entry 5 0 0
    ∷ entry 17 33 0
    ∷ entry 20 34 0
    ∷ entry 6 35 0
    ∷ entry 17 16 0
    ∷ entry 20 37 0
    ∷ entry 6 38 0
    -- 43: onwards; 46: forwards
    ∷ entry 7 16 36
    ∷ entry 7 39 32
    ∷ entry 8 40 41
    ∷ entry 7 15 42
    ∷ entry 9 43 0
    ∷ entry 7 44 13
    ∷ entry 7 32 45
    -- 50: back
    ∷ entry 7 16 28
    ∷ entry 7 15 47
    ∷ entry 9 48 0
    ∷ entry 7 33 49
    -- 57: backwards
    ∷ entry 7 36 2
    ∷ entry 7 50 39
    ∷ entry 8 51 52
    ∷ entry 7 53 15
    ∷ entry 9 54 0
    ∷ entry 7 50 13
    ∷ entry 7 55 56
    ∷ []

-- row k of them
abbrev pub axis_row : ℕ → Entry
axis_row k = get_or axis_rows k (entry 0 0 0)

-- What stands before the query's own entries: it depends on the annotation and on the number of filter entries alone.
unfoldable pub prelude : ℕ → List AnnotationRecord → Entries
prelude first records = opening ++ (records_entries first records ++ map (raise (first + 1 + 9 * length records)) axis_rows)

-- how many entries that is
abbrev pub prelude_size : ℕ → ℕ
prelude_size records = 59 + 9 * records

-- What is written for an entry of the query, by the number of its kind: a step along an axis becomes a copy of that axis's last row, any
-- other stays what it is.
unfoldable pub chosen : (axes : ℕ) → Entry → ℕ → Entry
chosen axes own kind =
    get_or (own ∷ own ∷ raise axes (axis_row 18) ∷ raise axes (axis_row 22) ∷ raise axes (axis_row 44) ∷ raise axes (axis_row 55) ∷ []) kind own

-- the same, its operands raised
unfoldable pub view_entry : (axes distance : ℕ) → Entry → Entry
view_entry axes distance e = chosen axes (raise distance e) e.kind

-- The entries behind the filter table's: the prelude, then the query's.
unfoldable pub written : ℕ → List AnnotationRecord → Entries → Entries
written first records query =
    let distance : ℕ = first + prelude_size (length records) in
    prelude first records ++ map (view_entry (first + 1 + 9 * length records) distance) query
