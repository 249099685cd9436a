-- Annotations: which bytes are one, given its filter table, and the fault that any other bytes have.
use Rattle.std.specs.Prelude.{ℕ, zero, suc, ◌<◌, ◌≡◌, ◌⊎◌, List, [], ◌∷◌, map, length, get_or}
use Rattle.reply.specs.Bytes.{Bytes, two, Whole}
use Rattle.reply.specs.Outcome.{Lowest}
use Rattle.tree.specs.Tree.{Label}
use Rattle.query.specs.Syntax.{Filter}
use Rattle.query.specs.Kind.{filter}
use Rattle.query.specs.Table.{Entries, HasSort, filter_at}

pub record AnnotationRecord : Type 0 where
  pub parent : ℕ
  pub child : ℕ
  pub filter : ℕ
  pub rest : ℕ

-- "Annotation record, 6 bytes: parent label, child label, number of a filter entry (two bytes), two zero bytes."
unfoldable pub records : Bytes → List AnnotationRecord
records [] = []
records (a ∷ []) = []
records (a ∷ b ∷ []) = []
records (a ∷ b ∷ c ∷ []) = []
records (a ∷ b ∷ c ∷ d ∷ []) = []
records (a ∷ b ∷ c ∷ d ∷ e ∷ []) = []
records (parent ∷ child ∷ low ∷ high ∷ z ∷ z' ∷ more) = record { parent = parent; child = child; filter = two low high; rest = two z z' } ∷ records more

abbrev blank : AnnotationRecord
blank = record { parent = 0; child = 0; filter = 0; rest = 0 }

unfoldable pub record_at : List AnnotationRecord → ℕ → AnnotationRecord
record_at all i = get_or all i blank

-- Labels, "two zero bytes", and a filter entry is named. "All filters of an annotation stand in one filter table."
pub record RecordForm (es : Entries) (r : AnnotationRecord) : Type 0 where
  pub parent : Label r.parent
  pub child : Label r.child
  pub rest : r.rest ≡ 0
  pub named : r.filter < length es
  pub filter : HasSort es r.filter filter

-- "Pairs ascend strictly, by parent label and then child label."
unfoldable pub Ascends : AnnotationRecord → AnnotationRecord → Type 0
Ascends r s = (r.parent < s.parent) ⊎ ((r.parent ≡ s.parent) × (r.child < s.child))

unfoldable pub AboveLast : List AnnotationRecord → ℕ → Type 0
AboveLast all zero = Unit {0}
AboveLast all (suc i) = Ascends (record_at all i) (record_at all (suc i))

module _ (es : Entries) (b : Bytes) where
  pub record RecordRight (i : ℕ) : Type 0 where
    pub form : RecordForm es (record_at (records b) i)
    pub ascends : AboveLast (records b) i

  -- 10, "annotation label outside 1 to 64, last bytes not zero, or no filter entry named"; 11, "pair not above the one before"
  pub data RecordFault : ℕ → ℕ → Type 0 where
    malformed : {i : ℕ} → ¬ RecordForm es (record_at (records b) i) → RecordFault 10 i
    not_above : {i : ℕ} → RecordForm es (record_at (records b) i) → ¬ AboveLast (records b) i → RecordFault 11 i

  pub record Annotation : Type 0 where
    pub size : Whole 6 32 b
    pub each : (i : ℕ) → i < length (records b) → RecordRight i

  -- "annotation (6, then lowest record, in it 10, 11)"
  pub data AnnotationFault : ℕ → ℕ → Type 0 where
    bad_length : ¬ Whole 6 32 b → AnnotationFault 6 0
    bad_record : {n i : ℕ} → Whole 6 32 b → Lowest RecordRight RecordFault (length (records b)) n i → AnnotationFault n i

-- What a record says: under a parent of this label, a child of that label is visible where the filter holds.
pub record Rule : Type 0 where
  pub parent : ℕ
  pub child : ℕ
  pub filter : Filter

unfoldable pub rules : Entries → Bytes → List Rule
rules es b = map (λ r. record { parent = r.parent; child = r.child; filter = filter_at es r.filter }) (records b)
