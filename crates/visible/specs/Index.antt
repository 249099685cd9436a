-- The index of an annotation: for each pair of labels the record that answers for it.
use Rattle.std.specs.Prelude.{ℕ, ◌+◌, ◌*◌, ◌≤◌, ◌<◌, ◌≡◌, List, length, slice_index_or, Option, Some, None}
use Rattle.reply.specs.Bytes.{Bytes}
use Rattle.tree.specs.Tree.{Label}
use Rattle.view.specs.Annotation.{records, record_at}

-- the place of a pair: labels are below 65
abbrev pub pair_of : ℕ → ℕ → ℕ
pair_of parent child = 65 * parent + child

-- record r of the annotation has the pair
pub record HasPair (annotation : Bytes) (p c r : ℕ) : Type 0 where
  pub parent : (record_at (records annotation) r).parent ≡ p
  pub child : (record_at (records annotation) r).child ≡ c

-- s is the first record that names the filter of record r
pub record FirstNamed (annotation : Bytes) (r s : ℕ) : Type 0 where
  pub known : s ≤ r
  pub same : (record_at (records annotation) s).filter ≡ (record_at (records annotation) r).filter
  pub first : (k : ℕ) → k < s → ¬ ((record_at (records annotation) k).filter ≡ (record_at (records annotation) r).filter)

-- What the index says of a pair, where the first n records are in it: nothing for no record, else the first record that names the filter
-- of the pair's record.
pub data Row (annotation : Bytes) (n parent child : ℕ) : Option ℕ → Type 0 where
  none : ((r : ℕ) → r < n → ¬ HasPair annotation parent child r) → Row annotation n parent child None
  at : {r s : ℕ} → r < n → HasPair annotation parent child r → FirstNamed annotation r s → Row annotation n parent child (Some s)

pub record IndexTo (annotation : Bytes) (n : ℕ) (index : List (Option ℕ)) : Type 0 where
  pub row : (parent child : ℕ) → Label parent → Label child → Row annotation n parent child (slice_index_or index (pair_of parent child) None)
  pub most : (k r : ℕ) → slice_index_or index k None ≡ Some r → r < n

-- all records are in it
abbrev pub Indexed : Bytes → List (Option ℕ) → Type 0
Indexed annotation index = IndexTo annotation (length (records annotation)) index

-- the pair of every record is one of labels
abbrev pub Labelled : Bytes → Type 0
Labelled annotation =
    let rs = records annotation in (r : ℕ) → r < length rs → Label (record_at rs r).parent × Label (record_at rs r).child
