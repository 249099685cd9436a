-- Demand 3, said of whatever fits the promises of calls 3 to 6: the rewritten query is faithful on every roll, the curator's answer is her
-- query's on the view, in view positions, and nothing but the view reaches her.
use Rattle.std.specs.Prelude.{ℕ, ◌*◌, ◌≤◌, ◌<◌, ◌≡◌, ◌↔◌, length, take}
use Rattle.reply.specs.Reply.{Said, count}
use Rattle.reply.specs.Bytes.{Bytes}
use Rattle.tree.specs.Tree.{Tree}
use Rattle.roll.specs.Roll.{nodes, node_bytes, Roll}
use Rattle.query.specs.Meaning.{reach}
use Rattle.query.specs.Table.{entries, query_of}
use Rattle.query.specs.Fault.{curators, Query}
use Rattle.answer.specs.Bitmap.{bit}
use Rattle.answer.specs.Promise.{Answered}
use Rattle.view.specs.View.{Position, View}
use Rattle.view.specs.Promise.{Seen, Annotated, ViewCut}
use Rattle.rewrite.specs.Promise.{Faithful, RewriteGiven}
use Rattle.curator.specs.Promise.{CuratorAnswered}

-- A call that is lent at least `size` bytes, whatever they are, says s and leaves x in their place.
pub record Lent (size : ℕ) (Call : Bytes → Said → Bytes → Type 0) (s : Said) (x : Bytes) : Type 0 where
  pub before : Bytes
  pub room : size ≤ length before
  pub fits : Call before s x

-- An accepted roll shows the view v, through an accepted annotation with its filter table.
pub record Shows (roll annotation filters : Bytes) (v : Tree) : Type 0 where
  pub accepted : Roll roll
  pub annotated : Annotated annotation filters
  pub is : View (nodes roll) (Seen roll annotation filters) v

-- Two answers are alike, each in a room of its own: the reply is the same and, where it is a count, so are the 512 bytes.
pub record Alike (s : Said) (x : Bytes) (u : Said) (y : Bytes) : Type 0 where
  pub reply : s ≡ u
  pub bitmap : {c : ℕ} → s ≡ count c → take 512 x ≡ take 512 y

pub record Demand3 : Type 0 where
  -- With no roll in hand, call 5 makes a query that, on every accepted roll, from every visible node, reaches exactly what hers reaches on
  -- the cut-out view,
  pub faithful : (annotation filters query : Bytes) {n : ℕ} {table : Bytes}
      → Lent 6144 (RewriteGiven annotation filters query) (count n) table
      → Faithful annotation filters (query_of (entries (take (6 * n) table))) (query_of (entries query))
  -- and no hidden node.
  pub no_hidden : (roll annotation filters query : Bytes) {n : ℕ} {table : Bytes} (i j : ℕ)
      → Lent 6144 (RewriteGiven annotation filters query) (count n) table → Roll roll → Seen roll annotation filters i
      → reach (nodes roll) (query_of (entries (take (6 * n) table))) i j → Seen roll annotation filters j
  -- Her answer is in view positions: those of the nodes that call 3 gives on the roll for that query.
  pub positions : (roll annotation filters query : Bytes) {n c d : ℕ} {table x y : Bytes}
      → Lent 6144 (RewriteGiven annotation filters query) (count n) table
      → Lent 512 (Answered roll (take (6 * n) table)) (count c) x
      → Lent 512 (CuratorAnswered roll annotation filters query) (count d) y
      → (k : ℕ) → k < 4096 → (bit y k ≡ 1) ↔ ((i : ℕ) × (bit x i ≡ 1) × Position (Seen roll annotation filters) i k)
  -- It is the answer that call 3 gives to her query on the view that call 4 cuts out.
  pub on_view : (roll annotation filters query : Bytes) {c : ℕ} {s u : Said} {view x y : Bytes} → Query curators query
      → Lent (length roll) (ViewCut roll annotation filters) (count c) view
      → Lent 512 (CuratorAnswered roll annotation filters query) s x → Lent 512 (Answered (take (4 * c) view) query) u y → Alike s x u y
  -- Two rolls with equal views give her the same reply and the same 512 bytes, whatever she asks, and through whatever annotations and
  -- filter tables they show her these views. "Two views are equal if their tables are equal byte by byte."
  pub equal_views : {roll annotation filters roll' annotation' filters' : Bytes} {v w : Tree} (query : Bytes) {s u : Said} {x y : Bytes}
      → Shows roll annotation filters v → Shows roll' annotation' filters' w → node_bytes v ≡ node_bytes w
      → Lent 512 (CuratorAnswered roll annotation filters query) s x → Lent 512 (CuratorAnswered roll' annotation' filters' query) u y
      → Alike s x u y
  -- So do two rolls for which call 4 gives one count and the same bytes.
  pub equal_cuts : (roll annotation filters roll' annotation' filters' query : Bytes) {c : ℕ} {s u : Said} {cut cut' x y : Bytes}
      → Lent (length roll) (ViewCut roll annotation filters) (count c) cut
      → Lent (length roll') (ViewCut roll' annotation' filters') (count c) cut' → take (4 * c) cut ≡ take (4 * c) cut'
      → Lent 512 (CuratorAnswered roll annotation filters query) s x → Lent 512 (CuratorAnswered roll' annotation' filters' query) u y
      → Alike s x u y
