-- What an entry that is read stands for.
use Rattle.std.specs.Prelude.{ℕ, ◌<◌, ◌≡◌}
use Rattle.reply.specs.Bytes.{Bytes}
use Rattle.query.specs.Kind.{Sort, path, filter}
use Rattle.query.specs.Syntax as syntax
use Rattle.query.specs.Table.{entries, path_at, filter_at}
use Rattle.evaluator.specs.Course.{path_of}
use Rattle.evaluator.specs.Evaluator.{Within}
use Rattle.evaluator.specs.declared.entry.PathEntry.{PathEntry}
use Rattle.evaluator.specs.declared.entry.PathEntry.TheVariants.{Itself, Along, Stay, Then, Either, Star}
use Rattle.evaluator.specs.declared.entry.FilterEntry.{FilterEntry}
use Rattle.evaluator.specs.declared.entry.FilterEntry.TheVariants.{Labelled, Leads, Always, Never, Not, And, Or}

-- x is an operand of entry e: an earlier entry of a sort
pub record Part (table : Bytes) (e : ℕ) (s : Sort) (x : ℕ) : Type 0 where
  pub earlier : x < e
  pub entry : Within table s x

module _ (table : Bytes) (e : ℕ) where
  -- two operands of one sort
  pub record Parts (s : Sort) (x y : ℕ) : Type 0 where
    pub left : Part table e s x
    pub right : Part table e s y

  -- entry e stands for this path
  abbrev pub ForPath : PathEntry → Type 0
  ForPath Itself = path_at (entries table) e ≡ syntax.self
  ForPath (Along axis) = path_at (entries table) e ≡ path_of axis
  ForPath (Stay f) = Part table e filter f × (path_at (entries table) e ≡ syntax.stay (filter_at (entries table) f))
  ForPath (Then p q) =
      Parts path p q × (path_at (entries table) e ≡ syntax.then (path_at (entries table) p) (path_at (entries table) q))
  ForPath (Either p q) =
      Parts path p q × (path_at (entries table) e ≡ syntax.either (path_at (entries table) p) (path_at (entries table) q))
  ForPath (Star p) = Part table e path p × (path_at (entries table) e ≡ syntax.star (path_at (entries table) p))

  -- entry e stands for this filter
  abbrev pub ForFilter : FilterEntry → Type 0
  ForFilter (Labelled l) = filter_at (entries table) e ≡ syntax.labelled l
  ForFilter (Leads p) = Part table e path p × (filter_at (entries table) e ≡ syntax.leads (path_at (entries table) p))
  ForFilter Always = filter_at (entries table) e ≡ syntax.always
  ForFilter Never = filter_at (entries table) e ≡ syntax.never
  ForFilter (Not f) = Part table e filter f × (filter_at (entries table) e ≡ syntax.not (filter_at (entries table) f))
  ForFilter (And f g) =
      Parts filter f g × (filter_at (entries table) e ≡ syntax.and (filter_at (entries table) f) (filter_at (entries table) g))
  ForFilter (Or f g) =
      Parts filter f g × (filter_at (entries table) e ≡ syntax.or (filter_at (entries table) f) (filter_at (entries table) g))
