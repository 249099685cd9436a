-- What the printer's functions leave behind. Only inner contracts cite it.
use Rattle.std.specs.Prelude.{ℕ, ◌≤◌, ◌<◌, ◌≡◌, cond, List, [], ◌∷◌, ◌++◌, ltb, length, get_or, Result, OnOk, OnErr}
use Prim.Native.Char.{code}
use Rattle.reply.specs.Bytes.{Bytes}
use Rattle.query.specs.Syntax as syntax
use Rattle.query.specs.Table.{Entries, entries, Meant, a_path, a_filter, meanings}
use Rattle.tables.specs.Promise.{EntriesRight}
use Rattle.shortest.proofs.Shown.{path_held, filter_held, path_shown, filter_shown}
use Rattle.printer.specs.declared.writing.TooLong.{TooLong}

-- A table whose entries are in order has an entry e.
pub record HasEntry (table : Bytes) (e : ℕ) : Type 0 where
  pub order : EntriesRight table
  pub within : e < length (entries table)

-- Behind the text x comes s, if there is room for it; if not, the two are too long.
pub record Goes (s x : Bytes) (r : Result Unit TooLong) (after : Bytes) : Type 0 where
  pub fits : OnOk r ((after ≡ x ++ s) × (length after ≤ 1024))
  pub full : OnErr r (1024 < length (x ++ s))

-- the text of what an entry stands for
abbrev pub meant_shown : Meant → Bytes
meant_shown (a_path p) = path_shown p
meant_shown (a_filter f) = filter_shown f

-- in brackets, if it is looser than asked for
abbrev pub meant_held : ℕ → Meant → Bytes
meant_held least (a_path p) = path_held least p (path_shown p)
meant_held least (a_filter f) = filter_held least f (filter_shown f)

abbrev pub meant_at : Entries → ℕ → Meant
meant_at es i = get_or (meanings es) i (a_path syntax.self)

unfoldable pub entry_shown : Entries → ℕ → Bytes
entry_shown es i = meant_shown (meant_at es i)

unfoldable pub entry_held : ℕ → Entries → ℕ → Bytes
entry_held least es i = meant_held least (meant_at es i)

-- how tightly what each kind makes is joined, by the kind's number
abbrev pub ranks : List ℕ
ranks = 0 ∷ 3 ∷ 3 ∷ 3 ∷ 3 ∷ 3 ∷ 3 ∷ 1 ∷ 0 ∷ 2 ∷ 0 ∷ 0 ∷ 0 ∷ 0 ∷ 0 ∷ 0 ∷ 2 ∷ 2 ∷ 2 ∷ 2 ∷ 2 ∷ 1 ∷ 0 ∷ []

-- the brackets around what a kind makes: paths have the numbers below 16
abbrev pub opening_for : ℕ → ℕ
opening_for kind = cond (ltb kind 16) (code "(") (code "{")

abbrev pub closing_for : ℕ → ℕ
closing_for kind = cond (ltb kind 16) (code ")") (code "}")
