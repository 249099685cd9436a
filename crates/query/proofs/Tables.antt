-- Entry tables: which bytes an entry has, and what reading a table from the front gives. Assumes nothing.
use Prim.Native.Nat.{ℕ, zero, suc, ◌+◌, ◌*◌, ◌/◌, ◌≤◌, ◌<◌}
use native.Mathlib.Nat.{le_of_lt}
use native.Mathlib.Omega.{arith}
use mathlib.Core.Path.{◌≡◌, refl, sym, ap, ◌∙◌, subst}
use mathlib.Core.List.{List, [], ◌∷◌, ◌++◌}
use lib.ListN.{length, get_or, take, drop, length-append, get_or-eq_default}
use lib.Seq.{take-length, take-append_seam, take-take, get_or-take, get_or_at, split_at, length-take-le}
use Rattle.reply.specs.Bytes.{Bytes, two}
use Rattle.query.specs.Table.{Entry, Entries, entries, entry_at, read_on}

-- a table has an entry for each six bytes
pub entries_length : (b : Bytes) → length (entries b) ≡ length b / 6
unfolding entries
entries_length [] = refl
entries_length (a ∷ []) = refl
entries_length (a ∷ b ∷ []) = refl
entries_length (a ∷ b ∷ c ∷ []) = refl
entries_length (a ∷ b ∷ c ∷ d ∷ []) = refl
entries_length (a ∷ b ∷ c ∷ d ∷ e ∷ []) = refl
entries_length (a ∷ b ∷ c ∷ d ∷ e ∷ f ∷ more) = omega (arith, entries_length more)

-- the entry that begins at a byte
unfoldable pub entry_from : Bytes → ℕ → Entry
entry_from b at =
    record {
      kind = get_or b at 0;
      label = get_or b (suc at) 0;
      left = two (get_or b (suc (suc at)) 0) (get_or b (suc (suc (suc at))) 0);
      right = two (get_or b (suc (suc (suc (suc at)))) 0) (get_or b (suc (suc (suc (suc (suc at))))) 0);
    }

-- entry i begins at byte 6 i
pub entry_bytes_lem : (b : Bytes) (i : ℕ) → i < length (entries b) → entry_at (entries b) i ≡ entry_from b (6 * i)
unfolding entries entry_at entry_from
entry_bytes_lem [] i l = absurd (omega arith)
entry_bytes_lem (a ∷ []) i l = absurd (omega arith)
entry_bytes_lem (a ∷ b ∷ []) i l = absurd (omega arith)
entry_bytes_lem (a ∷ b ∷ c ∷ []) i l = absurd (omega arith)
entry_bytes_lem (a ∷ b ∷ c ∷ d ∷ []) i l = absurd (omega arith)
entry_bytes_lem (a ∷ b ∷ c ∷ d ∷ e ∷ []) i l = absurd (omega arith)
entry_bytes_lem (a ∷ b ∷ c ∷ d ∷ e ∷ f ∷ more) zero l = refl
entry_bytes_lem (a ∷ b ∷ c ∷ d ∷ e ∷ f ∷ more) (suc i) l =
    let later : suc (suc (suc (suc (suc (suc (6 * i)))))) ≡ 6 * suc i = omega arith in
    entry_bytes_lem more i (omega arith) ∙ ap (entry_from (a ∷ b ∷ c ∷ d ∷ e ∷ f ∷ more)) later

-- an entry that is not there has no fields
pub no_entry : (b : Bytes) (i : ℕ) → length (entries b) ≤ i → entry_at (entries b) i ≡ record { kind = 0; label = 0; left = 0; right = 0 }
unfolding entry_at
no_entry b i l = get_or-eq_default (entries b) (record { kind = 0; label = 0; left = 0; right = 0 }) l

-- What reading a table gives, for any way to read an entry in what was read before it.
module _ {A : Type 0} (read : List A → Entry → A) where
  -- a result for each entry
  pub read_length : (before : List A) (es : Entries) → length (read_on read before es) ≡ length before + length es
  unfolding read_on
  read_length before [] = omega arith
  read_length before (e ∷ more) = omega (arith, read_length (before ++ (read before e ∷ [])) more, length-append before (read before e ∷ []))

  -- a table is read as its front, and then the rest
  pub read_append : (before : List A) (es more : Entries) → read_on read before (es ++ more) ≡ read_on read (read_on read before es) more
  unfolding read_on
  read_append before [] more = refl
  read_append before (e ∷ es) more = read_append (before ++ (read before e ∷ [])) es more

  -- reading on keeps what was read before
  pub read_before : (before : List A) (es : Entries) → take (length before) (read_on read before es) ≡ before
  unfolding read_on
  read_before before [] = take-length before
  read_before before (e ∷ more) =
      let next : List A = before ++ (read before e ∷ []) in
      let shorter : length before ≤ length next = omega (arith, length-append before (read before e ∷ [])) in
      sym (take-take (length before) (length next) (read_on read next more) shorter)
      ∙ ap (take (length before)) (read_before next more)
      ∙ take-append_seam before (read before e ∷ [])

  -- so it keeps each result
  pub read_keeps : (before : List A) (es : Entries) (i : ℕ) (d : A) → i < length before → get_or (read_on read before es) i d ≡ get_or before i d
  read_keeps before es i d l =
      sym (get_or-take (length before) (read_on read before es) i d l) ∙ ap (λ (results : List A). get_or results i d) (read_before before es)

  -- a longer table gives the same for the entries that it shares
  pub read_prefix : (es more : Entries) (i : ℕ) (d : A) → i < length es → get_or (read_on read [] (es ++ more)) i d ≡ get_or (read_on read [] es) i d
  read_prefix es more i d l =
      ap (λ (results : List A). get_or results i d) (read_append [] es more) ∙ read_keeps (read_on read [] es) more i d (omega (arith, read_length [] es))

  -- each entry is read in the results of those before it
  pub read_at : (es : Entries) (i : ℕ) (d : A) (e : Entry) → i < length es
      → get_or (read_on read [] es) i d ≡ read (take i (read_on read [] es)) (get_or es i e)
  unfolding read_on
  read_at es i d e l =
      let front : List A = read_on read [] (take i es) in
      let x : Entry = get_or es i e in
      let behind : Entries = drop (suc i) es in
      let whole : read_on read [] es ≡ read_on read front (x ∷ behind) = ap (read_on read []) (split_at es i e l) ∙ read_append [] (take i es) (x ∷ behind) in
      let reached : length front ≡ i = omega (arith, read_length [] (take i es), length-take-le i es (le_of_lt l)) in
      let more : i < length (front ++ (read front x ∷ [])) = omega (arith, length-append front (read front x ∷ [])) in
      let before : take i (read_on read [] es) ≡ front = ap (take i) whole ∙ subst (λ (n : ℕ). take n (read_on read front (x ∷ behind)) ≡ front) reached (read_before front (x ∷ behind)) in
      ap (λ (results : List A). get_or results i d) whole
      ∙ read_keeps (front ++ (read front x ∷ [])) behind i d more
      ∙ get_or_at front (read front x) [] d i reached
      ∙ ap (λ (results : List A). read results x) (sym before)
