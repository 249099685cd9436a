-- The table of a text is a curator's query exactly if it fits: what call 2 writes, the calls that take a query accept. Assumes nothing.
use Prim.Native.Nat.{◌≤◌, ◌<◌}
use native.Mathlib.Omega.{arith}
use mathlib.Core.Path.{◌≡◌, sym, subst}
use lib.ListN.{length}
use Rattle.reply.specs.Bytes.{Bytes}
use Rattle.query.specs.Syntax.{Path}
use Rattle.query.specs.Table.{Entries, entries, entry_bytes, height_at, EntryRight}
use Rattle.query.specs.Fault.{curators, last, Query}
use Rattle.text.specs.Grammar.{PathText}
use Rattle.text.specs.Written.{table_of}
use Rattle.text.specs.Promise.{Fits, TextOf}
use Rattle.query.proofs.Bytes.{bytes_length}
use Rattle.derivation.proofs.Back.{table_back}
use Rattle.derivation.proofs.Ordered.{text_ordered}

module _ {text : Bytes} {p : Path} (x : PathText text p) where
  -- a table that fits is a query
  pub fits_query : Fits (table_of p) → Query curators (entry_bytes (table_of p))
  unfolding last
  fits_query fits =
      let few = fits.few in
      let size = bytes_length (table_of p) in
      let o = text_ordered x in
      let some = o.some in
      let back : table_of p ≡ entries (entry_bytes (table_of p)) = sym (table_back p (omega arith)) in
      record {
        size = record { some = omega arith; size = record { multiple = omega arith; most = omega arith } };
        entry = λ i l.
            let within : i < length (table_of p) = subst (λ (es : Entries). i < length es) (sym back) l in
            record {
              right = subst (λ (es : Entries). EntryRight es i) back (o.right i within);
              low = subst (λ (es : Entries). height_at es i ≤ 32) back (fits.low i within);
            };
        path = rw back at o.last;
      }

  -- and a query fits
  pub query_fits : length (table_of p) ≤ 65536 → Query curators (entry_bytes (table_of p)) → Fits (table_of p)
  query_fits few q =
      let size = bytes_length (table_of p) in
      let most = q.size.size.most in
      let back : entries (entry_bytes (table_of p)) ≡ table_of p = table_back p few in
      record {
        few = omega arith;
        low = λ i l. rw back at (q.entry i (subst (λ (es : Entries). i < length es) (sym back) l)).low;
      }

-- the table of an accepted text is a query
pub text_query : {text : Bytes} {p : Path} → TextOf p text → Query curators (entry_bytes (table_of p))
text_query t = fits_query t.path t.fits
